-- Bytes that are known are the same whatever the memory began with: a request changes those that it gives, and what it gives depends on no byte, or it is an
-- atomic that reads known bytes alone.
use Rattle.std.proofs.Common.{◌≡◌, ℕ, Bool, true, false, not, List, [], ◌∷◌, length, zip, refl, sym, ◌∙◌, subst, arith}
use Rattle.std.specs.List.{AllByRecursion}
use Rattle.std.proofs.lemmas.Bool.Decides.{nat_tests}
use Rattle.tl_messages.specs.Requests.{HeldMessage, WholeRequest, message_of}
use Rattle.tl_messages.specs.declared.ABeat.{ABeat}
use Rattle.tl_checker.specs.RequestRules.{Spells, TlPortLimits}
use Rattle.tl_checker.proofs.RequestLaws.{spelled_sound}
use Rattle.config.specs.Configs.{port_of}
use Rattle.meaning.specs.InTurn.{AcceptedMessage, IsSpelled}
use Rattle.meaning.specs.Meaning.{Bytes, bytes_after_all, meaning}
use Rattle.setups.specs.Setups.{SetupLists, faults_of}
use Rattle.scoreboard.specs.Flights.{Footprint}
use Rattle.scoreboard.specs.Races.{covers, is_fixed}
use Rattle.scoreboard.specs.Right.{acts, unknown_after, unknown_after_all}
use Rattle.scoreboard.proofs.real_time.Apart.{fixed_determined}
use Rattle.scoreboard.proofs.real_time.CheckedRequests.{sound_well}
use Rattle.scoreboard.proofs.real_time.RequestActs.{Acts, IsWell, gives, own}
use Rattle.scoreboard.proofs.real_time.RequestActs as requests

-- ---- requests that were spelled

spelled_well : (limits : TlPortLimits) (beats : List ABeat) (q : WholeRequest) → Spells limits beats q → IsWell q
spelled_well limits [] q spells = absurd spells
spelled_well limits (first ∷ rest) q spells =
    let message : HeldMessage = message_of limits.client first rest in
    subst IsWell (sym spells.3)
    (sound_well limits message (spelled_sound limits message (first ∷ rest, record { spells = (spells.0, spells.1, spells.2, refl); held = refl })))

pub all_well : (setup : SetupLists) (messages : List AcceptedMessage) (qs : List WholeRequest) → length qs ≡ length messages → AllByRecursion (IsSpelled setup) (zip messages qs) → AllByRecursion IsWell qs
all_well setup [] [] same all = tt
all_well setup [] (q ∷ qs) same all = absurd (omega (arith, same))
all_well setup (message ∷ messages) [] same all = tt
all_well setup (message ∷ messages) (q ∷ qs) same (one, more) =
    (spelled_well (port_of setup.config message.client) message.beats q one.spells, all_well setup messages qs (omega (arith, same)) more)

-- ---- one request

-- two memories have the same bytes where these are known
abbrev pub AgreeWhereKnown : (ℕ → Bool) → Bytes → Bytes → Type 0
AgreeWhereKnown unknown m n = (x : ℕ) → unknown x ≡ false → n x ≡ m x

module _ (setup : SetupLists) (unknown : ℕ → Bool) (q : WholeRequest) (well : IsWell q) (m n : Bytes) (agree : AgreeWhereKnown unknown m n) where
  abbrev pub after : Bytes → Bytes
  after bytes = (meaning (faults_of setup) setup.regions q bytes).after

  -- what it reads and writes, where nobody fails to know a byte
  abbrev mine : Footprint
  mine = own (faults_of setup) setup.regions q

  does : Acts after mine q.bytes
  does = requests.acts (faults_of setup) setup.regions q well

  -- what a request reads is known whose bytes are known after it
  read_known : is_fixed (acts setup unknown q) ≡ true → mine.reads ≡ true → (y : ℕ) → covers mine y ≡ true → unknown y ≡ false
  read_known fixed reads y covered =
      let determined = fixed_determined (acts setup unknown q) y fixed reads covered in
      grind (arith, nat_tests, determined, reads)

  pub agree_after : AgreeWhereKnown (unknown_after setup unknown q) (after m) (after n)
  agree_after x known = by_given (gives mine q.bytes x) refl
    where
      by_given : (b : Bool) → gives mine q.bytes x ≡ b → after n x ≡ after m x
      by_given false is =
          let there : unknown x ≡ false = rw is at known in
          does.keeps n x is ∙ agree x there ∙ sym (does.keeps m x is)
      by_given true is =
          let settled : not (is_fixed (acts setup unknown q)) ≡ false = rw is at known in
          let fixed : is_fixed (acts setup unknown q) ≡ true = grind (arith, settled) in
          does.same n m x is (λ reads y covered. agree y (read_known fixed reads y covered))

-- ---- all of them

pub known_after_all : (setup : SetupLists) (unknown : ℕ → Bool) (qs : List WholeRequest) (m n : Bytes) → AllByRecursion IsWell qs → AgreeWhereKnown unknown m n
    → AgreeWhereKnown (unknown_after_all setup unknown qs) (bytes_after_all (faults_of setup) setup.regions qs m) (bytes_after_all (faults_of setup) setup.regions qs n)
known_after_all setup unknown [] m n well agree = agree
known_after_all setup unknown (q ∷ qs) m n (one, more) agree =
    known_after_all setup (unknown_after setup unknown q) qs (after setup unknown q one m n agree m) (after setup unknown q one m n agree n) more (agree_after setup unknown q one m n agree)
