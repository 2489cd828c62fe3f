-- A port by a monitor that lets twice as many bursts be outstanding: what its answer says by the port's own limits, and what is open then.
use Rattle.std.proofs.Common.{◌≡◌, ℕ, Bool, true, false, [], ◌∷◌, length, Option, None, Some, if◌then◌else◌, arith, refl}
use Rattle.std.specs.Prelude.{Err, MatchOption, Ok, Result, filter}
use Rattle.bus_words.specs.Tables.{first_broken}
use Rattle.axi_beats.specs.declared.WBeat.{WBeat}
use Rattle.axi_checker.specs.Forced.{forced}
use Rattle.axi_checker.specs.OpenBursts.{OpenBursts, open_after, read_of_id, write_of_id}
use Rattle.axi_checker.specs.declared.AxiBeat.{AxiBeat}
use Rattle.axi_checker.specs.declared.AxiBeat.TheVariants.{Ar as OnAr, Aw as OnAw, B as OnB, R as OnR, W as OnW}
use Rattle.axi_checker.specs.declared.AxiRule.{AxiRule}
use Rattle.axi_checker.specs.declared.AxiRule.TheVariants.{BurstKind, Cross4K, Depth, IdRange, Size}
use Rattle.axi_checker.specs.Rules.{AxiPortLimits, BurstAddress, address_of_read, address_of_write, address_rules, axi_fault}
use Rattle.scoreboard.specs.AxiPorts.{bursts_after, doubled, tells_no_write, wrong_axi}
use Rattle.scoreboard.specs.InsideBoards.{is_full}

-- ---- an address

-- the first of the rules on addresses that is broken, by which are
abbrev told : Bool → Bool → Bool → Bool → Bool → Option AxiRule
told size kind page id full = first_broken ((size, Size) ∷ (kind, BurstKind) ∷ (page, Cross4K) ∷ (id, IdRange) ∷ (full, Depth) ∷ [])

-- with one broken
same_rule : (size kind page id twice full : Bool) (rule : AxiRule) → (twice ≡ true → full ≡ true) → told size kind page id twice ≡ Some rule → told size kind page id full ≡ Some rule
same_rule true kind page id twice full rule more is = is
same_rule false true page id twice full rule more is = is
same_rule false false true id twice full rule more is = is
same_rule false false false true twice full rule more is = is
same_rule false false false false true full rule more is = rw (more refl) is
same_rule false false false false false full rule more is = absurd (cc (is))

module _ (limits : AxiPortLimits) (address : BurstAddress) (count : ℕ) where
  address_breaks : (rule : AxiRule) → first_broken (address_rules (doubled limits) address count) ≡ Some rule → first_broken (address_rules limits address count) ≡ Some rule
  address_breaks rule is = grind (arith, is)

-- ---- any beat

module _ (limits : AxiPortLimits) (open_bursts : OpenBursts) where
  -- one that breaks no rule by the limits of the monitor
  pub passes : (beat : AxiBeat) → axi_fault (doubled limits) open_bursts beat ≡ None → axi_fault limits open_bursts beat ≡ (if is_full limits open_bursts beat then Some Depth else None)
  passes beat none = grind (arith, none)

  -- one that breaks a rule by these breaks it by the port's own
  pub breaks : (beat : AxiBeat) (rule : AxiRule) → axi_fault (doubled limits) open_bursts beat ≡ Some rule → axi_fault limits open_bursts beat ≡ Some rule
  breaks (OnAw aw) rule is = address_breaks limits (address_of_write aw) (length (filter (write_of_id aw.id) open_bursts.writes)) rule is
  breaks (OnW w) rule is = is
  breaks (OnB b) rule is = is
  breaks (OnAr ar) rule is = address_breaks limits (address_of_read ar) (length (filter (read_of_id ar.id) open_bursts.reads)) rule is
  breaks (OnR r) rule is = is

  -- and opens its burst all the same, if it is of one ID too many
  opened : (beat : AxiBeat) → axi_fault (doubled limits) open_bursts beat ≡ None → is_full limits open_bursts beat ≡ true → forced (doubled limits) open_bursts beat ≡ open_after open_bursts beat
  opened beat none full = grind (arith, none, full)

  pub open_broken : (beat : AxiBeat) (rule : AxiRule) → axi_fault (doubled limits) open_bursts beat ≡ Some rule → bursts_after limits open_bursts beat (axi_fault limits open_bursts beat) ≡ forced (doubled limits) open_bursts beat
  open_broken beat rule is = rw (breaks beat rule is) refl

-- ---- a W beat without a write

-- changes no burst
pub unchanged : (limits : AxiPortLimits) (open_bursts : OpenBursts) (w : WBeat) → tells_no_write (wrong_axi (axi_fault limits open_bursts (OnW w))) ≡ true
    → bursts_after limits open_bursts (OnW w) (axi_fault limits open_bursts (OnW w)) ≡ open_bursts
unchanged limits open_bursts w none = grind (arith, none)

-- ---- what a monitor answers

pub err_told : (fault : Option AxiRule) (answer : Result (Unit {0}) AxiRule) (rule : AxiRule) → MatchOption fault (answer ≡ Ok tt) (λ broken. answer ≡ Err broken) → answer ≡ Err rule → fault ≡ Some rule
err_told fault answer rule told is = grind (arith, told, is)
