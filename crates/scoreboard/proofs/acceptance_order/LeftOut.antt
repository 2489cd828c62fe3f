-- Requests carried out in order, of which some are left out: where none that is carried out reads or writes what one ahead of it writes that is left out, no byte
-- changes but those that these may write.
use Rattle.std.proofs.Common.{◌≡◌, ℕ, Bool, true, false, ◌||◌, List, [], ◌∷◌, map, refl, sym, ◌∙◌, arith}
use Rattle.std.specs.List.{AllByRecursion}
use Rattle.tl_messages.specs.Requests.{WholeRequest}
use Rattle.meaning.specs.Meaning.{Bytes, bytes_after_all, meaning}
use Rattle.setups.specs.Setups.{SetupLists, faults_of}
use Rattle.scoreboard.specs.Boards.{Beginning}
use Rattle.scoreboard.specs.Flights.{Footprint}
use Rattle.scoreboard.specs.Observed.{Observed}
use Rattle.scoreboard.specs.Races.{covers, may_write}
use Rattle.scoreboard.specs.Resets.{IsApartFrom, TookEffectInOrder, that_took_effect, touches}
use Rattle.scoreboard.specs.Right.{acts}
use Rattle.scoreboard.proofs.acceptance_order.KnownBytes.{AgreeWhereKnown}
use Rattle.scoreboard.proofs.real_time.RequestActs.{Acts, IsWell, gives}
use Rattle.scoreboard.proofs.real_time.RequestActs as requests

-- ---- one request

module _ (setup : SetupLists) (q : WholeRequest) (well : IsWell q) (lost : ℕ → Bool) (m n : Bytes) (agree : AgreeWhereKnown lost m n) where
  abbrev after : Bytes → Bytes
  after bytes = (meaning (faults_of setup) setup.regions q bytes).after

  abbrev mine : Footprint
  mine = acts setup (λ y. false) q

  does : Acts after mine q.bytes
  does = requests.acts (faults_of setup) setup.regions q well

  -- what it gives it may write
  given_written : (x : ℕ) → gives mine q.bytes x ≡ true → may_write mine x ≡ true
  given_written x given = grind (arith, given, does.within x)

  -- carried out by both, it finds what it reads the same in both
  kept_agrees : ((x : ℕ) → lost x ≡ true → touches mine x ≡ false) → AgreeWhereKnown lost (after m) (after n)
  kept_agrees apart x there = by_given (gives mine q.bytes x) refl
    where
      found : mine.reads ≡ true → (y : ℕ) → covers mine y ≡ true → n y ≡ m y
      found reads y covered = agree y (grind (arith, reads, covered, apart y))

      by_given : (b : Bool) → gives mine q.bytes x ≡ b → after n x ≡ after m x
      by_given false is = does.keeps n x is ∙ agree x there ∙ sym (does.keeps m x is)
      by_given true is = does.same n m x is found

  -- left out, it makes a difference where it may write
  lost_agrees : AgreeWhereKnown (λ x. lost x || may_write mine x) (after m) n
  lost_agrees x there =
      let none : gives mine q.bytes x ≡ false = grind (arith, there, given_written x) in
      agree x (grind (arith, there)) ∙ sym (does.keeps m x none)

-- ---- all of them

-- what may be written by those that are left out
abbrev pub lost_after : SetupLists → (ℕ → Bool) → List (WholeRequest × Bool) → ℕ → Bool
lost_after setup lost [] = lost
lost_after setup lost ((q, true) ∷ later) = lost_after setup lost later
lost_after setup lost ((q, false) ∷ later) = lost_after setup (λ x. lost x || may_write (acts setup (λ y. false) q) x) later

-- those that are carried out read and write nothing of that
abbrev pub AreApart : SetupLists → (ℕ → Bool) → List (WholeRequest × Bool) → Type 0
AreApart setup lost requests = AllByRecursion (λ (other : WholeRequest × Bool). other.1 ≡ true → (x : ℕ) → lost x ≡ true → touches (acts setup (λ y. false) other.0) x ≡ false) requests

apart_with : (setup : SetupLists) (lost : ℕ → Bool) (q : WholeRequest) (later : List (WholeRequest × Bool)) → AreApart setup lost later
    → AllByRecursion (λ other. other.1 ≡ true → IsApartFrom setup q other.0) later → AreApart setup (λ x. lost x || may_write (acts setup (λ y. false) q) x) later
apart_with setup lost q [] old own = tt
apart_with setup lost q (other ∷ later) (one, more) (here, rest) =
    ((λ took x is. grind (arith, is, one took x, here took x)), apart_with setup lost q later more rest)

-- of nothing they do
pub none_apart : (setup : SetupLists) (requests : List (WholeRequest × Bool)) → AreApart setup (λ x. false) requests
none_apart setup [] = tt
none_apart setup (first ∷ requests) = ((λ took x is. absurd (cc (is))), none_apart setup requests)

abbrev pub all_of : List (WholeRequest × Bool) → List WholeRequest
all_of requests = map (λ entry. entry.0) requests

pub left_out : (beginning : Beginning) (observed : Observed) (lost : ℕ → Bool) (chosen : List (WholeRequest × Bool)) (m n : Bytes) → AllByRecursion IsWell (all_of chosen)
    → AreApart beginning.lists lost chosen → TookEffectInOrder beginning observed chosen → AgreeWhereKnown lost m n
    → AgreeWhereKnown (lost_after beginning.lists lost chosen)
    (bytes_after_all (faults_of beginning.lists) beginning.lists.regions (all_of chosen) m)
    (bytes_after_all (faults_of beginning.lists) beginning.lists.regions (that_took_effect chosen) n)
left_out beginning observed lost [] m n well apart took agree = agree
left_out beginning observed lost ((q, true) ∷ later) m n (one, more) (here, rest) took agree =
    left_out beginning observed lost later _ _ more rest took (kept_agrees beginning.lists q one lost m n agree (here refl))
left_out beginning observed lost ((q, false) ∷ later) m n (one, more) (here, rest) took agree =
    left_out beginning observed (λ x. lost x || may_write (acts beginning.lists (λ y. false) q) x) later _ _ more (apart_with beginning.lists lost q later rest took.1) took.2 (lost_agrees beginning.lists q one lost m n agree)
