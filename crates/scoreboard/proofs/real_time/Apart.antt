-- The requests in flight at their places, as one joins them: no determined byte of one is one that another may write; and an atomic is indeterminate as
-- a whole, or determined as a whole.
use Rattle.std.proofs.Common.{◌≡◌, ℕ, ◌+◌, ◌-◌, ◌<◌, ◌^◌, Bool, true, false, ◌&&◌, not, List, Option, ◌⊎◌, inl, inr, refl, sym, ◌∙◌, ap, subst, arith}
use Rattle.std.specs.Prelude.{is_some}
use Rattle.std.specs.List.{list_all, list_any, range_with_len}
use Rattle.std.proofs.lemmas.Bool.{and_from}
use Rattle.std.proofs.lemmas.Bool.Decides.{nat_tests}
use Rattle.bus_words.specs.Lanes.{given_at}
use Rattle.bus_words.proofs.Ranges.{all_pass, passes_at}
use Rattle.scoreboard.specs.Flights.{Footprint, no_footprint}
use Rattle.scoreboard.specs.Races.{after_given, after_joining, beside, beside_dependent, covers, depends_on, is_fixed, may_write, meets}
use Rattle.scoreboard.proofs.real_time.Places.{Place, cases_place}

-- no determined byte of one is one that another may write
pub record AreApart (footprints : Place → Footprint) : Type 0 where
  pub apart : (i j : Place) (x : ℕ) → (i ≡ j → ⊥) → (footprints i).determined x ≡ true → may_write (footprints j) x ≡ false

-- all bytes of a request are indeterminate
abbrev pub IsDoubtful : (ℕ → Bool) → Footprint → Type 0
IsDoubtful indeterminate footprint = (x : ℕ) → covers footprint x ≡ true → indeterminate x ≡ true

-- all bytes of a request are determined, and none is indeterminate
abbrev pub IsSettled : (ℕ → Bool) → Footprint → Type 0
IsSettled indeterminate footprint = (x : ℕ) → covers footprint x ≡ true → (footprint.determined x ≡ true) × (indeterminate x ≡ false)

-- an atomic is indeterminate, or determined
abbrev pub IsEither : (ℕ → Bool) → Footprint → Type 0
IsEither indeterminate footprint = footprint.reads ≡ true → footprint.writes ≡ true → IsDoubtful indeterminate footprint ⊎ IsSettled indeterminate footprint

pub record AreEither (indeterminate : ℕ → Bool) (footprints : Place → Footprint) : Type 0 where
  pub either : (i : Place) → IsEither indeterminate (footprints i)

-- a list has the footprints at all places, and no others: what none of the list does none at a place does, and the other way round
pub record AreAll (footprints : Place → Footprint) (all : List Footprint) : Type 0 where
  pub each : (test : Footprint → Bool) → test no_footprint ≡ false → list_any test all ≡ false → (i : Place) → test (footprints i) ≡ false
  pub none : (test : Footprint → Bool) → ((i : Place) → test (footprints i) ≡ false) → list_any test all ≡ false

-- ---- a request that joins

-- it may write nothing that is determined of another, and knows what it reads and is determined; an atomic gives all its bytes
pub record IsJoining (indeterminate : ℕ → Bool) (footprints : Place → Footprint) (footprint : Footprint) (bytes : List (Option ℕ)) : Type 0 where
  pub alone : (i : Place) (x : ℕ) → footprint.determined x ≡ true → may_write (footprints i) x ≡ false
  pub known : (x : ℕ) → footprint.reads ≡ true → footprint.determined x ≡ true → indeterminate x ≡ false
  pub full : footprint.reads ≡ true → footprint.writes ≡ true → (x : ℕ) → covers footprint x ≡ true → is_some (given_at bytes footprint.address x) ≡ true
  pub within : (x : ℕ) → is_some (given_at bytes footprint.address x) ≡ true → covers footprint x ≡ true

-- the requests at their places when it has joined them at one of its own
pub record AreJoined (footprints joined : Place → Footprint) (place : Place) (footprint : Footprint) : Type 0 where
  pub own : joined place ≡ footprint
  pub others : (i : Place) → (i ≡ place → ⊥) → joined i ≡ beside (footprints i) footprint

pub joined_apart : (footprints joined : Place → Footprint) (place : Place) (footprint : Footprint) (indeterminate : ℕ → Bool) (bytes : List (Option ℕ))
    → AreJoined footprints joined place footprint → AreApart footprints → IsJoining indeterminate footprints footprint bytes → AreApart joined
joined_apart footprints joined place footprint indeterminate bytes with_it old joining = grind (arith, with_it, old, joining)

-- ---- what is indeterminate then

-- what those write that depend on it is indeterminate
beside_doubt : (indeterminate : ℕ → Bool) (footprints : Place → Footprint) (all : List Footprint) (footprint : Footprint) (i : Place) (x : ℕ) → AreAll footprints all
    → depends_on (footprints i) footprint ≡ true → covers (footprints i) x ≡ true → beside_dependent indeterminate footprint all x ≡ true
beside_doubt indeterminate footprints all footprint i x are depends covered = grind (arith, are, depends, covered)

-- a byte that nobody writes who depends on it isn't
not_beside : (indeterminate : ℕ → Bool) (footprints : Place → Footprint) (all : List Footprint) (footprint : Footprint) (x : ℕ) → AreAll footprints all
    → indeterminate x ≡ false → ((i : Place) → (depends_on (footprints i) footprint && covers (footprints i) x) ≡ false)
    → beside_dependent indeterminate footprint all x ≡ false
not_beside indeterminate footprints all footprint x are before none = rw before (are.none (λ r. depends_on r footprint && covers r x) none)

-- one that depends on another writes
depends_writes : (footprint other : Footprint) (x : ℕ) → may_write footprint x ≡ false → (depends_on footprint other && covers footprint x) ≡ false
depends_writes footprint other x none = grind (arith, none)

-- two that share a byte meet
sharing_meets : (footprint other : Footprint) (x : ℕ) → covers footprint x ≡ true → covers other x ≡ true → meets footprint other ≡ true
sharing_meets footprint other x here there = grind (arith, nat_tests, here, there)

-- ---- either indeterminate or determined, still

-- of one that reads and is fixed all bytes are determined
pub fixed_determined : (footprint : Footprint) (x : ℕ) → is_fixed footprint ≡ true → footprint.reads ≡ true → covers footprint x ≡ true → footprint.determined x ≡ true
fixed_determined footprint x fixed reads covered =
    let all : list_all (λ i. footprint.determined (footprint.address + i)) (range_with_len 0 (2 ^ footprint.size)) ≡ true = grind (arith, fixed, reads) in
    let place : x - footprint.address < 2 ^ footprint.size = grind (arith, nat_tests, covered) in
    let back : footprint.address + (0 + (x - footprint.address)) ≡ x = grind (arith, nat_tests, covered) in
    sym (ap footprint.determined back)
    ∙ passes_at (λ i. footprint.determined (footprint.address + i)) 0 (2 ^ footprint.size) (x - footprint.address) all place

-- a request of which all bytes are determined is fixed
pub determined_fixed : (footprint : Footprint) → ((x : ℕ) → covers footprint x ≡ true → footprint.determined x ≡ true) → is_fixed footprint ≡ true
determined_fixed footprint each =
    let all = all_pass (λ i. footprint.determined (footprint.address + i)) 0 (2 ^ footprint.size)
    (λ i below. each (footprint.address + (0 + i)) (grind (arith, nat_tests, below))) in
    grind (arith, all)

module _ (indeterminate : ℕ → Bool) (footprints : Place → Footprint) (all : List Footprint) (footprint : Footprint) (bytes : List (Option ℕ))
    (are : AreAll footprints all) (joining : IsJoining indeterminate footprints footprint bytes) where
  abbrev now_indeterminate : ℕ → Bool
  now_indeterminate = after_joining indeterminate all footprint bytes

  abbrev gives : ℕ → Bool
  gives x = footprint.writes && is_some (given_at bytes footprint.address x)

  gives_writes : (x : ℕ) → gives x ≡ true → may_write footprint x ≡ true
  gives_writes x given = grind (arith, given, joining.within x)

  stays_indeterminate : (x : ℕ) → after_given indeterminate footprint bytes x ≡ true → now_indeterminate x ≡ true
  stays_indeterminate x is = rw is refl

  -- the one that joins
  own_either : IsEither now_indeterminate footprint
  own_either reads writes = by_fixed (is_fixed footprint) refl
    where
      given : (x : ℕ) → covers footprint x ≡ true → gives x ≡ true
      given x covered = and_from footprint.writes (is_some (given_at bytes footprint.address x)) writes (joining.full reads writes x covered)

      by_fixed : (fixed : Bool) → is_fixed footprint ≡ fixed → IsDoubtful now_indeterminate footprint ⊎ IsSettled now_indeterminate footprint
      by_fixed false is = grind (arith, is)
      by_fixed true is =
          inr (λ x covered.
          let determined = fixed_determined footprint x is reads covered in
          let both : not (footprint.determined x && is_fixed footprint) ≡ false = rw (determined, is) refl in (
            determined,
            not_beside (after_given indeterminate footprint bytes) footprints all footprint x are (rw (given x covered) both)
                (λ i. depends_writes (footprints i) footprint x (joining.alone i x determined)),
          ))

  -- one that was in flight
  other_either : (apart : AreApart footprints) (i : Place) → IsEither indeterminate (footprints i) → IsEither now_indeterminate (beside (footprints i) footprint)
  other_either apart i old reads writes = by_old (old reads writes)
    where
      -- what it writes isn't determined of the one that joins, so it stays indeterminate
      doubted : (x : ℕ) → covers (footprints i) x ≡ true → indeterminate x ≡ true → after_given indeterminate footprint bytes x ≡ true
      doubted x covered before = grind (arith, before, writes, covered, joining.alone i x)

      by_old : IsDoubtful indeterminate (footprints i) ⊎ IsSettled indeterminate (footprints i) → IsDoubtful now_indeterminate (beside (footprints i) footprint)
          ⊎ IsSettled now_indeterminate (beside (footprints i) footprint)
      by_old (inl doubtful) = inl (λ x covered. stays_indeterminate x (doubted x covered (doubtful x covered)))
      by_old (inr settled) = by_depends (depends_on (footprints i) footprint) refl
        where
          by_depends : (d : Bool) → depends_on (footprints i) footprint ≡ d → IsDoubtful now_indeterminate (beside (footprints i) footprint)
              ⊎ IsSettled now_indeterminate (beside (footprints i) footprint)
          by_depends true depends = inl (λ x covered. beside_doubt (after_given indeterminate footprint bytes) footprints all footprint i x are depends covered)
          by_depends false depends =
              inr (λ x covered. (
                grind (arith, (settled x covered).0, unwritten x covered),
                undoubted x covered,
              ))
            where
              unwritten : (x : ℕ) → covers (footprints i) x ≡ true → may_write footprint x ≡ false
              unwritten x covered = grind (arith, depends, reads, writes, sharing_meets (footprints i) footprint x covered)

              none_given : (x : ℕ) → covers (footprints i) x ≡ true → gives x ≡ false
              none_given x covered = grind (arith, unwritten x covered, gives_writes x)

              nobody : (x : ℕ) → covers (footprints i) x ≡ true → (j : Place) → (depends_on (footprints j) footprint && covers (footprints j) x) ≡ false
              nobody x covered j = grind (arith, covered)

              undoubted : (x : ℕ) → covers (footprints i) x ≡ true → now_indeterminate x ≡ false
              undoubted x covered =
                  not_beside (after_given indeterminate footprint bytes) footprints all footprint x are
                  (rw (none_given x covered) (settled x covered).1) (nobody x covered)

  pub joined_either : (joined : Place → Footprint) (place : Place) → AreJoined footprints joined place footprint → AreApart footprints
      → AreEither indeterminate footprints → AreEither now_indeterminate joined
  joined_either joined place with_it apart old =
      record {
        either = λ i.
            elim (cases_place i place) [
              | inl same ↦ subst (IsEither now_indeterminate) (sym (ap joined same ∙ with_it.own)) own_either
              | inr other ↦ subst (IsEither now_indeterminate) (sym (with_it.others i other)) (other_either apart i (old.either i))
            ];
      }
