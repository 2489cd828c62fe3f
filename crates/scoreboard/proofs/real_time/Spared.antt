-- Where some of those that haven't ended never take effect: a byte that isn't indeterminate, and that none of them may write, is what it would be.
use Rattle.std.proofs.Common.{◌≡◌, ℕ, Bool, true, false, not, List, [], ◌∷◌, ◌++◌, map, Option, inl, inr, refl, sym, ◌∙◌, ap}
use Rattle.std.specs.List.{AllByRecursion}
use Rattle.std.proofs.lemmas.Bool.{cases_Bool}
use Rattle.std.proofs.lemmas.List.Elements.{filter-append}
use Rattle.burst_plan.specs.declared.Region.{Region}
use Rattle.subordinate.specs.Faults.{Faults}
use Rattle.meaning.specs.Meaning.{Bytes}
use Rattle.scoreboard.specs.Flights.{Footprint, InFlight}
use Rattle.scoreboard.specs.Orders.{Entry, Order, has_ended}
use Rattle.scoreboard.specs.Races.{may_write}
use Rattle.scoreboard.specs.Resets.{AreUnended, left_in}
use Rattle.scoreboard.proofs.real_time.Entries.{Each, Stands, carry, place_of, run}
use Rattle.scoreboard.proofs.real_time.Places.{Place, footprint_in}
use Rattle.scoreboard.proofs.real_time.RequestActs.{AreBytes, acts, own}

-- what holds of each holds of those that are left
pub all_left : (P : Entry → Type 0) (gone : ℕ → Bool) (order : Order) → AllByRecursion P order → AllByRecursion P (left_in gone order)
all_left P gone [] all = tt
all_left P gone (entry ∷ order) all =
    elim (cases_Bool (gone entry.number)) [
      | inl is ↦ rw is (all_left P gone order all.1)
      | inr is ↦ rw is (all.0, all_left P gone order all.1)
    ]

pub left_append : (gone : ℕ → Bool) (before after : Order) → left_in gone (before ++ after) ≡ left_in gone before ++ left_in gone after
left_append gone before after = filter-append (λ entry. not (gone entry.number)) before after

-- of an order with one more
pub all_old : (P : Entry → Type 0) (before after : Order) (entry : Entry) → AllByRecursion P (before ++ entry ∷ after) → AllByRecursion P (before ++ after)
all_old P [] after entry all = all.1
all_old P (first ∷ before) after entry all = (all.0, all_old P before after entry all.1)

pub all_own : (P : Entry → Type 0) (before after : Order) (entry : Entry) → AllByRecursion P (before ++ entry ∷ after) → P entry
all_own P [] after entry all = all.0
all_own P (first ∷ before) after entry all = all_own P before after entry all.1

-- with a change each keeps its number and request, and has ended if it had
pub record KeepsEnds (change : Entry → Entry) : Type 0 where
  pub number : (entry : Entry) → (change entry).number ≡ entry.number
  pub request : (entry : Entry) → (change entry).request ≡ entry.request
  pub ends : (entry : Entry) → has_ended (change entry) ≡ false → has_ended entry ≡ false

module _ (faults : Faults) (regions : List Region) where
  -- none of those may write a byte
  abbrev pub Leave : (ℕ → Bool) → ℕ → Order → Type 0
  Leave gone x order = AllByRecursion (λ entry. gone entry.number ≡ true → may_write (own faults regions entry.request) x ≡ false) order

  abbrev pub AreSpared : (ℕ → Bool) → Bytes → Order → Type 0
  AreSpared indeterminate start order =
      (gone : ℕ → Bool) → AreUnended gone order → (x : ℕ) → indeterminate x ≡ false → Leave gone x order
      → run faults regions start (left_in gone order) x ≡ run faults regions start order x

  -- those in flight write no byte that no footprint may write
  pub leaves_unwritten : (flights : Place → Option InFlight) (gone : ℕ → Bool) (x : ℕ) → ((i : Place) → may_write (footprint_in (flights i)) x ≡ false)
      → (order : Order) (m : Bytes) → Each faults regions (Stands faults regions flights) m order → AreUnended gone order → Leave gone x order
  leaves_unwritten flights gone x none [] m each unended = tt
  leaves_unwritten flights gone x none (entry ∷ order) m each unended = (
    (λ is.
        let live = each.0.live (unended.0 is) in
        sym (ap (λ (f : Footprint). may_write f x) live.acting)
        ∙ sym (ap (λ (o : Option InFlight). may_write (footprint_in o) x) live.there) ∙ none (place_of entry)),
    leaves_unwritten flights gone x none order (carry faults regions entry.request m) each.1 unended.1,
  )

  -- bytes they leave
  pub left_small : (flights : Place → Option InFlight) (gone : ℕ → Bool) (order : Order) (m n : Bytes) → Each faults regions (Stands faults regions flights) m order → AreBytes n
      → AreBytes (run faults regions n (left_in gone order))
  left_small flights gone [] m n each small = small
  left_small flights gone (entry ∷ order) m n each small =
      elim (cases_Bool (gone entry.number)) [
        | inl is ↦ rw is (left_small flights gone order (carry faults regions entry.request m) n each.1 small)
        | inr is ↦ rw is (left_small flights gone order (carry faults regions entry.request m) (carry faults regions entry.request n) each.1
            ((acts faults regions entry.request each.0.well).small n small))
      ]

  -- ---- where replies go on

  module _ (change : Entry → Entry) (keeps : KeepsEnds change) (gone : ℕ → Bool) where
    run_changed : (order : Order) (m : Bytes) → run faults regions m (map change order) ≡ run faults regions m order
    run_changed [] m = refl
    run_changed (entry ∷ order) m = rw (keeps.request entry) (run_changed order (carry faults regions entry.request m))

    left_changed : (order : Order) (m : Bytes) → run faults regions m (left_in gone (map change order)) ≡ run faults regions m (left_in gone order)
    left_changed [] m = refl
    left_changed (entry ∷ order) m =
        elim (cases_Bool (gone entry.number)) [
          | inl is ↦ rw (keeps.number entry, is) (left_changed order m)
          | inr is ↦ rw (keeps.number entry, is, keeps.request entry) (left_changed order (carry faults regions entry.request m))
        ]

    unended_before : (order : Order) → AreUnended gone (map change order) → AreUnended gone order
    unended_before [] unended = tt
    unended_before (entry ∷ order) unended = (λ is. keeps.ends entry (unended.0 (ap gone (keeps.number entry) ∙ is)), unended_before order unended.1)

    leave_before : (x : ℕ) (order : Order) → Leave gone x (map change order) → Leave gone x order
    leave_before x [] leave = tt
    leave_before x (entry ∷ order) leave = (
      (λ is. sym (ap (λ q. may_write (own faults regions q) x) (keeps.request entry)) ∙ leave.0 (ap gone (keeps.number entry) ∙ is)),
      leave_before x order leave.1,
    )

  pub spared_changed : (change : Entry → Entry) (indeterminate : ℕ → Bool) (start : Bytes) (order : Order) → KeepsEnds change
      → AreSpared indeterminate start order → AreSpared indeterminate start (map change order)
  spared_changed change indeterminate start order keeps spared gone unended x certain leave =
      ap (λ (f : Bytes). f x) (left_changed change keeps gone order start)
      ∙ spared gone (unended_before change keeps gone order unended) x certain (leave_before change keeps gone x order leave)
      ∙ sym (ap (λ (f : Bytes). f x) (run_changed change keeps gone order start))
