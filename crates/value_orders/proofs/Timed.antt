-- The accesses of a byte are timed: each begins at a number of its own, and ends no earlier.
use Rattle.std.proofs.Common.{◌≡◌, ℕ, ◌==◌, ◌<◌, ◌≤◌, ◌+◌, false, List, [], ◌∷◌, map, Some, ⊎_elim, refl, sym, ◌∙◌, ap, subst, arith}
use Rattle.std.specs.List.{AllByRecursion}
use Rattle.std.proofs.lemmas.Bool.{ne_eqb}
use Rattle.byte_orders.specs.Accesses.{Access, AreDistinct, AreTimed, HasBegun, IsOneOf}
use Rattle.byte_orders.proofs.Members.{from_map, in_map}
use Rattle.setups.specs.Setups.{SetupLists}
use Rattle.scoreboard.specs.declared.Errors.{Errors}
use Rattle.value_orders.specs.Bytes.{access_of, accesses_from, accesses_in, untold}
use Rattle.value_orders.specs.Histories.{History, Past, all_past, begun_by}
use Rattle.value_orders.specs.RunOrders.{past_of}
use Rattle.value_orders.proofs.AccessOrders.{is_of, is_there}
use Rattle.value_orders.proofs.Entries.{EndsFrom}

module _ (setup : SetupLists) (errors : Errors) (x : ℕ) where
  ends_later : (first : ℕ) (pasts : List Past) (a : Access) (time : ℕ) → EndsFrom first pasts → IsOneOf a (accesses_from setup errors x first pasts)
      → a.ended ≡ Some time → a.begun ≤ time
  ends_later first [] a time ends at is = absurd at
  ends_later first (past ∷ pasts) a time ends at is =
      ⊎_elim (λ same. subst (λ (b : Access). b.begun ≤ time) (sym same) (ends.0 time (sym (ap (λ (b : Access). b.ended) same) ∙ is)))
      (λ later. ends_later (first + 1) pasts a time ends.1 later is) at

  all_others : (number first : ℕ) (pasts : List Past) → number < first → AllByRecursion (λ b. (b.begun == number) ≡ false) (accesses_from setup errors x first pasts)
  all_others number first [] later = tt
  all_others number first (past ∷ pasts) later = (ne_eqb first number (λ same. omega (arith, later, same)), all_others number (first + 1) pasts (omega (arith, later)))

  apart : (first : ℕ) (pasts : List Past) → AreDistinct (accesses_from setup errors x first pasts)
  apart first [] = tt
  apart first (past ∷ pasts) = (all_others first (first + 1) pasts (omega (arith)), apart (first + 1) pasts)

  pub timed_in : (history : History) → EndsFrom 1 (all_past history) → AreTimed (accesses_in setup errors history x)
  timed_in history ends =
      record {
        after_start = λ a at.
            let own = is_of setup errors history x a at in subst (λ (b : Access). 0 < b.begun) (sym own.is) own.from_one;
        ends_later = λ a time at is. ends_later 1 (all_past history) a time ends at is;
        apart = apart 1 (all_past history);
      }

  pub begun_in : (history : History) (number : ℕ) → 0 < number → number ≤ begun_by history → HasBegun number (accesses_in setup errors history x)
  begun_in history number from_one some = (access_of setup errors x number (past_of history number), is_there setup errors history x number from_one some, refl)

-- ---- what was told plays no part

untold_others : (number : ℕ) (accesses : List Access) → AllByRecursion (λ b. (b.begun == number) ≡ false) accesses
    → AllByRecursion (λ b. (b.begun == number) ≡ false) (map untold accesses)
untold_others number [] all = tt
untold_others number (a ∷ accesses) all = (all.0, untold_others number accesses all.1)

untold_apart : (accesses : List Access) → AreDistinct accesses → AreDistinct (map untold accesses)
untold_apart [] distinct = tt
untold_apart (a ∷ accesses) distinct = (untold_others a.begun accesses distinct.0, untold_apart accesses distinct.1)

pub untold_timed : (accesses : List Access) → AreTimed accesses → AreTimed (map untold accesses)
untold_timed accesses timed =
    record {
      after_start = λ a at.
          let found = from_map untold a accesses at in
          subst (λ (b : Access). 0 < b.begun) (sym found.holds) (timed.after_start found.one found.there);
      ends_later = λ a time at is.
          let found = from_map untold a accesses at in
          subst (λ (b : Access). b.begun ≤ time) (sym found.holds)
          (timed.ends_later found.one time found.there (sym (ap (λ (b : Access). b.ended) found.holds) ∙ is));
      apart = untold_apart accesses timed.apart;
    }

pub untold_begun : (number : ℕ) (accesses : List Access) → HasBegun number accesses → HasBegun number (map untold accesses)
untold_begun number accesses begun = (untold begun.0, in_map untold begun.0 accesses begun.1, begun.2)
