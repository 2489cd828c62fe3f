-- A change of one request keeps the laws of the table, where what it becomes keeps them.
use Rattle.std.proofs.Common.{◌≡◌, ℕ, ◌+◌, ◌==◌, ◌<◌, ◌≤◌, Bool, true, false, None, List, [], ◌∷◌, map, length, Some, refl, ap, sym, ◌∙◌, arith, inl, inr, ◌⊎◌}
use Rattle.std.specs.List.{AllByRecursion, filter, find, list_any}
use Rattle.bus_words.specs.Places.{change_first, without_first}
use Rattle.bus_words.proofs.PlaceChanges.{all-change_first, all-map, all-without_first, length-filter-without_first}
use Rattle.flight_table.specs.Laws.{AreRising, IsSoundRequest, IsSoundTable}
use Rattle.flight_table.specs.LiveRequests.{LiveRequest}
use Rattle.flight_table.specs.Order.{holds_back, holds_id, is_held}
use Rattle.flight_table.specs.Tables.{FlightTable, change_number, has_number, has_source, is_of, without_number}
use Rattle.flight_table.specs.declared.TableLimits.{TableLimits}
use Rattle.std.proofs.lemmas.Bool.Decides.{nat_tests}

-- ---- tests on the entries, where one is replaced

abbrev put_first : {X : Type 0} → (X → Bool) → X → List X → List X
put_first p new xs = change_first p (λ o. new) xs

any-put : {X : Type 0} (q p : X → Bool) (old new : X) (xs : List X) → find p xs ≡ Some old → (q new ≡ true → q old ≡ true) → list_any q (put_first p new xs) ≡ true → list_any q xs ≡ true
any-put q p old new [] found so any = absurd (cc (found))
any-put q p old new (x ∷ xs) found so any = grind (arith, so, λ (later : find p xs ≡ Some old). any-put q p old new xs later so)

-- as many pass, where the new one passes as the old one did
count-put-same : {X : Type 0} (q p : X → Bool) (old new : X) (xs : List X) → find p xs ≡ Some old → q new ≡ q old → length (filter q (put_first p new xs)) ≡ length (filter q xs)
count-put-same q p old new [] found same = refl
count-put-same q p old new (x ∷ xs) found same = grind (arith, same, λ (later : find p xs ≡ Some old). count-put-same q p old new xs later same)

-- at most one more passes, and none more where the new one doesn't
count-put : {X : Type 0} (q p : X → Bool) (new : X) (n : ℕ) (xs : List X) → ((ys : List X) → length (filter q (new ∷ ys)) ≤ length (filter q ys) + n) → length (filter q (put_first p new xs)) ≤ length (filter q xs) + n
count-put q p new n [] more = omega arith
count-put q p new n (x ∷ xs) more = grind (arith, more xs, count-put q p new n xs more)

one_more : {X : Type 0} (q : X → Bool) (new : X) (ys : List X) → length (filter q (new ∷ ys)) ≤ length (filter q ys) + 1
one_more q new ys = grind arith

none_more : {X : Type 0} (q : X → Bool) (new : X) → q new ≡ false → (ys : List X) → length (filter q (new ∷ ys)) ≤ length (filter q ys) + 0
none_more q new fails ys = grind (arith, fails)

pub count-none : {X : Type 0} (q : X → Bool) (xs : List X) → list_any q xs ≡ false → length (filter q xs) ≡ 0
count-none q [] none = refl
count-none q (x ∷ xs) none = grind (arith, count-none q xs)

-- ---- one request replaced

-- what a live request may become
pub record IsStep (limits : TableLimits) (accepted : ℕ) (live : List LiveRequest) (r new : LiveRequest) : Type 0 where
  pub number : new.number ≡ r.number
  pub client : new.client ≡ r.client
  pub source : new.source ≡ r.source
  pub sound : IsSoundRequest limits accepted new
  pub ids : (id : ℕ) → holds_id id new ≡ true → (holds_id id r ≡ true) ⊎ (list_any (holds_id id) live ≡ false)
  pub back : (x : LiveRequest) → holds_back x new ≡ true → holds_back x r ≡ true
  pub order : new.done ≡ false → is_held live new ≡ true → new.id ≡ None

abbrev number_of : LiveRequest → ℕ
number_of r = r.number

numbers-put : (n : ℕ) (new : LiveRequest) (live : List LiveRequest) → new.number ≡ n → map number_of (put_first (has_number n) new live) ≡ map number_of live
numbers-put n new [] is = refl
numbers-put n new (x ∷ live) is = grind (arith, nat_tests, is, numbers-put n new live is)

holders-put : (limits : TableLimits) (accepted : ℕ) (live : List LiveRequest) (r new : LiveRequest) → IsStep limits accepted live r new → find (has_number r.number) live ≡ Some r → (id : ℕ)
    → length (filter (holds_id id) live) ≤ 1 → length (filter (holds_id id) (put_first (has_number r.number) new live)) ≤ 1
holders-put limits accepted live r new step found id one = by_test (holds_id id new) refl
  where
    by_test : (b : Bool) → holds_id id new ≡ b → length (filter (holds_id id) (put_first (has_number r.number) new live)) ≤ 1
    by_test true holds =
        elim (step.ids id holds) [
          | inl held ↦ omega (arith, one, count-put-same (holds_id id) (has_number r.number) r new live found (holds ∙ sym held))
          | inr free ↦ omega (arith, count-none (holds_id id) live free, count-put (holds_id id) (has_number r.number) new 1 live (one_more (holds_id id) new))
        ]
    by_test false holds = omega (arith, one, count-put (holds_id id) (has_number r.number) new 0 live (none_more (holds_id id) new holds))

abbrev IsInOrder : List LiveRequest → LiveRequest → Type 0
IsInOrder live request = request.done ≡ false → is_held live request ≡ true → request.id ≡ None

abbrev replaced : LiveRequest → LiveRequest → List LiveRequest → List LiveRequest
replaced r new live = put_first (has_number r.number) new live

held-put : (limits : TableLimits) (accepted : ℕ) (live : List LiveRequest) (r new : LiveRequest) → IsStep limits accepted live r new → find (has_number r.number) live ≡ Some r → (x : LiveRequest)
    → is_held (replaced r new live) x ≡ true → is_held live x ≡ true
held-put limits accepted live r new step found x held = any-put (holds_back x) (has_number r.number) r new live found (step.back x) held

in_order-put : (limits : TableLimits) (accepted : ℕ) (live : List LiveRequest) (r new : LiveRequest) → IsStep limits accepted live r new → find (has_number r.number) live ≡ Some r → AllByRecursion (IsInOrder live) live
    → AllByRecursion (IsInOrder (replaced r new live)) (replaced r new live)
in_order-put limits accepted live r new step found all =
    let less = held-put limits accepted live r new step found in
    all-change_first (IsInOrder (replaced r new live)) (has_number r.number) (λ o. new) live (λ x passes was. λ undone held. step.order undone (less new held))
    (all-map (IsInOrder live) (IsInOrder (replaced r new live)) live (λ x was. λ undone held. was undone (less x held)) all)

same_source : (client source : ℕ) (r new : LiveRequest) → new.client ≡ r.client → new.source ≡ r.source → has_source client source new ≡ has_source client source r
same_source client source r new one two = rw (one, two) refl

pub sound-put : (table : FlightTable) (r new : LiveRequest) → IsSoundTable table → find (has_number r.number) table.live ≡ Some r → IsStep table.limits table.accepted table.live r new
    → IsSoundTable (change_number r.number (λ o. new) table)
sound-put table r new sound found step =
    record {
      requests = all-change_first (IsSoundRequest table.limits table.accepted) (has_number r.number) (λ o. new) table.live (λ x passes was. step.sound) sound.requests;
      rising = rw (numbers-put r.number new table.live step.number) sound.rising;
      one_holder = λ id. holders-put table.limits table.accepted table.live r new step found id (sound.one_holder id);
      in_order = in_order-put table.limits table.accepted table.live r new step found sound.in_order;
      few = λ client. let same : is_of client new ≡ is_of client r = ap (λ n. n == client) step.client in omega (arith, sound.few client, count-put-same (is_of client) (has_number r.number) r new table.live found same);
      own_sources = λ client source. omega (arith, sound.own_sources client source, count-put-same (has_source client source) (has_number r.number) r new table.live found (same_source client source r new step.client step.source));
    }

-- ---- one request less

any-without : {X : Type 0} (q p : X → Bool) (xs : List X) → list_any q (without_first p xs) ≡ true → list_any q xs ≡ true
any-without q p [] any = any
any-without q p (x ∷ xs) any = grind (arith, any-without q p xs)

pub from_numbers : (P : ℕ → Type 0) (xs : List LiveRequest) → AllByRecursion P (map number_of xs) → AllByRecursion (λ o. P o.number) xs
from_numbers P [] all = tt
from_numbers P (x ∷ xs) all = (all.0, from_numbers P xs all.1)

pub to_numbers : (P : ℕ → Type 0) (xs : List LiveRequest) → AllByRecursion (λ o. P o.number) xs → AllByRecursion P (map number_of xs)
to_numbers P [] all = tt
to_numbers P (x ∷ xs) all = (all.0, to_numbers P xs all.1)

rising-without : (n : ℕ) (live : List LiveRequest) → AreRising (map number_of live) → AreRising (map number_of (without_first (has_number n) live))
rising-without n [] rising = tt
rising-without n (x ∷ live) rising =
    let above = to_numbers (λ m. x.number < m) (without_first (has_number n) live) (all-without_first (λ o. x.number < o.number) (has_number n) live (from_numbers (λ m. x.number < m) live rising.0)) in
    grind (arith, rising.1, above, rising-without n live rising.1)

pub sound-without : (table : FlightTable) (n : ℕ) → IsSoundTable table → IsSoundTable (without_number n table)
sound-without table n sound =
    let after = without_first (has_number n) table.live in record {
      requests = all-without_first (IsSoundRequest table.limits table.accepted) (has_number n) table.live sound.requests;
      rising = rising-without n table.live sound.rising;
      one_holder = λ id. omega (arith, sound.one_holder id, length-filter-without_first (holds_id id) (has_number n) table.live);
      in_order =
          all-without_first (IsInOrder after) (has_number n) table.live
          (all-map (IsInOrder table.live) (IsInOrder after) table.live (λ x was. λ undone held. was undone (any-without (holds_back x) (has_number n) table.live held)) sound.in_order);
      few = λ client. omega (arith, sound.few client, length-filter-without_first (is_of client) (has_number n) table.live);
      own_sources = λ client source. omega (arith, sound.own_sources client source, length-filter-without_first (has_source client source) (has_number n) table.live);
    }
