-- What is one of a list: where a test finds one, and where it is one of a list that is made of another.
use Rattle.std.proofs.Common.{◌≡◌, Bool, true, false, List, [], ◌∷◌, ◌++◌, map, ◌⊎◌, inl, inr, ⊎_elim, refl, sym, ◌∙◌, ap, subst, cond, true≢false}
use Rattle.std.specs.Prelude.{Option, None, Some, filter, filter_map}
use Rattle.std.specs.List.{AllByRecursion, cons_option, list_any}
use Rattle.std.proofs.lemmas.Bool.{or_cases, or_left, or_right}
use Rattle.byte_orders.specs.Accesses.{IsOneOf}

-- one of a list, of which something holds
pub record HasOne {X : Type 0} (P : X → Type 0) (xs : List X) : Type 0 where
  pub one : X
  pub there : IsOneOf one xs
  pub holds : P one

pub any_from : {X : Type 0} (p : X → Bool) (x : X) (xs : List X) → IsOneOf x xs → p x ≡ true → list_any p xs ≡ true
any_from p x [] at passes = absurd at
any_from p x (y ∷ ys) at passes =
    ⊎_elim (λ same. or_left (p y) (list_any p ys) (ap p (sym same) ∙ passes)) (λ later. or_right (p y) (list_any p ys) (any_from p x ys later passes)) at

pub any_to : {X : Type 0} (p : X → Bool) (xs : List X) → list_any p xs ≡ true → HasOne (λ x. p x ≡ true) xs
any_to p [] some = absurd (true≢false (sym some))
any_to {X = X} p (y ∷ ys) some =
    ⊎_elim (λ here. record { one = y; there = inl refl; holds = here }) (λ later. further (any_to p ys later)) (or_cases (p y) (list_any p ys) some)
  where
    further : HasOne (λ (x : X). p x ≡ true) ys → HasOne (λ x. p x ≡ true) (y ∷ ys)
    further found = record { one = found.one; there = inr found.there; holds = found.holds }

pub all_of : {X : Type 0} (P : X → Type 0) (x : X) (xs : List X) → AllByRecursion P xs → IsOneOf x xs → P x
all_of P x [] all at = absurd at
all_of P x (y ∷ ys) all at = ⊎_elim (λ same. subst P (sym same) all.0) (λ later. all_of P x ys all.1 later) at

pub in_map : {X Y : Type 0} (f : X → Y) (x : X) (xs : List X) → IsOneOf x xs → IsOneOf (f x) (map f xs)
in_map f x [] at = absurd at
in_map f x (y ∷ ys) at = ⊎_elim (λ same. inl (ap f same)) (λ later. inr (in_map f x ys later)) at

pub from_map : {X Y : Type 0} (f : X → Y) (y : Y) (xs : List X) → IsOneOf y (map f xs) → HasOne (λ x. y ≡ f x) xs
from_map f y [] at = absurd at
from_map {X = X} f y (x ∷ xs) at = ⊎_elim (λ same. record { one = x; there = inl refl; holds = same }) (λ later. further (from_map f y xs later)) at
  where
    further : HasOne (λ (z : X). y ≡ f z) xs → HasOne (λ z. y ≡ f z) (x ∷ xs)
    further found = record { one = found.one; there = inr found.there; holds = found.holds }

pub in_append_left : {X : Type 0} (x : X) (xs ys : List X) → IsOneOf x xs → IsOneOf x (xs ++ ys)
in_append_left x [] ys at = absurd at
in_append_left x (z ∷ zs) ys at = ⊎_elim (λ same. inl same) (λ later. inr (in_append_left x zs ys later)) at

pub in_append_right : {X : Type 0} (x : X) (xs ys : List X) → IsOneOf x ys → IsOneOf x (xs ++ ys)
in_append_right x [] ys at = at
in_append_right x (z ∷ zs) ys at = inr (in_append_right x zs ys at)

pub from_append : {X : Type 0} (x : X) (xs ys : List X) → IsOneOf x (xs ++ ys) → IsOneOf x xs ⊎ IsOneOf x ys
from_append x [] ys at = inr at
from_append x (z ∷ zs) ys at = ⊎_elim (λ same. inl (inl same)) (λ later. ⊎_elim (λ first. inl (inr first)) (λ second. inr second) (from_append x zs ys later)) at

pub in_filter : {X : Type 0} (p : X → Bool) (x : X) (xs : List X) → IsOneOf x xs → p x ≡ true → IsOneOf x (filter p xs)
in_filter p x [] at passes = absurd at
in_filter {X = X} p x (y ∷ ys) at passes = ⊎_elim here (λ later. by_test (p y) (in_filter p x ys later passes)) at
  where
    here : x ≡ y → IsOneOf x (cond (p y) (y ∷ filter p ys) (filter p ys))
    here same =
        let holds : p y ≡ true = ap p (sym same) ∙ passes in
        rw holds (inl same)

    by_test : (b : Bool) → IsOneOf x (filter p ys) → IsOneOf x (cond b (y ∷ filter p ys) (filter p ys))
    by_test true later = inr later
    by_test false later = later

pub record PassesThere {X : Type 0} (p : X → Bool) (x : X) (xs : List X) : Type 0 where
  pub there : IsOneOf x xs
  pub passes : p x ≡ true

pub from_filter : {X : Type 0} (p : X → Bool) (x : X) (xs : List X) → IsOneOf x (filter p xs) → PassesThere p x xs
from_filter p x [] at = absurd at
from_filter {X = X} p x (y ∷ ys) at = by_test (p y) refl at (λ now. from_filter p x ys now)
  where
    later_on : PassesThere p x ys → PassesThere p x (y ∷ ys)
    later_on found = record { there = inr found.there; passes = found.passes }

    by_test : (b : Bool) → p y ≡ b → IsOneOf x (cond b (y ∷ filter p ys) (filter p ys)) → (IsOneOf x (filter p ys) → PassesThere p x ys)
        → PassesThere p x (y ∷ ys)
    by_test true holds now deeper = ⊎_elim (λ same. record { there = inl same; passes = ap p same ∙ holds }) (λ later. later_on (deeper later)) now
    by_test false fails now deeper = later_on (deeper now)

pub in_filter_map : {X Y : Type 0} (f : X → Option Y) (x : X) (y : Y) (xs : List X) → IsOneOf x xs → f x ≡ Some y → IsOneOf y (filter_map f xs)
in_filter_map f x y [] at gives = absurd at
in_filter_map {X = X} {Y = Y} f x y (z ∷ zs) at gives = ⊎_elim here (λ later. by_option (f z) (in_filter_map f x y zs later gives)) at
  where
    here : x ≡ z → IsOneOf y (cons_option (f z) (filter_map f zs))
    here same =
        let some : f z ≡ Some y = ap f (sym same) ∙ gives in
        rw some (inl refl)

    by_option : (o : Option Y) → IsOneOf y (filter_map f zs) → IsOneOf y (cons_option o (filter_map f zs))
    by_option None later = later
    by_option (Some other) later = inr later

pub from_filter_map : {X Y : Type 0} (f : X → Option Y) (y : Y) (xs : List X) → IsOneOf y (filter_map f xs) → HasOne (λ x. f x ≡ Some y) xs
from_filter_map f y [] at = absurd at
from_filter_map {X = X} {Y = Y} f y (x ∷ xs) at = by_option (f x) refl at (λ now. from_filter_map f y xs now)
  where
    later_on : HasOne (λ (z : X). f z ≡ Some y) xs → HasOne (λ z. f z ≡ Some y) (x ∷ xs)
    later_on found = record { one = found.one; there = inr found.there; holds = found.holds }

    by_option : (o : Option Y) → f x ≡ o → IsOneOf y (cons_option o (filter_map f xs)) → (IsOneOf y (filter_map f xs) → HasOne (λ z. f z ≡ Some y) xs)
        → HasOne (λ z. f z ≡ Some y) (x ∷ xs)
    by_option None none now deeper = later_on (deeper now)
    by_option (Some other) some now deeper =
        ⊎_elim (λ same. record { one = x; there = inl refl; holds = some ∙ ap (λ z. Some z) (sym same) }) (λ later. later_on (deeper later)) now
