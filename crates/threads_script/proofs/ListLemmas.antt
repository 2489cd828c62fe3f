-- What is true of each element, with one more and with one changed; and one list of many with an item more.
use Rattle.std.proofs.Common.{◌≡◌, ◌≤◌, ◌<◌, ◌+◌, ℕ, zero, suc, List, [], ◌∷◌, ◌++◌, length, length-append, replicate, Option, Some, None, refl, ap, subst, arith, rules}
use Rattle.std.specs.Prelude.{slice_get, slice_set}
use Rattle.std.proofs.lemmas.Option.{same_Some}
use Rattle.threads_script.specs.Lists.{AreShort, IsOfEach, list_at, pushed_at, with_item}

pub each_push : {A : Type 0} (Is : A → Type 0) (xs : List A) (x : A) → IsOfEach Is xs → Is x → IsOfEach Is (xs ++ x ∷ [])
each_push Is [] x all is zero y there = subst Is (same_Some x y there) is
each_push Is [] x all is (suc k) y there = search rules
each_push Is (first ∷ xs) x all is zero y there = all zero y there
each_push Is (first ∷ xs) x all is (suc k) y there = each_push Is xs x (λ j z at. all (suc j) z at) is k y there

pub each_set : {A : Type 0} (Is : A → Type 0) (xs : List A) (place : ℕ) (x : A) → IsOfEach Is xs → Is x → IsOfEach Is (slice_set xs place x)
each_set Is [] place x all is k y there = search rules
each_set Is (first ∷ xs) zero x all is zero y there = subst Is (same_Some x y there) is
each_set Is (first ∷ xs) zero x all is (suc k) y there = all (suc k) y there
each_set Is (first ∷ xs) (suc place) x all is zero y there = all zero y there
each_set Is (first ∷ xs) (suc place) x all is (suc k) y there = each_set Is xs place x (λ j z at. all (suc j) z at) is k y there

pub replicate_more : {A : Type 0} (n : ℕ) (x : A) → replicate (n + 1) x ≡ replicate n x ++ x ∷ []
replicate_more zero x = refl
replicate_more (suc n) x = let one : suc n + 1 ≡ suc (n + 1) = omega arith in rw one (ap (λ rest. x ∷ rest) (replicate_more n x))

-- no list gets longer than its room
pub short_pushed : {A : Type 0} (most : ℕ) (lists : List (List A)) (place : ℕ) (item : A) → AreShort most lists → length (list_at lists place) < most → AreShort most (pushed_at lists place item)
short_pushed {A = A} most lists place item short room = by_found (slice_get lists place) refl
  where
    by_found : (found : Option (List A)) → slice_get lists place ≡ found → AreShort most (with_item lists place item found)
    by_found None is = short
    by_found (Some list) is =
        let few : length list < most = rw is at room in
        each_set (λ (list : List A). length list ≤ most) lists place (list ++ item ∷ []) short (omega (arith, few, length-append list (item ∷ [])))

pub set_length : {A : Type 0} (xs : List A) (place : ℕ) (x : A) → length (slice_set xs place x) ≡ length xs
set_length [] place x = refl
set_length (first ∷ xs) zero x = refl
set_length (first ∷ xs) (suc place) x = ap suc (set_length xs place x)

-- there are as many lists
pub pushed_length : {A : Type 0} (lists : List (List A)) (place : ℕ) (item : A) → length (pushed_at lists place item) ≡ length lists
pushed_length {A = A} lists place item = by_found (slice_get lists place)
  where
    by_found : (found : Option (List A)) → length (with_item lists place item found) ≡ length lists
    by_found None = refl
    by_found (Some list) = set_length lists place (list ++ item ∷ [])
