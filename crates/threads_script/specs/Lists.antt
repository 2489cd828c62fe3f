-- Lists of lists that are filled item by item. They know nothing of what an item is.
use Rattle.std.specs.Prelude.{ℕ, ◌≡◌, ◌≤◌, List, [], ◌∷◌, ◌++◌, length, Option, Some, None, slice_get, slice_set, vec_capacity}
use Rattle.std.specs.declared.vec.Vec.{Vec}
use Rattle.std.specs.declared.alloc.Global.{Global}

-- the list at a place; an empty one where there are not so many
abbrev pub list_or_none : {A : Type 0} → Option (List A) → List A
list_or_none None = []
list_or_none (Some list) = list

abbrev pub list_at : {A : Type 0} → List (List A) → ℕ → List A
list_at lists place = list_or_none (slice_get lists place)

-- with an item at the end of the list at a place, if there is such a list
abbrev pub with_item : {A : Type 0} → List (List A) → ℕ → A → Option (List A) → List (List A)
with_item lists place item None = lists
with_item lists place item (Some list) = slice_set lists place (list ++ item ∷ [])

abbrev pub pushed_at : {A : Type 0} → List (List A) → ℕ → A → List (List A)
pushed_at lists place item = with_item lists place item (slice_get lists place)

-- each element is so
abbrev pub IsOfEach : {A : Type 0} → (A → Type 0) → List A → Type 0
IsOfEach {A} Is list = (place : ℕ) (x : A) → slice_get list place ≡ Some x → Is x

-- each list has room for so many items
abbrev pub HaveRoom : {A : Type 0} → ℕ → List (Vec A Global) → Type 0
HaveRoom most lists = IsOfEach (λ list. most ≤ vec_capacity list) lists

-- no list has more than so many items
abbrev pub AreShort : {A : Type 0} → ℕ → List (List A) → Type 0
AreShort most lists = IsOfEach (λ list. length list ≤ most) lists
