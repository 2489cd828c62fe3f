-- What is at a place of lists that are mapped and appended.
use Rattle.std.proofs.Common.{◌≡◌, ◌≤◌, ◌+◌, ◌++◌, [], ◌∷◌, ℕ, List, Option, None, Some, arith, length, map, option_map, refl, slice_get}
use Rattle.std.specs.Option.{option_to_list}
use Rattle.std.proofs.lemmas.Option.{slice_get-map, slice_get_within}
use Rattle.bus_words.proofs.StoredPlaces.{slice_get-append-after, slice_get-append-before}

mapped_twice : {X Y Z : Type 0} (f : X → Y) (g : Y → Z) (o : Option X) → option_map g (option_map f o) ≡ option_map (λ x. g (f x)) o
mapped_twice f g o = grind arith

-- a part of what was found at a place of a list
pub part_at : {X Y Z : Type 0} (f : X → Y) (g : Y → Z) (xs : List X) (k : ℕ) (found : Option Y) → found ≡ option_map f (slice_get xs k) → option_map g found ≡ slice_get (map (λ x. g (f x)) xs) k
part_at f g xs k found is = rw (is, slice_get-map (λ x. g (f x)) xs k) (mapped_twice f g (slice_get xs k))

-- in a list with one more, if there is one: at a place of the list
pub in_front : {X Y : Type 0} (f : X → Y) (xs : List X) (more : Option X) (k : ℕ) (x : X) → slice_get xs k ≡ Some x → Some (f x) ≡ slice_get (map f (xs ++ option_to_list more)) k
in_front f xs more k x there =
    rw (slice_get-map f (xs ++ option_to_list more) k, slice_get-append-before xs (option_to_list more) k (slice_get_within xs k x there), there) refl

-- straight behind it
pub at_more : {X Y : Type 0} (f : X → Y) (xs : List X) (x : X) (k : ℕ) → k ≡ length xs → Some (f x) ≡ slice_get (map f (xs ++ x ∷ [])) k
at_more f xs x k is = grind (arith, is, slice_get-map f (xs ++ x ∷ []) k, slice_get-append-after xs (x ∷ []) k (omega (arith, is)))

-- and further
pub behind_more : {X Y : Type 0} (f : X → Y) (xs : List X) (x : X) (k : ℕ) → length xs + 1 ≤ k → None ≡ slice_get (map f (xs ++ x ∷ [])) k
behind_more f xs x k past = grind (arith, past, slice_get-map f (xs ++ x ∷ []) k, slice_get-append-after xs (x ∷ []) k (omega (arith, past)))

-- where there is none more
pub behind_all : {X Y : Type 0} (f : X → Y) (xs : List X) (k : ℕ) → length xs ≤ k → None ≡ slice_get (map f (xs ++ [])) k
behind_all f xs k past =
    rw (slice_get-map f (xs ++ []) k, slice_get-append-after xs [] k past) refl
