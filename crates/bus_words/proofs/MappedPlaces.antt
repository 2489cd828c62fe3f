-- What stands at a place of a list, where the list is made of another, or one entry of it changes.
use Rattle.std.proofs.Common.{◌≡◌, ℕ, zero, suc, ◌+◌, Bool, true, false, List, [], ◌∷◌, ◌++◌, Option, None, Some, flat_map, length, map, slice_get, take, refl, ap, sym, ◌∙◌, arith, rules}
use Rattle.std.specs.List.{AllByRecursion, filter, position, position_or_len, remove}
use Rattle.std.specs.Prelude.{if◌then◌else◌, option_map}
use Rattle.std.proofs.lemmas.List.{append_assoc}
use Rattle.std.proofs.lemmas.Option.{same_Some}

pub length_map : {X Y : Type 0} (f : X → Y) (xs : List X) → length (map f xs) ≡ length xs
length_map f [] = refl
length_map f (x ∷ xs) = ap suc (length_map f xs)

first_map : {X Y : Type 0} (f : X → Y) (p : Y → Bool) (xs : List X) → position_or_len p (map f xs) ≡ position_or_len (λ x. p (f x)) xs
first_map f p [] = refl
first_map f p (x ∷ xs) = rw (first_map f p xs) refl

-- a search in a list that is made of another
pub position_map : {X Y : Type 0} (f : X → Y) (p : Y → Bool) (xs : List X) → position p (map f xs) ≡ position (λ x. p (f x)) xs
position_map f p xs = rw (first_map f p xs, length_map f xs) refl

first_same : {X : Type 0} (p q : X → Bool) (xs : List X) → ((x : X) → p x ≡ q x) → position_or_len p xs ≡ position_or_len q xs
first_same p q [] same = refl
first_same p q (x ∷ xs) same = rw (same x, first_same p q xs same) refl

-- two tests that agree
pub position_same : {X : Type 0} (p q : X → Bool) (xs : List X) → ((x : X) → p x ≡ q x) → position p xs ≡ position q xs
position_same p q xs same = rw (first_same p q xs same) refl

-- ---- a list that is made of another, after an entry of that one was taken out
pub map-remove : {X Y : Type 0} (f : X → Y) (xs : List X) (place : ℕ) → map f (remove xs place) ≡ remove (map f xs) place
map-remove f [] zero = refl
map-remove f [] (suc place) = refl
map-remove f (x ∷ xs) zero = refl
map-remove f (x ∷ xs) (suc place) = ap (λ ys. f x ∷ ys) (map-remove f xs place)

-- functions that agree make the same list
pub map_same : {X Y : Type 0} (f g : X → Y) (xs : List X) → ((x : X) → f x ≡ g x) → map f xs ≡ map g xs
map_same f g [] same = refl
map_same f g (x ∷ xs) same = rw (same x, map_same f g xs same) refl

-- as many pass a test of what they are made of
pub length-filter-map : {X Y : Type 0} (p : Y → Bool) (f : X → Y) (xs : List X) → length (filter p (map f xs)) ≡ length (filter (λ x. p (f x)) xs)
length-filter-map p f [] = refl
length-filter-map {X = X} {Y = Y} p f (x ∷ xs) = by_test (p (f x)) (length-filter-map p f xs)
  where
    by_test : (b : Bool) → length (filter p (map f xs)) ≡ length (filter (λ z. p (f z)) xs)
        → length (if b then f x ∷ filter p (map f xs) else filter p (map f xs)) ≡ length (if b then x ∷ filter (λ z. p (f z)) xs else filter (λ z. p (f z)) xs)
    by_test true rest = ap suc rest
    by_test false rest = rest

-- what holds of each of a list that is made of another
pub all-mapped : {X Y : Type 0} (P : Y → Type 0) (f : X → Y) (xs : List X) → AllByRecursion P (map f xs) → AllByRecursion (λ x. P (f x)) xs
all-mapped P f [] all = tt
all-mapped P f (x ∷ xs) all = (all.0, all-mapped P f xs all.1)

-- what a map gave came of what was there
pub map_some : {A B P : Type 0} (f : A → B) (o : Option A) (y : B) → option_map f o ≡ Some y → ((x : A) → o ≡ Some x → f x ≡ y → P) → P
map_some f None y is k = absurd (cc)
map_some f (Some x) y is k = k x refl (same_Some (f x) y is)

-- one entry more of a list, and what is made of it
pub map-take-next : {X Y : Type 0} (f : X → Y) (xs : List X) (k : ℕ) (x : X) → slice_get xs k ≡ Some x → map f (take (k + 1) xs) ≡ map f (take k xs) ++ f x ∷ []
map-take-next f [] k x there = absurd (cc (there))
map-take-next f (y ∷ xs) zero x there = let same : y ≡ x = cc in rw same refl
map-take-next {Y = Y} f (y ∷ xs) (suc k) x there =
    let size : suc k + 1 ≡ suc (k + 1) = omega arith in
    rw size (ap (λ (rest : List Y). f y ∷ rest) (map-take-next f xs k x there))

flat_map-take-suc : {X Y : Type 0} (f : X → List Y) (xs : List X) (k : ℕ) (x : X) → slice_get xs k ≡ Some x → flat_map f (take (suc k) xs) ≡ flat_map f (take k xs) ++ f x
flat_map-take-suc f [] k x found = search rules
flat_map-take-suc f (y ∷ ys) zero x found = search rules
flat_map-take-suc f (y ∷ ys) (suc k) x found =
    ap (λ text. f y ++ text) (flat_map-take-suc f ys k x found) ∙ sym (append_assoc (f y) (flat_map f (take k ys)) (f x))

pub flat_map-take : {X Y : Type 0} (f : X → List Y) (xs : List X) (k : ℕ) (x : X) → slice_get xs k ≡ Some x → flat_map f (take (k + 1) xs) ≡ flat_map f (take k xs) ++ f x
flat_map-take f xs k x found =
    let next : k + 1 ≡ suc k = omega arith in
    rw next (flat_map-take-suc f xs k x found)
