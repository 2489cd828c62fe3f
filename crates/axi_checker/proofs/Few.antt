-- Lists with few entries of each ID: how long they are at most, and what keeps them so.
use Rattle.std.proofs.Common.{◌≡◌, ℕ, zero, suc, ◌+◌, ◌*◌, ◌<◌, ◌≤◌, ◌==◌, Bool, List, [], ◌∷◌, ◌++◌, length, nat_lt, refl, ap, arith}
use Rattle.std.specs.List.{AllByRecursion, filter}
use Rattle.std.proofs.lemmas.Bool.{lt-ltb, le-ltb}
use Rattle.std.proofs.lemmas.Bool.Decides.{nat_tests}
use Rattle.std.proofs.lemmas.List.{length-append}
use Rattle.std.proofs.lemmas.List.Elements.{filter-append}
use Rattle.bus_words.proofs.PlaceChanges.{all-append, all-change_first, all-without_first, length-filter-change_first, length-filter-without_first}
use Rattle.bus_words.specs.Places.{change_first, without_first}
use Rattle.axi_checker.specs.Monitors.{HasFewOfEach}

-- how many entries have an ID, and how many have one below a number
abbrev pub of_id : {X : Type 0} → (X → ℕ) → ℕ → List X → ℕ
of_id id_of id xs = length (filter (λ x. id_of x == id) xs)

abbrev below : {X : Type 0} → (X → ℕ) → ℕ → List X → ℕ
below id_of n xs = length (filter (λ x. nat_lt (id_of x) n) xs)

below-suc : {X : Type 0} (id_of : X → ℕ) (n : ℕ) (xs : List X) → below id_of (suc n) xs ≡ below id_of n xs + of_id id_of n xs
below-suc id_of n [] = refl
below-suc id_of n (x ∷ xs) = grind (arith, nat_tests, below-suc id_of n xs)

below-zero : {X : Type 0} (id_of : X → ℕ) (xs : List X) → below id_of 0 xs ≡ 0
below-zero id_of [] = refl
below-zero id_of (x ∷ xs) = rw (le-ltb (id_of x) 0 (omega arith)) (below-zero id_of xs)

below-all : {X : Type 0} (id_of : X → ℕ) (n : ℕ) (xs : List X) → AllByRecursion (λ x. id_of x < n) xs → below id_of n xs ≡ length xs
below-all id_of n [] known = refl
below-all id_of n (x ∷ xs) known = rw (lt-ltb (id_of x) n known.0) (ap suc (below-all id_of n xs known.1))

below-le : {X : Type 0} (id_of : X → ℕ) (depth n : ℕ) (xs : List X) → ((id : ℕ) → of_id id_of id xs ≤ depth) → below id_of n xs ≤ n * depth
below-le id_of depth zero xs few = omega (arith, below-zero id_of xs)
below-le id_of depth (suc n) xs few = omega (arith, below-suc id_of n xs, below-le id_of depth n xs few, few n)

-- as many entries as IDs and entries of each allow
pub length-few : {X : Type 0} (id_of : X → ℕ) (ids depth : ℕ) (xs : List X) → HasFewOfEach id_of ids depth xs → length xs ≤ ids * depth
length-few id_of ids depth xs few = rw (← below-all id_of ids xs few.known) (below-le id_of depth ids xs few.few)

-- an entry more, of an ID that has fewer than the most
pub few-append : {X : Type 0} (id_of : X → ℕ) (ids depth : ℕ) (xs : List X) (x : X) → HasFewOfEach id_of ids depth xs → id_of x < ids → of_id id_of (id_of x) xs < depth
    → HasFewOfEach id_of ids depth (xs ++ x ∷ [])
few-append id_of ids depth xs x few known fewer =
    let at_most : (id : ℕ) → of_id id_of id (xs ++ x ∷ []) ≤ depth = λ id.
    rw (filter-append (λ y. id_of y == id) xs (x ∷ []), length-append (filter (λ y. id_of y == id) xs) (filter (λ y. id_of y == id) (x ∷ []))) (grind (arith, nat_tests, few.few id)) in
    record { known = all-append (λ y. id_of y < ids) xs x few.known known; few = at_most }

-- so there is room for it
pub room_for_one : {X : Type 0} (id_of : X → ℕ) (ids depth : ℕ) (xs : List X) (x : X) → HasFewOfEach id_of ids depth xs → id_of x < ids → of_id id_of (id_of x) xs < depth
    → length xs < ids * depth
room_for_one id_of ids depth xs x few known fewer =
    omega (arith, length-few id_of ids depth (xs ++ x ∷ []) (few-append id_of ids depth xs x few known fewer), length-append xs (x ∷ []))

-- an entry changed that keeps its ID, and an entry taken out
pub few-change_first : {X : Type 0} (id_of : X → ℕ) (ids depth : ℕ) (p : X → Bool) (f : X → X) (xs : List X) → ((x : X) → id_of (f x) ≡ id_of x) → HasFewOfEach id_of ids depth xs
    → HasFewOfEach id_of ids depth (change_first p f xs)
few-change_first id_of ids depth p f xs same few =
    record {
      known = all-change_first (λ x. id_of x < ids) p f xs (λ x passes known. rw (same x) known) few.known;
      few = λ id. rw (length-filter-change_first (λ x. id_of x == id) p f xs (λ x. ap (λ k. k == id) (same x))) (few.few id);
    }

pub few-without_first : {X : Type 0} (id_of : X → ℕ) (ids depth : ℕ) (p : X → Bool) (xs : List X) → HasFewOfEach id_of ids depth xs → HasFewOfEach id_of ids depth (without_first p xs)
few-without_first id_of ids depth p xs few =
    record {
      known = all-without_first (λ x. id_of x < ids) p xs few.known;
      few = λ id. omega (arith, length-filter-without_first (λ x. id_of x == id) p xs, few.few id);
    }
