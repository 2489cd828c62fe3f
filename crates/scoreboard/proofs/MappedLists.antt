-- Lists that are made of others: searches in them, what is made of them in turn, and what holds of each of two.
use Rattle.std.proofs.Common.{◌≡◌, ℕ, Bool, ◌||◌, List, [], ◌∷◌, ◌++◌, map, refl, ap, arith}
use Rattle.std.specs.Prelude.{◌≢◌}
use Rattle.std.specs.List.{AllByRecursion, find, list_any}
use Rattle.std.specs.Option.{option_map}
use Rattle.std.proofs.lemmas.Bool.Decides.{nat_tests}
use Rattle.bus_words.specs.Places.{without_first}
use Rattle.scoreboard.specs.Flights.{InFlight, is_of_source}

pub any_map : {X Y : Type 0} (p : Y → Bool) (f : X → Y) (xs : List X) → list_any p (map f xs) ≡ list_any (λ x. p (f x)) xs
any_map p f [] = refl
any_map p f (x ∷ xs) = ap (λ rest. p (f x) || rest) (any_map p f xs)

pub find_map : {X Y : Type 0} (p : Y → Bool) (f : X → Y) (xs : List X) → find p (map f xs) ≡ option_map f (find (λ x. p (f x)) xs)
find_map p f [] = refl
find_map p f (x ∷ xs) = grind (arith, find_map p f xs)

pub without_first_map : {X Y : Type 0} (p : Y → Bool) (f : X → Y) (xs : List X) → map f (without_first (λ x. p (f x)) xs) ≡ without_first p (map f xs)
without_first_map p f [] = refl
without_first_map p f (x ∷ xs) = grind (arith, without_first_map p f xs)

pub all_parts : {X : Type 0} (P : X → Type 0) (xs ys : List X) → AllByRecursion P (xs ++ ys) → AllByRecursion P xs × AllByRecursion P ys
all_parts P [] ys all = (tt, all)
all_parts P (x ∷ xs) ys all = let rest = all_parts P xs ys all.1 in ((all.0, rest.0), rest.1)

-- with the request of one source taken out, those of the others are still found
pub find_other : (source other : ℕ) (flights : List InFlight) → other ≢ source
    → find (is_of_source other) (without_first (is_of_source source) flights) ≡ find (is_of_source other) flights
find_other source other [] differs = refl
find_other source other (flight ∷ flights) differs = grind (arith, nat_tests, find_other source other flights differs)
