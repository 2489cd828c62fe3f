-- Outstanding bursts with their IDs beside them: what is found among the IDs is found among the bursts.
use Rattle.std.proofs.Common.{◌≡◌, ◌==◌, ◌<◌, ℕ, zero, suc, Bool, List, [], ◌∷◌, length, map, get_or, set, Option, Some, None, refl, sym, ◌∙◌, ap}
use Rattle.std.specs.Prelude.{IfSome, filter}
use Rattle.std.specs.List.{position}
use Rattle.bus_words.proofs.FirstPlaces.{position_is_first}
use Rattle.bus_words.proofs.MappedPlaces.{length-filter-map, position_map}

pub same_place : {X : Type 0} (id_of : X → ℕ) (entries : List X) (ids : List ℕ) (id : ℕ) → ids ≡ map id_of entries → position (λ other. other == id) ids ≡ position (λ x. id_of x == id) entries
same_place id_of entries ids id are = ap (position (λ other. other == id)) are ∙ position_map id_of (λ other. other == id) entries

pub same_count : {X : Type 0} (id_of : X → ℕ) (entries : List X) (ids : List ℕ) (id : ℕ) → ids ≡ map id_of entries → length (filter (λ other. other == id) ids) ≡ length (filter (λ x. id_of x == id) entries)
same_count id_of entries ids id are = ap (λ (l : List ℕ). length (filter (λ other. other == id) l)) are ∙ length-filter-map (λ other. other == id) id_of entries

-- a place that was found is within
pub found_within : {X : Type 0} (test : X → Bool) (entries : List X) (place : Option ℕ) → place ≡ position test entries → IfSome place (λ k. k < length entries)
found_within test entries None is = tt
found_within test entries (Some k) is = (position_is_first test entries k (sym is)).within

-- a burst that takes the place of one of the same ID leaves the IDs
pub kept_set : {X : Type 0} (id_of : X → ℕ) (entries : List X) (place : ℕ) (d new : X) → id_of new ≡ id_of (get_or entries place d) → map id_of (set entries place new) ≡ map id_of entries
kept_set id_of [] place d new same = refl
kept_set id_of (x ∷ xs) zero d new same = ap (λ (n : ℕ). n ∷ map id_of xs) same
kept_set id_of (x ∷ xs) (suc place) d new same = ap (λ (l : List ℕ). id_of x ∷ l) (kept_set id_of xs place d new same)
