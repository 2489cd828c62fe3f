-- A list of IDs, and how often each stands in it: after an ID was appended, or taken out.
use Rattle.std.proofs.Common.{◌≡◌, ◌==◌, ◌<◌, ◌≤◌, ℕ, zero, suc, ◌+◌, ◌-◌, Bool, true, false, cond, List, [], ◌∷◌, ◌++◌, length, get_or, replicate, set, refl, subst, ◌∙◌, arith}
use Rattle.std.specs.Prelude.{filter}
use Rattle.std.specs.List.{remove}
use Rattle.std.proofs.lemmas.Bool.{eqb-true}
use Rattle.std.proofs.lemmas.List.{get_or-replicate, get_or-set_other, get_or-set_same}
use Rattle.std.proofs.lemmas.List.Sums.{count_by-le-length, length-filter}
use Rattle.axi_checker.specs.Monitors.{AreCounts}

abbrev pub count_of : ℕ → List ℕ → ℕ
count_of id ids = length (filter (λ other. other == id) ids)

-- no more have an ID than there are
pub count_within : (id : ℕ) (ids : List ℕ) → count_of id ids ≤ length ids
count_within id ids = rw (length-filter (λ other. other == id) ids) (count_by-le-length (λ other. other == id) ids)

-- each count after an ID was appended
count-append : (id new : ℕ) (ids : List ℕ) → count_of id (ids ++ new ∷ []) ≡ count_of id ids + cond (new == id) 1 0
count-append id new [] = grind (arith)
count-append id new (x ∷ xs) = grind (arith, count-append id new xs)

-- and after one was taken out
count-remove : (other d : ℕ) (ids : List ℕ) (place : ℕ) → place < length ids
    → count_of other ids ≡ count_of other (remove ids place) + cond (get_or ids place d == other) 1 0
count-remove other d [] place here = absurd (omega (arith, here))
count-remove other d (x ∷ xs) zero here = grind (arith)
count-remove other d (x ∷ xs) (suc place) here = grind (arith, count-remove other d xs place (omega (arith, here)))

count_without : (id other : ℕ) (ids : List ℕ) (place : ℕ) → place < length ids → id ≡ get_or ids place id
    → count_of other ids ≡ count_of other (remove ids place) + cond (id == other) 1 0
count_without id other ids place here is = rw (← is) at (count-remove other id ids place here)

pub none_counted : AreCounts (replicate 256 0) []
none_counted = record { each = λ n below. get_or-replicate 256 n 0 0 below }

-- ---- the counts of a list, after one of them changed with it
module _ (counts ids : List ℕ) (id : ℕ) (counted : AreCounts counts ids) (within : id < length counts) (small : id < 256) where
  changed : (after : List ℕ) (new : ℕ) → new ≡ count_of id after → ((other : ℕ) → (id == other) ≡ false → count_of other ids ≡ count_of other after)
      → AreCounts (set counts id new) after
  changed after new is others = record { each = λ other below. by_test (id == other) other refl below }
    where
      by_test : (same : Bool) (other : ℕ) → (id == other) ≡ same → other < 256 → get_or (set counts id new) other 0 ≡ count_of other after
      by_test true other here below =
          subst (λ (k : ℕ). get_or (set counts id new) k 0 ≡ count_of k after) (eqb-true id other here) (get_or-set_same counts id new 0 within ∙ is)
      by_test false other here below =
          get_or-set_other counts id other new 0 (λ same. grind (arith, same, here)) ∙ counted.each other below ∙ others other here

  pub counted-append : AreCounts (set counts id (get_or counts id 0 + 1)) (ids ++ id ∷ [])
  counted-append =
      changed (ids ++ id ∷ []) (get_or counts id 0 + 1) (grind (arith, counted.each id small, count-append id id ids))
      (λ other differs. grind (arith, differs, count-append other id ids))

  pub counted-remove : (place : ℕ) → place < length ids → id ≡ get_or ids place id → AreCounts (set counts id (get_or counts id 0 - 1)) (remove ids place)
  counted-remove place here is =
      changed (remove ids place) (get_or counts id 0 - 1) (grind (arith, counted.each id small, count_without id id ids place here is))
      (λ other differs. grind (arith, differs, count_without id other ids place here is))

  -- where it stands there is one
  pub one_counted : (place : ℕ) → place < length ids → id ≡ get_or ids place id → 1 ≤ get_or counts id 0
  one_counted place here is = grind (arith, counted.each id small, count_without id id ids place here is)
