-- Which page of a range is the first that is in another, or in one of several.
use Rattle.std.proofs.Common.{◌≡◌, ℕ, zero, suc, ◌+◌, ◌-◌, ◌<◌, ◌≤◌, max, Bool, true, false, ◌&&◌, ◌||◌, List, [], ◌∷◌, ◌++◌, Some, None, if◌then◌else◌, refl, sym, ap, arith, ◌∙◌, inl, inr}
use Rattle.std.specs.Prelude.{find}
use Rattle.std.specs.List.{list_any, range_with_len}
use Rattle.std.proofs.Math.Path.{fun_ext}
use Rattle.std.proofs.lemmas.Bool.{cases_lt}
use Rattle.std.proofs.lemmas.Bool.Decides.{nat_tests}
use Rattle.std.proofs.lemmas.List.Folds.{list_any-append}
use Rattle.sparse_memory.specs.Ranges.{has_page, lower}
use Rattle.sparse_memory.specs.declared.PageRange.{PageRange}

-- ---- the first of some numbers that follow each other

pub find-least : (p : ℕ → Bool) (from n k : ℕ) → from ≤ k → k < from + n → p k ≡ true → ((j : ℕ) → from ≤ j → j < k → p j ≡ false) → find p (range_with_len from n) ≡ Some k
find-least p from zero k low high pass before = absurd (omega (arith, low, high))
find-least p from (suc n) k low high pass before = elim (cases_lt from k) [
  | inl later ↦ rw (before from (omega arith) later) (find-least p (from + 1) n k (omega (arith, later)) (omega (arith, high)) pass (λ j above below. before j (omega (arith, above)) below))
  | inr here ↦ let same : k ≡ from = omega (arith, low, here) in rw (ap p (sym same) ∙ pass) (ap (λ i. Some i) (sym same))
]

pub find-missing : (p : ℕ → Bool) (from n : ℕ) → ((j : ℕ) → from ≤ j → j < from + n → p j ≡ false) → find p (range_with_len from n) ≡ None
find-missing p from zero none = refl
find-missing p from (suc n) none = rw (none from (omega arith) (omega arith)) (find-missing p (from + 1) n (λ j above below. none j (omega (arith, above)) (omega (arith, below))))

-- what is found is none of the numbers before
lower-first : (p : ℕ → Bool) (from n first : ℕ) → first < from → (lower (Some first) (find p (range_with_len from n)) ≡ Some first) × (lower (find p (range_with_len from n)) (Some first) ≡ Some first)
lower-first p from zero first below = (refl, refl)
lower-first p from (suc n) first below = by_test (p from) (lower-first p (from + 1) n first (omega (arith, below)))
  where
    by_test : (b : Bool) → (lower (Some first) (find p (range_with_len (from + 1) n)) ≡ Some first) × (lower (find p (range_with_len (from + 1) n)) (Some first) ≡ Some first)
        → (lower (Some first) (if b then Some from else find p (range_with_len (from + 1) n)) ≡ Some first)
        × (lower (if b then Some from else find p (range_with_len (from + 1) n)) (Some first) ≡ Some first)
    by_test true rest = (ap (λ i. Some i) (omega (arith, below)), ap (λ i. Some i) (omega (arith, below)))
    by_test false rest = rest

-- the first that passes one of two tests
pub find-either : (p q : ℕ → Bool) (from n : ℕ) → find (λ k. p k || q k) (range_with_len from n) ≡ lower (find p (range_with_len from n)) (find q (range_with_len from n))
find-either p q from zero = refl
find-either p q from (suc n) = by_tests (p from) (q from) (find-either p q (from + 1) n)
  where
    by_tests : (b d : Bool) → find (λ k. p k || q k) (range_with_len (from + 1) n) ≡ lower (find p (range_with_len (from + 1) n)) (find q (range_with_len (from + 1) n))
        → (if b || d then Some from else find (λ k. p k || q k) (range_with_len (from + 1) n))
        ≡ lower (if b then Some from else find p (range_with_len (from + 1) n)) (if d then Some from else find q (range_with_len (from + 1) n))
    by_tests true true rest = ap (λ i. Some i) (omega arith)
    by_tests true false rest = sym ((lower-first q (from + 1) n from (omega arith)).0)
    by_tests false true rest = sym ((lower-first p (from + 1) n from (omega arith)).1)
    by_tests false false rest = rest

-- ---- pages of ranges

-- the first page that two ranges can have in common is the later of their first ones
pub shared-none : (range other : PageRange) → (has_page (max range.first other.first) range && has_page (max range.first other.first) other) ≡ false
    → find (λ k. has_page (range.first + k) other) (range_with_len 0 range.count) ≡ None
shared-none range other none = find-missing (λ k. has_page (range.first + k) other) 0 range.count (λ k above below. grind (arith, nat_tests, below, none))

pub shared-first : (range other : PageRange) → has_page (max range.first other.first) range ≡ true → has_page (max range.first other.first) other ≡ true
    → find (λ k. has_page (range.first + k) other) (range_with_len 0 range.count) ≡ Some (max range.first other.first - range.first)
shared-first range other here there =
    find-least (λ k. has_page (range.first + k) other) 0 range.count (max range.first other.first - range.first) (omega arith) (grind (arith, nat_tests, here)) (grind (arith, nat_tests, there))
    (λ j above below. grind (arith, nat_tests, below))

-- with one more of several
pub shared-more : (range : PageRange) (others : List PageRange) (other : PageRange)
    → lower (find (λ k. list_any (has_page (range.first + k)) others) (range_with_len 0 range.count)) (find (λ k. has_page (range.first + k) other) (range_with_len 0 range.count))
    ≡ find (λ k. list_any (has_page (range.first + k)) (others ++ other ∷ [])) (range_with_len 0 range.count)
shared-more range others other =
    sym (find-either (λ k. list_any (has_page (range.first + k)) others) (λ k. has_page (range.first + k) other) 0 range.count)
    ∙ ap (λ (p : ℕ → Bool). find p (range_with_len 0 range.count)) (fun_ext (λ k. either (list_any (has_page (range.first + k)) others) (has_page (range.first + k) other) ∙ sym (list_any-append (has_page (range.first + k)) others (other ∷ []))))
  where
    either : (b d : Bool) → (b || d) ≡ (b || (d || false))
    either b d = grind arith
