-- Which pages two regions share, and which region of a page map holds a page.
use Rattle.std.proofs.Common.{◌≡◌, ℕ, ◌+◌, ◌<◌, ◌≤◌, true, false, inl, inr, arith}
use Rattle.std.proofs.lemmas.Bool.Decides.{nat_tests}
use Rattle.std.proofs.lemmas.Bool.{and_parts, and_from, ltb-true, leb-true, lt-ltb, le-leb, cases_lt, both_ways, false_from_ne_true}
use Rattle.burst_plan.specs.PageMap.{holds_page, share_a_page, AreApart, Overlap}
use Rattle.burst_plan.specs.declared.Region.{Region}

-- a page that a region holds stands between its first and its end
pub holds_page-true : (page : ℕ) (region : Region) → holds_page page region ≡ true → (region.tl_page ≤ page) × (page < region.tl_page + region.pages)
holds_page-true page region holds =
    let parts = and_parts _ _ holds in (leb-true _ _ parts.0, ltb-true _ _ parts.1)

-- and the other way round
pub holds_page-between : (page : ℕ) (region : Region) → region.tl_page ≤ page → page < region.tl_page + region.pages → holds_page page region ≡ true
holds_page-between page region first last = and_from _ _ (le-leb _ _ first) (lt-ltb _ _ last)

-- where two regions share a page, each begins before the other ends, and both have pages
share_a_page-true : (a b : Region) → share_a_page a b ≡ true → (a.tl_page < b.tl_page + b.pages) × (b.tl_page < a.tl_page + a.pages) × (0 < a.pages) × (0 < b.pages)
share_a_page-true a b share = (grind (arith, nat_tests), grind (arith, nat_tests), grind (arith, nat_tests), grind (arith, nat_tests))

-- two regions that hold one page share a page
pub share_a_page-from_page : (a b : Region) → Overlap a b → share_a_page a b ≡ true
share_a_page-from_page a b both =
    let at_a = holds_page-true both.0 a both.1 in
    let at_b = holds_page-true both.0 b both.2 in
    grind (arith, nat_tests)

-- two regions that share a page both hold one: the first page of the one that begins later
pub page-from_share_a_page : (a b : Region) → share_a_page a b ≡ true → Overlap a b
page-from_share_a_page a b share =
    let parts = share_a_page-true a b share in
    elim (cases_lt a.tl_page b.tl_page) [
      | inl later ↦ (b.tl_page, holds_page-between b.tl_page a (omega arith) (omega arith), holds_page-between b.tl_page b (omega arith) (omega arith))
      | inr earlier ↦ (a.tl_page, holds_page-between a.tl_page a (omega arith) (omega arith), holds_page-between a.tl_page b (omega arith) (omega arith))
    ]

-- regions that share no page are apart
pub AreApart-from_false : (a b : Region) → share_a_page a b ≡ false → AreApart b a
AreApart-from_false a b none page in_b in_a = both_ways _ none (share_a_page-from_page a b (page, in_a, in_b))

-- and the other way round
pub share_a_page-false : (a b : Region) → AreApart b a → share_a_page a b ≡ false
share_a_page-false a b apart =
    false_from_ne_true _ (λ share. let both = page-from_share_a_page a b share in apart both.0 both.2 both.1)
