-- Ranges of one page each, and the pages that they are one by one.
use Rattle.std.proofs.Common.{◌≡◌, List, [], ◌∷◌, map, ℕ, ap₂, refl}
use Rattle.sparse_memory.specs.Ranges.{kind_of, pages_in}
use Rattle.subordinate.specs.declared.PageKind.{PageKind}
use Rattle.subordinate.specs.declared.PageKind.TheVariants.{Good, SlaveError}
use Rattle.score_setup.specs.ScoreSetups.{page_alone, range_kind}

kind_same : (kind : PageKind) → kind_of (range_kind kind) ≡ kind
kind_same Good = refl
kind_same SlaveError = refl

-- they have these pages
pub pages_alone : (pages : List (ℕ × PageKind)) → pages_in (map page_alone pages) ≡ pages
unfolding pages_in
pages_alone [] = refl
pages_alone (page ∷ pages) = ap₂ {C = List (ℕ × PageKind)} (λ kind rest. (page.0, kind) ∷ rest) (kind_same page.1) (pages_alone pages)
