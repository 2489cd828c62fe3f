-- Pages that follow each other.
use Rattle.std.proofs.Common.{◌≡◌, ℕ, zero, suc, ◌+◌, [], ◌∷◌, ◌++◌, map, length, refl, ap, arith}
use Rattle.std.proofs.lemmas.List.FromFn.{length-map-range_with_len}
use Rattle.std.specs.List.{range_with_len}
use Rattle.subordinate.specs.declared.PageKind.{PageKind}
use Rattle.script_text.specs.SetupLines.{pages_from}

pub map_range-suc : {X : Type 0} (f : ℕ → X) (a b n : ℕ) → b ≡ a + n → map f (range_with_len a (suc n)) ≡ map f (range_with_len a n) ++ f b ∷ []
map_range-suc f a b zero same = let here : b ≡ a = omega arith in rw here refl
map_range-suc f a b (suc n) same = ap (λ xs. f a ∷ xs) (map_range-suc f (a + 1) b n (omega arith))

pub pages_from-length : (first count : ℕ) (kind : PageKind) → length (pages_from first count kind) ≡ count
pages_from-length first count kind = length-map-range_with_len (λ page. (page, kind)) first count

-- one page more
pub pages_from-more : (first count : ℕ) (kind : PageKind) → pages_from first (count + 1) kind ≡ pages_from first count kind ++ (first + count, kind) ∷ []
pages_from-more first count kind =
    let next : count + 1 ≡ suc count = omega arith in
    rw next (map_range-suc (λ page. (page, kind)) first (first + count) count refl)
