-- The rows of queues, and the serials that callers see in them.
use Rattle.std.proofs.Common.{◌≡◌, ℕ, ◌<◌, List, [], drop, length, get_or, map, sym, ◌∙◌, ap, arith}
use Rattle.std.proofs.Math.ListN.{set}
use Rattle.std.proofs.lemmas.List.{get_or-map, length-map, map-set}
use Rattle.std.specs.List.{remove}
use Rattle.arrayvec.specs.ArrayVec.{ArrayVec}

pub remove_first : (xs : List ℕ) → remove xs 0 ≡ drop 1 xs
remove_first xs = grind arith

pub row_at : (rows : List (ArrayVec ℕ)) (now : List (List ℕ)) (k : ℕ) (row : ArrayVec ℕ) → map (λ (r : ArrayVec ℕ). r.items) rows ≡ now → k < length now → row ≡ get_or rows k row → row.items ≡ get_or now k []
row_at rows now k row view inside is =
    let within : k < length rows = omega (arith, inside, ap (λ (ns : List (List ℕ)). length ns) view, length-map rows (λ (r : ArrayVec ℕ). r.items)) in
    ap (λ (r : ArrayVec ℕ). r.items) is ∙ sym (get_or-map (λ (r : ArrayVec ℕ). r.items) rows k row [] within) ∙ ap (λ (ns : List (List ℕ)). get_or ns k []) view

pub row_set : (rows : List (ArrayVec ℕ)) (now : List (List ℕ)) (k : ℕ) (new : ArrayVec ℕ) (items : List ℕ) → map (λ (r : ArrayVec ℕ). r.items) rows ≡ now → new.items ≡ items
    → map (λ (r : ArrayVec ℕ). r.items) (set rows k new) ≡ set now k items
row_set rows now k new items view is =
    map-set (λ (r : ArrayVec ℕ). r.items) rows k new ∙ ap (λ (row : List ℕ). set (map (λ (r : ArrayVec ℕ). r.items) rows) k row) is ∙ ap (λ (ns : List (List ℕ)). set ns k items) view
