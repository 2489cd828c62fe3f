-- One more is over.
use Rattle.std.proofs.Common.{◌≡◌, ◌<◌, ◌∙◌, ℕ, List, [], ◌∷◌, ap, length, map, refl, sym}
use Rattle.scoreboard.proofs.held.Changed.{all_changed, changed_next}
use Rattle.scoreboard.proofs.unknown.forget_unknown.Goals as goal

same : (xs : List (List ℕ)) → map (λ (lanes : List ℕ). lanes) xs ≡ xs
same [] = refl
same (x ∷ xs) = ap (λ (ys : List (List ℕ)). x ∷ ys) (same xs)

pub loop-lanes-preserved : goal.loop-lanes-preserved
loop-lanes-preserved c =
    let now = c.loop-lanes.unknown in
    let i = c.loop-lanes.lanes-index in
    let below : i < length now = rw c.loop-lanes.auto.unknown c.loop-lanes-test.true in
    changed_next (λ (lanes : List ℕ). lanes) (λ before. []) c.args.unknown.now now i c.lanes-item.result c.clear.new.self c.loop-lanes.auto.unknown below c.clear.ensures c.loop-lanes.invariant

pub returns : goal.returns
returns c =
    sym (same c.loop-lanes.unknown)
    ∙ c.loop-lanes.invariant
    ∙ all_changed (λ (lanes : List ℕ). lanes) (λ before. []) c.args.unknown.now c.loop-lanes.lanes-index c.loop-lanes-test.false
    ∙ ap (λ (lanes : List (List ℕ)). map (λ (before : List ℕ). []) lanes) (same c.args.unknown.now)
