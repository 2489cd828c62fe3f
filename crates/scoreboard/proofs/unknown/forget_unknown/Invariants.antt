-- The messages of those so far are over.
use Rattle.std.proofs.Common.{◌≡◌, ℕ, List, map, []}
use Rattle.scoreboard.proofs.held.Changed.{changed_to}
use Rattle.scoreboard.proofs.unknown.forget_unknown.Given as goal

abbrev pub invariant-loop-lanes : goal.invariant-loop-lanes
invariant-loop-lanes l =
    map (λ (lanes : List ℕ). lanes) l.unknown ≡ changed_to (λ (lanes : List ℕ). lanes) (λ before. []) l.fn.unknown l.lanes-index
