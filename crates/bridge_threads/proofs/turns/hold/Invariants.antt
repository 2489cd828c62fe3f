-- The choices so far.
use Rattle.std.proofs.Common.{◌≡◌, List, length}
use Rattle.world.specs.declared.Step.{Step}
use Rattle.bridge_threads.specs.Turns.{AreChosen, after_turns}
use Rattle.bridge_threads.proofs.turns.hold.Given as goal

abbrev pub invariant-loop-made : goal.invariant-loop-made
invariant-loop-made l =
    (steps : List Step) × AreChosen l.words l.fn.place l.fn.shared.world steps l.place × (l.shared ≡ after_turns l.fn.shared steps) × (length steps ≡ l.made)
