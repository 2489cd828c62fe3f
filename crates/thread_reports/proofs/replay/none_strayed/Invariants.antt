-- The offers of each client so far begin its script.
use Rattle.std.proofs.Common.{◌≡◌, ℕ, ◌<◌, List, ◌++◌, Some}
use Rattle.std.specs.Prelude.{slice_get}
use Rattle.tl_messages.specs.declared.ABeat.{ABeat}
use Rattle.world.specs.World.{WorldState}
use Rattle.world.specs.declared.Step.{Step}
use Rattle.thread_reports.specs.Replays.{AreFound}
use Rattle.thread_reports.specs.Reports.{items_of, offers_of}
use Rattle.thread_reports.proofs.replay.none_strayed.Given as goal

abbrev pub invariant-loop-client : goal.invariant-loop-client
invariant-loop-client l =
    (start : WorldState) (steps : List Step) → AreFound start steps (items_of l.scripts) l.receipts l.found → (k : ℕ) (script : List ABeat) → k < l.client
    → slice_get (items_of l.scripts) k ≡ Some script → (more : List ABeat) × (offers_of k steps ++ more ≡ script)
