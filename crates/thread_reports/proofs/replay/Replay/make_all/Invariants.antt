-- The record is that of a replay of the steps so far, and the laws hold along them.
use Rattle.std.proofs.Common.{[], take}
use Rattle.world.specs.Laws.{AreSoundAlong, IsSoundWorld}
use Rattle.world.specs.World.{WorldState}
use Rattle.thread_reports.specs.Replays.{IsReplay}
use Rattle.thread_reports.specs.Reports.{items_of}
use Rattle.thread_reports.proofs.replay.Replay.make_all.Given as goal

abbrev pub invariant-loop-step : goal.invariant-loop-step
invariant-loop-step l =
    ((start : WorldState) → IsReplay start [] (items_of l.fn.scripts) l.fn.receipts l.fn.self → IsReplay start (take l.step-index l.steps) (items_of l.fn.scripts) l.fn.receipts l.self)
    × ((start : WorldState) → IsReplay start [] (items_of l.fn.scripts) l.fn.receipts l.fn.self → IsSoundWorld start → AreSoundAlong start (take l.step-index l.steps))
