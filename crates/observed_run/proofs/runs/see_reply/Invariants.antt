-- The beats so far are appended.
use Rattle.std.proofs.Common.{◌≡◌, ◌++◌, take}
use Rattle.observed_run.specs.SeenRuns.{seen_of_reply}
use Rattle.observed_run.proofs.runs.see_reply.Given as goal

abbrev pub invariant-loop-beat : goal.invariant-loop-beat
invariant-loop-beat l = l.seen.items ≡ l.fn.seen.items ++ seen_of_reply l.fn.client (take l.beat-index l.fn.reply)
