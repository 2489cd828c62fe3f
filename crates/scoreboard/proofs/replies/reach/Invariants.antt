-- The replies stay.
use Rattle.std.proofs.Common.{◌≡◌, ◌+◌, ◌-◌, length}
use Rattle.std.specs.Vec.{vec_capacity}
use Rattle.scoreboard.specs.Replies.{reply_of}
use Rattle.scoreboard.proofs.replies.reach.Given as goal

abbrev pub invariant-loop-kept : goal.invariant-loop-kept
invariant-loop-kept l = (reply_of l.kept.items ≡ reply_of l.fn.kept.items) × (vec_capacity l.kept ≡ vec_capacity l.fn.kept)

abbrev pub decreases-loop-kept : goal.decreases-loop-kept
decreases-loop-kept l = l.source + 1 - length l.kept.items
