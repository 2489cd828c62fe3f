-- Of the clients so far nobody has begun a message.
use Rattle.std.proofs.Common.{◌≡◌}
use Rattle.scoreboard.specs.Unknown.{nothing_unknown}
use Rattle.scoreboard.proofs.unknown.unknown_of.Given as goal

abbrev pub invariant-loop-client : goal.invariant-loop-client
invariant-loop-client l = l.made.items ≡ nothing_unknown l.client
