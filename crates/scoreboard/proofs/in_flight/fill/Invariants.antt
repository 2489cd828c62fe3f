-- It holds those so far.
use Rattle.std.proofs.Common.{◌≡◌, take}
use Rattle.scoreboard.proofs.in_flight.fill.Given as goal

abbrev pub invariant-loop-beat : goal.invariant-loop-beat
invariant-loop-beat l = l.reply ≡ take l.beat-index l.beats
