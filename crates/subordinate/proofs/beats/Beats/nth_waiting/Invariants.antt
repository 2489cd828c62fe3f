-- The place that is looked for is one of those from here on.
use Rattle.std.proofs.Common.{◌≡◌, drop}
use Rattle.std.specs.Prelude.{slice_get}
use Rattle.subordinate.specs.Inside.{waiting_places}
use Rattle.subordinate.proofs.beats.Beats.nth_waiting.Given as goal

abbrev pub invariant-loop-beat : goal.invariant-loop-beat
invariant-loop-beat l = slice_get (waiting_places l.beat (drop l.beat l.self-inside.states.items)) l.left ≡ slice_get (waiting_places 0 l.self-inside.states.items) l.fn.k
