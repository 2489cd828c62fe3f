-- No beat of the bursts so far waits.
use Rattle.std.proofs.Common.{◌≡◌, drop}
use Rattle.std.specs.Prelude.{flat_map, slice_get}
use Rattle.subordinate.specs.FreeMemory.{waiting_in}
use Rattle.subordinate.proofs.bursts.Bursts.place_waiting.Given as goal

abbrev pub invariant-loop-place : goal.invariant-loop-place
invariant-loop-place l = slice_get (flat_map waiting_in (drop l.place l.self-inside.items.items)) 0 ≡ slice_get (flat_map waiting_in l.self-inside.items.items) 0
