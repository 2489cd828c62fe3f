-- The beat that is looked for is one of those from here on.
use Rattle.std.proofs.Common.{◌≡◌, drop}
use Rattle.std.specs.Prelude.{flat_map, slice_get}
use Rattle.subordinate.specs.FreeMemory.{waiting_in}
use Rattle.subordinate.proofs.bursts.waiting_on.Given as goal

abbrev pub invariant-loop-burst : goal.invariant-loop-burst
invariant-loop-burst l = slice_get (flat_map waiting_in (drop l.burst-index l.bursts)) l.left ≡ slice_get (flat_map waiting_in l.bursts) l.k
