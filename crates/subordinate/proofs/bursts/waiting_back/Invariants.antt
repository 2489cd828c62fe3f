-- So many of the beats are not counted yet, and those that are are of the bursts from here on.
use Rattle.std.proofs.Common.{◌≡◌, ◌+◌, ◌≤◌, drop, length}
use Rattle.std.specs.Prelude.{flat_map}
use Rattle.subordinate.specs.FreeMemory.{waiting_in}
use Rattle.subordinate.proofs.bursts.waiting_back.Given as goal

abbrev pub invariant-loop-place : goal.invariant-loop-place
invariant-loop-place l = (1 ≤ l.left) × (l.left + length (flat_map waiting_in (drop l.place l.bursts)) ≡ l.k)
