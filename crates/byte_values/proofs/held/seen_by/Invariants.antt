-- Those so far are left in the lanes in which they aren't hidden.
use Rattle.std.proofs.Common.{◌≡◌, ◌≤◌, filter, length, map, take}
use Rattle.byte_values.specs.Words.{gives_lanes, seen_of}
use Rattle.byte_values.proofs.held.seen_by.Given as goal

abbrev pub invariant-loop-holding : goal.invariant-loop-holding
invariant-loop-holding l =
    (l.left.items ≡ filter gives_lanes (map (seen_of l.held l.oldest) (take l.holding-index l.held))) × (length l.left.items ≤ l.holding-index)
