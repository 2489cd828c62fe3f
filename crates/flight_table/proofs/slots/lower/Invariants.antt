use Rattle.std.proofs.Common.{◌≡◌}
use Rattle.flight_table.proofs.SlotPlaces.{lowered_to}
use Rattle.flight_table.proofs.slots.lower.Given as goal

abbrev pub invariant-loop-other : goal.invariant-loop-other
invariant-loop-other l = l.places ≡ lowered_to l.other-index l.place l.fn.places
