-- So many slots are there.
use Rattle.std.proofs.Common.{◌≡◌, take, length}
use Rattle.axi_checker.specs.Slots.{AreSlots}
use Rattle.axi_checker.proofs.queue.all_slots.Given as goal

abbrev pub invariant-loop-slot : goal.invariant-loop-slot
invariant-loop-slot l = (length l.slots ≡ 128) × (AreSlots l.slot (take l.slot l.slots))
