-- The next slot is stored behind those before it.
use Rattle.std.proofs.Common.{◌<◌, take, length, ◌∙◌, arith}
use Rattle.std.proofs.lemmas.List.{length-set}
use Rattle.axi_checker.proofs.Slots.{slot_stored, slots_more}
use Rattle.axi_checker.proofs.queue.all_slots.Goals as goal

pub loop-slot-preserved : goal.loop-slot-preserved
loop-slot-preserved c =
    let slots = c.loop-slot.slots in
    let slot = c.loop-slot.slot in
    let within : slot < length slots = omega (arith, c.loop-slot.invariant.0, c.loop-slot-test.true) in (
      length-set slots c.from.result slot ∙ c.loop-slot.invariant.0,
      rw (c.from.ensures, slot_stored slot slot slots within) (slots_more slot (take slot slots) c.loop-slot.invariant.1),
    )
