use Rattle.flight_table.proofs.slots.Slots.place_of.Goals as goal

pub place_in-requires-clause-live : goal.place_in-requires-clause-live
place_in-requires-clause-live c = rw c.slot.ensures.value c.requires

pub returns-clause-place : goal.returns-clause-place
returns-clause-place c = rw c.slot.ensures.value at c.place_in.ensures.place
