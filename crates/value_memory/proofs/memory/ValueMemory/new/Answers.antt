-- No word has a list, and no page room.
use Rattle.std.proofs.Common.{◌∙◌}
use Rattle.value_memory.proofs.Counting.{fresh-held, fresh-rooms, fresh-sound}
use Rattle.value_memory.proofs.MemoryGoes.{pages-faults, state_of}
use Rattle.value_memory.proofs.StateSteps.{contents-new}
use Rattle.value_memory.proofs.memory.ValueMemory.new.Goals as goal

pub invariant_of-result : goal.invariant_of-result
invariant_of-result c = fresh-sound c.in_ok-new.field-0 c.in_ok-new-2.field-0 c.in_ok-new.ensures

pub returns-clause-held : goal.returns-clause-held
returns-clause-held c = fresh-held c.in_ok-new.field-0 c.in_ok-new-2.field-0 c.args.ranges.now c.in_ok-new.ensures c.in_ok-new-2.ensures.bytes c.in_ok-new-2.ensures.doubts

pub returns-clause-pages : goal.returns-clause-pages
returns-clause-pages c = pages-faults (state_of c.in_ok-new.field-0 c.in_ok-new-2.field-0 0 0 0) ∙ c.in_ok-new-2.ensures.faults

pub returns-clause-rooms : goal.returns-clause-rooms
returns-clause-rooms c = fresh-rooms c.in_ok-new.field-0 c.in_ok-new-2.field-0 c.in_ok-new-2.ensures.room

pub returns-clause-state : goal.returns-clause-state
returns-clause-state c =
    contents-new c.in_ok-new.field-0 c.in_ok-new-2.field-0 c.args.ranges.now c.args.bad_words.now c.in_ok-new.ensures c.in_ok-new-2.ensures.faults c.in_ok-new-2.ensures.bytes c.in_ok-new-2.ensures.doubts
