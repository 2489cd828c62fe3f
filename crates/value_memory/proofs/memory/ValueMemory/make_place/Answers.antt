-- Where there is a place nothing changes.
use Rattle.std.proofs.Common.{false, ap, sym, ◌∙◌}
use Rattle.value_tables.specs.Tables.{has_room}
use Rattle.value_memory.specs.ValueMemory.{ValueState}
use Rattle.value_memory.proofs.MemoryGoes.{all_nowhere}
use Rattle.value_memory.specs.States.{contents_of}
use Rattle.value_memory.proofs.StateSteps.{place-made, place-there}
use Rattle.value_memory.proofs.memory.ValueMemory.make_place.Goals as goal

pub returns-then-has_room-clause-goes : goal.returns-then-has_room-clause-goes
returns-then-has_room-clause-goes c = all_nowhere c.args.self.now.oldest false c.args.self.now

pub returns-then-has_room-clause-state : goal.returns-then-has_room-clause-state
returns-then-has_room-clause-state c =
    place-there c.args.word (contents_of c.args.self.now)
    (sym (c.if-has_room.ensures ∙ ap (λ (s : ValueState). has_room s.table c.args.word) c.self.view_is))

pub returns-clause-state : goal.returns-clause-state
returns-clause-state c = c.sweep.ensures.state ∙ place-made c.args.word (contents_of c.args.self.now)
    (sym (c.if-has_room.ensures ∙ ap (λ (s : ValueState). has_room s.table c.args.word) c.self.view_is))
