-- Where there is no list nothing changes.
use Rattle.std.proofs.Common.{false, ap, ◌∙◌}
use Rattle.value_tables.specs.Tables.{word_beside}
use Rattle.value_memory.specs.ValueMemory.{ValueState}
use Rattle.value_memory.proofs.MemoryGoes.{all_nowhere}
use Rattle.value_memory.specs.States.{contents_of}
use Rattle.value_memory.proofs.StateSteps.{beside-none, beside-some}
use Rattle.value_memory.proofs.memory.ValueMemory.tidy_beside.Goals as goal

pub returns-in_default-clause-goes : goal.returns-in_default-clause-goes
returns-in_default-clause-goes c = all_nowhere c.args.self.now.oldest false c.args.self.now

pub returns-in_default-clause-state : goal.returns-in_default-clause-state
returns-in_default-clause-state c = beside-none c.args.word c.args.place (contents_of c.args.self.now)
    (c.in_default.ensures ∙ ap (λ (s : ValueState). word_beside s.table c.args.word c.args.place) c.self.view_is)

pub returns-clause-state : goal.returns-clause-state
returns-clause-state c =
    c.tidy.ensures.state
    ∙ beside-some c.args.word c.args.place c.in-Some.other (contents_of c.args.self.now) (c.in-Some.ensures ∙ ap (λ (s : ValueState). word_beside s.table c.args.word c.args.place) c.self.view_is)
