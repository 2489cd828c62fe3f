-- The bytes are put where no word has a list.
use Rattle.std.proofs.Common.{◌≡◌, ℕ, None, ap, subst, ◌∙◌}
use Rattle.value_tables.specs.Tables.{list_at}
use Rattle.value_memory.specs.States.{filled_with}
use Rattle.value_memory.specs.ValueMemory.{ValueState}
use Rattle.value_memory.proofs.FilledMemory.{filled-held, no-list}
use Rattle.value_memory.proofs.MemoryGoes.{state_of}
use Rattle.value_memory.proofs.memory.ValueMemory.fill.Goals as goal

pub returns-clause-held : goal.returns-clause-held
returns-clause-held c = λ x.
    let m : ValueState = state_of c.self.inside.table c.self.inside.settled c.self.inside.begun c.self.inside.oldest c.self.inside.crowds in
    let P : ValueState → Type 0 = λ s. (word : ℕ) → list_at s.table word ≡ None in
    let none = subst P c.self.view_is (no-list m c.self.invariant (ap (λ (s : ValueState). s.begun) c.self.view_is ∙ c.requires.none)) in
    filled-held c.args.self.now c.put_each.new.self c.args.address c.args.bytes.now (c.put_each.ensures.state ∙ ap (filled_with c.args.address c.args.bytes.now) c.make_room_for.ensures.rest.contents) none x
