-- The list of one word has changed.
use Rattle.std.proofs.Common.{◌≡◌, ◌/◌, ◌==◌, ℕ, ap, refl, subst}
use Rattle.byte_values.specs.Words.{changed_word}
use Rattle.value_memory.specs.InsideValues.{KeepsRest, held_changed, with_table}
use Rattle.value_memory.specs.ValueMemory.{ValueState, held_in}
use Rattle.value_memory.proofs.MemoryGoes.{held-at_word, pages-same, sound-changed, state_of}
use Rattle.value_memory.specs.States.{changed, contents_of}
use Rattle.value_memory.proofs.StateSteps.{list-changed}
use Rattle.value_memory.proofs.memory.ValueMemory.change_at.Goals as goal

pub invariant_of-self : goal.invariant_of-self
invariant_of-self c =
    let m : ValueState = state_of c.self.inside.table c.self.inside.settled c.self.inside.begun c.self.inside.oldest c.self.inside.crowds in
    sound-changed m (with_table m c.change.new.self) (changed_word c.args.change) c.args.word (ap (with_table m) c.change.ensures) c.self.invariant

pub returns-clause-held : goal.returns-clause-held
returns-clause-held c =
    let m : ValueState = state_of c.self.inside.table c.self.inside.settled c.self.inside.begun c.self.inside.oldest c.self.inside.crowds in
    let P : ValueState → Type 0 = λ s. (x : ℕ) → held_in (with_table m c.change.new.self) x ≡ held_changed c.args.change (x / 8 == c.args.word) x (held_in s x) in
    subst P c.self.view_is (held-at_word m (with_table m c.change.new.self) c.args.word c.args.change c.requires (ap (with_table m) c.change.ensures))

pub returns-clause-rest : goal.returns-clause-rest
returns-clause-rest c =
    let m : ValueState = state_of c.self.inside.table c.self.inside.settled c.self.inside.begun c.self.inside.oldest c.self.inside.crowds in
    let P : ValueState → Type 0 = λ s. KeepsRest s (with_table m c.change.new.self) in
    subst P c.self.view_is (record { pages = pages-same m (with_table m c.change.new.self) refl; counts = record { begun = refl; oldest = refl; crowds = refl } })

pub returns-clause-state : goal.returns-clause-state
returns-clause-state c =
    let m : ValueState = state_of c.self.inside.table c.self.inside.settled c.self.inside.begun c.self.inside.oldest c.self.inside.crowds in
    let P : ValueState → Type 0 = λ s. contents_of (with_table m c.change.new.self) ≡ changed c.args.change c.args.word (contents_of s) in
    subst P c.self.view_is (list-changed m c.change.new.self c.args.change c.args.word c.change.ensures)
