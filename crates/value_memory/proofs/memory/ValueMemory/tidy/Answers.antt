-- The list is pruned, and what has settled says the same where it goes.
use Rattle.std.proofs.Common.{◌≡◌, [], false, None, Some, ap, refl, subst, ◌∙◌}
use Rattle.byte_values.specs.Words.{pruned_word}
use Rattle.value_memory.specs.InsideValues.{KeepsRest, with_table}
use Rattle.value_memory.specs.ValueMemory.{AllGo, ValueState, to_all}
use Rattle.value_memory.proofs.MemoryGoes.{all_after, all_held, keeps_then, pages-same, pruned_go, sound-changed, state_of}
use Rattle.value_memory.specs.States.{contents_of, tidied}
use Rattle.value_memory.proofs.StateSteps.{tidied-after}
use Rattle.value_memory.proofs.memory.ValueMemory.tidy.Goals as goal

pub invariant_of-self : goal.invariant_of-self
invariant_of-self c =
    let m : ValueState = state_of c.self.inside.table c.self.inside.settled c.self.inside.begun c.self.inside.oldest c.self.inside.crowds in
    sound-changed m (with_table m c.prune.new.self) (pruned_word m.oldest m.begun) c.args.word (ap (with_table m) c.prune.ensures) c.self.invariant

pub invariant_of-self-2 : goal.invariant_of-self-2
invariant_of-self-2 c =
    let m : ValueState = state_of c.self.inside.table c.self.inside.settled c.self.inside.begun c.self.inside.oldest c.self.inside.crowds in
    sound-changed m (with_table m c.prune.new.self) (pruned_word m.oldest m.begun) c.args.word (ap (with_table m) c.prune.ensures) c.self.invariant

pub returns-in_default-clause-goes : goal.returns-in_default-clause-goes
returns-in_default-clause-goes c =
    let m : ValueState = state_of c.self.inside.table c.self.inside.settled c.self.inside.begun c.self.inside.oldest c.self.inside.crowds in
    let P : ValueState → Type 0 = λ s. AllGo s.oldest false s (with_table m c.prune.new.self) (to_all []) in
    subst P c.self.view_is (pruned_go m (with_table m c.prune.new.self) c.args.word (ap (with_table m) c.prune.ensures) c.self.invariant.within)

pub returns-in_default-clause-rest : goal.returns-in_default-clause-rest
returns-in_default-clause-rest c =
    let m : ValueState = state_of c.self.inside.table c.self.inside.settled c.self.inside.begun c.self.inside.oldest c.self.inside.crowds in
    let P : ValueState → Type 0 = λ s. KeepsRest s (with_table m c.prune.new.self) in
    subst P c.self.view_is (record { pages = pages-same m (with_table m c.prune.new.self) refl; counts = record { begun = refl; oldest = refl; crowds = refl } })

pub returns-clause-goes : goal.returns-clause-goes
returns-clause-goes c =
    let m : ValueState = state_of c.self.inside.table c.self.inside.settled c.self.inside.begun c.self.inside.oldest c.self.inside.crowds in
    let P : ValueState → Type 0 = λ s. AllGo s.oldest false s c.settle.new.self (to_all []) in
    subst P c.self.view_is
    (all_after m.oldest false m (with_table m c.prune.new.self) c.settle.new.self (to_all [])
    (pruned_go m (with_table m c.prune.new.self) c.args.word (ap (with_table m) c.prune.ensures) c.self.invariant.within)
    (all_held m.oldest (with_table m c.prune.new.self) c.settle.new.self c.settle.ensures.rest.counts c.settle.ensures.held))

pub returns-clause-rest : goal.returns-clause-rest
returns-clause-rest c =
    let m : ValueState = state_of c.self.inside.table c.self.inside.settled c.self.inside.begun c.self.inside.oldest c.self.inside.crowds in
    let P : ValueState → Type 0 = λ s. KeepsRest s c.settle.new.self in
    let pruned : KeepsRest m (with_table m c.prune.new.self) = record { pages = pages-same m (with_table m c.prune.new.self) refl; counts = record { begun = refl; oldest = refl; crowds = refl } } in
    subst P c.self.view_is (keeps_then pruned c.settle.ensures.rest)

pub returns-in_default-clause-state : goal.returns-in_default-clause-state
returns-in_default-clause-state c =
    let m : ValueState = state_of c.self.inside.table c.self.inside.settled c.self.inside.begun c.self.inside.oldest c.self.inside.crowds in
    let P : ValueState → Type 0 = λ s. contents_of (with_table m c.prune.new.self) ≡ tidied c.args.word (contents_of s) in
    subst P c.self.view_is (tidied-after m c.prune.new.self c.args.word None c.prune.ensures c.in_default.ensures)

pub returns-clause-state : goal.returns-clause-state
returns-clause-state c =
    let m : ValueState = state_of c.self.inside.table c.self.inside.settled c.self.inside.begun c.self.inside.oldest c.self.inside.crowds in
    let P : ValueState → Type 0 = λ s. contents_of c.settle.new.self ≡ tidied c.args.word (contents_of s) in
    subst P c.self.view_is (c.settle.ensures.state ∙ tidied-after m c.prune.new.self c.args.word (Some c.in-Some.known) c.prune.ensures c.in-Some.ensures)
