-- It is one event to each byte of the words.
use Rattle.std.proofs.Common.{◌≡◌, ℕ, ap, subst}
use Rattle.byte_values.specs.declared.change.Change.TheVariants as change
use Rattle.value_memory.specs.InsideValues.{held_changed}
use Rattle.value_memory.specs.ValueMemory.{ValueState, held_in, shares_word}
use Rattle.value_memory.proofs.MemoryGoes.{ends_go}
use Rattle.value_memory.specs.States.{at_each_word, changed, contents_of}
use Rattle.value_memory.proofs.StateSteps.{ended-is}
use Rattle.value_memory.proofs.memory.ValueMemory.end.Goals as goal

pub returns-clause-goes : goal.returns-clause-goes
returns-clause-goes c =
    let now = c.args.self.now in
    let held : ℕ → Type 0 = λ n. (x : ℕ) → held_in c.change_each-2.new.self x ≡ held_changed (change.Ends c.args.number n) (shares_word c.args.range x) x (held_in now x) in
    ends_go now c.change_each-2.new.self c.args.range c.args.number c.change_each-2.ensures.rest.counts
    (subst held (ap (λ (s : ValueState). s.begun) c.change_each.view_is) c.change_each-2.ensures.held)

pub returns-clause-state : goal.returns-clause-state
returns-clause-state c =
    let now = c.args.self.now in
    let P : ℕ → Type 0 = λ n. contents_of c.change_each-2.new.self ≡ at_each_word (changed (change.Ends c.args.number n)) c.args.range (contents_of now) in
    ended-is c.args.number c.args.range (contents_of now) (contents_of c.change_each-2.new.self)
    (subst P (ap (λ (s : ValueState). s.begun) c.change_each.view_is) c.change_each-2.ensures.state)
