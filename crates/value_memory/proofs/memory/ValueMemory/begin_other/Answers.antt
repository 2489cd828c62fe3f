-- Only how many have begun has changed.
use Rattle.std.proofs.Common.{◌≡◌, ◌+◌, ◌<◌, ◌^◌, None, ap, arith, refl, subst}
use Rattle.byte_orders.specs.Runs.{Others, Reads}
use Rattle.value_memory.specs.ValueMemory.{AllGo, ValueState, begins, begins_reading, is_crowded_since}
use Rattle.value_memory.proofs.Counting.{other_go, sound-counted}
use Rattle.value_memory.proofs.Going.{quiet_others, quiet_reads}
use Rattle.value_memory.proofs.MemoryGoes.{pages-same, state_of}
use Rattle.value_memory.specs.States.{contents_of, with_request}
use Rattle.value_memory.proofs.memory.ValueMemory.begin_other.Goals as goal

pub invariant_of-self : goal.invariant_of-self
invariant_of-self c =
    let m : ValueState = state_of c.self.inside.table c.self.inside.settled c.self.inside.begun c.self.inside.oldest c.self.inside.crowds in
    let same = ap (λ (s : ValueState). s.begun) c.self.view_is in
    let few : c.self.inside.begun < 2 ^ 63 = omega (arith, c.requires, same) in
    sound-counted m (record m { begun = m.begun + 1 }) refl few c.self.invariant

pub returns-clause-others : goal.returns-clause-others
returns-clause-others c =
    let m : ValueState = state_of c.self.inside.table c.self.inside.settled c.self.inside.begun c.self.inside.oldest c.self.inside.crowds in
    let new : ValueState = record m { begun = m.begun + 1 } in
    let P : ValueState → Type 0 = λ s. AllGo s.oldest (is_crowded_since s new) s new (begins (s.begun + 1) None) in
    subst P c.self.view_is (other_go m new (is_crowded_since m new) (Others (m.begun + 1)) refl (quiet_others (m.begun + 1)))

pub returns-clause-reads : goal.returns-clause-reads
returns-clause-reads c =
    let m : ValueState = state_of c.self.inside.table c.self.inside.settled c.self.inside.begun c.self.inside.oldest c.self.inside.crowds in
    let new : ValueState = record m { begun = m.begun + 1 } in
    let P : ValueState → Type 0 = λ s. AllGo s.oldest (is_crowded_since s new) s new (begins_reading (s.begun + 1) None) in
    subst P c.self.view_is (other_go m new (is_crowded_since m new) (Reads (m.begun + 1)) refl (quiet_reads (m.begun + 1)))

pub returns-clause-pages : goal.returns-clause-pages
returns-clause-pages c =
    let m : ValueState = state_of c.self.inside.table c.self.inside.settled c.self.inside.begun c.self.inside.oldest c.self.inside.crowds in
    pages-same c.args.self.now (record m { begun = m.begun + 1 }) (ap (λ (s : ValueState). s.settled) c.self.view_is)

pub returns-clause-state : goal.returns-clause-state
returns-clause-state c =
    let m : ValueState = state_of c.self.inside.table c.self.inside.settled c.self.inside.begun c.self.inside.oldest c.self.inside.crowds in
    let P : ValueState → Type 0 = λ s. contents_of (record m { begun = m.begun + 1 }) ≡ with_request None (contents_of s) in
    subst P c.self.view_is refl
