-- What was given up is over where no request is in flight any more that had begun by then.
use Rattle.std.proofs.Common.{◌≡◌, ◌+◌, ◌≤◌, [], false, ap, arith, inl, refl, subst, ◌∙◌}
use Rattle.value_memory.specs.ValueMemory.{AllGo, ValueState, to_all}
use Rattle.value_memory.proofs.MemoryGoes.{oldest_go, pages-same, sound_as, state_of}
use Rattle.value_memory.specs.States.{contents_of, with_oldest}
use Rattle.value_memory.proofs.StateSteps.{oldest-is}
use Rattle.value_memory.proofs.memory.ValueMemory.raise_oldest.Goals as goal

pub invariant_of-self : goal.invariant_of-self
invariant_of-self c =
    let m : ValueState = state_of c.self.inside.table c.self.inside.settled c.self.inside.begun c.self.inside.oldest c.self.inside.crowds in
    let new : ValueState = record m { oldest = c.args.oldest } in
    let same = ap (λ (s : ValueState). s.begun) c.self.view_is in
    let within : c.args.oldest ≤ c.self.inside.begun + 1 = omega (arith, c.requires.within, same) in
    sound_as m new c.self.invariant c.self.invariant.few within c.self.invariant.lost c.self.invariant.crowds (omega arith) (λ page there. (pages-same m new refl).rooms page ∙ there) (λ word there. inl there)

pub returns-clause-goes : goal.returns-clause-goes
returns-clause-goes c =
    let m : ValueState = state_of c.self.inside.table c.self.inside.settled c.self.inside.begun c.self.inside.oldest c.self.inside.crowds in
    let new : ValueState = record m { oldest = c.args.oldest } in
    let begun = ap (λ (s : ValueState). s.begun) c.self.view_is in
    let oldest = ap (λ (s : ValueState). s.oldest) c.self.view_is in
    let later : c.self.inside.oldest ≤ c.args.oldest = omega (arith, c.requires.from, oldest) in
    let within : c.args.oldest ≤ c.self.inside.begun + 1 = omega (arith, c.requires.within, begun) in
    let P : ValueState → Type 0 = λ s. AllGo c.args.oldest false s new (to_all []) in
    subst P c.self.view_is (oldest_go m new c.args.oldest refl later within c.self.invariant.lost)

pub returns-clause-pages : goal.returns-clause-pages
returns-clause-pages c =
    let m : ValueState = state_of c.self.inside.table c.self.inside.settled c.self.inside.begun c.self.inside.oldest c.self.inside.crowds in
    pages-same c.args.self.now (record m { oldest = c.args.oldest }) (ap (λ (s : ValueState). s.settled) c.self.view_is)

pub returns-clause-state : goal.returns-clause-state
returns-clause-state c =
    let m : ValueState = state_of c.self.inside.table c.self.inside.settled c.self.inside.begun c.self.inside.oldest c.self.inside.crowds in
    let P : ValueState → Type 0 = λ s. contents_of (record m { oldest = c.args.oldest }) ≡ with_oldest c.args.oldest (contents_of s) in
    subst P c.self.view_is (oldest-is m c.args.oldest)
