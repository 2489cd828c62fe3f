-- All lists are cut off, and what was given up is over.
use Rattle.std.proofs.Common.{◌≡◌, ◌+◌, ◌∷◌, [], false, ap, subst}
use Rattle.byte_orders.specs.Runs.{Resets}
use Rattle.value_tables.specs.Tables.{TableState}
use Rattle.value_memory.specs.ValueMemory.{AllGo, ValueState, to_all}
use Rattle.value_memory.proofs.MemoryGoes.{pages-same, reset_go, sound-reset, state_of}
use Rattle.value_memory.specs.States.{contents_of, cut_off}
use Rattle.value_memory.proofs.StateSteps.{reset-is}
use Rattle.value_memory.proofs.memory.ValueMemory.reset.Goals as goal

pub invariant_of-self : goal.invariant_of-self
invariant_of-self c =
    let m : ValueState = state_of c.self.inside.table c.self.inside.settled c.self.inside.begun c.self.inside.oldest c.self.inside.crowds in
    let is = ap (λ (t : TableState). state_of t m.settled m.begun (m.begun + 1) m.crowds) c.reset.ensures in
    sound-reset m (record m { table = c.reset.new.self; oldest = m.begun + 1 }) is c.self.invariant

pub returns-clause-goes : goal.returns-clause-goes
returns-clause-goes c =
    let m : ValueState = state_of c.self.inside.table c.self.inside.settled c.self.inside.begun c.self.inside.oldest c.self.inside.crowds in
    let new : ValueState = record m { table = c.reset.new.self; oldest = m.begun + 1 } in
    let is = ap (λ (t : TableState). state_of t m.settled m.begun (m.begun + 1) m.crowds) c.reset.ensures in
    let P : ValueState → Type 0 = λ s. AllGo s.oldest false s new (to_all (Resets ∷ [])) in
    subst P c.self.view_is (reset_go m new is c.self.invariant.within c.self.invariant.lost)

pub returns-clause-pages : goal.returns-clause-pages
returns-clause-pages c =
    let m : ValueState = state_of c.self.inside.table c.self.inside.settled c.self.inside.begun c.self.inside.oldest c.self.inside.crowds in
    pages-same c.args.self.now (record m { table = c.reset.new.self; oldest = m.begun + 1 }) (ap (λ (s : ValueState). s.settled) c.self.view_is)

pub returns-clause-state : goal.returns-clause-state
returns-clause-state c =
    let m : ValueState = state_of c.self.inside.table c.self.inside.settled c.self.inside.begun c.self.inside.oldest c.self.inside.crowds in
    let P : ValueState → Type 0 = λ s. contents_of (record m { table = c.reset.new.self; oldest = m.begun + 1 }) ≡ cut_off (contents_of s) in
    subst P c.self.view_is (reset-is m c.reset.new.self c.reset.ensures)
