-- Bridge and memory agree after a beat was performed, and where none was nothing changed.
use Rattle.std.proofs.Common.{◌≡◌, [], None, refl, subst, sym, ◌∙◌}
use Rattle.std.specs.Prelude.{slice_get}
use Rattle.subordinate.specs.FreeMemory.{waiting_beats}
use Rattle.world.specs.Choices.{PerformsFirst}
use Rattle.world.specs.Inside.{world_state}
use Rattle.world.specs.World.{WorldState}
use Rattle.world.proofs.FirstSteps.{none_at}
use Rattle.world.proofs.Taking.{first_done, none_done, paired_first}
use Rattle.world.proofs.world.World.perform_first.Goals as goal

pub returns-then-not-perform_first-clause-none : goal.returns-then-not-perform_first-clause-none
returns-then-not-perform_first-clause-none c = λ is.
    let inside = c.self.inside in
    let beats = waiting_beats inside.device.memory in
    let none = none_done inside.bridge inside.device c.perform_first.new.self inside.last_sent (slice_get beats 0) (sym c.if-not-perform_first.ensures.answer) c.if-not-perform_first.ensures.state in
    (subst (λ (state : WorldState). waiting_beats state.memory ≡ []) c.self.view_is (none_at beats none.0), none.1 ∙ c.self.view_is)

pub invariant_of-self-2 : goal.invariant_of-self-2
invariant_of-self-2 c =
    let inside = c.self.inside in
    (paired_first inside.bridge inside.device c.perform_first.new.self (slice_get (waiting_beats inside.device.memory) 0) c.self.invariant.0 c.perform_first.ensures.state c.perform_first.ensures.laws, c.self.invariant.1)

pub returns-clause-first : goal.returns-clause-first
returns-clause-first c = λ is.
    let inside = c.self.inside in
    subst (λ (state : WorldState). PerformsFirst state (world_state inside.bridge c.perform_first.new.self None)) c.self.view_is
    (first_done inside.bridge inside.device c.perform_first.new.self inside.last_sent (slice_get (waiting_beats inside.device.memory) 0) refl (sym c.if-not-perform_first.ensures.answer) c.perform_first.ensures.state)
