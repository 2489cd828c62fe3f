-- A page gets room, and nothing else changes.
use Rattle.std.proofs.Common.{arith, false, ◌≡◌, ℕ, ◌/◌, ◌==◌, ◌||◌, ap, inl, refl, subst, sym, ◌∙◌}
use Rattle.std.specs.Prelude.{OnErr, OnOk}
use Rattle.subordinate.specs.Faults.{Faults, is_good, standing_at}
use Rattle.value_memory.specs.ValueMemory.{ValueState, held_in, pages_of, rooms_in}
use Rattle.value_memory.proofs.HeldLaws.{held-same}
use Rattle.value_memory.proofs.MemoryGoes.{pages-faults, rooms-reserved, rooms-stay, sound_as, state_of}
use Rattle.value_memory.specs.States.{contents_of}
use Rattle.value_memory.proofs.StateSteps.{room-made, room-refused}
use Rattle.value_memory.proofs.memory.ValueMemory.make_room.Goals as goal
use Rattle.value_memory.proofs.memory.ValueMemory.make_room.Goals.{After-reserve}

abbrev before : After-reserve → ValueState
before c = state_of c.self.inside.table c.self.inside.settled c.self.inside.begun c.self.inside.oldest c.self.inside.crowds

abbrev after : After-reserve → ValueState
after c = state_of c.self.inside.table c.reserve.new.self c.self.inside.begun c.self.inside.oldest c.self.inside.crowds

pub reserve-requires : goal.reserve-requires
reserve-requires c =
    let m : ValueState = state_of c.self.inside.table c.self.inside.settled c.self.inside.begun c.self.inside.oldest c.self.inside.crowds in
    record { good = ap (λ (f : Faults). is_good (standing_at f c.args.address)) (sym (pages-faults m) ∙ ap pages_of c.self.view_is) ∙ c.requires.good }

pub invariant_of-self : goal.invariant_of-self
invariant_of-self c =
    let d = (goal.at.invariant_of-self c).After-reserve in
    sound_as (before d) (after d) c.self.invariant c.self.invariant.few c.self.invariant.within c.self.invariant.lost c.self.invariant.crowds (omega arith)
    (rooms-stay c.reserve.result (before d) (after d) (c.args.address / 4096) c.reserve.ensures.room c.reserve.ensures.refused) (λ word there. inl there)

pub returns-clause-held : goal.returns-clause-held
returns-clause-held c =
    let d = (goal.at.returns-clause-held c).After-reserve in
    λ x.
    held-same (before d) (after d) x (record { list = refl; lost = refl; doubt = ap (λ f. f x) c.reserve.ensures.doubts; byte = ap (λ f. f x) c.reserve.ensures.bytes })
    ∙ ap (λ (s : ValueState). held_in s x) c.self.view_is

pub returns-clause-pages : goal.returns-clause-pages
returns-clause-pages c =
    let d = (goal.at.returns-clause-pages c).After-reserve in
    pages-faults (after d) ∙ c.reserve.ensures.faults ∙ sym (pages-faults (before d)) ∙ ap pages_of c.self.view_is

pub returns-clause-rooms : goal.returns-clause-rooms
returns-clause-rooms c =
    let d = (goal.at.returns-clause-rooms c).After-reserve in
    let P : ValueState → Type 0 = λ s. OnOk c.reserve.result ((page : ℕ) → rooms_in (after d) page ≡ (rooms_in s page || page == c.args.address / 4096)) in
    subst P c.self.view_is (rooms-reserved c.reserve.result (before d) (after d) (c.args.address / 4096) c.reserve.ensures.room)

pub returns-clause-state : goal.returns-clause-state
returns-clause-state c =
    let d = (goal.at.returns-clause-state c).After-reserve in
    room-made (before d) c.reserve.new.self c.reserve.ensures.faults c.reserve.ensures.bytes c.reserve.ensures.doubts ∙ ap contents_of c.self.view_is

pub returns-clause-cause : goal.returns-clause-cause
returns-clause-cause c =
    let d = (goal.at.returns-clause-cause c).After-reserve in
    let P : ValueState → Type 0 = λ s. OnErr c.reserve.result (rooms_in s (c.args.address / 4096) ≡ false) in
    subst P c.self.view_is (room-refused c.reserve.result (before d) (c.args.address / 4096) c.reserve.ensures.has_room)
