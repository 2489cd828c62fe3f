-- One byte of its word is strobed.
use Rattle.std.proofs.Common.{◌≡◌, ◌/◌, arith, ap, inl, refl, subst, ◌∙◌}
use Rattle.data_unit.specs.Words.{placed_at}
use Rattle.sparse_memory.specs.SparseMemory.{put_flags}
use Rattle.value_memory.specs.InsideValues.{KeepsRest}
use Rattle.value_memory.specs.States.{contents_of, with_byte}
use Rattle.value_memory.specs.ValueMemory.{ValueState, rooms_in}
use Rattle.value_memory.proofs.FilledMemory.{byte-contents}
use Rattle.value_memory.proofs.MemoryGoes.{pages-put, room-of, sound_as, state_of}
use Rattle.value_memory.proofs.memory.ValueMemory.put_byte.Goals as goal
use Rattle.value_memory.proofs.memory.ValueMemory.put_byte.Goals.{After-put_doubts}

abbrev before : After-put_doubts → ValueState
before c = state_of c.self.inside.table c.self.inside.settled c.self.inside.begun c.self.inside.oldest c.self.inside.crowds

abbrev after : After-put_doubts → ValueState
after c = state_of c.self.inside.table c.put_doubts.new.self c.self.inside.begun c.self.inside.oldest c.self.inside.crowds

kept : (c : After-put_doubts) → KeepsRest (before c) (after c)
kept c =
    record {
      pages = pages-put (before c) (after c) (c.put_doubts.ensures.faults ∙ c.put_word.ensures.faults) (λ page. c.put_doubts.ensures.room page ∙ c.put_word.ensures.room page);
      counts = record { begun = refl; oldest = refl; crowds = refl };
    }

pub put_word-requires : goal.put_word-requires
put_word-requires c =
    let m : ValueState = state_of c.self.inside.table c.self.inside.settled c.self.inside.begun c.self.inside.oldest c.self.inside.crowds in
    record { room = room-of m (c.args.address / 4096) (ap (λ (s : ValueState). rooms_in s (c.args.address / 4096)) c.self.view_is ∙ c.requires.room) }

pub put_doubts-requires : goal.put_doubts-requires
put_doubts-requires c =
    let m : ValueState = state_of c.self.inside.table c.self.inside.settled c.self.inside.begun c.self.inside.oldest c.self.inside.crowds in
    record {
      room = c.put_word.ensures.room (c.args.address / 4096)
          ∙ room-of m (c.args.address / 4096) (ap (λ (s : ValueState). rooms_in s (c.args.address / 4096)) c.self.view_is ∙ c.requires.room);
    }

pub invariant_of-self : goal.invariant_of-self
invariant_of-self c =
    let d = (goal.at.invariant_of-self c).After-put_doubts in
    sound_as (before d) (after d) c.self.invariant c.self.invariant.few c.self.invariant.within c.self.invariant.lost c.self.invariant.crowds (omega arith) (λ page there. (kept d).pages.rooms page ∙ there)
    (λ word there. inl there)

pub returns-clause-state : goal.returns-clause-state
returns-clause-state c =
    let d = (goal.at.returns-clause-state c).After-put_doubts in
    let P : ValueState → Type 0 = λ s. contents_of (after d) ≡ with_byte c.args.address c.args.byte (contents_of s) in
    subst P c.self.view_is
    (byte-contents (before d) c.put_doubts.new.self c.args.address c.args.byte c.place-word.result c.full_mask-strobes.result c.ranges.byte.fits (c.place-word.ensures.value ∙ ap (λ n. placed_at n c.args.address 0) c.from.ensures) c.full_mask-strobes.ensures.value
    (c.put_doubts.ensures.faults ∙ c.put_word.ensures.faults) (c.put_doubts.ensures.bytes ∙ c.put_word.ensures.bytes)
    (c.put_doubts.ensures.doubts ∙ ap (put_flags c.args.address 0 c.full_mask-strobes.result) c.put_word.ensures.doubts))

pub returns-clause-rest : goal.returns-clause-rest
returns-clause-rest c =
    let d = (goal.at.returns-clause-rest c).After-put_doubts in
    let P : ValueState → Type 0 = λ s. KeepsRest s (after d) in
    subst P c.self.view_is (kept d)
