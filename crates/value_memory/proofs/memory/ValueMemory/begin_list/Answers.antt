-- A list begins, or one that stands goes on.
use Rattle.std.proofs.Common.{◌<◌, arith, ◌≡◌, ◌/◌, ◌&&◌, false, true, not, if◌then◌else◌, ap, subst, sym, ◌∙◌}
use Rattle.byte_values.specs.declared.known.KnownBytes.{KnownBytes}
use Rattle.value_tables.specs.Tables.{begun_at, has_room}
use Rattle.value_memory.specs.InsideValues.{begun_table, is_given_up, settled_in, with_table}
use Rattle.value_memory.specs.ValueMemory.{ValueState, rooms_in}
use Rattle.value_memory.proofs.MemoryGoes.{sound-begun, state_of}
use Rattle.value_memory.proofs.memory.ValueMemory.begin_list.Goals as goal
use Rattle.value_memory.proofs.memory.ValueMemory.begin_list.Goals.{After-begin}

pub returns-then-is_given_up-clause-state : goal.returns-then-is_given_up-clause-state
returns-then-is_given_up-clause-state c =
    let now = c.args.self.now in
    let word = c.args.address / 8 in
    sym (ap (λ b. with_table now (if b then now.table else begun_at word now.begun c.args.lanes (settled_in now c.args.address) now.oldest now.table)) (sym c.is_given_up.ensures ∙ c.if-is_given_up.true))

pub returns-then-is_given_up-clause-place : goal.returns-then-is_given_up-clause-place
returns-then-is_given_up-clause-place c =
    sym (ap (λ b. not b && has_room c.args.self.now.table (c.args.address / 8)) (sym c.is_given_up.ensures ∙ c.if-is_given_up.true))

abbrev before : After-begin → ValueState
before c = state_of c.self.inside.table c.self.inside.settled c.self.inside.begun c.self.inside.oldest c.self.inside.crowds

becomes : (c : After-begin) → c.begin.new.self ≡ begun_table (before c) (c.args.address / 8) c.args.lanes (settled_in (before c) c.args.address)
becomes c =
    c.begin.ensures.table
    ∙ ap (λ (k : KnownBytes). begun_at (c.args.address / 8) c.self.inside.begun c.args.lanes k c.self.inside.oldest c.self.inside.table)
    (c.settled_word-known.ensures ∙ ap (λ (s : ValueState). settled_in s c.args.address) (sym c.self.view_is))
    ∙ ap (λ b. if b then c.self.inside.table else begun_at (c.args.address / 8) c.self.inside.begun c.args.lanes (settled_in (before c) c.args.address) c.self.inside.oldest c.self.inside.table) (sym stays)
  where
    stays : is_given_up (before c) (c.args.address / 8) ≡ false
    stays = ap (λ (s : ValueState). is_given_up s (c.args.address / 8)) c.self.view_is ∙ sym c.is_given_up.ensures ∙ c.if-is_given_up.false

pub invariant_of-self : goal.invariant_of-self
invariant_of-self c =
    let d = (goal.at.invariant_of-self c).After-begin in
    let room : rooms_in (before d) (c.args.address / 4096) ≡ true = ap (λ (s : ValueState). rooms_in s (c.args.address / 4096)) c.self.view_is ∙ c.requires.room in
    let begun = ap (λ (s : ValueState). s.begun) c.self.view_is in
    let some : 0 < c.self.inside.begun = omega (arith, c.requires.some, begun) in
    sound-begun (before d) (with_table (before d) c.begin.new.self) c.args.address c.args.lanes (ap (with_table (before d)) (becomes d)) c.ranges.address.fits some room c.self.invariant

pub returns-clause-state : goal.returns-clause-state
returns-clause-state c =
    let d = (goal.at.returns-clause-state c).After-begin in
    let P : ValueState → Type 0 = λ s. with_table (before d) c.begin.new.self ≡ with_table s (begun_table s (c.args.address / 8) c.args.lanes (settled_in s c.args.address)) in
    subst P c.self.view_is (ap (with_table (before d)) (becomes d))

pub returns-clause-place : goal.returns-clause-place
returns-clause-place c =
    c.begin.ensures.room
    ∙ ap (λ (s : ValueState). has_room s.table (c.args.address / 8)) c.self.view_is
    ∙ ap (λ b. not b && has_room c.args.self.now.table (c.args.address / 8)) (sym (sym c.is_given_up.ensures ∙ c.if-is_given_up.false))
