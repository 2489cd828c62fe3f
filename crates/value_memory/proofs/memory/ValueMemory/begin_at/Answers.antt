-- The word has a list that has the request, or its bytes are in doubt.
use Rattle.std.proofs.Common.{arith, ◌≡◌, ◌/◌, true, ap, inl, refl, subst, sym, ◌∙◌}
use Rattle.sparse_memory.specs.SparseMemory.{bytes_in, doubts_in, put_flags}
use Rattle.value_memory.specs.InsideValues.{KeepsRest, begun_table, settled_in, with_table}
use Rattle.value_memory.specs.ValueMemory.{ValueState, rooms_in}
use Rattle.value_memory.proofs.Beginnings.{BeginsAll, begins_found, begins_missed}
use Rattle.value_memory.proofs.MemoryGoes.{keeps_then, pages-put, pages-same, room-of, sound_as, state_of}
use Rattle.value_memory.specs.States.{contents_of}
use Rattle.value_memory.proofs.StateSteps.{begun-found, begun-missed, contents-put, crowded-found, crowded-missed}
use Rattle.value_memory.proofs.memory.ValueMemory.begin_at.Goals as goal
use Rattle.value_memory.proofs.memory.ValueMemory.begin_at.Goals.{After-begin_list, After-put_doubts}

-- only the table has changed first
listed : (c : After-begin_list) → KeepsRest c.args.self.now c.begin_list.new.self
listed c =
    let P : ValueState → Type 0 = λ s. KeepsRest c.args.self.now s in
    subst P (sym c.begin_list.ensures.state)
    (record {
      pages = pages-same c.args.self.now (with_table c.args.self.now (begun_table c.args.self.now (c.args.address / 8) c.args.lanes (settled_in c.args.self.now c.args.address))) refl;
      counts = record { begun = refl; oldest = refl; crowds = refl };
    })

pub returns-then-begin_list-clause-given : goal.returns-then-begin_list-clause-given
returns-then-begin_list-clause-given c =
    (begins_found c.args.self.now c.begin_list.new.self c.args.address c.args.lanes c.is_full-full.result c.begin_list.ensures.state (sym c.begin_list.ensures.place ∙ c.if-begin_list.true) c.is_full-full.ensures).given

pub returns-then-begin_list-clause-beside : goal.returns-then-begin_list-clause-beside
returns-then-begin_list-clause-beside c =
    (begins_found c.args.self.now c.begin_list.new.self c.args.address c.args.lanes c.is_full-full.result c.begin_list.ensures.state (sym c.begin_list.ensures.place ∙ c.if-begin_list.true) c.is_full-full.ensures).beside

pub returns-then-begin_list-clause-others : goal.returns-then-begin_list-clause-others
returns-then-begin_list-clause-others c =
    (begins_found c.args.self.now c.begin_list.new.self c.args.address c.args.lanes c.is_full-full.result c.begin_list.ensures.state (sym c.begin_list.ensures.place ∙ c.if-begin_list.true) c.is_full-full.ensures).others

pub returns-then-begin_list-clause-rest : goal.returns-then-begin_list-clause-rest
returns-then-begin_list-clause-rest c = listed (goal.at.returns-then-begin_list-clause-rest c).After-begin_list

abbrev before : After-put_doubts → ValueState
before c = state_of c.self.inside.table c.self.inside.settled c.self.inside.begun c.self.inside.oldest c.self.inside.crowds

abbrev after : After-put_doubts → ValueState
after c = state_of c.self.inside.table c.put_doubts.new.self c.self.inside.begun c.self.inside.oldest c.self.inside.crowds

kept : (c : After-put_doubts) → KeepsRest (before c) (after c)
kept c =
    record {
      pages = pages-put (before c) (after c) c.put_doubts.ensures.faults c.put_doubts.ensures.room;
      counts = record { begun = refl; oldest = refl; crowds = refl };
    }

missed : (c : After-put_doubts) → BeginsAll c.args.self.now (after c) c.args.address c.args.lanes true
missed c =
    begins_missed c.args.self.now c.begin_list.new.self (after c) c.args.address c.args.lanes c.begin_list.ensures.state (sym c.begin_list.ensures.place ∙ c.if-begin_list.false)
    (ap (λ (s : ValueState). s.table) c.self.view_is) (ap (λ (s : ValueState). s.oldest) c.self.view_is)
    (c.put_doubts.ensures.doubts ∙ ap (λ (s : ValueState). put_flags c.args.address c.args.lanes c.args.lanes (doubts_in s.settled)) c.self.view_is)
    (c.put_doubts.ensures.bytes ∙ ap (λ (s : ValueState). bytes_in s.settled) c.self.view_is) c.requires.some c.requires.oldest

pub put_doubts-requires : goal.put_doubts-requires
put_doubts-requires c =
    let rest = listed (goal.at.put_doubts-requires c).After-begin_list in
    let m : ValueState = state_of c.self.inside.table c.self.inside.settled c.self.inside.begun c.self.inside.oldest c.self.inside.crowds in
    let room : rooms_in m (c.args.address / 4096) ≡ true =
    ap (λ (s : ValueState). rooms_in s (c.args.address / 4096)) c.self.view_is ∙ rest.pages.rooms (c.args.address / 4096) ∙ c.requires.room
    in
    record { room = room-of m (c.args.address / 4096) room }

pub invariant_of-self : goal.invariant_of-self
invariant_of-self c =
    let d = (goal.at.invariant_of-self c).After-put_doubts in
    sound_as (before d) (after d) c.self.invariant c.self.invariant.few c.self.invariant.within c.self.invariant.lost c.self.invariant.crowds (omega arith) (λ page there. (kept d).pages.rooms page ∙ there)
    (λ word there. inl there)

pub returns-clause-given : goal.returns-clause-given
returns-clause-given c = (missed (goal.at.returns-clause-given c).After-put_doubts).given

pub returns-clause-beside : goal.returns-clause-beside
returns-clause-beside c = (missed (goal.at.returns-clause-beside c).After-put_doubts).beside

pub returns-clause-others : goal.returns-clause-others
returns-clause-others c = (missed (goal.at.returns-clause-others c).After-put_doubts).others

pub returns-clause-rest : goal.returns-clause-rest
returns-clause-rest c =
    let d = (goal.at.returns-clause-rest c).After-put_doubts in
    let first = listed (goal.at.returns-clause-rest c).After-begin_list in
    let P : ValueState → Type 0 = λ s. KeepsRest s (after d) in
    keeps_then first (subst P c.self.view_is (kept d))

pub returns-then-begin_list-clause-state : goal.returns-then-begin_list-clause-state
returns-then-begin_list-clause-state c =
    begun-found c.args.self.now c.begin_list.new.self c.args.address c.args.lanes c.begin_list.ensures.state (sym c.begin_list.ensures.place ∙ c.if-begin_list.true)

pub returns-then-begin_list-clause-crowded : goal.returns-then-begin_list-clause-crowded
returns-then-begin_list-clause-crowded c =
    crowded-found c.args.self.now c.args.address c.is_full-full.result (sym c.begin_list.ensures.place ∙ c.if-begin_list.true) c.is_full-full.ensures

pub returns-clause-state : goal.returns-clause-state
returns-clause-state c =
    let d = (goal.at.returns-clause-state c).After-put_doubts in
    let doubted =
    contents-put (before d) c.self.inside.table c.put_doubts.new.self (bytes_in c.self.inside.settled) (put_flags c.args.address c.args.lanes c.args.lanes (doubts_in c.self.inside.settled)) c.put_doubts.ensures.faults
    c.put_doubts.ensures.bytes c.put_doubts.ensures.doubts
    in
    begun-missed c.args.self.now c.begin_list.new.self (after d) c.args.address c.args.lanes c.begin_list.ensures.state (sym c.begin_list.ensures.place ∙ c.if-begin_list.false)
    (doubted ∙ ap (λ (s : ValueState). record (contents_of s) { doubts = put_flags c.args.address c.args.lanes c.args.lanes (doubts_in s.settled) }) c.self.view_is)

pub returns-clause-crowded : goal.returns-clause-crowded
returns-clause-crowded c = crowded-missed c.args.self.now c.args.address (sym c.begin_list.ensures.place ∙ c.if-begin_list.false)
