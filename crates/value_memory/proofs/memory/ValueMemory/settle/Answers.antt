-- What the word has settled as stands where those of all settled words do.
use Rattle.std.proofs.Common.{◌≡◌, ℕ, ◌*◌, ◌-◌, ◌/◌, ◌==◌, Bool, false, true, ◌||◌, Option, None, Some, is_none, ◌⊎◌, inl, inr, arith, ap, refl, subst, sym, ◌∙◌}
use Rattle.std.proofs.lemmas.Bool.{eqb-true}
use Rattle.sparse_memory.specs.SparseMemory.{bytes_in, doubts_in, put_flags, put_word}
use Rattle.value_tables.specs.Tables.{TableState, list_at, lost_since, released_at, settled_at}
use Rattle.value_tables.proofs.TableLaws.{released_here, released_other}
use Rattle.value_memory.specs.InsideValues.{KeepsRest}
use Rattle.value_memory.specs.ValueMemory.{ValueState, held_in}
use Rattle.value_memory.proofs.MemoryGoes.{IsReleased, pages-put, placed-settled, released-held, room-placed, sound-released, state_of}
use Rattle.value_memory.specs.States.{contents_of, may_leave, settled_as}
use Rattle.value_memory.proofs.StateSteps.{contents-put, settled-leaves, settled-waits}
use Rattle.value_memory.proofs.memory.ValueMemory.settle.Goals as goal
use Rattle.value_memory.proofs.memory.ValueMemory.settle.Goals.{After-release}

one_of : (lanes : ℕ) (o : Option ℕ) → ((lanes == 255) || is_none o) ≡ true → (lanes ≡ 255) ⊎ (o ≡ None)
one_of lanes None is = inr refl
one_of lanes (Some n) is = by_test (lanes == 255) refl is
  where
    by_test : (b : Bool) → (lanes == 255) ≡ b → (b || false) ≡ true → (lanes ≡ 255) ⊎ (Some n ≡ None)
    by_test true same or = inl (eqb-true lanes 255 same)
    by_test false same or = let never : false ≡ true = or in absurd (cc)

pub put_word-requires : goal.put_word-requires
put_word-requires c =
    let m : ValueState = state_of c.self.inside.table c.self.inside.settled c.self.inside.begun c.self.inside.oldest c.self.inside.crowds in
    let is : settled_at m.table c.args.word ≡ Some c.args.known = ap (λ (s : ValueState). settled_at s.table c.args.word) c.self.view_is ∙ c.requires in
    record { room = room-placed m c.args.word (placed-settled m c.args.word c.args.known c.self.invariant is) }

pub put_doubts-requires : goal.put_doubts-requires
put_doubts-requires c =
    let m : ValueState = state_of c.self.inside.table c.self.inside.settled c.self.inside.begun c.self.inside.oldest c.self.inside.crowds in
    let is : settled_at m.table c.args.word ≡ Some c.args.known = ap (λ (s : ValueState). settled_at s.table c.args.word) c.self.view_is ∙ c.requires in
    record { room = c.put_word.ensures.room (c.args.word * 8 / 4096) ∙ room-placed m c.args.word (placed-settled m c.args.word c.args.known c.self.invariant is) }

abbrev before : After-release → ValueState
before c = state_of c.self.inside.table c.self.inside.settled c.self.inside.begun c.self.inside.oldest c.self.inside.crowds

abbrev after : After-release → ValueState
after c = state_of c.release.new.self c.put_doubts.new.self c.self.inside.begun c.self.inside.oldest c.self.inside.crowds

released : (c : After-release) → IsReleased (before c) (after c) c.args.word c.args.known
released c =
    record {
      settled = ap (λ (s : ValueState). settled_at s.table c.args.word) c.self.view_is ∙ c.requires;
      gone = ap (λ (t : TableState). list_at t c.args.word) c.release.ensures ∙ released_here c.args.word c.self.inside.table;
      others = λ other differs. ap (λ (t : TableState). list_at t other) c.release.ensures ∙ released_other c.args.word other c.self.inside.table differs;
      lost = ap (λ (t : TableState). t.lost) c.release.ensures;
      oldest = refl;
      doubts = c.put_doubts.ensures.doubts ∙ ap (put_flags (c.args.word * 8) (255 - c.args.known.lanes) 255) c.put_word.ensures.doubts;
      bytes = c.put_doubts.ensures.bytes ∙ c.put_word.ensures.bytes;
      fits = omega arith;
      known_or_none = one_of c.args.known.lanes (lost_since c.self.inside.table c.self.inside.oldest) leaves;
    }
  where
    leaves : ((c.args.known.lanes == 255) || is_none (lost_since c.self.inside.table c.self.inside.oldest)) ≡ true
    leaves =
        ap (λ (s : ValueState). (c.args.known.lanes == 255) || is_none (lost_since s.table s.oldest)) c.self.view_is
        ∙ sym c.may_leave.ensures ∙ c.if-not-may_leave.false

kept : (c : After-release) → KeepsRest (before c) (after c)
kept c =
    record {
      pages = pages-put (before c) (after c) (c.put_doubts.ensures.faults ∙ c.put_word.ensures.faults) (λ page. c.put_doubts.ensures.room page ∙ c.put_word.ensures.room page);
      counts = record { begun = refl; oldest = refl; crowds = refl };
    }

pub invariant_of-self : goal.invariant_of-self
invariant_of-self c =
    let d = (goal.at.invariant_of-self c).After-release in
    sound-released (before d) (after d) c.args.word c.args.known (released d) (kept d) c.self.invariant

pub returns-clause-held : goal.returns-clause-held
returns-clause-held c =
    let d = (goal.at.returns-clause-held c).After-release in
    let P : ValueState → Type 0 = λ s. (x : ℕ) → held_in (after d) x ≡ held_in s x in
    subst P c.self.view_is (released-held (before d) (after d) c.args.word c.args.known (released d))

pub returns-clause-rest : goal.returns-clause-rest
returns-clause-rest c =
    let d = (goal.at.returns-clause-rest c).After-release in
    let P : ValueState → Type 0 = λ s. KeepsRest s (after d) in
    subst P c.self.view_is (kept d)

pub returns-then-not-may_leave-clause-state : goal.returns-then-not-may_leave-clause-state
returns-then-not-may_leave-clause-state c =
    settled-waits c.args.word c.args.known (contents_of c.args.self.now) (sym c.may_leave.ensures ∙ c.if-not-may_leave.true)

pub returns-clause-state : goal.returns-clause-state
returns-clause-state c =
    let d = (goal.at.returns-clause-state c).After-release in
    let is = released d in
    let rest = kept d in
    let m = before d in
    let leaves : may_leave (contents_of m) c.args.known ≡ true =
    ap (λ (s : ValueState). may_leave (contents_of s) c.args.known) c.self.view_is ∙ sym c.may_leave.ensures ∙ c.if-not-may_leave.false
    in
    let P : ValueState → Type 0 = λ s. contents_of (after d) ≡ settled_as c.args.word (Some c.args.known) (contents_of s) in
    subst P c.self.view_is
    (contents-put m c.release.new.self c.put_doubts.new.self (bytes_in c.put_doubts.new.self) (doubts_in c.put_doubts.new.self) (c.put_doubts.ensures.faults ∙ c.put_word.ensures.faults)
    refl refl
    ∙ ap (λ t. record (contents_of m) { table = t; bytes = bytes_in c.put_doubts.new.self; doubts = doubts_in c.put_doubts.new.self }) c.release.ensures
    ∙ ap (λ b. record (contents_of m) { table = released_at c.args.word m.table; bytes = b; doubts = doubts_in c.put_doubts.new.self }) is.bytes
    ∙ ap (λ d. record (contents_of m) { table = released_at c.args.word m.table; bytes = put_word (c.args.word * 8) c.args.known.value c.args.known.lanes (bytes_in m.settled); doubts = d }) is.doubts
    ∙ settled-leaves c.args.word c.args.known (contents_of m) leaves)
