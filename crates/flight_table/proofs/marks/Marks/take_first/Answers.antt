use lib.Bits.{bit_and}
use Rattle.std.proofs.Common.{◌≡◌, ℕ, ◌-◌, ◌^◌, ◌<◌, ◌≤◌, List, Bool, false, Option, Some, arith, length, length-set, set, sym, ◌∙◌}
use Rattle.std.specs.List.{position}
use Rattle.flight_table.specs.Marks.{marks_of, number_of}
use Rattle.flight_table.proofs.Walks.{fewer_marks, next_marked}
use Rattle.flight_table.proofs.MarkLaws.{as_marks, as_number, first_taken, is_set}
use Rattle.flight_table.proofs.marks.Marks.take_first.Goals as goal

-- what is known of the first marked place
record Taken (count bits place : ℕ) (marks : List Bool) : Type 0 where
  less : 1 ≤ bits
  left : marks_of count (bit_and bits (bits - 1)) ≡ set marks place false

taken : (count bits place : ℕ) (marks : List Bool) (found : Option ℕ) → marks_of count bits ≡ marks → count ≤ 64 → bits < 2 ^ count → ((ms : List Bool) → length ms ≤ 64 → bits ≡ number_of ms → found ≡ position is_set ms) → found ≡ Some place → Taken count bits place marks
taken count bits place marks found is few fits first some =
    let known = as_number count bits marks is fits in
    let at : position is_set marks ≡ Some place = sym (first marks (omega (arith, known.0, few)) known.1) ∙ some in
    record {
      less = rw known.1 (omega (arith, fewer_marks marks place (next_marked marks place at)));
      left = as_marks count _ (set marks place false) (known.0 ∙ sym (length-set marks place false)) (rw known.1 (first_taken marks place at));
    }

pub returns-in_default-clause-first : goal.returns-in_default-clause-first
returns-in_default-clause-first c =
    let known = as_number c.self.inside.count c.self.inside.bits c.args.self.now c.self.view_is c.self.invariant.1 in
    sym c.in_default.is ∙ c.first_bit.ensures c.args.self.now (omega (arith, known.0, c.self.invariant.0)) known.1

pub overflow_sub-self : goal.overflow_sub-self
overflow_sub-self c = (taken c.self.inside.count c.self.inside.bits c.in-Some.place c.args.self.now c.first_bit.result c.self.view_is c.self.invariant.0 c.self.invariant.1 c.first_bit.ensures c.in-Some.is).less

pub returns-clause-first : goal.returns-clause-first
returns-clause-first c =
    let known = as_number c.self.inside.count c.self.inside.bits c.args.self.now c.self.view_is c.self.invariant.1 in
    sym c.in-Some.is ∙ c.first_bit.ensures c.args.self.now (omega (arith, known.0, c.self.invariant.0)) known.1

pub returns-clause-rest : goal.returns-clause-rest
returns-clause-rest c = (taken c.self.inside.count c.self.inside.bits c.in-Some.place c.args.self.now c.first_bit.result c.self.view_is c.self.invariant.0 c.self.invariant.1 c.first_bit.ensures c.in-Some.is).left
