use Rattle.std.proofs.Common.{ap, true, false, arith, get_or, length-set, sym, ◌∙◌}
use Rattle.flight_table.proofs.MarkLaws.{unit_is}
use Rattle.flight_table.proofs.Walks.{counted_most, counted_next, counted_none, fewer_marks, joined, joined_next, joined_none, joined_same, next_marked, none_marked}
use Rattle.flight_table.proofs.spans.join.Goals as goal

pub overflow_add-count : goal.overflow_add-count
overflow_add-count c =
    let at = next_marked c.loop-earlier.row c.in-Some.earlier (sym c.take_first.ensures.first ∙ c.in-Some.is) in
    let one_more = counted_next c.loop-earlier.row c.in-Some.earlier c.args.request.now c.args.spans.now _ true at (c.loop-earlier.invariant.slots ∙ sym c.requires.spans) (sym c.conflicts.ensures ∙ c.if-not-conflicts.false) in
    omega (arith, one_more, c.loop-earlier.invariant.counted, counted_most c.args.row c.args.request.now c.args.spans.now, c.requires.spans)

pub loop-earlier-smaller : goal.loop-earlier-smaller
loop-earlier-smaller c = rw c.in-Some.ensures.rest (fewer_marks c.loop-earlier.row c.in-Some.earlier (next_marked c.loop-earlier.row c.in-Some.earlier (sym c.take_first.ensures.first ∙ c.in-Some.is)))

pub loop-earlier-smaller-then-not-conflicts : goal.loop-earlier-smaller-then-not-conflicts
loop-earlier-smaller-then-not-conflicts c = rw c.in-Some.ensures.rest (fewer_marks c.loop-earlier.row c.in-Some.earlier (next_marked c.loop-earlier.row c.in-Some.earlier (sym c.take_first.ensures.first ∙ c.in-Some.is)))

pub loop-earlier-preserved-then-not-conflicts : goal.loop-earlier-preserved-then-not-conflicts
loop-earlier-preserved-then-not-conflicts c =
    let row = c.loop-earlier.row in
    let k = c.in-Some.earlier in
    let kept = c.loop-earlier.invariant in
    let at = next_marked row k (sym c.take_first.ensures.first ∙ c.in-Some.is) in
    let long = kept.slots ∙ sym c.requires.spans in
    let apart = sym c.conflicts.ensures ∙ c.if-not-conflicts.true in
    record {
      slots = rw c.in-Some.ensures.rest (length-set row k _ ∙ kept.slots);
      sets = kept.sets;
      counted = rw c.in-Some.ensures.rest (omega (arith, counted_next row k c.args.request.now c.args.spans.now _ false at long apart, kept.counted));
      joined = rw c.in-Some.ensures.rest (joined_same row k c.args.request.now c.args.spans.now c.args.slot c.loop-earlier.held _ at long (kept.sets ∙ sym c.requires.spans) apart ∙ kept.joined);
    }

pub loop-earlier-preserved : goal.loop-earlier-preserved
loop-earlier-preserved c =
    let row = c.loop-earlier.row in
    let k = c.in-Some.earlier in
    let kept = c.loop-earlier.invariant in
    let at = next_marked row k (sym c.take_first.ensures.first ∙ c.in-Some.is) in
    let long = kept.slots ∙ sym c.requires.spans in
    let holds = sym c.conflicts.ensures ∙ c.if-not-conflicts.false in
    record {
      slots = rw c.in-Some.ensures.rest (length-set row k _ ∙ kept.slots);
      sets = length-set c.loop-earlier.held k _ ∙ kept.sets;
      counted = rw c.in-Some.ensures.rest (omega (arith, counted_next row k c.args.request.now c.args.spans.now _ true at long holds, kept.counted));
      joined =
          rw (c.in-Some.ensures.rest, unit_is c.args.slot c.requires.slot)
          (joined_next row k c.args.request.now c.args.spans.now c.args.slot c.loop-earlier.held _ 0 _ at long (kept.sets ∙ sym c.requires.spans) (sym (ap (λ b. joined b c.args.slot (get_or c.loop-earlier.held k 0)) holds)) ∙ kept.joined);
    }

pub returns-clause-count : goal.returns-clause-count
returns-clause-count c =
    let row = c.loop-earlier.row in
    omega (arith, c.loop-earlier.invariant.counted, counted_none row c.args.request.now c.args.spans.now (none_marked row (sym c.take_first.ensures.first ∙ c.in_default.is)))

pub returns-clause-held : goal.returns-clause-held
returns-clause-held c =
    let row = c.loop-earlier.row in
    sym (joined_none row c.args.request.now c.args.spans.now c.args.slot c.loop-earlier.held (none_marked row (sym c.take_first.ensures.first ∙ c.in_default.is))) ∙ c.loop-earlier.invariant.joined
