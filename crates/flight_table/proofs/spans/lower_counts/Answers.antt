use Rattle.std.proofs.Common.{◌<◌, map, set, ◌==◌, arith, ap, get_or, length, length-set, sym, ◌∙◌}
use Rattle.std.proofs.lemmas.Bool.{eq-eqb}
use Rattle.bus_words.proofs.MappedPlaces.{length_map}
use Rattle.flight_table.specs.Tables.{KeyedRequest}
use Rattle.flight_table.proofs.Walks.{fewer_marks, lowered_next, lowered_none, next_marked, none_marked, still_marked}
use Rattle.flight_table.proofs.SlotMarks.{still_held, unheld_next}
use Rattle.flight_table.proofs.spans.lower_counts.Goals as goal

pub loop-slot-smaller : goal.loop-slot-smaller
loop-slot-smaller c = rw c.in-Some.ensures.rest (fewer_marks c.loop-slot.held c.in-Some.slot (next_marked c.loop-slot.held c.in-Some.slot (sym c.take_first.ensures.first ∙ c.in-Some.is)))

pub place_in-requires-clause-slot : goal.place_in-requires-clause-slot
place_in-requires-clause-slot c = rw c.loop-slot.invariant.slots at (next_marked c.loop-slot.held c.in-Some.slot (sym c.take_first.ensures.first ∙ c.in-Some.is)).within

pub place_in-requires-clause-live : goal.place_in-requires-clause-live
place_in-requires-clause-live c = c.loop-slot.invariant.live c.in-Some.slot (next_marked c.loop-slot.held c.in-Some.slot (sym c.take_first.ensures.first ∙ c.in-Some.is)).marked

pub put-requires : goal.put-requires
put-requires c =
    omega (arith, c.place_in.ensures.within, ap length c.loop-slot.invariant.marks, length_map (λ (entry : KeyedRequest). entry.request) c.args.slots.now, length_map (λ (entry : KeyedRequest). get_or c.loop-slot.holders entry.key 0 == 0) c.args.slots.now)

pub loop-slot-smaller-then-count-ne0 : goal.loop-slot-smaller-then-count-ne0
loop-slot-smaller-then-count-ne0 c = rw c.in-Some.ensures.rest (fewer_marks c.loop-slot.held c.in-Some.slot (next_marked c.loop-slot.held c.in-Some.slot (sym c.take_first.ensures.first ∙ c.in-Some.is)))

-- a request that others hold back still
pub loop-slot-preserved-then-count-ne0 : goal.loop-slot-preserved-then-count-ne0
loop-slot-preserved-then-count-ne0 c =
    let held = c.loop-slot.held in
    let k = c.in-Some.slot in
    let counts = c.loop-slot.holders in
    let kept = c.loop-slot.invariant in
    let at = next_marked held k (sym c.take_first.ensures.first ∙ c.in-Some.is) in
    let within : k < length counts = omega (arith, at.within, kept.slots, kept.counts) in
    record {
      slots = rw c.in-Some.ensures.rest (length-set held k _ ∙ kept.slots);
      counts = length-set counts k _ ∙ kept.counts;
      live = λ slot marked. kept.live slot (still_marked held k slot (rw c.in-Some.ensures.rest at marked));
      lowered = rw (c.in-Some.ensures.rest, c.saturating_sub-count.ensures) (lowered_next held k counts 0 at (kept.slots ∙ sym kept.counts) ∙ kept.lowered);
      marks = kept.marks ∙ still_held c.args.slots.now k c.saturating_sub-count.result counts c.if-count-ne0.true c.saturating_sub-count.ensures within;
    }

-- and one that nobody holds back any more
pub loop-slot-preserved : goal.loop-slot-preserved
loop-slot-preserved c =
    let held = c.loop-slot.held in
    let k = c.in-Some.slot in
    let counts = c.loop-slot.holders in
    let kept = c.loop-slot.invariant in
    let at = next_marked held k (sym c.take_first.ensures.first ∙ c.in-Some.is) in
    let within : k < length counts = omega (arith, at.within, kept.slots, kept.counts) in
    record {
      slots = rw c.in-Some.ensures.rest (length-set held k _ ∙ kept.slots);
      counts = length-set counts k _ ∙ kept.counts;
      live = λ slot marked. kept.live slot (still_marked held k slot (rw c.in-Some.ensures.rest at marked));
      lowered = rw (c.in-Some.ensures.rest, c.saturating_sub-count.ensures) (lowered_next held k counts 0 at (kept.slots ∙ sym kept.counts) ∙ kept.lowered);
      marks =
          rw (c.put.ensures, kept.marks)
          (ap (set (map (λ (entry : KeyedRequest). get_or counts entry.key 0 == 0) c.args.slots.now) c.place_in.result) (sym (eq-eqb c.saturating_sub-count.result 0 c.if-count-ne0.false))
          ∙ unheld_next c.args.slots.now k c.place_in.result c.saturating_sub-count.result counts c.place_in.ensures.keys c.place_in.ensures.place within);
    }

pub returns-clause-holders : goal.returns-clause-holders
returns-clause-holders c =
    let held = c.loop-slot.held in
    sym (lowered_none held c.loop-slot.holders (none_marked held (sym c.take_first.ensures.first ∙ c.in_default.is))) ∙ c.loop-slot.invariant.lowered
