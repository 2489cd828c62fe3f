use Rattle.std.proofs.Common.{refl, sym, ap, arith, length}
use Rattle.flight_table.proofs.ClientLaws.{none_owned}
use Rattle.flight_table.proofs.HeldIds.{no_holders}
use Rattle.flight_table.proofs.SlotMarks.{no_slots}
use Rattle.flight_table.proofs.live.Live.new.Goals as goal

pub invariant_of-result : goal.invariant_of-result
invariant_of-result c = (
  rw (c.in_ok-slots.ensures, c.new-6.ensures, c.new-7.ensures, c.new-8.ensures) (record { open_bursts = refl; named_bursts = refl; free = refl }),
  rw (c.in_ok-slots.ensures, c.in_ok-rows.ensures) (record { each = tt; pages = λ page. sym (no_slots 64); all_counts = refl; all_sets = refl; all_spans = ap length (c.in_ok-spans.ensures.items_if_clones_equal (λ y same. same)) }),
  rw (c.in_ok-slots.ensures, c.in_ok-ids.ensures) (sym (no_holders 0 c.args.limits.ids)),
  rw (c.in_ok-slots.ensures, c.new-5.ensures) (record { sums_are = refl; small = tt; few = omega arith }),
  rw (c.in_ok-slots.ensures, c.in_ok-clients.ensures) (record { lists = sym (none_owned 0 8); few = tt }),
)
