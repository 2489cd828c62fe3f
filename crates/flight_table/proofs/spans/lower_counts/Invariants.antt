use Rattle.std.proofs.Common.{◌≡◌, ◌==◌, length, map, get_or, ℕ, true, false}
use Rattle.std.specs.Prelude.{IsSome}
use Rattle.flight_table.specs.Spans.{lowered_in}
use Rattle.flight_table.specs.Marks.{number_of}
use Rattle.flight_table.specs.Tables.{KeyedRequest, request_in}
use Rattle.flight_table.proofs.spans.lower_counts.Given as goal

abbrev pub invariant-loop-slot : goal.invariant-loop-slot
invariant-loop-slot l = record {
  slots : length l.held ≡ 64;
  counts : length l.holders ≡ 64;
  live : (slot : ℕ) → get_or l.held slot false ≡ true → IsSome (request_in slot l.slots);
  lowered : lowered_in l.held l.holders ≡ lowered_in l.initial.held l.initial.holders;
  marks : l.unheld ≡ map (λ (entry : KeyedRequest). get_or l.holders entry.key 0 == 0) l.slots;
}

abbrev pub decreases-loop-slot : goal.decreases-loop-slot
decreases-loop-slot l = number_of l.held
