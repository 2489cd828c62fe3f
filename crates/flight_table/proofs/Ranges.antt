-- Ranges that meet have an address in common, and spans tell which requests conflict.
use Rattle.std.proofs.Common.{◌≡◌, ◌↔◌, ℕ, true, false, ◌&&◌, not, Option, Some, None, IsTrue, ap, max, arith, nat_lt}
use Rattle.std.proofs.lemmas.Bool.{and_parts, ltb-true}
use Rattle.std.proofs.lemmas.Nat.{pow_pos}
use Rattle.burst_plan.specs.Pieces.{PlannedRange, range_end}
use Rattle.flight_table.specs.LiveRequests.{LiveRequest}
use Rattle.flight_table.specs.Order.{HaveCommonAddress, conflict, is_get, ranges_meet, share_bytes}
use Rattle.flight_table.specs.Spans.{IsSpanOf, end_of, span_of, spans_conflict, spans_meet, start_of}
use Rattle.flight_table.specs.declared.spans.Span.{Span}
use Rattle.std.proofs.lemmas.Bool.Decides.{nat_tests}

meet : (a b : PlannedRange) → ranges_meet a b ≡ true → HaveCommonAddress (Some a) (Some b)
meet a b test =
    let parts = and_parts (nat_lt a.address (range_end b)) (nat_lt b.address (range_end a)) test in
    let first = ltb-true a.address (range_end b) parts.0 in
    let second = ltb-true b.address (range_end a) parts.1 in
    (max a.address b.address, record { first = omega arith; last = omega (arith, first, second, pow_pos a.size) }, record { first = omega arith; last = omega (arith, first, second, pow_pos b.size) })

back : (a b : PlannedRange) → HaveCommonAddress (Some a) (Some b) → ranges_meet a b ≡ true
back a b shared = grind (arith, shared)

common_address : (a b : Option PlannedRange) → IsTrue (share_bytes a b) ↔ HaveCommonAddress a b
common_address None b = (λ test. absurd (cc (test)), λ none. absurd none)
common_address (Some a) None = (λ test. absurd (cc (test)), λ none. absurd none)
common_address (Some a) (Some b) = (meet a b, back a b)

-- ---- spans

none_below : (n : ℕ) → nat_lt n 0 ≡ false
none_below n = grind (arith, nat_tests)

ranges_share : (a b : Option PlannedRange) → (nat_lt (start_of a) (end_of b) && nat_lt (start_of b) (end_of a)) ≡ share_bytes a b
ranges_share a b = grind (arith, none_below)

pub span_conflicts : (a b : LiveRequest) → spans_conflict (span_of a) (span_of b) ≡ conflict a b
span_conflicts a b = ap (λ shared. shared && not (is_get a.operation && is_get b.operation)) (ranges_share a.plan b.plan)

pub span_met : (x y : Span) (a b : Option PlannedRange) → IsSpanOf a x → IsSpanOf b y → IsTrue (spans_meet x y) ↔ HaveCommonAddress a b
span_met x y a b is_a is_b = rw (is_a.start, is_a.end, is_b.start, is_b.end, ranges_share a b) (common_address a b)
