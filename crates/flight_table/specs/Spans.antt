-- What of a live request tells whom it conflicts with, by slot.
use Rattle.std.specs.Prelude.{◌≡◌, ℕ, ◌+◌, ◌-◌, ◌^◌, bit_or, Bool, ◌&&◌, not, List, [], ◌∷◌, Option, Some, None, nat_lt, if◌then◌else◌}
use Rattle.burst_plan.specs.Pieces.{PlannedRange, range_end}
use Rattle.flight_table.specs.LiveRequests.{LiveRequest}
use Rattle.flight_table.specs.Order.{is_get}
use Rattle.flight_table.specs.declared.spans.Span.{Span}

-- the address of a range's first byte, and that after its last; a request that sends nothing has the empty range
abbrev pub start_of : Option PlannedRange → ℕ
start_of None = 0
start_of (Some range) = range.address

abbrev pub end_of : Option PlannedRange → ℕ
end_of None = 0
end_of (Some range) = range_end range

-- a span has this range
pub record IsSpanOf (range : Option PlannedRange) (span : Span) : Type 0 where
  pub start : span.start ≡ start_of range
  pub end : span.end ≡ end_of range

abbrev pub span_of : LiveRequest → Span
span_of request = record { start = start_of request.plan; end = end_of request.plan; get = is_get request.operation }

-- whether two ranges share a byte
abbrev pub spans_meet : Span → Span → Bool
spans_meet a b = nat_lt a.start b.end && nat_lt b.start a.end

-- whether two requests conflict
abbrev pub spans_conflict : Span → Span → Bool
spans_conflict a b = spans_meet a b && not (a.get && b.get)

-- how many of those at the marked slots conflict with a request
abbrev pub counted_in : List Bool → Span → List Span → ℕ
counted_in [] span spans = 0
counted_in (mark ∷ row) span [] = 0
counted_in (mark ∷ row) span (other ∷ spans) = (if mark && spans_conflict other span then 1 else 0) + counted_in row span spans

-- the sets of those that each holds back, with the slot of this one in the set of each of them
abbrev pub joined_in : List Bool → Span → List Span → ℕ → List ℕ → List ℕ
joined_in [] span spans slot sets = sets
joined_in (mark ∷ row) span [] slot sets = sets
joined_in (mark ∷ row) span (other ∷ spans) slot [] = []
joined_in (mark ∷ row) span (other ∷ spans) slot (set ∷ sets) =
    (if mark && spans_conflict other span then bit_or set (2 ^ slot) else set) ∷ joined_in row span spans slot sets

-- the counts, of each at a marked slot lowered by one
abbrev pub lowered_in : List Bool → List ℕ → List ℕ
lowered_in [] counts = counts
lowered_in (mark ∷ row) [] = []
lowered_in (mark ∷ row) (count ∷ counts) = (count - (if mark then 1 else 0)) ∷ lowered_in row counts
