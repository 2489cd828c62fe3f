-- What is kept by slot of whom each live request holds back, and by whom it is held back.
use Rattle.std.specs.Prelude.{◌≡◌, ℕ, ◌<◌, true, Bool, false, List, [], ◌∷◌, IfSome, Some, length, replicate, slice_index_or, slice_set}
use Rattle.std.specs.List.{AllByRecursion}
use Rattle.burst_plan.specs.Pieces.{IsPlannable}
use Rattle.flight_table.specs.Inside.{count_holders}
use Rattle.flight_table.specs.LiveRequests.{LiveRequest}
use Rattle.flight_table.specs.Marks.{number_of}
use Rattle.flight_table.specs.Order.{holds_back}
use Rattle.flight_table.specs.Rows.{bits_of, is_on}
use Rattle.flight_table.specs.Spans.{span_of}
use Rattle.flight_table.specs.Tables.{KeyedRequest, requests_of}
use Rattle.flight_table.specs.declared.rows.Row.{Row}
use Rattle.flight_table.specs.declared.spans.Span.{Span}

-- marks at the 64 slots, of those whose request passes a test
abbrev pub slot_marks : (LiveRequest → Bool) → List KeyedRequest → List Bool
slot_marks test [] = replicate 64 false
slot_marks test (entry ∷ entries) = slice_set (slot_marks test entries) entry.key (test entry.request)

-- those that a request holds back
abbrev pub is_held_by : LiveRequest → LiveRequest → Bool
is_held_by request later = holds_back later request

-- in the slot of a live request stand its range, how many hold it back, which is none once it is done, and the set of those that it holds back
pub record IsInSlot (entries : List KeyedRequest) (counts sets : List ℕ) (spans : List Span) (entry : KeyedRequest) : Type 0 where
  pub slot : entry.key < 64
  pub range : IfSome entry.request.plan IsPlannable
  pub span : (none : Span) → slice_index_or spans entry.key none ≡ span_of entry.request
  pub count : slice_index_or counts entry.key 0 ≡ count_holders (requests_of entries) entry.request
  pub free : entry.request.done ≡ true → count_holders (requests_of entries) entry.request ≡ 0
  pub set : slice_index_or sets entry.key 0 ≡ number_of (slot_marks (is_held_by entry.request) entries)

-- so it is of each, and each page's row has just the slots of those that lie in it and aren't done
pub record AreInSlots (entries : List KeyedRequest) (counts sets : List ℕ) (spans : List Span) (rows : List Row) : Type 0 where
  pub each : AllByRecursion (IsInSlot entries counts sets spans) entries
  pub pages : (page : ℕ) → bits_of page rows ≡ number_of (slot_marks (is_on (Some page)) entries)
  pub all_counts : length counts ≡ 64
  pub all_sets : length sets ≡ 64
  pub all_spans : length spans ≡ 64
