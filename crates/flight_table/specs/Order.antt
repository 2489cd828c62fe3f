-- Which request may send next (this project's profile: conflicting requests keep the order of acceptance).
use Rattle.std.specs.Prelude.{ℕ, ◌≡◌, ◌≤◌, ◌==◌, Bool, true, false, ◌&&◌, not, List, Option, Some, None, is_some, find, filter, nat_lt, IsTrue}
use Rattle.std.specs.List.{AllByRecursion, list_any, range_with_len}
use Rattle.std.specs.Option.{option_or}
use Rattle.tl_messages.specs.declared.Operation.{Operation}
use Rattle.tl_messages.specs.declared.Operation.TheVariants.{PutFull, PutPartial, Atomic, Get, Intent}
use Rattle.burst_plan.specs.Pieces.{PlannedRange, range_end}
use Rattle.burst_plan.specs.PlannedTransfers.{HasAddress}
use Rattle.flight_table.specs.LiveRequests.{LiveRequest, next_piece, unanswered}
use Rattle.flight_table.specs.Tables.{FlightTable}
use Rattle.flight_table.specs.declared.TableLimits.{TableLimits}

-- whether two ranges share a byte
abbrev pub ranges_meet : PlannedRange → PlannedRange → Bool
ranges_meet a b = nat_lt a.address (range_end b) && nat_lt b.address (range_end a)

-- a request that sends nothing has no range, and shares none
abbrev pub share_bytes : Option PlannedRange → Option PlannedRange → Bool
share_bytes None b = false
share_bytes (Some a) None = false
share_bytes (Some a) (Some b) = ranges_meet a b

-- the two ranges have an address in common
abbrev pub HaveCommonAddress : Option PlannedRange → Option PlannedRange → Type 0
HaveCommonAddress None b = ⊥
HaveCommonAddress (Some a) None = ⊥
HaveCommonAddress (Some a) (Some b) = (x : ℕ) × HasAddress a x × HasAddress b x

abbrev pub is_get : Operation → Bool
is_get PutFull = false
is_get PutPartial = false
is_get (Atomic op) = false
is_get Get = true
is_get (Intent write) = false

-- two planned requests conflict where their ranges of AXI addresses share a byte and at least one is no Get
abbrev pub conflict : LiveRequest → LiveRequest → Bool
conflict a b = share_bytes a.plan b.plan && not (is_get a.operation && is_get b.operation)

-- whether one request holds back another: it has a smaller number, isn't done, sent or waiting, and conflicts
abbrev pub holds_back : LiveRequest → LiveRequest → Bool
holds_back request earlier = nat_lt earlier.number request.number && not earlier.done && conflict earlier request

-- those that hold back a request
abbrev pub holders : List LiveRequest → LiveRequest → List LiveRequest
holders live request = filter (holds_back request) live

abbrev pub is_held : List LiveRequest → LiveRequest → Bool
is_held live request = list_any (holds_back request) live

-- whether a request holds an ID
abbrev pub is_id : ℕ → Option ℕ → Bool
is_id id None = false
is_id id (Some held) = held == id

abbrev pub holds_id : ℕ → LiveRequest → Bool
holds_id id request = is_id id request.id

abbrev pub holder_of : FlightTable → ℕ → Option LiveRequest
holder_of table id = find (holds_id id) table.live

-- the smallest ID that nobody holds
abbrev pub is_free : List LiveRequest → ℕ → Bool
is_free live id = not (list_any (holds_id id) live)

abbrev pub free_id : ℕ → List LiveRequest → Option ℕ
free_id ids live = find (is_free live) (range_with_len 0 ids)

-- the ID of a request's next burst: its own, or the smallest free one
abbrev pub id_for : TableLimits → List LiveRequest → LiveRequest → Option ℕ
id_for limits live request = option_or request.id (free_id limits.ids live)

-- whether a request may send its next burst
abbrev pub may_send : TableLimits → List LiveRequest → LiveRequest → Bool
may_send limits live request =
    not request.done && is_some (next_piece request) && nat_lt (unanswered request) limits.depth && is_some (id_for limits live request)
    && not (is_held live request)

abbrev pub is_ready : FlightTable → LiveRequest → Bool
is_ready table request = may_send table.limits table.live request

-- the ready request of the smallest number
abbrev pub next_ready : FlightTable → Option LiveRequest
next_ready table = find (is_ready table) table.live

-- a request is ready, and every other that is ready has a larger number
pub record IsSmallestReady (table : FlightTable) (request : LiveRequest) : Type 0 where
  pub ready : IsTrue (is_ready table request)
  pub smallest : AllByRecursion (λ other. is_ready table other ≡ true → request.number ≤ other.number) table.live

-- a request is done and its client is this one, and every other done request of the client has a larger number
pub record IsSmallestDone (table : FlightTable) (client : ℕ) (request : LiveRequest) : Type 0 where
  pub done : request.done ≡ true
  pub whose : request.client ≡ client
  pub smallest : AllByRecursion (λ other. other.client ≡ client → other.done ≡ true → request.number ≤ other.number) table.live
