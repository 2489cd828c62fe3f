-- A live request: it was accepted, and its reply wasn't taken yet (this project's profile).
use Rattle.std.specs.Prelude.{ℕ, ◌+◌, ◌-◌, Bool, true, ◌&&◌, not, List, [], length, Option, Some, None, is_none, if◌then◌else◌, slice_get, nat_le}
use Rattle.tl_messages.specs.Operations.{has_data, reply_has_data}
use Rattle.tl_messages.specs.Requests.{HeldMessage}
use Rattle.tl_messages.specs.declared.Operation.{Operation}
use Rattle.tl_messages.specs.declared.Operation.TheVariants.{PutFull, PutPartial, Atomic, Get, Intent}
use Rattle.burst_plan.specs.Pieces.{PlannedRange, pieces}
use Rattle.burst_plan.specs.declared.Piece.{Piece}

-- who asks for what under which number; the range of AXI addresses with its plan, which a request that sends nothing doesn't have; its ID; and how
-- far it has come: it reads, as a Get and at first an atomic do, or writes, as a Put and then an atomic do, and has sent and answered so many bursts
-- of this phase; or it is done
pub record LiveRequest : Type 0 where
  pub number : ℕ
  pub client : ℕ
  pub source : ℕ
  pub operation : Operation
  pub plan : Option PlannedRange
  pub id : Option ℕ
  pub writing : Bool
  pub sent : ℕ
  pub answered : ℕ
  pub done : Bool

-- an Intent sends nothing, so it has no plan
abbrev pub plan_for : Operation → Option PlannedRange → Option PlannedRange
plan_for PutFull plan = plan
plan_for PutPartial plan = plan
plan_for (Atomic op) plan = plan
plan_for Get plan = plan
plan_for (Intent write) plan = None

-- a request as it is accepted; without a plan it is done at once
abbrev pub flight_for : ℕ → ℕ → HeldMessage → Option PlannedRange → LiveRequest
flight_for number client request plan =
    record {
      number = number;
      client = client;
      source = request.source;
      operation = request.operation;
      plan = plan_for request.operation plan;
      id = None;
      writing = not (reply_has_data request.operation);
      sent = 0;
      answered = 0;
      done = is_none (plan_for request.operation plan);
    }

-- ---- its bursts

abbrev pub pieces_planned : Option PlannedRange → List Piece
pieces_planned None = []
pieces_planned (Some range) = pieces range

-- whether a request reads and then writes
abbrev pub reads_then_writes : LiveRequest → Bool
reads_then_writes request = reply_has_data request.operation && has_data request.operation

-- the pieces that it reads, as a Get and an atomic do
abbrev pub read_pieces : LiveRequest → List Piece
read_pieces request = if reply_has_data request.operation then pieces_planned request.plan else []

-- those that it writes, as a Put and an atomic do
abbrev pub write_pieces : LiveRequest → List Piece
write_pieces request = if has_data request.operation then pieces_planned request.plan else []

-- the pieces of its phase, each of which is a burst: a write where the request writes, else a read
abbrev pub planned : LiveRequest → List Piece
planned request = if request.writing then write_pieces request else read_pieces request

-- how many bursts it has sent since it was accepted: while it writes, its reads too
abbrev pub all_sent : LiveRequest → ℕ
all_sent request = (if request.writing then length (read_pieces request) else 0) + request.sent

-- that of the next burst, if one is planned and unsent
abbrev pub next_piece : LiveRequest → Option Piece
next_piece request = slice_get (planned request) request.sent

-- how many bursts are sent and unanswered
abbrev pub unanswered : LiveRequest → ℕ
unanswered request = request.sent - request.answered

-- whether nothing that is planned is open
abbrev pub is_settled : LiveRequest → Bool
is_settled request = nat_le (length (planned request)) request.answered

-- whether an atomic's read was answered and its write isn't planned
abbrev pub awaits_write : LiveRequest → Bool
awaits_write request = reads_then_writes request && not request.done && not request.writing && is_settled request

-- ---- what the calls change

-- one more burst is sent, under an ID that the request keeps
abbrev pub with_sent : ℕ → LiveRequest → LiveRequest
with_sent id request = record request { id = Some id; sent = request.sent + 1 }

abbrev pub with_answered : LiveRequest → LiveRequest
with_answered request = record request { answered = request.answered + 1 }

-- from reading to writing
abbrev pub with_write : LiveRequest → LiveRequest
with_write request = record request { writing = true; sent = 0; answered = 0 }

-- done, and its ID free again
abbrev pub finished : LiveRequest → LiveRequest
finished request = record request { id = None; done = true }
