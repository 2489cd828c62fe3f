-- The burst that goes next (this project's profile: that of the ready request of the smallest number).
use Rattle.std.specs.Prelude.{ℕ, ◌≡◌, ◌^◌, List, [], map, Option, Some, find, unwrap_or, option_map, option_and_then, if◌then◌else◌}
use Rattle.tl_messages.specs.Requests.{WholeRequest, request_of}
use Rattle.tl_messages.specs.declared.Operation.{Operation}
use Rattle.tl_messages.specs.declared.Operation.TheVariants.{PutFull, PutPartial, Atomic, Get, Intent}
use Rattle.axi_beats.specs.Bursts.{Burst}
use Rattle.data_unit.specs.Atomics.{atomic_result, operand_of}
use Rattle.data_unit.specs.Words.{bytes_of}
use Rattle.burst_plan.specs.Pieces.{PlannedRange}
use Rattle.burst_plan.specs.PlannedBursts.{write_of, read_of}
use Rattle.burst_plan.specs.declared.Piece.{Piece}
use Rattle.flight_table.specs.LiveRequests.{next_piece, with_sent}
use Rattle.flight_table.specs.Order.{IsSmallestReady, id_for, next_ready}
use Rattle.flight_table.specs.Tables.{change_number}
use Rattle.bridge_core.specs.HeldRequests.{table_limits_of, BridgedRequest, RequestTable, flight_table_of, flights_of, may_send, value_found}

-- the bytes that a request writes: those that it gives, or an atomic's result from the old value
abbrev pub bytes_written : WholeRequest → Operation → ℕ → List (Option ℕ)
bytes_written q PutFull old = q.bytes
bytes_written q PutPartial old = q.bytes
bytes_written q (Atomic op) old = map Some (bytes_of (2 ^ q.size) (atomic_result op (2 ^ q.size) old (operand_of q)))
bytes_written q Get old = []
bytes_written q (Intent write) old = []

abbrev pub bytes_to_write : BridgedRequest → List (Option ℕ)
bytes_to_write request = bytes_written (request_of request.message) request.message.operation (unwrap_or (value_found request) 0)

-- a piece of a request's range as a burst
abbrev pub burst_of_piece : ℕ → BridgedRequest → PlannedRange → Piece → Burst
burst_of_piece id request range piece =
    if request.flight.writing then write_of range.bus_bytes id (bytes_to_write request) range.address piece else read_of id piece

-- the next burst of a request, under an ID
abbrev pub burst_for : ℕ → BridgedRequest → Option Burst
burst_for id request =
    option_and_then (λ range. option_map (burst_of_piece id request range) (next_piece request.flight)) request.flight.plan

-- a request, and the ID under which its next burst goes
pub record Sending : Type 0 where
  pub request : BridgedRequest
  pub id : ℕ
  pub burst : Burst

abbrev pub sending_of : RequestTable → BridgedRequest → Option Sending
sending_of table request =
    option_and_then (λ id. option_map (λ burst. record { request = request; id = id; burst = burst }) (burst_for id request))
    (id_for (table_limits_of table.config) (flights_of table.live) request.flight)

-- the ready request of the smallest number, with its next burst
abbrev pub next_sending : RequestTable → Option Sending
next_sending table = option_and_then (sending_of table) (find (may_send table) table.live)

-- what goes is the next burst of the request that the table of live requests names: that request is ready, every other that is ready has a larger
-- number, and after it this number's request has sent one burst more
pub record SendsSmallest (old new : RequestTable) (sending : Sending) : Type 0 where
  pub named : next_ready (flight_table_of old) ≡ Some sending.request.flight
  pub smallest : IsSmallestReady (flight_table_of old) sending.request.flight
  pub next : burst_for sending.id sending.request ≡ Some sending.burst
  pub further : flight_table_of new ≡ change_number sending.request.flight.number (with_sent sending.id) (flight_table_of old)
