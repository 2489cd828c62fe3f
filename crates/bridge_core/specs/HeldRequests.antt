-- The live requests of a bridge: accepted, and their replies not taken yet (this project's profile).
use Rattle.std.specs.Prelude.{ℕ, ◌+◌, Bool, ◌&&◌, not, List, [], ◌∷◌, ◌++◌, map, Option, is_none, is_some, find, if◌then◌else◌, option_map}
use Rattle.bus_words.specs.Places.{change_first, without_first}
use Rattle.tl_messages.specs.Requests.{HeldMessage, WholeRequest, request_of}
use Rattle.tl_messages.specs.declared.DBeat.{DBeat}
use Rattle.axi_beats.specs.declared.RBeat.{RBeat}
use Rattle.axi_beats.specs.declared.Resp.{Resp}
use Rattle.burst_plan.specs.PageMap.{address_of}
use Rattle.burst_plan.specs.Pieces.{PlannedRange}
use Rattle.burst_plan.specs.declared.Region.{Region}
use Rattle.flight_table.specs.LiveRequests.{LiveRequest, finished, flight_for, is_settled, with_answered, with_sent, with_write}
use Rattle.flight_table.specs.Order.{holds_id, is_ready}
use Rattle.flight_table.specs.Tables.{FlightTable, has_number, is_done_of}
use Rattle.flight_table.specs.declared.TableLimits.{TableLimits}
use Rattle.responses.specs.Gathered.{Gathering, after_b, after_r, gathered, gathering_of, old_value, outline_of}
use Rattle.responses.specs.Shown.{shown}
use Rattle.responses.specs.declared.gather.Outline.{Outline}
use Rattle.config.specs.declared.Config.{Config}

-- a live request: its place in the order of bursts, the message that asks for it, and what its answers have told so far
pub record BridgedRequest : Type 0 where
  pub flight : LiveRequest
  pub message : HeldMessage
  pub gathering : Gathering

-- the live requests by rising number, and how many were accepted
pub record RequestTable : Type 0 where
  pub config : Config
  pub regions : List Region
  pub accepted : ℕ
  pub live : List BridgedRequest

-- what the table of live requests allows
abbrev pub table_limits_of : Config → TableLimits
table_limits_of config = record { clients = config.clients; quota = config.quota; ids = config.ids; depth = config.depth }

-- as the order of bursts sees them
abbrev pub flights_of : List BridgedRequest → List LiveRequest
flights_of live = map (λ request. request.flight) live

-- the live requests as the order of bursts sees them, with how many were accepted
abbrev pub flight_table_of : RequestTable → FlightTable
flight_table_of table = record { limits = table_limits_of table.config; accepted = table.accepted; live = flights_of table.live }

-- what its reply needs of a request
abbrev pub outline_in : BridgedRequest → Outline
outline_in request = outline_of (request_of request.message)

-- ---- a request is accepted

-- its range on the AXI side, with the way it is cut into bursts
abbrev pub range_at : Config → WholeRequest → ℕ → PlannedRange
range_at config q address = record { bus_bytes = config.axi_bytes; max_len = config.max_len; address = address; size = q.size }

abbrev pub range_of : Config → List Region → WholeRequest → Option PlannedRange
range_of config regions q = option_map (range_at config q) (address_of regions q)

-- a request just accepted; it is denied where it has no AXI address, and done at once where it sends nothing, as an Intent does
abbrev pub newly_live : RequestTable → HeldMessage → BridgedRequest
newly_live table message =
    record {
      flight = flight_for table.accepted message.client message (range_of table.config table.regions (request_of message));
      message = message;
      gathering = gathering_of (outline_of (request_of message)) (is_none (address_of table.regions (request_of message)));
    }

abbrev pub with_request : HeldMessage → RequestTable → RequestTable
with_request message table = record table { accepted = table.accepted + 1; live = table.live ++ newly_live table message ∷ [] }

-- ---- which request

-- that may send its next burst
abbrev pub may_send : RequestTable → BridgedRequest → Bool
may_send table request = is_ready (flight_table_of table) request.flight

-- that has a number, that holds an ID, that is done and a client's
abbrev pub is_numbered : ℕ → BridgedRequest → Bool
is_numbered number request = has_number number request.flight

abbrev pub holds : ℕ → BridgedRequest → Bool
holds id request = holds_id id request.flight

abbrev pub is_done_for : ℕ → BridgedRequest → Bool
is_done_for client request = is_done_of client request.flight

-- the live request that holds an ID
abbrev pub holder : ℕ → List BridgedRequest → Option BridgedRequest
holder id live = find (holds id) live

-- a client's live request of the smallest number that is done
abbrev pub oldest_done : List BridgedRequest → ℕ → Option BridgedRequest
oldest_done live client = find (is_done_for client) live

-- ---- a burst is sent, or answered

abbrev pub after_sending : ℕ → BridgedRequest → BridgedRequest
after_sending id request = record request { flight = with_sent id request.flight }

abbrev pub with_sent_burst : ℕ → ℕ → RequestTable → RequestTable
with_sent_burst number id table = record table { live = change_first (is_numbered number) (after_sending id) table.live }

-- the old value of an atomic, once its read was answered; none where the read failed
abbrev pub value_found : BridgedRequest → Option ℕ
value_found request = old_value (outline_in request) request.gathering

-- where all answers of its phase came: an atomic that found its old value goes on to write, and every other request is done
abbrev pub settled : BridgedRequest → BridgedRequest
settled request =
    if is_settled request.flight
    then record request { flight = if not request.flight.writing && is_some (value_found request) then with_write request.flight else finished request.flight }
    else request

-- a request after the B of one of its bursts
abbrev pub after_response : Resp → BridgedRequest → BridgedRequest
after_response resp request = settled (record request { flight = with_answered request.flight; gathering = after_b resp request.gathering })

-- a request after the next R of the burst that was sent first of those that are unanswered: its place is the number of those that came before
abbrev pub after_read : ℕ → RBeat → BridgedRequest → BridgedRequest
after_read bus_bytes r request =
    settled
    (record request {
      flight = if r.last then with_answered request.flight else request.flight;
      gathering = after_r bus_bytes (outline_in request) r request.gathering.came request.gathering;
    })

abbrev pub with_response : ℕ → Resp → RequestTable → RequestTable
with_response id resp table = record table { live = change_first (holds id) (after_response resp) table.live }

abbrev pub with_read : RBeat → RequestTable → RequestTable
with_read r table = record table { live = change_first (holds r.id) (after_read table.config.axi_bytes r) table.live }

-- ---- a reply is taken

-- the beats of a request's reply
abbrev pub reply_beats : BridgedRequest → List DBeat
reply_beats request = shown (request_of request.message) (gathered (outline_in request) request.gathering)

abbrev pub without_done : ℕ → RequestTable → RequestTable
without_done client table = record table { live = without_first (is_done_for client) table.live }
