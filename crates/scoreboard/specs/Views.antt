-- What a layer above may ask of a board that judges payloads itself: of each reply that may come next its next beat, and what its request does to the
-- memory; the message that came whole last; and the bytes of the burst to which a response comes that is an error.
use Rattle.std.specs.Prelude.{ℕ, ◌≡◌, ◌<◌, Bool, false, List, [], ◌∷◌, length, Option, Some, None, Result, Ok, Err, option_and_then, option_to_list, slice_get}
use Rattle.std.specs.List.{AllByRecursion}
use Rattle.std.specs.Option.{option_or}
use Rattle.tl_messages.specs.Requests.{HeldMessage}
use Rattle.tl_messages.specs.declared.ABeat.{ABeat}
use Rattle.tl_messages.specs.declared.DBeat.{DBeat}
use Rattle.tl_checker.specs.Ports.{joined}
use Rattle.tl_checker.specs.declared.Progress.{Progress}
use Rattle.tl_checker.specs.declared.Progress.TheVariants.{More, Whole}
use Rattle.tl_checker.specs.declared.TlRule.{TlRule}
use Rattle.axi_checker.specs.OpenBursts.{OpenBursts}
use Rattle.axi_checker.specs.declared.AxiBeat.{AxiBeat}
use Rattle.scoreboard.specs.Boards.{Board, ClientBoard, answer_to, early_flight, next_to}
use Rattle.scoreboard.specs.FailedBursts.{Span, answered_span}
use Rattle.scoreboard.specs.Flights.{Footprint, InFlight, due_to, is_over}
use Rattle.scoreboard.specs.declared.Errors.{Errors}
use Rattle.scoreboard.specs.declared.Errors.TheVariants.{Any, Strict}
use Rattle.scoreboard.specs.declared.ObservedBeat.{ObservedBeat}
use Rattle.scoreboard.specs.declared.ObservedBeat.TheVariants.{A, D, Axi as OnAxi, Drained}
use Rattle.scoreboard.specs.declared.Policy.{Policy}
use Rattle.scoreboard.specs.declared.Policy.TheVariants.{RealTime}
use Rattle.scoreboard.specs.declared.Wrong.{Wrong}
use Rattle.scoreboard.specs.declared.views.ReplyView.{ReplyView}

-- ---- replies

-- what is seen of a reply by the beats that are left of it, and the footprint of its request: its next beat, and what the request does to the memory. Nothing
-- where no beat is left
abbrev pub left_view : Footprint → List DBeat → Option ReplyView
left_view footprint [] = None
left_view footprint (due ∷ rest) =
    Some (record {
      due = due;
      left = length (due ∷ rest);
      address = footprint.address;
      size = footprint.size;
      reads = footprint.reads;
      writes = footprint.writes;
      failed = footprint.failed;
    })

-- of the reply to a request in flight
abbrev pub view_of : InFlight → Option ReplyView
view_of flight = left_view flight.footprint flight.beats

-- of the reply that has begun to a client, if it is there, and one has
abbrev pub begun_view : Option ClientBoard → Option ReplyView
begun_view None = None
begun_view (Some client) = option_and_then view_of client.flights.begun

-- of the one that is due to a source, and of which no beat came
abbrev pub due_view : Option ClientBoard → ℕ → Option ReplyView
due_view None source = None
due_view (Some client) source = option_and_then view_of (due_to client.flights source)

-- of the one to the message that has begun, where that is of a source and its reply may come before it is whole
abbrev pub early_view : Option ClientBoard → ℕ → Option ReplyView
early_view None source = None
early_view (Some client) source = option_and_then view_of (early_flight client client.early source)

-- of the one whose next a beat of a source may be, where requests take effect in real time
abbrev pub next_view : Option ClientBoard → ℕ → Option ReplyView
next_view None source = None
next_view (Some client) source = option_and_then view_of (next_to RealTime client source)

-- the first of these that there is: the one that has begun, else the one that is due, else the one that may come early
abbrev pub first_view : Option ClientBoard → ℕ → Option ReplyView
first_view client source = option_or (begun_view client) (option_or (due_view client source) (early_view client source))

-- a beat is left of the reply to a request in flight
abbrev pub HasBeat : InFlight → Type 0
HasBeat flight = 0 < length flight.beats

-- of each of a client's
abbrev pub HaveBeats : ClientBoard → Type 0
HaveBeats client = AllByRecursion HasBeat client.flights.due × AllByRecursion HasBeat (option_to_list client.flights.begun)

-- of each client's
abbrev pub AllHaveBeats : Board → Type 0
AllHaveBeats board = (number : ℕ) (client : ClientBoard) → slice_get board.clients number ≡ Some client → HaveBeats client

-- whether the reply that has begun to a client is over where a beat of a source comes, since that is the first of another
abbrev pub is_cut_short : Option ClientBoard → ℕ → Bool
is_cut_short None source = false
is_cut_short (Some client) source = is_over client.flights source

-- ---- messages

-- the message that a beat makes whole, by what its client's port answers and by the message with this beat; none where that isn't whole, or the beat is wrong
abbrev pub if_whole : Result Progress TlRule → HeldMessage → Option HeldMessage
if_whole (Ok Whole) message = Some message
if_whole (Ok More) message = None
if_whole (Err broken) message = None

-- of a client, if it is there
abbrev pub made_whole : Policy → Option ClientBoard → ABeat → Option HeldMessage
made_whole policy None beat = None
made_whole policy (Some client) beat = if_whole (answer_to policy client beat) (joined client.limits client.front beat)

-- of any beat that was observed: only one on channel A makes a message whole
abbrev pub whole_with : Policy → Board → ObservedBeat → Option HeldMessage
whole_with policy board (A client beat) = made_whole policy (slice_get board.clients client) beat
whole_with policy board (D client beat) = None
whole_with policy board (OnAxi beat) = None
whole_with policy board Drained = None

-- ---- error responses

-- the bytes of the burst to which a beat is a response that is an error, where errors are told in any way, whether or not it breaks a rule
abbrev pub span_answered : Errors → OpenBursts → AxiBeat → Option Span
span_answered Strict open_bursts beat = None
span_answered Any open_bursts beat = answered_span open_bursts beat

-- it counts where nothing is wrong with the beat
abbrev pub if_right : Option Wrong → Option Span → Option Span
if_right None span = span
if_right (Some wrong) span = None
