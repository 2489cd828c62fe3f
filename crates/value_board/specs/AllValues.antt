-- The memory of values and the numbers of all clients' requests together: what becomes of them when a request ends, and at a reset.
use Rattle.std.specs.Prelude.{ℕ, ◌+◌, ◌/◌, ◌^◌, ◌==◌, ◌&&◌, ◌||◌, Bool, true, false, List, Option, Some, None, if◌then◌else◌, is_none, is_some, length, map, nat_le, not, replicate, slice_get, slice_index_or, slice_set}
use Rattle.std.specs.List.{AllByRecursion}
use Rattle.value_memory.specs.States.{Contents, contents_of, new_contents, cut_off, kept_short, with_oldest}
use Rattle.value_memory.specs.ValueMemory.{ValueState}
use Rattle.value_board.specs.ClientValues.{AreLive, ClientNumbers, asked_by, no_numbers, reset_numbers, with_answer, without_number}
use Rattle.value_board.specs.Values.{ended_if, failed_all, finished, finished_memory, oldest_from, range_given, started, started_memory, struck_by}
use Rattle.value_board.specs.declared.client_values.Asked.{Asked}
use Rattle.value_board.specs.declared.client_values.Begun.{Begun}
use Rattle.score_setup.specs.ScoreSetups.{RangeLists}
use Rattle.scoreboard.specs.Boards.{Board}
use Rattle.scoreboard.specs.FailedBursts.{Span}
use Rattle.scoreboard.specs.InsideBoards.{BoardState, board_of}
use Rattle.scoreboard.specs.Unanswered.{source_begun}
use Rattle.scoreboard.specs.Unknown.{with_lanes}
use Rattle.scoreboard.specs.Views.{due_view}
use Rattle.scoreboard.specs.declared.Errors.{Errors}
use Rattle.tl_messages.specs.Requests.{HeldMessage}
use Rattle.subordinate.specs.Faults.{Faults, is_good, standing_at}
use Rattle.tl_messages.specs.declared.ABeat.{ABeat}
use Rattle.value_memory.specs.declared.ByteRange.{ByteRange}
use Rattle.scoreboard.specs.declared.views.ReplyView.{ReplyView}

-- what the memory contains, and each client's numbers
pub record ValuesState : Type 0 where
  pub memory : Contents
  pub clients : List ClientNumbers

-- the same as they are held
pub record ValuesHeld : Type 0 where
  pub memory : ValueState
  pub clients : List ClientNumbers

abbrev pub values_of : ValuesHeld → ValuesState
values_of held = record { memory = contents_of held.memory; clients = held.clients }

-- a client's
abbrev pub numbers_of : List ClientNumbers → ℕ → ClientNumbers
numbers_of clients client = slice_index_or clients client no_numbers

-- those of each client rise, from one that none is below to one that none is above
abbrev pub AreAllLive : ℕ → ℕ → List ClientNumbers → Type 0
AreAllLive low high clients = AllByRecursion (λ numbers. AreLive low high numbers.live) clients

-- a client's request is in flight no more
abbrev pub without_request : ℕ → ℕ → List ClientNumbers → List ClientNumbers
without_request client number clients =
    slice_set clients client (record (numbers_of clients client) { live = without_number number (numbers_of clients client).live })

-- the oldest in flight is found anew, and then the lists are kept short of the words where a request has ended
abbrev pub with_oldest_found : Option ByteRange → ValuesState → ValuesState
with_oldest_found ended v = record v { memory = kept_short ended (with_oldest (oldest_from (v.memory.begun + 1) v.clients) v.memory) }

-- a client's request ends
abbrev pub with_ended : ℕ → Begun → ValuesState → ValuesState
with_ended client begun v =
    with_oldest_found begun.gives (record { memory = ended_if begun v.memory; clients = without_request client begun.number v.clients })

-- each request in flight has failed that shares a byte with a burst, and this is kept with those whose messages have begun
abbrev pub with_failed : Span → ValuesState → ValuesState
with_failed span v = record { memory = failed_all span v.clients v.memory; clients = map (struck_by span) v.clients }

-- all are cut off
abbrev pub with_reset : ValuesState → ValuesState
with_reset v = record { memory = cut_off v.memory; clients = map reset_numbers v.clients }

-- a client's request begins that may give a range, where its message hadn't begun before
abbrev pub with_started : ℕ → Option ByteRange → ValuesState → ValuesState
with_started client reach v =
    record {
      memory = started_memory (numbers_of v.clients client).coming reach v.memory;
      clients = slice_set v.clients client
          (started (numbers_of v.clients client).coming (record { number = v.memory.begun + 1; gives = reach }) (numbers_of v.clients client));
    }

-- ---- replies

-- a client's numbers change
abbrev pub with_numbers : ℕ → ClientNumbers → ValuesState → ValuesState
with_numbers client numbers v = record v { clients = slice_set v.clients client numbers }

-- the reply that has begun to a client is over: its request ends
abbrev pub with_answering_over : ℕ → Option Asked → ValuesState → ValuesState
with_answering_over client None v = v
with_answering_over client (Some asked) v =
    with_ended client asked.begun (with_numbers client (record (numbers_of v.clients client) { answering = None }) v)

abbrev pub with_answered : ℕ → ValuesState → ValuesState
with_answered client v = with_answering_over client (numbers_of v.clients client).answering v

-- the same with its last beat
abbrev pub with_answered_if : Bool → ℕ → ValuesState → ValuesState
with_answered_if true client v = with_answered client v
with_answered_if false client v = v

-- a beat comes of the reply to the last request of a source, if that is due: it begins
abbrev pub with_due_begun : ℕ → ℕ → Option ReplyView → ValuesState → ValuesState
with_due_begun client source None v = v
with_due_begun client source (Some view) v =
    with_answered_if (view.left == 1) client (with_numbers client (with_answer source (numbers_of v.clients client)) v)

-- a beat of a source comes where no reply is over with it: of the one that has begun, if it is of that source, or else of the one that is due
abbrev pub with_next_counted : ℕ → ℕ → Option ReplyView → Option ReplyView → ValuesState → ValuesState
with_next_counted client source None due v = with_due_begun client source due v
with_next_counted client source (Some view) due v = with_answered_if (view.due.source == source && view.left == 1) client v

-- by whether the reply that has begun is over with it
abbrev pub with_counted : ℕ → ℕ → Bool → Option ReplyView → Option ReplyView → ValuesState → ValuesState
with_counted client source true begun due v = with_due_begun client source due (with_answered client v)
with_counted client source false begun due v = with_next_counted client source begun due v

-- ---- messages

-- a beat of the message that a client has begun came, which gives lanes that nobody knows
abbrev pub with_heard : ℕ → ℕ → ValuesState → ValuesState
with_heard client given v =
    with_numbers client (record (numbers_of v.clients client) { hidden = with_lanes (numbers_of v.clients client).hidden given }) v

-- it is whole: what it gives is known
abbrev pub with_complete : ℕ → Begun → Errors → HeldMessage → Option ReplyView → ValuesState → ValuesState
with_complete client begun errors message due v =
    record {
      memory = finished_memory errors begun message due (numbers_of v.clients client) v.memory;
      clients = slice_set v.clients client (finished errors begun message due v.memory (numbers_of v.clients client));
    }

-- and it has ended, if its reply came before
abbrev pub with_ended_if : Bool → ℕ → Begun → ValuesState → ValuesState
with_ended_if true client begun v = with_ended client begun v
with_ended_if false client begun v = v

abbrev pub with_whole_of : ℕ → Option Begun → Errors → HeldMessage → Option ReplyView → ValuesState → ValuesState
with_whole_of client None errors message due v = v
with_whole_of client (Some begun) errors message due v = with_ended_if (is_none due) client begun (with_complete client begun errors message due v)

abbrev pub with_finished : ℕ → Errors → HeldMessage → Option ReplyView → ValuesState → ValuesState
with_finished client errors message due v = with_whole_of client (numbers_of v.clients client).coming errors message due v

-- by whether the board has one that isn't whole, and what it shows of the one that is
abbrev pub with_message : Option ℕ → ℕ → BoardState → ValuesState → ValuesState
with_message (Some source) client board v = v
with_message None client board v =
    with_finished client board.errors board.request (due_view (slice_get (board_of board).clients client) board.request.source) v

-- a beat of a client was taken that gives lanes which nobody knows, and that leaves a board: with the first of a message a request begins that may give a range
abbrev pub with_taken : ℕ → Option ByteRange → ℕ → BoardState → ValuesState → ValuesState
with_taken client reach given board v =
    with_message (source_begun (slice_get (board_of board).clients client)) client board (with_heard client given (with_started client reach v))

-- ---- what is asked of them

-- nothing has begun
abbrev pub first_values : RangeLists → ValuesState
first_values ranges = record { memory = new_contents ranges.ranges ranges.bad_words; clients = replicate ranges.config.clients no_numbers }

-- whether no request of a client can be numbered any more
abbrev pub is_full : ℕ → ValuesState → Bool
is_full client v = nat_le 258 (length (numbers_of v.clients client).live) || nat_le (2 ^ 63) v.memory.begun

-- a range, where its page is good
abbrev pub on_good : Faults → Option ByteRange → Option ByteRange
on_good faults None = None
on_good faults (Some range) = if is_good (standing_at faults range.address) then Some range else None

-- the bytes that a request may give that begins with a beat of a client; none where its message had begun before
abbrev pub reach_of : ℕ → Board → ABeat → ValuesState → Option ByteRange
reach_of client board beat v =
    if is_some (numbers_of v.clients client).coming then None else on_good v.memory.faults (range_given board beat)

-- whether a range, if there is one, is of a page without room
abbrev pub lacks_reach : (ℕ → Bool) → Option ByteRange → Bool
lacks_reach rooms None = false
lacks_reach rooms (Some range) = not (rooms (range.address / 4096))

-- the request of the reply whose next beat one of a source may be: of the one that has begun, else of the one that is due
abbrev pub asked_next : ℕ → ℕ → Bool → ValuesState → Option Asked
asked_next client source true v = (numbers_of v.clients client).answering
asked_next client source false v = Some (asked_by (numbers_of v.clients client) source)
