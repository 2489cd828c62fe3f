-- The numbers of all clients' requests beside the memory of values, and what each beat does to them.
use Rattle.std.specs.Prelude.{ℕ, ◌+◌, ◌*◌, ◌%◌, ◌^◌, ◌==◌, Bool, true, false, ◌&&◌, ◌||◌, bit_and, not, List, [], ◌∷◌, min, Option, Some, None, if◌then◌else◌, nat_le, nat_lt, option_and_then, slice_index_or}
use Rattle.axi_beats.specs.Responses.{is_okay}
use Rattle.data_unit.specs.Words.{full_mask}
use Rattle.tl_messages.specs.Operations.{has_data, named_operation}
use Rattle.tl_messages.specs.Requests.{HeldMessage, request_of}
use Rattle.tl_messages.specs.declared.ABeat.{ABeat}
use Rattle.tl_messages.specs.declared.Operation.{Operation}
use Rattle.tl_messages.specs.declared.Operation.TheVariants.{Atomic, Get, Intent, PutFull, PutPartial}
use Rattle.subordinate.specs.Faults.{read_response}
use Rattle.serial_memory.specs.SerialMemory.{place_at}
use Rattle.scoreboard.specs.Boards.{Board, is_spoiled}
use Rattle.scoreboard.specs.FailedBursts.{Span}
use Rattle.scoreboard.specs.declared.Errors.{Errors}
use Rattle.scoreboard.specs.declared.Errors.TheVariants.{Any, Strict}
use Rattle.scoreboard.specs.declared.views.ReplyView.{ReplyView}
use Rattle.value_memory.specs.States.{Contents, after_each, ended, failed, given, made_sure, with_request}
use Rattle.value_memory.specs.ValueMemory.{word_count}
use Rattle.value_memory.specs.declared.ByteRange.{ByteRange}
use Rattle.value_board.specs.ClientValues.{ClientNumbers, accepted, with_begun}
use Rattle.value_board.specs.Given.{giving_of, given_word, is_sure, made_word, step_at}
use Rattle.value_board.specs.declared.client_values.AtomicStep.{AtomicStep}
use Rattle.value_board.specs.declared.client_values.Asked.{Asked}
use Rattle.value_board.specs.declared.client_values.Begun.{Begun}
use Rattle.value_board.specs.declared.given.GivenWord.{GivenWord}
use Rattle.value_board.specs.declared.given.Giving.{Giving}
use Rattle.value_board.specs.declared.given.Giving.TheVariants.{Anything, AsItSays, Nothing, Refused}

-- ---- a request begins

-- the 2^size bytes from an address on, if that is a multiple of their number, and there are at most 4,096
abbrev pub range_at : ℕ → ℕ → Option ByteRange
range_at address size = if nat_le size 12 && (address % 2 ^ size == 0) then Some (record { address = address; size = size }) else None

-- whether a corrupt beat keeps its request from acting
abbrev pub is_dropped_beat : Errors → ABeat → Bool
is_dropped_beat Strict beat = beat.corrupt
is_dropped_beat Any beat = false

-- the bytes that an operation may give that begins with a beat: those on which it acts, where it has data
abbrev pub range_of_operation : Board → ABeat → Operation → Option ByteRange
range_of_operation board beat op =
    if has_data op && not (is_dropped_beat board.errors beat) then option_and_then (λ address. range_at address beat.size) (place_at board.memory op beat.address) else None

abbrev pub range_given : Board → ABeat → Option ByteRange
range_given board beat = option_and_then (range_of_operation board beat) (named_operation beat.opcode beat.param)

-- it begins, where the client's message hadn't before
abbrev pub started_memory : Option Begun → Option ByteRange → Contents → Contents
started_memory None reach c = with_request reach c
started_memory (Some begun) reach c = c

-- how many have begun then
abbrev pub count_started : Option Begun → ℕ → ℕ
count_started None count = count + 1
count_started (Some other) count = count

abbrev pub started : Option Begun → Begun → ClientNumbers → ClientNumbers
started None begun numbers = with_begun begun numbers
started (Some other) begun numbers = numbers

-- ---- a message is whole

-- whether it has failed, by whether an error response came to a burst that shares a byte with it before it was whole: as the reply says that is due; where
-- that came before it was whole, by such a response, or by a beat that was corrupt, where errors are told in any way
abbrev pub has_failed : Errors → Bool → HeldMessage → Option ReplyView → Bool
has_failed errors struck message None = struck || is_spoiled errors (request_of message)
has_failed errors struck message (Some view) = view.failed

-- whether a read of a word is refused
abbrev pub refuses : Contents → ℕ → Bool
refuses c address = not (is_okay (read_response c.faults address))

-- how much counts of what it gives
abbrev pub giving_on : Contents → Errors → Option ByteRange → Bool → HeldMessage → Giving
giving_on c errors None failed message = Nothing
giving_on c errors (Some range) failed message = giving_of errors (refuses c range.address) failed message

-- what it gives to a word is known
abbrev pub given_to_word : GivenWord → ℕ → ℕ → Contents → Contents
given_to_word word number address c = given number address word.lanes word.known c

abbrev pub given_place : Giving → ℕ → ByteRange → HeldMessage → List ℕ → ℕ → Contents → Contents
given_place giving number range message hidden k c =
    given_to_word (given_word giving message range.address k (slice_index_or hidden k 0)) number (range.address + k * 8) c

-- and to each of its words
abbrev pub given_each : Giving → ℕ → ByteRange → HeldMessage → List ℕ → Contents → Contents
given_each giving number range message hidden c = after_each (given_place giving number range message hidden) (word_count range) c

-- it takes effect, where it does
abbrev pub sure_if : Bool → ℕ → ByteRange → Contents → Contents
sure_if true number range c = made_sure number range c
sure_if false number range c = c

abbrev pub given_whole : Giving → Begun → HeldMessage → List ℕ → Contents → Contents
given_whole giving begun message hidden c = by_range begun.gives
  where
    by_range : Option ByteRange → Contents
    by_range None = c
    by_range (Some range) = sure_if (is_sure giving) begun.number range (given_each giving begun.number range message hidden c)

-- what an atomic makes of what it is told, where all that it gives is known, and counts
abbrev pub step_by : Operation → HeldMessage → Option ByteRange → Option AtomicStep
step_by (Atomic op) message None = None
step_by (Atomic op) message (Some range) = step_at op message range.address
step_by PutFull message gives = None
step_by PutPartial message gives = None
step_by Get message gives = None
step_by (Intent write) message gives = None

abbrev pub step_on : Giving → Option ByteRange → HeldMessage → List ℕ → Option AtomicStep
step_on AsItSays gives message hidden = if slice_index_or hidden 0 0 == 0 then step_by message.operation message gives else None
step_on Anything gives message hidden = None
step_on Refused gives message hidden = None
step_on Nothing gives message hidden = None

-- how much counts of what a client's message gives that is whole
abbrev pub giving_in : Contents → Errors → Begun → HeldMessage → Option ReplyView → ClientNumbers → Giving
giving_in c errors begun message due numbers = giving_on c errors begun.gives (has_failed errors numbers.struck message due) message

-- a message is whole, and its request's reply is due, or came before
abbrev pub finished_memory : Errors → Begun → HeldMessage → Option ReplyView → ClientNumbers → Contents → Contents
finished_memory errors begun message due numbers c = given_whole (giving_in c errors begun message due numbers) begun message numbers.hidden c

abbrev pub finished : Errors → Begun → HeldMessage → Option ReplyView → Contents → ClientNumbers → ClientNumbers
finished errors begun message due c numbers =
    accepted message.source
    (record { begun = begun; step = step_on (giving_in c errors begun message due numbers) begun.gives message numbers.hidden }) numbers

-- what an atomic makes is known, where its reply's beat tells some bytes of it, and nobody doubts one of them
abbrev pub made_by_step : Option AtomicStep → ℕ → ℕ → ℕ → ℕ → Contents → Contents
made_by_step None number told payload lanes c = c
made_by_step (Some step) number told payload lanes c =
    if (told == 0) || not (bit_and told lanes == 0) then c else given number step.address (full_mask step.address step.size) (made_word step payload) c

abbrev pub made_if : Asked → ℕ → ℕ → ℕ → Contents → Contents
made_if asked told payload lanes c = made_by_step asked.step asked.begun.number told payload lanes c

-- ---- a request ends

abbrev pub ended_if : Begun → Contents → Contents
ended_if begun c = by_range begun.gives
  where
    by_range : Option ByteRange → Contents
    by_range None = c
    by_range (Some range) = ended begun.number range c

-- the lesser of a number and a client's oldest
abbrev pub lesser : ℕ → List Begun → ℕ
lesser number [] = number
lesser number (begun ∷ rest) = min number begun.number

-- the oldest of all that are in flight, or have begun; of none, a number
abbrev pub oldest_from : ℕ → List ClientNumbers → ℕ
oldest_from number [] = number
oldest_from number (numbers ∷ rest) = oldest_from (lesser number numbers.live) rest

-- ---- error responses

-- whether a burst has a byte of a range
abbrev pub shares : Span → ByteRange → Bool
shares span range = nat_le range.address span.last && nat_lt span.first (range.address + 2 ^ range.size)

abbrev pub failed_if : Span → ℕ → Option ByteRange → Contents → Contents
failed_if span number None c = c
failed_if span number (Some range) c = if shares span range then failed number range c else c

-- whether a burst shares a byte with what the request may give whose message has begun
abbrev pub strikes : Span → Option Begun → Bool
strikes span None = false
strikes span (Some begun) = by_range begun.gives
  where
    by_range : Option ByteRange → Bool
    by_range None = false
    by_range (Some range) = shares span range

-- that is kept with the message
abbrev pub struck_by : Span → ClientNumbers → ClientNumbers
struck_by span numbers = record numbers { struck = numbers.struck || strikes span numbers.coming }

-- each of a client's requests in flight that shares a byte with a burst has failed
abbrev pub failed_each : Span → List Begun → Contents → Contents
failed_each span [] c = c
failed_each span (begun ∷ rest) c = failed_each span rest (failed_if span begun.number begun.gives c)

-- and of all clients
abbrev pub failed_all : Span → List ClientNumbers → Contents → Contents
failed_all span [] c = c
failed_all span (numbers ∷ rest) c = failed_all span rest (failed_each span numbers.live c)
