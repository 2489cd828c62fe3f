-- The orders in which requests may have taken effect. A request begins with its first beat on channel A, and takes effect between that and its end: it has
-- ended once it is whole and its whole reply came, or was cut short by the first beat of another. So one that had ended before another began comes before
-- it. Nothing else is asked of an order: this is real time. Requests are numbered as they begin, and an order is a list of all numbers.
use Rattle.std.specs.Prelude.{ℕ, ◌≡◌, ◌^◌, ◌<◌, ◌≤◌, ◌==◌, ⊤, Bool, true, false, ◌&&◌, ◌||◌, not, List, [], ◌∷◌, ◌++◌, map, filter, length, Option, Some, None, Result, Ok, Err, if◌then◌else◌, is_some, nat_lt, option_map, slice_get, slice_index_or}
use Rattle.std.specs.Option.{option_flatten}
use Rattle.std.specs.List.{AllByRecursion, list_any, range_with_len}
use Rattle.meaning.specs.Meaning.{Bytes}
use Rattle.tl_messages.specs.Requests.{HeldMessage, WholeRequest, no_message, request_of}
use Rattle.tl_messages.specs.declared.ABeat.{ABeat}
use Rattle.tl_messages.specs.declared.AtomicOp.{AtomicOp}
use Rattle.tl_messages.specs.declared.DBeat.{DBeat}
use Rattle.tl_messages.specs.declared.Operation.TheVariants.{Atomic}
use Rattle.tl_checker.specs.Ports.{joined}
use Rattle.tl_checker.specs.declared.Progress.{Progress}
use Rattle.tl_checker.specs.declared.Progress.TheVariants.{More, Whole}
use Rattle.tl_checker.specs.declared.TlRule.{TlRule}
use Rattle.scoreboard.specs.Boards.{Beginning, Board, ClientBoard, IsReached, MayBegin, after_seen, answer_to, is_spoiled, opening_from, told_to}
use Rattle.scoreboard.specs.FailedBursts.{Span, failed_span, shares}
use Rattle.scoreboard.specs.Flights.{Footprint}
use Rattle.scoreboard.specs.Races.{alone, may_write}
use Rattle.serial_memory.specs.SerialMemory.{Memory, place_in}
use Rattle.scoreboard.specs.Orders.{Asked, Entry, IsWrongAs, IsWrongIn, Order, after_beat, board_after, byte_left, has_ended, reply_beats}
use Rattle.scoreboard.specs.declared.Errors.{Errors}
use Rattle.scoreboard.specs.declared.Errors.TheVariants.{Any, Strict}
use Rattle.scoreboard.specs.declared.Policy.TheVariants as policy
use Rattle.scoreboard.specs.declared.ObservedBeat.{ObservedBeat}
use Rattle.scoreboard.specs.declared.ObservedBeat.TheVariants.{A, D, Axi as OnAxi, Drained}
use Rattle.scoreboard.specs.declared.Wrong.{Wrong}

-- ---- what has begun, in the order of first beats

-- whether the reply to a request that isn't whole may come: where errors are told in any way
abbrev pub may_reply : Errors → Bool → Bool
may_reply errors true = false
may_reply Strict false = false
may_reply Any false = true

-- a request that has just begun, by what came of it, and whether that is the whole
abbrev pub entry_of : Errors → ℕ → WholeRequest → Bool → Entry
entry_of errors client q whole =
    record {
      number = 0;
      client = client;
      request = q;
      whole = whole;
      spoiled = is_spoiled errors q;
      early = may_reply errors whole;
      replied = false;
      came = 0;
    }

-- whether an entry is a client's, and not whole
abbrev pub is_open : ℕ → Entry → Bool
is_open client entry = entry.client == client && not entry.whole

-- with a beat between its first and its last, by what came of it so far: it may be spoiled
abbrev pub heard : Errors → ℕ → WholeRequest → Entry → Entry
heard errors client q entry = if is_open client entry then record entry { spoiled = entry.spoiled || is_spoiled errors q } else entry

-- where a client's request wasn't whole, it is now, and is this one; and it has ended if its reply came before
abbrev pub completed : Errors → ℕ → WholeRequest → Entry → Entry
completed errors client q entry =
    if is_open client entry
    then record entry {
      request = q;
      whole = true;
      spoiled = entry.spoiled || is_spoiled errors q;
      early = false;
      came = if entry.replied then reply_beats q else entry.came;
    }
    else entry

-- with a beat that a port takes, by what had begun there: a first beat begins a request, which is the last; the last beat makes the one that has begun
-- whole; and with one between them it may be spoiled
abbrev pub with_progress : Errors → ℕ → Option HeldMessage → WholeRequest → Progress → Order → Order
with_progress errors client None q More old = old ++ record (entry_of errors client q false) { number = length old } ∷ []
with_progress errors client None q Whole old = old ++ record (entry_of errors client q true) { number = length old } ∷ []
with_progress errors client (Some held) q More old = map (heard errors client q) old
with_progress errors client (Some held) q Whole old = map (completed errors client q) old

-- with a port's answer to a beat on channel A, by the message with this beat
abbrev pub with_answered : Errors → ℕ → Option HeldMessage → HeldMessage → Result Progress TlRule → Order → Order
with_answered errors client front message (Err broken) old = old
with_answered errors client front message (Ok progress) old = with_progress errors client front (request_of message) progress old

-- with a beat on channel A
abbrev pub with_request : Errors → ℕ → Option ClientBoard → ABeat → Order → Order
with_request errors number None beat old = old
with_request errors number (Some client) beat old =
    with_answered errors number client.front (joined client.limits client.front beat) (answer_to policy.RealTime client beat) old

-- where a request may act, were it not corrupt
abbrev pub acting_footprint : Memory → WholeRequest → Footprint
acting_footprint memory q = alone (λ x. false) (place_in memory (record q { corrupt = false })) q

-- with an error response to a burst: each whose whole reply hasn't come, and that shares a byte with it, is spoiled
abbrev pub struck : Memory → Span → Entry → Entry
struck memory span entry =
    if not (has_ended entry) && shares span (acting_footprint memory entry.request) then record entry { spoiled = true } else entry

-- the same of all that have begun, if a burst was answered so
abbrev pub with_failed : Memory → Option Span → Order → Order
with_failed memory None old = old
with_failed memory (Some span) old = map (struck memory span) old

-- with a beat, on a board on which it comes
abbrev pub begun_next : Board → ObservedBeat → Order → Order
begun_next board (A client beat) old = with_request board.errors client (slice_get board.clients client) beat old
begun_next board (D client beat) old = after_beat old client beat.source
begun_next board (OnAxi beat) old = with_failed board.memory (failed_span board.errors board.axi beat) old
begun_next board Drained old = old

-- with a list of beats
abbrev pub begun_from : Board → Order → List ObservedBeat → Order
begun_from board now [] = now
begun_from board now (seen ∷ rest) = begun_from (after_seen policy.RealTime board seen) (begun_next board seen now) rest

-- all that have begun since the start, each with how many beats of its reply came
abbrev pub begun_in : Errors → Beginning → List ObservedBeat → Order
begun_in errors beginning beats = begun_from (opening_from errors beginning) [] beats

-- a request by its number, from 0
abbrev pub numbered : Order → ℕ → Entry
numbered begun number = slice_index_or begun number (entry_of Strict 0 (request_of no_message) true)

-- ---- what becomes of a request of which beats are still to come, or that was spoiled

-- as many bytes as the request has, each of them a byte where it is given
pub record GivesBytes (q : WholeRequest) : Type 0 where
  pub count : length q.bytes ≡ 2 ^ q.size
  pub small : (i b : ℕ) → slice_get q.bytes i ≡ Some (Some b) → b < 256

-- whether a request gives its byte i
abbrev pub gives_byte : WholeRequest → ℕ → Bool
gives_byte q i = is_some (option_flatten (slice_get q.bytes i))

-- what a request may leave that was spoiled, where that may be told in any way: any bytes, where it gives some; an atomic all of them
pub record MayLeave (q left : WholeRequest) : Type 0 where
  pub bytes : GivesBytes left
  pub within : (i : ℕ) → gives_byte left i ≡ true → gives_byte q i ≡ true
  pub full : (op : AtomicOp) → q.operation ≡ Atomic op → (i : ℕ) → i < 2 ^ q.size → gives_byte left i ≡ true

-- a whole one is what it is, or leaves what it may; another keeps the fields of its first beat, may give any bytes, also others than have come, and be
-- corrupt though its first beat wasn't. One that was spoiled may be carried out all the same, or not, where that may be told in any way
pub record MayBecome (entry : Entry) (q : WholeRequest) : Type 0 where
  pub same : entry.whole ≡ true → entry.spoiled ≡ false → q ≡ entry.request
  pub fields : q ≡ record entry.request { bytes = q.bytes; corrupt = q.corrupt }
  pub corrupt : entry.spoiled ≡ false → entry.request.corrupt ≡ true → q.corrupt ≡ true
  pub bytes : entry.whole ≡ false → GivesBytes q
  pub left : entry.whole ≡ true → entry.spoiled ≡ true → MayLeave entry.request q

-- what each that has begun may become, by its number
abbrev pub MayBecomeAll : Order → (ℕ → WholeRequest) → Type 0
MayBecomeAll begun requests = (number : ℕ) → number < length begun → MayBecome (numbered begun number) (requests number)

-- ---- orders as lists of numbers

-- each number below a bound stands in a list once, and no other stands there
abbrev pub IsArrangement : ℕ → List ℕ → Type 0
IsArrangement count numbers =
    (number : ℕ) → length (filter (λ other. other == number) numbers) ≡ (if nat_lt number count then 1 else 0)

-- a request had ended before another began: it was whole, and its whole reply had come, or ended early, in a first part of the beats, in which the other
-- hadn't begun
pub record EndedBefore (errors : Errors) (beginning : Beginning) (beats : List ObservedBeat) (number later : ℕ) : Type 0 where
  pub first : List ObservedBeat
  pub rest : List ObservedBeat
  pub parts : beats ≡ first ++ rest
  pub begun : number < length (begun_in errors beginning first)
  pub ended : has_ended (numbered (begun_in errors beginning first) number) ≡ true
  pub not_yet : length (begun_in errors beginning first) ≤ later

-- behind none stands one that ended before it began
abbrev pub KeepsRealTime : Errors → Beginning → List ObservedBeat → List ℕ → Type 0
KeepsRealTime errors beginning beats [] = ⊤
KeepsRealTime errors beginning beats (later ∷ numbers) =
    AllByRecursion (λ number. EndedBefore errors beginning beats number later → ⊥) numbers × KeepsRealTime errors beginning beats numbers

-- a list of numbers is an order of what has begun that keeps real time
pub record IsOrderOf (errors : Errors) (beginning : Beginning) (beats : List ObservedBeat) (numbers : List ℕ) : Type 0 where
  pub all : IsArrangement (length (begun_in errors beginning beats)) numbers
  pub keeps : KeepsRealTime errors beginning beats numbers

-- a request by its number, as it becomes
abbrev pub becoming : Order → (ℕ → WholeRequest) → ℕ → Entry
becoming begun requests number = record (numbered begun number) { request = requests number }

-- the requests as a list of numbers has them, and as they become
abbrev pub arranged : Errors → Beginning → List ObservedBeat → (ℕ → WholeRequest) → List ℕ → Order
arranged errors beginning beats requests numbers = map (becoming (begun_in errors beginning beats) requests) numbers

-- what came of each: it may become that
abbrev pub as_begun : Errors → Beginning → List ObservedBeat → ℕ → WholeRequest
as_begun errors beginning beats number = (numbered (begun_in errors beginning beats) number).request

-- ---- the laws

-- whether a request that has begun and isn't whole may write a byte
abbrev pub is_awaited : Board → ℕ → Bool
is_awaited board x = list_any (λ client. may_write client.coming x) board.clients

-- what is asked of an order by a beat on a client's channel D, on a board on which it comes
abbrev pub asked_on : Board → ℕ → DBeat → Asked
asked_on board client beat =
    record { errors = board.errors; told = option_flatten (option_map told_to (slice_get board.clients client)); client = client; beat = beat }

-- what the laws say of a board, by its beats so far and its verdict on one more: a beat on channel D that it blames is wrong in every
-- order that keeps real time, whatever the memory began with where nobody knows that, whatever the requests become that aren't whole, and
-- whatever those leave that have failed, and by the rule that is blamed; and a byte that isn't indeterminate, and that none of those may
-- write that aren't whole, is what every such order leaves. There is one: that of first beats, where nothing more comes, and all are
-- carried out as they came. The beats so far may have been wrong; where none was, a list of them is one by which the board is reached
pub record JudgesRightly (old : Board) (seen : ObservedBeat) (verdict : Option Wrong) : Type 0 where
  pub some : (errors : Errors) (beginning : Beginning) (before : List ObservedBeat)
      → IsOrderOf errors beginning before (range_with_len 0 (length (begun_in errors beginning before)))
      × MayBecomeAll (begun_in errors beginning before) (as_begun errors beginning before)
  pub reached : (errors : Errors) (beginning : Beginning) (before : List ObservedBeat) → IsReached policy.RealTime (opening_from errors beginning) before old
      → old ≡ board_after errors beginning before
  pub blamed : (errors : Errors) (beginning : Beginning) (before : List ObservedBeat) (requests : ℕ → WholeRequest) (numbers : List ℕ) (client : ℕ) (beat : DBeat)
      (wrong : Wrong) (start : Bytes)
      → old ≡ board_after errors beginning before → seen ≡ D client beat → verdict ≡ Some wrong
      → IsOrderOf errors beginning before numbers → MayBecomeAll (begun_in errors beginning before) requests → MayBegin beginning start
      → IsWrongIn beginning.lists start (arranged errors beginning before requests numbers) (asked_on old client beat)
      × IsWrongAs beginning.lists start (arranged errors beginning before requests numbers) (asked_on old client beat) wrong
  pub bytes : (errors : Errors) (beginning : Beginning) (before : List ObservedBeat) (requests : ℕ → WholeRequest) (numbers : List ℕ) (x : ℕ) (start : Bytes)
      → old ≡ board_after errors beginning before → IsOrderOf errors beginning before numbers → MayBecomeAll (begun_in errors beginning before) requests → MayBegin beginning start
      → old.indeterminate x ≡ false → is_awaited old x ≡ false
      → byte_left beginning.lists start (arranged errors beginning before requests numbers) x ≡ old.memory.bytes x
