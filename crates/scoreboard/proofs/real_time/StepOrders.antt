-- Orders of requests that have begun, step by step as beats come: with its first beat a request is put in behind all whose whole reply came, as what it
-- becomes; with its last beat it is whole. It is the proof's own way to go along a list of beats; Arranged gets to it from the orders that keep real time.
use Rattle.std.proofs.Common.{◌≡◌, ℕ, ◌==◌, Bool, true, false, ◌&&◌, ◌||◌, not, List, [], ◌∷◌, ◌++◌, map, length, Option, Some, None, Result, Ok, Err, if◌then◌else◌}
use Rattle.std.specs.Prelude.{slice_get}
use Rattle.std.specs.List.{AllByRecursion, list_any}
use Rattle.tl_messages.specs.Requests.{HeldMessage, WholeRequest, request_of}
use Rattle.tl_messages.specs.declared.ABeat.{ABeat}
use Rattle.tl_messages.specs.declared.DBeat.{DBeat}
use Rattle.tl_checker.specs.Ports.{joined}
use Rattle.tl_checker.specs.declared.Progress.{Progress}
use Rattle.tl_checker.specs.declared.Progress.TheVariants.{More, Whole}
use Rattle.tl_checker.specs.declared.TlRule.{TlRule}
use Rattle.meaning.specs.Meaning.{Bytes}
use Rattle.scoreboard.specs.Boards.{Beginning, MayBegin, Board, ClientBoard, after_seen, answer_to, is_spoiled, opening_from, wrong_at}
use Rattle.scoreboard.specs.Orders.{Entry, IsWrongAs, Order, after_beat, board_after, byte_left, has_ended, reply_beats}
use Rattle.scoreboard.specs.RealTime.{MayBecome, asked_on, entry_of, heard, is_awaited, with_failed}
use Rattle.scoreboard.specs.FailedBursts.{failed_span}
use Rattle.scoreboard.specs.declared.Errors.{Errors}
use Rattle.scoreboard.specs.declared.Errors.TheVariants.{Any}
use Rattle.scoreboard.specs.declared.Policy.TheVariants.{RealTime}
use Rattle.scoreboard.specs.declared.ObservedBeat.{ObservedBeat}
use Rattle.scoreboard.specs.declared.ObservedBeat.TheVariants.{A, D, Axi as OnAxi, Drained}
use Rattle.scoreboard.specs.declared.Wrong.{Wrong}

-- ---- how an order goes on

-- a request that begins comes anywhere behind those whose whole reply came
abbrev pub IsPutIn : Entry → Order → Order → Type 0
IsPutIn entry old new =
    (before : Order) × (after : Order) × (old ≡ before ++ after) × (list_any has_ended after ≡ false) × (new ≡ before ++ entry ∷ after)

-- whether an entry is a client's, and not whole
abbrev pub is_coming : ℕ → Entry → Bool
is_coming client entry = entry.client == client && not entry.whole

-- it is whole with its last beat
abbrev pub finished : Errors → ℕ → WholeRequest → Entry → Entry
finished errors client q entry =
    if is_coming client entry
    then record entry {
      whole = true;
      spoiled = entry.spoiled || is_spoiled errors q;
      early = false;
      came = if entry.replied then reply_beats entry.request else entry.came;
    }
    else entry

-- one that has just begun, with its number
abbrev pub first_of : Errors → ℕ → WholeRequest → Bool → ℕ → Entry
first_of errors client q whole number = record (entry_of errors client q whole) { number = number }

-- and as one that may have been spoiled, be it later
abbrev pub fated_of : (ℕ → Bool) → Errors → ℕ → WholeRequest → Bool → ℕ → Entry
fated_of fate errors client q whole number = record (first_of errors client q whole number) { spoiled = is_spoiled errors q || fate number }

-- with a beat that a port takes, by what had begun there: a request is put in with its first beat; and with the last one of several it is what it became.
-- What it may become is known by which requests are fated to be spoiled before their replies end
abbrev pub GoesOnTaken : (ℕ → Bool) → Errors → ℕ → Option HeldMessage → WholeRequest → Progress → Order → Order → Type 0
GoesOnTaken fate errors client None q More old new =
    (becomes : WholeRequest) × MayBecome (fated_of fate errors client q false (length old)) becomes
    × IsPutIn (record (first_of errors client q false (length old)) { request = becomes }) old new
GoesOnTaken fate errors client None q Whole old new =
    (becomes : WholeRequest) × MayBecome (fated_of fate errors client q true (length old)) becomes
    × IsPutIn (record (first_of errors client q true (length old)) { request = becomes }) old new
GoesOnTaken fate errors client (Some held) q More old new = new ≡ map (heard errors client q) old
GoesOnTaken fate errors client (Some held) q Whole old new =
    (new ≡ map (finished errors client q) old)
    × AllByRecursion (λ entry. is_coming client entry ≡ true → MayBecome (fated_of fate errors client q true entry.number) entry.request) old

-- with a port's answer
abbrev pub GoesOnAnswered : (ℕ → Bool) → Errors → ℕ → Option HeldMessage → HeldMessage → Result Progress TlRule → Order → Order → Type 0
GoesOnAnswered fate errors client front message (Err broken) old new = new ≡ old
GoesOnAnswered fate errors client front message (Ok progress) old new = GoesOnTaken fate errors client front (request_of message) progress old new

-- with a beat on channel A
abbrev pub GoesOnRequest : (ℕ → Bool) → Errors → ℕ → Option ClientBoard → ABeat → Order → Order → Type 0
GoesOnRequest fate errors number None beat old new = new ≡ old
GoesOnRequest fate errors number (Some client) beat old new =
    GoesOnAnswered fate errors number client.front (joined client.limits client.front beat) (answer_to RealTime client beat) old new

-- how an order goes on with a beat, on a board on which it comes
abbrev pub GoesOn : (ℕ → Bool) → Board → ObservedBeat → Order → Order → Type 0
GoesOn fate board (A client beat) old new = GoesOnRequest fate board.errors client (slice_get board.clients client) beat old new
GoesOn fate board (D client beat) old new = new ≡ after_beat old client beat.source
GoesOn fate board (OnAxi beat) old new = new ≡ with_failed board.memory (failed_span board.errors board.axi beat) old
GoesOn fate board Drained old new = new ≡ old

-- a request whose whole reply came was spoiled before, if it is fated to be
abbrev pub HasFate : (ℕ → Bool) → Entry → Type 0
HasFate fate entry = has_ended entry ≡ true → fate entry.number ≡ true → entry.spoiled ≡ true

-- the orders of what begins in a list of beats, on a board and behind an order of what had begun before
abbrev pub IsOrderFrom : (ℕ → Bool) → Board → Order → List ObservedBeat → Order → Type 0
IsOrderFrom fate board now [] order = order ≡ now
IsOrderFrom fate board now (seen ∷ rest) order =
    (next : Order) × GoesOn fate board seen now next × AllByRecursion (HasFate fate) next × IsOrderFrom fate (after_seen RealTime board seen) next rest order

-- the orders of what begins in all beats since the start: those are fated that were spoiled in the end, as none is but where errors may be told in any way
pub record IsOrderOf (errors : Errors) (setup : Beginning) (beats : List ObservedBeat) (order : Order) : Type 0 where
  pub fate : ℕ → Bool
  pub any : (number : ℕ) → fate number ≡ true → errors ≡ Any
  pub ends : AllByRecursion (λ entry. fate entry.number ≡ true → entry.spoiled ≡ true) order
  pub from : IsOrderFrom fate (opening_from errors setup) [] beats order

-- ---- what is blamed, by these orders

-- a beat on channel D that a board blames, be it the first that is wrong or a later one, is wrong by that rule in each of them
abbrev pub BlamesByRule : Type 0
BlamesByRule =
    (errors : Errors) (setup : Beginning) (start : Bytes) (before : List ObservedBeat) (order : Order) (client : ℕ) (beat : DBeat) (wrong : Wrong)
    → MayBegin setup start → IsOrderOf errors setup before order
    → wrong_at RealTime (board_after errors setup before) (D client beat) ≡ Some wrong
    → IsWrongAs setup.lists start order (asked_on (board_after errors setup before) client beat) wrong

-- a byte that isn't indeterminate, and that nothing that has begun may write, is what every order leaves
abbrev pub KnowsBytes : Type 0
KnowsBytes =
    (errors : Errors) (setup : Beginning) (start : Bytes) (before : List ObservedBeat) (order : Order) (x : ℕ)
    → MayBegin setup start → IsOrderOf errors setup before order
    → (board_after errors setup before).indeterminate x ≡ false
    → is_awaited (board_after errors setup before) x ≡ false
    → byte_left setup.lists start order x ≡ (board_after errors setup before).memory.bytes x
