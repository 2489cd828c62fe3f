-- How much replies tell, and how much of that is looked at: of each beat with data the bytes of its request that it tells, and those of them that are
-- compared with what is due (this project's profile).
use Rattle.std.specs.Prelude.{ℕ, ◌+◌, ◌*◌, ◌-◌, ◌^◌, ◌==◌, Bool, true, false, ◌&&◌, ◌||◌, not, List, [], ◌∷◌, length, min, sum_by, Option, Some, None, if◌then◌else◌, slice_get}
use Rattle.std.specs.List.{range_with_len}
use Rattle.bus_words.specs.Lanes.{mask_of, word_address}
use Rattle.tl_messages.specs.Operations.{beats_of}
use Rattle.tl_messages.specs.declared.DBeat.{DBeat}
use Rattle.scoreboard.specs.Boards.{Board, ClientBoard, next_to}
use Rattle.scoreboard.specs.Flights.{Footprint, InFlight}
use Rattle.scoreboard.specs.InTurn.{is_unknown_in}
use Rattle.scoreboard.specs.Races.{covers}
use Rattle.scoreboard.specs.declared.ObservedBeat.{ObservedBeat}
use Rattle.scoreboard.specs.declared.ObservedBeat.TheVariants.{A, D, Axi, Drained}
use Rattle.scoreboard.specs.declared.Policy.{Policy}
use Rattle.scoreboard.specs.declared.Policy.TheVariants.{AcceptanceOrder, RealTime}
use Rattle.scoreboard.specs.declared.tellings.Telling.{Telling}

-- ---- lanes

abbrev pub one_if : Bool → ℕ
one_if true = 1
one_if false = 0

-- how many of the eight lanes of a beat pass a test
abbrev pub lanes_with : (ℕ → Bool) → ℕ
lanes_with test = sum_by (λ lane. one_if (test lane)) (range_with_len 0 8)

-- whether what a lane of beat k of a reply tells is determined
abbrev pub is_sure : Footprint → ℕ → ℕ → Bool
is_sure footprint k lane = footprint.reads && footprint.determined (word_address footprint.address + 8 * k + lane)

-- whether a lane of beat k of a reply tells a byte of its request
abbrev pub is_told : Footprint → ℕ → ℕ → Bool
is_told footprint k lane = covers footprint (word_address footprint.address + 8 * k + lane)

-- whether what it tells is compared: in order of acceptance all but what isn't known, and in real time what is determined, where the request hasn't failed
abbrev pub is_compared_by : Policy → Footprint → ℕ → DBeat → ℕ → Bool
is_compared_by AcceptanceOrder footprint k due lane = is_told footprint k lane && not (is_unknown_in footprint k due lane)
is_compared_by RealTime footprint k due lane = not footprint.failed && is_sure footprint k lane

-- of a beat that is due as corrupt nothing is
abbrev pub is_compared : Policy → Footprint → ℕ → DBeat → ℕ → Bool
is_compared policy footprint k due lane = not due.corrupt && is_compared_by policy footprint k due lane

-- ---- a beat

-- a beat that tells nothing
abbrev pub nothing_told : Telling
nothing_told = record { told = 0; compared = 0; lanes = 0; due = 0 }

-- how many bytes of a request of 2^size bytes a beat tells
abbrev pub bytes_told : ℕ → ℕ
bytes_told size = 2 ^ min size 3

-- how many of them are compared of beat k of a reply to a request with this footprint, where a beat is due: in order of acceptance all but those that
-- aren't known, and in real time those that are determined, where it isn't corrupt and the request hasn't failed
abbrev pub bytes_compared : Policy → Footprint → ℕ → DBeat → ℕ
bytes_compared AcceptanceOrder footprint k due = bytes_told due.size - lanes_with (is_unknown_in footprint k due)
bytes_compared RealTime footprint k due = if due.corrupt || footprint.failed then 0 else lanes_with (is_sure footprint k)

-- what a beat tells where this one is due as beat k of the reply: nothing, where that has no data
abbrev pub due_telling : Policy → Footprint → ℕ → DBeat → Telling
due_telling policy footprint k due =
    if due.opcode == 1
    then record {
      told = bytes_told due.size;
      compared = bytes_compared policy footprint k due;
      lanes = mask_of (is_compared policy footprint k due);
      due = due.payload;
    }
    else nothing_told

-- by the beats that are left of the reply
abbrev pub left_telling : Policy → Footprint → List DBeat → Telling
left_telling policy footprint [] = nothing_told
left_telling policy footprint (due ∷ rest) = due_telling policy footprint (beats_of footprint.size true - length (due ∷ rest)) due

-- by the request whose reply has its next beat there, if one has
abbrev pub flight_telling : Policy → Option InFlight → Telling
flight_telling policy None = nothing_told
flight_telling policy (Some flight) = left_telling policy flight.footprint flight.beats

-- by the client, if it is there
abbrev pub client_telling : Policy → Option ClientBoard → ℕ → Telling
client_telling policy None source = nothing_told
client_telling policy (Some client) source = flight_telling policy (next_to policy client source)

-- what a beat that was observed tells: only beats on channel D do
abbrev pub telling_of : Policy → Board → ObservedBeat → Telling
telling_of policy board (A client beat) = nothing_told
telling_of policy board (D client beat) = client_telling policy (slice_get board.clients client) beat.source
telling_of policy board (Axi beat) = nothing_told
telling_of policy board Drained = nothing_told
