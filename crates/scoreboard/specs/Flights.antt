-- Requests in flight: each with the beats that are left of its reply, and the bytes of the memory that it may read and write. A client has those of
-- whose reply no beat came, and the one whose reply has begun.
use Rattle.std.specs.Prelude.{ℕ, ◌+◌, ◌==◌, Bool, false, ◌&&◌, ◌||◌, not, List, [], ◌∷◌, ◌++◌, map, length, Option, Some, None, if◌then◌else◌, drop}
use Rattle.std.specs.List.{find, list_any}
use Rattle.std.specs.Option.{option_map, option_or, option_to_list}
use Rattle.bus_words.specs.Places.{without_first}
use Rattle.tl_messages.specs.declared.DBeat.{DBeat}
use Rattle.scoreboard.specs.declared.Policy.{Policy}
use Rattle.scoreboard.specs.declared.Policy.TheVariants.{AcceptanceOrder, RealTime}

-- what a request does to the memory: whether it may read, and write, the 2^size bytes from an address on; whether it has failed, so that its reply may tell
-- so in any way; and which of its bytes are determined: no other that may write has raced with it there, and what it reads there is the same in whatever
-- order the requests in flight take effect
pub record Footprint : Type 0 where
  pub reads : Bool
  pub writes : Bool
  pub address : ℕ
  pub size : ℕ
  pub failed : Bool
  pub determined : ℕ → Bool

-- that of a request of which nobody asks
abbrev pub no_footprint : Footprint
no_footprint = record { reads = false; writes = false; address = 0; size = 0; failed = false; determined = λ x. false }

-- a request in flight: its source, the beats that are left of its reply, and its footprint
pub record InFlight : Type 0 where
  pub source : ℕ
  pub beats : List DBeat
  pub footprint : Footprint

-- a client's requests in flight: those of whose reply no beat came, in order of acceptance, and the one whose reply has begun
pub record Flights : Type 0 where
  pub due : List InFlight
  pub begun : Option InFlight

abbrev pub no_flights : Flights
no_flights = record { due = []; begun = None }

-- ---- by their sources

abbrev pub is_of_source : ℕ → InFlight → Bool
is_of_source source flight = flight.source == source

-- the request of a source of whose reply no beat came
abbrev pub due_to : Flights → ℕ → Option InFlight
due_to flights source = find (is_of_source source) flights.due

-- whether the reply that has begun is to a request of a source
abbrev pub begun_is_of : ℕ → Option InFlight → Bool
begun_is_of source None = false
begun_is_of source (Some flight) = is_of_source source flight

-- whether a source has a live request: until the last beat of its reply, or, where requests take effect in real time, until the first
abbrev pub is_busy : Policy → Flights → ℕ → Bool
is_busy AcceptanceOrder flights source = list_any (is_of_source source) flights.due || begun_is_of source flights.begun
is_busy RealTime flights source = list_any (is_of_source source) flights.due

-- ---- as their replies come

-- the request whose reply has its next beat in one of a source: that whose reply has begun, else the one that is due to the source
abbrev pub next_reply : Flights → ℕ → Option InFlight
next_reply flights source = option_or flights.begun (due_to flights source)

-- a request with these beats left; with none it is in flight no more
abbrev pub with_left : InFlight → List DBeat → Option InFlight
with_left flight [] = None
with_left flight (beat ∷ beats) = Some (record flight { beats = beat ∷ beats })

-- one that has begun, when a beat of a source came: one beat fewer is left, where it is of the source
abbrev pub begun_after : Option InFlight → ℕ → Option InFlight
begun_after None source = None
begun_after (Some flight) source = if flight.source == source then with_left flight (drop 1 flight.beats) else Some flight

-- those of whose reply no beat came: where none had begun, that of the source has
abbrev pub due_after : Option InFlight → List InFlight → ℕ → List InFlight
due_after None due source = without_first (is_of_source source) due
due_after (Some flight) due source = due

-- a client's where the reply that has its next beat in one of a source has begun
abbrev pub begun_for : Flights → ℕ → Flights
begun_for flights source = record { due = due_after flights.begun flights.due source; begun = next_reply flights source }

-- a client's after a beat of a source on channel D
abbrev pub flights_after : Flights → ℕ → Flights
flights_after flights source = record { due = due_after flights.begun flights.due source; begun = begun_after (next_reply flights source) source }

-- ---- a reply that ended early

-- whether the reply that has begun is to a request of another source
abbrev pub begun_is_other : ℕ → Option InFlight → Bool
begun_is_other source None = false
begun_is_other source (Some flight) = not (is_of_source source flight)

-- whether the reply that has begun is over where a beat of a source comes: it is of another, and a reply is due to this one of which no beat came
abbrev pub is_over : Flights → ℕ → Bool
is_over flights source = begun_is_other source flights.begun && list_any (is_of_source source) flights.due

-- a client's as a beat of a source finds them: the one whose reply is over is in flight no more
abbrev pub cut_short : Flights → ℕ → Flights
cut_short flights source = record flights { begun = if is_over flights source then None else flights.begun }

-- ---- all of a client

abbrev pub in_flight : Flights → List InFlight
in_flight flights = flights.due ++ option_to_list flights.begun

-- how many replies aren't whole
abbrev pub replies_left : Flights → ℕ
replies_left flights = length flights.due + length (option_to_list flights.begun)

-- a change of each
abbrev pub each_flight : (InFlight → InFlight) → Flights → Flights
each_flight change flights = record { due = map change flights.due; begun = option_map change flights.begun }

-- one more, of whose reply no beat came
abbrev pub with_flight : InFlight → Flights → Flights
with_flight flight flights = record flights { due = flights.due ++ flight ∷ [] }
