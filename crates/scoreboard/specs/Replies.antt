-- The replies to a client's requests of which no beat came, as they are held: by source, beside the requests.
use Rattle.std.specs.Prelude.{ℕ, ◌≡◌, ◌<◌, ◌==◌, Bool, List, [], Option, None, Some, if◌then◌else◌, length, map, slice_index_or}
use Rattle.std.specs.List.{AllByRecursion}
use Rattle.bus_words.specs.Places.{AreDistinct}
use Rattle.tl_messages.specs.declared.DBeat.{DBeat}
use Rattle.scoreboard.specs.Flights.{Footprint, InFlight}
use Rattle.scoreboard.specs.InsideBoards.{FlightState, flight_of, footprint_of}
use Rattle.scoreboard.specs.declared.flights.Due.{Due}

-- the reply to a source; no beats, where there is none
abbrev pub reply_of : List (List DBeat) → ℕ → List DBeat
reply_of replies source = slice_index_or replies source []

-- the replies where that to a source is another
abbrev pub with_reply : ℕ → List DBeat → (ℕ → List DBeat) → ℕ → List DBeat
with_reply source reply replies other = if other == source then reply else replies other

-- a request of whose reply no beat came, with its reply
abbrev pub due_flight : (ℕ → List DBeat) → Due → FlightState
due_flight replies due = record { source = due.source; beats = replies due.source; footprint = due.footprint }

-- the requests that these stand for
abbrev pub due_flights : (ℕ → List DBeat) → List Due → List InFlight
due_flights replies dues = map flight_of (map (due_flight replies) dues)

-- the request whose reply has begun, where one has
abbrev pub if_begun : Bool → FlightState → Option FlightState
if_begun has_begun flight = if has_begun then Some flight else None

-- the footprint of one that is due
abbrev pub due_footprint : Due → Footprint
due_footprint due = footprint_of due.footprint

-- their footprints have this room
abbrev pub DuesHaveRoom : ℕ → List Due → Type 0
DuesHaveRoom room dues = AllByRecursion (λ due. length due.footprint.determined ≡ room) dues

-- those of whose reply no beat came: no two are of one source, which is a byte
pub record AreDue (room : ℕ) (dues : List Due) : Type 0 where
  pub rooms : DuesHaveRoom room dues
  pub bytes : AllByRecursion (λ source. source < 256) (map (λ due. due.source) dues)
  pub distinct : AreDistinct (map (λ due. due.source) dues)
