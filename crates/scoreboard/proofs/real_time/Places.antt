-- The requests in flight by their places: of each client one for each source, for the request whose reply is due, and one for that whose reply has begun.
use Rattle.std.proofs.Common.{◌≡◌, ℕ, List, map, set, Option, Some, None, ◌⊎◌, inl, inr, ap, arith}
use Rattle.std.specs.Prelude.{slice_get}
use Rattle.std.proofs.lemmas.Bool.{cases_eq}
use Rattle.std.proofs.lemmas.Option.{slice_get_within}
use Rattle.bus_words.specs.Places.{AreDistinct}
use Rattle.bus_words.proofs.StoredPlaces.{get_set, get_set-other}
use Rattle.scoreboard.specs.Boards.{ClientBoard}
use Rattle.scoreboard.specs.Flights.{Flights, Footprint, InFlight, due_to, no_flights, no_footprint}

-- a client's, with the source to which the reply is due, or with none where it has begun
pub record Place : Type 0 where
  pub client : ℕ
  pub source : Option ℕ

abbrev pub due_at : ℕ → ℕ → Place
due_at client source = record { client = client; source = Some source }

abbrev pub begun_at : ℕ → Place
begun_at client = record { client = client; source = None }

abbrev pub flights_in : Option ClientBoard → Flights
flights_in None = no_flights
flights_in (Some client) = client.flights

-- a client's, by its number
abbrev pub flights_at : List ClientBoard → ℕ → Flights
flights_at clients client = flights_in (slice_get clients client)

abbrev pub flight_in : Flights → Option ℕ → Option InFlight
flight_in flights None = flights.begun
flight_in flights (Some source) = due_to flights source

-- the one at a place
abbrev pub flight_at : List ClientBoard → Place → Option InFlight
flight_at clients place = flight_in (flights_at clients place.client) place.source

-- nothing is in flight to a client that has nothing there
pub none_in : (clients : List ClientBoard) (place : Place) → flights_at clients place.client ≡ no_flights → flight_at clients place ≡ None
none_in clients place none = rw none (grind arith)

-- the footprint of what a client's channel A has begun
abbrev pub coming_in : Option ClientBoard → Footprint
coming_in None = no_footprint
coming_in (Some client) = client.coming

abbrev pub coming_at : List ClientBoard → ℕ → Footprint
coming_at clients client = coming_in (slice_get clients client)

-- nothing of several beats has begun
abbrev pub NothingComes : List ClientBoard → Type 0
NothingComes clients = (number : ℕ) (client : ClientBoard) → slice_get clients number ≡ Some client → client.coming ≡ no_footprint

abbrev pub footprint_in : Option InFlight → Footprint
footprint_in None = no_footprint
footprint_in (Some flight) = flight.footprint

abbrev pub footprint_at : List ClientBoard → Place → Footprint
footprint_at clients place = footprint_in (flight_at clients place)

-- no two of those of whose reply no beat came are of one source
abbrev pub HaveSources : Flights → Type 0
HaveSources flights = AreDistinct (map (λ (flight : InFlight). flight.source) flights.due)

-- ---- two places

pub cases_place : (p q : Place) → (p ≡ q) ⊎ (p ≡ q → ⊥)
cases_place p q = grind arith

-- ---- one client changes

pub flights_same : (clients : List ClientBoard) (number : ℕ) (client changed : ClientBoard) → slice_get clients number ≡ Some client
    → flights_at (set clients number changed) number ≡ changed.flights
flights_same clients number client changed is =
    ap flights_in (get_set clients number changed (slice_get_within clients number client is))

pub flights_other : (clients : List ClientBoard) (number other : ℕ) (changed : ClientBoard) → (other ≡ number → ⊥)
    → flights_at (set clients number changed) other ≡ flights_at clients other
flights_other clients number other changed differ = ap flights_in (get_set-other clients number other changed differ)

-- a client that keeps its requests in flight
pub flights_kept : (clients : List ClientBoard) (number : ℕ) (client changed : ClientBoard) → slice_get clients number ≡ Some client
    → changed.flights ≡ client.flights → (other : ℕ)
    → flights_at (set clients number changed) other ≡ flights_at clients other
flights_kept clients number client changed is kept other =
    elim (cases_eq other number) [
      | inl same ↦ grind (arith, same, is, kept, flights_same clients number client changed is)
      | inr differ ↦ flights_other clients number other changed differ
    ]
