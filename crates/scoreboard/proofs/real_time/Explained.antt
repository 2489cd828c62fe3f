-- What a board knows of an order: the bytes that aren't indeterminate are what the order leaves, and what is left of each reply was made of
-- bytes that are those before its request, where they are determined. And it knows so at the start.
use Rattle.std.proofs.Common.{◌≡◌, ℕ, zero, suc, ◌+◌, true, false, List, [], map, set, Option, Some, None, inl, inr, refl, sym, ◌∙◌, ap, subst, arith}
use Rattle.std.specs.Prelude.{is_some, slice_get}
use Rattle.std.specs.List.{list_any, range_with_len}
use Rattle.std.proofs.Math.Path.{fun_ext}
use Rattle.std.proofs.lemmas.Bool.{cases_eq}
use Rattle.std.proofs.lemmas.Option.{slice_get-map, slice_get_within}
use Rattle.bus_words.proofs.StoredPlaces.{get_set, get_set-other}
use Rattle.config.specs.declared.Config.{Config}
use Rattle.meaning.specs.Meaning.{Bytes}
use Rattle.scoreboard.specs.AxiPorts.{PortBoard}
use Rattle.scoreboard.specs.Boards.{Beginning, Board, ClientBoard, MayBegin, opening_board, opening_client, opening_from}
use Rattle.scoreboard.specs.declared.Errors.{Errors}
use Rattle.scoreboard.specs.Flights.{Flights, InFlight, no_flights, no_footprint}
use Rattle.scoreboard.specs.Orders.{Order, begun_to}
use Rattle.scoreboard.proofs.real_time.Apart.{AreApart, AreEither}
use Rattle.scoreboard.proofs.real_time.FlightLists.{HaveAllSources}
use Rattle.scoreboard.proofs.real_time.Entries.{AreDistinct, Each, Stands, run}
use Rattle.scoreboard.proofs.real_time.Places.{HaveSources, NothingComes, Place, begun_at, due_at, flight_at, flight_in, flights_at, flights_kept, footprint_at, footprint_in, none_in}
use Rattle.scoreboard.proofs.real_time.ReplyMoves.{waits_for}
use Rattle.scoreboard.proofs.real_time.RequestActs.{AreBytes}
use Rattle.scoreboard.proofs.real_time.Spared.{AreSpared}

pub record Explains (start : Bytes) (board : Board) (order : Order) : Type 0 where
  pub sources : HaveAllSources board.clients
  pub nothing : NothingComes board.clients
  pub small : AreBytes board.memory.bytes
  pub apart : AreApart (footprint_at board.clients)
  pub either : AreEither board.indeterminate (footprint_at board.clients)
  pub distinct : AreDistinct order
  pub entries : Each board.memory.faults board.memory.regions (Stands board.memory.faults board.memory.regions (flight_at board.clients)) start order
  pub known : (x : ℕ) → board.indeterminate x ≡ false → run board.memory.faults board.memory.regions start order x ≡ board.memory.bytes x
  pub waiting : (client source : ℕ) → is_some (flight_at board.clients (due_at client source)) ≡ true → list_any (waits_for client source) order ≡ true
  pub begun : (client : ℕ) → is_some (flight_at board.clients (begun_at client)) ≡ true → list_any (begun_to client) order ≡ true
  pub spared : AreSpared board.memory.faults board.memory.regions board.indeterminate start order

-- ---- one client changes

-- what holds of a client still holds of each
pub each_client : (P : ClientBoard → Type 0) (clients : List ClientBoard) (number : ℕ) (old changed : ClientBoard) → slice_get clients number ≡ Some old
    → ((other : ℕ) (client : ClientBoard) → slice_get clients other ≡ Some client → P client) → P changed
    → (other : ℕ) (client : ClientBoard) → slice_get (set clients number changed) other ≡ Some client → P client
each_client P clients number old changed is all own other client there =
    elim (cases_eq other number) [
      | inl same ↦ subst P (cc (get_set clients number changed (slice_get_within clients number old is), same, there)) own
      | inr differ ↦ all other client (sym (get_set-other clients number other changed differ) ∙ there)
    ]

pub sources_with : (clients : List ClientBoard) (number : ℕ) (old changed : ClientBoard) → slice_get clients number ≡ Some old → HaveAllSources clients
    → HaveSources changed.flights → HaveAllSources (set clients number changed)
sources_with clients number old changed is are own = each_client (λ client. HaveSources client.flights) clients number old changed is are own

pub nothing_with : (clients : List ClientBoard) (number : ℕ) (old changed : ClientBoard) → slice_get clients number ≡ Some old → NothingComes clients
    → changed.coming ≡ no_footprint → NothingComes (set clients number changed)
nothing_with clients number old changed is nothing own = each_client (λ client. client.coming ≡ no_footprint) clients number old changed is nothing own

-- where the same is in flight
pub explains_as : {start : Bytes} (board : Board) (order : Order) (clients : List ClientBoard) (port : PortBoard) → flight_at board.clients ≡ flight_at clients → HaveAllSources clients
    → NothingComes clients → Explains start board order → Explains start (record board { clients = clients; axi = port }) order
explains_as {start} board order clients port same are nothing explains =
    record {
      sources = are;
      nothing = nothing;
      small = explains.small;
      apart = subst (λ (f : Place → Option InFlight). AreApart (λ place. footprint_in (f place))) same explains.apart;
      either = subst (λ (f : Place → Option InFlight). AreEither board.indeterminate (λ place. footprint_in (f place))) same explains.either;
      distinct = explains.distinct;
      entries = subst (λ (f : Place → Option InFlight). Each board.memory.faults board.memory.regions
          (Stands board.memory.faults board.memory.regions f) start order) same explains.entries;
      known = explains.known;
      waiting = λ client source some. explains.waiting client source (ap (λ (f : Place → Option InFlight). is_some (f (due_at client source))) same ∙ some);
      begun = λ client some. explains.begun client (ap (λ (f : Place → Option InFlight). is_some (f (begun_at client))) same ∙ some);
      spared = explains.spared;
    }

-- a client that keeps its requests in flight
pub explains_with : {start : Bytes} (board : Board) (order : Order) (number : ℕ) (old changed : ClientBoard) → slice_get board.clients number ≡ Some old
    → changed.flights ≡ old.flights → changed.coming ≡ old.coming
    → Explains start board order → Explains start (record board { clients = set board.clients number changed }) order
explains_with {start} board order number old changed is same coming explains =
    explains_as board order (set board.clients number changed) board.axi
    (fun_ext (λ place. ap (λ (f : Flights). flight_in f place.source) (sym (flights_kept board.clients number old changed is same place.client))))
    (sources_with board.clients number old changed is explains.sources (subst HaveSources (sym same) (explains.sources number old is)))
    (nothing_with board.clients number old changed is explains.nothing (coming ∙ explains.nothing number old is)) explains

-- ---- at the start

pub opening_at : (config : Config) (from count number : ℕ) (client : ClientBoard)
    → slice_get (map (opening_client config) (range_with_len from count)) number ≡ Some client
    → (k : ℕ) × (client ≡ opening_client config k)
opening_at config from zero number client is = absurd (cc (is))
opening_at config from (suc count) zero client is = (from, cc (is))
opening_at config from (suc count) (suc number) client is = opening_at config (from + 1) count number client is

pub opening_flights : (config : Config) (from count number : ℕ) → flights_at (map (opening_client config) (range_with_len from count)) number ≡ no_flights
opening_flights config from count number = rw (slice_get-map (opening_client config) (range_with_len from count) number) (grind arith)

pub explains_opening : (start : Bytes) (errors : Errors) (setup : Beginning) → MayBegin setup start → Explains start (opening_from errors setup) []
explains_opening start errors setup begins =
    record {
      sources = λ number client is.
          let found = opening_at setup.lists.config 0 setup.lists.config.clients number client is in
          subst HaveSources (sym (ap (λ (c : ClientBoard). c.flights) found.1)) tt;
      nothing = λ number client is. ap (λ (c : ClientBoard). c.coming) (opening_at setup.lists.config 0 setup.lists.config.clients number client is).1;
      small = record { at = begins.said };
      apart = record
          { apart = λ i j x differ determined. absurd (cc (sym (ap (λ (o : Option InFlight). (footprint_in o).determined x) (nothing i)) ∙ determined)) };
      either = record { either = λ i reads. absurd (cc (sym (ap (λ (o : Option InFlight). (footprint_in o).reads) (nothing i)) ∙ reads)) };
      distinct = tt;
      entries = tt;
      known = begins.known;
      waiting = λ client source some. absurd (cc (sym (ap (λ (o : Option InFlight). is_some o) (nothing (due_at client source))) ∙ some));
      begun = λ client some. absurd (cc (sym (ap (λ (o : Option InFlight). is_some o) (nothing (begun_at client))) ∙ some));
      spared = λ gone unended x certain leave. refl;
    }
  where
    nothing : (place : Place) → flight_at (opening_board setup.lists).clients place ≡ None
    nothing place = none_in (opening_board setup.lists).clients place (opening_flights setup.lists.config 0 setup.lists.config.clients place.client)
