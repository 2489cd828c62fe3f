-- The footprints of clients, one client after another; and that the pages of those that may write have room.
use Rattle.std.proofs.Common.{◌≡◌, ◌<◌, ◌+◌, ◌/◌, ◌==◌, ℕ, Bool, true, false, List, [], ◌∷◌, ◌++◌, Option, None, Some, if◌then◌else◌, flat_map, map, drop, take, length, get_or, set, refl, sym, ◌∙◌, ap}
use Rattle.std.specs.Prelude.{IfSome}
use Rattle.std.specs.List.{AllByRecursion, find}
use Rattle.std.specs.Option.{option_map, option_to_list}
use Rattle.std.proofs.lemmas.List.{flat_map_more, map-append, take_more}
use Rattle.bus_words.proofs.MappedPlaces.{all-mapped}
use Rattle.bus_words.proofs.PlaceChanges.{all-append, all-find, all-map, all-set, all-without_first}
use Rattle.tl_messages.specs.Operations.{has_data}
use Rattle.tl_messages.specs.Requests.{WholeRequest}
use Rattle.tl_messages.specs.declared.DBeat.{DBeat}
use Rattle.scoreboard.specs.Boards.{ClientBoard, client_beside, client_cut, client_footprints, footprints_of, hit_client, with_accepted, with_whole}
use Rattle.scoreboard.specs.FailedBursts.{Span, hit, shares}
use Rattle.scoreboard.specs.Flights.{Footprint, InFlight, begun_after, flights_after, in_flight, is_of_source, is_over, with_left}
use Rattle.scoreboard.specs.InsideBoards.{HaveRoomToWrite, ClientState, HasRoomToWrite, client_changed, client_of, flight_changed}
use Rattle.scoreboard.specs.Races.{beside, joining, unless_failed}
use Rattle.scoreboard.proofs.MappedLists.{all_parts}

-- one client more
pub footprints_more : (clients : List ClientState) (i : ℕ) (client : ClientState) → i < length clients → client ≡ get_or clients i client
    → footprints_of (map client_of (take i clients)) ++ client_footprints (client_of client) ≡ footprints_of (map client_of (take (i + 1) clients))
footprints_more clients i client below is =
    flat_map_more client_footprints [] (map client_of (take i clients)) (client_of client)
    ∙ sym (ap footprints_of (map-append client_of (take i clients) (client ∷ [])))
    ∙ sym (ap (λ cs. footprints_of (map client_of cs)) (take_more clients i client below ∙ ap (λ c. take i clients ++ c ∷ []) (sym is)))

-- ---- what holds of each of several lists

pub all_join : {X : Type 0} (P : X → Type 0) (xs ys : List X) → AllByRecursion P xs → AllByRecursion P ys → AllByRecursion P (xs ++ ys)
all_join P [] ys first rest = rest
all_join P (x ∷ xs) ys first rest = (first.0, all_join P xs ys first.1 rest)

mapped_all : {X Y : Type 0} (P : Y → Type 0) (f : X → Y) (xs : List X) → AllByRecursion (λ x. P (f x)) xs → AllByRecursion P (map f xs)
mapped_all P f [] all = tt
mapped_all P f (x ∷ xs) all = (all.0, mapped_all P f xs all.1)

all_flat : {X Y : Type 0} (P : Y → Type 0) (f : X → List Y) (xs : List X) → AllByRecursion P (flat_map f xs) → AllByRecursion (λ x. AllByRecursion P (f x)) xs
all_flat P f [] all = tt
all_flat P f (x ∷ xs) all = let parts = all_parts P (f x) (flat_map f xs) all in (parts.0, all_flat P f xs parts.1)

flat_all : {X Y : Type 0} (P : Y → Type 0) (f : X → List Y) (xs : List X) → AllByRecursion (λ x. AllByRecursion P (f x)) xs → AllByRecursion P (flat_map f xs)
flat_all P f [] all = tt
flat_all P f (x ∷ xs) all = all_join P (f x) (flat_map f xs) all.0 (flat_all P f xs all.1)

-- ---- with room

module _ (rooms : ℕ → Bool) where
  abbrev HasRoom : InFlight → Type 0
  HasRoom flight = HasRoomToWrite rooms flight.footprint

  -- a client's requests, one by one
  abbrev HaveRoom : ClientBoard → Type 0
  HaveRoom client = AllByRecursion HasRoom client.flights.due × AllByRecursion HasRoom (option_to_list client.flights.begun) × HasRoomToWrite rooms client.coming

  room_parts : (client : ClientBoard) → HaveRoomToWrite rooms (client_footprints client) → HaveRoom client
  room_parts client good =
      let footprint = λ (flight : InFlight). flight.footprint in
      let all = all_parts (HasRoomToWrite rooms) (map footprint (in_flight client.flights)) (client.coming ∷ []) good in
      let flights = all_parts HasRoom client.flights.due (option_to_list client.flights.begun) (all-mapped (HasRoomToWrite rooms) footprint (in_flight client.flights) all.0) in
      (flights.0, flights.1, all.1.0)

  room_whole : (client : ClientBoard) → HaveRoom client → HaveRoomToWrite rooms (client_footprints client)
  room_whole client good =
      let footprint = λ (flight : InFlight). flight.footprint in
      all_join (HasRoomToWrite rooms) (map footprint (in_flight client.flights)) (client.coming ∷ [])
      (mapped_all (HasRoomToWrite rooms) footprint (in_flight client.flights) (all_join HasRoom client.flights.due (option_to_list client.flights.begun) good.0 good.1)) (good.2, tt)

  -- of each client as it is held
  pub room_each : (clients : List ClientState) → HaveRoomToWrite rooms (footprints_of (map client_of clients)) → AllByRecursion (λ client. HaveRoomToWrite rooms (client_footprints (client_of client))) clients
  room_each clients good = all-mapped (λ client. HaveRoomToWrite rooms (client_footprints client)) client_of clients (all_flat (HasRoomToWrite rooms) client_footprints (map client_of clients) good)

  -- where one client of a list changes
  pub room_client : (clients : List ClientState) (number : ℕ) (new : ClientState) → HaveRoomToWrite rooms (footprints_of (map client_of clients))
      → HaveRoomToWrite rooms (client_footprints (client_of new)) → HaveRoomToWrite rooms (footprints_of (map client_of (set clients number new)))
  room_client clients number new all good =
      let has = λ (client : ClientState). HaveRoomToWrite rooms (client_footprints (client_of client)) in
      flat_all (HasRoomToWrite rooms) client_footprints (map client_of (set clients number new))
      (mapped_all (λ client. HaveRoomToWrite rooms (client_footprints client)) client_of (set clients number new) (all-set has clients number new (room_each clients all) good))

  -- after a beat on channel D
  begun_good : (begun : Option InFlight) (source : ℕ) → AllByRecursion HasRoom (option_to_list begun) → AllByRecursion HasRoom (option_to_list (begun_after begun source))
  begun_good None source good = tt
  begun_good (Some flight) source good = by_source (flight.source == source)
    where
      left : (beats : List DBeat) → AllByRecursion HasRoom (option_to_list (with_left flight beats))
      left [] = tt
      left (beat ∷ beats) = good

      by_source : (b : Bool) → AllByRecursion HasRoom (option_to_list (if b then with_left flight (drop 1 flight.beats) else Some flight))
      by_source true = left (drop 1 flight.beats)
      by_source false = good

  pub room_after : (client : ClientBoard) (source : ℕ) → HaveRoomToWrite rooms (client_footprints client)
      → HaveRoomToWrite rooms (client_footprints (record client { flights = flights_after client.flights source }))
  room_after client source good =
      let parts = room_parts client good in
      room_whole (record client { flights = flights_after client.flights source }) (by_begun client.flights.begun parts.1)
    where
      due : List InFlight
      due = client.flights.due

      all : AllByRecursion HasRoom due
      all = (room_parts client good).0

      found : (o : Option InFlight) → find (is_of_source source) due ≡ o → AllByRecursion HasRoom (option_to_list o)
      found None is = tt
      found (Some flight) is = (all-find HasRoom (is_of_source source) due flight all is, tt)

      by_begun : (begun : Option InFlight) → AllByRecursion HasRoom (option_to_list begun)
          → HaveRoom (record client { flights = flights_after (record { due = due; begun = begun }) source })
      by_begun None none =
          (all-without_first HasRoom (is_of_source source) due all, begun_good (find (is_of_source source) due) source (found (find (is_of_source source) due) refl), (room_parts client good).2)
      by_begun (Some flight) some = (all, begun_good (Some flight) source some, (room_parts client good).2)

  -- as the beat finds it
  pub room_cut : (client : ClientBoard) (source : ℕ) → HaveRoomToWrite rooms (client_footprints client) → HaveRoomToWrite rooms (client_footprints (client_cut source client))
  room_cut client source good =
      let parts = room_parts client good in
      room_whole (client_cut source client) (parts.0, by_over (is_over client.flights source) client.flights.begun parts.1, parts.2)
    where
      by_over : (over : Bool) (begun : Option InFlight) → AllByRecursion HasRoom (option_to_list begun) → AllByRecursion HasRoom (option_to_list (if over then None else begun))
      by_over true begun all = tt
      by_over false begun all = all

  -- where each footprint changes, and stays on a good page
  module _ (change : Footprint → Footprint) (keeps : (footprint : Footprint) → HasRoomToWrite rooms footprint → HasRoomToWrite rooms (change footprint)) where
    room_changed : (client : ClientBoard) → HaveRoomToWrite rooms (client_footprints client) → HaveRoomToWrite rooms (client_footprints (client_changed change client))
    room_changed client good =
        let parts = room_parts client good in
        room_whole (client_changed change client) (
          mapped_all HasRoom (flight_changed change) client.flights.due (all-map HasRoom (λ flight. HasRoom (flight_changed change flight)) client.flights.due one parts.0),
          begun client.flights.begun parts.1,
          keeps client.coming parts.2,
        )
      where
        one : (flight : InFlight) → HasRoom flight → HasRoom (flight_changed change flight)
        one flight here = keeps flight.footprint here

        begun : (o : Option InFlight) → AllByRecursion HasRoom (option_to_list o) → AllByRecursion HasRoom (option_to_list (option_map (flight_changed change) o))
        begun None here = tt
        begun (Some flight) here = (one flight here.0, tt)

    all_changed : (clients : List ClientBoard) → HaveRoomToWrite rooms (footprints_of clients) → HaveRoomToWrite rooms (footprints_of (map (client_changed change) clients))
    all_changed clients good =
        let has = λ (client : ClientBoard). HaveRoomToWrite rooms (client_footprints client) in
        flat_all (HasRoomToWrite rooms) client_footprints (map (client_changed change) clients)
        (mapped_all has (client_changed change) clients
        (all-map has (λ client. has (client_changed change client)) clients room_changed (all_flat (HasRoomToWrite rooms) client_footprints clients good)))

  -- beside a request that joins
  pub all_beside : (footprint : Footprint) (clients : List ClientBoard) → HaveRoomToWrite rooms (footprints_of clients)
      → HaveRoomToWrite rooms (footprints_of (map (client_beside footprint) clients))
  all_beside footprint clients good = all_changed (λ one. beside one footprint) (λ one here. here) clients good

  -- with a request more in flight, and none coming
  pub room_accepted : (flight : InFlight) (client : ClientBoard) → HaveRoomToWrite rooms (client_footprints client) → HasRoomToWrite rooms flight.footprint
      → HaveRoomToWrite rooms (client_footprints (with_accepted flight client))
  room_accepted flight client good here =
      let parts = room_parts client good in
      room_whole (with_accepted flight client) (all-append HasRoom client.flights.due flight parts.0 here, parts.1, λ writes. absurd (cc (writes)))

  -- or where that one has ended already
  pub room_with_whole : (replied : Bool) (flight : InFlight) (client : ClientBoard) → HaveRoomToWrite rooms (client_footprints client) → HasRoomToWrite rooms flight.footprint
      → HaveRoomToWrite rooms (client_footprints (with_whole replied flight client))
  room_with_whole true flight client good here =
      let parts = room_parts client good in room_whole (with_whole true flight client) (parts.0, parts.1, λ writes. absurd (cc (writes)))
  room_with_whole false flight client good here = room_accepted flight client good here

  -- with another coming
  pub room_coming : (footprint : Footprint) (client : ClientBoard) → HaveRoomToWrite rooms (client_footprints client) → HasRoomToWrite rooms footprint
      → HaveRoomToWrite rooms (client_footprints (record client { coming = footprint }))
  room_coming footprint client good here = let parts = room_parts client good in room_whole (record client { coming = footprint }) (parts.0, parts.1, here)

  -- where the one that is coming has failed, or has not, and other bytes of it are determined
  pub room_told : (failed : Bool) (determined : ℕ → Bool) (client : ClientBoard) → HaveRoomToWrite rooms (client_footprints client)
      → HaveRoomToWrite rooms (client_footprints (record client { coming = record client.coming { failed = failed; determined = determined } }))
  room_told failed determined client good =
      let parts = room_parts client good in
      room_whole (record client { coming = record client.coming { failed = failed; determined = determined } }) (parts.0, parts.1, parts.2)

  pub room_unless_failed : (failed : Bool) (footprint : Footprint) → HasRoomToWrite rooms footprint → HasRoomToWrite rooms (unless_failed failed footprint)
  room_unless_failed true footprint good = good
  room_unless_failed false footprint good = good

  -- where those are hit that share a byte with a burst
  pub all_hit : (span : Span) (clients : List ClientBoard) → HaveRoomToWrite rooms (footprints_of clients)
      → HaveRoomToWrite rooms (footprints_of (map (hit_client span) clients))
  all_hit span clients good = all_changed (hit span) (λ one here. room_unless_failed (shares span one) one here) clients good

-- one that has joined others has room to write, if it acts where there is room
pub room_joining : (rooms : ℕ → Bool) (indeterminate : ℕ → Bool) (others : List Footprint) (place : Option ℕ) (q : WholeRequest)
    → (has_data q.operation ≡ true → IfSome place (λ address. rooms (address / 4096) ≡ true)) → HasRoomToWrite rooms (joining indeterminate others place q)
room_joining rooms indeterminate others None q room = λ writes. absurd (cc (writes))
room_joining rooms indeterminate others (Some address) q room = λ writes. room writes
