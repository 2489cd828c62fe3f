-- A request that is accepted is put into an order: the board still knows what it knew of it.
use Rattle.std.proofs.Common.{◌≡◌, ℕ, Bool, true, false, List, [], ◌∷◌, ◌++◌, map, set, Option, Some, None, ◌⊎◌, inl, inr, refl, sym, ◌∙◌, ap, subst, arith}
use Rattle.std.specs.Prelude.{is_some, option_map, slice_get}
use Rattle.std.specs.List.{AllByRecursion, list_any}
use Rattle.std.proofs.lemmas.Option.{slice_get-map}
use Rattle.tl_messages.specs.Requests.{WholeRequest}
use Rattle.burst_plan.specs.declared.Region.{Region}
use Rattle.burst_plan.specs.PageMap.{address_of}
use Rattle.subordinate.specs.Faults.{Faults}
use Rattle.meaning.specs.Meaning.{Bytes}
use Rattle.scoreboard.specs.Boards.{Board, ClientBoard, client_beside, flight_for, footprints_of, joined_on, with_accepted}
use Rattle.serial_memory.specs.SerialMemory.{on_good_page, place_in}
use Rattle.scoreboard.specs.Orders.{Order, begun_to, has_ended}
use Rattle.scoreboard.proofs.real_time.StepOrders.{first_of}
use Rattle.scoreboard.specs.declared.Errors.TheVariants.{Strict}
use Rattle.scoreboard.specs.Flights.{Flights, Footprint, InFlight, due_to, is_of_source}
use Rattle.scoreboard.specs.Races.{alone, beside, beside_all, flight_beside, joining}
use Rattle.scoreboard.proofs.MappedLists.{any_map}
use Rattle.scoreboard.proofs.real_time.Apart.{AreAll, IsJoining}
use Rattle.scoreboard.proofs.real_time.Entries.{Each, IsElsewhere, Stands, any_here, any_with, carry, distinct_with}
use Rattle.scoreboard.proofs.real_time.Explained.{Explains, nothing_with, sources_with}
use Rattle.scoreboard.proofs.real_time.FlightPlaces.{at_beside, other_taken, own_taken, sources_more}
use Rattle.scoreboard.proofs.real_time.FlightLists.{HaveAllSources, are_all, client_was, none_found, sources_kept}
use Rattle.scoreboard.proofs.real_time.Insertion.{inserted}
use Rattle.scoreboard.proofs.real_time.Places.{HaveSources, NothingComes, Place, begun_at, cases_place, due_at, flight_at, flights_in, footprint_at}
use Rattle.scoreboard.proofs.real_time.ReplyMoves.{waits_for}
use Rattle.scoreboard.proofs.real_time.RequestActs.{IsWell, acts}

-- ---- the one that joins

joins_right : (faults : Faults) (regions : List Region) (indeterminate : ℕ → Bool) (footprints : Place → Footprint) (all : List Footprint) (q : WholeRequest)
    → AreAll footprints all → IsWell q
    → IsJoining indeterminate footprints (beside_all (alone indeterminate (on_good_page faults (address_of regions q)) q) all) q.bytes
joins_right faults regions indeterminate footprints all q are well = grind (arith, are, well, acts faults regions q well)

-- where nothing is in flight nobody stands
all_elsewhere : (faults : Faults) (regions : List Region) (flights : Place → Option InFlight) (place : Place) → flights place ≡ None
    → (order : Order) (m : Bytes) → Each faults regions (Stands faults regions flights) m order
    → AllByRecursion (IsElsewhere place) order
all_elsewhere faults regions flights place none [] m each = tt
all_elsewhere faults regions flights place none (entry ∷ order) m each =
    grind (arith, none, each, all_elsewhere faults regions flights place none order (carry faults regions entry.request m) each.1)

-- ---- clients beside one that joins

pub sources_beside : (footprint : Footprint) (clients : List ClientBoard) → HaveAllSources clients → HaveAllSources (map (client_beside footprint) clients)
sources_beside footprint clients are number client is =
    let was = client_was footprint clients number client is in
    subst (λ (c : ClientBoard). HaveSources c.flights) was.2 (sources_kept footprint was.0.flights (are number was.0 was.1))

-- nothing is coming beside it where nothing was
nothing_beside : (footprint : Footprint) (clients : List ClientBoard) → NothingComes clients → NothingComes (map (client_beside footprint) clients)
nothing_beside footprint clients nothing number client is =
    let was = client_was footprint clients number client is in
    sym (ap (λ (c : ClientBoard). c.coming) was.2) ∙ ap (λ (r : Footprint). beside r footprint) (nothing number was.0 was.1)

-- ---- the board with the request

-- where errors are told as this project's bridge tells them
abbrev pub sure_on : Board → WholeRequest → Footprint
sure_on board q = joining board.indeterminate (footprints_of board.clients) (place_in board.memory q) q

module _ (board : Board) (number : ℕ) (client : ClientBoard) (q : WholeRequest) (footprint : Footprint) (there : slice_get board.clients number ≡ Some client)
    (free : list_any (is_of_source q.source) client.flights.due ≡ false) where
  abbrev flight : InFlight
  flight = flight_for board.memory footprint q

  abbrev given : List ClientBoard
  given = map (client_beside footprint) board.clients

  abbrev changed : ClientBoard
  changed = with_accepted flight (client_beside footprint client)

  abbrev new_clients : List ClientBoard
  new_clients = set given number changed

  abbrev own_place : Place
  own_place = due_at number q.source

  there_beside : slice_get given number ≡ Some (client_beside footprint client)
  there_beside = slice_get-map (client_beside footprint) board.clients number ∙ ap (option_map (client_beside footprint)) there

  free_beside : list_any (is_of_source q.source) (client_beside footprint client).flights.due ≡ false
  free_beside = any_map (is_of_source q.source) (flight_beside footprint) client.flights.due ∙ free

  pub own_flight : flight_at (set (map (client_beside footprint) board.clients) number (with_accepted (flight_for board.memory footprint q) (client_beside footprint client))) (due_at number q.source)
      ≡ Some (flight_for board.memory footprint q)
  own_flight = own_taken given number (client_beside footprint client) flight there_beside free_beside

  pub other_flight : (i : Place) → (i ≡ due_at number q.source → ⊥)
      → flight_at (set (map (client_beside footprint) board.clients) number (with_accepted (flight_for board.memory footprint q) (client_beside footprint client))) i
      ≡ option_map (flight_beside footprint) (flight_at board.clients i)
  other_flight i differ = other_taken given number (client_beside footprint client) flight there_beside free_beside i differ ∙ at_beside footprint board.clients i

  pub still_some : (i : Place) → (i ≡ due_at number q.source → ⊥)
      → is_some (flight_at (set (map (client_beside footprint) board.clients) number (with_accepted (flight_for board.memory footprint q) (client_beside footprint client))) i)
      ≡ is_some (flight_at board.clients i)
  still_some i differ = grind (arith, other_flight i differ)

module _ (board : Board) (number : ℕ) (client : ClientBoard) (q : WholeRequest) (there : slice_get board.clients number ≡ Some client)
    (free : list_any (is_of_source q.source) client.flights.due ≡ false) where
  abbrev sure : Footprint
  sure = sure_on board q

  abbrev accepted : InFlight
  accepted = flight board number client q sure there free

  abbrev beside_it : List ClientBoard
  beside_it = given board number client q sure there free

  abbrev with_it_all : List ClientBoard
  with_it_all = new_clients board number client q sure there free

  abbrev its_place : Place
  its_place = due_at number q.source

  pub explains_joined : {start : Bytes} (n : ℕ) (before after : Order) → IsWell q → list_any has_ended after ≡ false → Explains start board (before ++ after)
      → Explains start (joined_on board number client q (sure_on board q)) (before ++ first_of Strict number q true n ∷ after)
  explains_joined {start} n before after well none explains =
      let with_it =
      inserted board.memory.faults board.memory.regions (flight_at board.clients) (flight_at with_it_all) (footprints_of board.clients)
      board.indeterminate board.memory.bytes (first_of Strict number q true n) accepted well refl refl
      (joins_right board.memory.faults board.memory.regions board.indeterminate (footprint_at board.clients) (footprints_of board.clients) q are well)
      are explains.apart explains.either (own_flight board number client q sure there free) (other_flight board number client q sure there free) before after start explains.entries none elsewhere explains.distinct explains.known refl
      explains.small refl explains.spared in
      record {
        sources =
            sources_with beside_it number (client_beside sure client) (changed board number client q sure there free) (there_beside board number client q sure there free)
            (sources_beside sure board.clients explains.sources)
            (sources_more accepted (client_beside sure client).flights (free_beside board number client q sure there free)
            (sources_kept sure client.flights (explains.sources number client there)));
        nothing =
            nothing_with beside_it number (client_beside sure client) (changed board number client q sure there free) (there_beside board number client q sure there free)
            (nothing_beside sure board.clients explains.nothing) refl;
        small = (acts board.memory.faults board.memory.regions q well).small board.memory.bytes explains.small;
        apart = with_it.apart_now;
        either = with_it.either_now;
        distinct = distinct_with before after (first_of Strict number q true n) explains.distinct elsewhere;
        entries = with_it.entries;
        known = with_it.known;
        waiting = λ c source some. waiting c source some (cases_place (due_at c source) its_place);
        begun = λ c some.
            any_with (begun_to c) before after (first_of Strict number q true n)
            (explains.begun c (sym (still_some board number client q sure there free (begun_at c) (not_due c)) ∙ some));
        spared = with_it.spared_now;
      }
    where
      are : AreAll (footprint_at board.clients) (footprints_of board.clients)
      are = are_all board.clients explains.sources explains.nothing

      nothing : flight_at board.clients its_place ≡ None
      nothing = ap (λ (f : Flights). due_to f q.source) (ap flights_in there) ∙ none_found q.source client.flights.due free

      elsewhere : AllByRecursion (IsElsewhere its_place) (before ++ after)
      elsewhere = all_elsewhere board.memory.faults board.memory.regions (flight_at board.clients) its_place nothing (before ++ after) start explains.entries

      not_due : (c : ℕ) → begun_at c ≡ its_place → ⊥
      not_due c same = let source = ap (λ (p : Place). p.source) same in absurd (cc (source))

      waiting : (c source : ℕ) → is_some (flight_at with_it_all (due_at c source)) ≡ true
          → (due_at c source ≡ its_place) ⊎ (due_at c source ≡ its_place → ⊥)
          → list_any (waits_for c source) (before ++ first_of Strict number q true n ∷ after) ≡ true
      waiting c source some (inr differ) =
          any_with (waits_for c source) before after (first_of Strict number q true n)
          (explains.waiting c source (sym (still_some board number client q sure there free (due_at c source) differ) ∙ some))
      waiting c source some (inl same) = grind (arith, some, there, any_here (waits_for c source) before after (first_of Strict number q true n))
