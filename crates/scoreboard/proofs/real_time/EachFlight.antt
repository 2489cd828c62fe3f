-- What holds of each request in flight as it joins the others, and stays where others join and beats of its reply come, holds along beats.
use Rattle.std.proofs.Common.{◌≡◌, ◌<◌, ℕ, ◌==◌, Bool, true, false, List, [], ◌∷◌, length, map, drop, Option, Some, None, Result, Ok, Err, if◌then◌else◌, refl, subst, arith}
use Rattle.std.specs.Prelude.{is_some, slice_get, unwrap_or}
use Rattle.std.specs.List.{AllByRecursion, find}
use Rattle.std.specs.Option.{option_map, option_to_list}
use Rattle.std.proofs.lemmas.Option.{slice_get_within}
use Rattle.bus_words.proofs.PlaceChanges.{all-append, all-find, all-without_first}
use Rattle.bus_words.proofs.StoredPlaces.{get_set}
use Rattle.tl_messages.specs.Requests.{WholeRequest, request_of}
use Rattle.tl_messages.specs.declared.ABeat.{ABeat}
use Rattle.tl_messages.specs.declared.DBeat.{DBeat}
use Rattle.tl_checker.specs.Ports.{joined}
use Rattle.tl_checker.specs.declared.Progress.{Progress}
use Rattle.tl_checker.specs.declared.Progress.TheVariants.{More, Whole}
use Rattle.tl_checker.specs.declared.TlRule.{TlRule}
use Rattle.axi_checker.specs.declared.AxiBeat.{AxiBeat}
use Rattle.scoreboard.specs.AxiPorts.{port_after}
use Rattle.scoreboard.specs.Boards.{Board, ClientBoard, after_a, after_d, after_seen, answer_to, answered_on, client_after, client_beside, client_cut, coming_on, early_after, early_due, flight_for, has_replied, hit_client, hit_on, is_spoiled, joining_on, more_on, told_to, whole_on, with_accepted, with_client, with_whole}
use Rattle.scoreboard.specs.FailedBursts.{Span, failed_span, hit_flight}
use Rattle.scoreboard.specs.Flights.{Footprint, InFlight, begun_after, flights_after, is_of_source, is_over, with_left}
use Rattle.scoreboard.specs.Races.{flight_beside, unless_failed}
use Rattle.scoreboard.specs.declared.Errors.{Errors}
use Rattle.scoreboard.specs.declared.Errors.TheVariants.{Any, Strict}
use Rattle.scoreboard.specs.declared.ObservedBeat.{ObservedBeat}
use Rattle.scoreboard.specs.declared.ObservedBeat.TheVariants.{A, D, Axi as OnAxi, Drained}
use Rattle.scoreboard.specs.declared.Policy.TheVariants.{RealTime}
use Rattle.scoreboard.proofs.real_time.Explained.{each_client}
use Rattle.scoreboard.proofs.real_time.FlightLists.{client_was}
use Rattle.scoreboard.proofs.real_time.Fronts.{beside_at, changed_from}

-- of a client
abbrev pub IsOfEach : (InFlight → Type 0) → ClientBoard → Type 0
IsOfEach P client = AllByRecursion P client.flights.due × AllByRecursion P (option_to_list client.flights.begun)

-- of some clients
abbrev pub AreOfEach : (InFlight → Type 0) → List ClientBoard → Type 0
AreOfEach P clients = (number : ℕ) (client : ClientBoard) → slice_get clients number ≡ Some client → IsOfEach P client

module _ (P : InFlight → Type 0) (beside_kept : (footprint : Footprint) (flight : InFlight) → P flight → P (flight_beside footprint flight))
    (left_kept : (flight : InFlight) → 0 < length (drop 1 flight.beats) → P flight → P (record flight { beats = drop 1 flight.beats })) where
  -- ---- one client

  due_beside : (footprint : Footprint) (due : List InFlight) → AllByRecursion P due → AllByRecursion P (map (flight_beside footprint) due)
  due_beside footprint [] all = tt
  due_beside footprint (flight ∷ due) all = (beside_kept footprint flight all.0, due_beside footprint due all.1)

  begun_beside : (footprint : Footprint) (begun : Option InFlight) → AllByRecursion P (option_to_list begun)
      → AllByRecursion P (option_to_list (option_map (flight_beside footprint) begun))
  begun_beside footprint None all = tt
  begun_beside footprint (Some flight) all = (beside_kept footprint flight all.0, tt)

  each_beside : (footprint : Footprint) (client : ClientBoard) → IsOfEach P client → IsOfEach P (client_beside footprint client)
  each_beside footprint client all = (due_beside footprint client.flights.due all.0, begun_beside footprint client.flights.begun all.1)

  begun_left : (begun : Option InFlight) (source : ℕ) → AllByRecursion P (option_to_list begun) → AllByRecursion P (option_to_list (begun_after begun source))
  begun_left None source all = tt
  begun_left (Some flight) source all = by_source (flight.source == source)
    where
      left : (beats : List DBeat) → (0 < length beats → P (record flight { beats = beats })) → AllByRecursion P (option_to_list (with_left flight beats))
      left [] own = tt
      left (beat ∷ beats) own = (own (omega arith), tt)

      by_source : (b : Bool) → AllByRecursion P (option_to_list (if b then with_left flight (drop 1 flight.beats) else Some flight))
      by_source true = left (drop 1 flight.beats) (λ some. left_kept flight some all.0)
      by_source false = all

  pub each_replied : (client : ClientBoard) (source : ℕ) (told : Bool) → IsOfEach P client
      → IsOfEach P (record client { flights = flights_after client.flights source; early = early_after client source; told = told })
  each_replied client source told all = by_begun client.flights.begun all.1
    where
      due : List InFlight
      due = client.flights.due

      found : (o : Option InFlight) → find (is_of_source source) due ≡ o → AllByRecursion P (option_to_list o)
      found None is = tt
      found (Some flight) is = (all-find P (is_of_source source) due flight all.0 is, tt)

      by_begun : (begun : Option InFlight) → AllByRecursion P (option_to_list begun)
          → IsOfEach P (record client { flights = flights_after (record { due = due; begun = begun }) source; early = early_after client source; told = told })
      by_begun None none =
          (all-without_first P (is_of_source source) due all.0, begun_left (find (is_of_source source) due) source (found (find (is_of_source source) due) refl))
      by_begun (Some flight) some = (all.0, begun_left (Some flight) source some)

  pub each_cut : (client : ClientBoard) (source : ℕ) → IsOfEach P client → IsOfEach P (client_cut source client)
  each_cut client source all = (all.0, by_over (is_over client.flights source) client.flights.begun all.1)
    where
      by_over : (over : Bool) (begun : Option InFlight) → AllByRecursion P (option_to_list begun) → AllByRecursion P (option_to_list (if over then None else begun))
      by_over true begun some = tt
      by_over false begun some = some

  -- ---- all clients

  all_beside : (footprint : Footprint) (clients : List ClientBoard) → AreOfEach P clients → AreOfEach P (map (client_beside footprint) clients)
  all_beside footprint clients are number client is =
      let was = client_was footprint clients number client is in
      subst (IsOfEach P) was.2 (each_beside footprint was.0 (are number was.0 was.1))

  module _ (board : Board) (are : AreOfEach P board.clients)
      (joins : (q : WholeRequest) → P (flight_for board.memory (joining_on board q) q))
      (comes : (number : ℕ) (client : ClientBoard) → slice_get board.clients number ≡ Some client
      → (q : WholeRequest) → P (flight_for board.memory (coming_on board q client.coming) q))
      (hit_kept : board.errors ≡ Any → (span : Span) (flight : InFlight) → P flight → P (hit_flight span flight)) where
    more_each : (number : ℕ) (client : ClientBoard) (q : WholeRequest) (begun : Bool) (old : Board) → slice_get old.clients number ≡ Some client
        → AreOfEach P old.clients → AreOfEach P (more_on old number client q begun).clients
    more_each number client q true old there all =
        each_client (IsOfEach P) old.clients number client (record client { coming = unless_failed (is_spoiled old.errors q) client.coming }) there all (all number client there)
    more_each number client q false old there all =
        let footprint = joining_on old q in
        let beside = all_beside footprint old.clients all in
        each_client (IsOfEach P) (map (client_beside footprint) old.clients) number (client_beside footprint client)
        (record (client_beside footprint client) { coming = footprint; early = early_due old.errors q }) (beside_at footprint old.clients number client there) beside
        (beside number (client_beside footprint client) (beside_at footprint old.clients number client there))

    whole_each : (number : ℕ) (client : ClientBoard) (q : WholeRequest) (begun : Bool) → slice_get board.clients number ≡ Some client
        → AreOfEach P (whole_on board number client q begun).clients
    whole_each number client q true there =
        let flight = flight_for board.memory (coming_on board q client.coming) q in
        let all = are number client there in
        each_client (IsOfEach P) board.clients number client (with_whole (has_replied board.errors client) flight client) there are
        (by_replied (has_replied board.errors client) flight (comes number client there q) all)
      where
        by_replied : (replied : Bool) (flight : InFlight) → P flight → IsOfEach P client → IsOfEach P (with_whole replied flight client)
        by_replied true flight own all = all
        by_replied false flight own all = (all-append P client.flights.due flight all.0 own, all.1)
    whole_each number client q false there =
        let footprint = joining_on board q in
        let flight = flight_for board.memory footprint q in
        let beside = all_beside footprint board.clients are in
        let its = beside number (client_beside footprint client) (beside_at footprint board.clients number client there) in
        each_client (IsOfEach P) (map (client_beside footprint) board.clients) number (client_beside footprint client)
        (with_accepted flight (client_beside footprint client)) (beside_at footprint board.clients number client there) beside
        (all-append P (client_beside footprint client).flights.due flight its.0 (joins q), its.1)

    request_each : (number : ℕ) (beat : ABeat) → AreOfEach P (after_a RealTime board number (slice_get board.clients number) beat).clients
    request_each number beat = by_client (slice_get board.clients number) refl
      where
        by_answer : (client : ClientBoard) (answer : Result Progress TlRule) → slice_get board.clients number ≡ Some client
            → AreOfEach P (answered_on RealTime board number client (joined client.limits client.front beat) answer).clients
        by_answer client (Err broken) there = are
        by_answer client (Ok More) there =
            let message = joined client.limits client.front beat in
            let heard = record client { front = Some message } in
            more_each number heard (request_of message) (is_some client.front) (with_client number heard board)
            (get_set board.clients number heard (slice_get_within board.clients number client there))
            (each_client (IsOfEach P) board.clients number client heard there are (are number client there))
        by_answer client (Ok Whole) there = whole_each number client (request_of (joined client.limits client.front beat)) (is_some client.front) there

        by_client : (o : Option ClientBoard) → slice_get board.clients number ≡ o → AreOfEach P (after_a RealTime board number o beat).clients
        by_client None there = are
        by_client (Some client) there = by_answer client (answer_to RealTime client beat) there

    reply_each : (number : ℕ) (beat : DBeat) → AreOfEach P (after_d board number (slice_get board.clients number) beat).clients
    reply_each number beat = by_client (slice_get board.clients number) refl
      where
        by_client : (o : Option ClientBoard) → slice_get board.clients number ≡ o → AreOfEach P (after_d board number o beat).clients
        by_client None there = are
        by_client (Some client) there =
            let changed = client_cut beat.source client in
            each_client (IsOfEach P) board.clients number client (client_after beat changed) there are
            (each_replied changed beat.source (unwrap_or (told_to changed) beat.denied) (each_cut client beat.source (are number client there)))

    -- with a beat on the AXI4 port, which may be an error response where errors are told in any way
    axi_each : (beat : AxiBeat) → AreOfEach P (after_seen RealTime board (OnAxi beat)).clients
    axi_each beat = by_errors board.errors refl
      where
        after : Board
        after = record board { axi = port_after RealTime board.axi beat }

        hit_each : board.errors ≡ Any → (span : Span) → AreOfEach P (hit_on (Some span) after).clients
        hit_each any span number client is =
            let was = changed_from (hit_client span) board.clients number client is in
            let all = are number was.0 was.1 in
            subst (IsOfEach P) was.2 (due_hit was.0.flights.due all.0, begun_hit was.0.flights.begun all.1)
          where
            due_hit : (due : List InFlight) → AllByRecursion P due → AllByRecursion P (map (hit_flight span) due)
            due_hit [] all = tt
            due_hit (flight ∷ due) all = (hit_kept any span flight all.0, due_hit due all.1)

            begun_hit : (begun : Option InFlight) → AllByRecursion P (option_to_list begun)
                → AllByRecursion P (option_to_list (option_map (hit_flight span) begun))
            begun_hit None all = tt
            begun_hit (Some flight) all = (hit_kept any span flight all.0, tt)

        by_span : board.errors ≡ Any → (span : Option Span) → AreOfEach P (hit_on span after).clients
        by_span any None = are
        by_span any (Some span) = hit_each any span

        by_errors : (errors : Errors) → board.errors ≡ errors → AreOfEach P (hit_on (failed_span errors board.axi beat) after).clients
        by_errors Strict is = are
        by_errors Any is = by_span is (failed_span Any board.axi beat)

    -- with any beat
    pub seen_each : (seen : ObservedBeat) → AreOfEach P (after_seen RealTime board seen).clients
    seen_each (A number beat) = request_each number beat
    seen_each (D number beat) = reply_each number beat
    seen_each (OnAxi beat) = axi_each beat
    seen_each Drained = are
