-- A board and its history still match with a beat on channel A.
use Rattle.std.proofs.Common.{◌≡◌, ℕ, Bool, true, false, List, [], ◌∷◌, ◌++◌, map, set, length, Option, Some, None, Result, Ok, Err, if◌then◌else◌, inl, inr, refl, sym, ◌∙◌, ap, subst}
use Rattle.std.specs.Prelude.{is_none, is_some, slice_get}
use Rattle.std.specs.List.{list_any}
use Rattle.std.specs.Option.{option_map}
use Rattle.std.proofs.lemmas.Bool.{cases_eq}
use Rattle.std.proofs.lemmas.Option.{slice_get-map, slice_get_within}
use Rattle.bus_words.proofs.StoredPlaces.{get_set, get_set-other}
use Rattle.meaning.specs.Meaning.{acknowledged}
use Rattle.responses.specs.Shown.{beat_without_data}
use Rattle.setups.specs.Setups.{SetupLists}
use Rattle.tl_checker.specs.Ports.{joined}
use Rattle.tl_checker.specs.RequestRules.{TlPortLimits}
use Rattle.tl_checker.specs.declared.Progress.{Progress}
use Rattle.tl_checker.specs.declared.Progress.TheVariants.{More, Whole}
use Rattle.tl_checker.specs.declared.TlRule.{TlRule}
use Rattle.tl_messages.specs.Requests.{HeldMessage, WholeRequest, bytes_given, request_of, with_beat}
use Rattle.tl_messages.specs.declared.DBeat.{DBeat}
use Rattle.tl_messages.specs.declared.ABeat.{ABeat}
use Rattle.scoreboard.specs.Boards.{Board, ClientBoard, after_a, answer_to, answered_on, client_beside, coming_on, early_due, flight_for, has_replied, is_spoiled, joining_on, more_on, whole_on, with_accepted, with_client, with_whole}
use Rattle.scoreboard.specs.Flights.{Flights, Footprint, InFlight, is_of_source}
use Rattle.scoreboard.specs.Orders.{Entry, Order}
use Rattle.scoreboard.specs.Races.{flight_beside, unless_failed}
use Rattle.scoreboard.specs.RealTime.{completed, heard, may_reply, with_answered, with_progress, with_request}
use Rattle.scoreboard.specs.declared.Errors.{Errors}
use Rattle.scoreboard.specs.declared.Errors.TheVariants.{Any, Strict}
use Rattle.scoreboard.specs.declared.Policy.TheVariants.{RealTime}
use Rattle.scoreboard.proofs.MappedLists.{any_map}
use Rattle.scoreboard.proofs.real_time.CheckedRequests.{joined_free}
use Rattle.scoreboard.proofs.real_time.Comings.{early_at, early_in}
use Rattle.scoreboard.proofs.real_time.FlightLists.{HaveAllSources, none_found}
use Rattle.scoreboard.proofs.real_time.FlightPlaces.{at_beside, other_taken, own_taken, sources_more}
use Rattle.scoreboard.proofs.real_time.Fronts.{AreFronts, beside_at, front_at, front_of}
use Rattle.scoreboard.proofs.real_time.Places.{HaveSources, Place, coming_at, coming_in, due_at, flight_at, flight_in, flights_at, flights_in}
use Rattle.value_orders.proofs.Matches.{Fits, IsBegun, Matches, acting_as, has_come}
use Rattle.value_orders.proofs.MatchesBegin.{first_entry, fits_first, joining_acts}
use Rattle.value_orders.proofs.MatchesGoOn.{as_whole, coming_acts, fits_completed, fits_heard}
use Rattle.value_orders.proofs.MatchesKept.{fits_beside, front_kept}

-- ---- clients of which one changes

pub record IsSet (clients next : List ClientBoard) (number : ℕ) (changed : ClientBoard) : Type 0 where
  pub own : slice_get next number ≡ Some changed
  pub other : (client : ℕ) → (client ≡ number → ⊥) → slice_get next client ≡ slice_get clients client

pub is_set : (clients : List ClientBoard) (number : ℕ) (old changed : ClientBoard) → slice_get clients number ≡ Some old
    → IsSet clients (set clients number changed) number changed
is_set clients number old changed there =
    record {
      own = get_set clients number changed (slice_get_within clients number old there);
      other = λ client differ. get_set-other clients number client changed differ;
    }

is_set_then : (clients next last : List ClientBoard) (number : ℕ) (one changed : ClientBoard) → IsSet clients next number one → IsSet next last number changed
    → IsSet clients last number changed
is_set_then clients next last number one changed first again =
    record { own = again.own; other = λ client differ. again.other client differ ∙ first.other client differ }

is_set_beside : (footprint : Footprint) (clients next : List ClientBoard) (number : ℕ) (changed : ClientBoard) → IsSet clients next number changed
    → IsSet (map (client_beside footprint) clients) (map (client_beside footprint) next) number (client_beside footprint changed)
is_set_beside footprint clients next number changed is =
    record {
      own = slice_get-map (client_beside footprint) next number ∙ ap (option_map (client_beside footprint)) is.own;
      other = λ client differ.
          slice_get-map (client_beside footprint) next client ∙ ap (option_map (client_beside footprint)) (is.other client differ)
          ∙ sym (slice_get-map (client_beside footprint) clients client);
    }

module _ (clients next : List ClientBoard) (number : ℕ) (changed : ClientBoard) (is : IsSet clients next number changed) where
  pub sources_set : HaveAllSources clients → HaveSources changed.flights → HaveAllSources next
  sources_set are own client found there =
      elim (cases_eq client number) [
        | inl same ↦
            let one : Some changed ≡ Some found = sym is.own ∙ ap (slice_get next) (sym same) ∙ there in
            let this : changed ≡ found = cc (one) in subst (λ (c : ClientBoard). HaveSources c.flights) this own
        | inr differ ↦ are client found (sym (is.other client differ) ∙ there)
      ]

  pub front_set : (client : ℕ) → (client ≡ number → ⊥) → front_at next client ≡ front_at clients client
  front_set client differ = ap front_of (is.other client differ)

  pub early_set : (client : ℕ) → (client ≡ number → ⊥) → early_at next client ≡ early_at clients client
  early_set client differ = ap early_in (is.other client differ)

  pub coming_set : (client : ℕ) → (client ≡ number → ⊥) → coming_at next client ≡ coming_at clients client
  coming_set client differ = ap coming_in (is.other client differ)

  -- where it keeps what is in flight
  pub flights_set : (old : ClientBoard) → slice_get clients number ≡ Some old → changed.flights ≡ old.flights → (place : Place) → flight_at next place ≡ flight_at clients place
  flights_set old there same place =
      elim (cases_eq place.client number) [
        | inl own ↦
            ap (λ (f : Flights). flight_in f place.source)
            (ap (flights_at next) own ∙ ap flights_in is.own ∙ same ∙ sym (ap flights_in there) ∙ sym (ap (flights_at clients) own))
        | inr differ ↦ ap (λ (o : Option ClientBoard). flight_in (flights_in o) place.source) (is.other place.client differ)
      ]

-- ---- with a beat that a port takes

-- a reply may come early from the first beat on, where errors may be told in any way
may_come : (errors : Errors) (q : WholeRequest) → early_due errors q ≡ (if may_reply errors false then Some (beat_without_data q acknowledged) else None)
may_come Strict q = refl
may_come Any q = refl

-- and hasn't come then
not_come : (errors : Errors) (q : WholeRequest) → has_come errors (early_due errors q) ≡ false
not_come Strict q = refl
not_come Any q = refl

early_any : (errors : Errors) → may_reply errors false ≡ true → errors ≡ Any
early_any Strict may = absurd (cc (may))
early_any Any may = refl

come_is : (errors : Errors) (client : ClientBoard) → has_come errors client.early ≡ has_replied errors client
come_is Strict client = refl
come_is Any client = by_early client.early
  where
    by_early : (early : Option DBeat) → has_come Any early ≡ is_none early
    by_early None = refl
    by_early (Some due) = refl

-- a message with one more beat is the same request
joined_fields : (limits : TlPortLimits) (front : Option HeldMessage) (beat : ABeat) (held : HeldMessage) (first : WholeRequest) → front ≡ Some held
    → request_of held ≡ record first { bytes = bytes_given held; corrupt = held.corrupt }
    → request_of (joined limits front beat) ≡ record first { bytes = bytes_given (joined limits front beat); corrupt = (joined limits front beat).corrupt }
joined_fields limits front beat held first some fields =
    subst (λ (o : Option HeldMessage). request_of (joined limits o beat) ≡ record first { bytes = bytes_given (joined limits o beat); corrupt = (joined limits o beat).corrupt })
    (sym some) (ap (λ (r : WholeRequest). record r { bytes = bytes_given (with_beat held beat); corrupt = (with_beat held beat).corrupt }) fields)

module _ (setup : SetupLists) (board : Board) (number : ℕ) (client : ClientBoard) (beat : ABeat) (now : Order) (match : Matches setup board.errors board now) (fronts : AreFronts board.clients)
    (there : slice_get board.clients number ≡ Some client) where
  abbrev message : HeldMessage
  message = joined client.limits client.front beat

  abbrev q : WholeRequest
  q = request_of message

  front_here : front_at board.clients number ≡ client.front
  front_here = ap front_of there

  module _ (progress : Progress) (told : answer_to RealTime client beat ≡ Ok progress) where
    free_list : list_any (is_of_source message.source) client.flights.due ≡ false
    free_list = joined_free client beat progress (fronts number client there) told

    free_there : flight_at board.clients (due_at number message.source) ≡ None
    free_there = ap (λ (o : Option ClientBoard). flight_in (flights_in o) (Some message.source)) there ∙ none_found message.source client.flights.due free_list

    free_beside : (footprint : Footprint) → flight_at (map (client_beside footprint) board.clients) (due_at number message.source) ≡ None
    free_beside footprint = at_beside footprint board.clients (due_at number message.source) ∙ ap (option_map (flight_beside footprint)) free_there

    -- a first beat of several
    module _ (none : client.front ≡ None) where
      abbrev continued : ClientBoard
      continued = record client { front = Some message }

      abbrev begun : Board
      begun = with_client number continued board

      abbrev first : Footprint
      first = joining_on begun q

      abbrev first_client : ClientBoard
      first_client = record (client_beside first (record continued { early = early_due board.errors q })) { coming = first }

      set_first : IsSet (map (client_beside first) board.clients) (more_on begun number continued q false).clients number first_client
      set_first =
          let once = is_set_beside first board.clients begun.clients number continued (is_set board.clients number client continued there) in
          is_set_then (map (client_beside first) board.clients) (map (client_beside first) begun.clients) (more_on begun number continued q false).clients number
          (client_beside first continued) first_client once (is_set (map (client_beside first) begun.clients) number (client_beside first continued) first_client once.own)

      begins : Fits setup board.errors (more_on begun number continued q false).clients (now ++ first_entry board.errors number q false (length now) ∷ [])
      begins =
          let beside = fits_beside setup board.errors board.clients now first match.fits in
          let next = (more_on begun number continued q false).clients in
          let here = beside_at first board.clients number client there in
          fits_first setup board.errors (map (client_beside first) board.clients) next now number q beside
          (front_kept first board.clients number ∙ front_here ∙ none) (free_beside first)
          (sources_set (map (client_beside first) board.clients) next number first_client set_first beside.sources (beside.sources number (client_beside first client) here))
          (front_set (map (client_beside first) board.clients) next number first_client set_first)
          (early_set (map (client_beside first) board.clients) next number first_client set_first)
          (coming_set (map (client_beside first) board.clients) next number first_client set_first) false
          (record { flies = λ whole. absurd (cc (whole)); begun = λ unwhole. own })
          (λ place away. flights_set (map (client_beside first) board.clients) next number first_client set_first (client_beside first client) here refl place)
          (λ whole. absurd (cc (whole))) (λ whole. absurd (cc (whole))) (λ some. (message, ap front_of set_first.own))
        where
          own : IsBegun setup board.errors (more_on begun number continued q false).clients (first_entry board.errors number q false (length now))
          own =
              let early = ap early_in set_first.own in
              record {
                held = message;
                front = ap front_of set_first.own;
                fields = refl;
                none_came = refl;
                any = early_any board.errors;
                early = early ∙ may_come board.errors q;
                replied = sym (ap (has_come board.errors) early ∙ not_come board.errors q);
                acts = subst (λ (f : Footprint). f ≡ acting_as setup board.errors (first_entry board.errors number q false (length now)) f.determined)
                    (sym (ap coming_in set_first.own)) (joining_acts setup board.errors begun q false number (length now) refl match.faults match.regions);
              }

    -- a beat that is the whole
    module _ (none : client.front ≡ None) where
      abbrev joins : Footprint
      joins = joining_on board q

      abbrev flight : InFlight
      flight = flight_for board.memory joins q

      abbrev beside_it : ClientBoard
      beside_it = client_beside joins client

      taken : Fits setup board.errors (whole_on board number client q false).clients (now ++ first_entry board.errors number q true (length now) ∷ [])
      taken =
          let clients = map (client_beside joins) board.clients in
          let next = (whole_on board number client q false).clients in
          let beside = fits_beside setup board.errors board.clients now joins match.fits in
          let here = beside_at joins board.clients number client there in
          let free = any_map (is_of_source q.source) (flight_beside joins) client.flights.due ∙ free_list in
          let changes = is_set clients number beside_it (with_accepted flight beside_it) here in
          fits_first setup board.errors clients next now number q beside
          (front_kept joins board.clients number ∙ front_here ∙ none) (free_beside joins)
          (sources_set clients next number (with_accepted flight beside_it) changes beside.sources
          (sources_more flight beside_it.flights free (beside.sources number beside_it here)))
          (front_set clients next number (with_accepted flight beside_it) changes) (early_set clients next number (with_accepted flight beside_it) changes)
          (coming_set clients next number (with_accepted flight beside_it) changes) true
          (record {
            flies = λ whole live. record {
              flight = flight;
              there = own_taken clients number beside_it flight here free;
              source = refl;
              acts = joining_acts setup board.errors board q true number (length now) refl match.faults match.regions;
              made_of = board.memory.bytes;
              left = rw (match.faults, match.regions) refl;
            };
            begun = λ unwhole. absurd (cc (unwhole));
          })
          (λ place away. other_taken clients number beside_it flight here free place (away refl)) (λ whole. ap front_of changes.own) (λ whole. ap early_in changes.own)
          (λ unwhole. absurd (cc (unwhole)))

    module _ (held : HeldMessage) (some : client.front ≡ Some held) where
      front_was : front_at board.clients number ≡ Some held
      front_was = front_here ∙ some

      fields : (first : WholeRequest) → request_of held ≡ record first { bytes = bytes_given held; corrupt = held.corrupt } → q ≡ record first { bytes = q.bytes; corrupt = q.corrupt }
      fields first is = joined_fields client.limits client.front beat held first some is

      goes_on : Fits setup board.errors
          (more_on (with_client number (record client { front = Some message }) board) number (record client { front = Some message }) q true).clients
          (map (heard board.errors number q) now)
      goes_on =
          let one = record client { front = Some message } in
          let two = record one { coming = unless_failed (is_spoiled board.errors q) client.coming } in
          let once = is_set board.clients number client one there in
          let next = set (set board.clients number one) number two in
          let is = is_set_then board.clients (set board.clients number one) next number one two once (is_set (set board.clients number one) number one two once.own) in
          fits_heard setup board.errors board.clients next now number q match.fits
          (sources_set board.clients next number two is match.fits.sources (match.fits.sources number client there)) (front_set board.clients next number two is)
          (early_set board.clients next number two is) (coming_set board.clients next number two is) held front_was fields
          (flights_set board.clients next number two is client there refl) message refl (ap front_of is.own) (ap early_in is.own ∙ sym (ap early_in there))
          (ap coming_in is.own ∙ ap (unless_failed (is_spoiled board.errors q)) (sym (ap coming_in there)))

      abbrev made : InFlight
      made = flight_for board.memory (coming_on board q client.coming) q

      made_acts : (entry : Entry) → entry.client ≡ number → IsBegun setup board.errors board.clients entry
          → made.footprint ≡ acting_as setup board.errors (as_whole board.errors q entry) made.footprint.determined
      made_acts entry own is =
          let one : Some is.held ≡ Some held = sym is.front ∙ ap (front_at board.clients) own ∙ front_was in
          let same : is.held ≡ held = cc (one) in
          coming_acts setup board.errors board number 0 q entry client.coming refl match.faults match.regions
          (fields entry.request (subst (λ (h : HeldMessage). request_of h ≡ record entry.request { bytes = bytes_given h; corrupt = h.corrupt }) same is.fields))
          (subst (λ (f : Footprint). f ≡ acting_as setup board.errors entry f.determined) (ap (coming_at board.clients) own ∙ ap coming_in there) is.acts)

      ends_by : (b : Bool) → has_replied board.errors client ≡ b → Fits setup board.errors (set board.clients number (with_whole b made client)) (map (completed board.errors number q) now)
      ends_by b has =
          let changed = with_whole b made client in
          let next = set board.clients number changed in
          let is = is_set board.clients number client changed there in
          fits_completed setup board.errors board.clients next now number q match.fits
          (sources_set board.clients next number changed is match.fits.sources (sources_by b)) (front_set board.clients next number changed is)
          (early_set board.clients next number changed is) (coming_set board.clients next number changed is) held front_was fields
          b (ap (has_come board.errors) (ap early_in there) ∙ come_is board.errors client ∙ has) (ap front_of is.own ∙ front_by b) (ap early_in is.own ∙ early_by b)
          (flight_by b) made (own_by b) refl made_acts board.memory.bytes (rw (match.faults, match.regions) refl)
        where
          sources_by : (b : Bool) → HaveSources (with_whole b made client).flights
          sources_by true = match.fits.sources number client there
          sources_by false = sources_more made client.flights free_list (match.fits.sources number client there)

          front_by : (b : Bool) → (with_whole b made client).front ≡ None
          front_by true = refl
          front_by false = refl

          early_by : (b : Bool) → (with_whole b made client).early ≡ None
          early_by true = refl
          early_by false = refl

          flight_by : (b : Bool) (place : Place) → (b ≡ false → place ≡ due_at number q.source → ⊥)
              → flight_at (set board.clients number (with_whole b made client)) place ≡ flight_at board.clients place
          flight_by true place away =
              let changed = with_whole true made client in
              flights_set board.clients (set board.clients number changed) number changed (is_set board.clients number client changed there) client there refl place
          flight_by false place away = other_taken board.clients number client made there free_list place (away refl)

          own_by : (b : Bool) → b ≡ false → flight_at (set board.clients number (with_whole b made client)) (due_at number q.source) ≡ Some made
          own_by true fresh = absurd (cc (fresh))
          own_by false fresh = own_taken board.clients number client made there free_list

      ends : Fits setup board.errors (whole_on board number client q true).clients (map (completed board.errors number q) now)
      ends = ends_by (has_replied board.errors client) refl

  -- by what had begun, and how far it is
  progressed : (front : Option HeldMessage) (progress : Progress) → answer_to RealTime client beat ≡ Ok progress → client.front ≡ front
      → Fits setup board.errors (answered_on RealTime board number client message (Ok progress)).clients (with_progress board.errors number front q progress now)
  progressed None More told none =
      subst (λ b. Fits setup board.errors (more_on (with_client number (record client { front = Some message }) board) number (record client { front = Some message }) q b).clients
      (with_progress board.errors number None q More now)) (sym (ap (λ (o : Option HeldMessage). is_some o) none)) (begins More told none)
  progressed None Whole told none =
      subst (λ b. Fits setup board.errors (whole_on board number client q b).clients (with_progress board.errors number None q Whole now))
      (sym (ap (λ (o : Option HeldMessage). is_some o) none)) (taken Whole told none)
  progressed (Some held) More told some =
      subst (λ b. Fits setup board.errors (more_on (with_client number (record client { front = Some message }) board) number (record client { front = Some message }) q b).clients
      (with_progress board.errors number (Some held) q More now)) (sym (ap (λ (o : Option HeldMessage). is_some o) some)) (goes_on More told held some)
  progressed (Some held) Whole told some =
      subst (λ b. Fits setup board.errors (whole_on board number client q b).clients (with_progress board.errors number (Some held) q Whole now))
      (sym (ap (λ (o : Option HeldMessage). is_some o) some)) (ends Whole told held some)

  answered : (answer : Result Progress TlRule) → answer_to RealTime client beat ≡ answer
      → Fits setup board.errors (answered_on RealTime board number client message answer).clients (with_answered board.errors number client.front message answer now)
  answered (Err broken) told = match.fits
  answered (Ok progress) told = progressed client.front progress told refl

pub fits_request : (setup : SetupLists) (board : Board) (number : ℕ) (beat : ABeat) (now : Order) → Matches setup board.errors board now → AreFronts board.clients
    → Fits setup board.errors (after_a RealTime board number (slice_get board.clients number) beat).clients
    (with_request board.errors number (slice_get board.clients number) beat now)
fits_request setup board number beat now match fronts = by_client (slice_get board.clients number) refl
  where
    by_client : (found : Option ClientBoard) → slice_get board.clients number ≡ found
        → Fits setup board.errors (after_a RealTime board number found beat).clients (with_request board.errors number found beat now)
    by_client None there = match.fits
    by_client (Some client) there = answered setup board number client beat now match fronts there (answer_to RealTime client beat) refl
