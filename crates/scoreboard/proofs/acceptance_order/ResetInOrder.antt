-- A board that is reset, where requests take effect in order of acceptance: it begins with whatever bytes the accepted requests leave, whichever of those that
-- haven't ended never took effect.
use Rattle.std.proofs.Common.{◌≡◌, ℕ, ◌<◌, Bool, true, false, ◌||◌, List, [], ◌∷◌, length, zip, Option, Some, None, inl, inr, refl, sym, ◌∙◌, ap, subst, arith}
use Rattle.std.specs.Prelude.{nat_lt, slice_get}
use Rattle.std.specs.List.{AllByRecursion, list_any}
use Rattle.std.proofs.lemmas.Bool.{cases_Bool, or_parts}
use Rattle.bus_words.proofs.StoredPlaces.{there_is}
use Rattle.tl_messages.specs.Requests.{WholeRequest}
use Rattle.tl_messages.specs.declared.ABeat.{ABeat}
use Rattle.tl_checker.specs.RequestRules.{Spells}
use Rattle.config.specs.Configs.{port_of}
use Rattle.meaning.specs.InTurn.{AcceptedMessage, IsSpelled}
use Rattle.meaning.specs.Meaning.{Bytes, bytes_after_all, meaning}
use Rattle.setups.specs.Setups.{SetupLists, faults_of}
use Rattle.scoreboard.specs.Boards.{Beginning, Board, ClientBoard, IsReached, MayBegin, footprints_of, opening_from}
use Rattle.scoreboard.specs.Flights.{Flights, Footprint, InFlight, is_of_source}
use Rattle.scoreboard.specs.Observed.{Observed, observed_in, requests_in}
use Rattle.scoreboard.specs.Races.{may_write}
use Rattle.scoreboard.specs.Resets.{TookEffectInOrder, is_unended, left_on, that_took_effect}
use Rattle.scoreboard.specs.Right.{acts}
use Rattle.scoreboard.specs.declared.Errors.{Errors}
use Rattle.scoreboard.specs.declared.ObservedBeat.{ObservedBeat}
use Rattle.scoreboard.specs.declared.Policy.TheVariants.{AcceptanceOrder}
use Rattle.scoreboard.proofs.acceptance_order.BoardOf.{IsBoardOf, IsClientOf}
use Rattle.scoreboard.proofs.acceptance_order.DueLists.{beats_in}
use Rattle.scoreboard.proofs.acceptance_order.KnownBytes.{all_well}
use Rattle.scoreboard.proofs.acceptance_order.Lasts.{last_here, last_request, writes_same}
use Rattle.scoreboard.proofs.acceptance_order.LeftOut.{all_of, left_out, lost_after, none_apart}
use Rattle.scoreboard.proofs.acceptance_order.Owed.{flying_of}
use Rattle.scoreboard.proofs.acceptance_order.Reached.{held_when_reached, known_reached, memory_reached}
use Rattle.scoreboard.proofs.real_time.FlightLists.{each_of}
use Rattle.scoreboard.proofs.real_time.Places.{flight_in, footprint_in}
use Rattle.scoreboard.proofs.real_time.RequestActs.{AreBytes, IsWell}
use Rattle.scoreboard.proofs.real_time.RequestActs as requests

-- ---- bytes

bytes_all : (setup : SetupLists) (qs : List WholeRequest) (m : Bytes) → AllByRecursion IsWell qs → AreBytes m → AreBytes (bytes_after_all (faults_of setup) setup.regions qs m)
bytes_all setup [] m well small = small
bytes_all setup (q ∷ qs) m (one, more) small = bytes_all setup qs (meaning (faults_of setup) setup.regions q m).after more ((requests.acts (faults_of setup) setup.regions q one).small m small)

-- some of a list are as all are
well_some : (chosen : List (WholeRequest × Bool)) → AllByRecursion IsWell (all_of chosen) → AllByRecursion IsWell (that_took_effect chosen)
well_some [] well = tt
well_some ((q, true) ∷ later) (one, more) = (one, well_some later more)
well_some ((q, false) ∷ later) (one, more) = well_some later more

-- ---- what is in flight

-- what none in flight does isn't done by one that is found there
flying_none : (test : Footprint → Bool) (flights : Flights) (source : ℕ) (flight : InFlight) → flying_of flights source ≡ Some flight
    → ((s : Option ℕ) → test (footprint_in (flight_in flights s)) ≡ false) → test flight.footprint ≡ false
flying_none test flights source flight found none = by_begun flights.begun refl found
  where
    in_due : flight_in flights (Some source) ≡ Some flight → test flight.footprint ≡ false
    in_due is = sym (ap (λ (o : Option InFlight). test (footprint_in o)) is) ∙ none (Some source)

    by_begun : (begun : Option InFlight) → flights.begun ≡ begun → flying_of (record flights { begun = begun }) source ≡ Some flight → test flight.footprint ≡ false
    by_begun None is there = in_due there
    by_begun (Some first) is there = elim (cases_Bool (is_of_source source first)) [
      | inl own ↦
          let it : Some first ≡ Some flight = rw own at there in
          sym (ap (λ (o : Option InFlight). test (footprint_in o)) (is ∙ it)) ∙ none None
      | inr other ↦ in_due (rw other at there)
    ]

module _ (beginning : Beginning) (observed : Observed) (board : Board) (of : IsBoardOf beginning observed board) (x : ℕ)
    (none : list_any (λ footprint. may_write footprint x) (footprints_of board.clients) ≡ false) where
  -- one that is unended is in flight, so it doesn't write what none in flight may
  unended_none : (q : WholeRequest) (later : List WholeRequest) → q.client < length board.clients → last_request q.client q.source (requests_in observed) ≡ Some q
      → is_unended beginning observed q later ≡ true → may_write (acts beginning.lists (λ y. false) q) x ≡ false
  unended_none q later below last unended =
      let (client, there) = there_is board.clients q.client below in
      let own = of.clients q.client client there in
      let some : nat_lt 0 (length (beats_in (flying_of client.flights q.source))) ≡ true = rw (sym ((own.owed q.source).left_is)) (grind (arith, unended)) in
      by_flying client there own (flying_of client.flights q.source) refl some
    where
      by_flying : (client : ClientBoard) → slice_get board.clients q.client ≡ Some client → IsClientOf beginning observed q.client client → (o : Option InFlight)
          → flying_of client.flights q.source ≡ o → nat_lt 0 (length (beats_in o)) ≡ true → may_write (acts beginning.lists (λ y. false) q) x ≡ false
      by_flying client there own None is some = absurd (cc (some))
      by_flying client there own (Some flight) is some =
          let here = own.lasts q.source flight is in
          let same : here.request ≡ q = cc (sym here.last, last) in
          subst (λ (r : WholeRequest). may_write (acts beginning.lists (λ y. false) r) x ≡ false) same
          (sym (writes_same beginning.lists here.request flight.footprint here.where_it_acts x)
          ∙ flying_none (λ footprint. may_write footprint x) client.flights q.source flight is
          (λ s. subst (λ (flights : Flights). may_write (footprint_in (flight_in flights s)) x ≡ false) (rw there refl) (each_of (λ footprint. may_write footprint x) refl board.clients none q.client s)))

  -- each of these is of a client that is there
  abbrev AreOfClients : List WholeRequest → Type 0
  AreOfClients qs = AllByRecursion (λ (q : WholeRequest). q.client < length board.clients) qs

  -- so nothing that is left out may write it
  never_lost : (lost : ℕ → Bool) (chosen : List (WholeRequest × Bool)) → AreOfClients (all_of chosen)
      → ((client source : ℕ) (q : WholeRequest) → last_request client source (all_of chosen) ≡ Some q → last_request client source (requests_in observed) ≡ Some q)
      → TookEffectInOrder beginning observed chosen → lost x ≡ false → lost_after beginning.lists lost chosen x ≡ false
  never_lost lost [] clients lasts took fine = fine
  never_lost lost ((q, true) ∷ later) (one, more) lasts took fine =
      never_lost lost later more (λ client source r is. lasts client source r (rw is refl)) took fine
  never_lost lost ((q, false) ∷ later) (one, more) lasts took fine =
      let last = lasts q.client q.source q (last_here q (all_of later) (grind (arith, took.0))) in
      let own = unended_none q (all_of later) one last took.0 in
      never_lost (λ y. lost y || may_write (acts beginning.lists (λ z. false) q) y) later more (λ client source r is. lasts client source r (rw is refl)) took.2 (rw (fine, own) refl)

-- ---- the law

of_clients : (beginning : Beginning) (count : ℕ) (messages : List AcceptedMessage) (qs : List WholeRequest) → count ≡ beginning.lists.config.clients → length qs ≡ length messages
    → AllByRecursion (IsSpelled beginning.lists) (zip messages qs) → AllByRecursion (λ (q : WholeRequest). q.client < count) qs
of_clients beginning count [] [] is same all = tt
of_clients beginning count [] (q ∷ qs) is same all = absurd (omega (arith, same))
of_clients beginning count (message ∷ messages) [] is same all = absurd (omega (arith, same))
of_clients beginning count (message ∷ messages) (q ∷ qs) is same (one, more) =
    (omega (arith, is, one.client, own_client message.client message.beats q one.spells), of_clients beginning count messages qs is (omega (arith, same)) more)
  where
    own_client : (client : ℕ) (beats : List ABeat) (q : WholeRequest) → Spells (port_of beginning.lists.config client) beats q → q.client ≡ client
    own_client client [] q spells = absurd spells
    own_client client (first ∷ rest) q spells = ap (λ (r : WholeRequest). r.client) spells.3

pub left_in_order : (errors : Errors) (beginning : Beginning) (before : List ObservedBeat) (board : Board) (chosen : List (WholeRequest × Bool)) (start : Bytes)
    → IsReached AcceptanceOrder (opening_from errors beginning) before board → all_of chosen ≡ requests_in (observed_in before)
    → TookEffectInOrder beginning (observed_in before) chosen → MayBegin beginning start
    → MayBegin (left_on beginning board) (bytes_after_all (faults_of beginning.lists) beginning.lists.regions (that_took_effect chosen) start)
left_in_order errors beginning before board chosen start reached all took begins =
    let observed = observed_in before in
    let held = held_when_reached errors beginning before board reached in
    let well = all_well beginning.lists observed.messages (requests_in observed) held.right.as_many held.right.spelled in
    let chosen_well = subst (AllByRecursion IsWell) (sym all) well in
    let clients = subst (AllByRecursion (λ (q : WholeRequest). q.client < length board.clients)) (sym all)
    (of_clients beginning (length board.clients) observed.messages (requests_in observed) held.count held.right.as_many held.right.spelled) in
    record {
      said = λ x. subst (λ (m : Bytes). m x < 256) (sym (memory_reached errors beginning before board reached)) ((bytes_all beginning.lists (requests_in observed) beginning.bytes well (record { at = begins.said })).at x);
      small = λ x. (bytes_all beginning.lists (that_took_effect chosen) start (well_some chosen chosen_well) (record { at = begins.small })).at x;
      known = λ x certain.
          let parts = or_parts (board.indeterminate x) (list_any (λ footprint. may_write footprint x) (footprints_of board.clients)) certain in
          let fine = never_lost beginning observed board held x parts.1 (λ y. false) chosen clients (λ client source q is. subst (λ (qs : List WholeRequest). last_request client source qs ≡ Some q) all is) took refl in
          left_out beginning observed (λ y. false) chosen start start chosen_well (none_apart beginning.lists chosen) took (λ y is. refl) x fine
          ∙ ap (λ (qs : List WholeRequest). bytes_after_all (faults_of beginning.lists) beginning.lists.regions qs start x) all
          ∙ known_reached errors beginning before board reached start begins x parts.0;
    }
