-- Boards of both policies that get the same beats hold the same, but for what is known of requests that race, until one is of a busy source or a W
-- beat without a write.
use Rattle.std.proofs.Common.{◌≡◌, ℕ, Bool, true, false, ◌||◌, List, [], ◌∷◌, map, Option, Some, None, if◌then◌else◌, Result, Ok, Err, refl, sym, ◌∙◌, ap, ap₂, subst, arith}
use Rattle.std.specs.Prelude.{is_some, slice_get}
use Rattle.std.specs.Option.{option_map}
use Rattle.std.proofs.lemmas.Option.{slice_get-map, slice_get_within}
use Rattle.setups.specs.Setups.{SetupLists}
use Rattle.tl_messages.specs.Requests.{HeldMessage, WholeRequest, request_of}
use Rattle.tl_messages.specs.declared.ABeat.{ABeat}
use Rattle.tl_messages.specs.declared.DBeat.{DBeat}
use Rattle.tl_checker.specs.Ports.{joined}
use Rattle.tl_checker.specs.declared.Progress.{Progress}
use Rattle.tl_checker.specs.declared.Progress.TheVariants.{More, Whole}
use Rattle.tl_checker.specs.declared.TlRule.{TlRule}
use Rattle.axi_checker.specs.declared.AxiBeat.{AxiBeat}
use Rattle.scoreboard.specs.AxiPorts.{PortBoard, port_after, after_in_order, after_with_early, tells_no_write, wrong_in_order}
use Rattle.scoreboard.specs.Boards.{Board, ClientBoard, a_wrong, after_a, after_all, after_d, after_seen, answer_to, answered_on, client_after, client_beside, client_cut, coming_on, early_due, early_left, fails, flight_for, footprints_of, has_replied, hit_on, is_spoiled, joining_on, more_on, opening_board, place_on, whole_on, with_accepted, with_client, with_taken, with_whole, wrong_at}
use Rattle.scoreboard.specs.FailedBursts.{Span, failed_span}
use Rattle.scoreboard.specs.Flights.{Footprint, InFlight, cut_short, next_reply, no_footprint}
use Rattle.scoreboard.specs.Races.{alone, joining, unless_failed}
use Rattle.scoreboard.specs.declared.Errors.{Errors}
use Rattle.scoreboard.specs.declared.Errors.TheVariants.{Any, Strict}
use Rattle.scoreboard.specs.Wider.{AreTogether, IsWiderAlong, TellsNoMore, board_alone, client_alone, tells_apart, tells_busy}
use Rattle.scoreboard.specs.declared.Policy.TheVariants.{AcceptanceOrder, RealTime}
use Rattle.serial_memory.specs.SerialMemory.{place_in}
use Rattle.scoreboard.proofs.acceptance_order.Fixed.{in_turn_known, known_alone}
use Rattle.scoreboard.specs.declared.ObservedBeat.{ObservedBeat}
use Rattle.scoreboard.specs.declared.Wrong.{Wrong}
use Rattle.scoreboard.specs.declared.ObservedBeat.TheVariants.{A, D, Axi as OnAxi, Drained}
use Rattle.scoreboard.proofs.real_time.Becoming.{errors_kept}
use Rattle.scoreboard.proofs.real_time.EachFlight.{AreOfEach, IsOfEach, seen_each}
use Rattle.scoreboard.proofs.real_time.Explained.{each_client, opening_at}
use Rattle.scoreboard.proofs.real_time.FlightLists.{client_was}
use Rattle.scoreboard.proofs.real_time.Fronts.{beside_at}
use Rattle.bus_words.proofs.StoredPlaces.{get_set}
use Rattle.scoreboard.proofs.real_time.Failures.{fails_flag}
use Rattle.scoreboard.proofs.real_time.FlightsAlone.{begun_alone, further_alone, given_alone, hit_alone, joined_alone, none_left, reply_alone}
use Rattle.scoreboard.proofs.real_time.InTurnAlone.{IsQuietBoard, alone_twice, goes_alone, on_alone, quiet_all, quiet_next, quiet_opens, says_alone, taken_twice}
use Rattle.scoreboard.proofs.real_time.WiderVerdicts.{IsUnfailed, same_answer, tells_no_more}

-- a board of real time holds what one of acceptance order does, and nothing is early
pub record IsOn (compared board : Board) : Type 0 where
  pub holds : board_alone board ≡ board_alone compared
  pub early : board.axi.early ≡ []

-- ---- a beat that isn't of a busy source, and no W beat without a write

-- no reply came to a request that isn't whole
abbrev pub IsWaiting : Errors → ClientBoard → Type 0
IsWaiting errors client = is_some client.front ≡ true → has_replied errors client ≡ false

request_on : (old : Board) (number : ℕ) (found : Option ClientBoard) (beat : ABeat) → ((client : ClientBoard) → found ≡ Some client → IsWaiting old.errors client)
    → old.axi.early ≡ []
    → tells_busy (a_wrong AcceptanceOrder (option_map client_alone found) beat) ≡ false
    → IsOn (after_a AcceptanceOrder (board_alone old) number (option_map client_alone found) beat) (after_a RealTime old number found beat)
request_on old number None beat waits none free = record { holds = sym (alone_twice old); early = none }
request_on old number (Some client) beat waits none free = rw (same_answer client beat free) (by_answer (answer_to AcceptanceOrder (client_alone client) beat))
  where
    message : HeldMessage
    message = joined client.limits client.front beat

    changed : ClientBoard
    changed = record client { front = Some message }

    more : (begun : Bool) → IsOn (with_client number (client_alone changed) (board_alone old)) (more_on (with_client number changed old) number changed (request_of message) begun)
    more true = record {
      holds = on_alone (more_on (with_client number changed old) number changed (request_of message) true) (with_client number (client_alone changed) (board_alone old))
          (further_alone old number changed (unless_failed (is_spoiled old.errors (request_of message)) changed.coming));
      early = none;
    }
    more false = record {
      holds = on_alone (more_on (with_client number changed old) number changed (request_of message) false) (with_client number (client_alone changed) (board_alone old))
          (begun_alone old number changed (early_due old.errors (request_of message)) (joining_on (with_client number changed old) (request_of message)));
      early = none;
    }

    -- the other takes it in its turn
    taken : Board
    taken = with_taken (board_alone old) number (client_alone client) (request_of message) (known_alone (place_in old.memory (request_of message)) (request_of message))

    in_turn : with_taken (board_alone old) number (client_alone client) (request_of message) no_footprint ≡ board_alone taken
    in_turn = sym (taken_twice old number client (request_of message) (known_alone (place_in old.memory (request_of message)) (request_of message)))

    whole : (begun : Bool) → is_some client.front ≡ begun
        → IsOn taken (whole_on old number client (request_of message) begun)
    whole true is = record {
      holds = given_alone old number client (request_of message) (coming_on old (request_of message) client.coming) (waits client refl is) ∙ in_turn;
      early = none;
    }
    whole false is = record { holds = joined_alone old number client (request_of message) (joining_on old (request_of message)) ∙ in_turn; early = none }

    by_answer : (answer : Result Progress TlRule)
        → IsOn (answered_on AcceptanceOrder (board_alone old) number (client_alone client) message answer) (answered_on RealTime old number client message answer)
    by_answer (Err broken) = record { holds = sym (alone_twice old); early = none }
    by_answer (Ok More) = more (is_some client.front)
    by_answer (Ok Whole) =
        subst (λ (b : Board). IsOn b (whole_on old number client (request_of message) (is_some client.front)))
        (sym (in_turn_known (board_alone old) number (client_alone client) (request_of message) (place_in old.memory (request_of message)))) (whole (is_some client.front) refl)

port_on : (port : PortBoard) (beat : AxiBeat) → port.early ≡ [] → tells_no_write (wrong_in_order port beat) ≡ false
    → after_with_early port beat ≡ after_in_order port beat
port_on port beat none there = grind (arith, none, there)

pub after_on : (old : Board) (seen : ObservedBeat)
    → ((number : ℕ) (client : ClientBoard) → slice_get old.clients number ≡ Some client → IsWaiting old.errors client) → old.axi.early ≡ [] → tells_apart (wrong_at AcceptanceOrder (board_alone old) seen) ≡ false
    → IsOn (after_seen AcceptanceOrder (board_alone old) seen) (after_seen RealTime old seen)
after_on old (A client beat) waits none free =
    let there = slice_get-map client_alone old.clients client in
    rw there (request_on old client (slice_get old.clients client) beat (waits client) none (grind (arith, there, free)))
after_on old (D client beat) waits none free =
    rw (slice_get-map client_alone old.clients client)
    (record {
      holds = on_alone (after_d old client (slice_get old.clients client) beat) (after_d (board_alone old) client (option_map client_alone (slice_get old.clients client)) beat)
          (reply_alone old client (slice_get old.clients client) beat);
      early = still (slice_get old.clients client);
    })
  where
    still : (found : Option ClientBoard) → (after_d old client found beat).axi.early ≡ []
    still found = grind arith
after_on old (OnAxi beat) waits none free =
    let same = port_on old.axi beat none (grind (arith, free)) in
    let after : Board = record old { axi = port_after RealTime old.axi beat } in
    let span = failed_span old.errors old.axi beat in
    record {
      holds = on_alone (hit_on span after) (record (board_alone old) { axi = port_after AcceptanceOrder old.axi beat })
          (hit_alone span after ∙ ap (λ (port : PortBoard). record (board_alone old) { axi = port }) same);
      early = by_span span after ∙ ap (λ (port : PortBoard). port.early) same ∙ none;
    }
  where
    by_span : (span : Option Span) (board : Board) → (hit_on span board).axi.early ≡ board.axi.early
    by_span span board = grind arith
after_on old Drained waits none free =
    record { holds = on_alone (after_seen RealTime old Drained) (after_seen AcceptanceOrder (board_alone old) Drained) refl; early = refl }

-- ---- no request in flight has failed, where errors are told as this project's bridge tells them

-- nothing may come early, and what has begun hasn't failed
abbrev IsLate : ClientBoard → Type 0
IsLate client = (client.early ≡ None) × (client.coming.failed ≡ false)

record IsStrict (board : Board) : Type 0 where
  errors : board.errors ≡ Strict
  unfailed : AreOfEach IsUnfailed board.clients
  late : (number : ℕ) (client : ClientBoard) → slice_get board.clients number ≡ Some client → IsLate client

late_beside : (footprint : Footprint) (clients : List ClientBoard) → ((number : ℕ) (client : ClientBoard) → slice_get clients number ≡ Some client → IsLate client)
    → (number : ℕ) (client : ClientBoard) → slice_get (map (client_beside footprint) clients) number ≡ Some client → IsLate client
late_beside footprint clients are number client is =
    let was = client_was footprint clients number client is in subst IsLate was.2 (are number was.0 was.1)

late_request : (board : Board) (number : ℕ) (beat : ABeat) → board.errors ≡ Strict
    → ((other : ℕ) (client : ClientBoard) → slice_get board.clients other ≡ Some client → IsLate client)
    → (other : ℕ) (client : ClientBoard) → slice_get (after_a RealTime board number (slice_get board.clients number) beat).clients other ≡ Some client → IsLate client
late_request board number beat strict are = by_client (slice_get board.clients number) refl
  where
    whole_late : (replied : Bool) (flight : InFlight) (client : ClientBoard) → IsLate (with_whole replied flight client)
    whole_late true flight client = (refl, refl)
    whole_late false flight client = (refl, refl)

    more : (old : Board) (client : ClientBoard) (q : WholeRequest) (begun : Bool) → old.errors ≡ Strict → slice_get old.clients number ≡ Some client → IsLate client
        → ((other : ℕ) (one : ClientBoard) → slice_get old.clients other ≡ Some one → IsLate one)
        → (other : ℕ) (one : ClientBoard) → slice_get (more_on old number client q begun).clients other ≡ Some one → IsLate one
    more old client q true errors there late all =
        each_client IsLate old.clients number client (record client { coming = unless_failed (is_spoiled old.errors q) client.coming }) there all
        (late.0, ap (λ e. (unless_failed (is_spoiled e q) client.coming).failed) errors ∙ late.1)
    more old client q false errors there late all =
        let footprint = joining_on old q in
        each_client IsLate (map (client_beside footprint) old.clients) number (client_beside footprint client)
        (record (client_beside footprint client) { coming = footprint; early = early_due old.errors q }) (beside_at footprint old.clients number client there)
        (late_beside footprint old.clients all) (
          ap (λ e. early_due e q) errors,
          fails_flag (fails old.errors old.memory q) (joining old.indeterminate (footprints_of old.clients) (place_on old q) q) refl
              ∙ ap (λ e. fails e old.memory q) errors,
        )

    whole : (client : ClientBoard) (q : WholeRequest) (begun : Bool) → slice_get board.clients number ≡ Some client
        → (other : ℕ) (one : ClientBoard) → slice_get (whole_on board number client q begun).clients other ≡ Some one → IsLate one
    whole client q true there =
        let flight = flight_for board.memory (coming_on board q client.coming) q in
        each_client IsLate board.clients number client (with_whole (has_replied board.errors client) flight client) there are
        (whole_late (has_replied board.errors client) flight client)
    whole client q false there =
        let footprint = joining_on board q in
        each_client IsLate (map (client_beside footprint) board.clients) number (client_beside footprint client)
        (with_accepted (flight_for board.memory footprint q) (client_beside footprint client)) (beside_at footprint board.clients number client there)
        (late_beside footprint board.clients are) (refl, refl)

    by_answer : (client : ClientBoard) (answer : Result Progress TlRule) → slice_get board.clients number ≡ Some client
        → (other : ℕ) (one : ClientBoard) → slice_get (answered_on RealTime board number client (joined client.limits client.front beat) answer).clients other ≡ Some one → IsLate one
    by_answer client (Err broken) there = are
    by_answer client (Ok More) there =
        let message = joined client.limits client.front beat in
        let heard = record client { front = Some message } in
        more (with_client number heard board) heard (request_of message) (is_some client.front) strict
        (get_set board.clients number heard (slice_get_within board.clients number client there)) (are number client there)
        (each_client IsLate board.clients number client heard there are (are number client there))
    by_answer client (Ok Whole) there = whole client (request_of (joined client.limits client.front beat)) (is_some client.front) there

    by_client : (o : Option ClientBoard) → slice_get board.clients number ≡ o
        → (other : ℕ) (one : ClientBoard) → slice_get (after_a RealTime board number o beat).clients other ≡ Some one → IsLate one
    by_client None there = are
    by_client (Some client) there = by_answer client (answer_to RealTime client beat) there

late_reply : (board : Board) (number : ℕ) (beat : DBeat) → ((other : ℕ) (client : ClientBoard) → slice_get board.clients other ≡ Some client → IsLate client)
    → (other : ℕ) (client : ClientBoard) → slice_get (after_d board number (slice_get board.clients number) beat).clients other ≡ Some client → IsLate client
late_reply board number beat are = by_client (slice_get board.clients number) refl
  where
    by_client : (o : Option ClientBoard) → slice_get board.clients number ≡ o
        → (other : ℕ) (one : ClientBoard) → slice_get (after_d board number o beat).clients other ≡ Some one → IsLate one
    by_client None there = are
    by_client (Some client) there =
        each_client IsLate board.clients number client
        (client_after beat (client_cut beat.source client)) there are (
          ap (λ (o : Option DBeat). if is_some (next_reply (cut_short client.flights beat.source) beat.source) then o else early_left o beat.source) (are number client there).0
              ∙ none_left (is_some (next_reply (cut_short client.flights beat.source) beat.source)) beat.source,
          (are number client there).1,
        )

late_next : (board : Board) (seen : ObservedBeat) → board.errors ≡ Strict → ((other : ℕ) (client : ClientBoard) → slice_get board.clients other ≡ Some client → IsLate client)
    → (other : ℕ) (client : ClientBoard) → slice_get (after_seen RealTime board seen).clients other ≡ Some client → IsLate client
late_next board (A number beat) strict are other client is = late_request board number beat strict are other client is
late_next board (D number beat) strict are other client is = late_reply board number beat are other client is
late_next board (OnAxi beat) strict are other client is = grind (arith, strict, are, is)
late_next board Drained strict are other client is = are other client is

strict_next : (board : Board) (seen : ObservedBeat) → IsStrict board → IsStrict (after_seen RealTime board seen)
strict_next board seen strict =
    record {
      errors = errors_kept board seen ∙ strict.errors;
      unfailed = seen_each IsUnfailed (λ footprint flight sound. sound) (λ flight some sound. sound) board strict.unfailed
          (λ q. fails_flag (fails board.errors board.memory q) (joining board.indeterminate (footprints_of board.clients) (place_on board q) q) refl ∙ sound q)
          (λ number client there q. ap₂ (λ (one other : Bool). one || other) (strict.late number client there).1
          (fails_flag (fails board.errors board.memory q) (alone board.indeterminate (place_on board q) q) refl ∙ sound q))
          (λ any. absurd (differ (sym strict.errors ∙ any))) seen;
      late = late_next board seen strict.errors strict.late;
    }
  where
    differ : Strict ≡ Any → ⊥
    differ is = cc (is)

    sound : (q : WholeRequest) → fails board.errors board.memory q ≡ false
    sound q = ap (λ errors. fails errors board.memory q) strict.errors

strict_opens : (setup : SetupLists) → IsStrict (opening_board setup)
strict_opens setup =
    record {
      errors = refl;
      unfailed = λ number client is.
          let found = opening_at setup.config 0 setup.config.clients number client is in subst (IsOfEach IsUnfailed) (sym found.1) (tt, tt);
      late = λ number client is. subst IsLate (sym (opening_at setup.config 0 setup.config.clients number client is).1) (refl, refl);
    }

strict_all : (beats : List ObservedBeat) (board : Board) → IsStrict board → IsStrict (after_all RealTime board beats)
strict_all [] board strict = strict
strict_all (seen ∷ beats) board strict = strict_all beats (after_seen RealTime board seen) (strict_next board seen strict)

-- ---- lists of beats

-- what is said in order of acceptance without the footprints is said with them
pub said_alone : (compared board : Board) (seen : ObservedBeat) → IsQuietBoard compared → IsOn compared board
    → wrong_at AcceptanceOrder (board_alone board) seen ≡ wrong_at AcceptanceOrder compared seen
said_alone compared board seen quiet on = ap (λ (b : Board). wrong_at AcceptanceOrder b seen) on.holds ∙ sym (says_alone compared seen quiet)

-- both go on together
pub next_on : (compared board : Board) (seen : ObservedBeat) → IsOn compared board
    → ((number : ℕ) (client : ClientBoard) → slice_get board.clients number ≡ Some client → IsWaiting board.errors client)
    → tells_apart (wrong_at AcceptanceOrder (board_alone board) seen) ≡ false
    → IsOn (after_seen AcceptanceOrder compared seen) (after_seen RealTime board seen)
next_on compared board seen on waits free =
    let step = after_on board seen waits on.early free in
    record {
      holds = step.holds ∙ ap (λ (b : Board). board_alone (after_seen AcceptanceOrder b seen)) on.holds ∙ sym (goes_alone compared seen);
      early = step.early;
    }

followed_on : (compared board : Board) (beats : List ObservedBeat) → IsStrict board → IsQuietBoard compared → IsOn compared board → AreTogether compared beats
    → IsOn (after_all AcceptanceOrder compared beats) (after_all RealTime board beats)
followed_on compared board [] strict quiet on told = on
followed_on compared board (seen ∷ rest) strict quiet on (free, more) =
    followed_on (after_seen AcceptanceOrder compared seen) (after_seen RealTime board seen) rest (strict_next board seen strict) (quiet_next compared seen quiet)
    (next_on compared board seen on (λ number client is in_front. ap (λ errors. has_replied errors client) strict.errors)
    (ap tells_apart (said_alone compared board seen quiet on) ∙ free)) more

opens_together : (setup : SetupLists) → IsOn (opening_board setup) (opening_board setup)
opens_together setup = record { holds = refl; early = refl }

-- any beats, until one is of a busy source or a W beat without a write: what is held after them, and what is said of the next
pub is_wider : (board : Board) (seen : ObservedBeat) → IsWiderAlong board seen (wrong_at RealTime board seen)
is_wider board seen setup before is told =
    let compared = after_all AcceptanceOrder (opening_board setup) before in
    let on = subst (IsOn compared) (sym is)
    (followed_on (opening_board setup) (opening_board setup) before (strict_opens setup) (quiet_opens setup) (opens_together setup) told) in
    let strict = subst IsStrict (sym is) (strict_all before (opening_board setup) (strict_opens setup)) in
    record {
      holds = on.holds;
      tells = subst (λ (verdict : Option Wrong). TellsNoMore verdict (wrong_at RealTime board seen))
          (said_alone compared board seen (quiet_all (opening_board setup) before (quiet_opens setup)) on)
          (tells_no_more board seen (λ number client there. record { unfailed = strict.unfailed number client there; none_early = (strict.late number client there).0 }) on.early);
    }
