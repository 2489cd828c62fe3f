-- A board and what has begun since the last reset match along all that happens.
use Rattle.std.proofs.Common.{◌≡◌, ℕ, List, [], ◌∷◌, length, map, Option, Some, None, refl, sym, ◌∙◌, ap, subst}
use Rattle.std.specs.Prelude.{slice_get}
use Rattle.std.specs.Option.{option_map}
use Rattle.std.proofs.lemmas.Option.{slice_get-map}
use Rattle.setups.specs.Setups.{SetupLists}
use Rattle.scoreboard.specs.AxiPorts.{port_after}
use Rattle.scoreboard.specs.Boards.{Beginning, Board, ClientBoard, after_seen, hit_on}
use Rattle.scoreboard.specs.FailedBursts.{Span, failed_span}
use Rattle.scoreboard.specs.Orders.{Order}
use Rattle.scoreboard.specs.RealTime.{begun_next, with_failed}
use Rattle.scoreboard.specs.Resets.{reset_client}
use Rattle.scoreboard.specs.Unknown.{UnknownBoard, after_seen_unknown, known_of}
use Rattle.scoreboard.specs.declared.Errors.{Errors}
use Rattle.scoreboard.specs.declared.Errors.TheVariants.{Any}
use Rattle.scoreboard.specs.declared.ObservedBeat.{ObservedBeat}
use Rattle.scoreboard.specs.declared.ObservedBeat.TheVariants.{A, D, Axi as OnAxi, Drained}
use Rattle.scoreboard.specs.declared.Policy.TheVariants.{RealTime}
use Rattle.scoreboard.proofs.real_time.Becoming.{errors_kept}
use Rattle.scoreboard.proofs.real_time.Blames.{all_setup}
use Rattle.scoreboard.proofs.real_time.Comings.{early_in}
use Rattle.scoreboard.proofs.real_time.Fates.{GrowsTo, IsCounted, goes_next, told_any}
use Rattle.scoreboard.proofs.real_time.Fronts.{AreFronts, changed_from, front_of}
use Rattle.scoreboard.proofs.real_time.Places.{HaveSources, flight_in, flights_in}
use Rattle.value_orders.specs.Histories.{Happening, Reset, Seen, History, board_from, board_in, board_next, entries_of, history_from, history_in, history_next, no_history, opening}
use Rattle.value_orders.proofs.Entries.{entries_next}
use Rattle.value_orders.proofs.Matches.{Fits, Matches, fits_nothing, matches_opening}
use Rattle.value_orders.proofs.MatchesCut.{fits_reply}
use Rattle.value_orders.proofs.MatchesKept.{fits_hit}
use Rattle.value_orders.proofs.MatchesRequests.{fits_request}
use Rattle.value_orders.proofs.WellHistories.{IsBeside, IsKept, beside_seen, kept_in, kept_next, known_begins}

-- ---- a beat

fits_failed : (setup : SetupLists) (board : Board) (span : Option Span) (now : Order) → ((some : Span) → span ≡ Some some → board.errors ≡ Any)
    → Matches setup board.errors board now → Fits setup board.errors (hit_on span board).clients (with_failed board.memory span now)
fits_failed setup board None now any match = match.fits
fits_failed setup board (Some span) now any match =
    let told = any span refl in
    subst (λ e. Fits setup e (hit_on (Some span) board).clients (with_failed board.memory (Some span) now)) (sym told)
    (fits_hit setup board.clients now board.memory span match.faults match.regions (subst (λ e. Fits setup e board.clients now) told match.fits))

fits_next : (setup : SetupLists) (board : Board) (seen : ObservedBeat) (now : Order) → Matches setup board.errors board now → AreFronts board.clients
    → Fits setup board.errors (after_seen RealTime board seen).clients (begun_next board seen now)
fits_next setup board (A client beat) now match fronts = fits_request setup board client beat now match fronts
fits_next setup board (D client beat) now match fronts = fits_reply setup board.errors board.clients now match.fits client board beat refl fronts
fits_next setup board (OnAxi beat) now match fronts =
    fits_failed setup (record board { axi = port_after RealTime board.axi beat }) (failed_span board.errors board.axi beat) now (told_any board.errors board.axi beat)
    (record { errors_are = refl; faults = match.faults; regions = match.regions; fits = match.fits })
fits_next setup board Drained now match fronts = match.fits

-- with a beat of which all is known
pub matches_seen : (setup : SetupLists) (errors : Errors) (board : Board) (seen : ObservedBeat) (now : Order) → Matches setup errors board now → AreFronts board.clients
    → Matches setup errors (after_seen RealTime board seen) (begun_next board seen now)
matches_seen setup errors board seen now match fronts =
    let same = all_setup (seen ∷ []) board in
    let own : Matches setup board.errors board now = subst (λ e. Matches setup e board now) (sym match.errors_are) match in
    record {
      errors_are = errors_kept board seen ∙ match.errors_are;
      faults = same.faults ∙ match.faults;
      regions = same.regions ∙ match.regions;
      fits = subst (λ e. Fits setup e (after_seen RealTime board seen).clients (begun_next board seen now)) match.errors_are (fits_next setup board seen now own fronts);
    }

matches_beside : (setup : SetupLists) (errors : Errors) (known next : Board) (now : Order) → IsBeside known next → Matches setup errors known now → Matches setup errors next now
matches_beside setup errors known next now beside match =
    subst (λ (b : Board). Matches setup errors b now) (sym beside.is)
    (record { errors_are = match.errors_are; faults = match.faults; regions = match.regions; fits = match.fits })

-- ---- a reset

reset_at : (clients : List ClientBoard) (number : ℕ) → slice_get (map reset_client clients) number ≡ option_map reset_client (slice_get clients number)
reset_at clients number = slice_get-map reset_client clients number

fits_reset : (setup : SetupLists) (errors : Errors) (clients : List ClientBoard) → Fits setup errors (map reset_client clients) []
fits_reset setup errors clients =
    fits_nothing setup errors (map reset_client clients)
    (λ number client is.
    let found = changed_from reset_client clients number client is in
    subst (λ (c : ClientBoard). HaveSources c.flights) found.2 tt)
    (λ place. ap (λ (o : Option ClientBoard). flight_in (flights_in o) place.source) (reset_at clients place.client) ∙ by_place place.source (slice_get clients place.client))
    (λ client. ap front_of (reset_at clients client) ∙ by_front (slice_get clients client)) (λ client. ap early_in (reset_at clients client) ∙ by_early (slice_get clients client))
  where
    by_place : (source : Option ℕ) (o : Option ClientBoard) → flight_in (flights_in (option_map reset_client o)) source ≡ None
    by_place None None = refl
    by_place None (Some client) = refl
    by_place (Some source) None = refl
    by_place (Some source) (Some client) = refl

    by_front : (o : Option ClientBoard) → front_of (option_map reset_client o) ≡ None
    by_front None = refl
    by_front (Some client) = refl

    by_early : (o : Option ClientBoard) → early_in (option_map reset_client o) ≡ None
    by_early None = refl
    by_early (Some client) = refl

-- ---- along a run

module _ (setup : SetupLists) (errors : Errors) where
  pub matches_next : (old : UnknownBoard) (history : History) (happening : Happening) → IsKept errors old.board history
      → Matches setup errors old.board (entries_of history.since)
      → Matches setup errors (board_next old happening).board (entries_of (history_next setup old.board happening history).since)
  matches_next old history (Seen seen lanes said) kept match =
      subst (Matches setup errors next) (sym (entries_next setup old.board (length history.over) seen lanes said history.since grows.longer))
      (matches_beside setup errors known next now (beside_seen old seen lanes)
      (subst (Matches setup errors known) (known_begins old.board seen lanes before)
      (matches_seen setup errors old.board (known_of RealTime old.board seen lanes) before match kept.followed.fronts)))
    where
      before : Order
      before = entries_of history.since

      now : Order
      now = begun_next old.board seen before

      known : Board
      known = after_seen RealTime old.board (known_of RealTime old.board seen lanes)

      next : Board
      next = (after_seen_unknown RealTime old seen lanes).board

      grows : GrowsTo errors before now
      grows = subst (λ e. GrowsTo e before now) kept.errors_are
          (goes_next old.board seen before (subst (λ e. IsCounted e before) (sym kept.errors_are) kept.counted))
  matches_next old history Reset kept match =
      record { errors_are = match.errors_are; faults = match.faults; regions = match.regions; fits = fits_reset setup errors old.board.clients }

  matches_from : (happenings : List Happening) (board : UnknownBoard) (history : History) → IsKept errors board.board history
      → Matches setup errors board.board (entries_of history.since)
      → Matches setup errors (board_from board happenings).board (entries_of (history_from setup board history happenings).since)
  matches_from [] board history kept match = match
  matches_from (happening ∷ rest) board history kept match =
      matches_from rest (board_next board happening) (history_next setup board.board happening history) (kept_next setup errors board history happening kept)
      (matches_next board history happening kept match)

-- since the start
pub matches_in : (errors : Errors) (beginning : Beginning) (happenings : List Happening)
    → Matches beginning.lists errors (board_in errors beginning happenings).board (entries_of (history_in errors beginning happenings).since)
matches_in errors beginning happenings =
    matches_from beginning.lists errors happenings (opening errors beginning) no_history (kept_in errors beginning []) (matches_opening errors beginning)
