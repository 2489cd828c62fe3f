-- A board that is reset begins with whatever bytes the orders leave that keep real time, whichever of the requests that haven't ended never take effect.
use Rattle.std.proofs.Common.{◌≡◌, ℕ, ◌<◌, Bool, List, [], ◌∷◌, map, Option, inl, inr, refl, sym, ◌∙◌, ap, ap₂, subst}
use Rattle.std.proofs.lemmas.Bool.{cases_Bool, or_parts}
use Rattle.std.specs.List.{list_any}
use Rattle.burst_plan.specs.declared.Region.{Region}
use Rattle.subordinate.specs.Faults.{Faults}
use Rattle.meaning.specs.Meaning.{Bytes, bytes_after_all}
use Rattle.setups.specs.Setups.{faults_of}
use Rattle.scoreboard.specs.Boards.{Beginning, Board, MayBegin, footprints_of, opening_from}
use Rattle.scoreboard.specs.Flights.{InFlight}
use Rattle.scoreboard.specs.Orders.{Order, board_after}
use Rattle.scoreboard.specs.Races.{may_write}
use Rattle.scoreboard.specs.RealTime.{arranged}
use Rattle.scoreboard.specs.Resets.{AreUnended, ResetsRightly, left_in, left_on}
use Rattle.scoreboard.specs.declared.Errors.{Errors}
use Rattle.scoreboard.specs.declared.ObservedBeat.{ObservedBeat}
use Rattle.scoreboard.proofs.acceptance_order.ResetInOrder.{left_in_order}
use Rattle.scoreboard.proofs.real_time.Ahead.{IsSame, none_given, shadow_writes}
use Rattle.scoreboard.proofs.real_time.Arranged.{arises}
use Rattle.scoreboard.proofs.real_time.Blames.{all_setup, followed, run_all}
use Rattle.scoreboard.proofs.real_time.Entries.{carry, run}
use Rattle.scoreboard.proofs.real_time.FlightLists.{each_coming, each_of}
use Rattle.scoreboard.proofs.real_time.Follows.{settle}
use Rattle.scoreboard.proofs.real_time.Places.{coming_at, flight_at, footprint_in}
use Rattle.scoreboard.proofs.real_time.ResetBoards.{reset_begins}
use Rattle.scoreboard.proofs.real_time.Spared.{leaves_unwritten, left_small}
use Rattle.scoreboard.proofs.real_time.StepOrders.{IsOrderOf}

-- as the shadow has it
left_settled : (faults : Faults) (regions : List Region) (gone : ℕ → Bool) (order : Order) (m : Bytes)
    → run faults regions m (left_in gone (settle order)) ≡ run faults regions m (left_in gone order)
left_settled faults regions gone [] m = refl
left_settled faults regions gone (entry ∷ order) m =
    elim (cases_Bool (gone entry.number)) [
      | inl is ↦ rw is (left_settled faults regions gone order m)
      | inr is ↦ rw is (left_settled faults regions gone order (carry faults regions entry.request m))
    ]

unended_settled : (gone : ℕ → Bool) (order : Order) → AreUnended gone order → AreUnended gone (settle order)
unended_settled gone [] unended = tt
unended_settled gone (entry ∷ order) unended = (unended.0, unended_settled gone order unended.1)

module _ (errors : Errors) (beginning : Beginning) (start : Bytes) (before : List ObservedBeat) (order : Order) (begins : MayBegin beginning start)
    (orders : IsOrderOf errors beginning before order) (gone : ℕ → Bool) (unended : AreUnended gone order) where
  abbrev board : Board
  board = board_after errors beginning before

  abbrev left : Bytes
  left = bytes_after_all (faults_of beginning.lists) beginning.lists.regions (map (λ entry. entry.request) (left_in gone order)) start

  pub leaves_beginning : MayBegin (left_on beginning (board_after errors beginning before)) left
  leaves_beginning =
      let same = all_setup before (opening_from errors beginning) in
      let (shadow, follows, ends) = followed start errors beginning before order begins orders in
      let flights = flight_at shadow.clients in
      let faults = board.memory.faults in
      let regions = board.memory.regions in
      let late = unended_settled gone order unended in
      let as_run : left ≡ run faults regions start (left_in gone (settle order)) =
      run_all beginning.lists (left_in gone order) start
      ∙ sym (ap₂ (λ (f : Faults) (r : List Region). run f r start (left_in gone order)) same.faults same.regions)
      ∙ sym (left_settled faults regions gone order start) in
      record {
        said = follows.ahead.small.at;
        small = λ x. subst (λ (m : Bytes). m x < 256) (sym as_run)
            ((left_small faults regions flights gone (settle order) start start follows.explains.entries (record { at = begins.small })).at x);
        known = λ x certain.
            let parts = or_parts (board.indeterminate x) (list_any (λ footprint. may_write footprint x) (footprints_of board.clients)) certain in
            let both : IsSame board shadow x =
            follows.ahead.known x parts.0
            (λ client some.
            let become = follows.ahead.begun client some in
            none_given faults regions (coming_at board.clients client) (shadow.finals client) become.other x become.becomes
            (each_coming (λ footprint. may_write footprint x) refl board.clients parts.1 client))
            (λ place flight is fated sound.
            sym (ap (λ (o : Option InFlight). may_write (footprint_in o) x) is)
            ∙ each_of (λ footprint. may_write footprint x) refl board.clients parts.1 place.client place.source) in
            ap (λ (m : Bytes). m x) as_run
            ∙ follows.explains.spared gone late x both.certain
            (leaves_unwritten faults regions flights gone x (shadow_writes board shadow follows.ahead x parts.1) (settle order) start follows.explains.entries late)
            ∙ follows.explains.known x both.certain ∙ both.byte;
      }

pub resets_rightly : (board : Board) → ResetsRightly board
resets_rightly board =
    record {
      begins = λ policy errors beginning before is. reset_begins policy errors beginning before board is;
      bytes = λ errors beginning before requests numbers gone start is order becomes begins unended.
          subst (λ (b : Board). MayBegin (left_on beginning b) (left errors beginning start before (arranged errors beginning before requests numbers) begins (arises errors beginning before requests numbers order becomes) gone unended))
          (sym is)
          (leaves_beginning errors beginning start before (arranged errors beginning before requests numbers) begins (arises errors beginning before requests numbers order becomes) gone unended);
      in_order = λ errors beginning before requests start reached all took begins. left_in_order errors beginning before board requests start reached all took begins;
    }
