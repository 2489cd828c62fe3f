-- A beat on channel D: the board still knows what it knew of an order.
use Rattle.std.proofs.Common.{◌≡◌, ℕ, ◌==◌, Bool, true, false, set, Option, Some, None, refl, sym, ◌∙◌, ap, subst, arith}
use Rattle.std.specs.Prelude.{slice_get}
use Rattle.std.specs.List.{list_any}
use Rattle.std.proofs.lemmas.Bool.Decides.{nat_tests}
use Rattle.bus_words.proofs.PlaceChanges.{find-passes}
use Rattle.meaning.specs.Meaning.{Bytes}
use Rattle.scoreboard.specs.Boards.{Board, ClientBoard}
use Rattle.scoreboard.specs.Flights.{InFlight, flights_after, is_of_source, next_reply}
use Rattle.scoreboard.specs.Orders.{Entry, Order, begun_to, with_beat, with_counted}
use Rattle.scoreboard.proofs.real_time.Entries.{Stands}
use Rattle.scoreboard.proofs.real_time.Explained.{Explains, explains_with, nothing_with, sources_with}
use Rattle.scoreboard.proofs.real_time.Places.{HaveSources, Place, flight_at}
use Rattle.scoreboard.proofs.real_time.ReplyMoves.{AreMoved, Moves, begun_next, distinct_next, each_next, moved_keeps, run_moved, waiting_next}
use Rattle.scoreboard.proofs.real_time.ReplySeen.{are_moved, flights_still, next_is, sources_after, still_apart, still_either}
use Rattle.scoreboard.proofs.real_time.Spared.{spared_changed}
use Rattle.scoreboard.proofs.real_time.ReplySteps.{begun_as, counts_none, due_counted, moves_all, next_at}

module _ {start : Bytes} (board : Board) (order : Order) (number source : ℕ) (explains : Explains start board order) where
  abbrev begun : Bool
  begun = list_any (begun_to number) order

  abbrev from : Place
  from = next_at (list_any (begun_to number) order) number source

  -- of a client that isn't there nothing is due
  nobody : slice_get board.clients number ≡ None → Explains start board (with_counted order number source)
  nobody none = grind (arith, none, explains, counts_none board order explains number source)

  module _ (client : ClientBoard) (there : slice_get board.clients number ≡ Some client) where
    abbrev changed : ClientBoard
    changed = record client { flights = flights_after client.flights source }

    abbrev Kept : Type 0
    Kept = Explains start (record board { clients = set board.clients number changed }) (with_counted order number source)

    sources : HaveSources client.flights
    sources = explains.sources number client there

    due : flight_at board.clients from ≡ next_reply client.flights source
    due = next_is board.clients number source client there begun (begun_as board order explains number source)

    -- a beat of the source of the request to which it is due
    moved : ((flight : InFlight) → next_reply client.flights source ≡ Some flight → flight.source ≡ source) → Kept
    moved own =
        record {
          sources = sources_with board.clients number client changed there explains.sources (sources_after source client.flights sources);
          nothing = nothing_with board.clients number client changed there explains.nothing (explains.nothing number client there);
          small = explains.small;
          apart = still_apart number source from (flight_at board.clients) now are explains.apart;
          either = still_either number source from (flight_at board.clients) now are board.indeterminate explains.either;
          distinct = distinct_next begun number source board.memory.faults board.memory.regions from (flight_at board.clients) now are moves
              order start explains.entries explains.distinct;
          entries = each_next begun number source board.memory.faults board.memory.regions from (flight_at board.clients) now are moves order start explains.entries;
          known = λ x certain. ap (λ (f : Bytes). f x) (run_moved begun number source board.memory.faults board.memory.regions order start) ∙ explains.known x certain;
          waiting = λ c place. waiting_next begun number source board.memory.faults board.memory.regions from (flight_at board.clients) now are moves
              c place order start explains.entries (explains.waiting c place);
          begun = λ c. begun_next begun number source board.memory.faults board.memory.regions from (flight_at board.clients) now are moves
              c order start explains.entries (due_counted board order explains number source of_source) (explains.begun c);
          spared = spared_changed board.memory.faults board.memory.regions (with_beat begun number source) board.indeterminate start order
              (moved_keeps begun number source) explains.spared;
        }
      where
        now : Place → Option InFlight
        now = flight_at (set board.clients number changed)

        are : AreMoved number source from (flight_at board.clients) now
        are = are_moved board.clients number source client there begun (begun_as board order explains number source) sources

        of_source : (flight : InFlight) → flight_at board.clients from ≡ Some flight → flight.source ≡ source
        of_source flight is = own flight (sym due ∙ is)

        moves : (entry : Entry) (m : Bytes)
            → Stands board.memory.faults board.memory.regions (flight_at board.clients) entry m
            → Moves begun number source from entry
        moves = moves_all board order explains number source of_source

    -- a beat of another source than that of the reply that has begun
    other : (flight : InFlight) → client.flights.begun ≡ Some flight → (flight.source == source) ≡ false → Kept
    other flight is differ =
        let kept = flights_still source client.flights flight is differ in
        subst (Explains start (record board { clients = set board.clients number changed }))
        (sym (counts_none board order explains number source (λ next at own. grind (arith, nat_tests, is, differ, due, at, own))))
        (explains_with board order number client changed there kept refl explains)

    pub explains_own : Kept
    explains_own = by_begun client.flights.begun refl
      where
        by_source : (flight : InFlight) → client.flights.begun ≡ Some flight → (b : Bool) → (flight.source == source) ≡ b → Kept
        by_source flight is false differ = other flight is differ
        by_source flight is true same = moved (λ next at. grind (arith, nat_tests, is, at, same))

        by_begun : (o : Option InFlight) → client.flights.begun ≡ o → Kept
        by_begun (Some flight) is = by_source flight is (flight.source == source) refl
        by_begun None is = moved (λ next at. grind (arith, nat_tests, is, at, find-passes (is_of_source source) client.flights.due next))
