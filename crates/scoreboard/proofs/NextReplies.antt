-- What is seen of the reply whose next a beat of a source may be is what is seen of the one that has begun, else of the one that is due, else of the one that
-- may come early.
use Rattle.std.proofs.Common.{◌≡◌, ◌<◌, ℕ, List, [], ◌∷◌, length, Option, Some, None, refl, ap, arith}
use Rattle.std.specs.Prelude.{option_and_then, option_to_list}
use Rattle.std.specs.List.{AllByRecursion, find}
use Rattle.std.specs.Option.{option_or}
use Rattle.bus_words.proofs.PlaceChanges.{all-find}
use Rattle.tl_messages.specs.declared.DBeat.{DBeat}
use Rattle.scoreboard.specs.Boards.{ClientBoard, early_flight}
use Rattle.scoreboard.specs.Flights.{InFlight, due_to, is_of_source}
use Rattle.scoreboard.specs.Views.{HasBeat, HaveBeats, first_view, left_view, next_view, view_of}
use Rattle.scoreboard.specs.declared.views.ReplyView.{ReplyView}

module _ (begun due early : Option InFlight) where
  abbrev next : Option ReplyView
  next = option_and_then view_of (option_or (option_or begun due) early)

  abbrev first : Option ReplyView
  first = option_or (option_and_then view_of begun) (option_or (option_and_then view_of due) (option_and_then view_of early))

-- where it is seen it is the first that there is
seen_first : (begun due early : Option InFlight) (view : ReplyView) → next begun due early ≡ Some view → first begun due early ≡ Some view
seen_first None None early view is = is
seen_first None (Some flight) early view is = ap (λ (o : Option ReplyView). option_or o (option_and_then view_of early)) is
seen_first (Some flight) due early view is =
    ap (λ (o : Option ReplyView). option_or o (option_or (option_and_then view_of due) (option_and_then view_of early))) is

pub next_is_first : (client : ClientBoard) (source : ℕ) (view : ReplyView) → next_view (Some client) source ≡ Some view → first_view (Some client) source ≡ Some view
next_is_first client source view is = seen_first client.flights.begun (due_to client.flights source) (early_flight client client.early source) view is

-- of a request in flight of whose reply a beat is left something is seen
stands_first : (flight : InFlight) (later : Option ReplyView) → HasBeat flight → view_of flight ≡ option_or (view_of flight) later
stands_first flight later some = by_beats flight.beats some
  where
    by_beats : (beats : List DBeat) → 0 < length beats → left_view flight.footprint beats ≡ option_or (left_view flight.footprint beats) later
    by_beats [] none = absurd (omega (arith, none))
    by_beats (due ∷ rest) more = refl

always_first : (begun due early : Option InFlight) → AllByRecursion HasBeat (option_to_list begun) → AllByRecursion HasBeat (option_to_list due)
    → next begun due early ≡ first begun due early
always_first None None early started waits = refl
always_first None (Some flight) early started waits = stands_first flight (option_and_then view_of early) waits.0
always_first (Some flight) due early started waits =
    stands_first flight (option_or (option_and_then view_of due) (option_and_then view_of early)) started.0

-- where a beat is left of each reply, what is seen of the next one is what is seen of the one that has begun, else of the one that is due, else of the one that
-- may come early
pub next_always_first : (client : ClientBoard) (source : ℕ) → HaveBeats client → next_view (Some client) source ≡ first_view (Some client) source
next_always_first client source have =
    always_first client.flights.begun (due_to client.flights source) (early_flight client client.early source) have.1 (found (due_to client.flights source) refl)
  where
    found : (o : Option InFlight) → find (is_of_source source) client.flights.due ≡ o → AllByRecursion HasBeat (option_to_list o)
    found None is = tt
    found (Some flight) is = (all-find HasBeat (is_of_source source) client.flights.due flight have.0 is, tt)
