-- A beat on channel D: the place of the request to which it is due, and the entries of an order for which it counts.
use Rattle.std.proofs.Common.{◌≡◌, ℕ, ◌==◌, Bool, true, false, List, map, Option, Some, None, if◌then◌else◌, refl, sym, ◌∙◌, ap, arith}
use Rattle.std.specs.Prelude.{is_some, slice_get}
use Rattle.std.specs.List.{list_any}
use Rattle.std.proofs.lemmas.Bool.{and_parts, both_ways, false_from_ne_true}
use Rattle.std.proofs.lemmas.Bool.Decides.{nat_tests}
use Rattle.meaning.specs.Meaning.{Bytes}
use Rattle.scoreboard.specs.Boards.{Board, ClientBoard}
use Rattle.scoreboard.specs.Flights.{InFlight}
use Rattle.scoreboard.specs.Orders.{Entry, Order, begun_to, has_ended, is_due, with_beat}
use Rattle.scoreboard.proofs.real_time.Entries.{Stands, place_of}
use Rattle.scoreboard.proofs.real_time.Explained.{Explains}
use Rattle.scoreboard.proofs.real_time.Places.{Place, begun_at, due_at, flight_at}
use Rattle.scoreboard.proofs.real_time.ReplyMoves.{Goes, Moves, any_each, counts, some_each, stays_all, waits_for}

-- the place of the request to which a client's next beat of a source is due: of that whose reply has begun, if one has
abbrev pub next_at : Bool → ℕ → ℕ → Place
next_at begun number source = if begun then begun_at number else due_at number source

pub next_client : (begun : Bool) (number source : ℕ) → (next_at begun number source).client ≡ number
next_client true number source = refl
next_client false number source = refl

-- nothing is due to a client that isn't there
pub none_due : (clients : List ClientBoard) (begun : Bool) (number source : ℕ) → slice_get clients number ≡ None → flight_at clients (next_at begun number source) ≡ None
none_due clients true number source none = rw none refl
none_due clients false number source none = rw none refl

-- an entry to which it is due is live, at this place
pub record IsAt (place : Place) (entry : Entry) : Type 0 where
  pub live : has_ended entry ≡ false
  pub there : place_of entry ≡ place

pub due_place : (begun : Bool) (number source : ℕ) (entry : Entry) → is_due begun number source entry ≡ true → IsAt (next_at begun number source) entry
due_place true number source entry is = record { live = grind (arith, nat_tests, is); there = grind (arith, nat_tests, is) }
due_place false number source entry is = grind (arith, is)

pub place_due : (begun : Bool) (number source : ℕ) (entry : Entry) → entry.whole ≡ true → IsAt (next_at begun number source) entry
    → is_due begun number source entry ≡ true
place_due true number source entry whole is = grind (arith, nat_tests, is.live, is.there)
place_due false number source entry whole is = grind (arith, nat_tests, whole, is.live, is.there)

module _ {start : Bytes} (board : Board) (order : Order) (explains : Explains start board order) (number source : ℕ) where
  abbrev flights : Place → Option InFlight
  flights = flight_at board.clients

  abbrev Held : Entry → Bytes → Type 0
  Held = Stands board.memory.faults board.memory.regions flights

  abbrev begun : Bool
  begun = list_any (begun_to number) order

  abbrev pub from : Place
  from = next_at begun number source

  -- whether one has begun, as the board tells it
  pub begun_as : list_any (begun_to number) order ≡ is_some (flight_at board.clients (begun_at number))
  begun_as = by_flight (flights (begun_at number)) refl
    where
      by_flight : (o : Option InFlight) → flights (begun_at number) ≡ o → list_any (begun_to number) order ≡ is_some o
      by_flight (Some flight) there = explains.begun number (ap (λ (o : Option InFlight). is_some o) there)
      by_flight None nothing =
          false_from_ne_true (list_any (begun_to number) order) (λ some.
          let found = some_each board.memory.faults board.memory.regions Held (begun_to number) order start explains.entries some in
          let is = due_place true number source found.0 found.3 in
          absurd (cc (sym nothing ∙ ap flights (sym is.there) ∙ (found.2.live is.live).there)))

  -- what is due on the board is due in the order
  pub due_known : is_some (flight_at board.clients (next_at (list_any (begun_to number) order) number source)) ≡ true
      → list_any (is_due (list_any (begun_to number) order) number source) order ≡ true
  due_known = by_begun begun
    where
      by_begun : (b : Bool) → is_some (flights (next_at b number source)) ≡ true → list_any (is_due b number source) order ≡ true
      by_begun true some = explains.begun number some
      by_begun false some =
          any_each board.memory.faults board.memory.regions Held (waits_for number source) (is_due false number source) order start
          (λ entry m held waits. grind (arith, waits, held.whole)) explains.entries (explains.waiting number source some)

  -- of which source the request is
  due_source : (entry : Entry) (m : Bytes) → Held entry m → is_due begun number source entry ≡ true
      → (flight : InFlight) × (flights from ≡ Some flight) × (flight.source ≡ entry.request.source)
  due_source entry m held is =
      let at = due_place begun number source entry is in
      let was = held.live at.live in
      (was.flight, ap flights (sym at.there) ∙ was.there, was.source)

  -- where it is of another source, the beat counts for none
  pub counts_none : ((flight : InFlight) → flight_at board.clients (next_at (list_any (begun_to number) order) number source) ≡ Some flight → flight.source ≡ source → ⊥)
      → map (with_beat (list_any (begun_to number) order) number source) order ≡ order
  counts_none other =
      stays_all begun number source board.memory.faults board.memory.regions flights order start
      (λ entry m held. false_from_ne_true (counts begun number source entry) (λ is.
      let found = due_source entry m held (and_parts (is_due begun number source entry) (entry.request.source == source) is).0 in
      other found.0 found.1 (grind (arith, nat_tests, found.2, is)))) explains.entries

  module _ (own : (flight : InFlight) → flight_at board.clients (next_at (list_any (begun_to number) order) number source) ≡ Some flight → flight.source ≡ source) where
    due_counts : (entry : Entry) (m : Bytes) → Held entry m → is_due begun number source entry ≡ true → counts begun number source entry ≡ true
    due_counts entry m held is = grind (arith, held, is)

    pub due_counted : is_some (flight_at board.clients (next_at (list_any (begun_to number) order) number source)) ≡ true
        → list_any (counts (list_any (begun_to number) order) number source) order ≡ true
    due_counted some =
        any_each board.memory.faults board.memory.regions Held (is_due begun number source) (counts begun number source) order start due_counts explains.entries
        (due_known some)

    pub moves_all : (entry : Entry) (m : Bytes) → Stands board.memory.faults board.memory.regions (flight_at board.clients) entry m
        → Moves (list_any (begun_to number) order) number source (next_at (list_any (begun_to number) order) number source) entry
    moves_all entry m held = by_counts (counts begun number source entry) refl
      where
        by_counts : (c : Bool) → counts begun number source entry ≡ c → Moves begun number source from entry
        by_counts true is =
            let at = due_place begun number source entry (and_parts (is_due begun number source entry) (entry.request.source == source) is).0 in
            Goes held.whole at.live is at.there
        by_counts false is = grind (arith, is, both_ways (counts begun number source entry) is)
