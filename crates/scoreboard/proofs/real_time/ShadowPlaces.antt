-- A request that is new on a shadow: nothing is in flight there at its place; and what becomes of the messages that have begun.
use Rattle.std.proofs.Common.{◌≡◌, ℕ, ◌==◌, false, List, [], ◌∷◌, Option, Some, None, if◌then◌else◌, refl, sym, ◌∙◌, ap, arith}
use Rattle.std.specs.Prelude.{is_some, slice_get}
use Rattle.std.specs.List.{find, list_any}
use Rattle.std.proofs.lemmas.Bool.Decides.{nat_tests}
use Rattle.tl_messages.specs.Requests.{HeldMessage, WholeRequest}
use Rattle.burst_plan.specs.declared.Region.{Region}
use Rattle.subordinate.specs.Faults.{Faults}
use Rattle.tl_messages.specs.Operations.{reply_has_data}
use Rattle.meaning.specs.Meaning.{Bytes, meaning}
use Rattle.scoreboard.specs.Boards.{Board, ClientBoard}
use Rattle.scoreboard.specs.Flights.{Flights, InFlight, due_to, is_of_source}
use Rattle.scoreboard.proofs.real_time.Ahead.{IsAhead, Shadow, comes, front_in}
use Rattle.scoreboard.proofs.real_time.FlightLists.{none_found}
use Rattle.scoreboard.proofs.real_time.Places.{Place, due_at, flight_at, flights_in}

-- ---- what becomes of each client's message

abbrev pub finals_with : (ℕ → WholeRequest) → ℕ → WholeRequest → ℕ → WholeRequest
finals_with finals number q client = if client == number then q else finals client

pub finals_own : (finals : ℕ → WholeRequest) (number : ℕ) (q : WholeRequest) → finals_with finals number q number ≡ q
finals_own finals number q = grind (arith, nat_tests)

pub finals_other : (finals : ℕ → WholeRequest) (number client : ℕ) (q : WholeRequest) → (client ≡ number → ⊥) → finals_with finals number q client ≡ finals client
finals_other finals number client q differ = grind (arith, nat_tests, differ)

-- ---- a source to which nothing is due

pub none_of_source : (source : ℕ) (due : List InFlight) → find (is_of_source source) due ≡ None → list_any (is_of_source source) due ≡ false
none_of_source source [] none = refl
none_of_source source (flight ∷ due) none = grind (arith, none, none_of_source source due)

module _ (board : Board) (shadow : Shadow) (ahead : IsAhead board shadow) (number source : ℕ) (client : ClientBoard)
    (there : slice_get board.clients number ≡ Some client) (front : client.front ≡ None) (free : list_any (is_of_source source) client.flights.due ≡ false) where
  abbrev place : Place
  place = due_at number source

  pub nothing_begun : comes board.clients number ≡ false
  nothing_begun = ap (λ (o : Option ClientBoard). is_some (front_in o)) there ∙ ap (λ (o : Option HeldMessage). is_some o) front

  pub none_here : flight_at board.clients (due_at number source) ≡ None
  none_here = ap (λ (f : Flights). due_to f source) (ap flights_in there) ∙ none_found source client.flights.due free

  pub none_there : flight_at shadow.clients (due_at number source) ≡ None
  none_there = by_flight (flight_at shadow.clients place) refl
    where
      by_flight : (o : Option InFlight) → flight_at shadow.clients place ≡ o → flight_at shadow.clients place ≡ None
      by_flight None is = is
      by_flight (Some other) is =
          let final = ahead.others place other is none_here in absurd (cc (sym nothing_begun ∙ final.begun))

  pub free_there : (other : ClientBoard) → slice_get shadow.clients number ≡ Some other → list_any (is_of_source source) other.flights.due ≡ false
  free_there other is =
      none_of_source source other.flights.due (sym (ap (λ (f : Flights). due_to f source) (ap flights_in is)) ∙ none_there)

-- ---- a reply without data is the same whatever the bytes are

pub reply_same : (faults : Faults) (regions : List Region) (q : WholeRequest) (m n : Bytes) → reply_has_data q.operation ≡ false
    → (meaning faults regions q m).reply ≡ (meaning faults regions q n).reply
reply_same faults regions q m n silent = grind (arith, silent)
