-- A reset in the middle of an observation, of the bridge and all that is connected to it. What had begun is gone; a request in flight took effect before the
-- reset, or never does.
use Rattle.std.specs.Prelude.{ℕ, ◌≡◌, Bool, true, false, ◌&&◌, ◌||◌, not, List, [], ◌∷◌, length, None, ⊤, filter, map, nat_lt}
use Rattle.std.specs.List.{AllByRecursion, list_any}
use Rattle.tl_messages.specs.Requests.{WholeRequest}
use Rattle.meaning.specs.Meaning.{Bytes, bytes_after_all}
use Rattle.setups.specs.Setups.{SetupLists, faults_of}
use Rattle.scoreboard.specs.AxiPorts.{drained}
use Rattle.scoreboard.specs.Boards.{Beginning, Board, ClientBoard, IsReached, MayBegin, after_all, footprints_of, opening_from}
use Rattle.scoreboard.specs.FailedBursts.{after_reached, reach_of_reset}
use Rattle.scoreboard.specs.Flights.{Footprint, no_flights, no_footprint}
use Rattle.scoreboard.specs.Observed.{Observed, observed_in, requests_in}
use Rattle.scoreboard.specs.Orders.{Order, board_after, has_ended}
use Rattle.scoreboard.specs.Races.{covers, may_write}
use Rattle.scoreboard.specs.RealTime.{IsOrderOf, MayBecomeAll, arranged, begun_in}
use Rattle.scoreboard.specs.Right.{acts, is_of, left_of, replies_to}
use Rattle.scoreboard.specs.declared.Errors.{Errors}
use Rattle.scoreboard.specs.declared.ObservedBeat.{ObservedBeat}
use Rattle.scoreboard.specs.declared.Policy.{Policy}
use Rattle.scoreboard.specs.declared.Policy.TheVariants.{AcceptanceOrder}

-- a client that has begun nothing, and to which nothing is due
abbrev pub reset_client : ClientBoard → ClientBoard
reset_client client = record client { front = None; flights = no_flights; coming = no_footprint; early = None; told = false }

-- the board then: nobody knows the bytes that a request in flight, or one that has begun, may have written. Where requests take effect in order of acceptance,
-- one that isn't whole has done nothing
abbrev pub reset_on : Board → Board
reset_on board =
    record board {
      clients = map reset_client board.clients;
      indeterminate = after_reached board.indeterminate reach_of_reset (footprints_of board.clients);
      axi = drained board.axi;
    }

-- what it begins with: the bytes as the accepted requests leave them in order of acceptance, as far as they are known
abbrev pub left_on : Beginning → Board → Beginning
left_on beginning board = record beginning { bytes = board.memory.bytes; unknown = (reset_on board).indeterminate }

-- ---- real time

-- some of an order may never take effect, none of which has ended
abbrev pub AreUnended : (ℕ → Bool) → Order → Type 0
AreUnended gone order = AllByRecursion (λ entry. gone entry.number ≡ true → has_ended entry ≡ false) order

-- those that do
abbrev pub left_in : (ℕ → Bool) → Order → Order
left_in gone order = filter (λ entry. not (gone entry.number)) order

-- ---- order of acceptance

-- whether the reply to a request isn't whole, by those that were accepted behind it: it is the last of its client's source, of whose replies some beat is left
abbrev pub is_unended : Beginning → Observed → WholeRequest → List WholeRequest → Bool
is_unended beginning observed q later =
    not (list_any (is_of q.client q.source) later)
    && nat_lt 0 (length (left_of (replies_to beginning observed q.client q.source) (observed.told q.client q.source)))

-- whether a request reads or writes a byte
abbrev pub touches : Footprint → ℕ → Bool
touches footprint x = (footprint.reads || footprint.writes) && covers footprint x

-- a request writes no byte that another reads or writes
abbrev pub IsApartFrom : SetupLists → WholeRequest → WholeRequest → Type 0
IsApartFrom setup q other = (x : ℕ) → may_write (acts setup (λ y. false) q) x ≡ true → touches (acts setup (λ y. false) other) x ≡ false

-- requests in order of acceptance, each with whether it took effect. One that didn't hasn't ended, and none behind it took effect that reads or writes what it
-- writes, since they would have taken effect in order
abbrev pub TookEffectInOrder : Beginning → Observed → List (WholeRequest × Bool) → Type 0
TookEffectInOrder beginning observed [] = ⊤
TookEffectInOrder beginning observed ((q, true) ∷ later) = TookEffectInOrder beginning observed later
TookEffectInOrder beginning observed ((q, false) ∷ later) =
    (is_unended beginning observed q (map (λ other. other.0) later) ≡ true)
    × AllByRecursion (λ other. other.1 ≡ true → IsApartFrom beginning.lists q other.0) later
    × TookEffectInOrder beginning observed later

-- those that did
abbrev pub that_took_effect : List (WholeRequest × Bool) → List WholeRequest
that_took_effect requests = map (λ entry. entry.0) (filter (λ entry. entry.1) requests)

-- ---- the laws

-- what the laws say of a board that is reset, by its beats so far: it is one that begins anew, and in real time it begins with whatever bytes are left by any
-- order of the requests that have begun which keeps real time, whatever the memory began with where nobody knows that, whatever they become that aren't whole,
-- whatever those leave that have failed, and whichever of those that haven't ended never take effect. Where requests take effect in order of acceptance it begins
-- with whatever bytes are left by the accepted ones, whichever of those that haven't ended never took effect, but that requests which share a byte took effect in
-- order
pub record ResetsRightly (old : Board) : Type 0 where
  pub begins : (policy : Policy) (errors : Errors) (beginning : Beginning) (before : List ObservedBeat) → old ≡ after_all policy (opening_from errors beginning) before
      → reset_on old ≡ opening_from errors (left_on beginning old)
  pub bytes : (errors : Errors) (beginning : Beginning) (before : List ObservedBeat) (requests : ℕ → WholeRequest) (numbers : List ℕ) (gone : ℕ → Bool) (start : Bytes)
      → old ≡ board_after errors beginning before → IsOrderOf errors beginning before numbers → MayBecomeAll (begun_in errors beginning before) requests
      → MayBegin beginning start → AreUnended gone (arranged errors beginning before requests numbers)
      → MayBegin (left_on beginning old)
      (bytes_after_all (faults_of beginning.lists) beginning.lists.regions
      (map (λ entry. entry.request) (left_in gone (arranged errors beginning before requests numbers))) start)
  pub in_order : (errors : Errors) (beginning : Beginning) (before : List ObservedBeat) (requests : List (WholeRequest × Bool)) (start : Bytes)
      → IsReached AcceptanceOrder (opening_from errors beginning) before old → map (λ entry. entry.0) requests ≡ requests_in (observed_in before)
      → TookEffectInOrder beginning (observed_in before) requests → MayBegin beginning start
      → MayBegin (left_on beginning old) (bytes_after_all (faults_of beginning.lists) beginning.lists.regions (that_took_effect requests) start)
