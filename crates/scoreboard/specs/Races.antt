-- Requests in flight together, which may take effect in any order, and the bytes that are the same in each of these orders.
use Rattle.std.specs.Prelude.{ℕ, ◌+◌, ◌^◌, Bool, true, false, ◌&&◌, ◌||◌, not, List, Option, is_some, unwrap_or, if◌then◌else◌, nat_le, nat_lt}
use Rattle.std.specs.List.{list_all, list_any, range_with_len}
use Rattle.bus_words.specs.Lanes.{given_at}
use Rattle.tl_messages.specs.Operations.{has_data, reply_has_data}
use Rattle.tl_messages.specs.Requests.{WholeRequest}
use Rattle.tl_messages.specs.declared.Operation.{Operation}
use Rattle.scoreboard.specs.Flights.{Footprint, InFlight}

-- whether a byte is among those of a request
abbrev pub covers : Footprint → ℕ → Bool
covers footprint x = nat_le footprint.address x && nat_lt x (footprint.address + 2 ^ footprint.size)

abbrev pub may_write : Footprint → ℕ → Bool
may_write footprint x = footprint.writes && covers footprint x

-- whether an operation may be carried out as a read: a Get and an atomic are, and an Intent may be, as a prefetch of which nothing is told; a Put isn't
abbrev pub may_read : Operation → Bool
may_read operation = reply_has_data operation || not (has_data operation)

-- a request that is alone: all of its bytes are determined, but those that it may read and that are indeterminate. One that acts on no good page neither
-- reads nor writes
abbrev pub alone : (ℕ → Bool) → Option ℕ → WholeRequest → Footprint
alone indeterminate place q =
    record {
      reads = is_some place && may_read q.operation;
      writes = is_some place && has_data q.operation;
      address = unwrap_or place 0;
      size = q.size;
      failed = false;
      determined = λ x. nat_le (unwrap_or place 0) x && nat_lt x (unwrap_or place 0 + 2 ^ q.size) && not (is_some place && may_read q.operation && indeterminate x);
    }

-- where it has failed nothing of it is determined
abbrev pub unless_failed : Bool → Footprint → Footprint
unless_failed true footprint = record footprint { failed = true; determined = λ x. false }
unless_failed false footprint = footprint

-- what another request may write isn't determined
abbrev pub beside : Footprint → Footprint → Footprint
beside footprint other = record footprint { determined = λ x. footprint.determined x && not (may_write other x) }

-- nor what any of some others may write
abbrev pub beside_all : Footprint → List Footprint → Footprint
beside_all footprint others = record footprint { determined = λ x. footprint.determined x && not (list_any (λ other. may_write other x) others) }

-- whether a request leaves its bytes the same in every order, where they are determined: an atomic only if all that it reads is determined
abbrev pub is_fixed : Footprint → Bool
is_fixed footprint = not footprint.reads || list_all (λ i. footprint.determined (footprint.address + i)) (range_with_len 0 (2 ^ footprint.size))

-- the indeterminate bytes after a request that gives these bytes
abbrev pub after_given : (ℕ → Bool) → Footprint → List (Option ℕ) → ℕ → Bool
after_given indeterminate footprint bytes x =
    if footprint.writes && is_some (given_at bytes footprint.address x) then not (footprint.determined x && is_fixed footprint) else indeterminate x

-- whether two requests share a byte
abbrev pub meets : Footprint → Footprint → Bool
meets footprint other = nat_lt footprint.address (other.address + 2 ^ other.size) && nat_lt other.address (footprint.address + 2 ^ footprint.size)

-- whether what an atomic writes may depend on another request: on one that writes a byte that it reads
abbrev pub depends_on : Footprint → Footprint → Bool
depends_on footprint other = footprint.reads && footprint.writes && other.writes && meets footprint other

-- all that is written by requests that depend on another is indeterminate
abbrev pub beside_dependent : (ℕ → Bool) → Footprint → List Footprint → ℕ → Bool
beside_dependent indeterminate other footprints x = indeterminate x || list_any (λ footprint. depends_on footprint other && covers footprint x) footprints

-- a request that joins those in flight, beside them all
abbrev pub joining : (ℕ → Bool) → List Footprint → Option ℕ → WholeRequest → Footprint
joining indeterminate footprints place q = beside_all (alone indeterminate place q) footprints

-- the indeterminate bytes when one that gives these bytes has joined them
abbrev pub after_joining : (ℕ → Bool) → List Footprint → Footprint → List (Option ℕ) → ℕ → Bool
after_joining indeterminate footprints footprint bytes = beside_dependent (after_given indeterminate footprint bytes) footprint footprints

-- one of those in flight, when another has joined them
abbrev pub flight_beside : Footprint → InFlight → InFlight
flight_beside footprint flight = record flight { footprint = beside flight.footprint footprint }
