-- Error responses on the AXI4 port: where errors are told in any way, each request may have failed with one that shares a byte with the burst that was
-- answered, from its first beat to the last of its reply.
use Rattle.std.specs.Prelude.{ℕ, ◌+◌, ◌^◌, Bool, true, false, ◌&&◌, ◌||◌, List, Option, None, is_none, if◌then◌else◌, nat_le, nat_lt, option_map}
use Rattle.std.specs.List.{list_any}
use Rattle.axi_beats.specs.Responses.{is_okay}
use Rattle.axi_beats.specs.Transfers.{last_byte}
use Rattle.axi_checker.specs.OpenBursts.{OpenBursts, OpenRead, OpenWrite, oldest_read, oldest_write}
use Rattle.axi_checker.specs.Rules.{BurstAddress, address_of_read, address_of_write, axi_fault}
use Rattle.axi_checker.specs.declared.AxiBeat.{AxiBeat}
use Rattle.axi_checker.specs.declared.AxiBeat.TheVariants.{B as OnB, R as OnR}
use Rattle.scoreboard.specs.AxiPorts.{PortBoard}
use Rattle.scoreboard.specs.Flights.{Footprint, InFlight}
use Rattle.scoreboard.specs.Races.{may_write, unless_failed}
use Rattle.scoreboard.specs.declared.Errors.{Errors}
use Rattle.scoreboard.specs.declared.Errors.TheVariants.{Any, Strict}

-- the bytes of a burst, from the first to the last
pub record Span : Type 0 where
  pub first : ℕ
  pub last : ℕ

-- those of a burst by its address
abbrev pub span_of : BurstAddress → Span
span_of address = record { first = address.start; last = last_byte address.start address.len address.size }

-- those of the burst to which a response comes that is an error: the oldest of its ID
abbrev pub answered_span : OpenBursts → AxiBeat → Option Span
answered_span open_bursts (OnB b) =
    if is_okay b.resp then None else option_map (λ (write : OpenWrite). span_of (address_of_write write.aw)) (oldest_write b.id open_bursts)
answered_span open_bursts (OnR r) =
    if is_okay r.resp then None else option_map (λ (read : OpenRead). span_of (address_of_read read.ar)) (oldest_read r.id open_bursts)
answered_span open_bursts beat = None

-- what a beat tells to have failed: a response that is an error, and breaks no rule, where errors are told in any way
abbrev pub failed_span : Errors → PortBoard → AxiBeat → Option Span
failed_span Strict port beat = None
failed_span Any port beat = if is_none (axi_fault port.limits port.open_bursts beat) then answered_span port.open_bursts beat else None

-- whether a request that may read or write shares a byte with a burst
abbrev pub shares : Span → Footprint → Bool
shares span footprint =
    (footprint.reads || footprint.writes) && nat_le footprint.address span.last && nat_lt span.first (footprint.address + 2 ^ footprint.size)

-- the footprint of a request when a burst was answered with an error: where it shares a byte with that it may have failed
abbrev pub hit : Span → Footprint → Footprint
hit span footprint = unless_failed (shares span footprint) footprint

-- the same of one in flight
abbrev pub hit_flight : Span → InFlight → InFlight
hit_flight span flight = record flight { footprint = hit span flight.footprint }

-- what an event reaches: a reset each request, and an error response those that share a byte with its burst
pub record Reach : Type 0 where
  pub all : Bool
  pub burst : Span

abbrev pub reach_of_reset : Reach
reach_of_reset = record { all = true; burst = record { first = 0; last = 0 } }

abbrev pub reach_of_burst : Span → Reach
reach_of_burst span = record { all = false; burst = span }

-- whether it reaches a request
abbrev pub reaches : Reach → Footprint → Bool
reaches reach footprint = reach.all || shares reach.burst footprint

-- the indeterminate bytes when what those may write isn't known any more
abbrev pub after_reached : (ℕ → Bool) → Reach → List Footprint → ℕ → Bool
after_reached indeterminate reach footprints x = indeterminate x || list_any (λ footprint. reaches reach footprint && may_write footprint x) footprints

-- the indeterminate bytes when a burst was answered with an error: those too that may be written by a request which shares a byte with the burst
abbrev pub after_hit : (ℕ → Bool) → Span → List Footprint → ℕ → Bool
after_hit indeterminate span footprints x = after_reached indeterminate (reach_of_burst span) footprints x
