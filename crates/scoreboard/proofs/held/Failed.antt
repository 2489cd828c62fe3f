-- A request that was carried out, and has failed or not by its reply.
use Rattle.std.proofs.Common.{◌≡◌, ℕ, Bool, true, false, Option, refl, sym, ◌∙◌, ap, ap₂}
use Rattle.std.proofs.Math.Bool.{or-true}
use Rattle.tl_messages.specs.Requests.{HeldMessage, WholeRequest, request_of}
use Rattle.responses.specs.Shown.{shown}
use Rattle.scoreboard.specs.Boards.{acting, fails, flight_for, kept_from}
use Rattle.scoreboard.specs.Flights.{Footprint, InFlight}
use Rattle.scoreboard.specs.InsideBoards.{FlightState, FootprintState, fails_by, flight_of, footprint_of}
use Rattle.scoreboard.specs.Races.{unless_failed}
use Rattle.serial_memory.specs.SerialMemory.{Memory, meaning_in, place_in}
use Rattle.scoreboard.specs.declared.Errors.{Errors}
use Rattle.scoreboard.specs.declared.Errors.TheVariants.{Any, Strict}

-- ---- its footprint

fails_is : (errors : Errors) (memory : Memory) (q : WholeRequest)
    → fails_by errors (place_in memory (acting errors q)) (shown q (meaning_in memory q).reply) ≡ fails errors memory q
fails_is Strict memory q = refl
fails_is Any memory q = refl

pub failed_kept : (b : Bool) (coming footprint : Footprint) → unless_failed b (kept_from coming footprint) ≡ kept_from coming (unless_failed b footprint)
failed_kept true coming footprint = ap {B = Footprint} (λ (b : Bool). record footprint { failed = b; determined = λ x. false }) (sym (or-true coming.failed))
failed_kept false coming footprint = refl

-- a request as it was carried out, with a footprint
abbrev pub carried : Memory → HeldMessage → FootprintState → FlightState
carried memory held footprint = record { source = held.source; beats = shown (request_of held) (meaning_in memory (request_of held)).reply; footprint = footprint }

pub failed_by : (errors : Errors) (memory : Memory) (held : HeldMessage) (place : Option ℕ) (footprint : FootprintState) (flight failed : FlightState)
    → place ≡ place_in memory (acting errors (request_of held)) → flight ≡ carried memory held footprint
    → footprint_of failed.footprint ≡ unless_failed (fails_by errors place flight.beats) (footprint_of flight.footprint)
    → footprint_of failed.footprint ≡ unless_failed (fails errors memory (request_of held)) (footprint_of footprint)
failed_by errors memory held place footprint flight failed there is fails =
    fails
    ∙ ap₂ (λ (o : Option ℕ) (one : FlightState). unless_failed (fails_by errors o one.beats) (footprint_of one.footprint)) there is
    ∙ ap (λ b. unless_failed b (footprint_of footprint)) (fails_is errors memory (request_of held))

-- ---- its source and reply

abbrev with_footprint : Footprint → FlightState → InFlight
with_footprint footprint flight = record { source = flight.source; beats = flight.beats; footprint = footprint }

-- one that may have failed since
pub flight_failed : (memory : Memory) (held : HeldMessage) (footprint : FootprintState) (flight failed : FlightState) → flight ≡ carried memory held footprint
    → failed ≡ record flight { footprint = record flight.footprint { failed = failed.footprint.failed; determined = failed.footprint.determined } }
    → flight_of failed ≡ flight_for memory (footprint_of failed.footprint) (request_of held)
flight_failed memory held footprint flight failed is rest =
    ap (with_footprint (footprint_of failed.footprint)) rest ∙ ap (with_footprint (footprint_of failed.footprint)) is
