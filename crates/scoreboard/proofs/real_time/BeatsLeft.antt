-- Where requests take effect in real time a beat is left of each reply that is due, or has begun: so from the start, and so it stays.
use Rattle.std.proofs.Common.{subst, sym, arith}
use Rattle.tl_messages.specs.Requests.{WholeRequest}
use Rattle.scoreboard.specs.Boards.{Beginning, Board, after_seen, coming_on, flight_for, joining_on, opening_from}
use Rattle.scoreboard.specs.Flights.{Footprint}
use Rattle.scoreboard.specs.Resets.{reset_client, reset_on}
use Rattle.scoreboard.specs.Views.{AllHaveBeats, HasBeat, HaveBeats}
use Rattle.scoreboard.specs.declared.Errors.{Errors}
use Rattle.scoreboard.specs.declared.ObservedBeat.{ObservedBeat}
use Rattle.scoreboard.specs.declared.Policy.TheVariants.{RealTime}
use Rattle.serial_memory.specs.SerialMemory.{Memory, meaning_in}
use Rattle.scoreboard.proofs.real_time.EachFlight.{seen_each}
use Rattle.scoreboard.proofs.real_time.Explained.{opening_at}
use Rattle.scoreboard.proofs.real_time.Fronts.{changed_from}
use Rattle.scoreboard.proofs.real_time.Lengths.{length-shown, some_beats}

-- a request that is accepted has a beat left of its reply
some_due : (memory : Memory) (footprint : Footprint) (q : WholeRequest) → HasBeat (flight_for memory footprint q)
some_due memory footprint q = omega (arith, length-shown q (meaning_in memory q).reply, some_beats q)

-- with any beat
pub beats_after : (board : Board) (seen : ObservedBeat) → AllHaveBeats board → AllHaveBeats (after_seen RealTime board seen)
beats_after board seen have =
    seen_each HasBeat (λ footprint flight some. some) (λ flight some was. some) board have (λ q. some_due board.memory (joining_on board q) q)
    (λ number client there q. some_due board.memory (coming_on board q client.coming) q) (λ any span flight some. some) seen

-- with a reset nothing is left
pub beats_reset : (board : Board) → AllHaveBeats (reset_on board)
beats_reset board number client is = subst HaveBeats (changed_from reset_client board.clients number client is).2 (tt, tt)

-- and nothing is there at the start
pub beats_opening : (errors : Errors) (beginning : Beginning) → AllHaveBeats (opening_from errors beginning)
beats_opening errors beginning number client is =
    subst HaveBeats (sym (opening_at beginning.lists.config 0 beginning.lists.config.clients number client is).1) (tt, tt)
