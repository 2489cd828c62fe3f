-- The transfers of each outstanding read fit the bus, and the next one is one of them.
use Rattle.std.proofs.Common.{◌≡◌, Some, sym, arith}
use Rattle.std.proofs.lemmas.Grind.{common_steps}
use Rattle.std.specs.Prelude.{find}
use Rattle.bus_words.proofs.PlaceChanges.{all-find}
use Rattle.axi_checker.specs.Monitors.{IsSoundRead}
use Rattle.axi_checker.specs.OpenBursts.{read_of_id}
use Rattle.axi_checker.proofs.monitor.Monitor.read_lanes.Goals as goal

pub next_lanes-requires-clause-size : goal.next_lanes-requires-clause-size
next_lanes-requires-clause-size g c =
    let reads = c.self.inside.reads.items in
    let found : find (read_of_id c.args.id) reads ≡ Some c.in_ok-read.read = sym c.in_ok-read.ensures.read in
    (all-find (IsSoundRead c.self.inside.limits.bus_bytes) (read_of_id c.args.id) reads c.in_ok-read.read c.self.invariant.within.sound_reads found).fits

pub next_lanes-requires-clause-more : goal.next_lanes-requires-clause-more
next_lanes-requires-clause-more g c =
    let reads = c.self.inside.reads.items in
    let found : find (read_of_id c.args.id) reads ≡ Some c.in_ok-read.read = sym c.in_ok-read.ensures.read in
    (all-find (IsSoundRead c.self.inside.limits.bus_bytes) (read_of_id c.args.id) reads c.in_ok-read.read c.self.invariant.within.sound_reads found).came

pub returns-clause-lanes : goal.returns-clause-lanes
returns-clause-lanes g c = grind (arith, common_steps)
