-- The lanes in which the next R beat of a read tells bytes: those that its transfer covers (AXI4, A3.4.1).
use Rattle.std.specs.Prelude.{ℕ, ◌+◌, Bool, false, Option, None, Some}
use Rattle.axi_beats.specs.Transfers.{covers_lane}
use Rattle.axi_checker.specs.OpenBursts.{OpenRead}

abbrev pub covers_next : ℕ → Option OpenRead → ℕ → Bool
covers_next bus_bytes None lane = false
covers_next bus_bytes (Some read) lane = covers_lane bus_bytes read.ar.address read.ar.size (read.came + 1) lane
