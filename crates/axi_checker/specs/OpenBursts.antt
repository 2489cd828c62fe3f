-- The bursts that are outstanding on a port, in the order of their addresses (AXI4, A5, transaction ordering).
use Rattle.std.specs.Prelude.{ℕ, ◌+◌, ◌==◌, Bool, List, [], ◌∷◌, ◌++◌, Option, find, if◌then◌else◌, length, nat_lt, nat_le}
use Rattle.bus_words.specs.Places.{change_first, without_first}
use Rattle.axi_beats.specs.declared.AwBeat.{AwBeat}
use Rattle.axi_beats.specs.declared.ArBeat.{ArBeat}
use Rattle.axi_checker.specs.declared.AxiBeat.{AxiBeat}
use Rattle.axi_checker.specs.declared.AxiBeat.TheVariants.{Aw as OnAw, W as OnW, B as OnB, Ar as OnAr, R as OnR}

-- a write without its B, and how many of its W beats came
pub record OpenWrite : Type 0 where
  pub aw : AwBeat
  pub came : ℕ

-- a read without its last R, and how many of its R beats came
pub record OpenRead : Type 0 where
  pub ar : ArBeat
  pub came : ℕ

-- what a monitor knows: the open writes and the open reads, the oldest first
pub record OpenBursts : Type 0 where
  pub writes : List OpenWrite
  pub reads : List OpenRead

-- nothing is outstanding
abbrev pub nothing_open : OpenBursts
nothing_open = record { writes = []; reads = [] }

-- whether W beats of the write are still to come
abbrev pub lacks_data : OpenWrite → Bool
lacks_data write = nat_le write.came write.aw.len

-- whether a write has this ID
abbrev pub write_of_id : ℕ → OpenWrite → Bool
write_of_id id write = write.aw.id == id

-- whether a read has this ID
abbrev pub read_of_id : ℕ → OpenRead → Bool
read_of_id id read = read.ar.id == id

-- the oldest write that lacks data: the next W beat is its
abbrev pub write_to_fill : OpenBursts → Option OpenWrite
write_to_fill open_bursts = find lacks_data open_bursts.writes

-- the oldest write of an ID: the next B of the ID is its
abbrev pub oldest_write : ℕ → OpenBursts → Option OpenWrite
oldest_write id open_bursts = find (write_of_id id) open_bursts.writes

-- the oldest read of an ID: the next R beat of the ID is its
abbrev pub oldest_read : ℕ → OpenBursts → Option OpenRead
oldest_read id open_bursts = find (read_of_id id) open_bursts.reads

-- the reads after an R beat of the ID; the last one closes its read
abbrev pub reads_after : ℕ → List OpenRead → List OpenRead
reads_after id [] = []
reads_after id (read ∷ reads) =
    if read_of_id id read
    then (if nat_lt read.came read.ar.len then record read { came = read.came + 1 } ∷ reads else reads)
    else read ∷ reads_after id reads

-- the open bursts after a legal beat
abbrev pub open_after : OpenBursts → AxiBeat → OpenBursts
open_after open_bursts (OnAw aw) = record open_bursts { writes = open_bursts.writes ++ record { aw = aw; came = 0 } ∷ [] }
open_after open_bursts (OnW w) = record open_bursts { writes = change_first lacks_data (λ write. record write { came = write.came + 1 }) open_bursts.writes }
open_after open_bursts (OnB b) = record open_bursts { writes = without_first (write_of_id b.id) open_bursts.writes }
open_after open_bursts (OnAr ar) = record open_bursts { reads = open_bursts.reads ++ record { ar = ar; came = 0 } ∷ [] }
open_after open_bursts (OnR r) = record open_bursts { reads = reads_after r.id open_bursts.reads }

-- how many bursts are outstanding, on both sides
abbrev pub open_count : OpenBursts → ℕ
open_count open_bursts = length open_bursts.writes + length open_bursts.reads
