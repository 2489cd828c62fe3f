-- AXI4's ordering (AXI4, A5, transaction ordering), as a law of a whole history of beats: what came, and what outstanding bursts still
-- owe, is together what the addresses asked for, in their order. Data are seen by their `last` flags.
use Rattle.std.specs.Prelude.{◌≡◌, ℕ, ◌+◌, ◌-◌, ◌==◌, Bool, false, List, [], ◌∷◌, ◌++◌, filter, flat_map, length, map, if◌then◌else◌}
use Rattle.std.specs.List.{range_with_len}
use Rattle.axi_checker.specs.OpenBursts.{OpenBursts, OpenRead, OpenWrite, read_of_id, write_of_id}
use Rattle.axi_checker.specs.declared.AxiBeat.{AxiBeat}
use Rattle.axi_checker.specs.declared.AxiBeat.TheVariants.{Aw as OnAw, W as OnW, B as OnB, Ar as OnAr, R as OnR}

-- the `last` flags of a burst's transfers from number `came` on, counted from 0
abbrev pub lasts_from : ℕ → ℕ → List Bool
lasts_from came len = map (λ k. k == len) (range_with_len came (len + 1 - came))

-- what the reads of an ID still owe, the oldest first
abbrev pub reads_owe : ℕ → List OpenRead → List Bool
reads_owe id [] = []
reads_owe id (read ∷ reads) = if read_of_id id read then lasts_from read.came read.ar.len ++ reads_owe id reads else reads_owe id reads

-- what the writes still lack, the oldest first
abbrev pub writes_lack : List OpenWrite → List Bool
writes_lack [] = []
writes_lack (write ∷ writes) = lasts_from write.came write.aw.len ++ writes_lack writes

-- the R beats that an address asks for under an ID
abbrev pub reads_asked : ℕ → AxiBeat → List Bool
reads_asked id (OnAw aw) = []
reads_asked id (OnW w) = []
reads_asked id (OnB b) = []
reads_asked id (OnAr ar) = if ar.id == id then lasts_from 0 ar.len else []
reads_asked id (OnR r) = []

-- the R beat that a beat gives under an ID
abbrev pub read_given : ℕ → AxiBeat → List Bool
read_given id (OnAw aw) = []
read_given id (OnW w) = []
read_given id (OnB b) = []
read_given id (OnAr ar) = []
read_given id (OnR r) = if r.id == id then r.last ∷ [] else []

-- the W beats that an address announces
abbrev pub data_announced : AxiBeat → List Bool
data_announced (OnAw aw) = lasts_from 0 aw.len
data_announced (OnW w) = []
data_announced (OnB b) = []
data_announced (OnAr ar) = []
data_announced (OnR r) = []

-- the W beat that a beat is
abbrev pub data_given : AxiBeat → List Bool
data_given (OnAw aw) = []
data_given (OnW w) = w.last ∷ []
data_given (OnB b) = []
data_given (OnAr ar) = []
data_given (OnR r) = []

-- whether a beat is the address of a write of an ID
abbrev pub opens_write : ℕ → AxiBeat → Bool
opens_write id (OnAw aw) = aw.id == id
opens_write id (OnW w) = false
opens_write id (OnB b) = false
opens_write id (OnAr ar) = false
opens_write id (OnR r) = false

-- whether a beat is the response to a write of an ID
abbrev pub closes_write : ℕ → AxiBeat → Bool
closes_write id (OnAw aw) = false
closes_write id (OnW w) = false
closes_write id (OnB b) = b.id == id
closes_write id (OnAr ar) = false
closes_write id (OnR r) = false

-- a history, and the bursts that it leaves outstanding
pub record IsInOrder (history : List AxiBeat) (left : OpenBursts) : Type 0 where
  -- read data of one ID come in the order of its addresses
  pub reads : (id : ℕ) → flat_map (read_given id) history ++ reads_owe id left.reads ≡ flat_map (reads_asked id) history
  -- write data come in the order of the write addresses
  pub write_data : flat_map data_given history ++ writes_lack left.writes ≡ flat_map data_announced history
  -- each response answers one write of its ID
  pub responses : (id : ℕ) → length (filter (closes_write id) history) + length (filter (write_of_id id) left.writes) ≡ length (filter (opens_write id) history)
