-- The bytes so far are put.
use Rattle.std.proofs.Common.{◌≡◌, ℕ}
use Rattle.sparse_memory.specs.SparseMemory.{bytes_in, doubts_in, faults_in, has_room}
use Rattle.serial_memory.specs.InsideSerial.{filled_until}
use Rattle.serial_memory.specs.SerialMemory.{known_from}
use Rattle.serial_memory.proofs.filling.put_each.Given as goal

abbrev pub invariant-loop-k : goal.invariant-loop-k
invariant-loop-k l =
    (faults_in l.pages ≡ faults_in l.fn.pages)
    × (bytes_in l.pages ≡ filled_until (bytes_in l.fn.pages) l.fn.address l.fn.bytes l.k)
    × (doubts_in l.pages ≡ known_from (doubts_in l.fn.pages) l.fn.address l.k)
    × ((page : ℕ) → has_room l.pages page ≡ has_room l.fn.pages page)
