-- The bytes of the beats so far are put.
use Rattle.std.proofs.Common.{◌≡◌, ◌+◌, ◌*◌}
use Rattle.tl_messages.specs.Requests.{bytes_given}
use Rattle.sparse_memory.specs.SparseMemory.{bytes_in}
use Rattle.serial_memory.specs.InsideSerial.{IsWrittenAlone, put_below}
use Rattle.serial_memory.proofs.carrying.put_bytes.Given as goal

abbrev pub invariant-loop-k : goal.invariant-loop-k
invariant-loop-k l = IsWrittenAlone l.fn.pages l.pages × (bytes_in l.pages ≡ put_below (l.fn.address + l.k * 8) (bytes_in l.fn.pages) l.fn.address (bytes_given l.fn.request))
