-- Memories of which only bytes differ.
use Rattle.std.proofs.Common.{refl, ◌∙◌}
use Rattle.sparse_memory.specs.SparseMemory.{SparseState}
use Rattle.serial_memory.specs.InsideSerial.{IsWrittenAlone}

pub written_none : (state : SparseState) → IsWrittenAlone state state
written_none state = record { faults = refl; doubts = refl; rooms = refl }

pub written_then : {old between new : SparseState} → IsWrittenAlone old between → IsWrittenAlone between new → IsWrittenAlone old new
written_then first next = record { faults = next.faults ∙ first.faults; doubts = next.doubts ∙ first.doubts; rooms = next.rooms ∙ first.rooms }
