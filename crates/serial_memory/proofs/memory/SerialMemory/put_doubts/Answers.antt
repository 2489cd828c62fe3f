-- Bytes and rooms stay.
use Rattle.std.proofs.Common.{ap, ◌∙◌}
use Rattle.std.proofs.Math.Path.{fun_ext}
use Rattle.serial_memory.specs.SerialMemory.{rooms_of}
use Rattle.serial_memory.proofs.memory.SerialMemory.put_doubts.Goals as goal

pub returns-clause-rooms : goal.returns-clause-rooms
returns-clause-rooms c = fun_ext (λ page. c.put_doubts.ensures.room page) ∙ ap rooms_of c.self.view_is
