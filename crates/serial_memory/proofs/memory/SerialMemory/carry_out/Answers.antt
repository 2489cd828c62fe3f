-- The box shows what was gathered.
use Rattle.std.proofs.Common.{sym, ◌∙◌, ap}
use Rattle.tl_messages.specs.Requests.{request_of}
use Rattle.responses.specs.Gathered.{gathered}
use Rattle.responses.specs.Shown.{Reply, shown}
use Rattle.responses.specs.declared.gather.Outline.{Outline}
use Rattle.serial_memory.specs.SerialMemory.{MemoryState, meaning_in, memory_of}
use Rattle.serial_memory.proofs.memory.SerialMemory.carry_out.Goals as goal

pub returns-clause-reply : goal.returns-clause-reply
returns-clause-reply c =
    c.reply_into.ensures.shown (request_of c.args.request.now) (sym c.answer.ensures.outline)
    ∙ ap (λ (o : Outline). shown (request_of c.args.request.now) (gathered o c.answer.new.gather.gathering)) c.answer.ensures.outline
    ∙ ap (λ (r : Reply). shown (request_of c.args.request.now) r) c.answer.ensures.reply
    ∙ ap (λ (s : MemoryState). shown (request_of c.args.request.now) (meaning_in (memory_of s) (request_of c.args.request.now)).reply) c.self.view_is
