-- Gets and atomics gather the words of their range.
use Rattle.std.proofs.Common.{sym, ◌∙◌, ap}
use Rattle.tl_messages.specs.Operations.{reply_has_data}
use Rattle.tl_messages.specs.Requests.{request_of}
use Rattle.responses.specs.Gathered.{GatherState, gathered, outline_of}
use Rattle.meaning.proofs.SerialReplies.{is_put}
use Rattle.serial_memory.proofs.RequestWords.{range}
use Rattle.serial_memory.proofs.WordReads.{reply_of_words}
use Rattle.serial_memory.proofs.carrying.perform.Goals as goal

pub read_words-requires-clause-range : goal.read_words-requires-clause-range
read_words-requires-clause-range c = rw c.size.ensures.value (range c.args.request.now c.args.address c.requires.sound c.requires.same_byte)

pub returns-in-Get-clause-reply : goal.returns-in-Get-clause-reply
returns-in-Get-clause-reply c =
    let is = sym c.operation.ensures ∙ c.in-Get.is in
    ap (λ (s : GatherState). gathered (outline_of (request_of c.args.request.now)) s.gathering) c.read_words.ensures
    ∙ rw (c.requires.fresh.outline, c.requires.fresh.gathering)
    (reply_of_words c.args.pages.now (request_of c.args.request.now) c.args.request.now.operation c.args.address (ap reply_has_data is) (ap is_put is) c.requires.sound.2.atomic_size
    (range c.args.request.now c.args.address c.requires.sound c.requires.same_byte) c.requires.sound.2.aligned c.requires.same_byte)

pub returns-in-Atomic-clause-reply : goal.returns-in-Atomic-clause-reply
returns-in-Atomic-clause-reply c =
    let is = sym c.operation.ensures ∙ c.in-Atomic.is in
    ap (λ (s : GatherState). gathered (outline_of (request_of c.args.request.now)) s.gathering) c.change.ensures.gather
    ∙ rw (c.requires.fresh.outline, c.requires.fresh.gathering)
    (reply_of_words c.args.pages.now (request_of c.args.request.now) c.args.request.now.operation c.args.address (ap reply_has_data is) (ap is_put is) c.requires.sound.2.atomic_size
    (range c.args.request.now c.args.address c.requires.sound c.requires.same_byte) c.requires.sound.2.aligned c.requires.same_byte)
