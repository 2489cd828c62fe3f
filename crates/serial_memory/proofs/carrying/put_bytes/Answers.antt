-- Each turn puts one word, and there are as many as the request has.
use Rattle.std.proofs.Common.{◌≡◌, ◌/◌, ◌∙◌, ap, length, arith}
use Rattle.tl_messages.specs.Requests.{bytes_given}
use Rattle.sparse_memory.specs.SparseMemory.{bytes_in}
use Rattle.serial_memory.proofs.PutWords.{put_all, put_none}
use Rattle.serial_memory.proofs.RequestWords.{all_words}
use Rattle.serial_memory.proofs.Written.{written_none, written_then}
use Rattle.serial_memory.proofs.carrying.put_bytes.Goals as goal

pub loop-k-init : goal.loop-k-init
loop-k-init c = (written_none c.args.pages.now, put_none (bytes_in c.args.pages.now) c.args.address (bytes_given c.args.request.now))

pub put_beat-requires-clause-room : goal.put_beat-requires-clause-room
put_beat-requires-clause-room c = ap (λ rooms. rooms (c.args.address / 4096)) c.loop-k.invariant.0.rooms ∙ c.requires.room

pub loop-k-preserved : goal.loop-k-preserved
loop-k-preserved c = (written_then c.loop-k.invariant.0 c.put_beat.ensures.rest, c.put_beat.ensures.bytes (bytes_in c.args.pages.now) c.loop-k.invariant.1)

pub returns-clause-bytes : goal.returns-clause-bytes
returns-clause-bytes c =
    let all : c.loop-k.k ≡ length c.args.request.now.beats = omega (arith, c.loop-k-test.false, c.loop-k.auto.k-end, c.beats-k-end.ensures) in
    c.loop-k.invariant.1
    ∙ put_all c.args.request.now (bytes_in c.args.pages.now) c.args.address c.loop-k.k (all_words c.args.request.now c.loop-k.k c.requires.sound c.requires.data all)
