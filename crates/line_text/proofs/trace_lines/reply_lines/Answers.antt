use Rattle.std.proofs.Common.{◌≡◌, ◌<◌, Err, length, arith, rules}
use Rattle.tl_messages.specs.Lines.{d_text}
use Rattle.line_text.proofs.Writings.{short_at_item}
use Rattle.line_text.proofs.trace_lines.reply_lines.Goals as goal

pub returns-in_err-d_line-clause-front : goal.returns-in_err-d_line-clause-front
returns-in_err-d_line-clause-front g c =
    let within : c.loop-beat.beat-index < length c.args.beats.now = omega (arith, c.loop-beat-test.true) in
    let same : c.from_residual.result ≡ Err c.in_err-d_line.field-0.0 = search rules in
    rw same
    (short_at_item (d_text c.args.client) c.args.beats.now c.loop-beat.beat-index _ (g.W.Write.contents c.args.writer.now) (g.W.Write.contents c.loop-beat.writer) (g.W.Write.contents c.d_line.new.writer) within c.loop-beat.invariant
    c.in_err-d_line.ensures.front)
