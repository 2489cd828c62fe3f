use Rattle.std.proofs.Common.{◌≡◌, Err, flat_map, rules}
use Rattle.axi_beats.specs.Boxes.{w_beats_of}
use Rattle.axi_beats.specs.Lines.{aw_text, w_text}
use Rattle.line_text.proofs.TraceTexts.{held_text-write}
use Rattle.line_text.proofs.Writings.{on_behind, short_before}
use Rattle.line_text.proofs.trace_lines.burst_lines.Goals as goal

pub returns-in_err-aw_line-clause-front : goal.returns-in_err-aw_line-clause-front
returns-in_err-aw_line-clause-front g c =
    let same : c.from_residual.result ≡ Err c.in_err-aw_line.field-0.0 = search rules in
    rw (same, held_text-write c.args.burst.now c.aw.result c.aw.ensures)
    (short_before (aw_text c.aw.result) (flat_map w_text (w_beats_of c.args.burst.now)) (g.W.Write.contents c.args.writer.now) (g.W.Write.contents c.aw_line.new.writer) c.in_err-aw_line.ensures.front)

pub returns-clause-front : goal.returns-clause-front
returns-clause-front g c =
    rw (held_text-write c.args.burst.now c.aw.result c.aw.ensures)
    (on_behind (aw_text c.aw.result) (flat_map w_text (w_beats_of c.args.burst.now)) (g.W.Write.contents c.args.writer.now) (g.W.Write.contents c.aw_line.new.writer) (g.W.Write.contents c.w_lines.new.writer) c.w_lines.result
    c.in_ok-aw_line.ensures.all c.w_lines.ensures.front)
