use Rattle.std.proofs.Common.{◌≡◌, Err, take, flat_map, rules}
use Rattle.std.proofs.KnownBytes.{Appends-trans}
use Rattle.bus_words.proofs.MappedPlaces.{flat_map-take}
use Rattle.axi_beats.specs.Boxes.{w_beats_of}
use Rattle.axi_beats.specs.Lines.{w_text}
use Rattle.line_text.proofs.Writings.{short_at}
use Rattle.line_text.proofs.trace_lines.w_lines.Goals as goal

pub loop-k-preserved : goal.loop-k-preserved
loop-k-preserved g c =
    let beats = w_beats_of c.args.burst.now in
    rw (flat_map-take w_text beats c.loop-k.k c.w.result c.w.ensures)
    (Appends-trans _ _ _ (flat_map w_text (take c.loop-k.k beats)) (w_text c.w.result) c.loop-k.invariant c.in_ok-w_line.ensures.all)

pub returns-in_err-w_line-clause-front : goal.returns-in_err-w_line-clause-front
returns-in_err-w_line-clause-front g c =
    let same : c.from_residual.result ≡ Err c.in_err-w_line.field-0.0 = search rules in
    rw same
    (short_at w_text (w_beats_of c.args.burst.now) c.loop-k.k c.w.result (g.W.Write.contents c.args.writer.now) (g.W.Write.contents c.loop-k.writer) (g.W.Write.contents c.w_line.new.writer) c.w.ensures c.loop-k.invariant
    c.in_err-w_line.ensures.front)
