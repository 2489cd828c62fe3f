use Rattle.std.proofs.Common.{take, flat_map}
use Rattle.std.specs.Io.KnownBytes.{Appends}
use Rattle.axi_beats.specs.Boxes.{w_beats_of}
use Rattle.axi_beats.specs.Lines.{w_text}
use Rattle.line_text.proofs.trace_lines.w_lines.Given as goal

abbrev pub invariant-loop-k : goal.invariant-loop-k
invariant-loop-k g l = Appends (g.W.Write.contents l.fn.writer) (g.W.Write.contents l.writer) (flat_map w_text (take l.k (w_beats_of l.burst)))
