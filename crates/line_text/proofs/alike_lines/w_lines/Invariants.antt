use Rattle.std.proofs.Common.{take, flat_map}
use Rattle.axi_beats.specs.Boxes.{w_beats_of}
use Rattle.axi_beats.specs.Lines.{w_text}
use Rattle.line_text.specs.Writing.{WritesSome}
use Rattle.line_text.proofs.alike_lines.w_lines.Given as goal

abbrev pub invariant-loop-k : goal.invariant-loop-k
invariant-loop-k g l = WritesSome (flat_map w_text (take l.k (w_beats_of l.burst))) l.lines (g.W.Write.contents l.fn.writer) (g.W.Write.contents l.writer)
