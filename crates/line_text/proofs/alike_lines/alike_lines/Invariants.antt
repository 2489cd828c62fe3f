use Rattle.std.proofs.Common.{take, flat_map}
use Rattle.tl_messages.specs.Lines.{d_text}
use Rattle.line_text.specs.Writing.{WritesSome}
use Rattle.line_text.proofs.alike_lines.alike_lines.Given as goal

abbrev pub invariant-loop-beat : goal.invariant-loop-beat
invariant-loop-beat g l = WritesSome (flat_map (d_text l.client) (take l.beat-index l.beats)) l.lines (g.W.Write.contents l.fn.writer) (g.W.Write.contents l.writer)
