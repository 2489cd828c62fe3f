use Rattle.std.proofs.Common.{take, flat_map}
use Rattle.std.specs.Io.KnownBytes.{Appends}
use Rattle.tl_messages.specs.Lines.{d_text}
use Rattle.line_text.proofs.trace_lines.reply_lines.Given as goal

abbrev pub invariant-loop-beat : goal.invariant-loop-beat
invariant-loop-beat g l = Appends (g.W.Write.contents l.fn.writer) (g.W.Write.contents l.writer) (flat_map (d_text l.client) (take l.beat-index l.beats))
