use Rattle.std.proofs.Common.{◌≢◌, ◌≤◌, length}
use Rattle.std.specs.Io.KnownBytes.{Keeps}
use Rattle.script_text.specs.Reads.{IsOneLine, IsSmall, Takes}
use Rattle.script_text.proofs.reader.Block.take_parts.Given as goal

abbrev pub invariant-loop : goal.invariant-loop
invariant-loop g l =
    IsOneLine l.line.items × (l.counter ≤ length l.line.items) × (length l.line.items ≤ 129) × (l.counter ≢ 0 → IsSmall l.self)
    × Takes l.fn.self l.self (g.R.Read.remaining l.fn.reader) (g.R.Read.remaining l.reader) l.line.items
    × Keeps (g.W.Write.contents l.fn.writer) (g.W.Write.contents l.writer)
