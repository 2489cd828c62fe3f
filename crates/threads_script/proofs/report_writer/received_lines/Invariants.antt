-- What the first clients received.
use Rattle.std.proofs.Common.{List, flat_map}
use Rattle.std.specs.Io.KnownBytes.{Appends}
use Rattle.std.specs.List.{range_with_len}
use Rattle.world.specs.World.{WorldState}
use Rattle.world.specs.declared.Step.{Step}
use Rattle.threads_script.specs.ReportTexts.{AreReceived, received_text}
use Rattle.threads_script.proofs.report_writer.received_lines.Given as goal

abbrev pub invariant-loop-client : goal.invariant-loop-client
invariant-loop-client g l =
    (start : WorldState) (steps : List Step) → AreReceived start steps l.receipts
    → Appends (g.W.Write.contents l.fn.writer) (g.W.Write.contents l.writer) (flat_map (received_text start steps) (range_with_len 0 l.client))
