-- What was written is the text of the first replies, and what is left are the beats of the others.
use Rattle.std.proofs.Common.{◌≡◌, List, drop, flat_map, take}
use Rattle.std.specs.Io.KnownBytes.{Appends}
use Rattle.world_run.specs.Runs.{HandedReply}
use Rattle.thread_reports.specs.Reports.{AreReceiptsOf, beats_of_all}
use Rattle.threads_script.specs.ReportTexts.{receipt_text}
use Rattle.threads_script.proofs.report_writer.receipt_lines.Given as goal

abbrev pub invariant-loop-head : goal.invariant-loop-head
invariant-loop-head g l =
    (replies : List HandedReply) → AreReceiptsOf l.receipts replies
    → (l.rest ≡ beats_of_all (drop l.head-index replies))
    × Appends (g.W.Write.contents l.fn.writer) (g.W.Write.contents l.writer) (flat_map (receipt_text l.client) (take l.head-index replies))
