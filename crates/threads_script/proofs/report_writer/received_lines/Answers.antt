-- One client more: its line, and its replies.
use Rattle.std.proofs.Common.{◌≡◌, Some, flat_map, length, refl}
use Rattle.std.specs.Prelude.{slice_get}
use Rattle.std.specs.List.{range_with_len}
use Rattle.std.proofs.KnownBytes.{Appends-trans}
use Rattle.std.proofs.lemmas.Option.{slice_get_read}
use Rattle.thread_reports.specs.Reports.{handed_to}
use Rattle.threads_script.specs.ReportTexts.{received_text}
use Rattle.threads_script.proofs.ReceiptLemmas.{one_more}
use Rattle.threads_script.proofs.report_writer.received_lines.Goals as goal

pub loop-client-preserved : goal.loop-client-preserved
loop-client-preserved g c start steps are =
    let client = c.loop-client.client in
    let receipts = c.args.receipts.now in
    let here : slice_get receipts client ≡ Some c.index-receipts-client.result = slice_get_read receipts (length receipts) client c.index-receipts-client.result refl c.loop-client-test.true c.index-receipts-client.is in
    let replies = c.in_ok-receipt_lines.ensures (handed_to client start steps) (are client c.index-receipts-client.result here) in
    rw (one_more (received_text start steps) client)
    (Appends-trans _ _ _ (flat_map (received_text start steps) (range_with_len 0 client)) (received_text start steps client) (c.loop-client.invariant start steps are)
    (Appends-trans _ _ _ _ _ c.in_ok-client_line.ensures.all replies))
