-- A report's receipts are the replies handed out, and its text has three parts.
use Rattle.std.proofs.Common.{◌≡◌, ◌∙◌, flat_map, length, ap}
use Rattle.std.proofs.KnownBytes.{Appends-trans}
use Rattle.std.specs.List.{range_with_len}
use Rattle.world.specs.World.{opening_world}
use Rattle.threads_script.specs.ReportTexts.{received_text}
use Rattle.threads_script.proofs.ReceiptLemmas.{on_ok, received_of}
use Rattle.threads_script.proofs.report_writer.report_lines.Goals as goal

pub received_lines-requires-clause-received : goal.received_lines-requires-clause-received
received_lines-requires-clause-received g c =
    let report = c.args.report.now in
    let is = c.requires.1.1 in (
      opening_world c.requires.0,
      (report.steps.items, rw c.as_slice.ensures.value (received_of c.requires.0 c.requires.1.0 report.steps.items report.receipts.items report.world is)),
    )

pub returns : goal.returns
returns g c setup scripts is =
    let report = c.args.report.now in
    let start = opening_world setup in
    let received = received_of setup scripts report.steps.items report.receipts.items report.world is in
    let clients : length c.as_slice.result.now ≡ setup.config.clients = ap length c.as_slice.ensures.value ∙ is.as_many_receipts in
    let written = rw clients at (c.in_ok-received_lines.ensures start report.steps.items (rw c.as_slice.ensures.value received)) in
    on_ok c.byte_lines.result
    (λ bytes.
    Appends-trans _ _ _ _ _ c.in_ok-ok_line.ensures.all
    (Appends-trans _ _ _ (flat_map (received_text start report.steps.items) (range_with_len 0 setup.config.clients)) _ written bytes)) c.byte_lines.ensures
