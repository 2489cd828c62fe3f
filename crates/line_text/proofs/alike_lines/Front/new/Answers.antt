use Rattle.std.proofs.Common.{ap, ◌∙◌}
use Rattle.line_text.specs.Traces.{d_front}
use Rattle.line_text.proofs.AlikeLaws.{front_bytes}
use Rattle.line_text.proofs.alike_lines.Front.new.Goals as goal

pub returns : goal.returns
returns c =
    front_bytes c.args.client c.args.beat.now c.as_slice-line.result.now c.copy_from_slice.new.self _
    (c.as_slice-line.ensures ∙ c.d_front.ensures.is ∙ ap (d_front c.args.client c.args.beat.now) c.new-text.ensures) c.copy_from_slice.ensures.after
