-- The answer by the fault of a later beat, and by how many beats have come.
use Rattle.std.proofs.Common.{◌≡◌, ◌+◌, length, Some, Ok, ap, sym, ◌∙◌, arith}
use Rattle.tl_messages.specs.Operations.{has_data, beats_of}
use Rattle.tl_checker.proofs.PortLaws.{judged-some, judged-none, later_progress, progress_at}
use Rattle.tl_checker.proofs.port.judge_later.Goals as goal

pub returns-in-Some : goal.returns-in-Some
returns-in-Some c limits busy = sym (judged-some limits (Some c.args.held.now) c.args.beat.now busy c.in-Some.rule (sym (c.later_beat_fault.ensures limits busy) ∙ c.in-Some.is))

pub returns : goal.returns
returns c limits busy =
    let held = c.args.held.now in
    let wanted : c.beats_of.result ≡ beats_of held.size (has_data held.operation) = cc (c.beats_of.ensures, c.size.ensures.value, c.has_data.ensures, c.operation.ensures) in
    let came : c.from-came.result + 1 ≡ length held.beats + 1 = omega (arith, c.from-came.ensures, c.beats.ensures) in
    ap Ok (c.progress.ensures ∙ ap (λ n. progress_at n (c.from-came.result + 1)) wanted ∙ ap (progress_at (beats_of held.size (has_data held.operation))) came ∙ sym (later_progress held c.args.beat.now))
    ∙ sym (judged-none limits (Some held) c.args.beat.now busy (sym (c.later_beat_fault.ensures limits busy) ∙ c.in_default.is))
