-- The answer by the fault of a first beat; without one, its opcode tells whether the message carries data.
use Rattle.std.proofs.Common.{None, Ok, ap, sym, ◌∙◌, arith}
use Rattle.tl_checker.specs.Inside.{limits_of}
use Rattle.tl_checker.proofs.BeatRules.{first_none}
use Rattle.tl_checker.proofs.PortLaws.{judged-some, judged-none, first_progress, progress_at}
use Rattle.tl_checker.proofs.port.judge_first.Goals as goal

pub returns-in-Some : goal.returns-in-Some
returns-in-Some c client = sym (judged-some (limits_of client c.args.level c.args.max_size) None c.args.beat.now c.args.busy c.in-Some.rule (sym (c.first_beat_fault.ensures client) ∙ c.in-Some.is))

pub beats_of-requires : goal.beats_of-requires
beats_of-requires c = omega (arith, c.requires, (first_none (limits_of 0 c.args.level c.args.max_size) c.args.beat.now c.args.busy (sym (c.first_beat_fault.ensures 0) ∙ c.in_default.is)).0.size)

pub returns : goal.returns
returns c client =
    let limits = limits_of client c.args.level c.args.max_size in
    let none = sym (c.first_beat_fault.ensures client) ∙ c.in_default.is in
    ap Ok (c.progress.ensures ∙ ap (λ wanted. progress_at wanted 1) c.beats_of.ensures ∙ sym (first_progress limits c.args.beat.now c.args.busy none))
    ∙ sym (judged-none limits None c.args.beat.now c.args.busy none)
