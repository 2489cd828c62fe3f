-- A write that breaks no rule is legal, whatever else is open, and a legal one within the limits breaks none.
use Rattle.std.proofs.Common.{sym, ◌∙◌}
use Rattle.axi_checker.proofs.Judging.{held_aw, judged_beside, writes_alike, writes_alike-ready}
use Rattle.axi_checker.proofs.LegalBursts.{judged_legal}
use Rattle.axi_checker.proofs.Taking.{judged_taken}
use Rattle.axi_checker.proofs.rules.PortLimits.burst_fault.Goals as goal

pub returns-then-is_write-clause-legal : goal.returns-then-is_write-clause-legal
returns-then-is_write-clause-legal c = λ none.
    let held = c.args.burst.now in
    let found = held_aw held (sym c.is_write.ensures ∙ c.if-is_write.true) in
    let alike = writes_alike found.0 c.args.outstanding in
    let ready = writes_alike-ready found.0 c.args.outstanding in
    judged_legal c.args.self alike held c.write_fault.result ready
    (judged_beside c.args.self held found.0 c.args.outstanding c.write_fault.result found.1 (c.write_fault.ensures.rule alike ready)) c.write_fault.ensures.len none

pub returns-then-is_write-clause-takes : goal.returns-then-is_write-clause-takes
returns-then-is_write-clause-takes c =
    let held = c.args.burst.now in
    let found = held_aw held (sym c.is_write.ensures ∙ c.if-is_write.true) in
    let alike = writes_alike found.0 c.args.outstanding in
    let ready = writes_alike-ready found.0 c.args.outstanding in
    judged_taken c.args.self held found.0 c.args.outstanding c.write_fault.result found.1
    (judged_beside c.args.self held found.0 c.args.outstanding c.write_fault.result found.1 (c.write_fault.ensures.rule alike ready))
