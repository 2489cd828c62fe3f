-- Each W beat decides, or leaves it to those after it.
use Rattle.std.proofs.Common.{◌≡◌, true, false, sym, ◌∙◌, rules, arith}
use Rattle.std.proofs.lemmas.Grind.{common_steps}
use Rattle.axi_beats.specs.Boxes.{w_beats_of}
use Rattle.axi_checker.specs.OpenBursts.{OpenWrite, lacks_data}
use Rattle.axi_checker.proofs.DataBeats.{data_fault-broken, data_fault-next, data_fault-past}
use Rattle.axi_checker.proofs.rules.PortLimits.first_data_fault.Goals as goal

pub returns-then-not-lacks_data : goal.returns-then-not-lacks_data
returns-then-not-lacks_data c =
    let write : OpenWrite = record { aw = c.args.aw; came = c.loop-came.came } in
    let full : lacks_data write ≡ false = search rules in
    sym (data_fault-past c.args.self write (w_beats_of c.args.burst.now) c.loop-came.came (search rules) full) ∙ c.loop-came.invariant

pub returns-in-Some : goal.returns-in-Some
returns-in-Some c =
    let write : OpenWrite = record { aw = c.args.aw; came = c.loop-came.came } in
    let lacks : lacks_data write ≡ true = search rules in
    sym (data_fault-broken c.args.self write (w_beats_of c.args.burst.now) c.loop-came.came c.w.result c.in-Some.rule c.w.ensures lacks (sym c.data_fault.ensures ∙ c.in-Some.is))
    ∙ c.loop-came.invariant

pub loop-came-preserved : goal.loop-came-preserved
loop-came-preserved c =
    let write : OpenWrite = record { aw = c.args.aw; came = c.loop-came.came } in
    let lacks : lacks_data write ≡ true = search rules in
    sym (data_fault-next c.args.self write (w_beats_of c.args.burst.now) c.loop-came.came c.w.result c.w.ensures lacks (sym c.data_fault.ensures ∙ c.in_default.is)) ∙ c.loop-came.invariant

pub returns : goal.returns
returns c = grind (arith, common_steps)
