-- The W beats so far break no rule: the first rule broken is that of the beats from here on.
use Rattle.std.proofs.Common.{◌≡◌, drop}
use Rattle.axi_beats.specs.Boxes.{w_beats_of}
use Rattle.axi_checker.specs.Monitors.{first_data_fault}
use Rattle.axi_checker.proofs.rules.PortLimits.first_data_fault.Given as goal

abbrev pub invariant-loop-came : goal.invariant-loop-came
invariant-loop-came l =
    first_data_fault l.self (record { aw = l.aw; came = l.came }) (drop l.came (w_beats_of l.burst)) ≡ first_data_fault l.self (record { aw = l.aw; came = 0 }) (w_beats_of l.burst)
