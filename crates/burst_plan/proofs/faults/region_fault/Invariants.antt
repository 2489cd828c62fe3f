use Rattle.std.proofs.Common.{◌≡◌, drop, take}
use Rattle.bus_words.specs.Tables.{first_broken}
use Rattle.burst_plan.specs.PageMap.{region_fault, rules_of_regions}
use Rattle.burst_plan.proofs.faults.region_fault.Given as goal

-- the regions gone by break no rule
abbrev pub invariant-loop-i : goal.invariant-loop-i
invariant-loop-i l = region_fault l.regions ≡ first_broken (rules_of_regions (take l.i l.regions) l.i (drop l.i l.regions))
