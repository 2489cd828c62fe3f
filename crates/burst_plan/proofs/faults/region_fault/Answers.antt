use Rattle.std.proofs.Common.{◌≡◌, ◌↔◌, None, subst, arith}
use Rattle.std.proofs.lemmas.Grind.{common_steps}
use Rattle.burst_plan.specs.PageMap.{region_fault, IsPageMap}
use Rattle.burst_plan.proofs.FaultLaws.{region_fault-none, region_fault-some}
use Rattle.burst_plan.proofs.faults.region_fault.Goals as goal

pub returns-then-is_some-clause-none : goal.returns-then-is_some-clause-none
returns-then-is_some-clause-none c =
    let e : c.fault_of_region-fault.result ≡ region_fault c.args.regions.now = grind (arith, common_steps) in
    rw e (region_fault-none c.args.regions.now)

pub returns-then-is_some-clause-first : goal.returns-then-is_some-clause-first
returns-then-is_some-clause-first c =
    let e : c.fault_of_region-fault.result ≡ region_fault c.args.regions.now = grind (arith, common_steps) in
    rw e (region_fault-some c.args.regions.now)

pub returns-clause-none : goal.returns-clause-none
returns-clause-none c =
    let e : region_fault c.args.regions.now ≡ None = grind (arith, common_steps) in
    subst (λ result. (result ≡ None) ↔ IsPageMap c.args.regions.now) e (region_fault-none c.args.regions.now)
