-- The limits are valid, and the first fault is that of the lists.
use Rattle.std.proofs.Common.{◌≡◌, ◌∙◌, None, Some, refl, sym}
use Rattle.burst_plan.specs.PageMap.{region_fault}
use Rattle.subordinate.specs.Faults.{device_fault}
use Rattle.score_setup.specs.ScoreSetups.{lists_of}
use Rattle.score_setup.proofs.ScoreSetupFaults.{fault_by_lists}
use Rattle.score_setup.proofs.score_setup_fault.Goals as goal

pub returns-in-Some : goal.returns-in-Some
returns-in-Some c =
    let setup = lists_of c.args.setup.now in
    let regions : region_fault setup.regions ≡ Some c.in-Some.fault = rw c.as_slice.ensures.value at (sym c.region_fault.ensures.value ∙ c.in-Some.is) in
    sym (fault_by_lists setup (sym c.is_valid.ensures ∙ c.if-not-is_valid.false) ∙ rw regions refl)

pub returns-in-Some-memory_fault : goal.returns-in-Some-memory_fault
returns-in-Some-memory_fault c =
    let setup = lists_of c.args.setup.now in
    let regions : region_fault setup.regions ≡ None = rw c.as_slice.ensures.value at (sym c.region_fault.ensures.value ∙ c.in_default.is) in
    let device : device_fault setup.pages setup.bad_words ≡ Some c.in-Some-memory_fault.fault =
    rw (c.as_slice-2.ensures.value, c.as_slice-3.ensures.value) at (sym c.memory_fault.ensures ∙ c.in-Some-memory_fault.is) in
    sym (fault_by_lists setup (sym c.is_valid.ensures ∙ c.if-not-is_valid.false) ∙ rw (regions, device) refl)

pub returns-in-None : goal.returns-in-None
returns-in-None c =
    let setup = lists_of c.args.setup.now in
    let regions : region_fault setup.regions ≡ None = rw c.as_slice.ensures.value at (sym c.region_fault.ensures.value ∙ c.in_default.is) in
    let device : device_fault setup.pages setup.bad_words ≡ None = rw (c.as_slice-2.ensures.value, c.as_slice-3.ensures.value) at (sym c.memory_fault.ensures ∙ c.in-None.is) in
    sym (fault_by_lists setup (sym c.is_valid.ensures ∙ c.if-not-is_valid.false) ∙ rw (regions, device) refl)
