-- One range more is counted.
use Rattle.std.proofs.Common.{sym, ◌∙◌, arith}
use Rattle.sparse_memory.proofs.CountedPages.{counted-all, counted-fault, counted-few, counted-more, counted-none}
use Rattle.sparse_memory.proofs.ranges.page_fault.Goals as goal

pub loop-place-init : goal.loop-place-init
loop-place-init c = counted-none c.args.ranges.now

pub fault_in-requires : goal.fault_in-requires
fault_in-requires c = counted-few c.args.ranges.now c.loop-place.place c.loop-place.counted c.loop-place.invariant

pub returns-in-Some : goal.returns-in-Some
returns-in-Some c =
    sym (counted-fault c.args.ranges.now c.loop-place.place c.loop-place.counted _ c.loop-place-test.true c.loop-place.invariant c.in-Some.fault (sym c.fault_in.ensures ∙ c.in-Some.is))

pub overflow_add-counted : goal.overflow_add-counted
overflow_add-counted c =
    let more = counted-more c.args.ranges.now c.loop-place.place c.loop-place.counted _ c.loop-place-test.true c.loop-place.invariant (sym c.fault_in.ensures ∙ c.in_default.is) in
    omega (arith, counted-few c.args.ranges.now _ _ more)

pub loop-place-preserved : goal.loop-place-preserved
loop-place-preserved c = counted-more c.args.ranges.now c.loop-place.place c.loop-place.counted _ c.loop-place-test.true c.loop-place.invariant (sym c.fault_in.ensures ∙ c.in_default.is)

pub returns : goal.returns
returns c = sym (counted-all c.args.ranges.now c.loop-place.place c.loop-place.counted c.loop-place-test.false c.loop-place.invariant)
