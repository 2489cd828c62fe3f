-- The bridge takes the R.
use Rattle.std.proofs.Common.{◌∙◌, arith, refl, subst, sym}
use Rattle.std.specs.Prelude.{IsOk, IsSome}
use Rattle.world.proofs.Passing.{never_faults, paired_more, paired_r, world_of}
use Rattle.world.proofs.TakesAll.{r_unbroken}
use Rattle.world.proofs.parts.give_r.Goals as goal

pub unreachable-requires : goal.unreachable-requires
unreachable-requires c =
    let here = sym c.answer_r.ensures.answer ∙ c.in_ok-beat.was in
    never_faults _ c.on_r.result c.in_default.field-0 (r_unbroken (world_of c.args.bridge.now.state c.args.device.now.memory) c.args.id c.in_ok-beat.beat c.requires.agree here) c.in_default.is c.on_r.ensures.answer

pub returns-then-not-beat-clause-paired : goal.returns-then-not-beat-clause-paired
returns-then-not-beat-clause-paired c =
    let here = sym c.answer_r.ensures.answer ∙ c.in_ok-beat.was in
    let answered = c.answer_r.ensures.closed (subst IsSome (sym c.in_ok-beat.was) refl) in
    let taken = c.on_r.ensures.taken (subst IsOk (sym c.in-Ok.is) refl) in
    rw (taken, answered)
    (paired_more c.args.bridge.now c.args.device.now c.args.id c.in_ok-beat.beat c.requires here (grind (arith, c.if-not-beat.true)) (rw taken at c.on_r.ensures.laws) (rw answered at c.answer_r.ensures.laws))

pub returns-clause-paired : goal.returns-clause-paired
returns-clause-paired c =
    let here = sym c.answer_r.ensures.answer ∙ c.in_ok-beat.was in
    let answered = c.answer_r.ensures.closed (subst IsSome (sym c.in_ok-beat.was) refl) in
    let taken = c.on_r.ensures.taken (subst IsOk (sym c.in-Ok.is) refl) in
    rw (c.take_back.ensures.bridge, c.take_back.ensures.device, taken, answered)
    (paired_r c.args.bridge.now c.args.device.now c.args.id c.in_ok-beat.beat c.requires here (rw taken at c.on_r.ensures.laws) (rw answered at c.answer_r.ensures.laws))
