-- The burst with the first serial of a queue is its oldest.
use Rattle.std.proofs.Common.{sym, ap, ◌∙◌}
use Rattle.subordinate.specs.Bursts.{is_found_ready, is_in}
use Rattle.subordinate.proofs.BurstIndex.{oldest_none, oldest_place}
use Rattle.subordinate.proofs.OpenBursts.{found_at, found_none}
use Rattle.subordinate.proofs.bursts.is_ready_at.Goals as goal

pub returns-in_default : goal.returns-in_default
returns-in_default c = λ queue is. sym (oldest_none queue c.args.bursts.now c.args.first is c.in_default.is).1

pub returns-in-Some-place_of : goal.returns-in-Some-place_of
returns-in-Some-place_of c = λ queue is.
    let place = sym (oldest_place queue c.args.bursts.now c.args.first c.in-Some.serial c.requires is c.in-Some.is) ∙ sym c.place_of.ensures ∙ c.in-Some-place_of.is in
    c.is_ready.ensures ∙ ap is_found_ready (sym (found_at (is_in queue) c.args.bursts.now c.in-Some-place_of.place c.index-bursts-place.result place c.index-bursts-place.is))

pub returns-in-None : goal.returns-in-None
returns-in-None c = λ queue is.
    let place = sym (oldest_place queue c.args.bursts.now c.args.first c.in-Some.serial c.requires is c.in-Some.is) ∙ sym c.place_of.ensures ∙ c.in-None.is in
    ap is_found_ready (sym (found_none (is_in queue) c.args.bursts.now place))
