use Rattle.std.proofs.Common.{◌≡◌, ℕ, ◌-◌, ◌≤◌, ◌∙◌, arith, get_or}
use mir.Val.{bool_byte}
use Rattle.std.specs.Prelude.{nat_lt}
use Rattle.std.proofs.lemmas.Bool.Decides.{nat_tests}
use Rattle.flight_table.specs.Inside.{lowered_place}
use Rattle.flight_table.proofs.SlotPlaces.{lowered_all, lowered_next}
use Rattle.flight_table.proofs.slots.lower.Goals as goal

by_byte : (place other : ℕ) → other - bool_byte (nat_lt place other) ≡ lowered_place place other
by_byte place other = grind arith

fits : (place other : ℕ) → bool_byte (nat_lt place other) ≤ other
fits place other = grind (arith, nat_tests)

pub overflow_sub-other : goal.overflow_sub-other
overflow_sub-other c = rw c.from.ensures (fits c.args.place (get_or c.loop-other.places c.loop-other.other-index 0))

pub loop-other-preserved : goal.loop-other-preserved
loop-other-preserved c =
    let ps = c.loop-other.places in
    let n = c.loop-other.other-index in
    rw (c.from.ensures, by_byte c.args.place (get_or ps n 0)) (lowered_next n c.args.place c.args.places.now ps 0 c.loop-other.invariant (rw c.told-places c.loop-other-test.true))

pub returns : goal.returns
returns c = c.loop-other.invariant ∙ lowered_all c.loop-other.other-index c.args.place c.args.places.now (rw c.told-places c.loop-other-test.false)
