-- The memory takes the burst that goes.
use Rattle.std.proofs.Common.{Some, ◌∙◌, refl, sym, ap, subst}
use Rattle.std.specs.Prelude.{IsSome}
use Rattle.world.proofs.Agreeing.{serials_left}
use Rattle.world.proofs.Boxes.{box_in_stock}
use Rattle.world.proofs.Passing.{next_in, paired_sent}
use Rattle.world.proofs.parts.send.Goals as goal

pub pump_box-requires : goal.pump_box-requires
pump_box-requires c = box_in_stock c.args.bridge.now c.args.device.now c.requires

pub send_box-requires-clause-serial : goal.send_box-requires-clause-serial
send_box-requires-clause-serial c = serials_left c.args.bridge.now.state c.args.device.now.memory c.requires.agree

pub unreachable-requires : goal.unreachable-requires
unreachable-requires c =
    let next = next_in c.args.bridge.now.state c.args.device.now.memory c.in_ok-burst.burst c.requires.agree (sym c.in_ok-burst.was ∙ c.pump_box.ensures.burst) in
    let told = rw (next.held, c.in_default.is) at c.send_box.ensures.answer in
    absurd (cc (next.well.taken, told.0))

pub returns-clause-sent : goal.returns-clause-sent
returns-clause-sent c =
    let next = next_in c.args.bridge.now.state c.args.device.now.memory c.in_ok-burst.burst c.requires.agree (sym c.in_ok-burst.was ∙ c.pump_box.ensures.burst) in
    let told = rw (next.held, c.in-Ok.is) at c.send_box.ensures.answer in
    let state = c.pump_box.ensures.sent (subst IsSome (sym c.in_ok-burst.was) refl) in
    rw next.next (ap Some told.1, ap (λ b. b.state) state, ap (λ d. d.memory) told.2)

pub returns-clause-paired : goal.returns-clause-paired
returns-clause-paired c =
    let next = next_in c.args.bridge.now.state c.args.device.now.memory c.in_ok-burst.burst c.requires.agree (sym c.in_ok-burst.was ∙ c.pump_box.ensures.burst) in
    let told = rw (next.held, c.in-Ok.is) at c.send_box.ensures.answer in
    let state = c.pump_box.ensures.sent (subst IsSome (sym c.in_ok-burst.was) refl) in
    rw (state, told.2) (paired_sent c.args.bridge.now c.args.device.now next.burst c.requires next.next (rw state at c.pump_box.ensures.laws) (rw told.2 at c.send_box.ensures.laws))
