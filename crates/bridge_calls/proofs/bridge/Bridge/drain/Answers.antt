-- The steps of a drain keep the order; reply and answer stay, and all else is what the world's drain tells.
use Rattle.std.proofs.Common.{List, ap, subst}
use Rattle.tl_messages.specs.declared.DBeat.{DBeat}
use Rattle.world.specs.World.{WorldState}
use Rattle.world.specs.declared.Answer.{Answer}
use Rattle.bridge_calls.specs.Bridges.{AfterDrain, BridgeState}
use Rattle.bridge_calls.proofs.Choosing.{led_keeps}
use Rattle.bridge_calls.proofs.bridge.Bridge.drain.Goals as goal

abbrev bridge : WorldState → List DBeat → Answer → BridgeState
bridge world reply last = record { world = world; reply = reply; last = last }

pub returns : goal.returns
returns c =
    let old = c.self.inside in
    let new = c.drain.new.self in
    let did = c.drain.ensures in
    subst (λ (b : BridgeState). AfterDrain b c.drain.result (bridge new old.reply old.last)) c.self.view_is
    (record {
      answer = did.answer;
      state = ap (λ (w : WorldState). bridge w old.reply old.last) did.state;
      drains = did.drains;
      leads = did.leads;
      laws = did.laws;
      order = λ order keeps. led_keeps order c.drain.result old.world new did.leads did.laws keeps;
    })
