use Rattle.std.proofs.Common.{ap, length, sym, ◌∙◌}
use Rattle.world.specs.World.{enabled}
use Rattle.bridge_calls.specs.Bridges.{BridgeState, asked_of}
use Rattle.bridge_calls.specs.declared.kinds.CallKind.{CallKind}
use Rattle.bridge_calls.proofs.bridge.Bridge.asked.Goals as goal

pub returns-in-Choices : goal.returns-in-Choices
returns-in-Choices c =
    c.from.ensures ∙ c.choices.ensures ∙ ap (λ (b : BridgeState). length (enabled b.world)) c.self.view_is
    ∙ ap (λ (kind : CallKind). asked_of c.args.self.now kind c.args.number) (sym c.in-Choices.is)
