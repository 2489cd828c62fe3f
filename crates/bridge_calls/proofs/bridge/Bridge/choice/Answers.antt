use Rattle.std.proofs.Common.{◌≡◌, ◌≤◌, ℕ, Some, ap, length, subst, sym}
use Rattle.std.specs.Prelude.{slice_get}
use Rattle.world.specs.World.{WorldState, enabled}
use Rattle.bridge_calls.proofs.Choosing.{none_past}
use Rattle.bridge_calls.specs.Bridges.{BridgeState}
use Rattle.bridge_calls.proofs.bridge.Bridge.choice.Goals as goal

pub returns-then-k-choices : goal.returns-then-k-choices
returns-then-k-choices c =
    let same : c.self.inside.world ≡ c.args.self.now.world = ap (λ (b : BridgeState). b.world) c.self.view_is in
    sym (subst (λ (w : WorldState). slice_get (enabled w) c.args.k ≡ Some c.choose.result) same c.choose.ensures)

pub returns : goal.returns
returns c =
    let same : c.self.inside.world ≡ c.args.self.now.world = ap (λ (b : BridgeState). b.world) c.self.view_is in
    let past : length (enabled c.self.inside.world) ≤ c.args.k = subst (λ (n : ℕ). n ≤ c.args.k) c.choices.ensures c.if-k-choices.false in
    sym (none_past (enabled c.args.self.now.world) c.args.k (subst (λ (w : WorldState). length (enabled w) ≤ c.args.k) same past))
