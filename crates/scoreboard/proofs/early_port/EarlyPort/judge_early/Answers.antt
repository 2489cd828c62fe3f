-- A W beat that isn't early.
use Rattle.std.proofs.Common.{◌≡◌, ◌&&◌, false, length, nat_lt, sym, subst, ◌∙◌, arith}
use Rattle.std.proofs.lemmas.Grind.{elements}
use Rattle.scoreboard.specs.AxiPorts.{PortBoard, wrong_with_early, tells_no_write}
use Rattle.scoreboard.proofs.held.EarlyBeats.{not_early}
use Rattle.scoreboard.proofs.early_port.EarlyPort.judge_early.Goals as goal

pub returns-in_default-clause-wrong : goal.returns-in_default-clause-wrong
returns-in_default-clause-wrong c =
    let port : PortBoard = record { limits = c.self.inside.axi.port; open_bursts = c.self.inside.axi.open_bursts; early = c.self.inside.early.items } in
    let none : (tells_no_write c.judge-verdict.result && nat_lt (length c.self.inside.early.items) 256) ≡ false = sym c.may_be_early.ensures ∙ c.if-may_be_early.false in
    subst (λ (there : PortBoard). c.judge-verdict.result ≡ wrong_with_early there c.args.beat.now) c.self.view_is
    (not_early port c.args.beat.now c.in-W.data c.judge-verdict.result c.in-W.is c.judge-verdict.ensures.wrong none)

pub returns-in-W-clause-state : goal.returns-in-W-clause-state
returns-in-W-clause-state c = grind (arith, elements) steps 2000000
