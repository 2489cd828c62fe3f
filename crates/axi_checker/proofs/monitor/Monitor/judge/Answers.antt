-- A burst that breaks no rule is outstanding with all its data once it was sent.
use Rattle.std.proofs.Common.{◌≡◌, rules}
use Rattle.std.specs.Prelude.{IfSome}
use Rattle.axi_checker.specs.Rules.{burst_fault}
use Rattle.axi_checker.proofs.LegalBursts.{judged_sent}
use Rattle.axi_checker.proofs.monitor.Monitor.judge.Goals as goal

pub returns-clause-sent : goal.returns-clause-sent
returns-clause-sent g c = λ none.
    let now = c.args.self.now in
    let rule : IfSome c.args.burst.now (λ burst. c.burst_fault.result ≡ burst_fault now.port now.open_bursts burst) = search rules in
    judged_sent now.port now.open_bursts c.args.burst.now c.burst_fault.result c.requires.ready rule none
