-- It counts where nothing is wrong with the beat.
use Rattle.std.proofs.Common.{◌≡◌, ◌∙◌, ap, rules}
use Rattle.scoreboard.specs.AxiPorts.{port_wrong}
use Rattle.scoreboard.specs.Views.{if_right, span_answered}
use Rattle.scoreboard.proofs.held.FailedResponses.{span_counts}
use Rattle.scoreboard.proofs.board.Scoreboard.failed_span.Goals as goal

pub returns-in-Any-clause-counts : goal.returns-in-Any-clause-counts
returns-in-Any-clause-counts c policy =
    let old = c.args.self.now in
    let beat = c.args.beat.now in
    let told : c.answered_span.result ≡ span_answered old.errors old.axi.open_bursts beat = search rules in
    ap (if_right (port_wrong policy old.axi beat)) told ∙ span_counts policy old.errors old.axi beat
