-- The answer to a beat reads as it must.
use Rattle.std.proofs.Common.{◌≡◌, sym, ◌∙◌, Ok, rules}
use Rattle.tl_checker.specs.Ports.{judged, port_after}
use Rattle.tl_checker.proofs.PortLaws.{reads_after}
use Rattle.tl_checker.proofs.port.Port.take_beat.Goals as goal

pub returns-in_err-progress-clause-reads : goal.returns-in_err-progress-clause-reads
returns-in_err-progress-clause-reads c =
    let told : c.from_residual.result ≡ judged c.args.self.now.limits c.args.self.now.front c.args.beat.now c.args.busy = search rules in
    let kept : c.args.self.now ≡ port_after c.args.self.now c.args.beat.now c.from_residual.result = search rules in
    reads_after c.args.self.now c.args.self.now c.args.beat.now c.args.busy c.from_residual.result c.requires told kept

pub returns-clause-reads : goal.returns-clause-reads
returns-clause-reads c =
    reads_after c.args.self.now c.take_judged.new.self c.args.beat.now c.args.busy (Ok c.in_ok-progress.progress) c.requires (sym (c.in_ok-progress.was) ∙ c.judge.ensures) c.take_judged.ensures
