-- What it finds is the text of the command.
use Rattle.score_script.specs.ScoreStates.{score_of}
use Rattle.score_script.proofs.Carried.{carried}
use Rattle.score_script.proofs.score.Score.carry_out.Goals as goal

pub returns : goal.returns
returns g c =
    carried (score_of c.args.self.now) (score_of c.take.new.self) c.args.number c.args.command.now c.take.new.findings _ _ _ c.in_ok-take.ensures.0 c.in_ok-take.ensures.1 c.in_ok-tell.ensures
