use Rattle.score_script.proofs.UnansweredLines.{wrote_both}
use Rattle.score_script.proofs.score.Score.tell.Goals as goal

pub returns : goal.returns
returns g c = wrote_both _ _ _ _ _ c.in_ok-found.found c.in_ok-left.left c.in_ok-found.ensures c.in_ok-left.ensures
