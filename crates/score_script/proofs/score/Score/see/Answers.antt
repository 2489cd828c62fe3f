-- What it finds is the text of the beat.
use Rattle.std.proofs.Common.{ap, false}
use Rattle.score_script.specs.ScoreStates.{score_of}
use Rattle.score_script.specs.Scores.{Score}
use Rattle.score_script.specs.declared.score.Command.TheVariants.{Observed}
use Rattle.score_script.proofs.Carried.{carried}
use Rattle.score_script.proofs.score.Score.see.Goals as goal

pub returns : goal.returns
returns g c =
    let gives = rw c.line_at.ensures at c.in_ok-observe.ensures in
    carried (score_of c.args.self.now) _ c.args.number (Observed c.args.seen.now) c.observe.new.findings _ _ _ c.in_ok-check_open.ensures.open
    (record { held = gives.held; own = gives.own; over = gives.over; after = ap (λ (score : Score). record score { begins = false }) gives.after }) c.in_ok-tell.ensures
