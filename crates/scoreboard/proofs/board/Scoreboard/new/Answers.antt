use Rattle.std.proofs.Common.{◌∙◌, rules}
use Rattle.score_setup.specs.ScoreSetups.{ranges_of}
use Rattle.scoreboard.proofs.Openings.{known_opening}
use Rattle.scoreboard.proofs.board.Scoreboard.new.Goals as goal

pub returns-in-Some-clause-refused : goal.returns-in-Some-clause-refused
returns-in-Some-clause-refused c = search rules

pub returns-in-Ok-clause-zeros : goal.returns-in-Ok-clause-zeros
returns-in-Ok-clause-zeros c known = c.in-Ok.ensures.opens.0 ∙ known_opening c.args.errors (ranges_of c.args.setup.now) known
