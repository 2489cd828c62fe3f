use Rattle.std.proofs.Common.{rules}
use Rattle.score_script.proofs.score.Score.carry_line.Goals as goal

pub returns-in-Ok : goal.returns-in-Ok
returns-in-Ok c = search rules

pub returns-in-Ok-read : goal.returns-in-Ok-read
returns-in-Ok-read g c = rw (← c.command_of-read.ensures, c.in-Ok-read.is) c.carry_out.ensures

pub returns-then-only_settles : goal.returns-then-only_settles
returns-then-only_settles g c = rw (c.only_settles.ensures.answer c.if-only_settles.true) c.answer.ensures
