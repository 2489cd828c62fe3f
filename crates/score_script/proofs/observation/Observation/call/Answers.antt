use Rattle.std.proofs.Common.{rules}
use Rattle.score_script.proofs.observation.Observation.call.Goals as goal

pub returns : goal.returns
returns c = search rules

pub returns-in-Err : goal.returns-in-Err
returns-in-Err c = search rules
