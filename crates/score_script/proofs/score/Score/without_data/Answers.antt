use Rattle.std.proofs.Common.{rules}
use Rattle.score_script.proofs.score.Score.without_data.Goals as goal

pub returns-in-Some-UnknownRequest : goal.returns-in-Some-UnknownRequest
returns-in-Some-UnknownRequest c = search rules
