use Rattle.std.proofs.Common.{rules}
use Rattle.axi_beats.proofs.lines.resp_text.Goals as goal

pub returns-in-SlvErr : goal.returns-in-SlvErr
returns-in-SlvErr c = search rules
