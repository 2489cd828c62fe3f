use Rattle.std.proofs.Common.{rules}
use Rattle.script_text.proofs.reader.Block.new.Goals as goal

pub returns : goal.returns
returns c = search rules
