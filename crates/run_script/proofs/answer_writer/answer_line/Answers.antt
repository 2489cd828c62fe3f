use Rattle.std.proofs.Common.{rules}
use Rattle.run_script.proofs.answer_writer.answer_line.Goals as goal

pub returns-in-Idle-clause-all : goal.returns-in-Idle-clause-all
returns-in-Idle-clause-all g c = search rules
