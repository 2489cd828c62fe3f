use Rattle.line_text.proofs.HexLaws.{digits_at}
use Rattle.line_text.proofs.line.digits_of.Goals as goal

pub returns-clause-first : goal.returns-clause-first
returns-clause-first c = (digits_at c.args.byte c.requires).0

pub returns-clause-second : goal.returns-clause-second
returns-clause-second c = (digits_at c.args.byte c.requires).1
