use Rattle.std.proofs.Common.{rules}
use Rattle.line_text.proofs.offer_parser.offer_line.Goals as goal

pub returns-in_err-address : goal.returns-in_err-address
returns-in_err-address c = search rules
