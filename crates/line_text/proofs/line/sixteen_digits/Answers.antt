use Rattle.std.proofs.Common.{◌+◌, arith}
use Rattle.line_text.proofs.HexLaws.{bytes_onto-hex}
use Rattle.line_text.proofs.line.sixteen_digits.Goals as goal

pub returns : goal.returns
returns c = bytes_onto-hex c.args.number (c.args.number + 0) c.ranges.number.fits (omega arith)
