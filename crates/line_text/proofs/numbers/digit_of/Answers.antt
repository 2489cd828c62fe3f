use Rattle.std.proofs.Common.{arith}
use Rattle.line_text.proofs.NumberLaws.{digit_below, digit_above}
use Rattle.line_text.proofs.numbers.digit_of.Goals as goal

pub returns-then-value-radix : goal.returns-then-value-radix
returns-then-value-radix c = rw (← c.from.ensures) (digit_below c.from.result c.args.radix (omega (arith, c.from.ensures, c.ranges.byte.fits)) c.requires c.if-value-radix.true)

pub returns-else-value-radix : goal.returns-else-value-radix
returns-else-value-radix c = rw (← c.from.ensures) (digit_above c.from.result c.args.radix (omega (arith, c.from.ensures, c.ranges.byte.fits)) c.requires c.if-value-radix.false)
