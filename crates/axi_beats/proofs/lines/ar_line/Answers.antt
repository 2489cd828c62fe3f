-- What the format writes of a number is its hexadecimal digits.
use Rattle.std.proofs.Common.{rules}
use Rattle.bus_words.proofs.TextLaws.{padded_integral-hex}
use Rattle.axi_beats.proofs.lines.ar_line.Goals as goal

pub returns : goal.returns
returns g c = rw (← padded_integral-hex 8 c.args.beat.now.address) (search rules)
