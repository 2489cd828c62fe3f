-- The line is written in two parts; what the format writes of a number is its hexadecimal digits.
use Rattle.std.proofs.Common.{rules, codes}
use Rattle.bus_words.proofs.TextLaws.{padded_integral-hex}
use Rattle.tl_messages.proofs.LineLaws.{Appends-then, front_text, a_rest, a_text-in_parts}
use Rattle.tl_messages.proofs.lines.a_line.Goals as goal

pub returns : goal.returns
returns g c =
    rw (← a_text-in_parts c.args.client c.args.beat.now)
    (Appends-then
    (g.W.Write.contents c.args.writer.now) (g.W.Write.contents c.write.new.self) (g.W.Write.contents c.writeln.new.self)
    (front_text (codes "A") c.args.client c.args.beat.now.opcode c.args.beat.now.param c.args.beat.now.size c.args.beat.now.source)
    (a_rest c.args.beat.now) c.writeln.result
    (search rules)
    (rw (← padded_integral-hex 8 c.args.beat.now.address, ← padded_integral-hex 2 c.args.beat.now.mask, ← padded_integral-hex 16 c.args.beat.now.payload) (search rules)))
