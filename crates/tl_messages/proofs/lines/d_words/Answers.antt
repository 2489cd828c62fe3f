-- The line is written in two parts; what the format writes of a number is its hexadecimal digits.
use Rattle.std.proofs.Common.{rules, codes}
use Rattle.bus_words.proofs.TextLaws.{padded_integral-hex}
use Rattle.tl_messages.proofs.LineLaws.{Appends-then, front_text, d_rest, d_words-in_parts}
use Rattle.tl_messages.proofs.lines.d_words.Goals as goal

pub returns : goal.returns
returns g c =
    rw (← d_words-in_parts c.args.client c.args.beat.now)
    (Appends-then
    (g.W.Write.contents c.args.writer.now) (g.W.Write.contents c.write.new.self) (g.W.Write.contents c.write-2.new.self)
    (front_text (codes "D") c.args.client c.args.beat.now.opcode c.args.beat.now.param c.args.beat.now.size c.args.beat.now.source)
    (d_rest c.args.beat.now) c.write-2.result
    (search rules)
    (rw (← padded_integral-hex 16 c.args.beat.now.payload) (search rules)))
