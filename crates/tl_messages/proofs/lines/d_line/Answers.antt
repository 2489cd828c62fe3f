-- The line is its words and its end.
use Rattle.std.proofs.Common.{[], ◌∷◌, rules}
use Rattle.tl_messages.specs.Lines.{d_words}
use Rattle.tl_messages.proofs.LineLaws.{Appends-then, d_text-ended}
use Rattle.tl_messages.proofs.lines.d_line.Goals as goal

pub returns : goal.returns
returns g c =
    rw (← d_text-ended c.args.client c.args.beat.now)
    (Appends-then
    (g.W.Write.contents c.args.writer.now) (g.W.Write.contents c.d_words.new.writer) (g.W.Write.contents c.writeln.new.self)
    (d_words c.args.client c.args.beat.now) (10 ∷ []) c.writeln.result
    (search rules)
    (search rules))
