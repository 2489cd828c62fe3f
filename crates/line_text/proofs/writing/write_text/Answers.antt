use Rattle.line_text.proofs.Writings.{on_from}
use Rattle.line_text.proofs.writing.write_text.Goals as goal

pub returns-clause-front : goal.returns-clause-front
returns-clause-front g c =
    on_from c.args.text.now c.in-Ok.count (g.W.Write.contents c.args.writer.now) (g.W.Write.contents c.write_some.new.writer) (g.W.Write.contents c.write_rest.new.writer) c.write_rest.result c.in-Ok.ensures.ok
    c.write_rest.ensures.front
