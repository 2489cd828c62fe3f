use Rattle.script_text.proofs.Blocks.{ReadsLine-held}
use Rattle.script_text.proofs.reader.Block.read_apart.Goals as goal

pub returns-clause-input : goal.returns-clause-input
returns-clause-input g c =
    rw c.hold.ensures
    (ReadsLine-held c.args.self.now c.take_parts-ending.new.self c.take_parts-ending.new.line.items c.take_parts-ending.new.line.items (g.R.Read.remaining c.args.reader.now) (g.R.Read.remaining c.take_parts-ending.new.reader) c.take_parts-ending.result c.take_parts-ending.ensures.input)
