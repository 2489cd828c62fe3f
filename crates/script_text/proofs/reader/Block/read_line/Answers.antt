use Rattle.script_text.proofs.Blocks.{ReadsLine-whole}
use Rattle.script_text.proofs.reader.Block.read_line.Goals as goal

pub returns-then-take_whole-clause-input : goal.returns-then-take_whole-clause-input
returns-then-take_whole-clause-input g c = ReadsLine-whole c.args.self.now c.take_whole.new.self (g.R.Read.remaining c.args.reader.now) (rw c.if-take_whole.true at c.take_whole.ensures.whole)
