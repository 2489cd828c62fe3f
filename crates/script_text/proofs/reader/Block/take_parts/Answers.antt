use Rattle.std.proofs.lemmas.Grind.{common_steps}
use Rattle.std.proofs.Common.{arith}
use Rattle.std.proofs.KnownBytes.{Keeps-trans}
use Rattle.script_text.proofs.Blocks.{Takes-on}
use Rattle.script_text.proofs.reader.Block.take_parts.Goals as goal

pub loop-preserved : goal.loop-preserved
loop-preserved g c =
    let held = c.loop.invariant in
    let on = Takes-on c.args.self.now c.loop.self c.refill.new.self c.take_part.new.self (g.R.Read.remaining c.args.reader.now) (g.R.Read.remaining c.loop.reader) (g.R.Read.remaining c.refill.new.reader) c.loop.line.items c.take_part.new.line.items
    held.0 held.4 c.in_ok-refill.ensures.input.0 (c.in_ok-refill.ensures.input.1 c.if-not-branch.false) (rw c.in_default.is at c.take_part.ensures) c.refill.ensures.small in
    (on.0, omega (arith, held.1, on.1), on.2, λ counted. on.3, on.4, Keeps-trans _ _ _ held.5 c.refill.ensures.output)

pub returns-in-Some-clause-input : goal.returns-in-Some-clause-input
returns-in-Some-clause-input g c = grind (arith, common_steps)

pub returns-in-Some-clause-small : goal.returns-in-Some-clause-small
returns-in-Some-clause-small g c = grind (arith, common_steps)
