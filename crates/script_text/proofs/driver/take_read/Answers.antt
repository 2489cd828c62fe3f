use Rattle.std.proofs.Common.{◌≡◌, true}
use Rattle.script_text.proofs.PlainLines.{strip-plain}
use Rattle.line_text.specs.Words.{is_plain_line}
use Rattle.script_text.proofs.driver.take_read.Goals as goal

pub take_plain-requires-clause-plain : goal.take_plain-requires-clause-plain
take_plain-requires-clause-plain g c = rw c.line.ensures (c.has_plain_line.ensures c.if-has_plain_line.true)

pub returns-then-has_plain_line : goal.returns-then-has_plain_line
returns-then-has_plain_line g c =
    let plain : is_plain_line c.args.block.now.line ≡ true = c.has_plain_line.ensures c.if-has_plain_line.true in
    rw (strip-plain c.args.block.now.line plain) (rw c.line.ensures at c.take_plain.ensures)

pub returns : goal.returns
returns g c = rw c.line-2.ensures at c.take_line.ensures
