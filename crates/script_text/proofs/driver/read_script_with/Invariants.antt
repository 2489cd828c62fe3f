use Rattle.script_text.proofs.Progress.{Progress}
use Rattle.script_text.proofs.driver.read_script_with.Given as goal

abbrev pub invariant-loop-number : goal.invariant-loop-number
invariant-loop-number g l =
    Progress g.S.Script.reading g.S.Script.is_silent (g.S.Script.state l.fn.script) (g.S.Script.state l.script) l.number l.block (g.R.Read.remaining l.fn.reader) (g.R.Read.remaining l.reader) (g.W.Write.contents l.fn.writer)
    (g.W.Write.contents l.writer)
