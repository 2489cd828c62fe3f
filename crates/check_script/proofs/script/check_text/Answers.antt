use Rattle.script_text.proofs.FixedEndings.{EndsAs-fixed}
use Rattle.check_script.proofs.script.check_text.Goals as goal

pub returns : goal.returns
returns g c = EndsAs-fixed _ _ _ _ _ _ _ (rw c.new-script.ensures at c.read_script.ensures)
