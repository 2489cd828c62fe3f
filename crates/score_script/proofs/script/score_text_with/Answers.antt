use Rattle.score_script.proofs.script.score_text_with.Goals as goal

pub returns : goal.returns
returns g c = rw c.new-script.ensures at c.read_script_with.ensures
