use Rattle.score_calls.proofs.words.kind_of.Goals as goal

pub returns : goal.returns
returns c = rw c.kinds-table.ensures at c.kind_at.ensures
