-- What all calls of a handle come to.
use Rattle.score_calls.proofs.CallsJudged.{judges_exactly}
use Rattle.score_calls.proofs.handle.Handle.new.Goals as goal

pub returns-clause-exactly : goal.returns-clause-exactly
returns-clause-exactly c = judges_exactly
