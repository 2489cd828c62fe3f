-- The name is that of its side.
use Rattle.score_script.proofs.unanswered.burst_words.Goals as goal

pub returns : goal.returns
returns g c = rw (← c.name-name.ensures) c.in_ok-write.ensures.bytes
