-- One place more, which is empty.
use Rattle.std.proofs.Common.{◌∙◌, ◌++◌, ◌∷◌, [], ap}
use Rattle.scoreboard.specs.Replies.{reply_of}
use Rattle.scoreboard.proofs.held.Replies.{reply_of-more}
use Rattle.scoreboard.proofs.replies.reach.Goals as goal

pub loop-kept-preserved : goal.loop-kept-preserved
loop-kept-preserved c = (
  ap reply_of c.push_reserved.ensures.items ∙ ap (λ new. reply_of (c.loop-kept.kept.items ++ new ∷ [])) c.new.ensures ∙ reply_of-more c.loop-kept.kept.items ∙ c.loop-kept.invariant.0,
  c.push_reserved.ensures.capacity ∙ c.loop-kept.invariant.1,
)
