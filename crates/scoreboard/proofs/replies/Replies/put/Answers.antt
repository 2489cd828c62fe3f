-- The place of a source has another reply.
use Rattle.std.proofs.Common.{◌∙◌, ap, arith, slice_set}
use Rattle.scoreboard.specs.Replies.{reply_of, with_reply}
use Rattle.scoreboard.proofs.held.Replies.{reply_of-set}
use Rattle.scoreboard.proofs.replies.Replies.put.Goals as goal

pub returns : goal.returns
returns c =
    let items = c.reach.new.kept.items in
    let reply = c.args.reply.now in
    ap (λ new. reply_of (slice_set items c.from.result new)) c.put.ensures
    ∙ ap (λ place. reply_of (slice_set items place reply)) c.from.ensures
    ∙ reply_of-set items c.args.source reply (omega (arith, c.reach.ensures.place, c.reach.new.kept.ok))
    ∙ ap (with_reply c.args.source reply) (c.reach.ensures.replies ∙ ap reply_of c.self.view_is)
