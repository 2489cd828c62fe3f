-- Those that are due are of the same sources, and all have the same room.
use Rattle.std.proofs.Common.{◌∙◌, arith}
use Rattle.scoreboard.specs.FailedBursts.{hit}
use Rattle.scoreboard.specs.Replies.{reply_of}
use Rattle.scoreboard.proofs.held.Sources.{still_due}
use Rattle.scoreboard.proofs.flights.Flights.hit.Goals as goal

pub invariant_of-self : goal.invariant_of-self
invariant_of-self c =
    let inside = c.self.inside in
    let replies = reply_of inside.replies in
    let still = still_due inside.room replies inside.due.items inside.due.len c.deref_mut.result.now c.hit_each.new.due (hit c.args.span) inside.due.ok.0 c.hit_each.auto.due c.deref_mut.ensures.value c.self.invariant.0
    (c.hit_each.ensures.flights replies) (c.hit_each.ensures.rooms inside.room) in
    (still.all, c.hit.ensures.room ∙ c.self.invariant.1, c.self.invariant.2, omega (arith, still.many, c.self.invariant.3), c.self.invariant.4, c.self.invariant.5)

pub invariant_of-self-else-self : goal.invariant_of-self-else-self
invariant_of-self-else-self c =
    let inside = c.self.inside in
    let replies = reply_of inside.replies in
    let still = still_due inside.room replies inside.due.items inside.due.len c.deref_mut.result.now c.hit_each.new.due (hit c.args.span) inside.due.ok.0 c.hit_each.auto.due c.deref_mut.ensures.value c.self.invariant.0
    (c.hit_each.ensures.flights replies) (c.hit_each.ensures.rooms inside.room) in
    (still.all, c.self.invariant.1, c.self.invariant.2, omega (arith, still.many, c.self.invariant.3), c.self.invariant.4, c.self.invariant.5)
