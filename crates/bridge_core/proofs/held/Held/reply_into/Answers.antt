-- The gathered reply is that of the message.
use Rattle.std.proofs.Common.{sym}
use Rattle.tl_messages.specs.Requests.{request_of}
use Rattle.bridge_core.proofs.held.Held.reply_into.Goals as goal

pub returns-clause-shown : goal.returns-clause-shown
returns-clause-shown c = rw (← c.self.view_is) (rw c.self.invariant at (c.reply_into.ensures.shown (request_of c.self.inside.request) (sym c.self.invariant)))

pub returns-clause-right : goal.returns-clause-right
returns-clause-right c = rw (← c.self.view_is) (rw c.self.invariant at (c.reply_into.ensures.right (request_of c.self.inside.request) (sym c.self.invariant)))
