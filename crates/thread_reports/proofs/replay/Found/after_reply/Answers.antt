-- A reply is the receipts' next one, or they differ.
use Rattle.std.proofs.Common.{◌≡◌, ◌∙◌, length}
use Rattle.thread_reports.proofs.FoundLemmas.{beats_within, found_differs, found_received}
use Rattle.thread_reports.proofs.replay.Found.after_reply.Goals as goal

pub returns-then-not-receives : goal.returns-then-not-receives
returns-then-not-receives c start past client script is replied gives =
    found_differs c.args.self c.args.number c.args.reply.now is replied gives
    (λ same. c.receives.ensures.differs c.if-not-receives.true same (beats_within c.args.self is same))

pub returns : goal.returns
returns c start past client script is replied gives =
    let same = c.receives.ensures.same c.if-not-receives.false in
    let count : c.from.result ≡ length c.args.reply.now = c.from.ensures ∙ c.beats.ensures in
    rw count (found_received c.args.self c.args.number c.args.reply.now is replied gives same.0 same.1 same.2 same.3)
