-- An Offer goes on with the script, or strays from it.
use Rattle.std.proofs.Common.{arith}
use Rattle.thread_reports.specs.Reports.{accepted_of}
use Rattle.thread_reports.proofs.FoundLemmas.{found_next, found_strays}
use Rattle.thread_reports.proofs.replay.Found.after_offer.Goals as goal

pub returns-then-not-goes_on : goal.returns-then-not-goes_on
returns-then-not-goes_on c start past client received is gives =
    found_strays c.args.self c.args.beat.now c.args.answer c.accepted_with-accepted.result is gives (c.accepted_with-accepted.ensures (accepted_of client start past) is.accepted)
    (c.goes_on.ensures.strays c.if-not-goes_on.true)

pub overflow_add-result : goal.overflow_add-result
overflow_add-result c = let goes = c.goes_on.ensures.goes c.if-not-goes_on.false in omega (arith, goes.3)

pub returns : goal.returns
returns c start past client received is gives =
    let goes = c.goes_on.ensures.goes c.if-not-goes_on.false in
    found_next c.args.self c.args.beat.now c.args.answer c.accepted_with-accepted.result is gives (c.accepted_with-accepted.ensures (accepted_of client start past) is.accepted) goes.0 goes.1 goes.2
