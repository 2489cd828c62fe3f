-- A client that has its part didn't stray, and its receipts don't differ.
use Rattle.std.proofs.Common.{◌∙◌, sym}
use Rattle.std.proofs.lemmas.Bool.{false≢true}
use Rattle.thread_reports.proofs.MismatchLemmas.{not_different, not_strayed}
use Rattle.thread_reports.proofs.replay.is_right.Goals as goal

pub returns-then-found-clause-wrong : goal.returns-then-found-clause-wrong
returns-then-found-clause-wrong c is start steps client found part = false≢true (sym (not_strayed c.args.found.now found part) ∙ c.if-found.true)

pub returns-then-found-2-clause-wrong : goal.returns-then-found-2-clause-wrong
returns-then-found-2-clause-wrong c is start steps client found part = false≢true (sym (not_different c.args.found.now found part) ∙ c.if-found-2.true)
