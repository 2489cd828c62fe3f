use Rattle.std.proofs.Common.{arith}
use Rattle.line_text.specs.Words.{is_plain_byte}
use Rattle.line_text.proofs.LoadedLanes.{front_more}
use Rattle.line_text.proofs.plain.plain_until.Goals as goal

pub returns-then-run-lt-LANES-clause-plain : goal.returns-then-run-lt-LANES-clause-plain
returns-then-run-lt-LANES-clause-plain c =
    front_more is_plain_byte c.args.bytes.now c.loop-at.at 32 c.plain_run-run.result (omega (arith, c.loop-at.invariant.0, c.loop-at-test.true)) c.plain_run-run.ensures c.loop-at.invariant.1

pub loop-at-preserved : goal.loop-at-preserved
loop-at-preserved c = (
  omega (arith, c.loop-at.invariant.0, c.loop-at-test.true, c.plain_run-run.ensures.0),
  front_more is_plain_byte c.args.bytes.now c.loop-at.at 32 c.plain_run-run.result (omega (arith, c.loop-at.invariant.0, c.loop-at-test.true)) c.plain_run-run.ensures c.loop-at.invariant.1,
)
