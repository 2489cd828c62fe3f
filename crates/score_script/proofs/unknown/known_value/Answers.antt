use Rattle.std.proofs.Common.{arith, ◌∙◌}
use Rattle.score_script.proofs.UnknownNumbers.{known-fits, known-more, known-other}
use Rattle.score_script.proofs.unknown.known_value.Goals as goal

pub overflow_mul-value : goal.overflow_mul-value
overflow_mul-value c =
    omega (arith, known-fits c.args.word.now c.loop-byte.byte-index c.loop-byte.value c.in-Some.digit c.loop-byte-test.true c.loop-byte.invariant.0 c.loop-byte.invariant.1 c.in-Some.ensures.0 c.in-Some.ensures.1 c.requires)

pub overflow_add-value : goal.overflow_add-value
overflow_add-value c =
    omega (arith, c.from.ensures, known-fits c.args.word.now c.loop-byte.byte-index c.loop-byte.value c.in-Some.digit c.loop-byte-test.true c.loop-byte.invariant.0 c.loop-byte.invariant.1 c.in-Some.ensures.0 c.in-Some.ensures.1 c.requires)

pub loop-byte-preserved : goal.loop-byte-preserved
loop-byte-preserved c =
    known-more c.args.word.now c.loop-byte.byte-index c.loop-byte.value c.from.result c.loop-byte-test.true c.loop-byte.invariant.0 c.loop-byte.invariant.1 c.in-Some.ensures.0 (c.from.ensures ∙ c.in-Some.ensures.1)

pub returns-in_default : goal.returns-in_default
returns-in_default c = known-other c.args.word.now c.loop-byte.byte-index c.loop-byte-test.true c.in_default.ensures
