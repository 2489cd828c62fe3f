use Rattle.std.proofs.Common.{refl, arith}
use Rattle.line_text.proofs.NumberLaws.{value-fits, value-more}
use Rattle.line_text.proofs.numbers.value_of.Goals as goal

pub overflow_mul-value : goal.overflow_mul-value
overflow_mul-value c =
    omega (arith, value-fits c.args.radix c.args.word.now c.loop-byte.byte-index c.loop-byte.value c.args.radix c.in-Some.digit (omega arith) c.loop-byte.invariant.0 c.loop-byte.invariant.1 refl c.in-Some.ensures.0 c.in-Some.ensures.1 c.requires.few)

pub overflow_add-value : goal.overflow_add-value
overflow_add-value c =
    omega (arith, value-fits c.args.radix c.args.word.now c.loop-byte.byte-index c.loop-byte.value c.args.radix c.in-Some.digit (omega arith) c.loop-byte.invariant.0 c.loop-byte.invariant.1 refl c.in-Some.ensures.0 c.in-Some.ensures.1 c.requires.few)

pub loop-byte-preserved : goal.loop-byte-preserved
loop-byte-preserved c =
    value-more c.args.radix c.args.word.now c.loop-byte.byte-index c.loop-byte.value c.args.radix c.in-Some.digit (omega arith) c.loop-byte.invariant.0 c.loop-byte.invariant.1 refl c.in-Some.ensures.0 c.in-Some.ensures.1
