use Rattle.std.proofs.Common.{arith}
use Rattle.line_text.proofs.NumberLaws.{number_of-one}
use Rattle.line_text.proofs.numbers.decimal.Goals as goal

pub returns-then-word-eq1 : goal.returns-then-word-eq1
returns-then-word-eq1 c = number_of-one 10 20 c.args.word.now c.digit_of.result (omega arith) (omega arith) c.if-word-eq1.true c.digit_of.ensures
