use Rattle.std.proofs.Common.{◌≤◌, length, arith}
use Rattle.std.proofs.Math.Nat.{pow-le-pow_right}
use Rattle.line_text.proofs.numbers.hexadecimal.Goals as goal

pub value_of-requires-clause-few : goal.value_of-requires-clause-few
value_of-requires-clause-few c = let short : length c.args.word.now ≤ 16 = omega arith in pow-le-pow_right {n = 16} (omega arith) short
