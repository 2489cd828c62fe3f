use Rattle.std.proofs.Common.{arith, length-take-le, sym, take_all}
use Rattle.script_text.proofs.stopped.front_of.Goals as goal

pub slice_bounds-result-end : goal.slice_bounds-result-end
slice_bounds-result-end c = omega (arith, length-take-le 129 c.args.line.now (omega arith))

pub returns-then-line-gt-HELD_BYTES-clause-short : goal.returns-then-line-gt-HELD_BYTES-clause-short
returns-then-line-gt-HELD_BYTES-clause-short c = omega (arith, length-take-le 129 c.args.line.now (omega arith))

pub returns-clause-front : goal.returns-clause-front
returns-clause-front c = sym (take_all 129 c.args.line.now (omega arith))
