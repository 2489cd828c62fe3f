use Rattle.std.proofs.Common.{◌<◌, ◌≡◌, take, take_all, arith}
use Rattle.line_text.proofs.NumberLaws.{held_at, read_fits, read_next, read_others}
use Rattle.line_text.proofs.numbers.eight_at_most.Goals as goal

pub overflow_mul-value : goal.overflow_mul-value
overflow_mul-value c =
    let l = c.loop-byte in
    omega (arith, read_fits (take l.byte-index c.args.word.now) l.byte-index l.value (omega (arith, c.loop-byte-test.true, c.requires)) l.invariant)

pub overflow_add-value : goal.overflow_add-value
overflow_add-value c =
    let l = c.loop-byte in
    let byte : c.from.result < 256 = omega (arith, c.from.ensures, (c.type_inv.word l.byte-index).fits) in
    omega (arith, (held_at c.from.result byte).bound, read_fits (take l.byte-index c.args.word.now) l.byte-index l.value (omega (arith, c.loop-byte-test.true, c.requires)) l.invariant)

pub loop-byte-preserved : goal.loop-byte-preserved
loop-byte-preserved c =
    let l = c.loop-byte in
    let byte : c.from.result < 256 = omega (arith, c.from.ensures, (c.type_inv.word l.byte-index).fits) in
    read_next c.args.word.now l.byte-index l.value c.from.result c.loop-byte-test.true c.from.ensures byte l.invariant

pub returns-else-value-lt-OTHER : goal.returns-else-value-lt-OTHER
returns-else-value-lt-OTHER c =
    let l = c.loop-byte in
    let whole : take l.byte-index c.args.word.now ≡ c.args.word.now = take_all l.byte-index c.args.word.now (omega (arith, c.loop-byte-test.false)) in
    read_others c.args.word.now l.byte-index l.value c.requires (rw whole at l.invariant) c.if-value-lt-OTHER.false
