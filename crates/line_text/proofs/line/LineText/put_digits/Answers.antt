use Rattle.std.proofs.Common.{◌≡◌, ◌-◌, ◌+◌, ◌*◌, ◌∷◌, ◌/◌, ◌%◌, ◌∙◌, ◌++◌, false, drop, length, take, ap, arith}
use Rattle.std.specs.Fmt.{digit_glyph}
use Rattle.line_text.proofs.HexLaws.{hex-end, last_digits, last_digits-hex, last_digits-pair}
use Rattle.line_text.proofs.line.LineText.put_digits.Goals as goal

pub loop-preserved : goal.loop-preserved
loop-preserved c =
    let left = c.args.digits - 2 * c.loop.counter in
    let less : c.args.digits - 2 * (c.loop.counter + 1) ≡ left - 2 = omega arith in
    let is : c.put_two.new.self ≡ digit_glyph false (c.loop.rest % 256 / 16) ∷ digit_glyph false (c.loop.rest % 256 % 16) ∷ c.loop.self = cc in (
      ap (λ n. last_digits n (c.loop.rest / 256) c.put_two.new.self) less ∙ ap (last_digits (left - 2) (c.loop.rest / 256)) is
          ∙ last_digits-pair left c.loop.rest c.loop.self (omega (arith, c.loop-test.true))
          ∙ c.loop.invariant.0,
      omega (arith, ap length c.put_two.ensures, c.loop.invariant.1),
    )

pub returns-clause-text : goal.returns-clause-text
returns-clause-text c =
    let done : c.args.digits - 2 * c.loop.counter ≡ 0 = omega (arith, c.loop-test.false, c.requires.even) in
    let all = c.loop.invariant.0 in
    (rw done at all) ∙ last_digits-hex c.args.digits c.args.number c.args.self.now c.requires.some (omega (arith, c.requires.room)) c.requires.fits

pub returns-then-digits-eq8-clause-text : goal.returns-then-digits-eq8-clause-text
returns-then-digits-eq8-clause-text c =
    let eight = c.if-digits-eq8.true in
    let last = ap (λ digits. take 8 (drop 8 digits)) c.sixteen_digits-then-digits-eq8.ensures ∙ hex-end c.args.number (rw eight at c.requires.fits) in
    rw eight (c.put_text-then-digits-eq8.ensures ∙ ap (λ text. text ++ c.args.self.now) last)
