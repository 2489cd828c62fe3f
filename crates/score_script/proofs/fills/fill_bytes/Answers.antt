-- Each byte is the next word's, where all words before it are right.
use Rattle.std.proofs.Common.{ℕ, List, ◌++◌, ◌∷◌, [], ◌∙◌, ap, ap₂, arith, length, sym}
use Rattle.score_script.proofs.FillLaws.{bytes_count, bytes_more, fields_right}
use Rattle.score_script.proofs.fills.fill_bytes.Goals as goal

pub push-requires : goal.push-requires
push-requires c = omega (arith, ap length c.loop-k.invariant.0 ∙ bytes_count c.args.words.now c.loop-k.k, c.loop-k-test.true, c.requires)

pub loop-k-preserved : goal.loop-k-preserved
loop-k-preserved c =
    let words = c.args.words.now in
    let k = c.loop-k.k in
    let told = c.in_ok-fill_byte.ensures in (
      c.push.ensures ∙ ap₂ (λ (bytes : List ℕ) (byte : ℕ). bytes ++ byte ∷ []) c.loop-k.invariant.0 told.1 ∙ sym (bytes_more words k),
      sym (fields_right words c.args.count k (omega (arith, c.loop-k-test.true)) told.0) ∙ c.loop-k.invariant.1,
    )
