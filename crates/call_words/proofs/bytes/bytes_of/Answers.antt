-- Each byte is the next, and there is room for 128.
use Rattle.std.proofs.Common.{ℕ, List, ◌++◌, ◌∷◌, [], ◌∙◌, ap, ap₂, arith, length, sym}
use Rattle.call_words.proofs.FirstBytes.{first_count, first_more}
use Rattle.call_words.proofs.bytes.bytes_of.Goals as goal

pub put-requires : goal.put-requires
put-requires c = omega (arith, ap length c.loop-place.invariant ∙ first_count c.args.words.now c.loop-place.place, c.loop-place-test.true)

pub loop-place-preserved : goal.loop-place-preserved
loop-place-preserved c =
    c.put.ensures ∙ ap₂ (λ (bytes : List ℕ) (byte : ℕ). bytes ++ byte ∷ []) c.loop-place.invariant c.byte_of.ensures ∙ sym (first_more c.args.words.now c.loop-place.place)
