use Rattle.std.proofs.Common.{◌≡◌, ◌++◌, ◌+◌, ◌-◌, drop, take, ap, ◌∙◌, sym, subst, arith}
use Rattle.std.proofs.lemmas.List.{drop-drop}
use Rattle.std.proofs.lemmas.Slice.{between_is}
use mir.Val.{bool_byte}
use Rattle.script_text.proofs.Blocks.{TakesPart-part, ended, ended-is}
use Rattle.script_text.specs.Reads.{IsPart}
use Rattle.script_text.proofs.reader.Block.take_part.Goals as goal

pub returns : goal.returns
returns c =
    let bytes = c.self.inside.bytes.items in
    let taken = c.self.inside.taken in
    let filled = c.self.inside.filled in
    let count = c.part_of-count.result.0 in
    let ending = c.part_of-count.result.1 in
    let held : c.args.self.now.ahead ≡ drop taken (take filled bytes) = sym (ap (λ block. block.ahead) c.self.view_is) in
    let ahead : take (filled - taken) (drop taken c.deref.result.now) ≡ c.args.self.now.ahead = ap (λ xs. take (filled - taken) (drop taken xs)) c.deref.ensures.value ∙ between_is bytes taken filled ∙ sym held in
    let more : c.from.result ≡ ended ending = c.from.ensures ∙ ap bool_byte c.is_some.ensures ∙ ended-is ending in
    TakesPart-part c.args.self.now _ c.args.line.now.items _ (129 - c.len.result) count ending (omega (arith, c.len.ensures.value, c.len.ensures.fits)) (subst (λ xs. IsPart xs (129 - c.len.result) count ending) ahead c.part_of-count.ensures)
    (subst (λ xs. c.try_extend_from_slice.new.self.items ≡ c.args.line.now.items ++ take count xs) ahead (rw c.unwrap.ensures at c.try_extend_from_slice.ensures.ok)) (
      sym (ap (λ n. drop (count + n) c.args.self.now.ahead) (sym more) ∙ ap (drop (count + c.from.result)) held ∙ drop-drop (count + c.from.result) taken (take filled bytes)),
      ap (λ n. taken + (count + n)) more ∙ ap (λ block. block.taken + (count + ended ending)) c.self.view_is,
      ap (λ block. block.has_text) c.self.view_is,
    )
