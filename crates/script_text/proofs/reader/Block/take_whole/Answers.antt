use Rattle.std.proofs.Common.{◌≡◌, ◌<◌, ◌-◌, ◌+◌, drop, take, length, get_or, true, ap, ◌∙◌, sym, subst, arith}
use Rattle.std.proofs.lemmas.List.{drop-drop}
use Rattle.std.proofs.lemmas.Slice.{between_is}
use Rattle.script_text.proofs.Blocks.{TakesWhole-part, between-front}
use Rattle.line_text.specs.Words.{is_plain_line}
use Rattle.script_text.proofs.reader.Block.take_whole.Goals as goal

pub returns-clause-whole : goal.returns-clause-whole
returns-clause-whole c =
    let bytes = c.self.inside.bytes.items in
    let taken = c.self.inside.taken in
    let filled = c.self.inside.filled in
    let count = c.in-Some.count in
    let held : c.args.self.now.ahead ≡ drop taken (take filled bytes) = sym (ap (λ block. block.ahead) c.self.view_is) in
    let ahead : take (filled - taken) (drop taken c.deref.result.now) ≡ c.args.self.now.ahead = ap (λ xs. take (filled - taken) (drop taken xs)) c.deref.ensures.value ∙ between_is bytes taken filled ∙ sym held in
    let line = subst (λ xs. (count < length xs) × (is_plain_line (take count xs) ≡ true) × (get_or xs count 0 ≡ 10)) ahead c.in-Some.ensures in
    TakesWhole-part c.args.self.now _ count line.0 line.1 line.2 (between-front bytes c.args.self.now.ahead taken filled count held (omega (arith, c.self.invariant)) line.0) (
      sym (ap (drop (count + 1)) held ∙ drop-drop (count + 1) taken (take filled bytes)),
      ap (λ block. block.taken + (count + 1)) c.self.view_is,
      ap (λ block. block.has_text) c.self.view_is,
    )
