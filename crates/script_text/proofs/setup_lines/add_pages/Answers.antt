use Rattle.subordinate.specs.declared.PageKind.{PageKind}
use Rattle.std.proofs.Common.{◌≡◌, ℕ, ◌<◌, ◌+◌, ◌++◌, ◌∷◌, [], length, ap, sym, ◌∙◌, append_assoc, length-append, arith}
use Rattle.script_text.proofs.PageLists.{pages_from-length, pages_from-more}
use Rattle.script_text.specs.SetupLines.{pages_from}
use Rattle.script_text.proofs.setup_lines.add_pages.Goals as goal

pub push-requires : goal.push-requires
push-requires c =
    let old = c.args.pages.now.items in
    let added = pages_from c.args.first c.loop-k.k c.args.kind in
    let held : length c.loop-k.pages.items ≡ length old + c.loop-k.k =
    ap length c.loop-k.invariant ∙ length-append old added ∙ ap (λ n. length old + n) (pages_from-length c.args.first c.loop-k.k c.args.kind) in
    let room : length c.loop-k.pages.items < 64 = omega (arith, held, c.loop-k-test.true, c.from-k-end.ensures, c.requires.room) in
    (omega arith, room)

pub loop-k-preserved : goal.loop-k-preserved
loop-k-preserved c =
    let old = c.args.pages.now.items in
    let added = pages_from c.args.first c.loop-k.k c.args.kind in
    let page : ℕ × PageKind = (c.args.first + c.loop-k.k, c.args.kind) in
    c.push.ensures.items ∙ ap (λ pages. pages ++ page ∷ []) c.loop-k.invariant ∙ append_assoc old added (page ∷ []) ∙ ap (λ pages. old ++ pages) (sym (pages_from-more c.args.first c.loop-k.k c.args.kind))
