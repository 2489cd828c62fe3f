-- One more is changed.
use Rattle.std.proofs.Common.{◌≡◌, ◌∙◌, ap, sym}
use Rattle.std.proofs.lemmas.List.Edits.{map_over_more}
use Rattle.byte_values.specs.Words.{closed_by}
use Rattle.byte_values.proofs.held.close_each.Goals as goal

pub loop-holding-preserved : goal.loop-holding-preserved
loop-holding-preserved c =
    let held = c.loop-holding.held in
    let holding = c.holding-item.result in
    let new : c.closed.result ≡ closed_by c.args.oldest c.args.now holding =
    c.closed.ensures ∙ ap (closed_by c.args.oldest c.args.now) (sym c.holding-item.is) in
    rw new
    (map_over_more (closed_by c.args.oldest c.args.now) c.args.held.now held c.loop-holding.holding-index holding c.loop-holding-test.true
    c.loop-holding.invariant c.holding-item.is)
