-- One more is changed.
use Rattle.std.proofs.Common.{◌≡◌, ◌∙◌, ap, sym}
use Rattle.std.proofs.lemmas.List.Edits.{map_over_more}
use Rattle.byte_values.specs.Words.{changed_by}
use Rattle.byte_values.proofs.held.change_each.Goals as goal

pub loop-holding-preserved : goal.loop-holding-preserved
loop-holding-preserved c =
    let held = c.loop-holding.held in
    let holding = c.holding-item.result in
    let new : c.changed.result ≡ changed_by c.args.change holding = c.changed.ensures ∙ ap (changed_by c.args.change) (sym c.holding-item.is) in
    rw new
    (map_over_more (changed_by c.args.change) c.args.held.now held c.loop-holding.holding-index holding c.loop-holding-test.true
    c.loop-holding.invariant c.holding-item.is)
