-- One more is changed.
use Rattle.std.proofs.Common.{◌≡◌, ◌∙◌, ap, sym}
use Rattle.std.proofs.lemmas.List.Edits.{map_over_more}
use Rattle.byte_values.specs.Words.{parted}
use Rattle.byte_values.proofs.held.part_each.Goals as goal

pub loop-holding-preserved : goal.loop-holding-preserved
loop-holding-preserved c =
    let held = c.loop-holding.held in
    let holding = c.holding-item.result in
    let new : c.parted.result ≡ parted c.args.lanes holding = c.parted.ensures ∙ ap (parted c.args.lanes) (sym c.holding-item.is) in
    rw new
    (map_over_more (parted c.args.lanes) c.args.held.now held c.loop-holding.holding-index holding c.loop-holding-test.true
    c.loop-holding.invariant c.holding-item.is)
