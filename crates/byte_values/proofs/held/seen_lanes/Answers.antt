-- The lanes in which none hides it are its own without those in which one does.
use Rattle.std.proofs.Common.{◌∙◌, ap₂}
use Rattle.byte_values.specs.Words.{lanes_without}
use Rattle.byte_values.proofs.SeenLaws.{seen_without}
use Rattle.byte_values.proofs.held.seen_lanes.Goals as goal

pub returns : goal.returns
returns c =
    c.without.ensures ∙ ap₂ (λ lanes others. lanes_without lanes others) c.lanes.ensures c.hiding_lanes.ensures
    ∙ seen_without c.args.held.now c.args.reader c.args.holding.now
