-- The lanes of one alone that is over are those that one is over in, without those that another takes.
use Rattle.std.proofs.Common.{◌∙◌, ap, ap₂, sym}
use Rattle.std.proofs.lemmas.List.{drop_all}
use Rattle.byte_values.specs.Parts.{with_all}
use Rattle.byte_values.specs.Words.{lanes_without}
use Rattle.byte_values.proofs.SettleLaws.{over_lanes, settling_without, shared_lanes}
use Rattle.byte_values.proofs.held.settling_lanes.Goals as goal

pub returns : goal.returns
returns c =
    let l = c.loop-holding in
    let held = c.args.held.now in
    let done = drop_all l.holding-index held c.loop-holding-test.false in
    c.without.ensures
    ∙ ap₂ (λ lanes others. lanes_without lanes others)
    (ap (λ hs. with_all over_lanes l.over hs) (sym done) ∙ l.invariant.over)
    (ap (λ hs. shared_lanes l.taken l.shared hs) (sym done) ∙ l.invariant.shared)
    ∙ settling_without c.args.settled held
