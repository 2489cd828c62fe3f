-- The lanes of a mask are those that pass its test.
use Rattle.std.proofs.Common.{◌-◌, ◌&&◌, Bool, not, ap, ap₂, arith, refl, sym, ◌∙◌}
use Rattle.std.specs.Prelude.{bit_and}
use Rattle.std.proofs.lemmas.Nat.{and_le_l}
use Rattle.bus_words.specs.Lanes.{has_lane}
use Rattle.bus_words.proofs.MaskLaws.{has_lane-and, mask_of-has_lane, mask_of-same}
use Rattle.scoreboard.specs.InsideBoards.{footprint_of}
use Rattle.scoreboard.specs.Telling.{is_compared}
use Rattle.scoreboard.proofs.held.FootprintBytes.{has_lane-not}
use Rattle.scoreboard.proofs.tellings.lanes_compared.Goals as goal

pub returns-in-AcceptanceOrder : goal.returns-in-AcceptanceOrder
returns-in-AcceptanceOrder c =
    let told = c.told_lanes.result in
    let unknown = c.unknown_lanes.result in
    let mask = bit_and told (255 - unknown) in
    sym (mask_of-has_lane mask (omega (arith, and_le_l told (255 - unknown))))
    ∙ mask_of-same (has_lane mask) (is_compared c.args.policy (footprint_of c.args.footprint.now) c.args.k c.args.due.now)
    (λ lane below.
    has_lane-and told (255 - unknown) lane
    ∙ ap₂ (λ (a b : Bool). a && b) (c.told_lanes.ensures lane below) (has_lane-not unknown lane (omega arith) below ∙ ap not (c.unknown_lanes.ensures lane below))
    ∙ rw (c.in-AcceptanceOrder.is, c.if-due.false) refl)

pub returns-in-RealTime-2 : goal.returns-in-RealTime-2
returns-in-RealTime-2 c =
    let mask = c.determined_lanes.result in
    sym (mask_of-has_lane mask (omega arith))
    ∙ mask_of-same (has_lane mask) (is_compared c.args.policy (footprint_of c.args.footprint.now) c.args.k c.args.due.now)
    (λ lane below. c.determined_lanes.ensures lane below ∙ rw (c.in-RealTime-2.is, c.if-due.false, sym c.failed.ensures ∙ c.if-failed.false) refl)
