-- The mask so far is below the next lane's bit, so that the sum fits; at the end it is the mask of all eight lanes.
use Rattle.std.proofs.Common.{◌≡◌, false, slice_index_or, arith, rules, ap, ◌∙◌}
use Rattle.std.proofs.Math.Pow.{pow_mono}
use Rattle.bus_words.specs.Lanes.{has_lane, mask_of}
use Rattle.bus_words.proofs.MaskLaws.{has_lane-mask_of, mask_below-lt}
use Rattle.bus_words.proofs.mask_of.Goals as goal

pub overflow_add-mask : goal.overflow_add-mask
overflow_add-mask c =
    omega (arith, mask_below-lt (λ lane. slice_index_or c.args.lanes lane false) c.loop-lane.lane, c.loop-lane.invariant, pow_mono {i = c.loop-lane.lane} {j = 7} (omega arith))

pub returns-clause-lanes : goal.returns-clause-lanes
returns-clause-lanes c =
    λ lane below.
    ap (λ mask. has_lane mask lane) whole ∙ has_lane-mask_of (λ lane. slice_index_or c.args.lanes lane false) lane below
  where
    whole : c.loop-lane.mask ≡ mask_of (λ lane. slice_index_or c.args.lanes lane false)
    whole = search rules

pub loop-lane-preserved : goal.loop-lane-preserved
loop-lane-preserved c = search rules
