-- From size 3 on every lane is there; below it there are three masks for lane 0, and eight lanes to turn them to.
use Rattle.std.proofs.Common.{ℕ, zero, suc, ◌*◌, ◌%◌, ◌^◌, ◌<◌, ◌≤◌, sym, ◌∙◌, ap, arith, lit<, lit≤}
use Rattle.bus_words.specs.Lanes.{has_lane}
use Rattle.data_unit.proofs.FullMask.{has_lane-full_mask, full_mask_every, full_mask-aligned, turned-lane_of}
use Rattle.data_unit.proofs.words.full_mask.Goals as goal

pub returns-then-size-ge3-clause-value : goal.returns-then-size-ge3-clause-value
returns-then-size-ge3-clause-value c = sym (full_mask_every c.args.address c.args.size (omega arith))

pub returns-then-size-ge3-clause-lanes : goal.returns-then-size-ge3-clause-lanes
returns-then-size-ge3-clause-lanes c =
    λ lane below.
    ap (λ mask. has_lane mask lane) (sym (full_mask_every c.args.address c.args.size (omega arith)))
    ∙ has_lane-full_mask c.args.address c.args.size lane below

pub returns-then-size-ge3-clause-aligned : goal.returns-then-size-ge3-clause-aligned
returns-then-size-ge3-clause-aligned c =
    λ aligned.
    sym (full_mask_every c.args.address c.args.size (omega arith)) ∙ full_mask-aligned c.args.address c.args.size aligned

shift_fits : (size : ℕ) → size < 3 → 1 * 2 ^ size % 256 < 8
shift_fits zero small = lit< tt
shift_fits (suc zero) small = lit< tt
shift_fits (suc (suc zero)) small = lit< tt
shift_fits (suc (suc (suc size))) small = absurd (omega arith)

has_lowest : (size : ℕ) → size < 3 → 1 ≤ 1 * 2 ^ (1 * 2 ^ size % 256) % 256
has_lowest zero small = lit≤ tt
has_lowest (suc zero) small = lit≤ tt
has_lowest (suc (suc zero)) small = lit≤ tt
has_lowest (suc (suc (suc size))) small = absurd (omega arith)

pub overflow_shl-lowest-2 : goal.overflow_shl-lowest-2
overflow_shl-lowest-2 c = shift_fits c.args.size (omega arith)

pub overflow_sub-lowest : goal.overflow_sub-lowest
overflow_sub-lowest c = has_lowest c.args.size (omega arith)

pub returns-clause-value : goal.returns-clause-value
returns-clause-value c = c.rotate_left.ensures ∙ turned-lane_of c.args.address c.args.size (omega arith)

pub returns-clause-lanes : goal.returns-clause-lanes
returns-clause-lanes c =
    λ lane below.
    ap (λ mask. has_lane mask lane) (c.rotate_left.ensures ∙ turned-lane_of c.args.address c.args.size (omega arith))
    ∙ has_lane-full_mask c.args.address c.args.size lane below

pub returns-clause-aligned : goal.returns-clause-aligned
returns-clause-aligned c =
    λ aligned.
    (c.rotate_left.ensures ∙ turned-lane_of c.args.address c.args.size (omega arith)) ∙ full_mask-aligned c.args.address c.args.size aligned
