-- The lanes between two lanes are 2 ^ (highest + 1) - 2 ^ lowest, which is what the code computes.
use Rattle.std.proofs.Common.{◌≡◌, ℕ, ◌-◌, ◌*◌, ◌^◌, ◌%◌, ◌<◌, ◌≤◌, arith, sym, ap, ◌∙◌, pow-suc}
use Rattle.std.proofs.Math.Pow.{pow_mono}
use Rattle.bus_words.specs.Lanes.{has_lane, is_between, mask_of}
use Rattle.bus_words.proofs.MaskLaws.{has_lane-mask_of, mask_of-is_between}
use Rattle.bus_words.proofs.lanes_between.Goals as goal

as_computed : (lowest highest : ℕ) → lowest ≤ highest → highest < 8 → 2 * 2 ^ highest % 65536 - 1 * 2 ^ lowest % 65536 ≡ mask_of (is_between lowest highest)
as_computed lowest highest order top =
    omega (arith, pow-suc 2 highest, pow_mono {i = lowest} {j = highest} order, pow_mono {i = highest} {j = 7} (omega arith))
    ∙ sym (mask_of-is_between lowest highest top)

pub overflow_sub-result : goal.overflow_sub-result
overflow_sub-result c =
    omega (arith, pow-suc 2 c.args.highest, pow_mono {i = c.args.lowest} {j = c.args.highest} c.requires.order, pow_mono {i = c.args.highest} {j = 7} (omega arith))

pub returns-clause-value : goal.returns-clause-value
returns-clause-value c = as_computed c.args.lowest c.args.highest c.requires.order c.requires.top

pub returns-clause-lanes : goal.returns-clause-lanes
returns-clause-lanes c =
    λ lane below.
    ap (λ mask. has_lane mask lane) (as_computed c.args.lowest c.args.highest c.requires.order c.requires.top)
    ∙ has_lane-mask_of (is_between c.args.lowest c.args.highest) lane below
