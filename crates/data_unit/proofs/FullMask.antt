-- The full mask by its lanes, and as the code computes it.
use Rattle.std.proofs.Common.{◌≡◌, ℕ, zero, suc, ◌+◌, ◌-◌, ◌*◌, ◌%◌, ◌^◌, ◌<◌, ◌≤◌, true, refl, sym, ◌∙◌, arith}
use Rattle.std.specs.Int.{rotate_left, w8}
use Rattle.bus_words.specs.Lanes.{has_lane, is_between, mask_of}
use Rattle.bus_words.proofs.BelowEight.{below_eight}
use Rattle.bus_words.proofs.MaskLaws.{has_lane-mask_of, mask_of-same}
use Rattle.tl_messages.specs.Lanes.{in_lanes, lane_of}
use Rattle.data_unit.specs.Words.{full_mask}
use Rattle.data_unit.proofs.AlignedLanes.{in_lanes_every, in_lanes-lane_of, in_lanes-aligned}

pub has_lane-full_mask : (address size lane : ℕ) → lane < 8 → has_lane (full_mask address size) lane ≡ in_lanes address size lane
has_lane-full_mask address size lane below = has_lane-mask_of (in_lanes address size) lane below

-- the mask depends on the address's lane alone
pub full_mask-lane_of : (address size : ℕ) → full_mask (lane_of address) size ≡ full_mask address size
full_mask-lane_of address size = mask_of-same (in_lanes (lane_of address) size) (in_lanes address size) (λ lane below. sym (in_lanes-lane_of address size lane))

-- from size 3 on, it has every lane
pub full_mask_every : (address size : ℕ) → 3 ≤ size → full_mask address size ≡ 255
full_mask_every address size big = mask_of-same (in_lanes address size) (λ lane. true) (λ lane below. in_lanes_every address size lane big below)

-- that of an aligned address has the lanes from the first byte's to the last's
pub full_mask-aligned : (address size : ℕ) → address % 2 ^ size ≡ 0 → full_mask address size ≡ mask_of (is_between (lane_of address) (lane_of address + 2 ^ size - 1))
full_mask-aligned address size aligned =
    mask_of-same (in_lanes address size) (is_between (lane_of address) (lane_of address + 2 ^ size - 1)) (λ lane below. in_lanes-aligned address size lane below aligned)

-- the lanes of an address in lane 0, turned round to the address's lane
abbrev pub turned : ℕ → ℕ → ℕ
turned size lane = rotate_left w8 (1 * 2 ^ (1 * 2 ^ size % 256) % 256 - 1) lane

turned_at : (size lane : ℕ) → size < 3 → lane < 8 → turned size lane ≡ full_mask lane size
turned_at zero lane small below = below_eight (λ k. turned 0 k ≡ full_mask k 0) refl refl refl refl refl refl refl refl lane below
turned_at (suc zero) lane small below = below_eight (λ k. turned 1 k ≡ full_mask k 1) refl refl refl refl refl refl refl refl lane below
turned_at (suc (suc zero)) lane small below = below_eight (λ k. turned 2 k ≡ full_mask k 2) refl refl refl refl refl refl refl refl lane below
turned_at (suc (suc (suc size))) lane small below = absurd (omega arith)

pub turned-lane_of : (address size : ℕ) → size < 3 → turned size (lane_of address) ≡ full_mask address size
turned-lane_of address size small = turned_at size (lane_of address) small (omega arith) ∙ full_mask-lane_of address size
