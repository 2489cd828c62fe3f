-- Masks that are merged, lane by lane.
use Rattle.std.proofs.Common.{◌≡◌, ℕ, zero, suc, ◌-◌, ◌<◌, ◌==◌, max, Bool, true, false, not, ◌&&◌, ◌||◌, if◌then◌else◌, bit_and, bit_or, refl, sym, ◌∙◌, ap, ap₂, arith, w8}
use Rattle.std.specs.Int.{bit_at}
use Rattle.std.proofs.lemmas.Nat.{and_le_l, or_lt}
use Rattle.std.proofs.lemmas.Nat.Bits.{bit_at_or, bit_at_not, bit_at-lt}
use Rattle.bus_words.specs.Lanes.{has_lane}
use Rattle.bus_words.proofs.MaskLaws.{has_lane-and, has_lane-mask_of, mask_of-lt, same_lanes}
use Rattle.sparse_memory.specs.SparseMemory.{flags_merged}

-- a lane is in one of two masks where it is in one of them
has_lane-or : (v w lane : ℕ) → has_lane (bit_or v w) lane ≡ (has_lane v lane || has_lane w lane)
has_lane-or v w lane = ap (λ n. n == 1) (bit_at_or v w lane) ∙ either (bit_at v lane) (bit_at w lane) (bit_at-lt v lane) (bit_at-lt w lane)
  where
    either : (a b : ℕ) → a < 2 → b < 2 → (max a b == 1) ≡ ((a == 1) || (b == 1))
    either zero b small fits = grind arith
    either (suc zero) zero small fits = refl
    either (suc zero) (suc zero) small fits = refl
    either (suc zero) (suc (suc b)) small fits = absurd (omega arith)
    either (suc (suc a)) b small fits = absurd (omega arith)

-- a lane is in a mask with every bit turned over where it wasn't in it
has_lane-not : (mask lane : ℕ) → mask < 256 → lane < 8 → has_lane (255 - mask) lane ≡ not (has_lane mask lane)
has_lane-not mask lane fits below = ap (λ n. n == 1) (bit_at_not w8 mask lane fits below) ∙ turned (bit_at mask lane) (bit_at-lt mask lane)
  where
    turned : (a : ℕ) → a < 2 → (1 - a == 1) ≡ not (a == 1)
    turned zero small = refl
    turned (suc zero) small = refl
    turned (suc (suc a)) small = absurd (omega arith)

-- a lane of a merged mask is the new one's where it is strobed
pub has_lane-merged : (old new strobes lane : ℕ) → lane < 8 → has_lane (flags_merged old new strobes) lane ≡ (if has_lane strobes lane then has_lane new lane else has_lane old lane)
unfolding flags_merged
has_lane-merged old new strobes lane below = has_lane-mask_of (λ k. if has_lane strobes k then has_lane new k else has_lane old k) lane below

chosen : (strobed new old : Bool) → (old && not strobed || new && strobed) ≡ (if strobed then new else old)
chosen true true true = refl
chosen true true false = refl
chosen true false true = refl
chosen true false false = refl
chosen false true true = refl
chosen false true false = refl
chosen false false true = refl
chosen false false false = refl

-- masks are merged by their bits
pub merged-masks : (old new strobes : ℕ) → old < 256 → new < 256 → strobes < 256 → bit_or (bit_and old (255 - strobes)) (bit_and new strobes) ≡ flags_merged old new strobes
unfolding flags_merged
merged-masks old new strobes old_fits new_fits fits = same_lanes (bit_or (bit_and old (255 - strobes)) (bit_and new strobes)) (flags_merged old new strobes) small (mask_of-lt (λ k. if has_lane strobes k then has_lane new k else has_lane old k)) each
  where
    small : bit_or (bit_and old (255 - strobes)) (bit_and new strobes) < 256
    small = or_lt 8 (bit_and old (255 - strobes)) (bit_and new strobes) (omega (arith, and_le_l old (255 - strobes))) (omega (arith, and_le_l new strobes))

    each : (lane : ℕ) → lane < 8 → has_lane (bit_or (bit_and old (255 - strobes)) (bit_and new strobes)) lane ≡ has_lane (flags_merged old new strobes) lane
    each lane below =
        has_lane-or (bit_and old (255 - strobes)) (bit_and new strobes) lane
        ∙ ap₂ (λ a b. a || b) (has_lane-and old (255 - strobes) lane ∙ ap (λ b. has_lane old lane && b) (has_lane-not strobes lane fits below)) (has_lane-and new strobes lane)
        ∙ chosen (has_lane strobes lane) (has_lane new lane) (has_lane old lane)
        ∙ sym (has_lane-merged old new strobes lane below)
