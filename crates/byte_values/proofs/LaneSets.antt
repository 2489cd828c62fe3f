-- Sets of lanes, lane by lane.
use Rattle.std.proofs.Common.{◌≡◌, ℕ, zero, suc, ◌-◌, ◌<◌, ◌==◌, max, Bool, true, false, not, ◌&&◌, ◌||◌, List, [], ◌∷◌, bit_and, bit_or, refl, sym, ◌∙◌, ap, arith, w8}
use Rattle.std.specs.Int.{bit_at}
use Rattle.std.specs.List.{list_any}
use Rattle.std.proofs.lemmas.Bool.{eqb-true}
use Rattle.std.proofs.lemmas.Nat.{and_le_l}
use Rattle.std.proofs.lemmas.Nat.Bits.{bit_at-zero, bit_at_ones, bit_at_or, bit_at_not, bit_at-lt}
use Rattle.std.proofs.Math.Bool.{or_assoc}
use Rattle.bus_words.specs.Lanes.{has_lane}
use Rattle.bus_words.proofs.MaskLaws.{has_lane-and, has_lane-mask_of, mask_of-lt, same_lanes}
use Rattle.byte_values.specs.Parts.{with_all}
use Rattle.byte_values.specs.Words.{WordHolding, gives_lanes, lanes_without}

-- a lane is in one of two sets or more where it is in one of them
pub has_lane-or : (v w lane : ℕ) → has_lane (bit_or v w) lane ≡ (has_lane v lane || has_lane w lane)
has_lane-or v w lane = ap (λ n. n == 1) (bit_at_or v w lane) ∙ either (bit_at v lane) (bit_at w lane) (bit_at-lt v lane) (bit_at-lt w lane)
  where
    either : (a b : ℕ) → a < 2 → b < 2 → (max a b == 1) ≡ ((a == 1) || (b == 1))
    either zero b small fits = grind arith
    either (suc zero) zero small fits = refl
    either (suc zero) (suc zero) small fits = refl
    either (suc zero) (suc (suc b)) small fits = absurd (omega arith)
    either (suc (suc a)) b small fits = absurd (omega arith)

-- and it is in a set with every bit turned over where it wasn't in it
pub has_lane-not : (mask lane : ℕ) → mask < 256 → lane < 8 → has_lane (255 - mask) lane ≡ not (has_lane mask lane)
has_lane-not mask lane fits below = ap (λ n. n == 1) (bit_at_not w8 mask lane fits below) ∙ turned (bit_at mask lane) (bit_at-lt mask lane)
  where
    turned : (a : ℕ) → a < 2 → (1 - a == 1) ≡ not (a == 1)
    turned zero small = refl
    turned (suc zero) small = refl
    turned (suc (suc a)) small = absurd (omega arith)

pub has_lane-none : (lane : ℕ) → has_lane 0 lane ≡ false
has_lane-none lane = ap (λ n. n == 1) (bit_at-zero lane)

pub has_lane-every : (lane : ℕ) → lane < 8 → has_lane 255 lane ≡ true
has_lane-every lane below = ap (λ n. n == 1) (bit_at_ones 8 lane below)

pub has_lane-without : (v w lane : ℕ) → lane < 8 → has_lane (lanes_without v w) lane ≡ (has_lane v lane && not (has_lane w lane))
unfolding lanes_without
has_lane-without v w lane below = has_lane-mask_of (λ k. has_lane v k && not (has_lane w k)) lane below

without-lt : (v w : ℕ) → lanes_without v w < 256
unfolding lanes_without
without-lt v w = mask_of-lt (λ k. has_lane v k && not (has_lane w k))

-- the lanes that are left are those of both bits
pub without-bits : (v w : ℕ) → v < 256 → w < 256 → bit_and v (255 - w) ≡ lanes_without v w
without-bits v w small fits =
    same_lanes (bit_and v (255 - w)) (lanes_without v w) (omega (arith, and_le_l v (255 - w))) (without-lt v w)
    (λ lane below. has_lane-and v (255 - w) lane ∙ ap (λ b. has_lane v lane && b) (has_lane-not w lane fits below) ∙ sym (has_lane-without v w lane below))

-- one that gives no lane gives none
pub gives_none : (w : WordHolding) (lane : ℕ) → gives_lanes w ≡ false → has_lane w.lanes lane ≡ false
gives_none w lane none = by_test (w.lanes == 0) refl none
  where
    by_test : (b : Bool) → (w.lanes == 0) ≡ b → not b ≡ false → has_lane w.lanes lane ≡ false
    by_test true is gone = ap (λ n. has_lane n lane) (eqb-true w.lanes 0 is) ∙ has_lane-none lane
    by_test false is gone = absurd (cc)

pub or_nothing : (a : Bool) → (a || false) ≡ a
or_nothing true = refl
or_nothing false = refl

-- a lane is in all of some sets together where it is in one of them
pub has_lane-with_all : (lanes_of : WordHolding → ℕ) (lane lanes : ℕ) (ws : List WordHolding)
    → has_lane (with_all lanes_of lanes ws) lane ≡ (has_lane lanes lane || list_any (λ w. has_lane (lanes_of w) lane) ws)
has_lane-with_all lanes_of lane lanes [] = sym (or_nothing (has_lane lanes lane))
has_lane-with_all lanes_of lane lanes (w ∷ ws) =
    has_lane-with_all lanes_of lane (bit_or lanes (lanes_of w)) ws
    ∙ ap (λ b. b || list_any (λ x. has_lane (lanes_of x) lane) ws) (has_lane-or lanes (lanes_of w) lane)
    ∙ or_assoc (has_lane lanes lane) (has_lane (lanes_of w) lane) (list_any (λ x. has_lane (lanes_of x) lane) ws)
