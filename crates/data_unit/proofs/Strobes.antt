-- Strobes widened to a word: every bit of a strobed lane, and none of another.
use Rattle.std.proofs.Common.{◌≡◌, ℕ, ◌+◌, ◌*◌, ◌/◌, ◌<◌, ◌==◌, Bool, true, false, if◌then◌else◌, refl, ◌∙◌, ap, lit<}
use Rattle.std.specs.Prelude.{bit_and}
use Rattle.std.proofs.lemmas.Bool.{agree_below, agree_below_at, eqb-true}
use Rattle.bus_words.specs.Lanes.{lane_byte, has_lane, word_of_lanes}
use Rattle.bus_words.proofs.LaneLaws.{lane_byte-word_of_lanes}

-- as the code computes it
abbrev pub spread : ℕ → ℕ
spread strobes = bit_and (bit_and (strobes * 0x0101010101010101) 0x8040201008040201 + 0x7f7f7f7f7f7f7f7f) 0x8080808080808080 / 128 * 255

abbrev wide : ℕ → ℕ
wide strobes = word_of_lanes (λ lane. if has_lane strobes lane then 255 else 0)

every_mask : agree_below (λ strobes. spread strobes == wide strobes) (λ strobes. true) 256 ≡ true
every_mask = refl

spread-wide : (strobes : ℕ) → strobes < 256 → spread strobes ≡ wide strobes
spread-wide strobes fits = eqb-true (spread strobes) (wide strobes) (agree_below_at (λ k. spread k == wide k) (λ k. true) 256 strobes every_mask fits)

pub lane_byte-spread : (strobes lane : ℕ) → strobes < 256 → lane < 8 → lane_byte (spread strobes) lane ≡ (if has_lane strobes lane then 255 else 0)
lane_byte-spread strobes lane fits below =
    ap (λ word. lane_byte word lane) (spread-wide strobes fits)
    ∙ lane_byte-word_of_lanes (λ k. if has_lane strobes k then 255 else 0) lane (record { at = λ k within. either (has_lane strobes k) }) below
  where
    either : (b : Bool) → (if b then 255 else 0) < 256
    either true = lit< tt
    either false = lit< tt
