-- The bytes of shifted, cut and joined numbers. Byte k of a number is its lane k.
use Rattle.std.proofs.Common.{◌≡◌, ℕ, zero, suc, ◌+◌, ◌-◌, ◌*◌, ◌/◌, ◌%◌, ◌^◌, ◌<◌, ◌≤◌, refl, sym, ◌∙◌, ap, arith, pow-suc, zero-add}
use Rattle.std.specs.Prelude.{bit_and, bit_or}
use Rattle.std.proofs.Math.Pow.{pow-add, shr-shr, shl-shr, field, mod-mod-pow, shr_lt, pow_mono}
use Rattle.std.proofs.Math.Nat.{mul_assoc}
use Rattle.std.proofs.lemmas.Nat.{and_shr, and_mod, or_shr, or_mod}
use Rattle.bus_words.specs.Lanes.{lane_byte}

pow-bytes : (k : ℕ) → 256 ^ k ≡ 2 ^ (8 * k)
pow-bytes zero = refl
pow-bytes (suc k) =
    let more : 8 * suc k ≡ 8 * k + 8 = omega arith in
    let split : 2 ^ (8 * k + 8) ≡ 2 ^ (8 * k) * 256 = pow-add 2 (8 * k) 8 in
    rw more (omega (arith, pow-suc 256 k, pow-bytes k, split))

-- byte k is what stands from bit 8 * k on
pub lane_byte-shr : (word k : ℕ) → lane_byte word k ≡ word / 2 ^ (8 * k) % 2 ^ 8
lane_byte-shr word zero = omega arith
lane_byte-shr word (suc k) = rw (pow-bytes (suc k)) refl

-- a number moved down by whole bytes
pub lane_byte-down : (word r k : ℕ) → lane_byte (word / 2 ^ (8 * r)) k ≡ lane_byte word (r + k)
lane_byte-down word r k =
    let joined : 8 * r + 8 * k ≡ 8 * (r + k) = omega arith in
    lane_byte-shr (word / 2 ^ (8 * r)) k ∙ ap (λ n. n % 2 ^ 8) (shr-shr word (8 * r) (8 * k) ∙ ap (λ j. word / 2 ^ j) joined) ∙ sym (lane_byte-shr word (r + k))

-- a number cut down to its lowest n bytes
pub lane_byte-low : (word n k : ℕ) → k < n → lane_byte (word % 2 ^ (8 * n)) k ≡ lane_byte word k
lane_byte-low word n k below =
    let rest = 8 * (n - suc k) in
    let parts : 8 * n ≡ rest + 8 + 8 * k = omega arith in
    rw parts
    (lane_byte-shr (word % 2 ^ (rest + 8 + 8 * k)) k ∙ ap (λ m. m % 2 ^ 8) (field word (rest + 8) (8 * k)) ∙ mod-mod-pow (word / 2 ^ (8 * k)) rest 8 ∙ sym (lane_byte-shr word k))

-- a number of n bytes has none from the n-th on
pub lane_byte-past : (word n k : ℕ) → word < 2 ^ (8 * n) → n ≤ k → lane_byte word k ≡ 0
lane_byte-past word n k fits past = lane_byte-shr word k ∙ ap (λ m. m % 2 ^ 8) none
  where
    small : word < 2 ^ (0 + 8 * k)
    small = rw (zero-add (8 * k)) (omega (arith, pow_mono {i = 8 * n} {j = 8 * k} (omega arith)))

    none : word / 2 ^ (8 * k) ≡ 0
    none = omega (arith, shr_lt 0 (8 * k) small)

-- a number moved up by whole bytes
pub lane_byte-up : (word r k : ℕ) → r ≤ k → lane_byte (word * 2 ^ (8 * r)) k ≡ lane_byte word (k - r)
lane_byte-up word r k from =
    let whole : r + (k - r) ≡ k = omega arith in
    sym (lane_byte-down (word * 2 ^ (8 * r)) r (k - r) ∙ ap (λ j. lane_byte (word * 2 ^ (8 * r)) j) whole) ∙ ap (λ n. lane_byte n (k - r)) (shl-shr word (8 * r))

pub lane_byte-up_below : (word r k : ℕ) → k < r → lane_byte (word * 2 ^ (8 * r)) k ≡ 0
lane_byte-up_below word r k below =
    let rest = 8 * (r - suc k) in
    let parts : 8 * r ≡ rest + 8 + 8 * k = omega arith in
    rw (lane_byte-shr (word * 2 ^ (8 * r)) k, parts, moved (word) (rest + 8) (8 * k), higher word rest) refl
  where
    moved : (n i j : ℕ) → n * 2 ^ (i + j) / 2 ^ j ≡ n * 2 ^ i
    moved n i j = ap (λ m. m / 2 ^ j) (ap (λ m. n * m) (pow-add 2 i j) ∙ sym (mul_assoc n (2 ^ i) (2 ^ j))) ∙ shl-shr (n * 2 ^ i) j

    higher : (n i : ℕ) → n * 2 ^ (i + 8) % 2 ^ 8 ≡ 0
    higher n i = ap (λ m. m % 256) (ap (λ m. n * m) (pow-add 2 i 8) ∙ sym (mul_assoc n (2 ^ i) 256)) ∙ omega arith

-- joined bit by bit
pub lane_byte-and : (v w k : ℕ) → lane_byte (bit_and v w) k ≡ bit_and (lane_byte v k) (lane_byte w k)
lane_byte-and v w k =
    rw (lane_byte-shr (bit_and v w) k, lane_byte-shr v k, lane_byte-shr w k) (ap (λ n. n % 2 ^ 8) (and_shr v w (8 * k)) ∙ and_mod (v / 2 ^ (8 * k)) (w / 2 ^ (8 * k)) 8)

pub lane_byte-or : (v w k : ℕ) → lane_byte (bit_or v w) k ≡ bit_or (lane_byte v k) (lane_byte w k)
lane_byte-or v w k =
    rw (lane_byte-shr (bit_or v w) k, lane_byte-shr v k, lane_byte-shr w k) (ap (λ n. n % 2 ^ 8) (or_shr v w (8 * k)) ∙ or_mod (v / 2 ^ (8 * k)) (w / 2 ^ (8 * k)) 8)
