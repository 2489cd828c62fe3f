-- A range whose bytes are a power of two, at a multiple of their number, and cuts at the multiples of another power of two: either the range lies
-- between two cuts, or the cuts divide it evenly.
use Rattle.std.proofs.Common.{◌≡◌, ℕ, ◌+◌, ◌-◌, ◌*◌, ◌/◌, ◌%◌, ◌^◌, ◌<◌, ◌≤◌, min, max, sym, ◌∙◌, ap, arith, inl, inr}
use Rattle.std.proofs.Math.Nat.{mul-le-mul_right, div-div-eq-div-mul}
use Rattle.std.proofs.lemmas.Bool.{cases_lt}
use Rattle.std.proofs.lemmas.Nat.{div-mul-add, div-add-mod', mod_below, pow-add, pow_pos}

-- cuts at the multiples of `step` divide n bytes from a on into `count` parts of `bytes` bytes
pub record IsDivided (a n step bytes count : ℕ) : Type 0 where
  pub some : 0 < bytes
  pub parts : 0 < count
  pub whole : n ≡ count * bytes
  pub cuts : (a + n - 1) / step + 1 - a / step ≡ count
  pub begins : (i : ℕ) → i < count → max a ((a / step + i) * step) ≡ a + i * bytes
  pub ends : (i : ℕ) → i < count → min (a + n) ((a / step + i + 1) * step) ≡ a + i * bytes + bytes

-- n bytes at a multiple of n lie between two neighbouring multiples of n * c
pub held_between : (n c q : ℕ) → 0 < n → 0 < c → (q * n / (n * c) * (n * c) ≤ q * n) × (q * n + n ≤ q * n / (n * c) * (n * c) + n * c)
held_between n c q some many =
    let add_nothing : q * n + 0 ≡ q * n = omega arith in
    let row : q * n / n ≡ q = (rw add_nothing at (div-mul-add q n 0 some)) in
    let quotient : q * n / (n * c) ≡ q / c = sym (div-div-eq-div-mul (q * n) n c) ∙ ap (λ z. z / c) row in
    let split : q * n ≡ (q / c * c + q % c) * n = ap (λ z. z * n) (sym (div-add-mod' q c)) in
    let fits : (q % c + 1) * n ≤ c * n = mul-le-mul_right n (omega (arith, mod_below q c many)) in
    rw quotient (omega arith, omega arith)

-- a range that lies between two cuts is one part
divided_once : (n c q : ℕ) → 0 < n → 0 < c → IsDivided (q * n) n (n * c) n 1
divided_once n c q some many =
    let held = held_between n c q some many in
    let step = n * c in
    let last : q * n + n - 1 ≡ q * n / step * step + (q * n + n - 1 - q * n / step * step) = omega arith in
    let last_cut : (q * n + n - 1) / step ≡ q * n / step = rw last (div-mul-add (q * n / step) step (q * n + n - 1 - q * n / step * step) (omega arith)) in
    record {
      some = some;
      parts = omega arith;
      whole = omega arith;
      cuts = rw last_cut (omega arith);
      begins = λ i below. let first : i ≡ 0 = omega arith in rw first (omega arith);
      ends = λ i below. let first : i ≡ 0 = omega arith in rw first (omega arith);
    }

-- a range of several steps is cut at each
divided_evenly : (step c q : ℕ) → 0 < step → 0 < c → IsDivided (q * (step * c)) (step * c) step step c
divided_evenly step c q some many =
    let steps_before : (c - 1) * step + step ≡ c * step = let parts : c ≡ c - 1 + 1 = omega arith in sym (ap (λ z. z * step) parts ∙ omega arith) in
    let first : q * (step * c) ≡ q * c * step + 0 = omega arith in
    let first_cut : q * (step * c) / step ≡ q * c = ap (λ z. z / step) first ∙ div-mul-add (q * c) step 0 some in
    let least : 1 * step ≤ c * step = mul-le-mul_right step (omega arith) in
    let last : q * (step * c) + step * c - 1 ≡ (q * c + (c - 1)) * step + (step - 1) = omega (arith, steps_before) in
    let last_cut : (q * (step * c) + step * c - 1) / step ≡ q * c + (c - 1) = ap (λ z. z / step) last ∙ div-mul-add (q * c + (c - 1)) step (step - 1) (omega arith) in
    record {
      some = some;
      parts = many;
      whole = omega arith;
      cuts = rw (last_cut, first_cut) (omega arith);
      begins = λ i below. rw first_cut (omega arith);
      ends = λ i below. let within : (i + 1) * step ≤ c * step = mul-le-mul_right step (omega arith) in rw first_cut (omega arith);
    }

-- 2^s bytes at a multiple of their number, and cuts at the multiples of 2^e
pub divided : (a s e : ℕ) → a % 2 ^ s ≡ 0 → IsDivided a (2 ^ s) (2 ^ e) (2 ^ min s e) (2 ^ (s - min s e))
divided a s e aligned =
    let rows : a ≡ a / 2 ^ s * 2 ^ s = omega (arith, div-add-mod' a (2 ^ s)) in
    rw rows (elim (cases_lt e s) [
      | inl below ↦
          let least : min s e ≡ e = omega arith in
          let parts : 2 ^ s ≡ 2 ^ e * 2 ^ (s - e) = ap (λ z. 2 ^ z) (let whole : s ≡ e + (s - e) = omega arith in whole) ∙ pow-add 2 e (s - e) in
          rw (least, parts) (divided_evenly (2 ^ e) (2 ^ (s - e)) (a / (2 ^ e * 2 ^ (s - e))) (pow_pos e) (pow_pos (s - e)))
      | inr above ↦
          let least : min s e ≡ s = omega arith in
          let none : s - s ≡ 0 = omega arith in
          let parts : 2 ^ e ≡ 2 ^ s * 2 ^ (e - s) = ap (λ z. 2 ^ z) (let whole : e ≡ s + (e - s) = omega arith in whole) ∙ pow-add 2 s (e - s) in
          rw (least, none, parts) (divided_once (2 ^ s) (2 ^ (e - s)) (a / 2 ^ s) (pow_pos s) (pow_pos (e - s)))
    ])
