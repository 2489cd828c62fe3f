-- The places at which words begin and end, as the bits of a number.
use Rattle.std.proofs.Common.{◌≡◌, ◌≤◌, ◌<◌, ◌==◌, ℕ, zero, suc, ◌+◌, ◌-◌, ◌*◌, ◌/◌, ◌%◌, ◌^◌, nat_le, Bool, true, false, not, cond, bit_and, bit_xor, w64, refl, sym, ap, ap₂, ◌∙◌, arith, subst}
use Rattle.std.proofs.Math.Nat.{pow-succ', add-mul, mul_assoc, mod_self}
use Rattle.std.proofs.lemmas.Bool.Decides.{nat_tests}
use Rattle.std.proofs.lemmas.Nat.{and_block, and_mask, pow_pos, shr_split, and_le_l, xor_lt}
use Rattle.std.proofs.lemmas.Nat.Bits.{bit_at_and, bit_at_xor, bit_at_lowest, bit_at-suc, bit_at-zero, bit_at-trailing_zeros, bit_at_cat_low, bit_at_cat_high, same_from_bits, same_from_bits_below}
use Rattle.std.specs.Int.{bit_at, trailing_zeros}

-- ---- a number without its lowest bit

and-same : (n : ℕ) → bit_and n n ≡ n
and-same n = same_from_bits (bit_and n n) n (λ i. omega (arith, bit_at_and n n i))

low-mod : (n t : ℕ) → ((i : ℕ) → i < t → bit_at n i ≡ 0) → n % 2 ^ t ≡ 0
low-mod n t none =
    same_from_bits_below t (n % 2 ^ t) 0 (omega (arith, pow_pos t)) (pow_pos t)
    (λ i below. sym (bit_at_cat_low (n / 2 ^ t) t (n % 2 ^ t) i below) ∙ ap (λ m. bit_at m i) (shr_split n t) ∙ none i below ∙ sym (bit_at-zero i))

-- what a number is at its lowest bit
at_lowest : (n t : ℕ) → bit_at n t ≡ 1 → n % 2 ^ t ≡ 0 → n ≡ n / 2 ^ t / 2 * 2 ^ suc t + 2 ^ t
at_lowest n t odd none =
    let p = 2 ^ t in
    let q = n / 2 ^ t / 2 in
    let whole : n / 2 ^ t ≡ q * 2 + 1 = omega (arith, odd) in
    omega (arith, shr_split n t, none, ap (λ m. m * p) whole, add-mul (q * 2) 1 p, mul_assoc q 2 p, ap (λ m. q * m) (pow-succ' 2 t))

without_lowest : (n t : ℕ) → bit_at n t ≡ 1 → n % 2 ^ t ≡ 0 → bit_and n (n - 1) ≡ n / 2 ^ t / 2 * 2 ^ suc t + 0
without_lowest n t odd none =
    let p = 2 ^ t in
    let q = n / 2 ^ t / 2 in
    let is = at_lowest n t odd none in
    let some = pow_pos t in
    let more : p < 2 ^ suc t = omega (arith, pow-succ' 2 t, some) in
    let less : n - 1 ≡ q * 2 ^ suc t + (p - 1) = omega (arith, is, some) in
    ap₂ bit_and is less ∙ and_block (suc t) q q p (p - 1) more (omega (arith, more)) ∙ ap₂ (λ a b. a * 2 ^ suc t + b) (and-same q) (and_mask p t ∙ mod_self p)

-- the lowest bit of a number, and those that are left without it
pub record IsLowest (n t rest : ℕ) : Type 0 where
  pub place : t < 64
  pub set : bit_at n t ≡ 1
  pub below : (k : ℕ) → k < t → bit_at n k ≡ 0
  pub gone : (k : ℕ) → k ≤ t → bit_at rest k ≡ 0
  pub kept : (k : ℕ) → t < k → bit_at rest k ≡ bit_at n k

pub lowest : (n : ℕ) → 0 < n → n < 2 ^ 64 → IsLowest n (trailing_zeros w64 n) (bit_and n (n - 1))
lowest n some fits = by_place (trailing_zeros w64 n) (bit_at-trailing_zeros w64 n some fits)
  where
    by_place : (t : ℕ) → (t < 64) × (bit_at n t ≡ 1) × ((i : ℕ) → i < t → bit_at n i ≡ 0) → IsLowest n t (bit_and n (n - 1))
    by_place t (place, set, below) =
        let none = low-mod n t below in
        let q = n / 2 ^ t / 2 in
        let is = without_lowest n t set none in
        let some = pow_pos t in
        record {
          place = place;
          set = set;
          below = below;
          gone = λ k low. ap (λ m. bit_at m k) is ∙ bit_at_cat_low q (suc t) 0 k (omega (arith, low)) ∙ bit_at-zero k;
          kept = λ k high.
              ap (λ m. bit_at m k) is ∙ bit_at_cat_high q (suc t) 0 k (pow_pos (suc t)) (omega (arith, high))
              ∙ sym (ap (λ m. bit_at m k) (at_lowest n t set none) ∙ bit_at_cat_high q (suc t) (2 ^ t) k (omega (arith, pow-succ' 2 t, some)) (omega (arith, high)));
        }

-- ---- the places at which a test turns

abbrev pub bit_of : Bool → ℕ
bit_of test = cond test 1 0

-- what it was a place before
abbrev before : (ℕ → Bool) → ℕ → Bool
before test zero = false
before test (suc k) = test k

-- the places from one on at which the test turns, where it was so before
pub record AreEdges (test : ℕ → Bool) (was : Bool) (from edges : ℕ) : Type 0 where
  pub fits : edges < 2 ^ 64
  pub state : before test from ≡ was
  pub here : (k : ℕ) → from ≤ k → k < 64 → bit_at edges k ≡ (bit_of (test k) + bit_of (before test k)) % 2
  pub gone : (k : ℕ) → k < from → bit_at edges k ≡ 0

pub first_edges : (test : ℕ → Bool) (mask : ℕ) → ((k : ℕ) → bit_at mask k ≡ bit_of (test k)) → mask < 2 ^ 63 → AreEdges test false 0 (bit_xor mask (mask * 2 % 2 ^ 64))
first_edges test mask bits small =
    let fits : mask * 2 % 2 ^ 64 ≡ mask * 2 = omega arith in
    rw fits
    (record {
      fits = xor_lt 64 mask (mask * 2) (omega arith) (omega arith);
      state = refl;
      here = λ k from within. bit_at_xor mask (mask * 2) k ∙ ap₂ (λ a b. (a + b) % 2) (bits k) (moved k);
      gone = λ k none. absurd (omega (arith, none));
    })
  where
    moved : (k : ℕ) → bit_at (mask * 2) k ≡ bit_of (before test k)
    moved zero = let even : mask * 2 % 2 ≡ 0 = omega arith in bit_at_lowest (mask * 2) ∙ even
    moved (suc k) = let half : mask * 2 / 2 ≡ mask = omega arith in bit_at-suc (mask * 2) k ∙ ap (λ m. bit_at m k) half ∙ bits k

no_turn : (now was : Bool) → 0 ≡ (bit_of now + bit_of was) % 2 → now ≡ was
no_turn true true same = refl
no_turn false false same = refl
no_turn true false same = absurd (omega (arith, same))
no_turn false true same = absurd (omega (arith, same))

turn : (now was : Bool) → 1 ≡ (bit_of now + bit_of was) % 2 → now ≡ not was
turn true false same = refl
turn false true same = refl
turn true true same = absurd (omega (arith, same))
turn false false same = absurd (omega (arith, same))

-- up to a place in front of which no bit is set, the test is as it was
stays : (test : ℕ → Bool) (was : Bool) (from edges t : ℕ) → AreEdges test was from edges → t ≤ 64 → ((k : ℕ) → k < t → bit_at edges k ≡ 0) → (k : ℕ) → from ≤ k → k ≤ t → before test k ≡ was
stays test was from edges t are within none zero above to = let start : from ≡ 0 = omega (arith, above) in subst (λ n. before test n ≡ was) start are.state
stays test was from edges t are within none (suc k) above to = by_place (λ on. stays test was from edges t are within none k on (omega (arith, to))) (from == suc k) refl
  where
    by_place : (from ≤ k → before test k ≡ was) → (place : Bool) → (from == suc k) ≡ place → test k ≡ was
    by_place stayed true is = let start : from ≡ suc k = grind (arith, nat_tests, is) in subst (λ n. before test n ≡ was) start are.state
    by_place stayed false other = grind (arith, stayed, other, no_turn (test k) (before test k))

-- the next place at which the test turns
pub record NextEdge (test : ℕ → Bool) (was : Bool) (from t rest : ℕ) : Type 0 where
  pub place : t < 64
  pub above : from ≤ t
  pub same : (k : ℕ) → from ≤ k → k < t → test k ≡ was
  pub turns : test t ≡ not was
  pub others : AreEdges test (not was) (suc t) rest

pub next_edge : (test : ℕ → Bool) (was : Bool) (from edges : ℕ) → AreEdges test was from edges → 0 < edges → NextEdge test was from (trailing_zeros w64 edges) (bit_and edges (edges - 1))
next_edge test was from edges are some = by_lowest (trailing_zeros w64 edges) (lowest edges some are.fits)
  where
    by_lowest : (t : ℕ) → IsLowest edges t (bit_and edges (edges - 1)) → NextEdge test was from t (bit_and edges (edges - 1))
    by_lowest t low =
        let above : from ≤ t = by_place (nat_le from t) refl in
        let within : t ≤ 64 = omega (arith, low.place) in
        let turns : test t ≡ not was =
        turn (test t) (before test t) (sym low.set ∙ are.here t above low.place) ∙ ap not (stays test was from edges t are within low.below t above (omega arith)) in
        record {
          place = low.place;
          above = above;
          same = λ k on to. stays test was from edges t are within low.below (suc k) (omega (arith, on)) to;
          turns = turns;
          others = record {
            fits = omega (arith, and_le_l edges (edges - 1), are.fits);
            state = turns;
            here = λ k on to. low.kept k on ∙ are.here k (omega (arith, on, above)) to;
            gone = λ k under. low.gone k (omega (arith, under));
          };
        }
      where
        by_place : (test : Bool) → nat_le from t ≡ test → from ≤ t
        by_place true is = grind (arith, nat_tests, is)
        by_place false other = let under : t < from = grind (arith, nat_tests, other) in absurd (omega (arith, low.set, are.gone t under))

-- where no place is left, the test stays as it was
pub no_edge : (test : ℕ → Bool) (was : Bool) (from edges : ℕ) → AreEdges test was from edges → edges ≡ 0 → (k : ℕ) → from ≤ k → k < 64 → test k ≡ was
no_edge test was from edges are none k on to = stays test was from edges 64 are (omega arith) (λ j below. ap (λ m. bit_at m j) none ∙ bit_at-zero j) (suc k) (omega (arith, on)) (omega (arith, to))
