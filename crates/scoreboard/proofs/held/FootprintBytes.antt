-- The bytes of a request: they are in one page, and of one of its words after another each is determined or isn't.
use Rattle.std.proofs.Common.{◌≡◌, ℕ, zero, suc, w8, ◌==◌, ◌+◌, ◌-◌, ◌*◌, ◌/◌, ◌%◌, ◌^◌, ◌<◌, ◌≤◌, min, Bool, true, false, ◌&&◌, ◌||◌, not, List, get_or, refl, sym, ◌∙◌, ap, ap₂, arith, inl, inr}
use Rattle.std.specs.Prelude.{nat_le, nat_lt}
use Rattle.std.specs.List.{list_all, range_with_len}
use Rattle.std.proofs.Math.Path.{fun_ext}
use Rattle.std.proofs.Math.Pow.{pow_mono}
use Rattle.std.proofs.lemmas.Bool.{and_parts, cases_lt, leb-true, ltb-true}
use Rattle.std.proofs.lemmas.Bool.Decides.{nat_tests}
use Rattle.std.specs.Int.{bit_at}
use Rattle.std.proofs.lemmas.Nat.{pow-add, pow_pos}
use Rattle.std.proofs.lemmas.Nat.Bits.{bit_at-lt, bit_at_not}
use Rattle.tl_messages.specs.Lanes.{in_lanes}
use Rattle.data_unit.proofs.AlignedLanes.{in_lanes-aligned, in_lanes_every}
use Rattle.bus_words.specs.Lanes.{has_lane, word_address}
use Rattle.bus_words.proofs.MaskLaws.{has_lane-mask_of, same_lanes}
use Rattle.bus_words.proofs.Ranges.{all_pass, passes_at}
use Rattle.meaning.proofs.SerialReplies.{in_page}
use Rattle.serial_memory.specs.SerialMemory.{IsMemoryRange}
use Rattle.serial_memory.proofs.PutWords.{sizes}
use Rattle.serial_memory.proofs.Words.{same_word, word_aligned, word_in_page}
use Rattle.scoreboard.specs.InsideBoards.{FootprintState, determined_in, footprint_of, words_of}
use Rattle.scoreboard.specs.Boards.{kept_from}
use Rattle.scoreboard.specs.Flights.{Footprint}
use Rattle.scoreboard.specs.Races.{beside, covers, is_fixed, may_write, unless_failed}

-- ---- how many, and where

pub few_bytes : (size : ℕ) → size ≤ 12 → 2 ^ size ≤ 4096
few_bytes size small = pow_mono {i = size} {j = 12} small

byte_in_page : (address size i : ℕ) → IsMemoryRange address size → i < 2 ^ size → (address + i) / 4096 ≡ address / 4096
byte_in_page address size i range below = in_page 8 address size i (inr refl) range.small range.aligned below

pub byte_exists : (address size i : ℕ) → address < 2 ^ 32 → IsMemoryRange address size → i < 2 ^ size → address + i < 2 ^ 32
byte_exists address size i low range below = omega (arith, low, byte_in_page address size i range below)

-- ---- by words

pub no_lane : (lane : ℕ) → lane < 8 → has_lane 0 lane ≡ false
no_lane lane below = has_lane-mask_of (λ k. false) lane below

pub every_lane : (lane : ℕ) → lane < 8 → has_lane 255 lane ≡ true
every_lane lane below = has_lane-mask_of (λ k. true) lane below

-- a lane is in a mask with every bit turned over where it wasn't in it
pub has_lane-not : (mask lane : ℕ) → mask < 256 → lane < 8 → has_lane (255 - mask) lane ≡ not (has_lane mask lane)
has_lane-not mask lane fits below = ap (λ n. n == 1) (bit_at_not w8 mask lane fits below) ∙ turned (bit_at mask lane) (bit_at-lt mask lane)
  where
    turned : (a : ℕ) → a < 2 → (1 - a == 1) ≡ not (a == 1)
    turned zero small = refl
    turned (suc zero) small = refl
    turned (suc (suc a)) small = absurd (omega arith)

-- how many words there are
pub one_word : (size : ℕ) → size < 3 → 1 ≡ words_of size
one_word size few = omega (arith, pow_mono {i = size} {j = 2} (omega (arith, few)))

split : (size : ℕ) → 3 ≤ size → 2 ^ size ≡ 2 ^ (size - 3) * 8
split size many = ap (λ n. 2 ^ n) (omega (arith, many)) ∙ pow-add 2 (size - 3) 3

pub many_words : (size : ℕ) → 3 ≤ size → size ≤ 12 → (1 * 2 ^ (size - 3) % 4294967296 ≡ words_of size) × (1 * 2 ^ (size - 3) % 4294967296 ≤ 512)
many_words size many small =
    let most = pow_mono {i = size - 3} {j = 9} (omega (arith, small)) in (omega (arith, split size many, pow_pos (size - 3), most), omega (arith, split size many, pow_pos (size - 3), most))

-- a range of words is at a multiple of 8
whole_word : (a size : ℕ) → IsMemoryRange a size → 3 ≤ size → a % 8 ≡ 0
whole_word a size range many = eights (min size 3) (omega (arith, many)) (word_aligned a size 0 (record { range = range; inside = omega arith }))
  where
    eights : (n : ℕ) → n ≡ 3 → (a + 0 * 8) % 2 ^ n ≡ 0 → a % 8 ≡ 0
    eights n three aligned = let plain : (a + 0 * 8) % 8 ≡ 0 = ap (λ (m : ℕ). (a + 0 * 8) % 2 ^ m) (sym three) ∙ aligned in omega (arith, plain)

pub word_fits : (a size k : ℕ) → a < 2 ^ 32 → IsMemoryRange a size → k < words_of size → a / 8 * 8 + 8 * k < 2 ^ 32
word_fits a size k low range below = elim (cases_lt size 3) [
  | inl few ↦ omega (arith, low, below, one_word size few)
  | inr many ↦
      let words : words_of size ≡ 2 ^ (size - 3) = omega (arith, split size many, pow_pos (size - 3)) in
      let inside : 8 * k < 2 ^ size = omega (arith, below, words, split size many) in
      omega (arith, whole_word a size range many, byte_exists a size (8 * k) low range inside)
]

-- a byte of a range is in one of its words
pub place_below : (a size x : ℕ) → IsMemoryRange a size → a ≤ x → x < a + 2 ^ size → x / 8 - a / 8 < words_of size
place_below a size x range low high = elim (sizes size) [
  | inl few ↦ omega (arith, same_word a size x (omega (arith, few.0)) range.aligned low high)
  | inr many ↦
      let wide : 3 ≤ size = omega (arith, many.0) in
      omega (arith, whole_word a size range wide, split size wide, low, high)
]

-- and at its lane there
pub place_of_byte : (a x : ℕ) → a ≤ x → word_address a + 8 * (x / 8 - a / 8) + x % 8 ≡ x
place_of_byte a x low = omega (arith, low)

pub within : (a n x : ℕ) → (nat_le a x && nat_lt x (a + n)) ≡ true → (a ≤ x) × (x < a + n)
within a n x is = let parts = and_parts (nat_le a x) (nat_lt x (a + n)) is in (leb-true a x parts.0, ltb-true x (a + n) parts.1)

-- what is told of each lane of each word is told of all bytes by their addresses
pub by_word : (a size : ℕ) (masks : List ℕ) (told : ℕ → Bool) → IsMemoryRange a size
    → ((k lane : ℕ) → k < words_of size → lane < 8 → has_lane (get_or masks k 0) lane ≡ told (word_address a + 8 * k + lane)) → (x : ℕ)
    → (nat_le a x && nat_lt x (a + 2 ^ size) && has_lane (get_or masks (x / 8 - a / 8) 0) (x % 8)) ≡ (nat_le a x && nat_lt x (a + 2 ^ size) && told x)
by_word a size masks told range each x = by_test (nat_le a x && nat_lt x (a + 2 ^ size)) refl
  where
    by_test : (b : Bool) → (nat_le a x && nat_lt x (a + 2 ^ size)) ≡ b → (b && has_lane (get_or masks (x / 8 - a / 8) 0) (x % 8)) ≡ (b && told x)
    by_test false is = refl
    by_test true is =
        let at = within a (2 ^ size) x is in
        each (x / 8 - a / 8) (x % 8) (place_below a size x range at.0 at.1) (omega arith) ∙ ap told (place_of_byte a x at.0)

-- the address of a word of a range is that of a word
pub word_again : (a k : ℕ) → word_address (word_address a + 8 * k) ≡ word_address a + 8 * k
word_again a k = omega arith

-- ---- the lanes of a word

pub word_within : (a size word : ℕ) → (nat_le (a / 8) (word / 8) && nat_lt (word / 8 - a / 8) (words_of size)) ≡ true → (a / 8 ≤ word / 8) × (word / 8 - a / 8 < words_of size)
word_within a size word is = grind (arith, is)

-- a byte of a word that has one of a request's
pub lane_of_word : (r : FootprintState) (word lane : ℕ) → word % 8 ≡ 0 → lane < 8
    → (covers (footprint_of r) (word + lane) && has_lane (get_or r.determined (word / 8 - r.address / 8) 0) lane) ≡ determined_in r (word + lane)
lane_of_word r word lane whole less = grind (arith, whole, less)

-- none is a request's that has no byte in the word
pub not_own : (a size word lane : ℕ) → IsMemoryRange a size → word % 8 ≡ 0 → lane < 8 → (nat_le (a / 8) (word / 8) && nat_lt (word / 8 - a / 8) (words_of size)) ≡ false
    → (nat_le a (word + lane) && nat_lt (word + lane) (a + 2 ^ size)) ≡ false
not_own a size word lane range whole less none = by_test (nat_le a (word + lane) && nat_lt (word + lane) (a + 2 ^ size)) refl
  where
    by_test : (b : Bool) → (nat_le a (word + lane) && nat_lt (word + lane) (a + 2 ^ size)) ≡ b → b ≡ false
    by_test false is = refl
    by_test true is =
        let at = within a (2 ^ size) (word + lane) is in
        let same : (word + lane) / 8 ≡ word / 8 = omega (arith, whole, less) in
        let below = place_below a size (word + lane) range at.0 at.1 in
        absurd (grind (arith, nat_tests, none, same, below, at.0))

-- else those of the range are
pub own_lane : (a size word lane : ℕ) → IsMemoryRange a size → word % 8 ≡ 0 → lane < 8 → (nat_le (a / 8) (word / 8) && nat_lt (word / 8 - a / 8) (words_of size)) ≡ true
    → in_lanes a size lane ≡ (nat_le a (word + lane) && nat_lt (word + lane) (a + 2 ^ size))
own_lane a size word lane range whole less has = elim (cases_lt size 3) [
  | inl few ↦
      let there = word_within a size word has in
      let same : word / 8 ≡ a / 8 = omega (arith, there, one_word size few) in
      in_lanes-aligned a size lane less range.aligned ∙ grind (arith, nat_tests, same, whole, less, pow_pos size)
  | inr many ↦
      let there = word_within a size word has in
      let words : words_of size ≡ 2 ^ (size - 3) = omega (arith, split size many, pow_pos (size - 3)) in
      let low : a ≤ word + lane = omega (arith, there, whole_word a size range many) in
      let high : word + lane < a + 2 ^ size = omega (arith, there, whole_word a size range many, words, split size many, whole, less) in
      in_lanes_every a size lane many less ∙ sym (grind (arith, nat_tests, low, high))
]

-- a word of a range is one of its own
own_word : (a size k : ℕ) → k < words_of size → (nat_le (a / 8) ((word_address a + 8 * k) / 8) && nat_lt ((word_address a + 8 * k) / 8 - a / 8) (words_of size)) ≡ true
own_word a size k below = grind (arith, below)

-- those of one of its own words
pub own_lane_of_word : (a size k lane : ℕ) → IsMemoryRange a size → k < words_of size → lane < 8
    → in_lanes a size lane ≡ (nat_le a (word_address a + 8 * k + lane) && nat_lt (word_address a + 8 * k + lane) (a + 2 ^ size))
own_lane_of_word a size k lane range below less = own_lane a size (word_address a + 8 * k) lane range (omega arith) less (own_word a size k below)

-- and the place of its word among them
pub word_place : (a size k lane : ℕ) → IsMemoryRange a size → k < words_of size → lane < 8 → a ≤ word_address a + 8 * k + lane → word_address a + 8 * k + lane < a + 2 ^ size
    → (word_address a + 8 * k + lane - a) / 8 ≡ k
word_place a size k lane range below less low high = elim (sizes size) [
  | inl few ↦ omega (arith, few, below, less, low, high)
  | inr many ↦ omega (arith, whole_word a size range (omega (arith, many.0)), less, low, high)
]

-- none is its own after its last word
pub past_own : (r : FootprintState) (k lane : ℕ) → IsMemoryRange r.address r.size → lane < 8 → words_of r.size ≤ k → covers (footprint_of r) (word_address r.address + 8 * k + lane) ≡ false
past_own r k lane range less past = by_test (covers (footprint_of r) (word_address r.address + 8 * k + lane)) refl
  where
    by_test : (b : Bool) → covers (footprint_of r) (word_address r.address + 8 * k + lane) ≡ b → covers (footprint_of r) (word_address r.address + 8 * k + lane) ≡ false
    by_test false is = is
    by_test true is =
        let at = within r.address (2 ^ r.size) (word_address r.address + 8 * k + lane) is in
        absurd (omega (arith, place_below r.address r.size (word_address r.address + 8 * k + lane) range at.0 at.1, less, past))

-- nor determined
pub past_words : (r : FootprintState) (k lane : ℕ) → IsMemoryRange r.address r.size → lane < 8 → words_of r.size ≤ k → determined_in r (word_address r.address + 8 * k + lane) ≡ false
past_words r k lane range less past = grind (arith, range, less, past, past_own r k lane range less past)

-- a word of a range is in its page
pub room_word : (rooms : ℕ → Bool) (address size k : ℕ) → IsMemoryRange address size → k < words_of size → rooms (address / 4096) ≡ true → rooms ((word_address address + 8 * k) / 4096) ≡ true
room_word rooms address size k range below room =
    let same : (word_address address + 8 * k) / 4096 ≡ (address + k * 8) / 4096 = omega arith in
    ap rooms (same ∙ word_in_page address size k (record { range = range; inside = below })) ∙ room

-- ---- all of its bytes

-- those that another has given way
pub given_way : (old now : FootprintState) (other : Footprint) → IsMemoryRange old.address old.size → other.writes ≡ true → now ≡ record old { determined = now.determined }
    → ((k lane : ℕ) → k < words_of old.size → lane < 8 → has_lane (get_or now.determined k 0) lane
    ≡ (has_lane (get_or old.determined k 0) lane && not (covers other (word_address old.address + 8 * k + lane)))) → footprint_of now ≡ beside (footprint_of old) other
given_way old now other range writes rest each =
    ap footprint_of rest ∙ ap (λ (f : ℕ → Bool). record (footprint_of old) { determined = f }) (fun_ext (λ x. at x))
  where
    at : (x : ℕ) → determined_in (record old { determined = now.determined }) x ≡ (determined_in old x && not (may_write other x))
    at x =
        by_word old.address old.size now.determined (λ y. has_lane (get_or old.determined (y / 8 - old.address / 8) 0) (y % 8) && not (covers other y)) range
        (λ k lane below less.
        let word : (word_address old.address + 8 * k + lane) / 8 - old.address / 8 ≡ k = omega (arith, less) in
        let own : (word_address old.address + 8 * k + lane) % 8 ≡ lane = omega (arith, less) in
        each k lane below less ∙ rw (word, own) refl) x
        ∙ rw writes (grind arith)

-- those that are kept of a request that had begun
pub kept : (old now : FootprintState) (coming : Footprint) → IsMemoryRange old.address old.size → now ≡ record old { failed = old.failed || coming.failed; determined = now.determined }
    → ((k lane : ℕ) → k < words_of old.size → lane < 8 → has_lane (get_or now.determined k 0) lane
    ≡ (has_lane (get_or old.determined k 0) lane && coming.determined (word_address old.address + 8 * k + lane))) → footprint_of now ≡ kept_from coming (footprint_of old)
kept old now coming range rest each =
    ap footprint_of rest
    ∙ ap₂ {C = Footprint} (λ (b : Bool) (f : ℕ → Bool). record (footprint_of old) { failed = b; determined = f }) (either old.failed coming.failed) (fun_ext (λ x. at x))
  where
    either : (b d : Bool) → (b || d) ≡ (d || b)
    either b d = grind arith

    at : (x : ℕ) → determined_in (record old { failed = old.failed || coming.failed; determined = now.determined }) x ≡ (determined_in old x && coming.determined x)
    at x =
        by_word old.address old.size now.determined (λ y. has_lane (get_or old.determined (y / 8 - old.address / 8) 0) (y % 8) && coming.determined y) range
        (λ k lane below less.
        let word : (word_address old.address + 8 * k + lane) / 8 - old.address / 8 ≡ k = omega (arith, less) in
        let own : (word_address old.address + 8 * k + lane) % 8 ≡ lane = omega (arith, less) in
        each k lane below less ∙ rw (word, own) refl) x
        ∙ grind arith

-- those of one that has failed
pub none_determined : (old now : FootprintState) → IsMemoryRange old.address old.size → now ≡ record old { failed = true; determined = now.determined }
    → ((k : ℕ) → k < words_of old.size → get_or now.determined k 0 ≡ 0) → footprint_of now ≡ unless_failed true (footprint_of old)
none_determined old now range rest each =
    ap footprint_of rest ∙ ap {B = Footprint} (λ (f : ℕ → Bool). record (footprint_of old) { failed = true; determined = f }) (fun_ext (λ x. at x))
  where
    at : (x : ℕ) → determined_in (record old { failed = true; determined = now.determined }) x ≡ false
    at x = by_word old.address old.size now.determined (λ y. false) range (λ k lane below less. ap (λ mask. has_lane mask lane) (each k below) ∙ no_lane lane less) x ∙ grind arith

-- those of one that was determined anew
pub determined_anew : (old now : FootprintState) (told : ℕ → Bool) → IsMemoryRange old.address old.size → now ≡ record old { determined = now.determined }
    → ((k lane : ℕ) → k < words_of old.size → lane < 8 → has_lane (get_or now.determined k 0) lane ≡ told (word_address old.address + 8 * k + lane))
    → footprint_of now ≡ record (footprint_of old) { determined = λ x. covers (footprint_of old) x && told x }
determined_anew old now told range rest each =
    ap footprint_of rest ∙ ap (λ (f : ℕ → Bool). record (footprint_of old) { determined = f }) (fun_ext (λ x. by_word old.address old.size now.determined told range each x))

-- ---- whether all of them are

module _ (r : FootprintState) where
  abbrev every : Bool
  every = list_all (λ i. determined_in r (r.address + i)) (range_with_len 0 (2 ^ r.size))

  -- where all are determined, a byte is if it is its own
  fixed_byte : (x : ℕ) → every ≡ true → determined_in r x ≡ covers (footprint_of r) x
  fixed_byte x all = by_test (covers (footprint_of r) x) refl
    where
      by_test : (b : Bool) → covers (footprint_of r) x ≡ b → determined_in r x ≡ b
      by_test false is = ap (λ (b : Bool). b && has_lane (get_or r.determined (x / 8 - r.address / 8) 0) (x % 8)) is
      by_test true is =
          let at = within r.address (2 ^ r.size) x is in
          ap (determined_in r) (omega (arith, at)) ∙ passes_at (λ i. determined_in r (r.address + i)) 0 (2 ^ r.size) (x - r.address) all (omega (arith, at))

  pub not_fixed : (word determined own : ℕ) → determined < 256 → own < 256 → r.reads ≡ true → ((lane : ℕ) → lane < 8 → has_lane determined lane ≡ determined_in r (word + lane))
      → ((lane : ℕ) → lane < 8 → has_lane own lane ≡ covers (footprint_of r) (word + lane)) → ¬ (determined ≡ own) → false ≡ is_fixed (footprint_of r)
  not_fixed word determined own first second reads told lanes differ = by_test every refl
    where
      by_test : (b : Bool) → every ≡ b → false ≡ (not r.reads || b)
      by_test false is = rw reads refl
      by_test true is = absurd (differ (same_lanes determined own first second (λ lane less. told lane less ∙ fixed_byte (word + lane) is ∙ sym (lanes lane less))))

  pub all_fixed : IsMemoryRange r.address r.size
      → ((k lane : ℕ) → k < words_of r.size → lane < 8 → covers (footprint_of r) (word_address r.address + 8 * k + lane) ≡ true → determined_in r (word_address r.address + 8 * k + lane) ≡ true)
      → true ≡ is_fixed (footprint_of r)
  all_fixed range each =
      rw (all_pass (λ i. determined_in r (r.address + i)) 0 (2 ^ r.size) (λ i below. at (r.address + (0 + i)) (omega arith) (omega (arith, below)))) (either (not r.reads))
    where
      at : (x : ℕ) → r.address ≤ x → x < r.address + 2 ^ r.size → determined_in r x ≡ true
      at x low high =
          let place = place_of_byte r.address x low in
          ap (determined_in r) (sym place)
          ∙ each (x / 8 - r.address / 8) (x % 8) (place_below r.address r.size x range low high) (omega arith) (ap (covers (footprint_of r)) place ∙ grind (arith, nat_tests, low, high))

      either : (b : Bool) → true ≡ (b || true)
      either true = refl
      either false = refl
