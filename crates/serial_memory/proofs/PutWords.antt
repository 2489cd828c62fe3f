-- The bytes of a request, put word by word.
use Rattle.std.proofs.Common.{◌≡◌, ℕ, ◌+◌, ◌-◌, ◌*◌, ◌/◌, ◌%◌, ◌^◌, ◌<◌, ◌≤◌, Bool, true, false, List, length, Option, Some, None, if◌then◌else◌, min, refl, sym, ◌∙◌, ◌⊎◌, ap, arith, inl, inr, map}
use Rattle.std.specs.Prelude.{slice_get, unwrap_or}
use Rattle.std.proofs.Math.Path.{fun_ext}
use Rattle.std.proofs.Math.Pow.{pow_mono}
use Rattle.std.proofs.lemmas.Bool.Decides.{nat_tests}
use Rattle.std.proofs.lemmas.Bool.{cases_lt}
use Rattle.std.proofs.lemmas.List.{length-map}
use Rattle.std.proofs.lemmas.List.FromFn.{length-map-range_with_len}
use Rattle.bus_words.specs.Lanes.{has_lane, lane_byte}
use Rattle.tl_messages.specs.Operations.{has_data}
use Rattle.tl_messages.specs.Requests.{HeldMessage, byte_given, bytes_given}
use Rattle.tl_messages.specs.declared.MaskedWord.{MaskedWord}
use Rattle.data_unit.specs.Words.{bytes_of, full_mask, placed_at}
use Rattle.data_unit.proofs.NumberLaws.{length-bytes_of}
use Rattle.burst_plan.proofs.RequestWrites.{given_at-bytes_given, given_at-bytes_of}
use Rattle.meaning.specs.Meaning.{Bytes, with_bytes}
use Rattle.meaning.proofs.GivenBytes.{given_before, given_past}
use Rattle.sparse_memory.specs.SparseMemory.{put_word}
use Rattle.serial_memory.specs.InsideSerial.{IsWithinWord, put_below}
use Rattle.serial_memory.proofs.Words.{in_word, out_of_word}

pub length-bytes_given : (held : HeldMessage) → length (bytes_given held) ≡ 2 ^ held.size
length-bytes_given held = length-map-range_with_len (λ i. if has_data held.operation then byte_given held.address held.beats i else None) 0 (2 ^ held.size)

-- a word is put: outside its bytes nothing changes
word_put : (m n : Bytes) (a s word strobes : ℕ) → s ≤ 3 → a % 2 ^ s ≡ 0 → IsWithinWord a s strobes → ((x : ℕ) → x < a → n x ≡ m x) → ((x : ℕ) → a + 2 ^ s ≤ x → n x ≡ m x)
    → ((x : ℕ) → a ≤ x → x < a + 2 ^ s → (if has_lane strobes (x % 8) then lane_byte word (x % 8) else m x) ≡ n x) → put_word a word strobes m ≡ n
word_put m n a s word strobes small aligned within before behind inside = fun_ext (λ x. at x)
  where
    at : (x : ℕ) → put_word a word strobes m x ≡ n x
    at x = elim (cases_lt x a) [
      | inl below ↦ rw (out_of_word a s strobes x small aligned within (λ low high. omega (arith, low, below))) (sym (before x below))
      | inr low ↦ elim (cases_lt x (a + 2 ^ s)) [
        | inl high ↦ rw (in_word a s strobes x small aligned low high) (inside x low high)
        | inr above ↦ rw (out_of_word a s strobes x small aligned within (λ start high. omega (arith, high, above))) (sym (behind x above))
      ]
    ]

given_or : (has : Bool) (byte old : ℕ) → (if has then byte else old) ≡ unwrap_or (if has then Some byte else None) old
given_or true byte old = refl
given_or false byte old = refl

-- nothing is put at first
pub put_none : (m : Bytes) (address : ℕ) (bytes : List (Option ℕ)) → m ≡ put_below (address + 0 * 8) m address bytes
put_none m address bytes = fun_ext (λ x. at x)
  where
    at : (x : ℕ) → m x ≡ put_below (address + 0 * 8) m address bytes x
    at x = grind (arith, nat_tests, given_before bytes address x)

-- all is put at last
pub put_all : (held : HeldMessage) (m : Bytes) (address count : ℕ) → 2 ^ held.size ≤ count * 8 → put_below (address + count * 8) m address (bytes_given held) ≡ with_bytes m address (bytes_given held)
put_all held m address count whole = fun_ext (λ x. at x)
  where
    at : (x : ℕ) → put_below (address + count * 8) m address (bytes_given held) x ≡ with_bytes m address (bytes_given held) x
    at x = grind (arith, nat_tests, given_past (bytes_given held) address x, length-bytes_given held, whole)

-- a range is less than a word, or some words
pub sizes : (s : ℕ) → ((min s 3 ≡ s) × (2 ^ min s 3 ≡ 2 ^ s) × (2 ^ s ≤ 4)) ⊎ ((min s 3 ≡ 3) × (2 ^ min s 3 ≡ 8) × (8 ≤ 2 ^ s))
sizes s = elim (cases_lt s 3) [
  | inl few ↦ let least : min s 3 ≡ s = omega (arith, few) in inl (least, ap (λ e. 2 ^ e) least, omega (arith, pow_mono {i = s} {j = 2} (omega (arith, few))))
  | inr many ↦ let least : min s 3 ≡ 3 = omega (arith, many) in inr (least, ap (λ e. 2 ^ e) least, pow_mono {i = 3} {j = s} many)
]

-- word k of a request, at its address: within the range
pub record IsWordOf (held : HeldMessage) (address k : ℕ) (word : MaskedWord) : Type 0 where
  pub carries : has_data held.operation ≡ true
  pub lanes : held.address % 8 ≡ address % 8
  pub there : slice_get held.beats k ≡ Some word
  pub aligned : (address + k * 8) % 2 ^ min held.size 3 ≡ 0
  pub within : IsWithinWord (address + k * 8) (min held.size 3) word.mask
  pub inside : k * 8 + 2 ^ min held.size 3 ≤ 2 ^ held.size

-- one word more is put
pub put_more : (held : HeldMessage) (m : Bytes) (address k : ℕ) (word : MaskedWord) → IsWordOf held address k word
    → put_word (address + k * 8) word.word word.mask (put_below (address + k * 8) m address (bytes_given held)) ≡ put_below (address + (k + 1) * 8) m address (bytes_given held)
put_more held m address k word of =
    word_put _ _ (address + k * 8) (min held.size 3) word.word word.mask (omega arith) of.aligned of.within (λ x below. grind (arith, nat_tests, below)) (λ x above. grind (arith, nat_tests, past x above))
    (λ x low high. grind (arith, nat_tests, given x low high, low, high, wide))
  where
    wide : 2 ^ min held.size 3 ≤ 8
    wide = grind (arith, sizes held.size)

    given : (x : ℕ) → address + k * 8 ≤ x → x < address + k * 8 + 2 ^ min held.size 3 → (if has_lane word.mask (x % 8) then lane_byte word.word (x % 8) else m x) ≡ with_bytes m address (bytes_given held) x
    given x low high =
        let place : (x - address) / 8 ≡ k = omega (arith, low, high, wide) in
        let found : slice_get held.beats ((x - address) / 8) ≡ Some word = ap (λ i. slice_get held.beats i) place ∙ of.there in
        given_or (has_lane word.mask (x % 8)) (lane_byte word.word (x % 8)) (m x)
        ∙ ap (λ (o : Option ℕ). unwrap_or o (m x)) (sym (given_at-bytes_given held address x word of.carries of.lanes (omega (arith, low)) (omega (arith, high, of.inside)) found))

    past : (x : ℕ) → address + k * 8 + 2 ^ min held.size 3 ≤ x → x < address + (k + 1) * 8 → m x ≡ with_bytes m address (bytes_given held) x
    past x low high = elim (sizes held.size) [
      | inl few ↦ rw (given_past (bytes_given held) address x (omega (arith, length-bytes_given held, low, of.inside, few.1, few.2))) refl
      | inr many ↦ absurd (omega (arith, low, high, many.1))
    ]

-- the result of an atomic is put in its word
pub number_put : (m : Bytes) (address size number strobes : ℕ) → size ≤ 3 → address % 2 ^ size ≡ 0 → strobes ≡ full_mask address size → IsWithinWord address size strobes
    → put_word address (placed_at number address size) strobes m ≡ with_bytes m address (map Some (bytes_of (2 ^ size) number))
number_put m address size number strobes small aligned full within =
    word_put _ _ address size _ strobes small aligned within (λ x below. rw (given_before (map Some (bytes_of (2 ^ size) number)) address x below) refl)
    (λ x above. rw (given_past (map Some (bytes_of (2 ^ size) number)) address x (omega (arith, many, above))) refl)
    (λ x low high. rw (full, given_at-bytes_of number address size address x small aligned refl low high) (given_or (has_lane (full_mask address size) (x % 8)) (lane_byte (placed_at number address size) (x % 8)) (m x)))
  where
    many : length (map Some (bytes_of (2 ^ size) number)) ≡ 2 ^ size
    many = length-map (bytes_of (2 ^ size) number) Some ∙ length-bytes_of (2 ^ size) number
