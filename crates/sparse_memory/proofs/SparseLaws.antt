-- What a state says of each byte, after a page was changed, and after one got room.
use Rattle.std.proofs.Common.{◌≡◌, ℕ, ◌+◌, ◌/◌, ◌%◌, ◌^◌, ◌<◌, ◌==◌, Bool, true, false, List, [], length, Option, None, Some, is_some, if◌then◌else◌, nat_eq, refl, sym, ◌∙◌, ap, arith}
use Rattle.std.specs.Prelude.{slice_index}
use Rattle.std.proofs.Math.Path.{fun_ext}
use Rattle.std.proofs.lemmas.Bool.Decides.{nat_tests}
use Rattle.bus_words.specs.Lanes.{has_lane, lane_byte, mask_of, word_address}
use Rattle.bus_words.proofs.LaneLaws.{word_of_lanes-lane_byte, word_of_lanes-same}
use Rattle.bus_words.proofs.MaskLaws.{mask_of-has_lane, mask_of-same}
use Rattle.subordinate.specs.Faults.{device_fault, is_good, standing_at}
use Rattle.sparse_memory.specs.Ranges.{is_unknown, pages_in}
use Rattle.sparse_memory.specs.SparseMemory.{IsSoundState, PageState, SparseState, byte_of, bytes_in, doubt_of, doubts_in, faults_in, flags_in, is_strobed, page_in, put_flags, put_word, sparse_state, word_in}
use Rattle.sparse_memory.specs.declared.PageRange.{PageRange}
use Rattle.sparse_memory.proofs.PageLaws.{byte-with_word, doubt-with_doubts, with_doubts, with_word}

-- a page that isn't found has no room
pub none-of : (o : Option PageState) → is_some o ≡ false → o ≡ None
none-of None missing = refl
none-of (Some page) missing = absurd (cc (missing))

-- one page is changed, or has got room; no other is
pub record ChangesPage (old new : SparseState) (number : ℕ) (page : PageState) : Type 0 where
  pub ranges : new.ranges ≡ old.ranges
  pub becomes : page_in new number ≡ Some page
  pub others : (q : ℕ) → nat_eq number q ≡ false → page_in new q ≡ page_in old q

-- what is said of each byte by its page and its place in it, of two states that differ in one page
each_byte : {X : Type 0} (number : ℕ) (f g : ℕ → X) → ((x : ℕ) → x / 4096 ≡ number → f x ≡ g x) → ((x : ℕ) → nat_eq number (x / 4096) ≡ false → f x ≡ g x) → f ≡ g
each_byte number f g here away = fun_ext (λ x. by_page x (nat_eq number (x / 4096)) refl)
  where
    by_page : (x : ℕ) (b : Bool) → nat_eq number (x / 4096) ≡ b → f x ≡ g x
    by_page x true is = here x (grind (arith, nat_tests, is))
    by_page x false is = away x is

bytes-away : (old new : SparseState) (number : ℕ) (page : PageState) (x : ℕ) → ChangesPage old new number page → nat_eq number (x / 4096) ≡ false → bytes_in new x ≡ bytes_in old x
unfolding bytes_in
bytes-away old new number page x changes away = ap (λ (o : Option PageState). byte_of o (x % 4096)) (changes.others (x / 4096) away)

doubts-away : (old new : SparseState) (number : ℕ) (page : PageState) (x : ℕ) → ChangesPage old new number page → nat_eq number (x / 4096) ≡ false → doubts_in new x ≡ doubts_in old x
unfolding doubts_in
doubts-away old new number page x changes away =
    ap (λ (ranges : List PageRange). doubt_of (is_unknown ranges (x / 4096)) (page_in new (x / 4096)) (x % 4096)) changes.ranges
    ∙ ap (λ (o : Option PageState). doubt_of (is_unknown old.ranges (x / 4096)) o (x % 4096)) (changes.others (x / 4096) away)

-- a byte of a page that has room
byte-of : (state : SparseState) (x number : ℕ) (page : PageState) → x / 4096 ≡ number → page_in state number ≡ Some page → bytes_in state x ≡ byte_of (Some page) (x % 4096)
unfolding bytes_in
byte-of state x number page here there = ap (λ q. byte_of (page_in state q) (x % 4096)) here ∙ ap (λ (o : Option PageState). byte_of o (x % 4096)) there

doubt-of : (state : SparseState) (x number : ℕ) (page : PageState) → x / 4096 ≡ number → page_in state number ≡ Some page → doubts_in state x ≡ doubt_of (is_unknown state.ranges number) (Some page) (x % 4096)
unfolding doubts_in
doubt-of state x number page here there =
    ap (λ q. doubt_of (is_unknown state.ranges q) (page_in state q) (x % 4096)) here ∙ ap (λ (o : Option PageState). doubt_of (is_unknown state.ranges number) o (x % 4096)) there

-- bytes of one page are in the same word where they have the same place in it
same_word : (x address : ℕ) → x / 4096 ≡ address / 4096 → (x % 4096 / 8 == address % 4096 / 8) ≡ (word_address x == word_address address)
same_word x address here = grind (arith, nat_tests, here)

other_word : (x address strobes : ℕ) → nat_eq (address / 4096) (x / 4096) ≡ false → is_strobed address strobes x ≡ false
other_word x address strobes away = let apart : (word_address x == word_address address) ≡ false = grind (arith, nat_tests, away) in rw apart refl

lane-of : (x : ℕ) → x % 4096 % 8 ≡ x % 8
lane-of x = omega arith

-- ---- a word is put

pub bytes-put : (old new : SparseState) (address word strobes : ℕ) (page : PageState) → page_in old (address / 4096) ≡ Some page → length page.words ≡ 512
    → ChangesPage old new (address / 4096) (with_word page (address % 4096 / 8) word strobes) → bytes_in new ≡ put_word address word strobes (bytes_in old)
bytes-put old new address word strobes page there whole changes = each_byte (address / 4096) (bytes_in new) (put_word address word strobes (bytes_in old)) here away
  where
    here : (x : ℕ) → x / 4096 ≡ address / 4096 → bytes_in new x ≡ put_word address word strobes (bytes_in old) x
    here x same =
        byte-of new x (address / 4096) (with_word page (address % 4096 / 8) word strobes) same changes.becomes
        ∙ byte-with_word page (address % 4096 / 8) word strobes (x % 4096) whole (omega arith)
        ∙ rw (same_word x address same, byte-of old x (address / 4096) page same there, lane-of x) refl

    away : (x : ℕ) → nat_eq (address / 4096) (x / 4096) ≡ false → bytes_in new x ≡ put_word address word strobes (bytes_in old) x
    away x apart = bytes-away old new (address / 4096) _ x changes apart ∙ rw (other_word x address strobes apart) refl

-- the doubts are then what they were
pub doubts-kept : (old new : SparseState) (number : ℕ) (page changed : PageState) → page_in old number ≡ Some page → changed.doubts ≡ page.doubts → ChangesPage old new number changed → doubts_in new ≡ doubts_in old
doubts-kept old new number page changed there same changes = each_byte number (doubts_in new) (doubts_in old) here (λ x away. doubts-away old new number changed x changes away)
  where
    here : (x : ℕ) → x / 4096 ≡ number → doubts_in new x ≡ doubts_in old x
    here x is =
        doubt-of new x number changed is changes.becomes
        ∙ ap (λ (doubts : List ℕ). has_lane (slice_index doubts (x % 4096 / 8)) (x % 4096 % 8)) same
        ∙ sym (doubt-of old x number page is there)

-- ---- the doubts of a word are put

pub doubts-put : (old new : SparseState) (address doubts strobes : ℕ) (page : PageState) → page_in old (address / 4096) ≡ Some page → length page.doubts ≡ 512
    → ChangesPage old new (address / 4096) (with_doubts page (address % 4096 / 8) doubts strobes) → doubts_in new ≡ put_flags address doubts strobes (doubts_in old)
doubts-put old new address doubts strobes page there whole changes = each_byte (address / 4096) (doubts_in new) (put_flags address doubts strobes (doubts_in old)) here away
  where
    here : (x : ℕ) → x / 4096 ≡ address / 4096 → doubts_in new x ≡ put_flags address doubts strobes (doubts_in old) x
    here x same =
        doubt-of new x (address / 4096) (with_doubts page (address % 4096 / 8) doubts strobes) same changes.becomes
        ∙ doubt-with_doubts (is_unknown old.ranges (address / 4096)) page (address % 4096 / 8) doubts strobes (x % 4096) whole (omega arith)
        ∙ rw (same_word x address same, doubt-of old x (address / 4096) page same there, lane-of x) refl

    away : (x : ℕ) → nat_eq (address / 4096) (x / 4096) ≡ false → doubts_in new x ≡ put_flags address doubts strobes (doubts_in old) x
    away x apart = doubts-away old new (address / 4096) _ x changes apart ∙ rw (other_word x address strobes apart) refl

-- the bytes are then what they were
pub bytes-kept : (old new : SparseState) (number : ℕ) (page changed : PageState) → page_in old number ≡ Some page → changed.words ≡ page.words → ChangesPage old new number changed → bytes_in new ≡ bytes_in old
bytes-kept old new number page changed there same changes = each_byte number (bytes_in new) (bytes_in old) here (λ x away. bytes-away old new number changed x changes away)
  where
    here : (x : ℕ) → x / 4096 ≡ number → bytes_in new x ≡ bytes_in old x
    here x is =
        byte-of new x number changed is changes.becomes
        ∙ ap (λ (words : List ℕ). lane_byte (slice_index words (x % 4096 / 8)) (x % 4096 % 8)) same
        ∙ sym (byte-of old x number page is there)

-- ---- a page gets room

pub no-byte-of : (state : SparseState) (x number : ℕ) → x / 4096 ≡ number → page_in state number ≡ None → bytes_in state x ≡ 0
unfolding bytes_in
no-byte-of state x number here none = ap (λ q. byte_of (page_in state q) (x % 4096)) here ∙ ap (λ (o : Option PageState). byte_of o (x % 4096)) none

pub no-doubt-of : (state : SparseState) (x number : ℕ) → x / 4096 ≡ number → page_in state number ≡ None → doubts_in state x ≡ is_unknown state.ranges number
unfolding doubts_in
no-doubt-of state x number here none =
    ap (λ q. doubt_of (is_unknown state.ranges q) (page_in state q) (x % 4096)) here ∙ ap (λ (o : Option PageState). doubt_of (is_unknown state.ranges number) o (x % 4096)) none

pub bytes-new_page : (old new : SparseState) (number : ℕ) (page : PageState) → page_in old number ≡ None → ((place : ℕ) → place < 4096 → byte_of (Some page) place ≡ 0) → ChangesPage old new number page
    → bytes_in new ≡ bytes_in old
bytes-new_page old new number page none zeros changes =
    each_byte number (bytes_in new) (bytes_in old)
    (λ x is. byte-of new x number page is changes.becomes ∙ zeros (x % 4096) (omega arith) ∙ sym (no-byte-of old x number is none))
    (λ x away. bytes-away old new number page x changes away)

pub doubts-new_page : (old new : SparseState) (number : ℕ) (page : PageState) (unknown : Bool) → page_in old number ≡ None → unknown ≡ is_unknown old.ranges number
    → ((place : ℕ) → place < 4096 → doubt_of unknown (Some page) place ≡ unknown) → ChangesPage old new number page → doubts_in new ≡ doubts_in old
doubts-new_page old new number page unknown none which doubts changes =
    each_byte number (doubts_in new) (doubts_in old)
    (λ x is. doubt-of new x number page is changes.becomes ∙ doubts (x % 4096) (omega arith) ∙ which ∙ sym (no-doubt-of old x number is none))
    (λ x away. doubts-away old new number page x changes away)

-- ---- nothing has room

pub sound-none : (ranges : List PageRange) (bad_words : List ℕ) → device_fault (pages_in ranges) bad_words ≡ None → IsSoundState (sparse_state ranges bad_words [])
sound-none ranges bad_words sound = record { faults = sound; room = λ address there. absurd (cc (there)) }

pub bytes-none : (state : SparseState) → ((number : ℕ) → page_in state number ≡ None) → bytes_in state ≡ (λ address. 0)
bytes-none state none = fun_ext (λ x. no-byte-of state x (x / 4096) refl (none (x / 4096)))

pub doubts-none : (state : SparseState) (ranges : List PageRange) → state.ranges ≡ ranges → ((number : ℕ) → page_in state number ≡ None) → doubts_in state ≡ (λ address. is_unknown ranges (address / 4096))
doubts-none state ranges is none = fun_ext (λ x. no-doubt-of state x (x / 4096) refl (none (x / 4096)) ∙ ap (λ (rs : List PageRange). is_unknown rs (x / 4096)) is)

-- ---- a word is read

pub word-of : (state : SparseState) (address word : ℕ) (page : PageState) → page_in state (address / 4096) ≡ Some page → word < 2 ^ 64 → word ≡ slice_index page.words (address % 4096 / 8) → word ≡ word_in (bytes_in state) address
unfolding word_in
word-of state address word page there fits is =
    sym (word_of_lanes-lane_byte word fits) ∙ word_of_lanes-same (lane_byte word) (λ lane. bytes_in state (word_address address + lane)) each
  where
    each : (lane : ℕ) → lane < 8 → lane_byte word lane ≡ bytes_in state (word_address address + lane)
    each lane below =
        let place : (word_address address + lane) % 4096 / 8 ≡ address % 4096 / 8 = omega arith in
        let within : (word_address address + lane) % 4096 % 8 ≡ lane = omega arith in
        ap (λ w. lane_byte w lane) is ∙ sym (byte-of state (word_address address + lane) (address / 4096) page (omega arith) there ∙ rw (place, within) refl)

pub no-word : (state : SparseState) (address : ℕ) → page_in state (address / 4096) ≡ None → 0 ≡ word_in (bytes_in state) address
unfolding word_in
no-word state address none =
    word_of_lanes-same (λ lane. 0) (λ lane. bytes_in state (word_address address + lane)) (λ lane below. sym (no-byte-of state (word_address address + lane) (address / 4096) (omega arith) none))

pub mask-of : (state : SparseState) (address mask : ℕ) (page : PageState) → page_in state (address / 4096) ≡ Some page → mask < 256 → mask ≡ slice_index page.doubts (address % 4096 / 8) → mask ≡ flags_in (doubts_in state) address
unfolding flags_in
mask-of state address mask page there fits is =
    sym (mask_of-has_lane mask fits) ∙ mask_of-same (has_lane mask) (λ lane. doubts_in state (word_address address + lane)) each
  where
    each : (lane : ℕ) → lane < 8 → has_lane mask lane ≡ doubts_in state (word_address address + lane)
    each lane below =
        let place : (word_address address + lane) % 4096 / 8 ≡ address % 4096 / 8 = omega arith in
        let within : (word_address address + lane) % 4096 % 8 ≡ lane = omega arith in
        ap (λ m. has_lane m lane) is ∙ sym (doubt-of state (word_address address + lane) (address / 4096) page (omega arith) there ∙ rw (place, within) refl)

pub no-mask : (state : SparseState) (address : ℕ) (unknown : Bool) → page_in state (address / 4096) ≡ None → unknown ≡ is_unknown state.ranges (address / 4096)
    → (if unknown then 255 else 0) ≡ flags_in (doubts_in state) address
unfolding flags_in
no-mask state address unknown none which =
    elim unknown as (λ b. (if b then 255 else 0) ≡ mask_of (λ lane. b)) [ true ↦ refl | false ↦ refl ]
    ∙ mask_of-same (λ lane. unknown) (λ lane. doubts_in state (word_address address + lane)) (λ lane below. which ∙ sym (no-doubt-of state (word_address address + lane) (address / 4096) (omega arith) none))

-- ---- a byte is read

pub byte-read : (state : SparseState) (address : ℕ) (page : PageState) → page_in state (address / 4096) ≡ Some page → IsSoundState state
    → Some (lane_byte (slice_index page.words (address % 4096 / 8)) (address % 8)) ≡ (if is_good (standing_at (faults_in state) address) then Some (bytes_in state address) else None)
byte-read state address page there sound =
    rw (sound.room address (ap (λ (o : Option PageState). is_some o) there), byte-of state address (address / 4096) page refl there, lane-of address) refl

pub byte-zero : (state : SparseState) (address : ℕ) → page_in state (address / 4096) ≡ None → is_good (standing_at (faults_in state) address) ≡ true
    → Some 0 ≡ (if is_good (standing_at (faults_in state) address) then Some (bytes_in state address) else None)
byte-zero state address none good = rw (good, no-byte-of state address (address / 4096) refl none) refl
