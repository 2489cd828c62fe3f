-- The bytes indeterminate, as one word after another is marked.
use Rattle.std.proofs.Common.{◌≡◌, ℕ, ◌+◌, ◌-◌, ◌*◌, ◌/◌, ◌%◌, ◌^◌, ◌<◌, ◌≤◌, ◌==◌, Bool, true, false, ◌&&◌, List, [], ◌∷◌, Option, Some, None, length, if◌then◌else◌, refl, sym, ◌∙◌, ap, arith, true≢false, inl, inr}
use Rattle.std.specs.Prelude.{is_some, nat_le, nat_lt, slice_get}
use Rattle.std.proofs.Math.Path.{fun_ext}
use Rattle.std.proofs.lemmas.Bool.{cases_lt}
use Rattle.std.proofs.lemmas.Bool.Decides.{nat_tests}
use Rattle.bus_words.specs.Lanes.{given_at, has_lane, lane_byte, word_address}
use Rattle.bus_words.proofs.PlaceChanges.{all-got}
use Rattle.tl_messages.specs.Lanes.{in_lanes}
use Rattle.tl_messages.specs.Operations.{beats_of, has_data}
use Rattle.tl_messages.specs.Requests.{HeldMessage, beat_at, bytes_given}
use Rattle.tl_messages.specs.declared.MaskedWord.{MaskedWord}
use Rattle.tl_checker.specs.Sound.{IsRightMask}
use Rattle.data_unit.proofs.AlignedLanes.{in_lanes-lane_of}
use Rattle.burst_plan.proofs.RequestWrites.{given_at-bytes_given}
use Rattle.sparse_memory.specs.SparseMemory.{put_flags}
use Rattle.meaning.proofs.GivenBytes.{given_before, given_past}
use Rattle.serial_memory.proofs.PutWords.{length-bytes_given}
use Rattle.serial_memory.proofs.RequestWords
use Rattle.serial_memory.proofs.RequestWords.{beat_there}
use Rattle.serial_memory.specs.SerialMemory.{IsCheckedRequest, IsMemoryRange, MemoryState}
use Rattle.scoreboard.specs.Flights.{Footprint}
use Rattle.scoreboard.specs.InsideBoards.{IsMarkedAlone, words_of}
use Rattle.scoreboard.specs.Races.{after_given, beside_dependent}
use Rattle.scoreboard.proofs.held.FootprintBytes.{own_lane_of_word, place_below, within, word_place}

-- ---- memories of which only the doubts differ

pub marked_none : (state : MemoryState) → IsMarkedAlone state state
marked_none state = record { memory = refl; rooms = refl }

pub marked_then : {old between new : MemoryState} → IsMarkedAlone old between → IsMarkedAlone between new → IsMarkedAlone old new
marked_then first next = record { memory = next.memory ∙ first.memory; rooms = next.rooms ∙ first.rooms }

-- ---- one word

-- the flags of a word are put where its bytes pass a test
pub word_marked : (passes told now new : ℕ → Bool) (word flags mask : ℕ) → new ≡ put_flags word flags mask now → word % 8 ≡ 0
    → ((lane : ℕ) → lane < 8 → has_lane mask lane ≡ passes (word + lane)) → ((lane : ℕ) → lane < 8 → has_lane flags lane ≡ told (word + lane)) → (x : ℕ)
    → new x ≡ (if passes x && word_address x == word then told x else now x)
word_marked passes told now new word flags mask is whole strobes marks x = grind (arith, is, whole, strobes, marks)

-- ---- the words before a place, their bytes marked where they pass a test; the others as they were

module _ (passes told d : ℕ → Bool) (address size : ℕ) (inside : (x : ℕ) → passes x ≡ true → (address ≤ x) × (x < address + 2 ^ size)) where
  abbrev pub marked_to : ℕ → ℕ → Bool
  marked_to k x = if passes x && nat_lt (word_address x) (word_address address + 8 * k) then told x else d x

  pub none_marked : (x : ℕ) → d x ≡ marked_to 0 x
  none_marked x = grind (arith, inside)

  pub one_more_marked : (now new : ℕ → Bool) (k : ℕ) → ((x : ℕ) → now x ≡ marked_to k x)
      → ((x : ℕ) → new x ≡ (if passes x && word_address x == word_address address + 8 * k then told x else now x)) → (x : ℕ) → new x ≡ marked_to (k + 1) x
  one_more_marked now new k before step x = step x ∙ grind (arith, nat_tests, before x)

  pub all_marked : IsMemoryRange address size → (k x : ℕ) → words_of size ≤ k → marked_to k x ≡ (if passes x then told x else d x)
  all_marked range k x whole = by_test (passes x) refl
    where
      by_test : (b : Bool) → passes x ≡ b → (if b && nat_lt (word_address x) (word_address address + 8 * k) then told x else d x) ≡ (if b then told x else d x)
      by_test false is = refl
      by_test true is =
          let at = inside x is in
          let past : nat_lt (word_address x) (word_address address + 8 * k) ≡ true = grind (arith, nat_tests, place_below address size x range at.0 at.1, at.0, whole) in
          rw past refl

-- ---- what a request gives

abbrev pub gives : List (Option ℕ) → ℕ → ℕ → Bool
gives bytes address x = is_some (given_at bytes address x)

-- its bytes are in its range
pub given_inside : (held : HeldMessage) (address x : ℕ) → gives (bytes_given held) address x ≡ true → (address ≤ x) × (x < address + 2 ^ held.size)
given_inside held address x is = elim (cases_lt x address) [
  | inl low ↦ absurd (none (given_before (bytes_given held) address x low))
  | inr high ↦ elim (cases_lt x (address + 2 ^ held.size)) [
    | inl below ↦ (high, below)
    | inr above ↦ absurd (none (given_past (bytes_given held) address x (omega (arith, above, length-bytes_given held))))
  ]
]
  where
    none : given_at (bytes_given held) address x ≡ None → ⊥
    none out = true≢false (sym is ∙ ap is_some out)

-- it has as many beats as words
pub beats_words : (held : HeldMessage) → IsCheckedRequest held → has_data held.operation ≡ true → length held.beats ≡ words_of held.size
beats_words held checked carries = let count : length held.beats ≡ beats_of held.size true = checked.2.beats ∙ ap (beats_of held.size) carries in omega (arith, count)

pub enough_beats : (held : HeldMessage) (k : ℕ) → IsCheckedRequest held → has_data held.operation ≡ true → k < words_of held.size → k < length held.beats
enough_beats held k checked carries below = omega (arith, beats_words held checked carries, below)

given_if : (b : Bool) (n : ℕ) → b ≡ is_some (if b then Some n else None)
given_if true n = refl
given_if false n = refl

-- a byte of one of its words is given where the mask has its lane
pub mask_gives : (held : HeldMessage) (address k lane : ℕ) → IsCheckedRequest held → has_data held.operation ≡ true → address % 4096 ≡ held.address % 4096 → k < words_of held.size → lane < 8
    → has_lane (beat_at held k).mask lane ≡ gives (bytes_given held) address (word_address address + 8 * k + lane)
mask_gives held address k lane checked carries same below less = by_test (nat_le address x && nat_lt x (address + 2 ^ held.size)) refl
  where
    x : ℕ
    x = word_address address + 8 * k + lane

    beat : MaskedWord
    beat = beat_at held k

    range : IsMemoryRange address held.size
    range = RequestWords.range held address checked same

    enough : k < length held.beats
    enough = grind arith

    by_test : (b : Bool) → (nat_le address x && nat_lt x (address + 2 ^ held.size)) ≡ b → has_lane beat.mask lane ≡ gives (bytes_given held) address x
    by_test true is =
        let at = within address (2 ^ held.size) x is in
        let place : (x - address) / 8 ≡ k = word_place address held.size k lane range below less at.0 at.1 in
        let there : slice_get held.beats ((x - address) / 8) ≡ Some beat = rw place (beat_there held k enough) in
        let given = given_at-bytes_given held address x beat carries (omega (arith, same)) at.0 at.1 there in
        let own : x % 8 ≡ lane = omega (arith, less) in
        rw (given, own) (given_if (has_lane beat.mask lane) (lane_byte beat.word lane))
    by_test false is = by_tests (has_lane beat.mask lane) (gives (bytes_given held) address x) refl refl
      where
        by_tests : (has given : Bool) → has_lane beat.mask lane ≡ has → gives (bytes_given held) address x ≡ given → has ≡ given
        by_tests false false lacks out = refl
        by_tests has true lacks out = let at = given_inside held address x out in absurd (grind (arith, nat_tests, is, at))
        by_tests true false has out =
            let right = all-got (IsRightMask held.operation held.address held.size) held.beats k beat checked.2.masks (beat_there held k enough) in
            let inside : in_lanes address held.size lane ≡ true =
            in_lanes-lane_of address held.size lane ∙ ap (λ l. in_lanes l held.size lane) (omega (arith, same)) ∙ sym (in_lanes-lane_of held.address held.size lane) ∙ right.within lane less has in
            sym (sym is ∙ sym (own_lane_of_word address held.size k lane range below less) ∙ inside)

-- one that writes nothing leaves all as it is
pub writes_nothing : (d : ℕ → Bool) (footprint : Footprint) (bytes : List (Option ℕ)) (footprints : List Footprint) → footprint.writes ≡ false → d ≡ beside_dependent (after_given d footprint bytes) footprint footprints
writes_nothing d footprint bytes footprints nothing = fun_ext (λ x. each x footprints)
  where
    each : (x : ℕ) (others : List Footprint) → d x ≡ beside_dependent (after_given d footprint bytes) footprint others x
    each x [] = grind (arith, nothing)
    each x (other ∷ others) = grind (arith, nothing, each x others)

-- one that gives no bytes leaves all as it is
pub nothing_given : (d : ℕ → Bool) (footprint : Footprint) → after_given d footprint [] ≡ d
nothing_given d footprint = fun_ext (λ x. grind (arith, nat_tests))
