-- The words of a request that a checker let pass.
use Rattle.std.proofs.Common.{◌≡◌, ℕ, ◌+◌, ◌-◌, ◌*◌, ◌%◌, ◌^◌, ◌<◌, ◌≤◌, true, length, IfSome, None, Option, Some, min, sym, ◌∙◌, ap, arith, inl, inr}
use Rattle.std.specs.Prelude.{slice_get}
use Rattle.std.proofs.lemmas.Bool.{cases_lt}
use Rattle.std.proofs.lemmas.Nat.{pow-add}
use Rattle.std.proofs.Math.Pow.{pow_mono}
use Rattle.std.proofs.lemmas.Option.{slice_get-get_or}
use Rattle.bus_words.proofs.PlaceChanges.{all-got}
use Rattle.tl_messages.specs.Lanes.{in_lanes}
use Rattle.tl_messages.specs.Operations.{beats_of, has_data}
use Rattle.tl_messages.specs.Requests.{HeldMessage, beat_at}
use Rattle.tl_messages.specs.declared.MaskedWord.{MaskedWord}
use Rattle.tl_checker.specs.Sound.{IsRightMask}
use Rattle.data_unit.proofs.AlignedLanes.{in_lanes-lane_of, in_lanes_every}
use Rattle.burst_plan.proofs.TranslationLaws.{same_byte-mod}
use Rattle.serial_memory.specs.InsideSerial.{IsWithinWord, IsWordAt}
use Rattle.serial_memory.specs.SerialMemory.{IsCheckedRequest, IsMemoryRange}
use Rattle.serial_memory.proofs.PutWords.{IsWordOf, sizes}
use Rattle.serial_memory.proofs.Words.{word_aligned}

-- ---- its range

-- a range moved to a place with the same byte of its page
pub moved_range : (own address size : ℕ) → IsMemoryRange own size → address % 4096 ≡ own % 4096 → IsMemoryRange address size
moved_range own address size range same = record { small = range.small; aligned = same_byte-mod own address size range.small same ∙ range.aligned }

pub placed_range : (own size : ℕ) (place : Option ℕ) → IsMemoryRange own size → IfSome place (λ address. address % 4096 ≡ own % 4096) → IfSome place (λ address. IsMemoryRange address size)
placed_range own size None range same = tt
placed_range own size (Some address) range same = moved_range own address size range same

pub own_range : (held : HeldMessage) → IsCheckedRequest held → IsMemoryRange held.address held.size
own_range held checked = record { small = omega (arith, checked.1, checked.2.size); aligned = checked.2.aligned }

pub range : (held : HeldMessage) (address : ℕ) → IsCheckedRequest held → address % 4096 ≡ held.address % 4096 → IsMemoryRange address held.size
range held address checked same = moved_range held.address address held.size (own_range held checked) same

-- ---- its words

pub word_at : (held : HeldMessage) (address k : ℕ) → IsCheckedRequest held → has_data held.operation ≡ true → address % 4096 ≡ held.address % 4096 → k < length held.beats → IsWordAt address held.size k
word_at held address k checked carries same below =
    let count : length held.beats ≡ beats_of held.size true = checked.2.beats ∙ ap (beats_of held.size) carries in
    record { range = range held address checked same; inside = omega (arith, count, below) }

-- the lanes of a word, where they are those of the range in it
word_lanes : (a own size lane : ℕ) → a % 8 ≡ own % 8 → lane < 8 → in_lanes own size lane ≡ true → in_lanes a (min size 3) lane ≡ true
word_lanes a own size lane same below inside = elim (cases_lt size 3) [
  | inl few ↦
      let least : min size 3 ≡ size = omega (arith, few) in
      rw least (in_lanes-lane_of a size lane ∙ ap (λ l. in_lanes l size lane) same ∙ sym (in_lanes-lane_of own size lane) ∙ inside)
  | inr many ↦ in_lanes_every a (min size 3) lane (omega (arith, many)) below
]

pub mask_within : (held : HeldMessage) (address k : ℕ) (word : MaskedWord) → IsCheckedRequest held → address % 4096 ≡ held.address % 4096 → slice_get held.beats k ≡ Some word
    → IsWithinWord (address + k * 8) (min held.size 3) word.mask
mask_within held address k word checked same there lane below has =
    let right = all-got (IsRightMask held.operation held.address held.size) held.beats k word checked.2.masks there in
    word_lanes (address + k * 8) held.address held.size lane (omega (arith, same)) below (right.within lane below has)

pub beat_there : (held : HeldMessage) (k : ℕ) → k < length held.beats → slice_get held.beats k ≡ Some (beat_at held k)
beat_there held k below = slice_get-get_or held.beats k (record { word = 0; mask = 0 }) below

pub word_of : (held : HeldMessage) (address k : ℕ) (word : MaskedWord) → IsCheckedRequest held → has_data held.operation ≡ true → address % 4096 ≡ held.address % 4096 → k < length held.beats
    → slice_get held.beats k ≡ Some word → IsWordOf held address k word
word_of held address k word checked carries same below there =
    let at = word_at held address k checked carries same below in
    record {
      carries = carries;
      lanes = omega (arith, same);
      there = there;
      aligned = word_aligned address held.size k at;
      within = mask_within held address k word checked same there;
      inside = elim (sizes held.size) [ inl few ↦ omega (arith, at.inside, few.1, few.2) | inr many ↦ omega (arith, at.inside, many.1, many.2) ];
    }

-- as many words as a request has hold all its bytes
pub all_words : (held : HeldMessage) (count : ℕ) → IsCheckedRequest held → has_data held.operation ≡ true → count ≡ length held.beats → 2 ^ held.size ≤ count * 8
all_words held count checked carries all =
    let many : length held.beats ≡ beats_of held.size true = checked.2.beats ∙ ap (beats_of held.size) carries in
    elim (cases_lt held.size 3) [
      | inl few ↦ omega (arith, all, many, pow_mono {i = held.size} {j = 3} (omega (arith, few)))
      | inr over ↦
          let split : 2 ^ held.size ≡ 2 ^ (held.size - 3) * 2 ^ 3 = ap (λ k. 2 ^ k) (omega (arith, over)) ∙ pow-add 2 (held.size - 3) 3 in
          omega (arith, all, many, split)
    ]
