-- A memory of which a page has room only once it was asked for: what a state of it says of each byte, and what its calls change. Nothing but the
-- readings below is said of a state by the calls.
use Rattle.std.specs.Prelude.{◌≡◌, ℕ, ◌+◌, ◌/◌, ◌%◌, ◌==◌, Bool, true, false, ◌&&◌, List, Option, Some, None, is_some, if◌then◌else◌, nat_eq, slice_index}
use Rattle.std.specs.Map.{lookup}
use Rattle.bus_words.specs.Lanes.{has_lane, lane_byte, mask_of, word_address, word_of_lanes}
use Rattle.subordinate.specs.Faults.{Faults, device_fault, is_good, standing_at}
use Rattle.sparse_memory.specs.Ranges.{faults_of, is_unknown}
use Rattle.sparse_memory.specs.declared.PageRange.{PageRange}

-- the room of a page: its 512 words of eight bytes, and for each of them which of its bytes are in doubt
pub record PageState : Type 0 where
  pub words : List ℕ
  pub doubts : List ℕ

-- a memory: the ranges of its pages, its bad words, and the room of each page that has some, by the page's number
pub record SparseState : Type 0 where
  pub ranges : List PageRange
  pub bad_words : List ℕ
  pub touched : List (ℕ × PageState)

-- a memory of its parts
abbrev pub sparse_state : List PageRange → List ℕ → List (ℕ × PageState) → SparseState
sparse_state ranges bad_words touched = record { ranges = ranges; bad_words = bad_words; touched = touched }

-- ---- what a state says

-- the pages and the bad words
abbrev pub faults_in : SparseState → Faults
faults_in state = faults_of state.ranges state.bad_words

-- the room of a page, if it has some
abbrev pub page_in : SparseState → ℕ → Option PageState
page_in state number = lookup (nat_eq number) state.touched

-- whether a page has room
abbrev pub has_room : SparseState → ℕ → Bool
has_room state number = is_some (page_in state number)

-- the byte at a place of a page; without room it is zero
abbrev pub byte_of : Option PageState → ℕ → ℕ
byte_of None place = 0
byte_of (Some page) place = lane_byte (slice_index page.words (place / 8)) (place % 8)

-- whether the byte at a place of a page is in doubt; without room all of them are, or none
abbrev pub doubt_of : Bool → Option PageState → ℕ → Bool
doubt_of unknown None place = unknown
doubt_of unknown (Some page) place = has_lane (slice_index page.doubts (place / 8)) (place % 8)

-- the byte at an address; zero where there is no room
unfoldable pub bytes_in : SparseState → ℕ → ℕ
bytes_in state address = byte_of (page_in state (address / 4096)) (address % 4096)

-- whether the byte at an address is in doubt
unfoldable pub doubts_in : SparseState → ℕ → Bool
doubts_in state address = doubt_of (is_unknown state.ranges (address / 4096)) (page_in state (address / 4096)) (address % 4096)

-- what is true of every memory: a device with its pages and bad words isn't refused, and only good pages have room
pub record IsSoundState (state : SparseState) : Type 0 where
  pub faults : device_fault (faults_in state).pages (faults_in state).bad_words ≡ None
  pub room : (address : ℕ) → has_room state (address / 4096) ≡ true → is_good (standing_at (faults_in state) address) ≡ true

-- where a flag is true, no byte is in doubt
abbrev pub KnowsAllIf : Bool → SparseState → Type 0
KnowsAllIf flag state = flag ≡ true → (x : ℕ) → doubts_in state x ≡ false

-- ---- by words

-- the aligned word that an address is in
unfoldable pub word_in : (ℕ → ℕ) → ℕ → ℕ
word_in bytes address = word_of_lanes (λ lane. bytes (word_address address + lane))

-- for each byte of that word a flag, bit i for byte i
unfoldable pub flags_in : (ℕ → Bool) → ℕ → ℕ
flags_in flags address = mask_of (λ lane. flags (word_address address + lane))

-- whether a byte is one of the strobed ones of the word that an address is in
abbrev pub is_strobed : ℕ → ℕ → ℕ → Bool
is_strobed address strobes x = word_address x == word_address address && has_lane strobes (x % 8)

-- bytes, with the strobed ones of a word those of another
abbrev pub put_word : ℕ → ℕ → ℕ → (ℕ → ℕ) → ℕ → ℕ
put_word address word strobes bytes x = if is_strobed address strobes x then lane_byte word (x % 8) else bytes x

-- flags, with those of the strobed bytes of a word the bits of a mask
abbrev pub put_flags : ℕ → ℕ → ℕ → (ℕ → Bool) → ℕ → Bool
put_flags address mask strobes flags x = if is_strobed address strobes x then has_lane mask (x % 8) else flags x

-- the new mask's bits in the strobed lanes, the old one's elsewhere
unfoldable pub flags_merged : ℕ → ℕ → ℕ → ℕ
flags_merged old new strobes = mask_of (λ lane. if has_lane strobes lane then has_lane new lane else has_lane old lane)
