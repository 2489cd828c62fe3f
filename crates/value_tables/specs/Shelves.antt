-- One shelf: places, at each of which the list of one word of eight bytes may stand. A word is known by its number, which is its address divided by 8.
use Rattle.std.specs.Prelude.{ℕ, ◌==◌, Bool, false, ◌||◌, List, map, Option, None, Some, if◌then◌else◌, is_none, option_map, replicate, slice_get}
use Rattle.std.specs.List.{find, list_any}
use Rattle.std.specs.Option.{option_flatten}
use Rattle.bus_words.specs.Places.{change_first}
use Rattle.byte_values.specs.Words.{WordList, begun_word, lost_word, new_word}
use Rattle.byte_values.specs.declared.known.KnownBytes.{KnownBytes}

-- the list of a word
pub record Kept : Type 0 where
  pub word : ℕ
  pub held : WordList

-- what stands at each place: a word's list, or none
abbrev pub ShelfState : Type 0
ShelfState = List (Option Kept)

abbrev pub empty_shelf : ShelfState
empty_shelf = replicate 8 None

-- ---- what stands on it

-- whether the list at a place is that of a word
abbrev pub is_of : ℕ → Option Kept → Bool
is_of word None = false
is_of word (Some kept) = kept.word == word

-- the list of a word, if one stands
abbrev pub list_on : ℕ → ShelfState → Option WordList
list_on word shelf = option_map (λ kept. kept.held) (option_flatten (find (is_of word) shelf))

-- whether the list of a word stands, or there is a place for it
abbrev pub has_room_on : ℕ → ShelfState → Bool
has_room_on word shelf = list_any (is_of word) shelf || list_any is_none shelf

-- the word of which the list at a place is
abbrev pub word_on : ShelfState → ℕ → Option ℕ
word_on shelf place = option_map (λ kept. kept.word) (option_flatten (slice_get shelf place))

-- ---- what becomes of it

abbrev pub with_held : (WordList → WordList) → Kept → Kept
with_held change kept = record kept { held = change kept.held }

-- the list of a word changes, if one stands
abbrev pub changed_on : (WordList → WordList) → ℕ → ShelfState → ShelfState
changed_on change word shelf = change_first (is_of word) (option_map (with_held change)) shelf

-- the list with which a word's begins, of which so much is known. Where a request may be in flight that found no place, nobody knows what it gives to the lanes
-- that aren't known
abbrev pub first_list : Option ℕ → KnownBytes → WordList
first_list None known = new_word known
first_list (Some lost) known = lost_word known lost

-- a place as a word takes it, with a first list
abbrev pub taken_by : ℕ → WordList → Option Kept → Option Kept
taken_by word first place = Some (record { word = word; held = first })

-- a word has a list: the one that stands, or a first one, in the first place at which none stands, if there is one
abbrev pub standing_on : WordList → ℕ → ShelfState → ShelfState
standing_on first word shelf = if list_any (is_of word) shelf then shelf else change_first is_none (taken_by word first) shelf

-- a request begins that may give some lanes of a word
abbrev pub begun_on : WordList → ℕ → ℕ → ℕ → ShelfState → ShelfState
begun_on first word number lanes shelf = changed_on (begun_word number lanes) word (standing_on first word shelf)

-- no list of a word stands any more
abbrev pub released_on : ℕ → ShelfState → ShelfState
released_on word shelf = map (λ place. if is_of word place then None else place) shelf

-- each list changes
abbrev pub all_changed_on : (WordList → WordList) → ShelfState → ShelfState
all_changed_on change shelf = map (option_map (with_held change)) shelf
