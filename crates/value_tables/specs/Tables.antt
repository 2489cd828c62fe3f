-- A table of 256 shelves of eight places: which words have a list in it, and what each call leaves. A word has its list on one shelf alone, and where that
-- is full it gets none. Then the table keeps which request was lost so, and a list that begins later doesn't count for known what that one may have given.
use Rattle.std.specs.Prelude.{ℕ, ◌+◌, ◌*◌, ◌/◌, ◌%◌, Bool, ◌&&◌, List, [], map, Option, None, Some, if◌then◌else◌, nat_le, nat_lt, option_map, replicate, slice_index_or, slice_set}
use Rattle.std.specs.Option.{option_flatten}
use Rattle.byte_values.specs.Words.{WordList, changed_word, pruned_word, settled_bytes}
use Rattle.byte_values.specs.declared.change.Change.{Change}
use Rattle.byte_values.specs.declared.change.Change.TheVariants.{Resets}
use Rattle.byte_values.specs.declared.known.KnownBytes.{KnownBytes}
use Rattle.value_tables.specs.Shelves.{ShelfState, all_changed_on, begun_on, changed_on, empty_shelf, first_list, has_room_on, list_on, released_on, word_on}

-- the shelves, and the number of the last request that found no place; 0 where each found one
pub record TableState : Type 0 where
  pub shelves : List ShelfState
  pub lost : ℕ

abbrev pub empty_table : TableState
empty_table = record { shelves = replicate 256 empty_shelf; lost = 0 }

-- ---- what stands in it

-- the shelf on which a word's list stands: words that follow each other stand on shelves that do, and those at the same place of successive pages lie apart
abbrev pub shelf_of : ℕ → ℕ
shelf_of word = (word + 9 * (word / 64)) % 256

abbrev pub shelf_at : TableState → ℕ → ShelfState
shelf_at table word = slice_index_or table.shelves (shelf_of word) []

-- the list of a word, if one stands
abbrev pub list_at : TableState → ℕ → Option WordList
list_at table word = list_on word (shelf_at table word)

-- whether the list of a word stands, or there is a place for it
abbrev pub has_room : TableState → ℕ → Bool
has_room table word = has_room_on word (shelf_at table word)

-- the word whose list is at a place of the shelf of another word
abbrev pub word_beside : TableState → ℕ → ℕ → Option ℕ
word_beside table word place = word_on (shelf_at table word) place

-- what a word has settled as, if its list stands and it has
abbrev pub settled_at : TableState → ℕ → Option KnownBytes
settled_at table word = option_flatten (option_map settled_bytes (list_at table word))

-- ---- what becomes of it

-- the shelf of a word changes
abbrev pub with_shelf : (ShelfState → ShelfState) → ℕ → TableState → TableState
with_shelf change word table = record table { shelves = slice_set table.shelves (shelf_of word) (change (shelf_at table word)) }

-- the last request that found no place, if that may be in flight, by the oldest one that is
abbrev pub lost_since : TableState → ℕ → Option ℕ
lost_since table oldest = if nat_lt 0 table.lost && nat_le oldest table.lost then Some table.lost else None

-- a request begins that may give some lanes of a word, of which so much is known. It is lost where there is no place for a list
abbrev pub begun_at : ℕ → ℕ → ℕ → KnownBytes → ℕ → TableState → TableState
begun_at word number lanes known oldest table =
    record {
      shelves = (with_shelf (begun_on (first_list (lost_since table oldest) known) word number lanes) word table).shelves;
      lost = if has_room table word then table.lost else number;
    }

-- the list of a word changes, if one stands
abbrev pub list_changed : (WordList → WordList) → ℕ → TableState → TableState
list_changed change word table = with_shelf (changed_on change word) word table

abbrev pub changed_at : ℕ → Change → TableState → TableState
changed_at word change table = list_changed (changed_word change) word table

-- what can't be told any more goes
abbrev pub pruned_at : ℕ → ℕ → ℕ → TableState → TableState
pruned_at word oldest now table = list_changed (pruned_word oldest now) word table

-- no list of a word stands any more
abbrev pub released_at : ℕ → TableState → TableState
released_at word table = with_shelf (released_on word) word table

-- a reset, when so many requests have begun
abbrev pub reset_at : ℕ → TableState → TableState
reset_at now table = record table { shelves = map (all_changed_on (changed_word (Resets now))) table.shelves }
