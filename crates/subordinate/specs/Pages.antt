-- The bytes of the good pages. A page keeps 512 words of eight bytes; a byte stands in a page, a word of it and a lane of that word.
use Rattle.std.specs.Prelude.{ℕ, ◌/◌, ◌%◌, ◌==◌, Bool, List, map, replicate, Option, option_map, find, filter, if◌then◌else◌, slice_set, slice_index}
use Rattle.bus_words.specs.Lanes.{lane_byte, word_of_lanes}
use Rattle.bus_words.specs.Places.{change_first}
use Rattle.subordinate.specs.Faults.{is_good, standing_of_kind}
use Rattle.subordinate.specs.declared.PageKind.{PageKind}

-- a good page: its number, and its 512 words
pub record GoodPage : Type 0 where
  pub number : ℕ
  pub words : List ℕ

-- the bytes of the memory: its good pages
abbrev pub Memory : Type 0
Memory = List GoodPage

abbrev pub is_listed_good : ℕ × PageKind → Bool
is_listed_good listed = is_good (standing_of_kind listed.1)

-- the words of a page that was never written
unfoldable pub zero_words : List ℕ
zero_words = replicate 512 0

abbrev pub zero_page : ℕ × PageKind → GoodPage
zero_page listed = record { number = listed.0; words = zero_words }

-- the opening memory: zero on each good page
abbrev pub opening_memory : List (ℕ × PageKind) → Memory
opening_memory pages = map zero_page (filter is_listed_good pages)

-- ---- words

-- whether an address is in a page
abbrev pub holds_address : ℕ → GoodPage → Bool
holds_address address page = page.number == address / 4096

-- the place of an address's word in its page
abbrev pub word_place : ℕ → ℕ
word_place address = address % 4096 / 8

-- the word that an address is in; none outside good pages
abbrev pub word_at : Memory → ℕ → Option ℕ
word_at memory address = option_map (λ page. slice_index page.words (word_place address)) (find (holds_address address) memory)

-- a page whose word at a place is changed
abbrev pub page_with_word : ℕ → (ℕ → ℕ) → GoodPage → GoodPage
page_with_word place change page = record page { words = slice_set page.words place (change (slice_index page.words place)) }

-- the memory with the word of an address changed, where its page is good
abbrev pub with_word : Memory → ℕ → (ℕ → ℕ) → Memory
with_word memory address change = change_first (holds_address address) (page_with_word (word_place address) change) memory

-- ---- bytes

-- the byte at an address of a good page: the lane `address mod 8` of its word
abbrev pub byte_at_address : Memory → ℕ → Option ℕ
byte_at_address memory address = option_map (λ word. lane_byte word (address % 8)) (word_at memory address)

-- a word with the byte of one lane set
abbrev pub word_with_byte : ℕ → ℕ → ℕ → ℕ
word_with_byte lane byte word = word_of_lanes (λ other. if other == lane then byte else lane_byte word other)

-- the memory with one byte set, where its page is good
abbrev pub with_byte : Memory → ℕ → ℕ → Memory
with_byte memory address byte = with_word memory address (word_with_byte (address % 8) byte)
