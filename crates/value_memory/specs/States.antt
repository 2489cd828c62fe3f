-- Which contents each call of a memory of values leads to, exactly. Each definition below is one step of a call: a word's list is tidied, those of a shelf are
-- swept, places are made for the words of a range, a request begins at each of them, a list changes at each.
use Rattle.std.specs.Prelude.{ℕ, ◌≡◌, zero, suc, ◌+◌, ◌-◌, ◌*◌, ◌/◌, ◌%◌, ◌==◌, Bool, true, false, not, ◌&&◌, ◌||◌, List, [], ◌∷◌, Option, Some, None, if◌then◌else◌, is_none, length}
use Rattle.byte_orders.specs.Holdings.{Holding}
use Rattle.byte_values.specs.Words.{WordList, lane_list}
use Rattle.byte_values.specs.declared.change.Change.{Change}
use Rattle.byte_values.specs.declared.change.Change.TheVariants as change
use Rattle.byte_values.specs.declared.known.KnownBytes.{KnownBytes}
use Rattle.data_unit.specs.Words.{full_mask}
use Rattle.subordinate.specs.Faults.{Faults}
use Rattle.sparse_memory.specs.Ranges.{faults_of, is_unknown}
use Rattle.sparse_memory.specs.SparseMemory.{bytes_in, doubts_in, faults_in, flags_in, put_flags, put_word, word_in}
use Rattle.sparse_memory.specs.declared.PageRange.{PageRange}
use Rattle.serial_memory.specs.InsideSerial.{filled_until}
use Rattle.serial_memory.specs.SerialMemory.{known_from, with_filled}
use Rattle.value_tables.specs.Tables.{TableState, begun_at, changed_at, empty_table, has_room, list_at, lost_since, pruned_at, released_at, reset_at, settled_at, word_beside}
use Rattle.value_memory.specs.InsideValues.{is_full_list}
use Rattle.value_memory.specs.ValueMemory.{ValueState, rooms_in, settled_holding, word_count}
use Rattle.value_memory.specs.declared.ByteRange.{ByteRange}

-- what a memory contains: the lists of words; the bytes of all others, and which of them are in doubt; the pages and bad words; and the counts of a
-- `ValueState`. Which pages have room is no part of it, since nothing but the leave to begin at them depends on that
pub record Contents : Type 0 where
  pub table : TableState
  pub bytes : ℕ → ℕ
  pub doubts : ℕ → Bool
  pub faults : Faults
  pub begun : ℕ
  pub oldest : ℕ
  pub crowds : ℕ

abbrev pub contents_of : ValueState → Contents
contents_of m =
    record {
      table = m.table;
      bytes = bytes_in m.settled;
      doubts = doubts_in m.settled;
      faults = faults_in m.settled;
      begun = m.begun;
      oldest = m.oldest;
      crowds = m.crowds;
    }

-- what is held of the byte at an address, by the contents alone
abbrev pub held_with : Contents → ℕ → Option WordList → List Holding
held_with c x None = settled_holding (lost_since c.table c.oldest) (c.doubts x) (c.bytes x) ∷ []
held_with c x (Some list) = lane_list (x % 8) list

unfoldable pub held_of : Contents → ℕ → List Holding
held_of c x = held_with c x (list_at c.table (x / 8))

-- ---- how it begins

abbrev pub new_contents : List PageRange → List ℕ → Contents
new_contents ranges bad_words =
    record {
      table = empty_table;
      bytes = λ address. 0;
      doubts = λ address. is_unknown ranges (address / 4096);
      faults = faults_of ranges bad_words;
      begun = 0;
      oldest = 0;
      crowds = 0;
    }

-- only pages have got room
pub record KeepsContents (old new : ValueState) : Type 0 where
  pub contents : contents_of new ≡ contents_of old
  pub rooms : (page : ℕ) → rooms_in old page ≡ true → rooms_in new page ≡ true

-- a tester says which bytes it begins with from an address on, and they are known
unfoldable pub filled_with : ℕ → List ℕ → Contents → Contents
filled_with address bytes c = record c { bytes = with_filled c.bytes address bytes; doubts = known_from c.doubts address (length bytes) }

-- one of them, and the first so many
unfoldable pub with_byte : ℕ → ℕ → Contents → Contents
with_byte address byte c = record c { bytes = λ x. if x == address then byte else c.bytes x; doubts = λ x. not (x == address) && c.doubts x }

unfoldable pub filled_first : ℕ → List ℕ → ℕ → Contents → Contents
filled_first address bytes count c = record c { bytes = filled_until c.bytes address bytes count; doubts = known_from c.doubts address count }

-- ---- one step after another

-- one for each of so many numbers, from 0 on
abbrev pub after_each : (ℕ → Contents → Contents) → ℕ → Contents → Contents
after_each step zero c = c
after_each step (suc count) c = step count (after_each step count c)

-- one for each word of a range
unfoldable pub at_each_word : (ℕ → Contents → Contents) → ByteRange → Contents → Contents
at_each_word step range = after_each (λ place. step (range.address / 8 + place)) (word_count range)

-- ---- lists are kept short

-- whether a word that has settled as this may leave the table: no byte that nobody knows could be taken then for one of a request that found no room
abbrev pub may_leave : Contents → KnownBytes → Bool
may_leave c known = (known.lanes == 255) || is_none (lost_since c.table c.oldest)

-- its list leaves the table, and its bytes go where those of all settled words are
abbrev pub left : ℕ → KnownBytes → Contents → Contents
left word known c =
    record c {
      table = released_at word c.table;
      bytes = put_word (word * 8) known.value known.lanes c.bytes;
      doubts = put_flags (word * 8) (255 - known.lanes) 255 c.doubts;
    }

-- the same, if the word has settled as something, and may leave
abbrev pub settled_as : ℕ → Option KnownBytes → Contents → Contents
settled_as word None c = c
settled_as word (Some known) c = if may_leave c known then left word known c else c

-- the list of a word forgets what can't be told any more
abbrev pub pruned : ℕ → Contents → Contents
pruned word c = record c { table = pruned_at word c.oldest c.begun c.table }

-- the list of a word is tidied: it is pruned, and leaves the table if the word has settled
unfoldable pub tidied : ℕ → Contents → Contents
tidied word c = settled_as word (settled_at (pruned_at word c.oldest c.begun c.table) word) (pruned word c)

-- that of a word, if there is one
abbrev pub tidied_if : Option ℕ → Contents → Contents
tidied_if None c = c
tidied_if (Some word) c = tidied word c

-- the list at a place of the shelf of a word is tidied
unfoldable pub tidied_beside : ℕ → ℕ → Contents → Contents
tidied_beside word place c = tidied_if (word_beside c.table word place) c

-- each list on that shelf is
unfoldable pub swept : ℕ → Contents → Contents
swept word = after_each (tidied_beside word) 8

-- a place is made for the list of a word, if it has none and one can be had
unfoldable pub with_place : ℕ → Contents → Contents
with_place word c = if has_room c.table word then c else swept word c

-- ---- a request begins

-- one more has begun
abbrev pub counted : Contents → Contents
counted c = record c { begun = c.begun + 1 }

-- the bytes of the word that an address is in which have settled, as far as they are known
unfoldable pub settled_word : Contents → ℕ → KnownBytes
settled_word c address = record { value = word_in c.bytes address; lanes = 255 - flags_in c.doubts address }

-- whether the request that has begun last has found no room for another word, and this one has no list
abbrev pub gives_up : Contents → ℕ → Bool
gives_up c word = (c.table.lost == c.begun) && is_none (list_at c.table word)

-- whether the word gets a list for it, or has one
abbrev pub is_listed : Contents → ℕ → Bool
is_listed c word = not (gives_up c word) && has_room c.table word

abbrev pub listed : ℕ → ℕ → Contents → TableState
listed address lanes c = if gives_up c (address / 8) then c.table else begun_at (address / 8) c.begun lanes (settled_word c address) c.oldest c.table

-- it begins at some lanes of the word that an address is in: they are in its list, or else they are in doubt
unfoldable pub begun_word : ℕ → ℕ → Contents → Contents
begun_word address lanes c =
    record c {
      table = listed address lanes c;
      doubts = if is_listed c (address / 8) then c.doubts else put_flags address lanes lanes c.doubts;
    }

-- whether there is no room then for what a byte of that word may be: it has no list, or a full one
unfoldable pub is_crowded_word : ℕ → Contents → Bool
is_crowded_word address c = if is_listed c (address / 8) then is_full_list (list_at c.table (address / 8)) else true

-- it begins at one word of a range
unfoldable pub begun_place : ByteRange → ℕ → Contents → Contents
begun_place range place = begun_word (range.address + place * 8) (full_mask range.address range.size)

-- whether there was no room at one of the first so many words of a range
abbrev pub is_crowded_until : ByteRange → ℕ → Contents → Bool
is_crowded_until range zero c = false
is_crowded_until range (suc count) c =
    is_crowded_until range count c || is_crowded_word (range.address + count * 8) (after_each (begun_place range) count c)

-- that is counted, if it is so
abbrev pub crowd_counted : Bool → Contents → Contents
crowd_counted crowded c = record c { crowds = c.crowds + (if crowded then 1 else 0) }

-- it begins at all words of a range
unfoldable pub begun_over : ByteRange → Contents → Contents
begun_over range c = crowd_counted (is_crowded_until range (word_count range) c) (after_each (begun_place range) (word_count range) c)

-- a request begins that may give the bytes of a range: places are made for the words, it is counted, and begins at each; or one that gives nothing
abbrev pub with_request : Option ByteRange → Contents → Contents
with_request None c = counted c
with_request (Some range) c = begun_over range (counted (at_each_word with_place range c))

-- ---- what becomes of a request

-- the list of a word changes, if it has one
unfoldable pub changed : Change → ℕ → Contents → Contents
changed change word c = record c { table = changed_at word change c.table }

-- what a request gives to the word that an address is in is known
unfoldable pub given : ℕ → ℕ → ℕ → KnownBytes → Contents → Contents
given number address lanes known = changed (change.Gives number lanes known) (address / 8)

-- it takes effect on the bytes of a range
unfoldable pub made_sure : ℕ → ByteRange → Contents → Contents
made_sure number = at_each_word (changed (change.Sure number))

-- it has failed
unfoldable pub failed : ℕ → ByteRange → Contents → Contents
failed number = at_each_word (changed (change.Fails number))

-- it ends
unfoldable pub ended : ℕ → ByteRange → Contents → Contents
ended number range c = at_each_word (changed (change.Ends number c.begun)) range c

-- no request in flight has a smaller number than this
unfoldable pub with_oldest : ℕ → Contents → Contents
with_oldest oldest c = record c { oldest = oldest }

-- the lists of the words of a range are tidied, if there is one
abbrev pub kept_short : Option ByteRange → Contents → Contents
kept_short None c = c
kept_short (Some range) c = at_each_word tidied range c

-- a reset
unfoldable pub cut_off : Contents → Contents
cut_off c = record c { table = reset_at c.begun c.table; oldest = c.begun + 1 }
