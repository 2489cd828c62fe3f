-- A memory of values: what is held of each of its bytes, and which events each call is to which bytes. Where a byte's word has a list in the table, that list
-- says it; else the byte has settled. The calls speak of a state by the readings below alone, and by its contents (`States`).
use Rattle.std.specs.Prelude.{ℕ, ◌≡◌, ◌+◌, ◌*◌, ◌/◌, ◌%◌, ◌^◌, ◌≤◌, ◌==◌, Bool, true, false, not, ◌&&◌, List, [], ◌∷◌, max, Option, Some, None, if◌then◌else◌, nat_le, nat_lt}
use Rattle.bus_words.specs.Lanes.{has_lane}
use Rattle.byte_orders.specs.Holdings.{Holding, beginning, crowd}
use Rattle.byte_orders.specs.Runs.{Event, Gives, LeavesOut, Others, Reads, Writes}
use Rattle.byte_values.specs.Words.{WordList, known_byte, lane_list}
use Rattle.byte_values.specs.declared.known.KnownBytes.{KnownBytes}
use Rattle.subordinate.specs.Faults.{Faults}
use Rattle.sparse_memory.specs.SparseMemory.{SparseState, bytes_in, doubts_in, faults_in, has_room}
use Rattle.value_tables.specs.Tables.{TableState, list_at, lost_since}
use Rattle.value_memory.specs.ByteEvents.{ByteState, Goes}
use Rattle.value_memory.specs.declared.ByteRange.{ByteRange}

-- the lists of words for which requests race, or did; the bytes of all others; how many requests have begun; a number than which no request in flight has a
-- smaller one; and how many of them found no room for a byte that they may give
pub record ValueState : Type 0 where
  pub table : TableState
  pub settled : SparseState
  pub begun : ℕ
  pub oldest : ℕ
  pub crowds : ℕ

-- ---- what a state says

-- what is held of a byte whose word has no list: what it is. One in doubt may be what a request gives that found no room for it, as long as one is in flight
abbrev pub settled_holding : Option ℕ → Bool → ℕ → Holding
settled_holding lost false byte = beginning (Some byte)
settled_holding None true byte = beginning None
settled_holding (Some lost) true byte = crowd lost

abbrev pub held_by : ValueState → ℕ → Option WordList → List Holding
held_by m x None = settled_holding (lost_since m.table m.oldest) (doubts_in m.settled x) (bytes_in m.settled x) ∷ []
held_by m x (Some list) = lane_list (x % 8) list

-- what is held of the byte at an address
unfoldable pub held_in : ValueState → ℕ → List Holding
held_in m x = held_by m x (list_at m.table (x / 8))

-- the byte at an address, as its runs see it
abbrev pub byte_in : ValueState → ℕ → ByteState
byte_in m x = record { now = m.begun; oldest = m.oldest; held = held_in m x }

-- whether a page has room
unfoldable pub rooms_in : ValueState → ℕ → Bool
rooms_in m = has_room m.settled

-- the pages, and the bad words
unfoldable pub pages_of : ValueState → Faults
pages_of m = faults_in m.settled

-- ---- which bytes a call is about

-- 2^size bytes at a multiple of their number, of one page
pub record IsByteRange (range : ByteRange) : Type 0 where
  pub small : range.size ≤ 12
  pub aligned : range.address % 2 ^ range.size ≡ 0

-- whether a byte is one of a range
abbrev pub is_in : ByteRange → ℕ → Bool
is_in range x = nat_le range.address x && nat_lt x (range.address + 2 ^ range.size)

-- how many words of eight bytes have one of a range
abbrev pub word_count : ByteRange → ℕ
word_count range = max 1 (2 ^ range.size / 8)

-- whether the word of a byte is one of them
abbrev pub shares_word : ByteRange → ℕ → Bool
shares_word range x = nat_le (range.address / 8) (x / 8) && nat_lt (x / 8) (range.address / 8 + word_count range)

-- whether a request may give a byte, of which this is said when it begins
abbrev pub may_give : Option ByteRange → ℕ → Bool
may_give None x = false
may_give (Some range) x = is_in range x

-- ---- which events a call is

-- a request begins: to what it may give, and to all else; or to what it may read as well
abbrev pub begins : ℕ → Option ByteRange → ℕ → List Event
begins number writes x = if may_give writes x then Writes number ∷ [] else Others number ∷ []

abbrev pub begins_reading : ℕ → Option ByteRange → ℕ → List Event
begins_reading number writes x = if may_give writes x then Writes number ∷ [] else Reads number ∷ []

-- what a request gives to the word of an address is known: it gives these lanes, and the others of it not
abbrev pub given_to : ℕ → ℕ → KnownBytes → ℕ → List Event
given_to number lanes known lane = if has_lane lanes lane then Gives number (known_byte lane known) ∷ [] else LeavesOut number ∷ []

abbrev pub gives_at : ℕ → ℕ → ℕ → KnownBytes → ℕ → List Event
gives_at number address lanes known x = if x / 8 == address / 8 then given_to number lanes known (x % 8) else []

-- one event to each byte of the words of a range. To a byte of which the request is no access it changes nothing
abbrev pub to_words : ByteRange → Event → ℕ → List Event
to_words range event x = if shares_word range x then event ∷ [] else []

-- the same to every byte
abbrev pub to_all : List Event → ℕ → List Event
to_all events x = events

-- each byte goes on by its events, whichever run it had, in which no access that hasn't ended is older than a number
abbrev pub AllGo : ℕ → Bool → ValueState → ValueState → (ℕ → List Event) → Type 0
AllGo oldest crowded old new events = (x : ℕ) → Goes oldest crowded (byte_in old x) (byte_in new x) (events x)

-- whether a request found no room since
abbrev pub is_crowded_since : ValueState → ValueState → Bool
is_crowded_since old new = not (new.crowds == old.crowds)

-- pages, and which of them have room, are what they were
pub record KeepsPages (old new : ValueState) : Type 0 where
  pub pages : pages_of new ≡ pages_of old
  pub rooms : (page : ℕ) → rooms_in new page ≡ rooms_in old page

-- so many have begun as had, and as many found no room
pub record KeepsCounts (old new : ValueState) : Type 0 where
  pub begun : new.begun ≡ old.begun
  pub oldest : new.oldest ≡ old.oldest
  pub crowds : new.crowds ≡ old.crowds

-- the lane of a word at an address: the byte there
abbrev pub lane_held : ValueState → ℕ → ℕ → List Holding
lane_held m address lane = held_in m (address / 8 * 8 + lane)
