-- What is true of each memory of values, and what its parts leave.
use Rattle.std.specs.Prelude.{ℕ, ◌≡◌, ◌⊎◌, ◌+◌, ◌-◌, ◌/◌, ◌%◌, ◌^◌, ◌<◌, ◌≤◌, ◌==◌, ⊤, Bool, true, false, ◌&&◌, List, [], ◌∷◌, length, not, Option, Some, None, if◌then◌else◌, is_none, is_some, nat_le, nat_lt}
use Rattle.bus_words.specs.Lanes.{has_lane}
use Rattle.byte_orders.specs.Holdings.{Holding, crowd, with_begun}
use Rattle.byte_values.specs.Words.{WordList, changed_in}
use Rattle.byte_values.specs.declared.change.Change.{Change}
use Rattle.byte_values.specs.declared.change.Change.TheVariants.{Resets}
use Rattle.byte_values.specs.declared.known.KnownBytes.{KnownBytes}
use Rattle.sparse_memory.specs.SparseMemory.{bytes_in, doubts_in, flags_in, word_in}
use Rattle.value_tables.specs.Tables.{TableState, begun_at, has_room, list_at}
use Rattle.value_memory.specs.ValueMemory.{KeepsCounts, KeepsPages, ValueState, held_in, is_in, rooms_in}
use Rattle.value_memory.specs.declared.ByteRange.{ByteRange}

-- the word of a list is one of 32-bit addresses, on a page with room, and some request has begun
pub record IsPlaced (m : ValueState) (word : ℕ) : Type 0 where
  pub below : word < 2 ^ 29
  pub some : 0 < m.begun
  pub room : rooms_in m (word / 512) ≡ true

-- what is true of every memory of values
pub record IsSoundMemory (m : ValueState) : Type 0 where
  pub few : m.begun ≤ 2 ^ 63
  pub within : m.oldest ≤ m.begun + 1
  pub lost : m.table.lost ≤ m.begun
  pub crowds : m.crowds ≤ m.begun
  pub placed : (word : ℕ) → is_some (list_at m.table word) ≡ true → IsPlaced m word

-- nothing but lists and bytes has changed
pub record KeepsRest (old new : ValueState) : Type 0 where
  pub pages : KeepsPages old new
  pub counts : KeepsCounts old new

-- the bytes of a word that have settled, as far as they are known
unfoldable pub settled_in : ValueState → ℕ → KnownBytes
settled_in m address = record { value = word_in (bytes_in m.settled) address; lanes = 255 - flags_in (doubts_in m.settled) address }

-- another table
abbrev pub with_table : ValueState → TableState → ValueState
with_table m table = record m { table = table }

-- ---- a request begins at a word

-- whether the last request that has begun has found no room for another word, and this one has no list
abbrev pub is_given_up : ValueState → ℕ → Bool
is_given_up m word = (m.table.lost == m.begun) && is_none (list_at m.table word)

-- whether the word gets a list for it, or has one
abbrev pub finds_place : ValueState → ℕ → Bool
finds_place m word = not (is_given_up m word) && has_room m.table word

abbrev pub begun_table : ValueState → ℕ → ℕ → KnownBytes → TableState
begun_table m word lanes known = if is_given_up m word then m.table else begun_at word m.begun lanes known m.oldest m.table

-- a byte of a word is one of the lanes that it may give
abbrev pub is_given : ℕ → ℕ → ℕ → Bool
is_given address lanes x = (x / 8 == address / 8) && has_lane lanes (x % 8)

-- the list of a byte has been given up for the request that begins at a number
pub record IsCrowd (number : ℕ) (m : ValueState) (x : ℕ) : Type 0 where
  pub held : held_in m x ≡ crowd number ∷ []

-- and its word has none, so that none begins for this request
pub record IsGivenUp (number : ℕ) (m : ValueState) (x : ℕ) : Type 0 where
  pub none : list_at m.table (x / 8) ≡ None
  pub lost : m.table.lost ≡ number
  pub held : held_in m x ≡ crowd number ∷ []

-- a byte that the request gives has it in its list, or its list is given up; one that was given up for it before is again
abbrev pub BeginsThere : ℕ → ValueState → ValueState → Bool → ℕ → Type 0
BeginsThere number old new crowded x =
    ((held_in new x ≡ with_begun number (held_in old x)) × (IsGivenUp number old x → ⊥)) ⊎ ((crowded ≡ true) × IsCrowd number new x)

-- another byte of its word keeps its list, or that is given up
abbrev pub BeginsBeside : ℕ → ValueState → ValueState → Bool → ℕ → Type 0
BeginsBeside number old new crowded x = (held_in new x ≡ held_in old x) ⊎ ((crowded ≡ true) × IsCrowd number new x)

-- and so does a byte of another word, which has a list or none as before; one that was given up stays so
pub record BeginsElsewhere (number : ℕ) (old new : ValueState) (crowded : Bool) (x : ℕ) : Type 0 where
  pub held : (held_in new x ≡ held_in old x) ⊎ ((crowded ≡ true) × IsGivenUp number new x)
  pub stays : IsGivenUp number old x → IsGivenUp number new x

-- a byte of a range whose word has not come yet is given up so that it stays without a list; all others just so
abbrev pub IsLost : ℕ → ValueState → ℕ → Bool → Type 0
IsLost number m x true = IsGivenUp number m x
IsLost number m x false = IsCrowd number m x

-- whether the word of a byte is ahead of one of a range's
abbrev pub is_ahead : ByteRange → ℕ → ℕ → Bool
is_ahead range place x = nat_lt (x / 8) (range.address / 8 + place)

-- the words of a range that are ahead of one have the request in their lists, as far as these aren't given up
abbrev pub HasBegunUntil : ℕ → ByteRange → ℕ → ValueState → ValueState → Bool → ℕ → Type 0
HasBegunUntil number range place old new crowded x =
    (held_in new x ≡ (if is_in range x && is_ahead range place x then with_begun number (held_in old x) else held_in old x))
    ⊎ ((crowded ≡ true) × IsLost number new x (is_in range x && not (is_ahead range place x)))

-- over a range: its bytes have the request in their lists, and the others keep theirs, or they are given up
abbrev pub HasBegun : ℕ → ByteRange → ValueState → ValueState → Bool → ℕ → Type 0
HasBegun number range old new crowded x =
    (held_in new x ≡ (if is_in range x then with_begun number (held_in old x) else held_in old x)) ⊎ ((crowded ≡ true) × IsCrowd number new x)

-- ---- lists

-- whether the list of a word is full, if it has one
abbrev pub is_full_list : Option WordList → Bool
is_full_list None = false
is_full_list (Some list) = not (nat_lt (length list.held) 12)

-- changes of one request alone
abbrev pub IsOfOne : Change → Type 0
IsOfOne (Resets now) = ⊥
IsOfOne change = ⊤

-- what is held of a byte when the list of its word has changed by such a one, or hasn't. What has settled doesn't change
abbrev pub held_changed : Change → Bool → ℕ → List Holding → List Holding
held_changed change there x hs = if there then changed_in (x % 8) change hs else hs

-- whether the word of a byte is one of the first so many of a range
abbrev pub shares_first : ByteRange → ℕ → ℕ → Bool
shares_first range count x = nat_le (range.address / 8) (x / 8) && nat_lt (x / 8) (range.address / 8 + count)
