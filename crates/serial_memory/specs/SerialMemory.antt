-- The memory that accepted requests leave, carried out whole, one at a time: what it holds, and what one request makes of it.
use Rattle.std.specs.Prelude.{ℕ, ◌≡◌, ◌+◌, ◌-◌, ◌/◌, ◌%◌, ◌^◌, ◌≤◌, ◌==◌, Bool, true, false, not, ◌&&◌, List, length, Option, Some, None, IfSome, if◌then◌else◌, nat_le, nat_lt, slice_index}
use Rattle.std.specs.List.{list_all, list_any, range_with_len}
use Rattle.tl_messages.specs.Operations.{has_data}
use Rattle.tl_messages.specs.Requests.{HeldMessage, WholeRequest}
use Rattle.tl_messages.specs.declared.Operation.{Operation}
use Rattle.tl_checker.specs.RequestRules.{TlPortLimits}
use Rattle.tl_checker.specs.Sound.{IsSound}
use Rattle.burst_plan.specs.declared.Region.{Region}
use Rattle.burst_plan.specs.PageMap.{address_of, translated}
use Rattle.subordinate.specs.Faults.{Faults, is_good, standing_at}
use Rattle.sparse_memory.specs.SparseMemory.{SparseState, bytes_in, doubts_in, faults_in, has_room}
use Rattle.meaning.specs.Meaning.{Bytes, Effect, meaning}

-- where addresses lead, which pages there are, and their bytes
pub record Memory : Type 0 where
  pub regions : List Region
  pub faults : Faults
  pub bytes : Bytes

-- the same as it is held
pub record MemoryState : Type 0 where
  pub regions : List Region
  pub pages : SparseState

-- the memory of the laws that it holds
abbrev pub memory_of : MemoryState → Memory
memory_of state = record { regions = state.regions; faults = faults_in state.pages; bytes = bytes_in state.pages }

-- which bytes are in doubt, by address
abbrev pub doubts_of : MemoryState → ℕ → Bool
doubts_of state = doubts_in state.pages

-- which pages have room, by number
abbrev pub rooms_of : MemoryState → ℕ → Bool
rooms_of state = has_room state.pages

-- what a request means on it
abbrev pub meaning_in : Memory → WholeRequest → Effect
meaning_in memory q = meaning memory.faults memory.regions q memory.bytes

-- a request is carried out: its bytes are put, and nothing else changes
abbrev pub carried_out : Memory → WholeRequest → Memory
carried_out memory q = record memory { bytes = (meaning_in memory q).after }

-- the byte at an address of a good page; none elsewhere
abbrev pub byte_at : Memory → ℕ → Option ℕ
byte_at memory address = if is_good (standing_at memory.faults address) then Some (memory.bytes address) else None

-- an address, where its page is good
abbrev pub on_good_page : Faults → Option ℕ → Option ℕ
on_good_page faults None = None
on_good_page faults (Some address) = if is_good (standing_at faults address) then Some address else None

-- the address of a good page at which a request acts, if it has one
abbrev pub place_in : Memory → WholeRequest → Option ℕ
place_in memory q = on_good_page memory.faults (address_of memory.regions q)

-- whether an address is one of so many from another on
abbrev pub is_filled : ℕ → ℕ → ℕ → Bool
is_filled address count x = nat_le address x && nat_lt x (address + count)

-- bytes put from an address on, one each
abbrev pub with_filled : Bytes → ℕ → List ℕ → Bytes
with_filled m address bytes x = if is_filled address (length bytes) x then slice_index bytes (x - address) else m x

-- a tester says which bytes a memory has from an address on
abbrev pub filled : Memory → ℕ → List ℕ → Memory
filled memory address bytes = record memory { bytes = with_filled memory.bytes address bytes }

-- which bytes are in doubt, where so many from an address on are known
abbrev pub known_from : (ℕ → Bool) → ℕ → ℕ → ℕ → Bool
known_from doubts address count x = not (is_filled address count x) && doubts x

-- whether a byte is one of 32-bit addresses, on a good page
abbrev pub is_good_byte : Faults → ℕ → Bool
is_good_byte faults address = nat_lt address (2 ^ 32) && is_good (standing_at faults address)

-- whether so many bytes from an address on are all of good pages
abbrev pub can_fill : Faults → ℕ → ℕ → Bool
can_fill faults address count = list_all (λ k. is_good_byte faults (address + k)) (range_with_len 0 count)

-- 2^size bytes at a multiple of their number, of one page
pub record IsMemoryRange (address size : ℕ) : Type 0 where
  pub small : size ≤ 12
  pub aligned : address % 2 ^ size ≡ 0

-- a request that a checker let pass: it stands whole, is aligned and rightly masked
abbrev pub IsCheckedRequest : HeldMessage → Type 0
IsCheckedRequest message = (limits : TlPortLimits) × (limits.max_size ≤ 12) × IsSound limits message

-- the page of a request that gives bytes has room, where it acts on a good one
abbrev pub HasRoomToGive : MemoryState → WholeRequest → Type 0
HasRoomToGive state q = has_data q.operation ≡ true → IfSome (place_in (memory_of state) q) (λ address. rooms_of state (address / 4096) ≡ true)

-- the address of a good page at which an operation acts that is asked at an address, if it has one
abbrev pub place_at : Memory → Operation → ℕ → Option ℕ
place_at memory operation address = on_good_page memory.faults (translated memory.regions operation address)

-- the same of an operation that gives bytes
abbrev pub place_given : Memory → Operation → ℕ → Option ℕ
place_given memory operation address = if has_data operation then place_at memory operation address else None

-- whether an address, if there is one, is of a page without room
abbrev pub lacks_room : (ℕ → Bool) → Option ℕ → Bool
lacks_room rooms None = false
lacks_room rooms (Some address) = not (rooms (address / 4096))

-- whether one of so many bytes from an address on is of a page without room
abbrev pub some_lacks_room : (ℕ → Bool) → ℕ → ℕ → Bool
some_lacks_room rooms address count = list_any (λ k. not (rooms ((address + k) / 4096))) (range_with_len 0 count)

-- whether a page is that of an address, if there is one
abbrev pub is_page_of : ℕ → Option ℕ → Bool
is_page_of page None = false
is_page_of page (Some address) = page == address / 4096
