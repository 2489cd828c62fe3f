-- The words of a range of the memory, one by one.
use Rattle.std.specs.Prelude.{ℕ, ◌≡◌, ◌+◌, ◌-◌, ◌*◌, ◌/◌, ◌^◌, ◌<◌, true, false, max, List, map, Option, if◌then◌else◌, nat_lt, slice_index}
use Rattle.std.specs.List.{range_with_len}
use Rattle.bus_words.specs.Lanes.{has_lane}
use Rattle.tl_messages.specs.Lanes.{in_lanes}
use Rattle.axi_beats.specs.Responses.{is_okay}
use Rattle.axi_beats.specs.declared.RBeat.{RBeat}
use Rattle.tl_messages.specs.Requests.{HeldMessage, request_of}
use Rattle.responses.specs.Gathered.{GatherState, gathering_of, outline_of}
use Rattle.subordinate.specs.Faults.{read_response}
use Rattle.sparse_memory.specs.SparseMemory.{SparseState, bytes_in, doubts_in, faults_in, has_room, word_in}
use Rattle.meaning.specs.Meaning.{Bytes, with_bytes}
use Rattle.serial_memory.specs.SerialMemory.{IsMemoryRange, is_filled}

-- a word of them, by its number from 0
pub record IsWordAt (address size place : ℕ) : Type 0 where
  pub range : IsMemoryRange address size
  pub inside : place < max 1 (2 ^ size / 8)

-- a mask has only lanes of the 2^size bytes at an address
abbrev pub IsWithinWord : ℕ → ℕ → ℕ → Type 0
IsWithinWord address size mask = (lane : ℕ) → lane < 8 → has_lane mask lane ≡ true → in_lanes address size lane ≡ true

-- what the memory answers to the read of the word that an address is in
abbrev pub word_answered : SparseState → ℕ → RBeat
word_answered state address =
    record {
      id = 0;
      payload = if is_okay (read_response (faults_in state) address) then word_in (bytes_in state) address else 0;
      resp = read_response (faults_in state) address;
      last = false;
    }

-- the answers to the words of a range at an address, from a place on
abbrev pub words_read : SparseState → ℕ → ℕ → ℕ → List RBeat
words_read state address from count = map (λ place. word_answered state (address + place * 8)) (range_with_len from count)

-- bytes with those put that lie below an address, of a list that begins at another
abbrev pub put_below : ℕ → Bytes → ℕ → List (Option ℕ) → Bytes
put_below end m address bytes x = if nat_lt x end then with_bytes m address bytes x else m x

-- nothing is gathered yet of a request that isn't denied from the start
pub record IsFresh (gather : GatherState) (message : HeldMessage) : Type 0 where
  pub bus : gather.bus_bytes ≡ 8
  pub outline : gather.outline ≡ outline_of (request_of message)
  pub gathering : gather.gathering ≡ gathering_of (outline_of (request_of message)) false

-- only bytes have changed
pub record IsWrittenAlone (old new : SparseState) : Type 0 where
  pub faults : faults_in new ≡ faults_in old
  pub doubts : doubts_in new ≡ doubts_in old
  pub rooms : has_room new ≡ has_room old

-- pages have got room, and nothing else has changed
pub record IsReservedAlone (old new : SparseState) : Type 0 where
  pub faults : faults_in new ≡ faults_in old
  pub bytes : bytes_in new ≡ bytes_in old
  pub doubts : doubts_in new ≡ doubts_in old
  pub rooms : (page : ℕ) → has_room old page ≡ true → has_room new page ≡ true

-- bytes with the first ones of a list put from an address on, so many as are counted
abbrev pub filled_until : Bytes → ℕ → List ℕ → ℕ → Bytes
filled_until m address bytes count x = if is_filled address count x then slice_index bytes (x - address) else m x
