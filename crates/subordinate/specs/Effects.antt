-- What performing a beat does, by addresses: which bytes it sets or captures, each in the lane that its address names. These records
-- hold of a performed beat of every legal burst.
use Rattle.std.specs.Prelude.{◌≡◌, ℕ, ◌+◌, ◌%◌, Bool, true, false, ◌&&◌, length, Some, IfSome, find, is_some, slice_get}
use Rattle.std.specs.List.{AllByRecursion}
use Rattle.bus_words.specs.Lanes.{lane_byte, has_lane}
use Rattle.axi_beats.specs.Bursts.{Burst, WriteBurst, ReadBurst}
use Rattle.axi_beats.specs.Responses.{is_okay}
use Rattle.axi_beats.specs.Transfers.{transfer_address, transfer_has}
use Rattle.axi_beats.specs.declared.Resp.{Resp}
use Rattle.axi_beats.specs.declared.AwBeat.{AwBeat}
use Rattle.axi_beats.specs.declared.ArBeat.{ArBeat}
use Rattle.axi_beats.specs.declared.WBeat.{WBeat}
use Rattle.subordinate.specs.Faults.{Faults, standing_at, is_good, read_response}
use Rattle.subordinate.specs.FreeMemory.{FreeMemory, beat_after, has_serial}
use Rattle.subordinate.specs.declared.BeatState.TheVariants.{Captured}
use Rattle.subordinate.specs.Pages.{GoodPage, Memory, byte_at_address}

-- a page has all its words
abbrev pub IsWholePage : GoodPage → Type 0
IsWholePage page = length page.words ≡ 512

-- the bytes of a memory are just those of the pages that are good, and these have all their words
pub record HasGoodPages (faults : Faults) (memory : Memory) : Type 0 where
  pub exactly : (address : ℕ) → is_some (byte_at_address memory address) ≡ is_good (standing_at faults address)
  pub whole : AllByRecursion IsWholePage memory

-- whether transfer n of a write has an address, and the strobe of its lane
abbrev pub strobes_byte : ℕ → AwBeat → ℕ → WBeat → ℕ → Bool
strobes_byte bus_bytes aw n w address = transfer_has aw.address aw.size n address && has_lane w.strobes (address % bus_bytes)

-- what transfer n of a write does: the strobed bytes of good pages are set, and no other byte changes
pub record IsWritten (old new : FreeMemory) (aw : AwBeat) (n : ℕ) (w : WBeat) : Type 0 where
  pub set :
      (address : ℕ) → strobes_byte old.bus_bytes aw n w address ≡ true → is_good (standing_at old.faults address) ≡ true
      → byte_at_address new.memory address ≡ Some (lane_byte w.payload (address % old.bus_bytes))
  pub kept : (address : ℕ) → strobes_byte old.bus_bytes aw n w address ≡ false → byte_at_address new.memory address ≡ byte_at_address old.memory address
  pub refused : (address : ℕ) → is_good (standing_at old.faults address) ≡ false → byte_at_address new.memory address ≡ byte_at_address old.memory address

-- what transfer n of a read captures: its page and word decide the response; with OKAY each of its bytes is in its lane, else all is zero
pub record IsCaptured (state : FreeMemory) (ar : ArBeat) (n payload : ℕ) (resp : Resp) : Type 0 where
  pub response : resp ≡ read_response state.faults (transfer_address ar.address ar.size n)
  pub bytes :
      (address : ℕ) → is_okay resp ≡ true → transfer_has ar.address ar.size n address ≡ true
      → byte_at_address state.memory address ≡ Some (lane_byte payload (address % state.bus_bytes))
  pub error : is_okay resp ≡ false → payload ≡ 0

-- what performing beat `beat` of a burst, counted from 0, does
abbrev pub HasEffect : FreeMemory → FreeMemory → Burst → ℕ → Type 0
HasEffect old new (WriteBurst aw data_beats) beat = IfSome (slice_get data_beats beat) (IsWritten old new aw (beat + 1))
HasEffect old new (ReadBurst ar) beat =
    (payload : ℕ) × (resp : Resp) × (beat_after old (ReadBurst ar) beat ≡ Captured payload resp) × IsCaptured old ar (beat + 1) payload resp

-- what performing that beat of the open burst with a serial does
abbrev pub HasEffectAt : ℕ → ℕ → FreeMemory → FreeMemory → Type 0
HasEffectAt serial beat old new = IfSome (find (has_serial serial) old.pending) (λ pending. HasEffect old new pending.burst beat)
