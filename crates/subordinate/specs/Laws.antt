-- What is true of every device that the calls make.
use Rattle.std.specs.Prelude.{◌≡◌, ℕ, ◌+◌, ◌*◌, ◌≤◌, false, List, [], ◌∷◌, length, take, ⊤}
use Rattle.std.specs.List.{AllByRecursion}
use Rattle.axi_beats.specs.Bursts.{Burst, ReadBurst, WriteBurst, IsLegal}
use Rattle.axi_beats.specs.Responses.{is_exokay}
use Rattle.axi_beats.specs.Transfers.{IsBusWidth}
use Rattle.axi_checker.specs.Monitors.{HasFewOfEach}
use Rattle.subordinate.specs.Effects.{HasGoodPages}
use Rattle.subordinate.specs.FreeMemory.{FreeMemory, Pending, is_waiting, transfers_in}
use Rattle.subordinate.specs.declared.BeatState.{BeatState}
use Rattle.subordinate.specs.declared.BeatState.TheVariants.{Waiting, Written, Captured}

abbrev pub IsPerformed : BeatState → Type 0
IsPerformed beat = is_waiting beat ≡ false

-- what a beat of a burst may be: a performed beat of a write is written, and that of a read is captured, with no EXOKAY, which only an
-- exclusive access would bring
abbrev pub IsBeatOf : Burst → BeatState → Type 0
IsBeatOf (WriteBurst aw data_beats) Waiting = ⊤
IsBeatOf (WriteBurst aw data_beats) Written = ⊤
IsBeatOf (WriteBurst aw data_beats) (Captured payload resp) = ⊥
IsBeatOf (ReadBurst ar) Waiting = ⊤
IsBeatOf (ReadBurst ar) Written = ⊥
IsBeatOf (ReadBurst ar) (Captured payload resp) = is_exokay resp ≡ false

-- beats are answered one by one in a read alone; the B of a write answers all of them, and closes it
abbrev pub HasAnswered : Burst → ℕ → Type 0
HasAnswered (WriteBurst aw data_beats) answered = answered ≡ 0
HasAnswered (ReadBurst ar) answered = ⊤

-- an open burst: legal, with a state of each of its beats, which is one of its side; of a read the beats that were answered are performed, and of
-- a write none was
pub record IsSoundPending (bus_bytes : ℕ) (pending : Pending) : Type 0 where
  pub legal : IsLegal bus_bytes pending.burst
  pub whole : length pending.beats ≡ transfers_in pending.burst
  pub beats : AllByRecursion (IsBeatOf pending.burst) pending.beats
  pub answered : AllByRecursion IsPerformed (take pending.answered pending.beats)
  pub most : pending.answered ≤ length pending.beats
  pub one_by_one : HasAnswered pending.burst pending.answered

-- the ID and the side of a burst as one number: the writes of an ID i are queue 2 i, its reads queue 2 i + 1
abbrev pub queue_of_burst : Burst → ℕ
queue_of_burst (WriteBurst aw data_beats) = 2 * aw.id
queue_of_burst (ReadBurst ar) = 2 * ar.id + 1

abbrev pub queue_of : Pending → ℕ
queue_of pending = queue_of_burst pending.burst

-- serials rise, from `low` on and below `top`
abbrev pub RisesWithin : ℕ → ℕ → List Pending → Type 0
RisesWithin low top [] = low ≤ top
RisesWithin low top (pending ∷ later) = (low ≤ pending.serial) × RisesWithin (pending.serial + 1) top later

-- a memory: its open bursts are sound and stand in the order sent, each ID has at most four on each side, and it has the bytes of its good pages
pub record IsSoundMemory (state : FreeMemory) : Type 0 where
  pub bus : IsBusWidth state.bus_bytes
  pub rising : RisesWithin 0 state.sent state.pending
  pub few : HasFewOfEach queue_of 32 4 state.pending
  pub each : AllByRecursion (IsSoundPending state.bus_bytes) state.pending
  pub pages : HasGoodPages state.faults state.memory
