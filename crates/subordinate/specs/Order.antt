-- AXI4's order of answers in its own words (AXI4, A5.3): the read data of one ID come in the order of its addresses, and so do the write
-- responses of one ID. Between IDs, and between reads and writes, there is no order.
use Rattle.std.specs.Prelude.{◌≡◌, ◌≢◌, ℕ, ◌-◌, List, ◌∷◌, ◌++◌, [], map, filter, find, flat_map, slice_get, Some, IfSome, if◌then◌else◌}
use Rattle.std.specs.List.{range_with_len}
use Rattle.axi_beats.specs.Bursts.{Burst}
use Rattle.axi_beats.specs.declared.RBeat.{RBeat}
use Rattle.subordinate.specs.FreeMemory.{Pending, has_serial, is_read_of, is_write_of, newly_pending, reads_as, transfers_in, writes_as}
use Rattle.subordinate.specs.declared.BeatState.TheVariants.{Captured}

-- the beats of an open read whose R hasn't come, by serial and place
abbrev pub beats_owed : Pending → List (ℕ × ℕ)
beats_owed pending = map (λ beat. (pending.serial, beat)) (range_with_len pending.answered (transfers_in pending.burst - pending.answered))

-- those of all open reads of an ID, in the order of their addresses
abbrev pub reads_owed : ℕ → List Pending → List (ℕ × ℕ)
reads_owed id pending = flat_map beats_owed (filter (is_read_of id) pending)

-- the serials of the open writes of an ID, in the order of their addresses
abbrev pub writes_owed : ℕ → List Pending → List ℕ
writes_owed id pending = map (λ write. write.serial) (filter (is_write_of id) pending)

-- what a burst just sent owes to an ID
abbrev pub reads_owed_by : ℕ → ℕ → Burst → List (ℕ × ℕ)
reads_owed_by id serial burst = if reads_as id burst then beats_owed (newly_pending serial burst) else []

abbrev pub writes_owed_by : ℕ → ℕ → Burst → List ℕ
writes_owed_by id serial burst = if writes_as id burst then serial ∷ [] else []

-- a burst that was sent is owed its answers after those of all bursts of its ID before it
pub record OwesAfterOthers (serial : ℕ) (burst : Burst) (old new : List Pending) : Type 0 where
  pub reads : (id : ℕ) → reads_owed id new ≡ reads_owed id old ++ reads_owed_by id serial burst
  pub writes : (id : ℕ) → writes_owed id new ≡ writes_owed id old ++ writes_owed_by id serial burst

-- nothing is answered
pub record OwesTheSame (old new : List Pending) : Type 0 where
  pub reads : (id : ℕ) → reads_owed id new ≡ reads_owed id old
  pub writes : (id : ℕ) → writes_owed id new ≡ writes_owed id old

-- a B of an ID answers the oldest of its writes
pub record AnswersOldestWrite (id : ℕ) (old new : List Pending) : Type 0 where
  pub serial : ℕ
  pub next : writes_owed id old ≡ serial ∷ writes_owed id new
  pub others : (other : ℕ) → other ≢ id → writes_owed other new ≡ writes_owed other old
  pub reads : (other : ℕ) → reads_owed other new ≡ reads_owed other old

-- an R of an ID is the next beat of the oldest of its reads, with what that beat captured when it was performed
pub record AnswersNextBeat (id : ℕ) (r : RBeat) (old new : List Pending) : Type 0 where
  pub serial : ℕ
  pub beat : ℕ
  pub next : reads_owed id old ≡ (serial, beat) ∷ reads_owed id new
  pub captured : IfSome (find (has_serial serial) old) (λ pending. slice_get pending.beats beat ≡ Some (Captured r.payload r.resp))
  pub others : (other : ℕ) → other ≢ id → reads_owed other new ≡ reads_owed other old
  pub writes : (other : ℕ) → writes_owed other new ≡ writes_owed other old
