-- The open bursts as a monitor of the port knows them: a burst that is sent is open there too, a beat that is performed is none of the port's,
-- and an answer breaks no rule there, and goes on as the monitor does that takes it. It knows both lists of bursts; bytes are hidden.
use Rattle.std.proofs.Common.{◌≡◌, ℕ, zero, suc, ◌+◌, ◌==◌, ◌<◌, Bool, true, false, List, [], ◌∷◌, refl, ap, sym, ◌∙◌, subst, arith}
use Rattle.std.specs.Prelude.{Option, Some, None, IfSome, filter_map, find, not, slice_get, ⊤}
use Rattle.std.specs.Bool.{beq}
use Rattle.std.specs.List.{AllByRecursion}
use Rattle.std.proofs.lemmas.Bool.{lt-leb}
use Rattle.std.proofs.lemmas.Bool.Decides.{nat_tests}
use Rattle.std.proofs.lemmas.List.{append-nil}
use Rattle.std.proofs.lemmas.List.Elements.{filter_map-append}
use Rattle.std.proofs.lemmas.Option.{slice_get_within}
use Rattle.bus_words.specs.Places.{change_first, without_first}
use Rattle.axi_beats.specs.Bursts.{Burst, WriteBurst, ReadBurst}
use Rattle.bus_words.proofs.PlaceChanges.{all-find, find-passes}
use Rattle.axi_beats.specs.Responses.{is_exokay}
use Rattle.axi_beats.specs.declared.ArBeat.{ArBeat}
use Rattle.axi_beats.specs.declared.AwBeat.{AwBeat}
use Rattle.axi_beats.specs.declared.BBeat.{BBeat}
use Rattle.axi_beats.specs.declared.RBeat.{RBeat}
use Rattle.axi_beats.specs.declared.Resp.{Resp}
use Rattle.axi_beats.specs.declared.WBeat.{WBeat}
use Rattle.axi_checker.proofs.LegalBursts.{last_place, open_after_all-burst}
use Rattle.axi_checker.specs.OpenBursts.{open_after, OpenBursts, OpenRead, OpenWrite, read_of_id, reads_after, write_of_id}
use Rattle.axi_checker.specs.declared.AxiBeat.TheVariants.{B as OnB, R as OnR}
use Rattle.axi_checker.specs.Rules.{axi_fault, beats_sent, open_after_all, open_with_burst}
use Rattle.subordinate.specs.FreeMemory.{FreeMemory, Pending, after_b_of, after_r_of, beat_after, beat_at, device_port, performed, reads_as, send_fault, with_performed, writes_as, gives_last, has_serial, is_read_of, is_write_of, open_bursts_of, open_read_in, open_write_in, pending_after_r, transfers_in, with_beat, with_burst}
use Rattle.subordinate.specs.Inside.{burst_in}
use Rattle.subordinate.specs.Laws.{IsBeatOf, IsSoundMemory, IsSoundPending, queue_of}
use Rattle.subordinate.specs.declared.BeatState.{BeatState}
use Rattle.subordinate.specs.declared.BeatState.TheVariants.{Captured}
use Rattle.subordinate.proofs.OpenBursts.{writes_have_data}

-- the open writes, and the open reads, that it knows
abbrev pub writes_in : List Pending → List OpenWrite
writes_in pending = filter_map (λ p. open_write_in p.burst) pending

abbrev pub reads_in : List Pending → List OpenRead
reads_in pending = filter_map (λ p. open_read_in p.answered p.burst) pending

-- ---- one is sent

same_bursts : (a b : OpenBursts) → a.writes ≡ b.writes → a.reads ≡ b.reads → a ≡ b
same_bursts a b writes reads = λ i. record { writes = writes i; reads = reads i }

pub outstanding_sent : (memory : FreeMemory) (burst : Burst) → open_with_burst (open_bursts_of memory) burst ≡ open_bursts_of (with_burst memory burst)
outstanding_sent memory (WriteBurst aw ws) =
    same_bursts _ _ (sym (filter_map-append (λ (p : Pending). open_write_in p.burst) memory.pending _))
    (sym (filter_map-append (λ (p : Pending). open_read_in p.answered p.burst) memory.pending _ ∙ append-nil (reads_in memory.pending)))
outstanding_sent memory (ReadBurst ar) =
    same_bursts _ _ (sym (filter_map-append (λ (p : Pending). open_write_in p.burst) memory.pending _ ∙ append-nil (writes_in memory.pending)))
    (sym (filter_map-append (λ (p : Pending). open_read_in p.answered p.burst) memory.pending _))

-- the same of a box's burst
pub known_sent : (memory : FreeMemory) (held : Option Burst) → IfSome held (λ burst. open_bursts_of (with_burst memory (burst_in held)) ≡ open_with_burst (open_bursts_of memory) burst)
known_sent memory None = tt
known_sent memory (Some burst) = sym (outstanding_sent memory burst)

-- and of its beats, which a monitor takes one by one, where the burst breaks no rule
pub known_beats : (memory : FreeMemory) (held : Option Burst) → IfSome held (λ burst. None ≡ send_fault memory burst)
    → IfSome held (λ burst. open_bursts_of (with_burst memory (burst_in held)) ≡ open_after_all (open_bursts_of memory) (beats_sent burst))
known_beats memory None unbroken = tt
known_beats memory (Some burst) unbroken =
    sym (open_after_all-burst (device_port memory) (open_bursts_of memory) burst (writes_have_data memory.pending) (sym unbroken) ∙ outstanding_sent memory burst)

-- ---- a beat is performed

-- a change that a port doesn't see
changed_unseen : {Y : Type 0} (h : Pending → Option Y) (test : Pending → Bool) (change : Pending → Pending) (pending : List Pending) → ((p : Pending) → h (change p) ≡ h p)
    → filter_map h (change_first test change pending) ≡ filter_map h pending
changed_unseen h test change [] unseen = refl
changed_unseen h test change (p ∷ ps) unseen = grind (arith, unseen p, changed_unseen h test change ps unseen)

pub outstanding_performed : (memory : FreeMemory) (pending : Pending) (beat : ℕ) → open_bursts_of (with_performed memory pending beat) ≡ open_bursts_of memory
outstanding_performed memory pending beat =
    same_bursts _ _ (changed_unseen (λ (p : Pending). open_write_in p.burst) (has_serial pending.serial) (with_beat beat (beat_after memory pending.burst beat)) memory.pending (λ p. refl))
    (changed_unseen (λ (p : Pending). open_read_in p.answered p.burst) (has_serial pending.serial) (with_beat beat (beat_after memory pending.burst beat)) memory.pending (λ p. refl))

-- whatever the call answers
pub known_performed : (memory : FreeMemory) (serial beat : ℕ) → open_bursts_of (performed memory serial beat).0 ≡ open_bursts_of memory
known_performed memory serial beat = grind (arith, outstanding_performed memory)

-- ---- a B comes

writes_after_b : (id : ℕ) (pending : List Pending) → writes_in (without_first (is_write_of id) pending) ≡ without_first (write_of_id id) (writes_in pending)
writes_after_b id [] = refl
writes_after_b id (p ∷ ps) = grind (arith, writes_after_b id ps)

reads_after_b : (id : ℕ) (pending : List Pending) → reads_in (without_first (is_write_of id) pending) ≡ reads_in pending
reads_after_b id [] = refl
reads_after_b id (p ∷ ps) = grind (arith, reads_after_b id ps)

pub outstanding_after_b : (memory : FreeMemory) (b : BBeat) → open_after (open_bursts_of memory) (OnB b) ≡ open_bursts_of (after_b_of memory b.id)
outstanding_after_b memory b = same_bursts _ _ (sym (writes_after_b b.id memory.pending)) (sym (reads_after_b b.id memory.pending))

-- ---- an R comes

-- the oldest read of an ID has beats to come
abbrev pub HasBeatsToCome : Option Pending → Type 0
HasBeatsToCome None = ⊤
HasBeatsToCome (Some p) = p.answered < transfers_in p.burst

reads_after_r : (id : ℕ) (pending : List Pending) → HasBeatsToCome (find (is_read_of id) pending) → reads_in (pending_after_r id pending) ≡ reads_after id (reads_in pending)
reads_after_r id [] to_come = refl
reads_after_r id (p ∷ ps) to_come = grind (arith, nat_tests, reads_after_r id ps)

writes_after_r : (id : ℕ) (pending : List Pending) → writes_in (pending_after_r id pending) ≡ writes_in pending
writes_after_r id [] = refl
writes_after_r id (p ∷ ps) = grind (arith, writes_after_r id ps)

pub outstanding_after_r : (memory : FreeMemory) (r : RBeat) → HasBeatsToCome (find (is_read_of r.id) memory.pending) → open_after (open_bursts_of memory) (OnR r) ≡ open_bursts_of (after_r_of memory r.id)
outstanding_after_r memory r to_come = same_bursts _ _ (sym (writes_after_r r.id memory.pending)) (sym (reads_after_r r.id memory.pending to_come))

-- the oldest read of the ID whose next beat is performed
pub known_after_r : (bus_bytes : ℕ) (memory : FreeMemory) (r : RBeat) (p : Pending) → find (is_read_of r.id) memory.pending ≡ Some p → IsSoundPending bus_bytes p
    → beat_at p p.answered ≡ Some (Captured r.payload r.resp) → open_bursts_of (after_r_of memory r.id) ≡ open_after (open_bursts_of memory) (OnR r)
known_after_r bus_bytes memory r p found sound captured =
    let within : p.answered < transfers_in p.burst = omega (arith, slice_get_within p.beats p.answered (Captured r.payload r.resp) captured, sound.whole) in
    sym (outstanding_after_r memory r (subst HasBeatsToCome (sym found) within))

-- ---- the oldest of an ID

-- an open write of an ID, as the port knows it
pub record IsOldestWrite (id : ℕ) (pending : List Pending) (p : Pending) : Type 0 where
  pub aw : AwBeat
  pub ws : List WBeat
  pub burst : p.burst ≡ WriteBurst aw ws
  pub seen : find (write_of_id id) (writes_in pending) ≡ Some (record { aw = aw; came = aw.len + 1 })

abbrev known_write : Option Pending → Option OpenWrite
known_write None = None
known_write (Some p) = open_write_in p.burst

found_write : (id : ℕ) (pending : List Pending) → find (write_of_id id) (writes_in pending) ≡ known_write (find (is_write_of id) pending)
found_write id [] = refl
found_write id (p ∷ ps) = grind (arith, found_write id ps)

pub oldest_write_seen : (id : ℕ) (pending : List Pending) (p : Pending) → find (is_write_of id) pending ≡ Some p → IsOldestWrite id pending p
oldest_write_seen id pending p found = by_burst p.burst refl (find-passes (is_write_of id) pending p found)
  where
    by_burst : (burst : Burst) → p.burst ≡ burst → writes_as id burst ≡ true → IsOldestWrite id pending p
    by_burst (ReadBurst ar) is passes = absurd (cc)
    by_burst (WriteBurst aw ws) is passes = record { aw = aw; ws = ws; burst = is; seen = found_write id pending ∙ ap known_write found ∙ ap open_write_in is }

-- an open read of an ID, as the port knows it
pub record IsOldestRead (id : ℕ) (pending : List Pending) (p : Pending) : Type 0 where
  pub ar : ArBeat
  pub burst : p.burst ≡ ReadBurst ar
  pub seen : find (read_of_id id) (reads_in pending) ≡ Some (record { ar = ar; came = p.answered })

abbrev known_read : Option Pending → Option OpenRead
known_read None = None
known_read (Some p) = open_read_in p.answered p.burst

found_read : (id : ℕ) (pending : List Pending) → find (read_of_id id) (reads_in pending) ≡ known_read (find (is_read_of id) pending)
found_read id [] = refl
found_read id (p ∷ ps) = grind (arith, found_read id ps)

pub oldest_read_seen : (id : ℕ) (pending : List Pending) (p : Pending) → find (is_read_of id) pending ≡ Some p → IsOldestRead id pending p
oldest_read_seen id pending p found = by_burst p.burst refl (find-passes (is_read_of id) pending p found)
  where
    by_burst : (burst : Burst) → p.burst ≡ burst → reads_as id burst ≡ true → IsOldestRead id pending p
    by_burst (WriteBurst aw ws) is passes = absurd (cc)
    by_burst (ReadBurst ar) is passes = record { ar = ar; burst = is; seen = found_read id pending ∙ ap known_read found ∙ ap (open_read_in p.answered) is }

-- ---- an answer breaks no rule

-- no ID is above the device's
id_of_write : (memory : FreeMemory) (id : ℕ) (p : Pending) → IsSoundMemory memory → find (is_write_of id) memory.pending ≡ Some p → id < 16
id_of_write memory id p sound found =
    let known = all-find (λ (q : Pending). queue_of q < 32) (is_write_of id) memory.pending p sound.few.known found in
    let passes = find-passes (is_write_of id) memory.pending p found in
    grind (arith, nat_tests, known, passes)

id_of_read : (memory : FreeMemory) (id : ℕ) (p : Pending) → IsSoundMemory memory → find (is_read_of id) memory.pending ≡ Some p → id < 16
id_of_read memory id p sound found =
    let known = all-find (λ (q : Pending). queue_of q < 32) (is_read_of id) memory.pending p sound.few.known found in
    let passes = find-passes (is_read_of id) memory.pending p found in
    grind (arith, nat_tests, known, passes)

pub takes_b : (memory : FreeMemory) (id : ℕ) (resp : Resp) (p : Pending) → IsSoundMemory memory → find (is_write_of id) memory.pending ≡ Some p → is_exokay resp ≡ false
    → axi_fault (device_port memory) (open_bursts_of memory) (OnB (record { id = id; resp = resp })) ≡ None
takes_b memory id resp p sound found plain =
    let oldest = oldest_write_seen id memory.pending p found in
    rw (lt-leb 16 id (id_of_write memory id p sound found), oldest.seen, lt-leb (oldest.aw.len + 1) oldest.aw.len (omega arith), plain) refl

-- what a read captured, and so answers, isn't EXOKAY
pub captured_plain : (burst : Burst) (beats : List BeatState) (n payload : ℕ) (resp : Resp) → AllByRecursion (IsBeatOf burst) beats → slice_get beats n ≡ Some (Captured payload resp) → is_exokay resp ≡ false
captured_plain burst [] n payload resp all there = absurd (cc)
captured_plain burst (beat ∷ beats) zero payload resp all there = grind (arith, all.0)
captured_plain burst (beat ∷ beats) (suc n) payload resp all there = captured_plain burst beats n payload resp all.1 there

same_flag : (b : Bool) → not (beq b b) ≡ false
same_flag true = refl
same_flag false = refl

pub takes_r : (memory : FreeMemory) (id payload : ℕ) (resp : Resp) (last : Bool) (p : Pending) → IsSoundMemory memory → find (is_read_of id) memory.pending ≡ Some p
    → beat_at p p.answered ≡ Some (Captured payload resp) → last ≡ gives_last p
    → axi_fault (device_port memory) (open_bursts_of memory) (OnR (record { id = id; payload = payload; resp = resp; last = last })) ≡ None
takes_r memory id payload resp last p sound found captured is_last =
    let oldest = oldest_read_seen id memory.pending p found in
    let each = all-find (IsSoundPending memory.bus_bytes) (is_read_of id) memory.pending p sound.each found in
    let place : last ≡ (p.answered == oldest.ar.len) = is_last ∙ ap (λ (burst : Burst). p.answered + 1 == transfers_in burst) oldest.burst ∙ last_place p.answered oldest.ar.len in
    let plain = captured_plain p.burst p.beats p.answered payload resp each.beats captured in
    rw (lt-leb 16 id (id_of_read memory id p sound found), oldest.seen, place, same_flag (p.answered == oldest.ar.len), plain) refl
