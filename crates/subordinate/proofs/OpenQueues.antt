-- The queues of a memory's open bursts are the writes, and the reads, of its IDs; and what a device may ask of them.
use Rattle.std.proofs.Common.{◌≡◌, ℕ, zero, suc, ◌+◌, ◌*◌, ◌<◌, ◌≤◌, Bool, false, List, [], ◌∷◌, length, get_or, refl, sym, ◌∙◌, ap, subst, arith}
use Rattle.std.proofs.lemmas.Bool.{eqb-true, ne_eqb}
use Rattle.std.proofs.lemmas.List.{get_or_default}
use Rattle.std.proofs.lemmas.List.Folds.{find_at}
use Rattle.std.proofs.lemmas.Option.{same_Some, slice_get-get_or}
use Rattle.std.specs.List.{AllByRecursion}
use Rattle.std.specs.Prelude.{Option, Some, None, IfSome, IsSome, filter, find, is_some, position, slice_get}
use Rattle.axi_beats.specs.Bursts.{Burst}
use Rattle.bus_words.proofs.FirstPlaces.{find-same, first-passes, position_is_first}
use Rattle.bus_words.proofs.PlaceChanges.{find-passes}
use Rattle.subordinate.specs.Bursts.{is_found_ready, is_in, is_queue_ready, is_ready}
use Rattle.subordinate.specs.FreeMemory.{FreeMemory, Pending, b_from, b_of, is_read_of, is_write_of, newly_pending, r_from, r_of, transfers_in}
use Rattle.subordinate.specs.Inside.{burst_in, captured_at, is_beside, no_burst}
use Rattle.subordinate.specs.Laws.{IsSoundMemory, IsSoundPending, queue_of, queue_of_burst}
use Rattle.subordinate.specs.declared.BeatState.{BeatState}
use Rattle.subordinate.proofs.BurstIndex.{burst_at}
use Rattle.subordinate.proofs.OpenBursts.{all-placed}
use Rattle.bus_words.proofs.MappedPlaces.{position_same}
use Rattle.std.proofs.lemmas.Bool.Decides.{nat_tests}

-- ---- tests that agree

write_in : (id : ℕ) (p : Pending) → is_in (2 * id) p ≡ is_write_of id p
write_in id p = grind (arith, nat_tests)

read_in : (id : ℕ) (p : Pending) → is_in (2 * id + 1) p ≡ is_read_of id p
read_in id p = grind (arith, nat_tests)

pub write_place : (id : ℕ) (bursts : List Pending) → position (is_in (2 * id)) bursts ≡ position (is_write_of id) bursts
write_place id bursts = position_same (is_in (2 * id)) (is_write_of id) bursts (write_in id)

pub read_place : (id : ℕ) (bursts : List Pending) → position (is_in (2 * id + 1)) bursts ≡ position (is_read_of id) bursts
read_place id bursts = position_same (is_in (2 * id + 1)) (is_read_of id) bursts (read_in id)

-- ---- which IDs may answer

pub ready_b : (memory : FreeMemory) (id : ℕ) → is_queue_ready memory.pending (2 * id) ≡ is_some (b_of memory id)
ready_b memory id = ap is_found_ready (find-same (is_in (2 * id)) (is_write_of id) memory.pending (write_in id)) ∙ by_found (find (is_write_of id) memory.pending) refl
  where
    by_found : (found : Option Pending) → find (is_write_of id) memory.pending ≡ found → is_found_ready found ≡ is_some (b_from memory.faults id found)
    by_found None none = refl
    by_found (Some p) found = let passes = find-passes (is_write_of id) memory.pending p found in grind (arith, passes)

pub ready_r : (memory : FreeMemory) (id : ℕ) → is_queue_ready memory.pending (2 * id + 1) ≡ is_some (r_of memory id)
ready_r memory id = ap is_found_ready (find-same (is_in (2 * id + 1)) (is_read_of id) memory.pending (read_in id)) ∙ by_found (find (is_read_of id) memory.pending) refl
  where
    by_found : (found : Option Pending) → find (is_read_of id) memory.pending ≡ found → is_found_ready found ≡ is_some (r_from id found)
    by_found None none = refl
    by_found (Some p) found = let passes = find-passes (is_read_of id) memory.pending p found in grind (arith, passes)

pub first_ready_b : (memory : FreeMemory) (ids : List ℕ) → find (λ id. is_queue_ready memory.pending (2 * id)) ids ≡ find (λ id. is_some (b_of memory id)) ids
first_ready_b memory ids = find-same _ _ ids (ready_b memory)

pub first_ready_r : (memory : FreeMemory) (ids : List ℕ) → find (λ id. is_queue_ready memory.pending (2 * id + 1)) ids ≡ find (λ id. is_some (r_of memory id)) ids
first_ready_r memory ids = find-same _ _ ids (ready_r memory)

-- ---- no burst has an ID past the most

none_beyond : (queue : ℕ) (bursts : List Pending) → AllByRecursion (λ p. queue_of p < 32) bursts → 32 ≤ queue → find (is_in queue) bursts ≡ None
none_beyond queue [] known beyond = refl
none_beyond queue (p ∷ ps) known beyond = rw (ne_eqb (queue_of p) queue (λ same. omega (arith, same, known.0, beyond))) (none_beyond queue ps known.1 beyond)

pub not_ready : (memory : FreeMemory) (queue : ℕ) → IsSoundMemory memory → 32 ≤ queue → is_queue_ready memory.pending queue ≡ false
not_ready memory queue sound beyond = ap is_found_ready (none_beyond queue memory.pending sound.few.known beyond)

here : (bursts : List Pending) (k : ℕ) → k < length bursts → burst_at bursts k ≡ get_or bursts k (burst_at bursts k)
here bursts k within = get_or_default bursts k (newly_pending 0 no_burst) (burst_at bursts k) within

pub queue_known : (bursts : List Pending) (queue k : ℕ) → AllByRecursion (λ p. queue_of p < 32) bursts → position (is_in queue) bursts ≡ Some k → queue < 32
queue_known bursts queue k known place =
    let at = position_is_first (is_in queue) bursts k place in
    let same : queue_of (burst_at bursts k) ≡ queue = eqb-true _ queue (first-passes (is_in queue) bursts k _ at) in
    subst (λ n. n < 32) same (all-placed (λ p. queue_of p < 32) bursts k (burst_at bursts k) known at.within (here bursts k at.within))

-- ---- the burst at a place

pub at_place : (bursts : List Pending) (k : ℕ) (p : Pending) → k < length bursts → slice_get bursts k ≡ Some p → p ≡ get_or bursts k p
at_place bursts k p within here = same_Some p (get_or bursts k p) (sym here ∙ slice_get-get_or bursts k p within)

pub found_here : (test : Pending → Bool) (bursts : List Pending) (k : ℕ) (p : Pending) → position test bursts ≡ Some k → slice_get bursts k ≡ Some p → find test bursts ≡ Some p
found_here test bursts k p place here = find_at test bursts ∙ ap (slice_get bursts) (position_is_first test bursts k place).first ∙ here

pub some_at : (bursts : List Pending) (k : ℕ) → k < length bursts → slice_get bursts k ≡ Some (burst_at bursts k)
some_at bursts k within = slice_get-get_or bursts k _ within

pub known_at : (bursts : List Pending) (k : ℕ) → k < length bursts → AllByRecursion (λ p. queue_of p < 32) bursts → IfSome (slice_get bursts k) (λ p. queue_of p < 32)
known_at bursts k within known =
    subst (λ (found : Option Pending). IfSome found (λ p. queue_of p < 32)) (sym (some_at bursts k within)) (all-placed (λ p. queue_of p < 32) bursts k (burst_at bursts k) known within (here bursts k within))

pub whole_at : (bus_bytes : ℕ) (bursts : List Pending) (k : ℕ) → k < length bursts → AllByRecursion (IsSoundPending bus_bytes) bursts → IfSome (slice_get bursts k) (λ p. length p.beats ≡ transfers_in p.burst)
whole_at bus_bytes bursts k within sound =
    subst (λ (found : Option Pending). IfSome found (λ p. length p.beats ≡ transfers_in p.burst)) (sym (some_at bursts k within)) (all-placed (IsSoundPending bus_bytes) bursts k (burst_at bursts k) sound within (here bursts k within)).whole

-- a burst has a place in the list that is kept, where it has one in the list that callers see
pub kept_place : (queue : ℕ) (bursts current : List Pending) (k : ℕ) → bursts ≡ current → position (is_in queue) current ≡ Some k → (position (is_in queue) bursts ≡ Some k) × (k < length bursts)
kept_place queue bursts current k view place = grind (arith, view, place)

-- a beat that captured is one of its burst
pub captured_within : (beats : List BeatState) (n : ℕ) → IsSome (captured_at (slice_get beats n)) → n < length beats
captured_within [] n some = absurd (cc (some))
captured_within (beat ∷ beats) zero some = omega arith
captured_within (beat ∷ beats) (suc n) some = omega (arith, captured_within beats n some)

-- ---- a burst that is sent

-- how many are beside a box's burst
pub counted_beside : (held : Option Burst) (queue n : ℕ) (bursts : List Pending) → queue ≡ queue_of_burst (burst_in held) → n ≡ length (filter (is_in queue) bursts)
    → IfSome held (λ burst. n ≡ length (filter (is_beside burst) bursts))
counted_beside held queue n bursts is count = grind (arith, is, count)

-- it waits
pub newly_waits : (serial : ℕ) (burst : Burst) → is_ready (newly_pending serial burst) ≡ false
newly_waits serial burst = grind arith
