-- The work in the open bursts of a memory: how much of it there can be, and what each event makes of it. It counts beats and answers; the
-- bridge and all bytes are hidden.
use Rattle.std.proofs.Common.{◌≡◌, ℕ, zero, suc, ◌+◌, ◌-◌, ◌*◌, ◌<◌, ◌≤◌, Bool, true, false, not, List, [], ◌∷◌, length, refl, sym, ◌∙◌, ap, arith, inl, inr}
use Rattle.std.specs.Prelude.{Option, Some, None, find, flat_map, if◌then◌else◌, option_map, slice_get, sum_by, take}
use Rattle.std.specs.List.{AllByRecursion, list_any}
use Rattle.std.proofs.lemmas.Bool.{cases_lt, eq-eqb, eqb-true, ne_eqb}
use Rattle.std.proofs.lemmas.List.{length-append}
use Rattle.std.proofs.lemmas.List.Sums.{sum_by-append, sum_by-cons}
use Rattle.std.proofs.lemmas.Option.{same_Some, slice_get-map, slice_get_within}
use Rattle.axi_beats.specs.Bursts.{Burst, IsLegal}
use Rattle.axi_beats.specs.declared.BBeat.{BBeat}
use Rattle.axi_beats.specs.declared.RBeat.{RBeat}
use Rattle.axi_beats.specs.declared.Resp.{Resp}
use Rattle.axi_checker.proofs.Few.{length-few}
use Rattle.bus_words.proofs.PlaceChanges.{all-find, all-map, find-passes}
use Rattle.bus_words.proofs.StoredPlaces.{slice_get-append-after, slice_get-append-before}
use Rattle.subordinate.specs.Faults.{standing_at, write_response}
use Rattle.subordinate.specs.FreeMemory.{FreeMemory, Pending, after_b_of, after_r_of, answers_left, b_from, b_of, beat_after, beat_at, gives_last, has_serial, is_read_of, is_waiting, is_write_of, newly_pending, r_from, r_of, r_with, reads_as, start_of, transfers_in, waiting_beats, waiting_in, with_beat, with_burst, with_performed, work_in, work_open, writes_as}
use Rattle.subordinate.specs.Inside.{count_waiting, waiting_places, with_answer}
use Rattle.subordinate.specs.Laws.{IsPerformed, IsSoundMemory, IsSoundPending, RisesWithin, queue_of}
use Rattle.subordinate.specs.declared.BeatState.{BeatState}
use Rattle.subordinate.specs.declared.BeatState.TheVariants.{Waiting, Written, Captured}
use Rattle.subordinate.proofs.BeatStates.{count_waiting-le, count_waiting-put, count_waiting-replicate, length-waiting_in, none_waiting, waiting_in-is}
use Rattle.subordinate.proofs.OpenBursts.{pending_after_r-last, pending_after_r-more}
use Rattle.subordinate.proofs.SoundDevices.{beat_after-performed}
use Rattle.world.proofs.Sums.{sum_between, sum_without}

-- ---- how much there is

-- a legal burst has at most 256 transfers
pub few_transfers : (bus_bytes : ℕ) (burst : Burst) → IsLegal bus_bytes burst → transfers_in burst ≤ 256
few_transfers bus_bytes burst legal = grind (arith, legal)

answers_few : (answered : ℕ) (burst : Burst) → answers_left answered burst ≤ transfers_in burst
answers_few answered burst = grind arith

work_in_few : (bus_bytes : ℕ) (p : Pending) → IsSoundPending bus_bytes p → work_in p ≤ 512
work_in_few bus_bytes p sound =
    omega (arith, length-waiting_in p, count_waiting-le p.beats, sound.whole, few_transfers bus_bytes p.burst sound.legal, answers_few p.answered p.burst)

pub sum_few : {X : Type 0} (f : X → ℕ) (most : ℕ) (xs : List X) → AllByRecursion (λ x. f x ≤ most) xs → sum_by f xs ≤ length xs * most
sum_few f most [] all = omega arith
sum_few f most (x ∷ xs) all = omega (arith, all.0, sum_few f most xs all.1, sum_by-cons f x xs)

pub work_open_few : (memory : FreeMemory) → IsSoundMemory memory → work_open memory ≤ 65536
work_open_few memory sound =
    omega (arith, sum_few work_in 512 memory.pending (all-map (IsSoundPending memory.bus_bytes) (λ p. work_in p ≤ 512) memory.pending (λ p each. work_in_few memory.bus_bytes p each) sound.each), length-few queue_of 32 4 memory.pending sound.few)

waiting_in_work : (pending : List Pending) → length (flat_map waiting_in pending) ≤ sum_by work_in pending
waiting_in_work [] = omega arith
waiting_in_work (p ∷ ps) = omega (arith, length-append (waiting_in p) (flat_map waiting_in ps), waiting_in_work ps, sum_by-cons work_in p ps)

pub waiting_few : (memory : FreeMemory) → IsSoundMemory memory → length (waiting_beats memory) ≤ 65536
waiting_few memory sound = omega (arith, waiting_in_work memory.pending, work_open_few memory sound)

-- ---- what each event makes of it

-- a burst just sent has all its beats and answers to come
work_in-newly : (serial : ℕ) (burst : Burst) → work_in (newly_pending serial burst) ≡ transfers_in burst + answers_left 0 burst
work_in-newly serial burst = ap (λ n. n + answers_left 0 burst) (length-waiting_in (newly_pending serial burst) ∙ count_waiting-replicate (transfers_in burst))

pub work_open-sent : (memory : FreeMemory) (burst : Burst) → work_open (with_burst memory burst) ≡ work_open memory + (transfers_in burst + answers_left 0 burst)
work_open-sent memory burst =
    omega (
      arith,
      sum_by-append work_in memory.pending (newly_pending memory.sent burst ∷ []),
      sum_by-cons work_in (newly_pending memory.sent burst) [],
      work_in-newly memory.sent burst,
    )

-- a beat that waited is performed
work_in-with_beat : (p : Pending) (beat : ℕ) (state : BeatState) → beat_at p beat ≡ Some Waiting → is_waiting state ≡ false → work_in (with_beat beat state p) + 1 ≡ work_in p
work_in-with_beat p beat state waits performed =
    omega (arith, length-waiting_in (with_beat beat state p), length-waiting_in p, count_waiting-put p.beats beat state waits performed)

pub work_open-performed : (memory : FreeMemory) (serial beat : ℕ) (p : Pending) → find (has_serial serial) memory.pending ≡ Some p → beat_at p beat ≡ Some Waiting
    → work_open memory ≡ 1 + work_open (with_performed memory p beat)
work_open-performed memory serial beat p found waits =
    let same : p.serial ≡ serial = eqb-true p.serial serial (find-passes (has_serial serial) memory.pending p found) in
    let here : find (has_serial p.serial) memory.pending ≡ Some p = ap (λ n. find (has_serial n) memory.pending) same ∙ found in
    let state = beat_after memory p.burst beat in
    omega (arith, sum_between work_in (has_serial p.serial) (with_beat beat state) memory.pending p here, work_in-with_beat p beat state waits (beat_after-performed memory p.burst beat))

-- a B closes a write, of which all beats are performed
pub record FindsWrite (memory : FreeMemory) (id : ℕ) (b : BBeat) : Type 0 where
  pub write : Pending
  pub found : find (is_write_of id) memory.pending ≡ Some write
  pub performed : list_any is_waiting write.beats ≡ false
  pub answer : b ≡ record { id = id; resp = write_response (standing_at memory.faults (start_of write.burst)) }

pub b_found : (memory : FreeMemory) (id : ℕ) (b : BBeat) → b_of memory id ≡ Some b → FindsWrite memory id b
b_found memory id b is = by_write (find (is_write_of id) memory.pending) refl is
  where
    by_beats : (p : Pending) (waits : Bool) → find (is_write_of id) memory.pending ≡ Some p → list_any is_waiting p.beats ≡ waits
        → (if waits then None else Some (record { id = id; resp = write_response (standing_at memory.faults (start_of p.burst)) })) ≡ Some b → FindsWrite memory id b
    by_beats p true found waits is = absurd (cc (is))
    by_beats p false found waits is = record { write = p; found = found; performed = waits; answer = sym (same_Some _ b is) }

    by_write : (o : Option Pending) → find (is_write_of id) memory.pending ≡ o → b_from memory.faults id o ≡ Some b → FindsWrite memory id b
    by_write None found is = absurd (cc (is))
    by_write (Some p) found is = by_beats p (list_any is_waiting p.beats) found refl is

none_left : (beats : List BeatState) → list_any is_waiting beats ≡ false → count_waiting beats ≡ 0
none_left beats none = eqb-true (count_waiting beats) 0 (none_waiting beats ∙ ap not none)

write_work : (id : ℕ) (p : Pending) → is_write_of id p ≡ true → answers_left p.answered p.burst ≡ 1
write_work id p is = by_burst p.burst is
  where
    by_burst : (burst : Burst) → writes_as id burst ≡ true → answers_left p.answered burst ≡ 1
    by_burst burst is = grind (arith, is)

pub work_open-b : (memory : FreeMemory) (id : ℕ) (b : BBeat) → b_of memory id ≡ Some b → work_open memory ≡ 1 + work_open (after_b_of memory id)
work_open-b memory id b is =
    let finds = b_found memory id b is in
    let p = finds.write in
    omega (
      arith,
      sum_without work_in (is_write_of id) memory.pending p finds.found,
      length-waiting_in p,
      none_left p.beats finds.performed,
      write_work id p (find-passes (is_write_of id) memory.pending p finds.found),
    )

-- an R is a beat of a read that was performed
pub record FindsRead (memory : FreeMemory) (id : ℕ) (r : RBeat) : Type 0 where
  pub read : Pending
  pub found : find (is_read_of id) memory.pending ≡ Some read
  pub payload : ℕ
  pub resp : Resp
  pub captured : beat_at read read.answered ≡ Some (Captured payload resp)
  pub answer : r ≡ record { id = id; payload = payload; resp = resp; last = gives_last read }

pub r_found : (memory : FreeMemory) (id : ℕ) (r : RBeat) → r_of memory id ≡ Some r → FindsRead memory id r
r_found memory id r is = by_read (find (is_read_of id) memory.pending) refl is
  where
    by_beat : (p : Pending) (beat : Option BeatState) → find (is_read_of id) memory.pending ≡ Some p → beat_at p p.answered ≡ beat → r_with id p beat ≡ Some r → FindsRead memory id r
    by_beat p None found at is = absurd (cc (is))
    by_beat p (Some Waiting) found at is = absurd (cc (is))
    by_beat p (Some Written) found at is = absurd (cc (is))
    by_beat p (Some (Captured payload resp)) found at is =
        record { read = p; found = found; payload = payload; resp = resp; captured = at; answer = sym (same_Some _ r is) }

    by_read : (o : Option Pending) → find (is_read_of id) memory.pending ≡ o → r_from id o ≡ Some r → FindsRead memory id r
    by_read None found is = absurd (cc (is))
    by_read (Some p) found is = by_beat p (beat_at p p.answered) found refl is

-- all beats of a read that gives its last R are performed
all_performed : (n : ℕ) (beats : List BeatState) (state : BeatState) → AllByRecursion IsPerformed (take n beats) → slice_get beats n ≡ Some state → is_waiting state ≡ false → length beats ≤ n + 1
    → count_waiting beats ≡ 0
all_performed n [] state all there performed last = refl
all_performed zero (beat ∷ []) state all there performed last =
    let same : state ≡ beat = cc in
    let not_waiting : is_waiting beat ≡ false = ap is_waiting (sym same) ∙ performed in
    rw not_waiting refl
all_performed zero (beat ∷ other ∷ beats) state all there performed last = absurd (omega (arith, last))
all_performed (suc n) (beat ∷ beats) state all there performed last = rw (all.0) (all_performed n beats state all.1 there performed (omega (arith, last)))

read_work : (id : ℕ) (p : Pending) → is_read_of id p ≡ true → (n : ℕ) → answers_left n p.burst ≡ transfers_in p.burst - n
read_work id p is = by_burst p.burst is
  where
    by_burst : (burst : Burst) → reads_as id burst ≡ true → (n : ℕ) → answers_left n burst ≡ transfers_in burst - n
    by_burst burst is n = grind (arith, is)

pub work_open-r : (memory : FreeMemory) (id : ℕ) (r : RBeat) → IsSoundMemory memory → r_of memory id ≡ Some r → work_open memory ≡ 1 + work_open (after_r_of memory id)
work_open-r memory id r sound is = by_last (gives_last finds.read) refl
  where
    finds : FindsRead memory id r
    finds = r_found memory id r is

    passes : is_read_of id finds.read ≡ true
    passes = find-passes (is_read_of id) memory.pending finds.read finds.found

    each : IsSoundPending memory.bus_bytes finds.read
    each = all-find (IsSoundPending memory.bus_bytes) (is_read_of id) memory.pending finds.read sound.each finds.found

    within : finds.read.answered < transfers_in finds.read.burst
    within = omega (arith, slice_get_within finds.read.beats finds.read.answered _ finds.captured, each.whole)

    by_last : (last : Bool) → gives_last finds.read ≡ last → work_open memory ≡ 1 + work_open (after_r_of memory id)
    by_last true is_last =
        let p = finds.read in
        let end : p.answered + 1 ≡ transfers_in p.burst = eqb-true (p.answered + 1) (transfers_in p.burst) is_last in
        let none = all_performed p.answered p.beats (Captured finds.payload finds.resp) each.answered finds.captured refl (omega (arith, each.whole, end)) in
        rw (pending_after_r-last id memory.pending p finds.found is_last)
        (omega (arith, sum_without work_in (is_read_of id) memory.pending p finds.found, length-waiting_in p, none, read_work id p passes p.answered, end))
    by_last false more =
        let p = finds.read in
        let answered : work_in (with_answer p) + 1 ≡ work_in p = omega (arith, read_work id p passes p.answered, read_work id p passes (p.answered + 1), within) in
        rw (pending_after_r-more id memory.pending p finds.found more) (omega (arith, sum_between work_in (is_read_of id) with_answer memory.pending p finds.found, answered))

-- ---- the beats that wait

waits_later : (from : ℕ) (beat : BeatState) (beats : List BeatState) (place : ℕ) → (from + 1 ≤ place) × (slice_get beats (place - (from + 1)) ≡ Some Waiting)
    → (from ≤ place) × (slice_get (beat ∷ beats) (place - from) ≡ Some Waiting)
waits_later from beat beats place later = grind (arith, later)

-- a place among those that wait
place_waits : (from : ℕ) (beats : List BeatState) (k place : ℕ) → slice_get (waiting_places from beats) k ≡ Some place → (from ≤ place) × (slice_get beats (place - from) ≡ Some Waiting)
place_waits from [] k place there = absurd (cc (there))
place_waits from (Waiting ∷ beats) zero place there =
    let same : from ≡ place = same_Some from place there in
    let first : place - from ≡ 0 = omega (arith, same) in
    (omega (arith, same), rw first refl)
place_waits from (Waiting ∷ beats) (suc k) place there = waits_later from Waiting beats place (place_waits (from + 1) beats k place there)
place_waits from (Written ∷ beats) k place there = waits_later from Written beats place (place_waits (from + 1) beats k place there)
place_waits from (Captured payload resp ∷ beats) k place there = waits_later from (Captured payload resp) beats place (place_waits (from + 1) beats k place there)

-- a beat that waits, as the memory lists it
pub record FindsBeat (pending : List Pending) (place : ℕ × ℕ) : Type 0 where
  pub burst : Pending
  pub found : find (has_serial place.0) pending ≡ Some burst
  pub waits : beat_at burst place.1 ≡ Some Waiting

waits_in : (p : Pending) (k : ℕ) (place : ℕ × ℕ) → slice_get (waiting_in p) k ≡ Some place → (place.0 ≡ p.serial) × (beat_at p place.1 ≡ Some Waiting)
waits_in p k place there =
    let at : option_map (λ beat. (p.serial, beat)) (slice_get (waiting_places 0 p.beats) k) ≡ Some place =
    sym (slice_get-map (λ beat. (p.serial, beat)) (waiting_places 0 p.beats) k) ∙ ap (λ (beats : List (ℕ × ℕ)). slice_get beats k) (sym (waiting_in-is p)) ∙ there
    in
    by_beat (slice_get (waiting_places 0 p.beats) k) refl at
  where
    by_beat : (o : Option ℕ) → slice_get (waiting_places 0 p.beats) k ≡ o → option_map (λ beat. (p.serial, beat)) o ≡ Some place → (place.0 ≡ p.serial) × (beat_at p place.1 ≡ Some Waiting)
    by_beat None is at = absurd (cc (at))
    by_beat (Some beat) is at =
        let same : place ≡ (p.serial, beat) = sym (same_Some _ _ at) in
        let waits = (place_waits 0 p.beats k beat is).1 in
        let from_zero : beat - 0 ≡ beat = omega arith in
        (ap (λ (q : ℕ × ℕ). q.0) same, ap (λ (q : ℕ × ℕ). beat_at p q.1) same ∙ (rw from_zero at waits))

finds_beat : (low top : ℕ) (pending : List Pending) (k : ℕ) (place : ℕ × ℕ) → RisesWithin low top pending → slice_get (flat_map waiting_in pending) k ≡ Some place → FindsBeat pending place × (low ≤ place.0)
finds_beat low top [] k place rises there = absurd (cc (there))
finds_beat low top (p ∷ ps) k place rises there =
    elim (cases_lt k (length (waiting_in p))) [
      | inl here ↦
          let waits = waits_in p k place (sym (slice_get-append-before (waiting_in p) (flat_map waiting_in ps) k here) ∙ there) in
          (record { burst = p; found = rw (waits.0, eq-eqb p.serial p.serial refl) refl; waits = waits.1 }, omega (arith, waits.0, rises.0))
      | inr past ↦
          let (later, above) = finds_beat (p.serial + 1) top ps (k - length (waiting_in p)) place rises.1 (sym (slice_get-append-after (waiting_in p) (flat_map waiting_in ps) k past) ∙ there) in
          (record { burst = later.burst; found = rw (ne_eqb p.serial place.0 (λ same. omega (arith, above, same))) later.found; waits = later.waits }, omega (arith, above, rises.0))
    ]

pub waiting_found : (memory : FreeMemory) (k : ℕ) (place : ℕ × ℕ) → IsSoundMemory memory → slice_get (waiting_beats memory) k ≡ Some place → FindsBeat memory.pending place
waiting_found memory k place sound there = (finds_beat 0 memory.sent memory.pending k place sound.rising there).0
