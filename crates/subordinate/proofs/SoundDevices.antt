-- What stays true of a device's open bursts when one is sent, performed, answered or closed.
use Rattle.std.proofs.Common.{◌≡◌, ℕ, zero, suc, ◌+◌, ◌<◌, ◌≤◌, ◌==◌, Bool, true, false, List, [], ◌∷◌, ◌++◌, length, get_or, replicate, refl, sym, ◌∙◌, ap, subst, arith}
use Rattle.std.proofs.Math.ListN.{set}
use Rattle.std.proofs.lemmas.List.{append-nil, length-append, length-set, map-append, length-replicate}
use Rattle.std.specs.List.{AllByRecursion, remove}
use Rattle.std.specs.Prelude.{Option, Some, None, IfSome, IsSome, filter, find, position, slice_get, take}
use Rattle.axi_beats.specs.Bursts.{Burst, IsLegal, ReadBurst, WriteBurst}
use Rattle.axi_beats.specs.declared.Resp.{Resp}
use Rattle.axi_checker.proofs.Few.{few-append, few-change_first, few-without_first, length-few}
use Rattle.axi_checker.specs.Monitors.{HasFewOfEach}
use Rattle.axi_checker.specs.Rules.{id_of, outstanding_beside}
use Rattle.bus_words.proofs.FirstPlaces.{IsFirst, change_first-first, find-first, position_is_first, without_first-first}
use Rattle.bus_words.proofs.PlaceChanges.{all-append, all-set, all-without_first, find-passes}
use Rattle.std.proofs.lemmas.Bool.{eqb-true}
use Rattle.std.proofs.lemmas.Option.{slice_get-get_or}
use Rattle.bus_words.specs.Places.{change_first}
use Rattle.subordinate.specs.Device.{DeviceState, after_r}
use Rattle.subordinate.specs.FreeMemory.{FreeMemory, Pending, beat_after, beat_at, gives_last, has_serial, is_read_of, is_waiting, memory_after, newly_pending, open_bursts_of, performed, transfers_in, with_beat, with_burst}
use Rattle.subordinate.specs.Effects.{HasGoodPages}
use Rattle.subordinate.specs.Inside.{HasRoom, after_closing, after_counting, after_performing, burst_in, captured_at, device_state, is_beside, memory_of, memory_over, with_answer}
use Rattle.subordinate.specs.InsidePages.{PagesState}
use Rattle.subordinate.specs.Laws.{HasAnswered, IsBeatOf, IsPerformed, IsSoundMemory, IsSoundPending, RisesWithin, queue_of, queue_of_burst}
use Rattle.subordinate.proofs.GoodPages.{good_pages-after}
use Rattle.subordinate.specs.declared.BeatState.{BeatState}
use Rattle.subordinate.specs.declared.BeatState.TheVariants.{Waiting, Written, Captured}
use Rattle.subordinate.proofs.OpenBursts.{all-placed, count_in_queue, known_beside, pending_after_r-last, pending_after_r-more, position-serial, rises-append, rises-change_first, rises-without_first, serial_at}
use Rattle.subordinate.proofs.BeatStates.{set_performed}

-- ---- lists

-- ---- one open burst

performed-more : (n : ℕ) (beats : List BeatState) (state : BeatState) → AllByRecursion IsPerformed (take n beats) → slice_get beats n ≡ Some state → is_waiting state ≡ false
    → AllByRecursion IsPerformed (take (suc n) beats) × (suc n ≤ length beats)
performed-more n [] state all there performed = absurd (cc)
performed-more zero (beat ∷ beats) state all there performed = ((grind (arith, performed), tt), omega arith)
performed-more (suc n) (beat ∷ beats) state all there performed =
    let rest = performed-more n beats state all.1 there performed in
    ((all.0, rest.0), omega (arith, rest.1))

pub sound-with_beat : (bus_bytes beat : ℕ) (state : BeatState) (p : Pending) → IsSoundPending bus_bytes p → is_waiting state ≡ false → IsBeatOf p.burst state → IsSoundPending bus_bytes (with_beat beat state p)
sound-with_beat bus_bytes beat state p sound performed of_burst =
    record {
      legal = sound.legal;
      whole = length-set p.beats beat state ∙ sound.whole;
      beats = all-set (IsBeatOf p.burst) p.beats beat state sound.beats of_burst;
      answered = set_performed p.answered p.beats beat state sound.answered performed;
      most = omega (arith, sound.most, length-set p.beats beat state);
      one_by_one = sound.one_by_one;
    }

-- a beat that captured is one of a read
captured-read : (burst : Burst) (beats : List BeatState) (n answered payload : ℕ) (resp : Resp) → AllByRecursion (IsBeatOf burst) beats → slice_get beats n ≡ Some (Captured payload resp) → HasAnswered burst answered
captured-read (ReadBurst ar) beats n answered payload resp all there = tt
captured-read (WriteBurst aw ws) [] n answered payload resp all there = absurd (cc)
captured-read (WriteBurst aw ws) (beat ∷ beats) zero answered payload resp all there = grind (arith, all.0)
captured-read (WriteBurst aw ws) (beat ∷ beats) (suc n) answered payload resp all there = captured-read (WriteBurst aw ws) beats n answered payload resp all.1 there

pub sound-with_answer : (bus_bytes payload : ℕ) (resp : Resp) (p : Pending) → IsSoundPending bus_bytes p → slice_get p.beats p.answered ≡ Some (Captured payload resp) → IsSoundPending bus_bytes (with_answer p)
sound-with_answer bus_bytes payload resp p sound there =
    let more = performed-more p.answered p.beats (Captured payload resp) sound.answered there refl in
    let next : suc p.answered ≡ p.answered + 1 = omega arith in
    record {
      legal = sound.legal;
      whole = sound.whole;
      beats = sound.beats;
      answered = subst (λ (n : ℕ). AllByRecursion IsPerformed (take n p.beats)) next more.0;
      most = omega (arith, more.1);
      one_by_one = captured-read p.burst p.beats p.answered (p.answered + 1) payload resp sound.beats there;
    }

-- a beat that waits is one of any burst
all_waiting : (burst : Burst) (n : ℕ) → AllByRecursion (IsBeatOf burst) (replicate n Waiting)
all_waiting burst zero = tt
all_waiting (WriteBurst aw ws) (suc n) = (tt, all_waiting (WriteBurst aw ws) n)
all_waiting (ReadBurst ar) (suc n) = (tt, all_waiting (ReadBurst ar) n)

sound-newly : (bus_bytes serial : ℕ) (burst : Burst) → IsLegal bus_bytes burst → IsSoundPending bus_bytes (newly_pending serial burst)
sound-newly bus_bytes serial burst legal =
    record {
      legal = legal;
      whole = length-replicate (transfers_in burst) Waiting;
      beats = all_waiting burst (transfers_in burst);
      answered = tt;
      most = omega arith;
      one_by_one = none_answered burst;
    }
  where
    none_answered : (burst : Burst) → HasAnswered burst 0
    none_answered burst = grind arith

-- ---- all of them

queue_below : (burst : Burst) → id_of burst < 16 → queue_of_burst burst < 32
queue_below burst known = grind (arith, known)

-- a burst that was sent
pub sound-append : (memory : FreeMemory) (burst : Burst) → IsSoundMemory memory → IsLegal memory.bus_bytes burst → id_of burst < 16
    → length (filter (is_beside burst) memory.pending) < 4 → IsSoundMemory (with_burst memory burst)
sound-append memory burst sound legal known fewer =
    record {
      bus = sound.bus;
      rising = rises-append 0 memory.sent memory.pending (newly_pending memory.sent burst) sound.rising refl;
      few = few-append queue_of 32 4 memory.pending (newly_pending memory.sent burst) sound.few (queue_below burst known) (omega (arith, count_in_queue burst memory.pending, fewer));
      each = all-append (IsSoundPending memory.bus_bytes) memory.pending (newly_pending memory.sent burst) sound.each (sound-newly memory.bus_bytes memory.sent burst legal);
      pages = sound.pages;
    }

-- there is room for one more
room-append : (memory : FreeMemory) (burst : Burst) → IsSoundMemory memory → IsLegal memory.bus_bytes burst → id_of burst < 16
    → length (filter (is_beside burst) memory.pending) < 4 → length memory.pending < 128
room-append memory burst sound legal known fewer =
    let more = sound-append memory burst sound legal known fewer in
    omega (arith, length-few queue_of 32 4 _ more.few, length-append memory.pending (newly_pending memory.sent burst ∷ []))

-- the burst at a place, by its serial
first-serial : (memory : FreeMemory) (k : ℕ) → IsSoundMemory memory → k < length memory.pending → IsFirst (has_serial (serial_at memory.pending k)) memory.pending k
first-serial memory k sound within = record { within = within; first = position-serial 0 memory.sent memory.pending k sound.rising within }

-- a burst that closed
pub sound-remove : (memory : FreeMemory) (k : ℕ) → IsSoundMemory memory → k < length memory.pending → IsSoundMemory (record memory { pending = remove memory.pending k })
sound-remove memory k sound within =
    let test = has_serial (serial_at memory.pending k) in
    subst (λ (left : List Pending). IsSoundMemory (record memory { pending = left })) (without_first-first test memory.pending k (first-serial memory k sound within))
    (record {
      bus = sound.bus;
      rising = rises-without_first 0 memory.sent test memory.pending sound.rising;
      few = few-without_first queue_of 32 4 test memory.pending sound.few;
      each = all-without_first (IsSoundPending memory.bus_bytes) test memory.pending sound.each;
      pages = sound.pages;
    })

-- a burst that changed, and kept its serial and its burst, over pages that are good
sound-set : (memory : FreeMemory) (pages : PagesState) (k : ℕ) (change : Pending → Pending) (d : Pending) → ((p : Pending) → (change p).serial ≡ p.serial) → ((p : Pending) → (change p).burst ≡ p.burst)
    → IsSoundMemory memory → k < length memory.pending → IsSoundPending memory.bus_bytes (change (get_or memory.pending k d)) → HasGoodPages pages.faults pages.memory
    → IsSoundMemory (memory_of memory.bus_bytes pages (set memory.pending k (change (get_or memory.pending k d))) memory.sent)
sound-set memory pages k change d same_serial same_burst sound within new good =
    let test = has_serial (serial_at memory.pending k) in
    let becomes = change_first-first test change memory.pending k d (first-serial memory k sound within) in
    record {
      bus = sound.bus;
      rising = subst (λ (ps : List Pending). RisesWithin 0 memory.sent ps) becomes (rises-change_first 0 memory.sent test change memory.pending same_serial sound.rising);
      few = subst (λ (ps : List Pending). HasFewOfEach queue_of 32 4 ps) becomes (few-change_first queue_of 32 4 test change memory.pending (λ p. ap queue_of_burst (same_burst p)) sound.few);
      each = all-set (IsSoundPending memory.bus_bytes) memory.pending k _ sound.each new;
      pages = good;
    }

-- ---- the device

-- the first open burst that passes a test closed
pub closing : (bus_bytes : ℕ) (pages : PagesState) (pending : List Pending) (sent : ℕ) (closed : List (Option Burst)) (test : Pending → Bool) (k : ℕ) (p : Pending) (held : Option Burst) → position test pending ≡ Some k
    → p ≡ get_or pending k p → held ≡ Some p.burst → device_state bus_bytes pages (remove pending k) sent (closed ++ held ∷ []) ≡ after_closing test (device_state bus_bytes pages pending sent closed)
closing bus_bytes pages pending sent closed test k p held place is box =
    let at = position_is_first test pending k place in
    let found : find test pending ≡ Some p = find-first test pending k p at ∙ ap Some (sym is) in
    rw (← without_first-first test pending k at, map-append burst_in closed (held ∷ []), box, found) refl

-- a beat of the first open burst that passes a test was performed
pub performing : (bus_bytes : ℕ) (pages changed : PagesState) (pending : List Pending) (sent : ℕ) (closed : List (Option Burst)) (test : Pending → Bool) (k beat : ℕ) (p : Pending) (state : BeatState) → position test pending ≡ Some k
    → p ≡ get_or pending k p → state ≡ beat_after (memory_over bus_bytes pages) p.burst beat → changed ≡ record pages { memory = memory_after (memory_over bus_bytes pages) p.burst beat }
    → device_state bus_bytes changed (set pending k (with_beat beat state p)) sent closed ≡ after_performing test beat (device_state bus_bytes pages pending sent closed)
performing bus_bytes pages changed pending sent closed test k beat p state place is becomes changes =
    let at = position_is_first test pending k place in
    let found : find test pending ≡ Some p = find-first test pending k p at ∙ ap Some (sym is) in
    let new : change_first test (with_beat beat state) pending ≡ set pending k (with_beat beat state p) = change_first-first test (with_beat beat state) pending k p at ∙ ap (λ q. set pending k (with_beat beat state q)) (sym is) in
    rw (← new, found, becomes, changes) refl

-- room for those that are open and closed after one closed
pub room-close : (open_bursts closed spare open_after closed_after spare_after room_of_closed room_of_spare new_closed new_spare : ℕ) → HasRoom open_bursts closed spare room_of_closed room_of_spare
    → open_after + 1 ≡ open_bursts → closed_after ≡ closed + 1 → spare_after ≡ spare + 1 → room_of_closed ≤ new_closed → room_of_spare ≤ new_spare → HasRoom open_after closed_after spare_after new_closed new_spare
room-close open_bursts closed spare open_after closed_after spare_after room_of_closed room_of_spare new_closed new_spare room one_less one_more another more_closed more_spare =
    grind (arith, room, one_less, one_more, another, more_closed, more_spare)

-- and where as many are open as before
pub room_changed : (open_bursts closed spare room_of_closed room_of_spare : ℕ) {open_after : ℕ} → open_after ≡ open_bursts → HasRoom open_bursts closed spare room_of_closed room_of_spare
    → HasRoom open_after closed spare room_of_closed room_of_spare
room_changed open_bursts closed spare room_of_closed room_of_spare same room = subst (λ (n : ℕ). HasRoom n closed spare room_of_closed room_of_spare) (sym same) room

-- a performed beat doesn't wait
pub beat_after-performed : (memory : FreeMemory) (burst : Burst) (beat : ℕ) → is_waiting (beat_after memory burst beat) ≡ false
beat_after-performed memory burst beat = grind arith

pub beat_becomes-performed : (memory : FreeMemory) (burst : Burst) (beat : ℕ) (state : BeatState) → state ≡ beat_after memory burst beat → is_waiting state ≡ false
beat_becomes-performed memory burst beat state is = grind arith

-- and is one of its burst
pub beat_after-of : (memory : FreeMemory) (burst : Burst) (beat : ℕ) → IsBeatOf burst (beat_after memory burst beat)
beat_after-of memory burst beat = grind arith

captured-is : (state : Option BeatState) → IsSome (captured_at state) → (payload : ℕ) × (resp : Resp) × (state ≡ Some (Captured payload resp))
captured-is None captured = absurd (cc)
captured-is (Some Waiting) captured = absurd (cc)
captured-is (Some Written) captured = absurd (cc)
captured-is (Some (Captured payload resp)) captured = (payload, resp, refl)

-- an R of the open read at a place
pub sound-answered : (memory : FreeMemory) (k : ℕ) (p : Pending) → IsSoundMemory memory → k < length memory.pending → p ≡ get_or memory.pending k p
    → IfSome (slice_get memory.pending k) (λ q. IsSome (captured_at (beat_at q q.answered))) → IsSoundMemory (record memory { pending = set memory.pending k (with_answer p) })
sound-answered memory k p sound within is captured =
    let here : slice_get memory.pending k ≡ Some p = slice_get-get_or memory.pending k p within ∙ ap Some (sym is) in
    let beat = captured-is (beat_at p p.answered) (subst (λ (found : Option Pending). IfSome found (λ q. IsSome (captured_at (beat_at q q.answered)))) here captured) in
    let new = sound-with_answer memory.bus_bytes beat.0 beat.1 p (all-placed (IsSoundPending memory.bus_bytes) memory.pending k p sound.each within is) beat.2 in
    let same : PagesState = record { faults = memory.faults; memory = memory.memory } in
    subst (λ (q : Pending). IsSoundMemory (record memory { pending = set memory.pending k (with_answer q) })) (sym is)
    (sound-set memory same k with_answer p (λ q. refl) (λ q. refl) sound within (subst (λ (q : Pending). IsSoundPending memory.bus_bytes (with_answer q)) is new)
    (record { exactly = sound.pages.exactly; whole = sound.pages.whole }))

-- a beat of the open burst at a place
pub sound-performed : (memory : FreeMemory) (pages : PagesState) (k beat : ℕ) (state : BeatState) (p : Pending) → IsSoundMemory memory → k < length memory.pending → p ≡ get_or memory.pending k p
    → state ≡ beat_after memory p.burst beat → pages ≡ record { faults = memory.faults; memory = memory_after memory p.burst beat }
    → IsSoundMemory (memory_of memory.bus_bytes pages (set memory.pending k (with_beat beat state p)) memory.sent)
sound-performed memory pages k beat state p sound within is became becomes =
    let performed : is_waiting state ≡ false = ap is_waiting became ∙ beat_after-performed memory p.burst beat in
    let of_burst : IsBeatOf p.burst state = subst (IsBeatOf p.burst) (sym became) (beat_after-of memory p.burst beat) in
    let new = sound-with_beat memory.bus_bytes beat state p (all-placed (IsSoundPending memory.bus_bytes) memory.pending k p sound.each within is) performed of_burst in
    let good : HasGoodPages pages.faults pages.memory = subst (λ (now : PagesState). HasGoodPages now.faults now.memory) (sym becomes) (good_pages-after memory p.burst beat sound.pages) in
    subst (λ (q : Pending). IsSoundMemory (memory_of memory.bus_bytes pages (set memory.pending k (with_beat beat state q)) memory.sent)) (sym is)
    (sound-set memory pages k (with_beat beat state) p (λ q. refl) (λ q. refl) sound within (subst (λ (q : Pending). IsSoundPending memory.bus_bytes (with_beat beat state q)) is new) good)

pub counting : (bus_bytes : ℕ) (pages : PagesState) (pending : List Pending) (sent : ℕ) (closed : List (Option Burst)) (test : Pending → Bool) (k : ℕ) (p : Pending) → position test pending ≡ Some k
    → p ≡ get_or pending k p → device_state bus_bytes pages (set pending k (with_answer p)) sent closed ≡ after_counting test (device_state bus_bytes pages pending sent closed)
counting bus_bytes pages pending sent closed test k p place is =
    grind (arith, place, is, set pending k (with_answer p), change_first-first test with_answer pending k p (position_is_first test pending k place))

-- the R of an ID is that of its oldest open read, which the last one closes
pub answering-last : (device : DeviceState) (id : ℕ) (p : Pending) → find (is_read_of id) device.memory.pending ≡ Some p → gives_last p ≡ true → after_closing (is_read_of id) device ≡ after_r device id
answering-last device id p found last = rw (pending_after_r-last id device.memory.pending p found last, found, last) refl

pub answering-more : (device : DeviceState) (id : ℕ) (p : Pending) → find (is_read_of id) device.memory.pending ≡ Some p → gives_last p ≡ false → after_counting (is_read_of id) device ≡ after_r device id
answering-more device id p found more = rw (pending_after_r-more id device.memory.pending p found more, found, more) (ap (λ (closed : List Burst). record device { memory = record device.memory { pending = change_first (is_read_of id) with_answer device.memory.pending }; closed = closed }) (sym (append-nil device.closed)))

-- a beat of the open burst with a serial
pub performing-serial : (device : DeviceState) (serial beat : ℕ) (p : Pending) → find (has_serial serial) device.memory.pending ≡ Some p → beat_at p beat ≡ Some Waiting
    → after_performing (has_serial serial) beat device ≡ record device { memory = (performed device.memory serial beat).0 }
performing-serial device serial beat p found waits =
    let same : p.serial ≡ serial = eqb-true p.serial serial (find-passes (has_serial serial) device.memory.pending p found) in
    rw (found, waits, same) refl

-- a burst that joins the others: there is room for it, among all and in its queue
pub record CanJoin (memory : FreeMemory) (burst : Burst) : Type 0 where
  pub room : length memory.pending < 128
  pub known : queue_of_burst burst < 32
  pub fewer : length (filter (λ (p : Pending). queue_of p == queue_of_burst burst) memory.pending) < 4
  pub sound : IsSoundMemory (with_burst memory burst)

-- a burst that is sent joins them
pub sending : (memory : FreeMemory) (held : Option Burst) → IsSome held → IsSoundMemory memory → IfSome held (IsLegal memory.bus_bytes)
    → IfSome held (λ burst. (id_of burst < 16) × (outstanding_beside (open_bursts_of memory) burst < 4))
    → CanJoin memory (burst_in held)
sending memory None full sound legal room = absurd (cc)
sending memory (Some burst) full sound legal room =
    let fewer : length (filter (is_beside burst) memory.pending) < 4 = omega (arith, known_beside memory burst, room.1) in
    record {
      room = room-append memory burst sound legal room.0 fewer;
      known = queue_below burst room.0;
      fewer = omega (arith, count_in_queue burst memory.pending, fewer);
      sound = sound-append memory burst sound legal room.0 fewer;
    }

-- room for those that are open and closed after one was sent
pub room-send : (open_bursts closed spare open_after spare_after room_of_closed room_of_spare new_spare : ℕ) → HasRoom open_bursts closed spare room_of_closed room_of_spare
    → open_bursts < 128 → closed ≡ 0 → open_after ≡ open_bursts + 1 → spare_after + 1 ≡ spare → room_of_spare ≤ new_spare → HasRoom open_after closed spare_after room_of_closed new_spare
room-send open_bursts closed spare open_after spare_after room_of_closed room_of_spare new_spare room fewer none one_more one_less more_spare =
    grind (arith, room, fewer, none, one_more, one_less, more_spare)
