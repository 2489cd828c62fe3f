-- What stays true of the queues of open bursts, and of the marks of those that may answer, when one is sent, changed or closed.
use Rattle.std.proofs.Common.{◌≡◌, ℕ, zero, suc, ◌+◌, ◌*◌, ◌<◌, ◌==◌, Bool, true, false, not, ◌⊎◌, inl, inr, List, [], ◌∷◌, ◌++◌, drop, length, get_or, map, replicate, refl, sym, ◌∙◌, ap, subst, arith}
use Rattle.std.proofs.Math.ListN.{set}
use Rattle.std.proofs.lemmas.Bool.{cases_eq, eq-eqb, eqb-false, eqb-true, ne_eqb}
use Rattle.std.proofs.lemmas.List.{append-nil, get_or_default, get_or-set_other, get_or-set_same, length-set, map-append}
use Rattle.std.proofs.lemmas.List.Elements.{filter-append}
use Rattle.std.proofs.lemmas.List.Recursion.{found_set_other}
use Rattle.std.proofs.lemmas.Option.{same_Some, slice_get-get_or, slice_get_within}
use Rattle.std.specs.List.{list_any, position_or_len, remove}
use Rattle.axi_beats.specs.Bursts.{Burst, ReadBurst, WriteBurst}
use Rattle.std.specs.Prelude.{◌≢◌, IfSome, Option, Some, None, filter, find, if◌then◌else◌, is_some, option_map, position, slice_get}
use Rattle.bus_words.proofs.FirstPlaces.{find-first, first-passes, position_is_first, without_first-first}
use Rattle.bus_words.specs.Places.{without_first}
use Rattle.subordinate.specs.Bursts.{AreIndexed, Rise, can_answer, decides, has_id, is_decided_by, is_first, is_found_ready, is_in, is_marked, is_queue_ready, is_ready, serials_in}
use Rattle.subordinate.specs.FreeMemory.{Pending, beat_at, has_serial, is_waiting, newly_pending, with_beat}
use Rattle.subordinate.specs.Inside.{captured_at, no_burst, with_answer}
use Rattle.subordinate.specs.Laws.{RisesWithin, queue_of}
use Rattle.subordinate.specs.declared.BeatState.{BeatState}
use Rattle.subordinate.specs.declared.BeatState.TheVariants.{Waiting}
use Rattle.subordinate.specs.declared.answers.Answers.{Answers}
use Rattle.subordinate.proofs.OpenBursts.{rises-at, rises-without_first, serial_at, rises-found}
use Rattle.std.proofs.lemmas.Bool.Decides.{nat_tests}

-- the open burst at a place
abbrev pub burst_at : List Pending → ℕ → Pending
burst_at bursts k = get_or bursts k (newly_pending 0 no_burst)

-- ---- the oldest burst of a queue

pub first-serial : (queue : ℕ) (bursts : List Pending) → slice_get (serials_in bursts queue) 0 ≡ option_map (λ (p : Pending). p.serial) (find (is_in queue) bursts)
first-serial queue [] = refl
first-serial queue (p ∷ ps) = grind (arith, first-serial queue ps)

oldest_or_len : (low top : ℕ) (test : Pending → Bool) (bursts : List Pending) (p : Pending) → RisesWithin low top bursts → find test bursts ≡ Some p
    → position_or_len (has_serial p.serial) bursts ≡ position_or_len test bursts
oldest_or_len low top test [] p rises found = refl
oldest_or_len low top test (q ∷ qs) p rises found = grind (arith, nat_tests, rises-found (q.serial + 1) top test qs p rises.1, oldest_or_len (q.serial + 1) top test qs p rises.1)

place_none : (test : Pending → Bool) (bursts : List Pending) → find test bursts ≡ None → position test bursts ≡ None
place_none test bursts none =
    let k = position_or_len test bursts in
    grind (arith, λ (place : position test bursts ≡ Some k). find-first test bursts k (newly_pending 0 no_burst) (position_is_first test bursts k place))

-- it is found by a queue's first serial
pub oldest_place : (queue : ℕ) (bursts : List Pending) (first : Option ℕ) (serial : ℕ) → Rise bursts → first ≡ slice_get (serials_in bursts queue) 0 → first ≡ Some serial
    → position (has_serial serial) bursts ≡ position (is_in queue) bursts
oldest_place queue bursts first serial rise is some =
    grind (arith, first-serial queue bursts, λ (p : Pending). oldest_or_len 0 rise.0 (is_in queue) bursts p rise.1)

pub oldest_none : (queue : ℕ) (bursts : List Pending) (first : Option ℕ) → first ≡ slice_get (serials_in bursts queue) 0 → first ≡ None
    → (position (is_in queue) bursts ≡ None) × (is_queue_ready bursts queue ≡ false)
oldest_none queue bursts first is none =
    grind (arith, first-serial queue bursts, place_none (is_in queue) bursts)

-- ---- no bursts

none_there : (n queue : ℕ) → ◌≡◌ {A = List ℕ} (get_or (replicate n []) queue []) []
none_there zero queue = refl
none_there (suc n) zero = refl
none_there (suc n) (suc queue) = none_there n queue

pub indexed_none : (bursts : List Pending) (queues : List (List ℕ)) (answers : Answers) → bursts ≡ [] → queues ≡ replicate 32 [] → ((queue : ℕ) → is_marked answers queue ≡ false) → AreIndexed bursts queues answers
indexed_none bursts queues answers none empty unmarked =
    rw (none, empty) (record {
      many = refl;
      row = none_there 32;
      marks = λ queue small. unmarked queue;
    })

-- ---- one more burst

serials_append : (queue : ℕ) (bursts : List Pending) (burst : Pending) → serials_in (bursts ++ burst ∷ []) queue ≡ serials_in bursts queue ++ serials_in (burst ∷ []) queue
serials_append queue bursts burst =
    ap (map (λ (p : Pending). p.serial)) (filter-append (is_in queue) bursts (burst ∷ [])) ∙ map-append (λ (p : Pending). p.serial) (filter (is_in queue) bursts) (filter (is_in queue) (burst ∷ []))

ready_append : (queue : ℕ) (bursts : List Pending) (burst : Pending) → is_ready burst ≡ false → is_queue_ready (bursts ++ burst ∷ []) queue ≡ is_queue_ready bursts queue
ready_append queue [] burst waits = grind arith
ready_append queue (p ∷ ps) burst waits = grind (arith, ready_append queue ps burst waits)

pub pushed : (bursts : List Pending) (burst : Pending) (queues : List (List ℕ)) (answers : Answers) → AreIndexed bursts queues answers → queue_of burst < 32 → is_ready burst ≡ false
    → AreIndexed (bursts ++ burst ∷ []) (set queues (queue_of burst) (get_or queues (queue_of burst) [] ++ burst.serial ∷ [])) answers
pushed bursts burst queues answers indexed known waits =
    record {
      many = length-set queues (queue_of burst) _ ∙ indexed.many;
      row = λ queue.
          grind (
            arith,
            nat_tests,
            indexed.row queue,
            indexed.many,
            serials_append queue bursts burst,
            append-nil (serials_in bursts queue),
            get_or-set_same queues (queue_of burst) (get_or queues (queue_of burst) [] ++ burst.serial ∷ []) [],
            get_or-set_other queues (queue_of burst) queue (get_or queues (queue_of burst) [] ++ burst.serial ∷ []) [],
          );
      marks = λ queue small. indexed.marks queue small ∙ sym (ready_append queue bursts burst waits);
    }

-- ---- a burst that changed, and kept its serial and its queue

serials_set : (queue : ℕ) (bursts : List Pending) (k : ℕ) (new : Pending) → k < length bursts → new.serial ≡ serial_at bursts k → queue_of new ≡ queue_of (burst_at bursts k)
    → serials_in (set bursts k new) queue ≡ serials_in bursts queue
serials_set queue [] k new within same alike = absurd (omega (arith, within))
serials_set queue (p ∷ ps) zero new within same alike = grind arith
serials_set queue (p ∷ ps) (suc k) new within same alike = grind (arith, serials_set queue ps k new (omega (arith, within)) same alike)

-- what is found after it, by what was found before
abbrev set_found : Pending → Option Pending → Option Pending
set_found new None = None
set_found new (Some p) = if p.serial == new.serial then Some new else Some p

set_found_ready : (new : Pending) (found : Option Pending) → (if is_first (option_map (λ (p : Pending). p.serial) found) new.serial then is_ready new else is_found_ready found) ≡ is_found_ready (set_found new found)
set_found_ready new found = grind arith

find_set : (low top : ℕ) (test : Pending → Bool) (bursts : List Pending) (k : ℕ) (new : Pending) → RisesWithin low top bursts → k < length bursts → new.serial ≡ serial_at bursts k → test new ≡ test (burst_at bursts k)
    → find test (set bursts k new) ≡ set_found new (find test bursts)
find_set low top test [] k new rises within same alike = absurd (omega (arith, within))
find_set low top test (p ∷ ps) zero new rises within same alike = grind (arith, nat_tests, λ (q : Pending). rises-found (p.serial + 1) top test ps q rises.1)
find_set low top test (p ∷ ps) (suc k) new rises within same alike =
    grind (arith, nat_tests, rises-at (p.serial + 1) top ps k rises.1 (omega (arith, within)), find_set (p.serial + 1) top test ps k new rises.1 (omega (arith, within)) same alike)

pub changed : (bursts : List Pending) (k : ℕ) (new : Pending) (queues : List (List ℕ)) (old now : Answers) → Rise bursts → AreIndexed bursts queues old → k < length bursts → new.serial ≡ serial_at bursts k
    → queue_of new ≡ queue_of (burst_at bursts k) → queue_of new < 32
    → is_marked now (queue_of new) ≡ (if is_first (slice_get (get_or queues (queue_of new) []) 0) new.serial then is_ready new else is_marked old (queue_of new))
    → ((queue : ℕ) → queue < 32 → queue ≢ queue_of new → is_marked now queue ≡ is_marked old queue) → AreIndexed (set bursts k new) queues now
changed bursts k new queues old now rise indexed within same alike known here others =
    record {
      many = indexed.many;
      row = λ queue. indexed.row queue ∙ sym (serials_set queue bursts k new within same alike);
      marks = λ queue small. by_queue queue small (cases_eq queue (queue_of new));
    }
  where
    by_queue : (queue : ℕ) → queue < 32 → (queue ≡ (queue_of new)) ⊎ (queue ≡ (queue_of new) → ⊥) → is_marked now queue ≡ is_queue_ready (set bursts k new) queue
    by_queue queue small (inl it_is) =
        rw (it_is, find_set 0 rise.0 (is_in (queue_of new)) bursts k new rise.1 within same (ap (λ n. n == (queue_of new)) alike))
        (here ∙ rw (indexed.row (queue_of new), first-serial (queue_of new) bursts, indexed.marks (queue_of new) known) (set_found_ready new (find (is_in (queue_of new)) bursts)))
    by_queue queue small (inr other) =
        let fails : is_in queue new ≡ false = ne_eqb (queue_of new) queue (λ equal. other (sym equal)) in
        let failed : is_in queue (burst_at bursts k) ≡ false = ap (λ n. n == queue) (sym alike) ∙ fails in
        others queue small other ∙ indexed.marks queue small
        ∙ ap is_found_ready (sym (found_set_other (find (is_in queue)) (is_in queue) Some None refl (λ p ps. refl) bursts k new (newly_pending 0 no_burst) failed fails))

pub here_now : (bursts current : List Pending) (k : ℕ) (was : Pending) → bursts ≡ current → k < length current → was ≡ get_or bursts k was → slice_get current k ≡ Some was
here_now bursts current k was view inside is = rw (← view) (slice_get-get_or bursts k was (rw (← view) at inside) ∙ ap Some (sym is))

-- ---- a beat that was performed

-- a burst of which a beat waits is no write that is ready
waits_some : (beats : List BeatState) (k : ℕ) → slice_get beats k ≡ Some Waiting → list_any is_waiting beats ≡ true
waits_some [] k waits = absurd (cc)
waits_some (beat ∷ beats) zero waits = grind arith
waits_some (beat ∷ beats) (suc k) waits = grind (arith, waits_some beats k waits)

other_beat : (beats : List BeatState) (k j : ℕ) (state : BeatState) → j ≢ k → slice_get (set beats k state) j ≡ slice_get beats j
other_beat [] k j state differs = refl
other_beat (beat ∷ beats) zero zero state differs = absurd (differs refl)
other_beat (beat ∷ beats) zero (suc j) state differs = refl
other_beat (beat ∷ beats) (suc k) zero state differs = refl
other_beat (beat ∷ beats) (suc k) (suc j) state differs = other_beat beats k j state (λ same. differs (ap suc same))

-- a beat that doesn't decide leaves a burst as ready as it was
as_ready : (beat : ℕ) (state : BeatState) (p : Pending) → beat_at p beat ≡ Some Waiting → is_decided_by beat (with_beat beat state p) ≡ false → is_ready (with_beat beat state p) ≡ is_ready p
as_ready beat state p waits undecided = by_burst p.burst undecided
  where
    by_burst : (burst : Burst) → decides beat burst (with_beat beat state p) ≡ false → can_answer burst (with_beat beat state p) ≡ can_answer burst p
    by_burst (WriteBurst aw ws) none = none ∙ sym (ap not (waits_some p.beats beat waits))
    by_burst (ReadBurst ar) other = ap (λ (found : Option BeatState). is_some (captured_at found)) (other_beat p.beats beat p.answered state (eqb-false p.answered beat other))

ready_set : (queue : ℕ) (bursts : List Pending) (k : ℕ) (new : Pending) → k < length bursts → queue_of new ≡ queue_of (burst_at bursts k) → is_ready new ≡ is_ready (burst_at bursts k)
    → is_queue_ready (set bursts k new) queue ≡ is_queue_ready bursts queue
ready_set queue [] k new within alike same = refl
ready_set queue (p ∷ ps) zero new within alike same = grind arith
ready_set queue (p ∷ ps) (suc k) new within alike same = grind (arith, ready_set queue ps k new (omega (arith, within)) alike same)

pub performed : (bursts current : List Pending) (k beat : ℕ) (state : BeatState) (was new seen : Pending) (queues : List (List ℕ)) (old now : Answers) → bursts ≡ current → Rise current → AreIndexed bursts queues old → k < length current
    → IfSome (slice_get current k) (λ p. queue_of p < 32) → IfSome (slice_get current k) (λ p. beat_at p beat ≡ Some Waiting) → was ≡ get_or bursts k was → new ≡ with_beat beat state was → seen ≡ get_or (set bursts k new) k seen
    → (is_decided_by beat seen ≡ false → now ≡ old)
    → (is_decided_by beat seen ≡ true → is_marked now (queue_of seen) ≡ (if is_first (slice_get (get_or queues (queue_of seen) []) 0) seen.serial then is_ready seen else is_marked old (queue_of seen)))
    → ((queue : ℕ) → queue < 32 → queue ≢ queue_of seen → is_marked now queue ≡ is_marked old queue) → AreIndexed (set bursts k new) queues now
performed bursts current k beat state was new seen queues old now view rise indexed inside known waits is becomes sees kept here others = by_decided (is_decided_by beat seen) refl
  where
    within : k < length bursts
    within = subst (λ (ps : List Pending). k < length ps) (sym view) inside

    at : was ≡ burst_at bursts k
    at = is ∙ get_or_default bursts k was (newly_pending 0 no_burst) within

    waited : beat_at was beat ≡ Some Waiting
    waited = subst (λ (found : Option Pending). IfSome found (λ p. beat_at p beat ≡ Some Waiting)) (here_now bursts current k was view inside is) waits

    it_is : seen ≡ new
    it_is = sees ∙ get_or-set_same bursts k new seen within

    serial : new.serial ≡ serial_at bursts k
    serial = ap (λ (p : Pending). p.serial) becomes ∙ ap (λ (p : Pending). p.serial) at

    alike : queue_of new ≡ queue_of (burst_at bursts k)
    alike = ap queue_of becomes ∙ ap queue_of at

    small : queue_of new < 32
    small = subst (λ n. n < 32) (sym (ap queue_of becomes)) (subst (λ (found : Option Pending). IfSome found (λ p. queue_of p < 32)) (here_now bursts current k was view inside is) known)

    by_decided : (decided : Bool) → is_decided_by beat seen ≡ decided → AreIndexed (set bursts k new) queues now
    by_decided true decided =
        changed bursts k new queues old now (subst Rise (sym view) rise) indexed within serial alike small
        (subst (λ (p : Pending). is_marked now (queue_of p) ≡ (if is_first (slice_get (get_or queues (queue_of p) []) 0) p.serial then is_ready p else is_marked old (queue_of p))) it_is (here decided))
        (subst (λ (p : Pending). (queue : ℕ) → queue < 32 → queue ≢ queue_of p → is_marked now queue ≡ is_marked old queue) it_is others)
    by_decided false undecided =
        let same : is_ready new ≡ is_ready (burst_at bursts k) = ap is_ready becomes ∙ as_ready beat state was waited (ap (is_decided_by beat) (sym (it_is ∙ becomes)) ∙ undecided) ∙ ap is_ready at in
        rw (kept undecided)
        (record {
          many = indexed.many;
          row = λ queue. indexed.row queue ∙ sym (serials_set queue bursts k new within serial alike);
          marks = λ queue small. indexed.marks queue small ∙ sym (ready_set queue bursts k new within alike same);
        })

pub read_at : (bursts current : List Pending) (k : ℕ) (was p : Pending) → bursts ≡ current → k < length current → was ≡ get_or bursts k was → slice_get current k ≡ Some p → was ≡ p
read_at bursts current k was p view inside is some = grind (arith, view, inside, is, some, same_Some was p, slice_get-get_or bursts k was)

-- ---- an R of the oldest read of an ID

-- the burst at the place of a queue's oldest, and its serial
pub record IsOldest (bursts : List Pending) (queues : List (List ℕ)) (queue k : ℕ) : Type 0 where
  pub within : k < length bursts
  pub in_queue : queue_of (burst_at bursts k) ≡ queue
  pub serial : slice_get (get_or queues queue []) 0 ≡ Some (burst_at bursts k).serial

pub oldest : (bursts : List Pending) (queues : List (List ℕ)) (answers : Answers) (queue k : ℕ) → AreIndexed bursts queues answers → position (is_in queue) bursts ≡ Some k → IsOldest bursts queues queue k
oldest bursts queues answers queue k indexed place =
    let at = position_is_first (is_in queue) bursts k place in
    record {
      within = at.within;
      in_queue = eqb-true _ queue (first-passes (is_in queue) bursts k _ at);
      serial =
          ap (λ (row : List ℕ). slice_get row 0) (indexed.row queue) ∙ first-serial queue bursts
          ∙ ap (option_map (λ (p : Pending). p.serial)) (find-first (is_in queue) bursts k (newly_pending 0 no_burst) at);
    }

-- a read may be answered where its next beat captured
ready_read : (id : ℕ) (p : Pending) → queue_of p ≡ 2 * id + 1 → is_ready p ≡ is_some (captured_at (beat_at p p.answered))
ready_read id p same = grind arith

pub answered : (bursts current : List Pending) (k id : ℕ) (was new : Pending) (queues : List (List ℕ)) (old now : Answers) → bursts ≡ current → Rise current → AreIndexed bursts queues old → id < 16
    → IsOldest bursts queues (2 * id + 1) k → was ≡ get_or bursts k was → new ≡ with_answer was → is_marked now (2 * id + 1) ≡ is_some (captured_at (beat_at new new.answered))
    → ((queue : ℕ) → queue < 32 → queue ≢ 2 * id + 1 → is_marked now queue ≡ is_marked old queue) → AreIndexed (set bursts k new) queues now
answered bursts current k id was new queues old now view rise indexed small found is answers marked others =
    changed bursts k new queues old now (subst Rise (sym view) rise) indexed found.within (ap (λ (p : Pending). p.serial) becomes) (ap queue_of becomes) (rw mine (omega (arith, small)))
    (rw first (ap (is_marked now) mine ∙ marked ∙ sym (ready_read id new mine))) (rw mine others)
  where
    becomes : new ≡ with_answer (burst_at bursts k)
    becomes = answers ∙ ap with_answer (is ∙ get_or_default bursts k was (newly_pending 0 no_burst) found.within)

    mine : queue_of new ≡ 2 * id + 1
    mine = ap queue_of becomes ∙ found.in_queue

    first : is_first (slice_get (get_or queues (queue_of new) []) 0) new.serial ≡ true
    first = rw (mine, found.serial) (eq-eqb _ _ (sym (ap (λ (p : Pending). p.serial) becomes)))

-- ---- the oldest burst of a queue closed

serials_without : (queue : ℕ) (bursts : List Pending) → serials_in (without_first (is_in queue) bursts) queue ≡ drop 1 (serials_in bursts queue)
serials_without queue [] = refl
serials_without queue (p ∷ ps) = grind (arith, serials_without queue ps)

without_other : (queue other : ℕ) (bursts : List Pending) → other ≢ queue
    → (serials_in (without_first (is_in queue) bursts) other ≡ serials_in bursts other) × (find (is_in other) (without_first (is_in queue) bursts) ≡ find (is_in other) bursts)
without_other queue other [] differs = (refl, refl)
without_other queue other (p ∷ ps) differs =
    let rest = without_other queue other ps differs in
    (grind (arith, nat_tests, rest.0), grind (arith, nat_tests, rest.1))

-- what is known when the oldest burst of a queue, at this place, is taken out
pub record IsTaken (bursts : List Pending) (queues : List (List ℕ)) (queue k : ℕ) : Type 0 where
  pub rise : Rise (remove bursts k)
  pub some : 0 < length (get_or queues queue [])
  pub first : get_or (set queues queue (drop 1 (get_or queues queue []))) queue [] ≡ serials_in (remove bursts k) queue

pub taken : (bursts : List Pending) (queues : List (List ℕ)) (answers : Answers) (queue k : ℕ) → Rise bursts → AreIndexed bursts queues answers → queue < 32 → position (is_in queue) bursts ≡ Some k → IsTaken bursts queues queue k
taken bursts queues answers queue k rise indexed known place =
    record {
      rise = (rise.0, rw (← cut) (rises-without_first 0 rise.0 (is_in queue) bursts rise.1));
      some = slice_get_within (get_or queues queue []) 0 _ (oldest bursts queues answers queue k indexed place).serial;
      first = get_or-set_same queues queue (drop 1 (get_or queues queue [])) [] (omega (arith, indexed.many, known)) ∙ ap (drop 1) (indexed.row queue) ∙ sym (serials_without queue bursts) ∙ ap (λ (ps : List Pending). serials_in ps queue) cut;
    }
  where
    cut : without_first (is_in queue) bursts ≡ remove bursts k
    cut = without_first-first (is_in queue) bursts k (position_is_first (is_in queue) bursts k place)

pub closed : (bursts : List Pending) (queues : List (List ℕ)) (old now : Answers) (queue k : ℕ) → Rise bursts → AreIndexed bursts queues old → queue < 32 → position (is_in queue) bursts ≡ Some k
    → is_marked now queue ≡ is_queue_ready (remove bursts k) queue → ((other : ℕ) → other < 32 → other ≢ queue → is_marked now other ≡ is_marked old other)
    → AreIndexed (remove bursts k) (set queues queue (drop 1 (get_or queues queue []))) now
closed bursts queues old now queue k rise indexed known place here others =
    record {
      many = length-set queues queue _ ∙ indexed.many;
      row = λ other.
          elim (cases_eq other queue) [
            | inl same ↦ rw same (taken bursts queues old queue k rise indexed known place).first
            | inr differs ↦ get_or-set_other queues queue other _ [] differs ∙ indexed.row other ∙ sym (without_other queue other bursts differs).0 ∙ ap (λ (ps : List Pending). serials_in ps other) cut
          ];
      marks = λ other small.
          elim (cases_eq other queue) [
            | inl same ↦ rw same here
            | inr differs ↦
                others other small differs ∙ indexed.marks other small ∙ ap is_found_ready (sym (without_other queue other bursts differs).1) ∙ ap (λ (ps : List Pending). is_queue_ready ps other) cut
          ];
    }
  where
    cut : without_first (is_in queue) bursts ≡ remove bursts k
    cut = without_first-first (is_in queue) bursts k (position_is_first (is_in queue) bursts k place)

-- ---- a queue's mark by its ID

pub marked_b : (answers : Answers) (id : ℕ) → is_marked answers (2 * id) ≡ has_id answers.b id
marked_b answers id = grind arith

pub marked_r : (answers : Answers) (id : ℕ) → is_marked answers (2 * id + 1) ≡ has_id answers.r id
marked_r answers id = grind arith
