-- The beats of an open burst, counted by whether they are performed.
use Rattle.std.proofs.Common.{◌≡◌, ℕ, zero, suc, ◌+◌, ◌-◌, ◌<◌, ◌≤◌, ◌==◌, false, not, List, [], ◌∷◌, ◌++◌, length, get_or, map, replicate, drop, refl, sym, ◌∙◌, ap, arith}
use Rattle.std.proofs.Math.ListN.{drop_of_length-le}
use Rattle.std.proofs.Math.Seq.{drop-cons}
use Rattle.std.proofs.lemmas.Bool.Decides.{nat_tests}
use Rattle.std.proofs.lemmas.List.{length-append, length-map, length-set}
use Rattle.std.proofs.lemmas.List.Sums.{sum_by-drop_more}
use Rattle.std.proofs.lemmas.Option.{same_Some, slice_get-get_or, slice_get-map}
use Rattle.std.specs.List.{AllByRecursion, list_any, enumerate_from}
use Rattle.std.specs.Prelude.{Some, None, filter, filter_map, flat_map, option_map, sum_by, if◌then◌else◌, slice_get, slice_set, take}
use Rattle.bus_words.proofs.StoredPlaces.{slice_get-append-after, slice_get-append-before}
use Rattle.subordinate.specs.FreeMemory.{Pending, is_waiting, performed_waiting_in, waiting_in}
use Rattle.subordinate.specs.Inside.{count_waiting, waiting_places}
use Rattle.subordinate.specs.Laws.{IsPerformed}
use Rattle.subordinate.specs.declared.BeatState.{BeatState}
use Rattle.subordinate.specs.declared.BeatState.TheVariants.{Captured, Waiting, Written}

pub count_waiting-replicate : (n : ℕ) → count_waiting (replicate n Waiting) ≡ n
count_waiting-replicate zero = refl
count_waiting-replicate (suc n) = ap suc (count_waiting-replicate n)

pub count_waiting-le : (beats : List BeatState) → count_waiting beats ≤ length beats
count_waiting-le [] = omega arith
count_waiting-le (beat ∷ beats) = grind (arith, count_waiting-le beats)

-- no beat waits exactly where none is counted
pub none_waiting : (beats : List BeatState) → (count_waiting beats == 0) ≡ not (list_any is_waiting beats)
none_waiting [] = refl
none_waiting (beat ∷ beats) = grind (arith, nat_tests, none_waiting beats)

-- a beat that waited and is performed now
pub count_waiting-put : (beats : List BeatState) (k : ℕ) (state : BeatState) → slice_get beats k ≡ Some Waiting → is_waiting state ≡ false → count_waiting (slice_set beats k state) + 1 ≡ count_waiting beats
count_waiting-put [] k state waits performed = absurd (cc)
count_waiting-put (beat ∷ beats) zero state waits performed = grind arith
count_waiting-put (beat ∷ beats) (suc k) state waits performed = grind (arith, count_waiting-put beats k state waits performed)

-- ---- the places of beats that wait

pub length-waiting_places : (from : ℕ) (beats : List BeatState) → length (waiting_places from beats) ≡ count_waiting beats
length-waiting_places from [] = refl
length-waiting_places from (beat ∷ beats) = grind (arith, length-waiting_places (from + 1) beats)

-- the first of them is one of a beat that waits
first_waits : (from : ℕ) (beats : List BeatState) (place : ℕ) → slice_get (waiting_places from beats) 0 ≡ Some place → (n : ℕ) × (place ≡ from + n) × (slice_get beats n ≡ Some Waiting)
first_waits from [] place is = absurd (cc)
first_waits from (Waiting ∷ beats) place is = (0, sym (same_Some from place is) ∙ omega arith, refl)
first_waits from (Written ∷ beats) place is = let rest = first_waits (from + 1) beats place is in (suc rest.0, omega (arith, rest.1), rest.2)
first_waits from (Captured payload resp ∷ beats) place is = let rest = first_waits (from + 1) beats place is in (suc rest.0, omega (arith, rest.1), rest.2)

pub first_place_waits : (beats : List BeatState) (place : ℕ) → slice_get (waiting_places 0 beats) 0 ≡ Some place → slice_get beats place ≡ Some Waiting
first_place_waits beats place is =
    let found = first_waits 0 beats place is in
    let same : place ≡ found.0 = omega (arith, found.1) in
    rw same found.2

-- the serial and place of each, as the memory lists them
pub waiting_in-places : (serial from : ℕ) (beats : List BeatState)
    → filter_map {Y = ℕ × ℕ} (λ (place : ℕ × BeatState). if is_waiting place.1 then Some (serial, place.0) else None) (enumerate_from from beats) ≡ map (λ place. (serial, place)) (waiting_places from beats)
waiting_in-places serial from [] = refl
waiting_in-places serial from (beat ∷ beats) = grind (arith, waiting_in-places serial (from + 1) beats)

-- ---- performed beats that wait for their answer

pub count_performed : (beats : List BeatState) → length (filter (λ beat. not (is_waiting beat)) beats) + count_waiting beats ≡ length beats
count_performed [] = refl
count_performed (beat ∷ beats) = grind (arith, count_performed beats)

pub count_waiting-drop : (n : ℕ) (beats : List BeatState) → AllByRecursion IsPerformed (take n beats) → n ≤ length beats → (count_waiting (drop n beats) ≡ count_waiting beats) × (length (drop n beats) + n ≡ length beats)
count_waiting-drop zero beats performed within = (refl, omega arith)
count_waiting-drop (suc n) [] performed within = absurd (omega (arith, within))
count_waiting-drop (suc n) (beat ∷ beats) performed within =
    let rest = count_waiting-drop n beats performed.1 (omega (arith, within)) in
    (grind (arith, rest.0, performed.0), omega (arith, rest.1))

-- ---- the beats before a place are performed

pub set_performed : (n : ℕ) (beats : List BeatState) (k : ℕ) (state : BeatState) → AllByRecursion IsPerformed (take n beats) → IsPerformed state → AllByRecursion IsPerformed (take n (slice_set beats k state))
set_performed zero beats k state performed is = tt
set_performed (suc n) [] k state performed is = tt
set_performed (suc n) (beat ∷ beats) zero state performed is = (is, performed.1)
set_performed (suc n) (beat ∷ beats) (suc k) state performed is = (performed.0, set_performed n beats k state performed.1 is)

one_more_performed : (n : ℕ) (beats : List BeatState) (state : BeatState) → n < length beats → AllByRecursion IsPerformed (take n beats) → IsPerformed state
    → AllByRecursion IsPerformed (take (suc n) (slice_set beats n state))
one_more_performed n [] state within performed is = tt
one_more_performed zero (beat ∷ beats) state within performed is = (is, tt)
one_more_performed (suc n) (beat ∷ beats) state within performed is = (performed.0, one_more_performed n beats state (omega (arith, within)) performed.1 is)

pub put_performed : (first : ℕ) (beats : List BeatState) (k : ℕ) (state : BeatState) → k < length beats → AllByRecursion IsPerformed (take first beats) → IsPerformed state
    → AllByRecursion IsPerformed (take (if k == first then first + 1 else first) (slice_set beats k state))
put_performed first beats k state within performed is =
    let next : first + 1 ≡ suc first = omega arith in
    grind (
      arith,
      nat_tests,
      next,
      λ (inside : first < length beats). one_more_performed first beats state inside performed is,
      set_performed first beats k state performed is,
    )

pub past-within : (first : ℕ) (beats : List BeatState) (k : ℕ) (state : BeatState) → k < length beats → first ≤ length beats → (if k == first then first + 1 else first) ≤ length (slice_set beats k state)
past-within first beats k state within most = grind (arith, nat_tests, length-set beats k state)

-- no place of a beat that waits is before it
pub places-after : (first from : ℕ) (beats : List BeatState) → AllByRecursion IsPerformed (take first beats) → first ≤ length beats → waiting_places from beats ≡ waiting_places (from + first) (drop first beats)
places-after zero from beats performed within = let same : from ≡ from + 0 = omega arith in ap (λ (n : ℕ). waiting_places n beats) same
places-after (suc first) from [] performed within = absurd (omega (arith, within))
places-after (suc first) from (beat ∷ beats) performed within = grind (arith, performed, within, places-after first (from + 1) beats performed.1 (omega (arith, within)))

-- the performed beats that aren't answered, counted by those that wait
pub performed_waiting-count : (pending : Pending) → AllByRecursion IsPerformed (take pending.answered pending.beats) → pending.answered ≤ length pending.beats
    → performed_waiting_in pending + count_waiting pending.beats + pending.answered ≡ length pending.beats
performed_waiting-count pending performed within =
    let dropped = count_waiting-drop pending.answered pending.beats performed within in
    omega (arith, count_performed (drop pending.answered pending.beats), dropped.0, dropped.1)

-- the beats of an open burst that wait, as the memory lists them
pub waiting_in-is : (pending : Pending) → waiting_in pending ≡ map (λ place. (pending.serial, place)) (waiting_places 0 pending.beats)
waiting_in-is pending = waiting_in-places pending.serial 0 pending.beats

pub length-waiting_in : (pending : Pending) → length (waiting_in pending) ≡ count_waiting pending.beats
length-waiting_in pending = ap (λ (beats : List (ℕ × ℕ)). length beats) (waiting_in-is pending) ∙ length-map (waiting_places 0 pending.beats) (λ place. (pending.serial, place)) ∙ length-waiting_places 0 pending.beats

-- the open bursts from a place on: that one, and those after it
from_place : (pending : List Pending) (i : ℕ) (p : Pending) → i < length pending → p ≡ get_or pending i p → flat_map waiting_in (drop i pending) ≡ waiting_in p ++ flat_map waiting_in (drop (i + 1) pending)
from_place pending i p within is =
    let next : suc i ≡ i + 1 = omega arith in
    ap (λ (ps : List Pending). flat_map waiting_in ps) (drop-cons pending i p within)
    ∙ ap (λ (q : Pending). waiting_in q ++ flat_map waiting_in (drop (suc i) pending)) (sym is)
    ∙ ap (λ (n : ℕ). waiting_in p ++ flat_map waiting_in (drop n pending)) next

-- a waiting beat counted from an open burst on is in that one, or after it
pub waiting-here : (pending : List Pending) (i left : ℕ) (p : Pending) (beat : ℕ) → i < length pending → p ≡ get_or pending i p → left < count_waiting p.beats → slice_get (waiting_places 0 p.beats) left ≡ Some beat
    → slice_get (flat_map waiting_in (drop i pending)) left ≡ Some (p.serial, beat)
waiting-here pending i left p beat within is inside found =
    ap (λ (beats : List (ℕ × ℕ)). slice_get beats left) (from_place pending i p within is)
    ∙ slice_get-append-before (waiting_in p) (flat_map waiting_in (drop (i + 1) pending)) left (omega (arith, inside, length-waiting_in p))
    ∙ ap (λ (beats : List (ℕ × ℕ)). slice_get beats left) (waiting_in-is p)
    ∙ slice_get-map (λ place. (p.serial, place)) (waiting_places 0 p.beats) left
    ∙ ap (option_map (λ place. (p.serial, place))) found

pub waiting-after : (pending : List Pending) (i left : ℕ) (p : Pending) → i < length pending → p ≡ get_or pending i p → count_waiting p.beats ≤ left
    → slice_get (flat_map waiting_in (drop i pending)) left ≡ slice_get (flat_map waiting_in (drop (i + 1) pending)) (left - count_waiting p.beats)
waiting-after pending i left p within is past =
    grind (arith, within, is, past, from_place pending i p within is, slice_get-append-after (waiting_in p), length-waiting_in p)

-- past all open bursts there is none
pub waiting-none : (pending : List Pending) (i left k : ℕ) → length pending ≤ i → slice_get (flat_map waiting_in (drop i pending)) left ≡ slice_get (flat_map waiting_in pending) k
    → k < length (flat_map waiting_in pending) → ⊥
waiting-none pending i left k past same within =
    let none : slice_get (flat_map waiting_in pending) k ≡ None = sym same ∙ ap (λ (ps : List Pending). slice_get (flat_map waiting_in ps) left) (drop_of_length-le pending past) in
    let some : slice_get (flat_map waiting_in pending) k ≡ Some (get_or (flat_map waiting_in pending) k (0, 0)) = slice_get-get_or (flat_map waiting_in pending) k (0, 0) within in
    absurd (cc (none, some))

-- a sum over the open bursts so far, one further
pub sum_step : (f : Pending → ℕ) (pending : List Pending) (i count n total : ℕ) (p : Pending) → i < length pending → p ≡ get_or pending i p → n ≡ f p → count + sum_by f (drop i pending) ≡ total
    → count + n + sum_by f (drop (i + 1) pending) ≡ total
sum_step f pending i count n total p within is counts so_far = omega (arith, sum_by-drop_more f pending i p within, ap f is, counts, so_far)

pub sum_end : (f : Pending → ℕ) (pending : List Pending) (i count total : ℕ) → length pending ≤ i → count + sum_by f (drop i pending) ≡ total → count ≡ total
sum_end f pending i count total past so_far = omega (arith, so_far, ap (λ (ps : List Pending). sum_by f ps) (drop_of_length-le pending past))

pub length-waiting_beats : (pending : List Pending) → length (flat_map waiting_in pending) ≡ sum_by (λ p. count_waiting p.beats) pending
length-waiting_beats [] = refl
length-waiting_beats (p ∷ ps) = length-append (waiting_in p) (flat_map waiting_in ps) ∙ ap (λ (n : ℕ). n + length (flat_map waiting_in ps)) (length-waiting_in p) ∙ ap (λ (n : ℕ). count_waiting p.beats + n) (length-waiting_beats ps) ∙ sym (sum_by-drop_more (λ q. count_waiting q.beats) (p ∷ ps) 0 p (omega arith))

fewer_from : (pending : List Pending) (i : ℕ) → length (flat_map waiting_in (drop i pending)) ≤ length (flat_map waiting_in pending)
fewer_from pending zero = omega arith
fewer_from [] (suc i) = omega arith
fewer_from (p ∷ ps) (suc i) = omega (arith, fewer_from ps i, length-append (waiting_in p) (flat_map waiting_in ps))

-- a waiting beat counted from the last back is one of those from a place on, counted so
pub waiting-back : (pending : List Pending) (i left : ℕ) → left ≤ length (flat_map waiting_in (drop i pending))
    → slice_get (flat_map waiting_in pending) (length (flat_map waiting_in pending) - left)
    ≡ slice_get (flat_map waiting_in (drop i pending)) (length (flat_map waiting_in (drop i pending)) - left)
waiting-back pending zero left within = refl
waiting-back [] (suc i) left within = refl
waiting-back (p ∷ ps) (suc i) left within =
    let count = length-append (waiting_in p) (flat_map waiting_in ps) in
    let most = fewer_from ps i in
    let past : length (waiting_in p) ≤ length (flat_map waiting_in (p ∷ ps)) - left = omega (arith, count, most, within) in
    let rest : length (flat_map waiting_in (p ∷ ps)) - left - length (waiting_in p) ≡ length (flat_map waiting_in ps) - left = omega (arith, count, most, within) in
    slice_get-append-after (waiting_in p) (flat_map waiting_in ps) (length (flat_map waiting_in (p ∷ ps)) - left) past
    ∙ ap (slice_get (flat_map waiting_in ps)) rest
    ∙ waiting-back ps i left within

-- and so many are from a place on
pub length-from_place : (pending : List Pending) (i : ℕ) (p : Pending) → i < length pending → p ≡ get_or pending i p
    → length (flat_map waiting_in (drop i pending)) ≡ count_waiting p.beats + length (flat_map waiting_in (drop (i + 1) pending))
length-from_place pending i p within is = grind (arith, within, is, from_place pending i p within is, length-append (waiting_in p), length-waiting_in p)
