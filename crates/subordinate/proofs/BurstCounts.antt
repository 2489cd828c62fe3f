-- How many beats of the open bursts wait, where the first that does may be, and how many answers are to come, after a burst is sent, changed
-- or closed.
use Rattle.std.proofs.Common.{◌≡◌, ℕ, zero, suc, ◌+◌, ◌-◌, ◌*◌, ◌<◌, ◌≤◌, ◌==◌, nat_lt, false, ◌&&◌, inl, inr, List, [], ◌∷◌, ◌++◌, drop, length, get_or, refl, sym, ◌∙◌, ap, subst, arith}
use Rattle.std.proofs.Math.ListN.{set}
use Rattle.std.proofs.lemmas.Bool.{le-ltb, lt-ltb, cases_lt}
use Rattle.std.proofs.lemmas.List.{get_or_default, length-append, length-set, nil_from_length}
use Rattle.std.proofs.lemmas.List.Edits.{length-remove}
use Rattle.std.proofs.lemmas.List.Sums.{sum_by-cons, sum_by-remove, sum_by-set, sum_by_push}
use Rattle.std.specs.List.{AllByRecursion, remove}
use Rattle.std.specs.Prelude.{IfSome, Option, Some, flat_map, if◌then◌else◌, slice_get, sum_by, take}
use Rattle.bus_words.proofs.PlaceChanges.{all-append}
use Rattle.subordinate.specs.Bursts.{AreCounted, IsSum, owed_by, waiting_of}
use Rattle.subordinate.specs.FreeMemory.{Pending, beat_at, is_waiting, newly_pending, transfers_in, waiting_in, with_beat, work_in}
use Rattle.subordinate.specs.Inside.{count_waiting, no_burst, with_answer}
use Rattle.subordinate.specs.Laws.{queue_of}
use Rattle.subordinate.specs.declared.BeatState.{BeatState}
use Rattle.subordinate.specs.declared.BeatState.TheVariants.{Waiting}
use Rattle.subordinate.proofs.BeatStates.{count_waiting-put, length-waiting_in}
use Rattle.subordinate.proofs.BurstIndex.{IsOldest, burst_at, here_now}
use Rattle.std.proofs.lemmas.Bool.Decides.{nat_tests}

-- ---- the sum of a count

most_summed : (count : Pending → ℕ) (bursts : List Pending) → AllByRecursion (λ p. count p ≤ 256) bursts → sum_by count bursts ≤ 256 * length bursts
most_summed count [] each = omega arith
most_summed count (p ∷ ps) each = omega (arith, sum_by-cons count p ps, each.0, most_summed count ps each.1)

pub few_summed : (count : Pending → ℕ) (bursts : List Pending) (total : ℕ) → IsSum count bursts total → total ≤ 256 * length bursts
few_summed count bursts total sums = omega (arith, sums.sum, most_summed count bursts sums.each)

summed_push : (count : Pending → ℕ) (bursts : List Pending) (burst : Pending) (total more : ℕ) → IsSum count bursts total → more ≡ count burst → more ≤ 256 → IsSum count (bursts ++ burst ∷ []) (total + more)
summed_push count bursts burst total more sums is small =
    record {
      sum = omega (arith, sum_by_push count bursts burst, sums.sum, is);
      each = all-append (λ p. count p ≤ 256) bursts burst sums.each (rw is at small);
    }

each_set : (count : Pending → ℕ) (bursts : List Pending) (k : ℕ) (new : Pending) → AllByRecursion (λ p. count p ≤ 256) bursts → count new ≤ count (burst_at bursts k)
    → AllByRecursion (λ p. count p ≤ 256) (set bursts k new)
each_set count [] k new each fewer = tt
each_set count (p ∷ ps) zero new each fewer = (omega (arith, each.0, fewer), each.1)
each_set count (p ∷ ps) (suc k) new each fewer = (each.0, each_set count ps k new each.1 fewer)

summed_set : (count : Pending → ℕ) (bursts : List Pending) (k : ℕ) (new : Pending) (total now : ℕ) → k < length bursts → IsSum count bursts total → count new ≤ count (burst_at bursts k)
    → now + count (burst_at bursts k) ≡ total + count new → IsSum count (set bursts k new) now
summed_set count bursts k new total now within sums fewer becomes =
    record {
      sum = omega (arith, sum_by-set count bursts k new (newly_pending 0 no_burst) within, sums.sum, becomes);
      each = each_set count bursts k new sums.each fewer;
    }

each_remove : (count : Pending → ℕ) (bursts : List Pending) (k : ℕ) → k < length bursts → AllByRecursion (λ p. count p ≤ 256) bursts → AllByRecursion (λ p. count p ≤ 256) (remove bursts k)
each_remove count [] k within each = absurd (omega (arith, within))
each_remove count (p ∷ ps) zero within each = each.1
each_remove count (p ∷ ps) (suc k) within each = (each.0, each_remove count ps k (omega (arith, within)) each.1)

summed_remove : (count : Pending → ℕ) (bursts : List Pending) (k total now : ℕ) → k < length bursts → IsSum count bursts total → now + count (burst_at bursts k) ≡ total → IsSum count (remove bursts k) now
summed_remove count bursts k total now within sums becomes =
    record {
      sum = omega (arith, sum_by-remove count bursts k (newly_pending 0 no_burst) within, sums.sum, becomes);
      each = each_remove count bursts k within sums.each;
    }

-- a place in the list that callers see is one in the list that is kept
place_within : (bursts current : List Pending) (k : ℕ) → bursts ≡ current → k < length current → k < length bursts
place_within bursts current k view inside = subst (λ (ps : List Pending). k < length ps) (sym view) inside

-- the count of what was read at a place
same_count : (count : Pending → ℕ) (bursts : List Pending) (k : ℕ) (was : Pending) → k < length bursts → was ≡ get_or bursts k was → count was ≡ count (burst_at bursts k)
same_count count bursts k was within is = ap count (is ∙ get_or_default bursts k was (newly_pending 0 no_burst) within)

pub was_summed : (count : Pending → ℕ) (bursts current : List Pending) (k : ℕ) (was : Pending) (total : ℕ) → bursts ≡ current → k < length current → was ≡ get_or bursts k was → IsSum count bursts total → count was ≤ total
was_summed count bursts current k was total view inside is sums =
    let within = place_within bursts current k view inside in
    omega (arith, same_count count bursts k was within is, sum_by-remove count bursts k (newly_pending 0 no_burst) within, sums.sum)

-- ---- no bursts

pub counted_none : (bursts : List Pending) → bursts ≡ [] → AreCounted bursts 0 0 0
counted_none bursts none = rw none (record { waits = record { sum = refl; each = tt }; owes = record { sum = refl; each = tt }; within = omega arith; before = tt })

-- ---- one more burst

before_push : (first : ℕ) (bursts : List Pending) (burst : Pending) → first ≤ length bursts → AllByRecursion (λ p. count_waiting p.beats ≡ 0) (take first bursts)
    → AllByRecursion (λ p. count_waiting p.beats ≡ 0) (take first (bursts ++ burst ∷ []))
before_push zero bursts burst within before = tt
before_push (suc first) [] burst within before = absurd (omega (arith, within))
before_push (suc first) (p ∷ ps) burst within before = (before.0, before_push first ps burst (omega (arith, within)) before.1)

pub counted_push : (bursts : List Pending) (burst : Pending) (waiting owed first more due : ℕ) → AreCounted bursts waiting owed first → more ≡ waiting_of burst → more ≤ 256 → due ≡ owed_by burst → due ≤ 256
    → AreCounted (bursts ++ burst ∷ []) (waiting + more) (owed + due) first
counted_push bursts burst waiting owed first more due counted is small owes few =
    record {
      waits = summed_push waiting_of bursts burst waiting more counted.waits is small;
      owes = summed_push owed_by bursts burst owed due counted.owes owes few;
      within = omega (arith, counted.within, length-append bursts (burst ∷ []));
      before = before_push first bursts burst counted.within counted.before;
    }

-- ---- a burst that changed, of which no more beats wait, and no more answers are to come

before_set : (first : ℕ) (bursts : List Pending) (k : ℕ) (new : Pending) → AllByRecursion (λ p. count_waiting p.beats ≡ 0) (take first bursts) → count_waiting new.beats ≤ count_waiting (burst_at bursts k).beats
    → AllByRecursion (λ p. count_waiting p.beats ≡ 0) (take first (set bursts k new))
before_set zero bursts k new before fewer = tt
before_set (suc first) [] k new before fewer = tt
before_set (suc first) (p ∷ ps) zero new before fewer = (omega (arith, before.0, fewer), before.1)
before_set (suc first) (p ∷ ps) (suc k) new before fewer = (before.0, before_set first ps k new before.1 fewer)

counted_change : (bursts current : List Pending) (k : ℕ) (was new : Pending) (waiting now owed due first : ℕ) → bursts ≡ current → k < length current → was ≡ get_or bursts k was → AreCounted bursts waiting owed first
    → waiting_of new ≤ waiting_of was → now + waiting_of was ≡ waiting + waiting_of new → owed_by new ≤ owed_by was → due + owed_by was ≡ owed + owed_by new → AreCounted (set bursts k new) now due first
counted_change bursts current k was new waiting now owed due first view inside is counted fewer becomes less owes =
    let within = place_within bursts current k view inside in
    let same = same_count waiting_of bursts k was within is in
    let alike = same_count owed_by bursts k was within is in
    let fewer_there : waiting_of new ≤ waiting_of (burst_at bursts k) = omega (arith, fewer, same) in
    record {
      waits = summed_set waiting_of bursts k new waiting now within counted.waits fewer_there (omega (arith, becomes, same));
      owes = summed_set owed_by bursts k new owed due within counted.owes (omega (arith, less, alike)) (omega (arith, owes, alike));
      within = omega (arith, counted.within, length-set bursts k new);
      before = before_set first bursts k new counted.before fewer_there;
    }

-- no burst up to a place has a beat that waits, where the one there has none
one_more : (first : ℕ) (bursts : List Pending) → first < length bursts → AllByRecursion (λ p. count_waiting p.beats ≡ 0) (take first bursts) → count_waiting (burst_at bursts first).beats ≡ 0
    → AllByRecursion (λ p. count_waiting p.beats ≡ 0) (take (suc first) bursts)
one_more first [] within before none = absurd (omega (arith, within))
one_more zero (p ∷ ps) within before none = (none, tt)
one_more (suc first) (p ∷ ps) within before none = (before.0, one_more first ps (omega (arith, within)) before.1 none)

counted_past : (bursts : List Pending) (waiting owed first k left : ℕ) → AreCounted bursts waiting owed first → k < length bursts → left ≡ count_waiting (burst_at bursts k).beats
    → AreCounted bursts waiting owed (if (k == first) && (left == 0) then first + 1 else first)
counted_past bursts waiting owed first k left counted within is =
    let next : suc first ≡ first + 1 = omega arith in
    let more = λ (inside : first < length bursts) (none : count_waiting (burst_at bursts first).beats ≡ 0). one_more first bursts inside counted.before none in
    record {
      waits = counted.waits;
      owes = counted.owes;
      within = grind (arith, nat_tests, counted.within, within);
      before = grind (arith, nat_tests, next, counted.before, within, is, more);
    }

-- ---- a burst that closed

before_below : (first : ℕ) (bursts : List Pending) (k : ℕ) → k < length bursts → k < suc first → AllByRecursion (λ p. count_waiting p.beats ≡ 0) (take (suc first) bursts) → AllByRecursion (λ p. count_waiting p.beats ≡ 0) (take first (remove bursts k))
before_below zero bursts k within below before = tt
before_below (suc first) [] k within below before = absurd (omega (arith, within))
before_below (suc first) (p ∷ ps) zero within below before = before.1
before_below (suc first) (p ∷ ps) (suc k) within below before = (before.0, before_below first ps k (omega (arith, within)) (omega (arith, below)) before.1)

before_above : (first : ℕ) (bursts : List Pending) (k : ℕ) → k < length bursts → first ≤ k → AllByRecursion (λ p. count_waiting p.beats ≡ 0) (take first bursts) → AllByRecursion (λ p. count_waiting p.beats ≡ 0) (take first (remove bursts k))
before_above zero bursts k within above before = tt
before_above (suc first) [] k within above before = absurd (omega (arith, within))
before_above (suc first) (p ∷ ps) zero within above before = absurd (omega (arith, above))
before_above (suc first) (p ∷ ps) (suc k) within above before = (before.0, before_above first ps k (omega (arith, within)) (omega (arith, above)) before.1)

counted_remove : (bursts : List Pending) (k waiting now owed due first : ℕ) → AreCounted bursts waiting owed first → k < length bursts → now + waiting_of (burst_at bursts k) ≡ waiting → due + owed_by (burst_at bursts k) ≡ owed
    → AreCounted (remove bursts k) now due (if nat_lt k first then first - 1 else first)
counted_remove bursts k waiting now owed due first counted within becomes owes =
    record {
      waits = summed_remove waiting_of bursts k waiting now within counted.waits becomes;
      owes = summed_remove owed_by bursts k owed due within counted.owes owes;
      within = grind (arith, nat_tests, length-remove bursts k within, counted.within);
      before = before first counted.before;
    }
  where
    before : (first : ℕ) → AllByRecursion (λ p. count_waiting p.beats ≡ 0) (take first bursts) → AllByRecursion (λ p. count_waiting p.beats ≡ 0) (take (if nat_lt k first then first - 1 else first) (remove bursts k))
    before zero all = rw (le-ltb k 0 (omega arith)) tt
    before (suc n) all =
        elim (cases_lt k (suc n)) [
          | inl below ↦ (let less : suc n - 1 ≡ n = omega arith in rw (lt-ltb k (suc n) below, less) (before_below n bursts k within below all))
          | inr above ↦ rw (le-ltb k (suc n) above) (before_above (suc n) bursts k within above all)
        ]

pub counted_close : (bursts current : List Pending) (k : ℕ) (was : Pending) (waiting owed first more due : ℕ) → bursts ≡ current → k < length current → was ≡ get_or bursts k was → AreCounted bursts waiting owed first
    → more ≡ waiting_of was → due ≡ owed_by was → AreCounted (remove bursts k) (waiting - more) (owed - due) (if nat_lt k first then first - 1 else first)
counted_close bursts current k was waiting owed first more due view inside is counted waits owes =
    let within = place_within bursts current k view inside in
    let some = was_summed waiting_of bursts current k was waiting view inside is counted.waits in
    let enough = was_summed owed_by bursts current k was owed view inside is counted.owes in
    counted_remove bursts k waiting (waiting - more) owed (owed - due) first counted within (omega (arith, waits, some, same_count waiting_of bursts k was within is))
    (omega (arith, owes, enough, same_count owed_by bursts k was within is))

-- ---- an answer that is given

-- a read of which a beat isn't answered yet has one answer more to give than after that
one_less : (id : ℕ) (p : Pending) → queue_of p ≡ 2 * id + 1 → p.answered < transfers_in p.burst → owed_by (with_answer p) + 1 ≡ owed_by p
one_less id p read more = grind arith

pub counted_answer : (bursts : List Pending) (queues : List (List ℕ)) (k id : ℕ) (was new : Pending) (waiting owed first : ℕ) → IsOldest bursts queues (2 * id + 1) k → was ≡ get_or bursts k was
    → AreCounted bursts waiting owed first → new ≡ with_answer was → was.answered < transfers_in was.burst → (1 ≤ owed) × AreCounted (set bursts k new) waiting (owed - 1) first
counted_answer bursts queues k id was new waiting owed first found is counted answers more = (
  omega (arith, less, enough),
  counted_change bursts bursts k was new waiting waiting owed (owed - 1) first refl found.within is counted (omega (arith, same)) (omega (arith, same)) (omega (arith, less)) (omega (arith, less, enough)),
)
  where
    same : waiting_of new ≡ waiting_of was
    same = ap waiting_of answers

    less : owed_by new + 1 ≡ owed_by was
    less = ap (λ (p : Pending). owed_by p + 1) answers ∙ one_less id was (same_count queue_of bursts k was found.within is ∙ found.in_queue) more

    enough : owed_by was ≤ owed
    enough = was_summed owed_by bursts bursts k was owed refl found.within is counted.owes

-- ---- a beat that is performed

pub counted_put : (bursts current : List Pending) (k : ℕ) (was new seen : Pending) (waiting owed first left beat : ℕ) (state : BeatState) → bursts ≡ current → k < length current → was ≡ get_or bursts k was → AreCounted bursts waiting owed first
    → IfSome (slice_get current k) (λ p. beat_at p beat ≡ Some Waiting) → is_waiting state ≡ false → new ≡ with_beat beat state was → seen ≡ get_or (set bursts k new) k seen → left ≡ count_waiting seen.beats
    → (1 ≤ waiting) × AreCounted (set bursts k new) (waiting - 1) owed (if (k == first) && (left == 0) then first + 1 else first)
counted_put bursts current k was new seen waiting owed first left beat state view inside is counted waits performed becomes sees counts =
    (some, counted_past (set bursts k new) (waiting - 1) owed first k left changed (omega (arith, within, length-set bursts k new)) (counts ∙ same_count waiting_of (set bursts k new) k seen (omega (arith, within, length-set bursts k new)) sees))
  where
    within : k < length bursts
    within = place_within bursts current k view inside

    waited : slice_get was.beats beat ≡ Some Waiting
    waited = subst (λ (found : Option Pending). IfSome found (λ p. beat_at p beat ≡ Some Waiting)) (here_now bursts current k was view inside is) waits

    one_less : count_waiting new.beats + 1 ≡ count_waiting was.beats
    one_less = omega (arith, ap waiting_of becomes, count_waiting-put was.beats beat state waited performed)

    some : 1 ≤ waiting
    some = omega (arith, one_less, was_summed waiting_of bursts current k was waiting view inside is counted.waits)

    same : owed_by new ≡ owed_by was
    same = ap owed_by becomes

    changed : AreCounted (set bursts k new) (waiting - 1) owed first
    changed =
        counted_change bursts current k was new waiting (waiting - 1) owed owed first view inside is counted (omega (arith, one_less)) (omega (arith, one_less, some)) (omega (arith, same)) (omega (arith, same))

-- ---- the first beat that waits

none_in : (p : Pending) → count_waiting p.beats ≡ 0 → waiting_in p ≡ []
none_in p none = nil_from_length (waiting_in p) (length-waiting_in p ∙ none)

pub waiting_past : (first : ℕ) (bursts : List Pending) → AllByRecursion (λ p. count_waiting p.beats ≡ 0) (take first bursts) → flat_map waiting_in (drop first bursts) ≡ flat_map waiting_in bursts
waiting_past zero bursts before = refl
waiting_past (suc first) [] before = refl
waiting_past (suc first) (p ∷ ps) before = waiting_past first ps before.1 ∙ sym (ap (λ (beats : List (ℕ × ℕ)). beats ++ flat_map waiting_in ps) (none_in p before.0))

-- ---- the work left

pub work_counted : (bursts : List Pending) (waiting owed first : ℕ) → AreCounted bursts waiting owed first → (waiting + owed ≡ sum_by work_in bursts) × (waiting + owed ≤ 512 * length bursts)
work_counted bursts waiting owed first counted = (
  omega (arith, counted.waits.sum, counted.owes.sum, sum_parts bursts),
  omega (arith, few_summed waiting_of bursts waiting counted.waits, few_summed owed_by bursts owed counted.owes),
)
  where
    sum_parts : (bursts : List Pending) → sum_by waiting_of bursts + sum_by owed_by bursts ≡ sum_by work_in bursts
    sum_parts [] = refl
    sum_parts (p ∷ ps) = omega (arith, sum_by-cons waiting_of p ps, sum_by-cons owed_by p ps, sum_by-cons work_in p ps, length-waiting_in p, sum_parts ps)
