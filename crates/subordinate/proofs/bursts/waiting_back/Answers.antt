-- It is a beat of this open burst, or of an earlier one.
use Rattle.std.proofs.Common.{◌≡◌, ℕ, ◌+◌, ◌-◌, ◌<◌, ◌≤◌, drop, length, sym, ap, ◌∙◌, arith}
use Rattle.std.proofs.lemmas.List.{get_or_default}
use Rattle.std.specs.Prelude.{Some, flat_map, slice_get}
use Rattle.subordinate.specs.FreeMemory.{Pending, waiting_in}
use Rattle.subordinate.specs.Inside.{count_waiting}
use Rattle.subordinate.proofs.BeatStates.{length-from_place, waiting-back, waiting-here}
use Rattle.subordinate.proofs.bursts.waiting_back.Goals as goal

pub returns-then-left-waiting : goal.returns-then-left-waiting
returns-then-left-waiting c =
    let items = c.args.bursts.now in
    let i : ℕ = c.loop-place.place - 1 in
    let p = c.index-bursts-place-then-left-waiting.result in
    let left = c.from-waiting.result - c.loop-place.left in
    let within : i < length items = omega (arith, c.loop-place-test.true, c.loop-place.auto.place) in
    let same = c.index-bursts-place.is ∙ get_or_default items i c.index-bursts-place.result p within ∙ sym c.index-bursts-place-then-left-waiting.is in
    let serial = c.index-bursts-place-then-left-waiting-2.is ∙ get_or_default items i c.index-bursts-place-then-left-waiting-2.result p within ∙ sym c.index-bursts-place-then-left-waiting.is in
    let count : c.from-waiting.result ≡ count_waiting p.beats = c.from-waiting.ensures ∙ c.waiting.ensures.count ∙ ap (λ (q : Pending). count_waiting q.beats) same in
    let next : i + 1 ≡ c.loop-place.place = omega (arith, c.loop-place-test.true) in
    let many = length-from_place items i p within c.index-bursts-place-then-left-waiting.is ∙ ap (λ (n : ℕ). count_waiting p.beats + length (flat_map waiting_in (drop n items))) next in
    let most : c.args.k ≤ length (flat_map waiting_in (drop i items)) = omega (arith, many, count, c.loop-place.invariant.1, c.if-left-waiting.true) in
    let place : length (flat_map waiting_in (drop i items)) - c.args.k ≡ left = omega (arith, many, count, c.loop-place.invariant.1, c.if-left-waiting.true) in
    let inside : left < count_waiting p.beats = omega (arith, count, c.loop-place.invariant.0, c.if-left-waiting.true) in
    waiting-back items i c.args.k most
    ∙ ap (slice_get (flat_map waiting_in (drop i items))) place
    ∙ waiting-here items i left p c.nth_waiting-beat.result within c.index-bursts-place-then-left-waiting.is inside c.nth_waiting-beat.ensures
    ∙ ap (λ (n : ℕ). Some (n, c.nth_waiting-beat.result)) (sym (c.serial.ensures ∙ ap (λ (q : Pending). q.serial) serial))

pub loop-place-preserved : goal.loop-place-preserved
loop-place-preserved c =
    let items = c.args.bursts.now in
    let i : ℕ = c.loop-place.place - 1 in
    let p = c.index-bursts-place.result in
    let within : i < length items = omega (arith, c.loop-place-test.true, c.loop-place.auto.place) in
    let count : c.from-waiting.result ≡ count_waiting p.beats = c.from-waiting.ensures ∙ c.waiting.ensures.count in
    let next : i + 1 ≡ c.loop-place.place = omega (arith, c.loop-place-test.true) in
    let many = length-from_place items i p within c.index-bursts-place.is ∙ ap (λ (n : ℕ). count_waiting p.beats + length (flat_map waiting_in (drop n items))) next in
    (omega (arith, c.if-left-waiting.false), omega (arith, many, count, c.loop-place.invariant.1, c.if-left-waiting.false))
