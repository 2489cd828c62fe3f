-- It is the first beat that waits of the first burst with one.
use Rattle.std.proofs.Common.{◌≡◌, ◌≤◌, ◌<◌, ◌+◌, ◌-◌, drop, length, List, ℕ, Some, sym, ap, ◌∙◌, arith}
use Rattle.std.proofs.lemmas.List.{get_or_default}
use Rattle.std.proofs.lemmas.Option.{slice_get-get_or, slice_get_past}
use Rattle.std.specs.Prelude.{flat_map, slice_get}
use Rattle.subordinate.specs.FreeMemory.{Pending, waiting_in}
use Rattle.subordinate.specs.Inside.{count_waiting}
use Rattle.subordinate.proofs.BeatStates.{first_place_waits, length-waiting_beats, waiting-after, waiting-here}
use Rattle.subordinate.proofs.BurstCounts.{waiting_past}
use Rattle.subordinate.proofs.bursts.Bursts.place_waiting.Goals as goal

pub returns-then-self-eq0 : goal.returns-then-self-eq0
returns-then-self-eq0 c =
    slice_get_past (flat_map waiting_in c.args.self.now) 0
    (omega (arith, c.if-self-eq0.true, c.self.invariant.1.waits.sum, length-waiting_beats c.self.inside.items.items, ap (λ (bursts : List Pending). length (flat_map waiting_in bursts)) c.self.view_is))

pub loop-place-init : goal.loop-place-init
loop-place-init c = ap (λ (beats : List (ℕ × ℕ)). slice_get beats 0) (waiting_past c.self.inside.first c.self.inside.items.items c.self.invariant.1.before)

pub returns-then-waiting-gt0 : goal.returns-then-waiting-gt0
returns-then-waiting-gt0 c =
    let items = c.self.inside.items.items in
    let k = c.loop-place.place in
    let p = c.index-then-waiting-gt0.result.now in
    let within : k < length items = omega (arith, c.loop-place-test.true, c.len-place-end.ensures, c.self.inside.items.ok) in
    let same = c.index.ensures ∙ get_or_default items k c.index.result.now p within ∙ sym c.index-then-waiting-gt0.ensures in
    let inside : 0 < count_waiting p.beats = omega (arith, c.if-waiting-gt0.true, c.waiting.ensures.count, ap (λ (q : Pending). count_waiting q.beats) same) in
    record {
      pending = p;
      there = ap (λ (bursts : List Pending). slice_get bursts k) (sym c.self.view_is) ∙ slice_get-get_or items k p within ∙ ap Some (sym c.index-then-waiting-gt0.ensures);
      waits = first_place_waits p.beats c.nth_waiting.result c.nth_waiting.ensures;
      first =
          ap (λ (bursts : List Pending). slice_get (flat_map waiting_in bursts) 0) (sym c.self.view_is) ∙ sym c.loop-place.invariant
          ∙ waiting-here items k 0 p c.nth_waiting.result within c.index-then-waiting-gt0.ensures inside c.nth_waiting.ensures;
    }

pub loop-place-preserved : goal.loop-place-preserved
loop-place-preserved c =
    let items = c.self.inside.items.items in
    let k = c.loop-place.place in
    let p = c.index.result.now in
    let within : k < length items = omega (arith, c.loop-place-test.true, c.len-place-end.ensures, c.self.inside.items.ok) in
    let none : count_waiting p.beats ≤ 0 = omega (arith, c.if-waiting-gt0.false, c.waiting.ensures.count) in
    let rest : 0 - count_waiting p.beats ≡ 0 = omega arith in
    ap (slice_get (flat_map waiting_in (drop (k + 1) items))) (sym rest) ∙ sym (waiting-after items k 0 p within c.index.ensures none) ∙ c.loop-place.invariant
