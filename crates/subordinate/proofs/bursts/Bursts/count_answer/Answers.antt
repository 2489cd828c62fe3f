-- The mark of its queue is whether the next beat is performed.
use Rattle.std.proofs.Common.{◌≡◌, ◌*◌, ◌+◌, ◌-◌, ◌<◌, ◌≤◌, ◌∙◌, List, length, position, ap, arith, subst}
use Rattle.std.proofs.Math.ListN.{set}
use Rattle.std.specs.Prelude.{IfSome, IsSome, Option, Some, slice_get, slice_set}
use Rattle.subordinate.specs.Bursts.{AreCounted, is_in}
use Rattle.subordinate.specs.FreeMemory.{Pending, beat_at, transfers_in}
use Rattle.subordinate.specs.Inside.{captured_at, with_answer}
use Rattle.subordinate.proofs.BurstCounts.{counted_answer}
use Rattle.subordinate.proofs.BurstIndex.{IsOldest, answered, here_now, oldest, read_at}
use Rattle.subordinate.proofs.OpenQueues.{captured_within}
use Rattle.subordinate.proofs.bursts.Bursts.count_answer.Goals as goal
use Rattle.subordinate.proofs.bursts.Bursts.count_answer.Goals.{After-index_mut}

-- the burst at the place is the oldest read of the ID
found : (c : After-index_mut) → IsOldest c.self.inside.items.items c.self.inside.queues (2 * c.args.id + 1) c.args.place
found c =
    let inside = c.self.inside in
    oldest inside.items.items inside.queues inside.answers (2 * c.args.id + 1) c.args.place c.self.invariant.0 (ap (λ (bursts : List Pending). position (is_in (2 * c.args.id + 1)) bursts) c.self.view_is ∙ c.requires.oldest)

here : (c : After-index_mut) → slice_get c.args.self.now c.args.place ≡ Some c.index_mut.result.now
here c =
    here_now c.self.inside.items.items c.args.self.now c.args.place c.index_mut.result.now c.self.view_is (subst (λ (bursts : List Pending). c.args.place < length bursts) c.self.view_is (found c).within) c.index_mut.ensures.value

-- its next beat is one of it
within : (c : After-index_mut) → c.index_mut.result.now.answered < length c.index_mut.result.now.beats
within c =
    captured_within c.index_mut.result.now.beats c.index_mut.result.now.answered (subst (λ (read : Option Pending). IfSome read (λ p. IsSome (captured_at (beat_at p p.answered)))) (here c) c.requires.captured)

counted : (c : After-index_mut) (new : Pending) → new ≡ with_answer c.index_mut.result.now
    → (1 ≤ c.self.inside.owed) × AreCounted (set c.self.inside.items.items c.args.place new) c.self.inside.waiting (c.self.inside.owed - 1) c.self.inside.first
counted c new answers =
    let inside = c.self.inside in
    let whole : length c.index_mut.result.now.beats ≡ transfers_in c.index_mut.result.now.burst = subst (λ (read : Option Pending). IfSome read (λ p. length p.beats ≡ transfers_in p.burst)) (here c) c.requires.whole in
    counted_answer inside.items.items inside.queues c.args.place c.args.id c.index_mut.result.now new inside.waiting inside.owed inside.first (found c) c.index_mut.ensures.value c.self.invariant.1 answers (omega (arith, within c, whole))

pub count_answer-next-requires : goal.count_answer-next-requires
count_answer-next-requires c = within (goal.at.count_answer-next-requires c).After-index_mut

pub overflow_sub-self : goal.overflow_sub-self
overflow_sub-self c = (counted (goal.at.overflow_sub-self c).After-index_mut c.count_answer-next.new.self c.count_answer-next.ensures.state).0

pub invariant_of-self : goal.invariant_of-self
invariant_of-self c =
    let inside = c.self.inside in (
      answered inside.items.items c.args.self.now c.args.place c.args.id c.index_mut.result.now c.count_answer-next.new.self inside.queues inside.answers c.with-self-inside.result c.self.view_is c.requires.rising
          c.self.invariant.0 c.requires.id (found (goal.at.invariant_of-self c).After-index_mut) c.index_mut.ensures.value c.count_answer-next.ensures.state (rw c.from.ensures at (c.with-self-inside.ensures.here ∙ c.count_answer-next.ensures.next))
          (rw c.from.ensures at c.with-self-inside.ensures.others),
      (counted (goal.at.invariant_of-self c).After-index_mut c.count_answer-next.new.self c.count_answer-next.ensures.state).1,
      c.self.invariant.2,
    )

pub returns : goal.returns
returns c = λ p is.
    let was = read_at c.self.inside.items.items c.args.self.now c.args.place c.index_mut.result.now p c.self.view_is (subst (λ (bursts : List Pending). c.args.place < length bursts) c.self.view_is (found (goal.at.returns c).After-index_mut).within) c.index_mut.ensures.value is in
    ap (λ (new : Pending). slice_set c.self.inside.items.items c.args.place new) (c.count_answer-next.ensures.state ∙ ap with_answer was) ∙ ap (λ (bursts : List Pending). slice_set bursts c.args.place (with_answer p)) c.self.view_is
