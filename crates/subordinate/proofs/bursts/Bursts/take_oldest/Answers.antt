-- The next burst of the queue, if there is one, is its oldest.
use Rattle.std.proofs.Common.{◌≡◌, ◌<◌, List, ℕ, Some, [], arith, sym, ap, subst, ◌∙◌}
use Rattle.std.specs.List.{remove}
use Rattle.std.specs.Prelude.{position, slice_get, slice_index_or}
use Rattle.std.proofs.lemmas.Option.{slice_get-get_or}
use Rattle.bus_words.proofs.FirstPlaces.{position_is_first}
use Rattle.subordinate.specs.Bursts.{AreIndexed, Rise, is_in, is_queue_ready, owed_by, serials_in, waiting_of}
use Rattle.subordinate.specs.FreeMemory.{Pending}
use Rattle.subordinate.specs.declared.answers.Answers.{Answers}
use Rattle.subordinate.proofs.BurstCounts.{counted_close, was_summed}
use Rattle.subordinate.proofs.BurstIndex.{IsTaken, closed, taken}
use Rattle.subordinate.proofs.bursts.Bursts.take_oldest.Goals as goal

known : (items now : List Pending) (queues : List (List ℕ)) (answers : Answers) (queue place : ℕ) → items ≡ now → Rise now → AreIndexed items queues answers → queue < 32 → position (is_in queue) now ≡ Some place
    → IsTaken items queues queue place
known items now queues answers queue place view rise indexed small oldest =
    taken items queues answers queue place (subst Rise (sym view) rise) indexed small (ap (λ (bursts : List Pending). position (is_in queue) bursts) view ∙ oldest)

pub overflow_sub-self : goal.overflow_sub-self
overflow_sub-self c =
    let inside = c.self.inside in
    let within = (position_is_first (is_in c.args.queue) c.args.self.now c.args.place c.requires.oldest).within in
    omega (
      arith,
      c.from.ensures,
      c.waiting.ensures.count,
      was_summed waiting_of inside.items.items c.args.self.now c.args.place c.remove-burst.result inside.waiting c.self.view_is within c.remove-burst.ensures.value c.self.invariant.1.waits,
    )

pub overflow_sub-self-2 : goal.overflow_sub-self-2
overflow_sub-self-2 c =
    let inside = c.self.inside in
    let within = (position_is_first (is_in c.args.queue) c.args.self.now c.args.place c.requires.oldest).within in
    omega (
      arith,
      c.from-2.ensures,
      c.answers_left.ensures.count,
      was_summed owed_by inside.items.items c.args.self.now c.args.place c.remove-burst.result inside.owed c.self.view_is within c.remove-burst.ensures.value c.self.invariant.1.owes,
    )

pub pop-requires-clause-some : goal.pop-requires-clause-some
pop-requires-clause-some c = (known c.self.inside.items.items c.args.self.now c.self.inside.queues c.self.inside.answers c.args.queue c.args.place c.self.view_is c.requires.rising c.self.invariant.0 c.requires.queue c.requires.oldest).some

pub is_ready_at-ready-requires : goal.is_ready_at-ready-requires
is_ready_at-ready-requires c = subst Rise (sym (c.deref.ensures.value ∙ c.remove-burst.ensures.items)) (known c.self.inside.items.items c.args.self.now c.self.inside.queues c.self.inside.answers c.args.queue c.args.place c.self.view_is c.requires.rising c.self.invariant.0 c.requires.queue c.requires.oldest).rise

pub invariant_of-self : goal.invariant_of-self
invariant_of-self c =
    let inside = c.self.inside in
    let left = c.deref.ensures.value ∙ c.remove-burst.ensures.items in
    let first : c.first.result ≡ slice_get (serials_in c.deref.result.now c.args.queue) 0 =
    c.first.ensures ∙ ap (λ (queues : List (List ℕ)). slice_get (slice_index_or queues c.args.queue []) 0) c.pop.ensures ∙ ap (λ (row : List ℕ). slice_get row 0) (known c.self.inside.items.items c.args.self.now c.self.inside.queues c.self.inside.answers c.args.queue c.args.place c.self.view_is c.requires.rising c.self.invariant.0 c.requires.queue c.requires.oldest).first
    ∙ ap (λ (bursts : List Pending). slice_get (serials_in bursts c.args.queue) 0) (sym left)
    in
    let ready : c.is_ready_at-ready.result ≡ is_queue_ready (remove inside.items.items c.args.place) c.args.queue =
    c.is_ready_at-ready.ensures c.args.queue first ∙ ap (λ (bursts : List Pending). is_queue_ready bursts c.args.queue) left
    in (
      rw (c.remove-burst.ensures.items, c.pop.ensures)
          (closed inside.items.items inside.queues inside.answers c.with-self-inside.result c.args.queue c.args.place (subst Rise (sym c.self.view_is) c.requires.rising) c.self.invariant.0 c.requires.queue
          (ap (λ (bursts : List Pending). position (is_in c.args.queue) bursts) c.self.view_is ∙ c.requires.oldest) (c.with-self-inside.ensures.here ∙ ready) c.with-self-inside.ensures.others),
      rw (c.remove-burst.ensures.items, c.moved-self-inside.ensures)
          (counted_close inside.items.items c.args.self.now c.args.place c.remove-burst.result inside.waiting inside.owed inside.first c.from.result c.from-2.result c.self.view_is
          (position_is_first (is_in c.args.queue) c.args.self.now c.args.place c.requires.oldest).within c.remove-burst.ensures.value c.self.invariant.1 (c.from.ensures ∙ c.waiting.ensures.count)
          (c.from-2.ensures ∙ c.answers_left.ensures.count)),
      omega (arith, c.self.invariant.2, c.remove-burst.ensures.capacity),
    )

pub returns-clause-burst : goal.returns-clause-burst
returns-clause-burst c =
    let items = c.self.inside.items.items in
    let at = position_is_first (is_in c.args.queue) items c.args.place (ap (λ (bursts : List Pending). position (is_in c.args.queue) bursts) c.self.view_is ∙ c.requires.oldest) in
    ap (λ (bursts : List Pending). slice_get bursts c.args.place) (sym c.self.view_is) ∙ slice_get-get_or items c.args.place c.remove-burst.result at.within ∙ ap Some (sym c.remove-burst.ensures.value)
