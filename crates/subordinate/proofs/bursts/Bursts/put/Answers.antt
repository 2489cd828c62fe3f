-- The mark of its queue changes where it is the oldest, and waited for the beat.
use Rattle.std.proofs.Common.{List, arith, ap, ◌∙◌}
use Rattle.std.proofs.lemmas.Grind.{elements}
use Rattle.std.specs.Prelude.{slice_set}
use Rattle.subordinate.specs.FreeMemory.{Pending, with_beat}
use Rattle.subordinate.proofs.BurstCounts.{counted_put}
use Rattle.subordinate.proofs.BurstIndex.{performed, read_at}
use Rattle.subordinate.proofs.bursts.Bursts.put.Goals as goal

pub overflow_sub-self : goal.overflow_sub-self
overflow_sub-self c =
    let inside = c.self.inside in
    (counted_put inside.items.items c.args.self.now c.args.place c.index_mut.result.now c.put.new.self c.index-burst.result.now inside.waiting inside.owed inside.first c.waiting.result c.args.beat c.args.state c.self.view_is c.requires.here
    c.index_mut.ensures.value c.self.invariant.1 c.requires.waits c.requires.performed c.put.ensures c.index-burst.ensures c.waiting.ensures.count).0

pub past-self-inside-requires : goal.past-self-inside-requires
past-self-inside-requires c = omega (arith, c.self.invariant.1.within, c.self.inside.items.ok, c.self.inside.items.small)

pub invariant_of-self : goal.invariant_of-self
invariant_of-self c =
    let inside = c.self.inside in (
      performed inside.items.items c.args.self.now c.args.place c.args.beat c.args.state c.index_mut.result.now c.put.new.self c.index-burst.result.now inside.queues inside.answers c.noted-self-inside.result c.self.view_is
          c.requires.rising c.self.invariant.0 c.requires.here c.requires.known c.requires.waits c.index_mut.ensures.value c.put.ensures c.index-burst.ensures c.noted-self-inside.ensures.kept c.noted-self-inside.ensures.here
          c.noted-self-inside.ensures.others,
      rw c.past-self-inside.ensures
          (counted_put inside.items.items c.args.self.now c.args.place c.index_mut.result.now c.put.new.self c.index-burst.result.now inside.waiting inside.owed inside.first c.waiting.result c.args.beat c.args.state c.self.view_is c.requires.here
          c.index_mut.ensures.value c.self.invariant.1 c.requires.waits c.requires.performed c.put.ensures c.index-burst.ensures c.waiting.ensures.count).1,
      c.self.invariant.2,
    )

pub returns : goal.returns
returns c = λ p is.
    let was = read_at c.self.inside.items.items c.args.self.now c.args.place c.index_mut.result.now p c.self.view_is c.requires.here c.index_mut.ensures.value is in
    ap (λ (new : Pending). slice_set c.self.inside.items.items c.args.place new) (c.put.ensures ∙ ap (with_beat c.args.beat c.args.state) was) ∙ ap (λ (bursts : List Pending). slice_set bursts c.args.place (with_beat c.args.beat c.args.state p)) c.self.view_is

pub put-requires-clause-waits : goal.put-requires-clause-waits
put-requires-clause-waits c = grind (arith, elements) steps 2000000
