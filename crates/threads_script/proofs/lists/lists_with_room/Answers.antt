-- One list more.
use Rattle.std.proofs.Common.{◌≤◌, ◌∙◌, ◌++◌, ◌∷◌, [], ap, ap₂, sym}
use Rattle.std.specs.Prelude.{vec_capacity}
use Rattle.std.proofs.lemmas.List.{map_push}
use Rattle.thread_reports.specs.Reports.{items_of}
use Rattle.threads_script.proofs.ListLemmas.{each_push, replicate_more}
use Rattle.threads_script.proofs.lists.lists_with_room.Goals as goal

pub loop-preserved : goal.loop-preserved
loop-preserved g c =
    let list = c.in_ok-with_capacity.field-0 in (
      ap items_of c.in_ok-push.ensures.items ∙ map_push (λ xs. xs.items) c.loop.lists.items list ∙ ap₂ (λ xs x. xs ++ x ∷ []) c.loop.invariant.0 c.in_ok-with_capacity.ensures.items
          ∙ sym (replicate_more c.loop.counter []),
      rw c.in_ok-push.ensures.items (each_push (λ xs. c.args.most ≤ vec_capacity xs) c.loop.lists.items list c.loop.invariant.1 c.in_ok-with_capacity.ensures.capacity),
    )
