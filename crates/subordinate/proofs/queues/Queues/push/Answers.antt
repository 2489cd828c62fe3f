use Rattle.std.proofs.Common.{ap, ◌∙◌, ℕ, List, [], ◌∷◌, ◌++◌}
use Rattle.std.specs.Prelude.{slice_index_or}
use Rattle.subordinate.proofs.QueueRows.{row_at, row_set}
use Rattle.subordinate.proofs.queues.Queues.push.Goals as goal

pub returns : goal.returns
returns c =
    let rows = c.self.inside.rows.items in
    row_set rows c.args.self.now c.args.queue c.push.new.self (slice_index_or c.args.self.now c.args.queue [] ++ c.args.serial ∷ []) c.self.view_is
    (c.push.ensures.items ∙ ap (λ (row : List ℕ). row ++ c.args.serial ∷ []) (row_at rows c.args.self.now c.args.queue c.index_mut.result.now c.self.view_is c.requires.queue c.index_mut.ensures.value))
