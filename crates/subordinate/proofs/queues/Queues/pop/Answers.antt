use Rattle.std.proofs.Common.{ap, drop, ◌∙◌, []}
use Rattle.std.specs.Prelude.{slice_index_or}
use Rattle.subordinate.proofs.QueueRows.{remove_first, row_at, row_set}
use Rattle.subordinate.proofs.queues.Queues.pop.Goals as goal

pub returns : goal.returns
returns c =
    let rows = c.self.inside.rows.items in
    row_set rows c.args.self.now c.args.queue c.remove.new.self (drop 1 (slice_index_or c.args.self.now c.args.queue [])) c.self.view_is
    (c.remove.ensures.items ∙ remove_first c.index_mut.result.now.items ∙ ap (drop 1) (row_at rows c.args.self.now c.args.queue c.index_mut.result.now c.self.view_is c.requires.queue c.index_mut.ensures.value))
