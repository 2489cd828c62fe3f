use Rattle.flight_table.proofs.Conflicts.{slot_count}
use Rattle.flight_table.proofs.live.Live.count_holders.Goals as goal

pub returns : goal.returns
returns c =
    let i = c.self.inside in
    rw (← c.self.view_is, c.slot.ensures.value) (slot_count i.slots i.holders i.held i.spans.items i.rows c.args.key c.self.invariant.1)
