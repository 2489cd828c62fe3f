-- The list answers that stands, or the one with which the word's would begin.
use Rattle.std.proofs.Common.{◌/◌, ◌&&◌, ap, sym, ◌∙◌}
use Rattle.bus_words.specs.Lanes.{has_lane}
use Rattle.byte_orders.specs.Holdings.{is_compared}
use Rattle.value_tables.specs.Tables.{list_at}
use Rattle.value_memory.specs.ValueMemory.{ValueState}
use Rattle.value_memory.proofs.MemoryGoes.{lane-listed, lane-unlisted}
use Rattle.value_memory.proofs.memory.ValueMemory.compared_lanes.Goals as goal

pub returns-in-Some : goal.returns-in-Some
returns-in-Some c = λ lane below.
    let there = sym (c.in-Some.ensures ∙ ap (λ (s : ValueState). list_at s.table (c.args.address / 8)) c.self.view_is) in
    c.compared_lanes.ensures.lanes lane below
    ∙ ap (λ hs. has_lane c.args.lanes lane && is_compared hs c.args.number) (lane-listed c.args.self.now c.args.address lane c.in-Some.list.now below there)

pub returns-in-None : goal.returns-in-None
returns-in-None c = λ lane below.
    let none = sym (c.in-None.ensures ∙ ap (λ (s : ValueState). list_at s.table (c.args.address / 8)) c.self.view_is) in
    c.compared_lanes-in-None.ensures.lanes lane below
    ∙ ap (λ hs. has_lane c.args.lanes lane && is_compared hs c.args.number) (lane-unlisted c.args.self.now c.args.address lane c.first_list.result below none c.first_list.ensures)
