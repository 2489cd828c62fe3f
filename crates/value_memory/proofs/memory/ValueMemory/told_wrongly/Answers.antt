-- The list answers that stands, or the one with which the word's would begin.
use Rattle.std.proofs.Common.{◌/◌, ◌&&◌, not, ap, sym, ◌∙◌}
use Rattle.bus_words.specs.Lanes.{has_lane, lane_byte}
use Rattle.byte_orders.specs.Holdings.{may_be_told}
use Rattle.value_tables.specs.Tables.{list_at}
use Rattle.value_memory.specs.ValueMemory.{ValueState}
use Rattle.value_memory.proofs.MemoryGoes.{lane-listed, lane-unlisted}
use Rattle.value_memory.proofs.memory.ValueMemory.told_wrongly.Goals as goal

pub returns-in-Some : goal.returns-in-Some
returns-in-Some c = λ lane below.
    let there = sym (c.in-Some.ensures ∙ ap (λ (s : ValueState). list_at s.table (c.args.address / 8)) c.self.view_is) in
    c.wrong_lanes.ensures.told lane below
    ∙ ap (λ hs. has_lane c.args.lanes lane && not (may_be_told hs c.args.number (lane_byte c.args.payload lane))) (lane-listed c.args.self.now c.args.address lane c.in-Some.list.now below there)

pub returns-in-None : goal.returns-in-None
returns-in-None c = λ lane below.
    let none = sym (c.in-None.ensures ∙ ap (λ (s : ValueState). list_at s.table (c.args.address / 8)) c.self.view_is) in
    c.wrong_lanes-in-None.ensures.told lane below
    ∙ ap (λ hs. has_lane c.args.lanes lane && not (may_be_told hs c.args.number (lane_byte c.args.payload lane)))
    (lane-unlisted c.args.self.now c.args.address lane c.first_list.result below none c.first_list.ensures)
