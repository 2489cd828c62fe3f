-- What isn't told is blamed rightly.
use Rattle.std.proofs.Common.{◌≡◌, ◌&&◌, Bool, false, true, not, refl, sym, ◌∙◌}
use Rattle.bus_words.specs.Lanes.{has_lane, lane_byte}
use Rattle.byte_orders.specs.Holdings.{may_be_told}
use Rattle.byte_orders.proofs.RunsRightly.{as_whole, runs_rightly}
use Rattle.byte_orders.proofs.ShortLists.{short_rightly}
use Rattle.value_memory.specs.ValueMemory.{lane_held}
use Rattle.value_memory.proofs.memory.ValueMemory.wrong_lanes.Goals as goal

not_told : (given told : Bool) → (given && not told) ≡ true → told ≡ false
not_told true true is = let never : false ≡ true = is in absurd (cc)
not_told true false is = refl
not_told false told is = let never : false ≡ true = is in absurd (cc)

pub returns-clause-rightly : goal.returns-clause-rightly
returns-clause-rightly c = λ lane below is.
    let hs = lane_held c.args.self.now c.args.address lane in
    short_rightly hs c.args.number (lane_byte c.args.payload lane)
    (not_told (has_lane c.args.lanes lane) (may_be_told hs c.args.number (lane_byte c.args.payload lane)) (sym (c.told_wrongly.ensures lane below) ∙ is))

pub returns-clause-runs : goal.returns-clause-runs
returns-clause-runs c = λ lane below is.
    let hs = lane_held c.args.self.now c.args.address lane in
    runs_rightly hs c.args.number (lane_byte c.args.payload lane)
    (not_told (has_lane c.args.lanes lane) (may_be_told hs c.args.number (lane_byte c.args.payload lane)) (sym (c.told_wrongly.ensures lane below) ∙ is))

pub returns-clause-whole : goal.returns-clause-whole
returns-clause-whole c = λ lane below. as_whole (lane_held c.args.self.now c.args.address lane) c.args.number (lane_byte c.args.payload lane)
