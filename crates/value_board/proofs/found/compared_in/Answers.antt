-- Lane by lane, of what is held by what the memory contains.
use Rattle.std.proofs.Common.{◌/◌, ◌*◌, ◌+◌, ◌&&◌, List, ap, arith, sym, ◌∙◌}
use Rattle.bus_words.specs.Lanes.{has_lane}
use Rattle.bus_words.proofs.MaskLaws.{mask_of-has_lane, mask_of-same}
use Rattle.byte_orders.specs.Holdings.{Holding, is_compared}
use Rattle.value_memory.specs.States.{contents_of, held_of}
use Rattle.value_memory.proofs.StateSteps.{held-contents}
use Rattle.value_board.proofs.found.compared_in.Goals as goal

pub returns : goal.returns
returns c =
    let m = c.args.memory.now in
    let mask = c.compared_lanes.result in
    sym (mask_of-has_lane mask (omega arith))
    ∙ mask_of-same (has_lane mask) (λ lane. has_lane c.args.lanes lane && is_compared (held_of (contents_of m) (c.args.address / 8 * 8 + lane)) c.args.number)
    (λ lane below.
    c.compared_lanes.ensures lane below
    ∙ ap (λ (hs : List Holding). has_lane c.args.lanes lane && is_compared hs c.args.number) (held-contents m (c.args.address / 8 * 8 + lane)))
