-- A mask that is kept whole by the full mask has no lane outside it.
use Rattle.std.proofs.Common.{arith}
use Rattle.tl_messages.specs.Lanes.{in_lanes}
use Rattle.tl_checker.proofs.MaskSubsets.{not_kept-outside}
use Rattle.tl_checker.proofs.request_rules.has_wrong_mask.Goals as goal

pub returns-then-beat-eq1 : goal.returns-then-beat-eq1
returns-then-beat-eq1 c =
    rw c.if-beat-eq1.true
    (not_kept-outside c.args.beat.now.mask c.full_mask-full.result (in_lanes c.args.beat.now.address c.args.beat.now.size) (omega arith) c.full_mask-full.type_inv c.full_mask-full.ensures.lanes)
