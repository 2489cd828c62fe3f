use Rattle.std.proofs.Common.{◌-◌, arith}
use Rattle.std.proofs.lemmas.Nat.{one_shl}
use Rattle.burst_plan.proofs.PieceLaws.{is_plan}
use Rattle.burst_plan.proofs.PlanLaws.{reckoned}
use Rattle.burst_plan.proofs.TransferPlaces.{holds_each_byte_once}
use Rattle.burst_plan.proofs.WriteLaws.{puts_given_bytes, reads_are_legal}
use Rattle.burst_plan.proofs.plan.Plan.new_of.Goals as goal

pub invariant_of-result : goal.invariant_of-result
invariant_of-result c =
    let size = c.transfer_size-transfer_size.result in
    reckoned _ size _ c.min-each.result (record { bus = c.requires.bus; max_len = c.requires.max_len; size = c.requires.size; aligned = c.requires.aligned }) c.transfer_size-transfer_size.ensures
    (one_shl (c.args.size - size) 16 (omega arith)) c.min-each.ensures

pub returns-clause-plan : goal.returns-clause-plan
returns-clause-plan c = is_plan _ (record { bus = c.requires.bus; max_len = c.requires.max_len; size = c.requires.size; aligned = c.requires.aligned })

pub returns-clause-bytes : goal.returns-clause-bytes
returns-clause-bytes c = holds_each_byte_once _ (record { bus = c.requires.bus; max_len = c.requires.max_len; size = c.requires.size; aligned = c.requires.aligned })

pub returns-clause-reads : goal.returns-clause-reads
returns-clause-reads c = reads_are_legal _ (record { bus = c.requires.bus; max_len = c.requires.max_len; size = c.requires.size; aligned = c.requires.aligned })

pub returns-clause-writes : goal.returns-clause-writes
returns-clause-writes c = λ bytes small. puts_given_bytes _ bytes (record { bus = c.requires.bus; max_len = c.requires.max_len; size = c.requires.size; aligned = c.requires.aligned }) small
