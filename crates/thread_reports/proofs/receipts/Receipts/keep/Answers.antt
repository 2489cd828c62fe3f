use Rattle.std.proofs.Common.{rules}
use Rattle.thread_reports.proofs.receipts.Receipts.keep.Goals as goal

pub returns-clause-head : goal.returns-clause-head
returns-clause-head c = search rules

pub returns-then-capacity-len-clause-full : goal.returns-then-capacity-len-clause-full
returns-then-capacity-len-clause-full c = search rules
