use Rattle.std.proofs.Common.{rules}
use Rattle.thread_reports.proofs.receipts.Receipts.new.Goals as goal

pub returns-clause-room : goal.returns-clause-room
returns-clause-room c = search rules
