-- So many empty lists stand, each with its room.
use Rattle.std.proofs.Common.{◌≡◌, [], replicate}
use Rattle.thread_reports.specs.Reports.{items_of}
use Rattle.threads_script.specs.Lists.{HaveRoom}
use Rattle.threads_script.proofs.lists.lists_with_room.Given as goal

abbrev pub invariant-loop : goal.invariant-loop
invariant-loop g l = (items_of l.lists.items ≡ replicate l.counter []) × HaveRoom l.most l.lists.items
