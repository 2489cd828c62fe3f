-- What is left tells it.
use Rattle.std.proofs.Common.{◌≡◌, drop, length, List}
use Rattle.std.specs.Prelude.{nat_lt}
use Rattle.std.specs.List.{list_any}
use Rattle.tl_messages.specs.declared.ABeat.{ABeat}
use Rattle.thread_reports.specs.Reports.{items_of}
use Rattle.bridge_threads.proofs.limits.has_long.Given as goal

abbrev pub invariant-loop-script : goal.invariant-loop-script
invariant-loop-script l =
    list_any (λ (script : List ABeat). nat_lt 4096 (length script)) (items_of (drop l.script-index l.scripts)) ≡ list_any (λ (script : List ABeat). nat_lt 4096 (length script)) (items_of l.scripts)
