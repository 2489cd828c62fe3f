use Rattle.std.proofs.Common.{◌≡◌, ◌++◌}
use Rattle.script_text.specs.SetupLines.{pages_from}
use Rattle.script_text.proofs.setup_lines.add_pages.Given as goal

abbrev pub invariant-loop-k : goal.invariant-loop-k
invariant-loop-k l = l.pages.items ≡ l.fn.pages.items ++ pages_from l.first l.k l.kind
