use Rattle.std.proofs.Common.{◌≡◌, take}
use Rattle.std.specs.List.{list_all}
use Rattle.line_text.specs.Traces.{is_alike}
use Rattle.line_text.proofs.alike_lines.are_alike.Given as goal

abbrev pub invariant-loop-beat : goal.invariant-loop-beat
invariant-loop-beat l = l.alike ≡ list_all (is_alike l.first) (take l.beat-index l.beats)
