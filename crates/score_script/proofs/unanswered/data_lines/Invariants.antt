-- The lines of the first writes stand.
use Rattle.std.proofs.Common.{flat_map}
use Rattle.std.specs.List.{range_with_len}
use Rattle.score_script.specs.UnansweredTexts.{data_text}
use Rattle.score_script.proofs.UnansweredLines.{Wrote}
use Rattle.score_script.proofs.unanswered.data_lines.Given as goal

abbrev pub invariant-loop-write : goal.invariant-loop-write
invariant-loop-write g l =
    Wrote (flat_map (λ write. data_text l.line) (range_with_len 0 l._write)) (g.W.Write.contents l.fn.writer) (g.W.Write.contents l.writer) l.wrote
