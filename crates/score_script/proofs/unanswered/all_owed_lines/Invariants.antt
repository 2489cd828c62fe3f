-- The lines of the first clients stand.
use Rattle.std.proofs.Common.{flat_map}
use Rattle.std.specs.List.{range_with_len}
use Rattle.score_script.specs.UnansweredTexts.{owed_text}
use Rattle.scoreboard.specs.InsideBoards.{board_of}
use Rattle.score_script.proofs.UnansweredLines.{Wrote}
use Rattle.score_script.proofs.unanswered.all_owed_lines.Given as goal

abbrev pub invariant-loop-client : goal.invariant-loop-client
invariant-loop-client g l =
    Wrote (flat_map (owed_text l.owed l.line (board_of l.board)) (range_with_len 0 l.client)) (g.W.Write.contents l.fn.writer) (g.W.Write.contents l.writer) l.wrote
