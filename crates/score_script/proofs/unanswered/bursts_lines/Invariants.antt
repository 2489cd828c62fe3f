-- The lines of the first bursts stand.
use Rattle.std.proofs.Common.{flat_map, take}
use Rattle.score_script.specs.UnansweredTexts.{burst_text, ids_open}
use Rattle.scoreboard.specs.InsideBoards.{board_of}
use Rattle.score_script.proofs.UnansweredLines.{Wrote}
use Rattle.score_script.proofs.unanswered.bursts_lines.Given as goal

abbrev pub invariant-loop-place : goal.invariant-loop-place
invariant-loop-place g l =
    Wrote (flat_map (burst_text l.line l.side) (take l.place (ids_open l.side (board_of l.board).axi)))
    (g.W.Write.contents l.fn.writer) (g.W.Write.contents l.writer) l.wrote
