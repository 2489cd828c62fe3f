-- The lines of the first replies stand.
use Rattle.std.proofs.Common.{flat_map, slice_get, take}
use Rattle.score_script.specs.UnansweredTexts.{reply_text}
use Rattle.scoreboard.specs.InsideBoards.{board_of}
use Rattle.scoreboard.specs.Unanswered.{sources_due}
use Rattle.score_script.proofs.UnansweredLines.{Wrote}
use Rattle.score_script.proofs.unanswered.replies_lines.Given as goal

abbrev pub invariant-loop-place : goal.invariant-loop-place
invariant-loop-place g l =
    Wrote (flat_map (reply_text l.line l.client) (take l.place (sources_due (slice_get (board_of l.board).clients l.client))))
    (g.W.Write.contents l.fn.writer) (g.W.Write.contents l.writer) l.wrote
