-- The lines of the replies, of the AXI4 port, and of the messages.
use Rattle.std.proofs.Common.{◌≡◌, ◌++◌, ◌||◌, Err, rules}
use Rattle.line_text.proofs.TraceTexts.{some_after, some_before}
use Rattle.score_script.specs.UnansweredTexts.{all_owed_text, port_text}
use Rattle.score_script.specs.declared.unanswered.Owed.TheVariants.{Message, Replies}
use Rattle.scoreboard.specs.InsideBoards.{board_of}
use Rattle.score_script.proofs.UnansweredLines.{wrote_both}
use Rattle.score_script.proofs.unanswered.unanswered_lines.Goals as goal

pub returns-in_err-replies : goal.returns-in_err-replies
returns-in_err-replies g c =
    let same : c.from_residual.result ≡ Err c.in_err-replies.field-0.0 = search rules in
    rw same (some_before _ _ c.in_err-replies.ensures)

pub returns-in_err-port : goal.returns-in_err-port
returns-in_err-port g c =
    let same : c.from_residual-in_err-port.result ≡ Err c.in_err-port.field-0.0 = search rules in
    rw same (some_after _ _ (some_before _ _ c.in_err-port.ensures))

pub returns-in_err-messages : goal.returns-in_err-messages
returns-in_err-messages g c =
    let same : c.from_residual-in_err-messages.result ≡ Err c.in_err-messages.field-0.0 = search rules in
    rw same (some_after _ _ (some_after _ _ c.in_err-messages.ensures))

pub returns : goal.returns
returns g c =
    let line = c.args.line.now in
    let board = board_of c.args.board.now in
    wrote_both (all_owed_text Replies line board) (port_text line board ++ all_owed_text Message line board) _ _ _ c.in_ok-replies.replies (c.in_ok-port.port || c.in_ok-messages.messages)
    c.in_ok-replies.ensures
    (wrote_both (port_text line board) (all_owed_text Message line board) _ _ _ c.in_ok-port.port c.in_ok-messages.messages c.in_ok-port.ensures c.in_ok-messages.ensures)
