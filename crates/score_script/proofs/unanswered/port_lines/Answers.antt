-- The lines of the writes, of the reads, and of the data alone.
use Rattle.std.proofs.Common.{◌≡◌, ◌++◌, ◌||◌, Err, rules}
use Rattle.line_text.proofs.TraceTexts.{some_after, some_before}
use Rattle.score_script.specs.UnansweredTexts.{all_data_text, bursts_text}
use Rattle.score_script.specs.declared.unanswered.Side.TheVariants.{Read, Write}
use Rattle.scoreboard.specs.InsideBoards.{board_of}
use Rattle.score_script.proofs.UnansweredLines.{wrote_both}
use Rattle.score_script.proofs.unanswered.port_lines.Goals as goal

pub returns-in_err-writes : goal.returns-in_err-writes
returns-in_err-writes g c =
    let same : c.from_residual.result ≡ Err c.in_err-writes.field-0.0 = search rules in
    rw same (some_before _ _ c.in_err-writes.ensures)

pub returns-in_err-reads : goal.returns-in_err-reads
returns-in_err-reads g c =
    let same : c.from_residual-in_err-reads.result ≡ Err c.in_err-reads.field-0.0 = search rules in
    rw same (some_after _ _ (some_before _ _ c.in_err-reads.ensures))

pub returns-in_err-data : goal.returns-in_err-data
returns-in_err-data g c =
    let same : c.from_residual-in_err-data.result ≡ Err c.in_err-data.field-0.0 = search rules in
    rw same (some_after _ _ (some_after _ _ c.in_err-data.ensures))

pub returns : goal.returns
returns g c =
    let line = c.args.line.now in
    let board = board_of c.args.board.now in
    wrote_both (bursts_text line board Write) (bursts_text line board Read ++ all_data_text line board) _ _ _ c.in_ok-writes.writes (c.in_ok-reads.reads || c.in_ok-data.data)
    c.in_ok-writes.ensures
    (wrote_both (bursts_text line board Read) (all_data_text line board) _ _ _ c.in_ok-reads.reads c.in_ok-data.data c.in_ok-reads.ensures c.in_ok-data.ensures)
