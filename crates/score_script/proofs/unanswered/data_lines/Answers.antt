-- The line of one write more.
use Rattle.std.proofs.Common.{◌≡◌, ◌<◌, ℕ, Err, arith, rules}
use Rattle.score_script.specs.UnansweredTexts.{data_text}
use Rattle.scoreboard.specs.InsideBoards.{board_of}
use Rattle.scoreboard.specs.Unanswered.{writes_without_address}
use Rattle.score_script.proofs.UnansweredLines.{data_some, some_of, wrote_next}
use Rattle.score_script.proofs.unanswered.data_lines.Goals as goal

pub returns-in_err-data_line : goal.returns-in_err-data_line
returns-in_err-data_line g c =
    let same : c.from_residual.result ≡ Err c.in_err-data_line.field-0.0 = search rules in
    let count = writes_without_address (board_of c.args.board.now).axi in
    let below : c.loop-write._write < count = omega (arith, c.loop-write-test.true, c.writes_without_address-write-end.ensures) in
    rw same (some_of (λ (write : ℕ). data_text c.args.line.now) 0 count c.loop-write._write below (data_some c.args.line.now))

pub loop-write-preserved : goal.loop-write-preserved
loop-write-preserved g c =
    wrote_next (λ (write : ℕ). data_text c.args.line.now) c.loop-write._write _ _ _ c.loop-write.wrote (data_some c.args.line.now) c.loop-write.invariant c.in_ok-data_line.ensures
