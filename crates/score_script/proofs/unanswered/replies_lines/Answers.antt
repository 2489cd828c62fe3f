-- One line more, where its place has one.
use Rattle.std.proofs.Common.{◌≡◌, ◌≤◌, Err, None, Some, arith, length, slice_get, sym, ◌∙◌, rules}
use Rattle.score_script.specs.UnansweredTexts.{reply_text}
use Rattle.scoreboard.specs.InsideBoards.{board_of}
use Rattle.scoreboard.specs.Unanswered.{sources_due}
use Rattle.score_script.proofs.UnansweredLines.{few_due, reply_some, some_text, wrote_all, wrote_more, wrote_same}
use Rattle.score_script.proofs.unanswered.replies_lines.Goals as goal
use Rattle.score_script.proofs.unanswered.replies_lines.Goals.{in-Some+in_ok-reply_line, in_default}

pub returns-in_err-reply_line : goal.returns-in_err-reply_line
returns-in_err-reply_line g c =
    let same : c.from_residual.result ≡ Err c.in_err-reply_line.field-0.0 = search rules in
    let there : slice_get (sources_due (slice_get (board_of c.args.board.now).clients c.args.client)) c.loop-place.place ≡ Some c.in-Some.source = sym c.source_due.ensures ∙ c.in-Some.is in
    rw same (some_text (reply_text c.args.line.now c.args.client) (sources_due (slice_get (board_of c.args.board.now).clients c.args.client)) c.loop-place.place c.in-Some.source there (reply_some c.args.line.now c.args.client c.in-Some.source))

pub loop-place-preserved : goal.loop-place-preserved
loop-place-preserved g c = elim c.match-source_due.branch [
  | in-Some+in_ok-reply_line w ↦
      let there : slice_get (sources_due (slice_get (board_of c.args.board.now).clients c.args.client)) c.loop-place.place ≡ Some w.in-Some.source = sym c.source_due.ensures ∙ w.in-Some.is in
      rw (w.writer-is, w.wrote-is)
      (wrote_more (reply_text c.args.line.now c.args.client) (sources_due (slice_get (board_of c.args.board.now).clients c.args.client)) c.loop-place.place w.in-Some.source _ _ _ c.loop-place.wrote there (reply_some c.args.line.now c.args.client w.in-Some.source) c.loop-place.invariant w.in_ok-reply_line.ensures)
  | in_default w ↦
      let none : slice_get (sources_due (slice_get (board_of c.args.board.now).clients c.args.client)) c.loop-place.place ≡ None = sym c.source_due.ensures ∙ w.in_default.is in
      rw (w.writer-is, w.wrote-is) (wrote_same (reply_text c.args.line.now c.args.client) (sources_due (slice_get (board_of c.args.board.now).clients c.args.client)) c.loop-place.place _ _ c.loop-place.wrote none c.loop-place.invariant)
]

pub returns : goal.returns
returns g c =
    let clients = (board_of c.args.board.now).clients in
    let all : length (sources_due (slice_get clients c.args.client)) ≤ c.loop-place.place = omega (arith, few_due clients c.args.client, c.loop-place-test.false, c.from-place-end.ensures, c.outstanding.ensures) in
    wrote_all (reply_text c.args.line.now c.args.client) (sources_due (slice_get clients c.args.client)) c.loop-place.place _ _ c.loop-place.wrote all c.loop-place.invariant
