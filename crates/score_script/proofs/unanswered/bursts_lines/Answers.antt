-- One line more, where its place has one.
use Rattle.std.proofs.Common.{◌≡◌, ◌≤◌, Err, None, Some, arith, length, slice_get, sym, ◌∙◌, rules}
use Rattle.score_script.specs.UnansweredTexts.{burst_text, ids_open}
use Rattle.scoreboard.specs.InsideBoards.{board_of}
use Rattle.score_script.proofs.UnansweredLines.{few_open, burst_some, some_text, wrote_all, wrote_more, wrote_same}
use Rattle.score_script.proofs.unanswered.bursts_lines.Goals as goal
use Rattle.score_script.proofs.unanswered.bursts_lines.Goals.{in-Some+in_ok-burst_line, in_default}

pub returns-in_err-burst_line : goal.returns-in_err-burst_line
returns-in_err-burst_line g c =
    let same : c.from_residual.result ≡ Err c.in_err-burst_line.field-0.0 = search rules in
    let there : slice_get (ids_open c.args.side (board_of c.args.board.now).axi) c.loop-place.place ≡ Some c.in-Some.id = sym c.id_open.ensures ∙ c.in-Some.is in
    rw same (some_text (burst_text c.args.line.now c.args.side) (ids_open c.args.side (board_of c.args.board.now).axi) c.loop-place.place c.in-Some.id there (burst_some c.args.line.now c.args.side c.in-Some.id))

pub loop-place-preserved : goal.loop-place-preserved
loop-place-preserved g c = elim c.match-id_open.branch [
  | in-Some+in_ok-burst_line w ↦
      let there : slice_get (ids_open c.args.side (board_of c.args.board.now).axi) c.loop-place.place ≡ Some w.in-Some.id = sym c.id_open.ensures ∙ w.in-Some.is in
      rw (w.writer-is, w.wrote-is)
      (wrote_more (burst_text c.args.line.now c.args.side) (ids_open c.args.side (board_of c.args.board.now).axi) c.loop-place.place w.in-Some.id _ _ _ c.loop-place.wrote there (burst_some c.args.line.now c.args.side w.in-Some.id) c.loop-place.invariant w.in_ok-burst_line.ensures)
  | in_default w ↦
      let none : slice_get (ids_open c.args.side (board_of c.args.board.now).axi) c.loop-place.place ≡ None = sym c.id_open.ensures ∙ w.in_default.is in
      rw (w.writer-is, w.wrote-is) (wrote_same (burst_text c.args.line.now c.args.side) (ids_open c.args.side (board_of c.args.board.now).axi) c.loop-place.place _ _ c.loop-place.wrote none c.loop-place.invariant)
]

pub returns : goal.returns
returns g c =
    let all : length (ids_open c.args.side (board_of c.args.board.now).axi) ≤ c.loop-place.place = omega (arith, few_open c.args.side (board_of c.args.board.now).axi, c.loop-place-test.false, c.open_bursts-place-end.ensures) in
    wrote_all (burst_text c.args.line.now c.args.side) (ids_open c.args.side (board_of c.args.board.now).axi) c.loop-place.place _ _ c.loop-place.wrote all c.loop-place.invariant

pub loop-place-init : goal.loop-place-init
loop-place-init g c = search rules
