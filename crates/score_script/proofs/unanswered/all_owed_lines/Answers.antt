-- The lines of one client more.
use Rattle.std.proofs.Common.{◌≡◌, ◌<◌, ◌+◌, Err, arith, flat_map, length, rules}
use Rattle.std.specs.List.{range_with_len}
use Rattle.score_script.specs.UnansweredTexts.{owed_text}
use Rattle.scoreboard.specs.InsideBoards.{board_of}
use Rattle.score_script.proofs.UnansweredLines.{one_more, some_of, wrote_both}
use Rattle.score_script.proofs.unanswered.all_owed_lines.Goals as goal

pub returns-in_err-wrote : goal.returns-in_err-wrote
returns-in_err-wrote g c =
    let same : c.from_residual.result ≡ Err c.in_err-wrote.field-0.0 = search rules in
    let board = board_of c.args.board.now in
    let below : c.loop-client.client < length board.clients = omega (arith, c.loop-client-test.true, c.clients-client-end.ensures) in
    let plain : 0 + c.loop-client.client ≡ c.loop-client.client = omega arith in
    rw same (some_of (owed_text c.args.owed c.args.line.now board) 0 (length board.clients) c.loop-client.client below (rw plain c.in_err-wrote.ensures))

pub loop-client-preserved : goal.loop-client-preserved
loop-client-preserved g c =
    let each = owed_text c.args.owed c.args.line.now (board_of c.args.board.now) in
    let client = c.loop-client.client in
    rw (one_more each client)
    (wrote_both (flat_map each (range_with_len 0 client)) (each client) _ _ _ c.loop-client.wrote c.in_ok-wrote.field-0 c.loop-client.invariant c.in_ok-wrote.ensures)
