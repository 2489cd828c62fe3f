-- The board refuses what the score refuses, and what comes later refuses nothing of the set-up.
use Rattle.std.proofs.Common.{◌≡◌, Err, rules}
use Rattle.std.proofs.lemmas.Option.{IfSome_then}
use Rattle.score_setup.specs.ScoreSetups.{lists_of, score_setup_fault}
use Rattle.score_script.proofs.score.Score.new.Goals as goal

pub returns-in_err-board-clause-refused : goal.returns-in_err-board-clause-refused
returns-in_err-board-clause-refused c =
    let same : c.from_residual.result ≡ Err c.in_err-board.field-0.0 = search rules in
    rw same (IfSome_then (score_setup_fault (lists_of c.args.setup.now)) c.in_err-board.ensures.refused (λ fault told. cc))

pub returns-in_err-board-clause-want : goal.returns-in_err-board-clause-want
returns-in_err-board-clause-want c =
    let same : c.from_residual.result ≡ Err c.in_err-board.field-0.0 = search rules in
    rw same c.in_err-board.ensures.want

pub returns-in-Ok-clause-refused : goal.returns-in-Ok-clause-refused
returns-in-Ok-clause-refused c = IfSome_then (score_setup_fault (lists_of c.args.setup.now)) c.in_ok-board.ensures.refused (λ fault told. cc)

pub returns-in-Err-clause-refused : goal.returns-in-Err-clause-refused
returns-in-Err-clause-refused c = IfSome_then (score_setup_fault (lists_of c.args.setup.now)) c.in_ok-board.ensures.refused (λ fault told. cc)

pub returns-in-Ok-clause-opens : goal.returns-in-Ok-clause-opens
returns-in-Ok-clause-opens c = search rules
