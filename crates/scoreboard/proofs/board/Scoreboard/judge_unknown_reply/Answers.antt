use Rattle.std.proofs.Common.{ap, rules, sym, ◌∙◌, ℕ}
use Rattle.scoreboard.specs.InsideBoards.{board_of}
use Rattle.scoreboard.specs.Unknown.{unknown_wrong}
use Rattle.scoreboard.specs.declared.ObservedBeat.TheVariants as seen
use Rattle.scoreboard.proofs.held.AllKnown.{known-wrong}
use Rattle.scoreboard.proofs.board.Scoreboard.judge_unknown_reply.Goals as goal

pub returns-then-lanes-eq0-clause-answer : goal.returns-then-lanes-eq0-clause-answer
returns-then-lanes-eq0-clause-answer c =
    let shown = seen.D c.args.client c.args.beat.now in
    c.judge_reply.ensures.answer
    ∙ sym (known-wrong c.args.self.now.policy (board_of c.args.self.now) shown (search rules))
    ∙ ap (λ (lanes : ℕ). unknown_wrong c.args.self.now.policy (board_of c.args.self.now) shown lanes) (sym c.if-lanes-eq0.true)
