-- Its port answers, and what it gives is kept.
use Rattle.std.proofs.Common.{◌≡◌, ℕ, Ok, ap, ap₂, sym, ◌∙◌, arith}
use Rattle.std.proofs.lemmas.Grind.{elements}
use Rattle.std.specs.Prelude.{IfSome, slice_get}
use Rattle.tl_messages.specs.Requests.{HeldMessage, request_of}
use Rattle.tl_checker.specs.declared.Progress.{Progress}
use Rattle.scoreboard.specs.InsideBoards.{board_of, unknown_board}
use Rattle.scoreboard.specs.Unknown.{doubted_on, with_given}
use Rattle.scoreboard.specs.Views.{made_whole}
use Rattle.scoreboard.proofs.held.RequestKept.{IsTakenBy, kept_after}
use Rattle.scoreboard.proofs.held.WholeRequests.{held_whole}
use Rattle.scoreboard.proofs.board.Scoreboard.judge_unknown_request.Goals.{After-keep}
use Rattle.scoreboard.proofs.board.Scoreboard.judge_unknown_request.Goals as goal

module _ (c : After-keep) where
  taken : IsTakenBy c.args.self.now.policy (unknown_board c.args.self.now) c.take_request.new.self c.keep.new.self c.args.client c.args.beat.now c.args.lanes c.in-Ok.progress
      (slice_get (board_of c.args.self.now).clients c.args.client)
  taken =
      let mid = c.take_request.new.self in
      record {
        answer = sym c.in-Ok.is ∙ c.in_ok-progress.ensures.answer;
        board = c.in_ok-progress.ensures.state;
        unknown = c.take_request.ensures.unknown;
        request = λ client there whole. c.in_ok-progress.ensures.request (c.in-Ok.is ∙ ap (λ (progress : Progress). Ok progress) whole) client there;
        more = λ is.
            c.keep.ensures.more is
            ∙ ap₂ (λ (n g : ℕ). record (unknown_board mid) { lanes = with_given mid.unknown n g }) c.from.ensures c.unknown_given-given.ensures;
        whole = λ is.
            c.keep.ensures.whole is
            ∙ ap₂ (λ (n g : ℕ). doubted_on (record (unknown_board mid) { lanes = with_given mid.unknown n g }) n (request_of mid.request)) c.from.ensures c.unknown_given-given.ensures;
      }

  -- the message that it makes whole is held all the while
  held : IfSome (made_whole c.args.self.now.policy (slice_get (board_of c.args.self.now).clients c.args.client) c.args.beat.now)
      (λ (message : HeldMessage). c.keep.new.self.request ≡ message)
  held =
      held_whole c.args.self.now.policy (slice_get (board_of c.args.self.now).clients c.args.client) c.args.beat.now _ c.keep.new.self.request c.in_ok-progress.ensures.answer
      (λ whole found there. c.keep.ensures.request ∙ c.in_ok-progress.ensures.request whole found there)

pub returns-then-not-gives_unknown-clause-request : goal.returns-then-not-gives_unknown-clause-request
returns-then-not-gives_unknown-clause-request c = held (goal.at.returns-then-not-gives_unknown-clause-request c).After-keep

pub returns-clause-request : goal.returns-clause-request
returns-clause-request c = held (goal.at.returns-clause-request c).After-keep

pub returns-then-not-gives_unknown-clause-state : goal.returns-then-not-gives_unknown-clause-state
returns-then-not-gives_unknown-clause-state c =
    kept_after c.args.self.now.policy (unknown_board c.args.self.now) c.take_request.new.self c.keep.new.self c.args.client c.args.beat.now c.args.lanes c.in-Ok.progress
    (slice_get (board_of c.args.self.now).clients c.args.client) (taken (goal.at.returns-then-not-gives_unknown-clause-state c).After-keep)

pub returns-clause-state : goal.returns-clause-state
returns-clause-state c =
    kept_after c.args.self.now.policy (unknown_board c.args.self.now) c.take_request.new.self c.keep.new.self c.args.client c.args.beat.now c.args.lanes c.in-Ok.progress
    (slice_get (board_of c.args.self.now).clients c.args.client) (taken (goal.at.returns-clause-state c).After-keep)

pub returns-in-Err-clause-answer : goal.returns-in-Err-clause-answer
returns-in-Err-clause-answer c = grind (arith, elements) steps 2000000

pub returns-in-Err-clause-state : goal.returns-in-Err-clause-state
returns-in-Err-clause-state c = grind (arith, elements) steps 2000000

pub returns-then-not-gives_unknown-clause-answer : goal.returns-then-not-gives_unknown-clause-answer
returns-then-not-gives_unknown-clause-answer c = grind (arith, elements) steps 2000000
