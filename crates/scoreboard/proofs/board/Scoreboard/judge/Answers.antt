-- The laws of both policies, by what the board says of a beat.
use Rattle.std.proofs.Common.{◌≡◌, [], ◌∷◌, ◌++◌, Err, None, Ok, Option, Result, ap, subst, sym, ◌∙◌}
use Rattle.std.specs.Prelude.{◌↔◌, IfOk}
use Rattle.scoreboard.specs.Boards.{wrong_at}
use Rattle.scoreboard.specs.InsideBoards.{board_of}
use Rattle.scoreboard.specs.Right.{IsRight}
use Rattle.scoreboard.specs.RealTime.{JudgesRightly}
use Rattle.scoreboard.specs.Wider.{IsWiderAlong, LetsRightPass}
use Rattle.scoreboard.specs.declared.Policy.{Policy}
use Rattle.scoreboard.specs.declared.Wrong.{Wrong}
use Rattle.scoreboard.proofs.acceptance_order.Reached.{known_reached, memory_reached, right_exactly}
use Rattle.scoreboard.proofs.real_time.JudgedRightly.{judges_rightly}
use Rattle.scoreboard.proofs.real_time.RightRuns.{lets_right_pass}
use Rattle.scoreboard.proofs.real_time.WiderRuns.{is_wider}
use Rattle.scoreboard.proofs.board.Scoreboard.judge.Goals as goal

-- what holds of the answer that the board gives
of_answer : {X E : Type 0} (P Q : X → Type 0) (r : Result X E) → ((x : X) → P x → Q x) → IfOk r P → IfOk r Q
of_answer P Q (Ok x) leads holds = leads x holds
of_answer P Q (Err e) leads holds = tt

pub returns-clause-exactly : goal.returns-clause-exactly
returns-clause-exactly c =
    of_answer (λ (wrong : Option Wrong). wrong ≡ wrong_at c.args.self.now.policy (board_of c.args.self.now) c.args.seen.now) _ c.judge_by_board.result
    (λ wrong is ordered errors beginning before reached.
    subst (λ (w : Option Wrong). (w ≡ None) ↔ IsRight beginning (before ++ c.args.seen.now ∷ [])) (sym (is ∙ ap (λ (policy : Policy). wrong_at policy (board_of c.args.self.now) c.args.seen.now) ordered))
    (right_exactly errors beginning before (board_of c.args.self.now) c.args.seen.now reached))
    c.judge_by_board.ensures.answer

pub returns-clause-memory : goal.returns-clause-memory
returns-clause-memory c ordered errors beginning before reached = memory_reached errors beginning before (board_of c.args.self.now) reached

pub returns-clause-known : goal.returns-clause-known
returns-clause-known c ordered errors beginning before reached = known_reached errors beginning before (board_of c.args.self.now) reached

pub returns-clause-right : goal.returns-clause-right
returns-clause-right c =
    of_answer (λ (wrong : Option Wrong). wrong ≡ wrong_at c.args.self.now.policy (board_of c.args.self.now) c.args.seen.now) _ c.judge_by_board.result
    (λ wrong is real_time.
    subst (LetsRightPass (board_of c.args.self.now) c.args.seen.now) (sym (is ∙ ap (λ (policy : Policy). wrong_at policy (board_of c.args.self.now) c.args.seen.now) real_time))
    (lets_right_pass (board_of c.args.self.now) c.args.seen.now))
    c.judge_by_board.ensures.answer

pub returns-clause-wider : goal.returns-clause-wider
returns-clause-wider c =
    of_answer (λ (wrong : Option Wrong). wrong ≡ wrong_at c.args.self.now.policy (board_of c.args.self.now) c.args.seen.now) _ c.judge_by_board.result
    (λ wrong is real_time.
    subst (IsWiderAlong (board_of c.args.self.now) c.args.seen.now) (sym (is ∙ ap (λ (policy : Policy). wrong_at policy (board_of c.args.self.now) c.args.seen.now) real_time))
    (is_wider (board_of c.args.self.now) c.args.seen.now))
    c.judge_by_board.ensures.answer

pub returns-clause-rightly : goal.returns-clause-rightly
returns-clause-rightly c =
    of_answer (λ (wrong : Option Wrong). wrong ≡ wrong_at c.args.self.now.policy (board_of c.args.self.now) c.args.seen.now) _ c.judge_by_board.result
    (λ wrong is real_time.
    subst (JudgesRightly (board_of c.args.self.now) c.args.seen.now) (sym (is ∙ ap (λ (policy : Policy). wrong_at policy (board_of c.args.self.now) c.args.seen.now) real_time))
    (judges_rightly (board_of c.args.self.now) c.args.seen.now))
    c.judge_by_board.ensures.answer
