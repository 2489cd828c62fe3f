-- With its first beat it begins.
use Rattle.std.proofs.Common.{◌≡◌, Bool, ap, ap₂, false, rules, sym, ◌∙◌}
use Rattle.tl_messages.specs.Requests.{HeldMessage, request_of}
use Rattle.scoreboard.specs.Boards.{begun_on, continued_on, early_due, joining_on}
use Rattle.scoreboard.specs.InsideBoards.{board_of}
use Rattle.scoreboard.specs.declared.Policy.{Policy}
use Rattle.scoreboard.specs.declared.Policy.TheVariants.{RealTime}
use Rattle.scoreboard.proofs.board.Scoreboard.go_on.Goals as goal

pub returns-in-RealTime-2-clause-state : goal.returns-in-RealTime-2-clause-state
returns-in-RealTime-2-clause-state c found message is same begun =
    let board = board_of c.args.self.now in
    let policy : c.args.self.now.policy ≡ RealTime = search rules in
    let first : c.args.begun ≡ false = c.if-begun.false in
    c.begin.ensures.state found is
    ∙ ap (λ (m : HeldMessage). begun_on board c.args.client (record found { early = early_due c.args.self.now.errors (request_of m) }) (joining_on board (request_of m))) (sym (same first))
    ∙ ap₂ (λ (p : Policy) (b : Bool). continued_on p board c.args.client found message b) (sym policy) (sym first)

pub begin-requires-clause-room : goal.begin-requires-clause-room
begin-requires-clause-room c = c.requires.room (search rules)
