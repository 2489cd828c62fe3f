-- By what the beat tells, and whether anything is wrong with it.
use Rattle.std.proofs.Common.{ap, sym, ◌∙◌, rules}
use Rattle.std.specs.Prelude.{Some}
use Rattle.scoreboard.specs.AxiPorts.{PortBoard}
use Rattle.scoreboard.specs.Boards.{Board, after_axi, hit_on}
use Rattle.scoreboard.specs.InsideBoards.{BoardState, board_of, span_told}
use Rattle.scoreboard.specs.contracts.board.Scoreboard.{the_view}
use Rattle.scoreboard.proofs.held.FailedResponses.{after_right, after_silent, after_wrong}
use Rattle.scoreboard.proofs.board.Scoreboard.judge_axi.Goals as goal

pub returns-then-is_some-clause-state : goal.returns-then-is_some-clause-state
returns-then-is_some-clause-state c =
    let old = the_view c.self.inside in
    let beat = c.args.beat.now in
    let tells = c.span_told-told.ensures ∙ sym (ap (λ (b : BoardState). span_told b.policy b.errors b.axi.open_bursts beat) c.self.view_is) in
    ap {B = Board} (λ (axi : PortBoard). record (board_of old) { axi = axi }) c.judge-wrong.ensures.state
    ∙ after_wrong old.policy (board_of old) beat c.judge-wrong.result c.span_told-told.result c.judge-wrong.ensures.wrong tells (sym c.is_some.ensures ∙ c.if-is_some.true)
    ∙ ap (λ (b : BoardState). after_axi b.policy (board_of b) beat) c.self.view_is

pub returns-in_default-clause-state : goal.returns-in_default-clause-state
returns-in_default-clause-state c =
    let old = the_view c.self.inside in
    let beat = c.args.beat.now in
    let tells = c.span_told-told.ensures ∙ sym (ap (λ (b : BoardState). span_told b.policy b.errors b.axi.open_bursts beat) c.self.view_is) in
    ap {B = Board} (λ (axi : PortBoard). record (board_of old) { axi = axi }) c.judge-wrong.ensures.state
    ∙ after_silent old.policy (board_of old) beat c.judge-wrong.result c.span_told-told.result c.judge-wrong.ensures.wrong tells c.in_default.is
    ∙ ap (λ (b : BoardState). after_axi b.policy (board_of b) beat) c.self.view_is

pub returns-clause-state : goal.returns-clause-state
returns-clause-state c =
    let old = the_view c.self.inside in
    let beat = c.args.beat.now in
    let tells = c.span_told-told.ensures ∙ sym (ap (λ (b : BoardState). span_told b.policy b.errors b.axi.open_bursts beat) c.self.view_is) in
    c.hit.ensures.state
    ∙ ap {B = Board} (λ (axi : PortBoard). hit_on (Some c.in-Some.span) (record (board_of old) { axi = axi })) c.judge-wrong.ensures.state
    ∙ after_right old.policy (board_of old) beat c.judge-wrong.result c.span_told-told.result c.judge-wrong.ensures.wrong tells c.in-Some.span (sym c.is_some.ensures ∙ c.if-is_some.false) c.in-Some.is
    ∙ ap (λ (b : BoardState). after_axi b.policy (board_of b) beat) c.self.view_is

pub returns-clause-answer : goal.returns-clause-answer
returns-clause-answer c = search rules
