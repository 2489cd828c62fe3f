-- One client more.
use Rattle.std.proofs.Common.{◌<◌, ◌∙◌, List, ap, length, map, sym}
use Rattle.scoreboard.proofs.held.Changed.{all_changed, changed_next}
use Rattle.value_board.proofs.NumberLists.{map-same}
use Rattle.value_board.specs.ClientValues.{ClientNumbers, reset_numbers}
use Rattle.value_board.proofs.all_values.reset_each.Goals as goal

pub loop-client-preserved : goal.loop-client-preserved
loop-client-preserved c =
    let now = c.loop-client.clients in
    let i = c.loop-client.client-index in
    let below : i < length now = rw c.loop-client.auto.clients c.loop-client-test.true in
    changed_next (λ (numbers : ClientNumbers). numbers) reset_numbers c.args.clients.now now i c.client-item.result c.reset.new.self c.loop-client.auto.clients below c.reset.ensures
    c.loop-client.invariant

pub returns : goal.returns
returns c =
    sym (map-same c.loop-client.clients)
    ∙ c.loop-client.invariant
    ∙ all_changed (λ (numbers : ClientNumbers). numbers) reset_numbers c.args.clients.now c.loop-client.client-index c.loop-client-test.false
    ∙ ap (λ (numbers : List ClientNumbers). map reset_numbers numbers) (map-same c.args.clients.now)
