-- One client more.
use Rattle.std.proofs.Common.{◌≡◌, ◌++◌, [], ◌∷◌, List, ap, ap₂, arith, map, sym, ◌∙◌}
use Rattle.std.proofs.lemmas.List.{map-append}
use Rattle.std.proofs.lemmas.List.FromFn.{map-range_with_len_more}
use Rattle.bus_words.proofs.PlaceChanges.{all-append}
use Rattle.score_setup.specs.ScoreSetups.{limits_of}
use Rattle.scoreboard.specs.Boards.{ClientBoard, opening_client}
use Rattle.scoreboard.specs.InsideBoards.{ClientState, client_of}
use Rattle.scoreboard.proofs.all_clients.opening_clients.Goals as goal

pub loop-client-preserved : goal.loop-client-preserved
loop-client-preserved c =
    let made = c.in_ok-new.ensures in
    let more = map-range_with_len_more (opening_client (limits_of c.args.config.now)) 0 c.loop-client.client c.loop-client.client (omega arith) in (
      ap (map client_of) c.in_ok-push.ensures.items ∙ map-append client_of c.loop-client.clients.items (c.in_ok-new.field-0 ∷ [])
          ∙ ap₂ (λ (made : List ClientBoard) (one : ClientBoard). made ++ one ∷ []) c.loop-client.invariant.0 made.0
          ∙ sym more,
      rw c.in_ok-push.ensures.items (all-append (λ (client : ClientState). client.flights.room ≡ c.args.room) c.loop-client.clients.items c.in_ok-new.field-0 c.loop-client.invariant.1 made.1),
    )
