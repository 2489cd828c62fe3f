-- The answer is counted, and the request settled.
use Rattle.std.proofs.Common.{◌∙◌, ap}
use Rattle.flight_table.specs.LiveRequests.{with_answered}
use Rattle.flight_table.specs.Tables.{KeyedTable, change_key}
use Rattle.bridge_core.specs.Inside.{settled_flight}
use Rattle.bridge_core.proofs.KeyChanges.{change_twice, undone_answered}
use Rattle.bridge_core.proofs.request_table.answer.Goals as goal

pub settle-requires-clause-live : goal.settle-requires-clause-live
settle-requires-clause-live c = undone_answered c.args.key c.args.found c.args.flight.now c.answered.new.self c.answered.ensures.state c.requires.live

pub returns : goal.returns
returns c =
    record {
      state = c.settle.ensures.state ∙ ap (λ (t : KeyedTable). change_key c.args.key (settled_flight c.args.found) t) c.answered.ensures.state
          ∙ change_twice c.args.key with_answered (settled_flight c.args.found) c.args.flight.now;
      laws = c.settle.ensures.laws;
    }
