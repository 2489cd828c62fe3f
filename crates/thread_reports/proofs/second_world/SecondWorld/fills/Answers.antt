-- A replay that fills the history is a full history.
use Rattle.std.proofs.Common.{◌∙◌, sym, subst}
use Rattle.world.specs.World.{opening_world}
use Rattle.thread_reports.specs.Replays.{IsReplay}
use Rattle.thread_reports.specs.Reports.{items_of}
use Rattle.thread_reports.proofs.second_world.SecondWorld.fills.Goals as goal

pub returns : goal.returns
returns c told setup opens =
    let ran = subst (λ start. IsReplay start c.args.steps.now (items_of c.args.scripts.now) c.args.receipts.now c.replayed-replay.result) opens c.replayed-replay.ensures.replays in
    record {
      full = c.if-steps-room.false;
      changes = sym ran.changes ∙ c.if-not-replay.false;
      begins = c.none_strayed.ensures told (opening_world setup) c.args.steps.now ran.clients;
    }
