-- The replay of all steps is begun by the second world.
use Rattle.thread_reports.specs.Reports.{items_of}
use Rattle.thread_reports.proofs.replay.replayed.Goals as goal

pub returns-clause-replays : goal.returns-clause-replays
returns-clause-replays c = c.make_all.ensures.replays c.args.second (c.new-replay.ensures.fresh (items_of c.args.scripts.now) c.args.receipts.now)

pub returns-clause-laws : goal.returns-clause-laws
returns-clause-laws c = c.make_all.ensures.laws c.args.second (c.new-replay.ensures.fresh (items_of c.args.scripts.now) c.args.receipts.now) c.new-replay.ensures.sound
