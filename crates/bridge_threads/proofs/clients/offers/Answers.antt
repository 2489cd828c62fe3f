use Rattle.std.proofs.lemmas.Option.{slice_get_within}
use Rattle.bridge_threads.proofs.clients.offers.Goals as goal

pub after_offer-requires : goal.after_offer-requires
after_offer-requires c = slice_get_within c.args.script.now c.args.work.now.offered c.args.beat c.requires
