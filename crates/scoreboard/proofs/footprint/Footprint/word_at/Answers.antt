-- It is in its page.
use Rattle.std.proofs.Common.{◌<◌, ap, arith}
use Rattle.scoreboard.specs.InsideBoards.{FootprintState, words_of}
use Rattle.scoreboard.proofs.held.FootprintBytes.{word_fits}
use Rattle.scoreboard.proofs.footprint.Footprint.word_at.Goals as goal

pub overflow_add-result : goal.overflow_add-result
overflow_add-result c =
    let below : c.args.k < words_of c.self.inside.size = rw (ap (λ (r : FootprintState). r.size) c.self.view_is) c.requires in
    omega (arith, word_fits c.self.inside.address c.self.inside.size c.args.k (omega arith) c.self.invariant.1 below)
