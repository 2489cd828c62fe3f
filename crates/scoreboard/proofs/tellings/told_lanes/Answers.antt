-- Behind the last word none is its own.
use Rattle.std.proofs.Common.{arith, sym, ◌∙◌}
use Rattle.scoreboard.proofs.held.FootprintBytes.{no_lane, past_own}
use Rattle.scoreboard.proofs.tellings.told_lanes.Goals as goal

pub returns-then-number-words : goal.returns-then-number-words
returns-then-number-words c lane below =
    no_lane lane below ∙ sym (grind (arith, past_own c.args.footprint.now c.args.k lane c.words.ensures.range below (omega arith)))
