-- Those of the range, where the word is one of its own.
use Rattle.std.proofs.Common.{ap, sym, ◌∙◌}
use Rattle.tl_messages.specs.Lanes.{in_lanes}
use Rattle.scoreboard.specs.InsideBoards.{FootprintState}
use Rattle.scoreboard.proofs.held.FootprintBytes.{no_lane, not_own, own_lane}
use Rattle.scoreboard.proofs.footprint.Footprint.lanes_in.Goals as goal

pub returns-then-not-has_word : goal.returns-then-not-has_word
returns-then-not-has_word c lane below =
    let r = c.args.self.now in
    no_lane lane below ∙ sym (not_own r.address r.size c.args.word lane c.has_word.ensures.range c.requires below (sym c.has_word.ensures.value ∙ c.if-not-has_word.true))

pub returns : goal.returns
returns c lane below =
    let r = c.args.self.now in
    c.full_mask.ensures.lanes lane below
    ∙ ap (λ (f : FootprintState). in_lanes f.address f.size lane) c.self.view_is
    ∙ own_lane r.address r.size c.args.word lane c.has_word.ensures.range c.requires below (sym c.has_word.ensures.value ∙ c.if-not-has_word.false)
