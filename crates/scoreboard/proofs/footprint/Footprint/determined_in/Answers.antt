-- Those of its mask that are its own.
use Rattle.std.proofs.Common.{◌+◌, ◌-◌, ◌/◌, ◌%◌, ◌&&◌, Bool, ap, ap₂, get_or, sym, ◌∙◌}
use Rattle.bus_words.specs.Lanes.{has_lane}
use Rattle.bus_words.proofs.MaskLaws.{has_lane-and}
use Rattle.scoreboard.specs.InsideBoards.{FootprintState, footprint_of}
use Rattle.scoreboard.specs.Races.{covers}
use Rattle.scoreboard.proofs.held.FootprintBytes.{lane_of_word, no_lane, not_own}
use Rattle.scoreboard.proofs.footprint.Footprint.determined_in.Goals as goal

pub returns-then-not-has_word : goal.returns-then-not-has_word
returns-then-not-has_word c lane below =
    let r = c.args.self.now in
    let own = λ (b : Bool). b && has_lane (get_or r.determined ((c.args.word + lane) / 8 - r.address / 8) 0) ((c.args.word + lane) % 8) in
    no_lane lane below ∙ sym (ap own (not_own r.address r.size c.args.word lane c.has_word.ensures.range c.requires below (sym c.has_word.ensures.value ∙ c.if-not-has_word.true)))

pub returns : goal.returns
returns c lane below =
    let r = c.args.self.now in
    has_lane-and c.lanes_in.result c.mask.result lane
    ∙ ap₂ (λ (a b : Bool). a && b) (c.lanes_in.ensures lane below) (ap (λ mask. has_lane mask lane) c.mask.ensures)
    ∙ ap (λ (f : FootprintState). covers (footprint_of r) (c.args.word + lane) && has_lane (get_or r.determined (c.args.word / 8 - f.address / 8) 0) lane) c.self.view_is
    ∙ lane_of_word r c.args.word lane c.requires below
