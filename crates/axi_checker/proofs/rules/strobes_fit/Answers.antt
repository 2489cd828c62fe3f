-- The strobes lose no lane to the lanes that the transfer covers.
use Rattle.std.proofs.Common.{◌∙◌, ap}
use Rattle.bus_words.specs.Lanes.{is_between}
use Rattle.bus_words.proofs.Inclusion.{bit_and-list_all}
use Rattle.axi_beats.specs.Transfers.{covers_lane, lowest_lane}
use Rattle.axi_checker.proofs.rules.strobes_fit.Goals as goal

pub returns : goal.returns
returns c =
    let aw = c.args.aw.now in
    bit_and-list_all c.args.strobes c.lanes_between.result (covers_lane c.args.bus_bytes aw.address aw.size c.args.n) c.ranges.strobes.fits
    (λ lane below.
    c.lanes_between.ensures.lanes lane below
    ∙ ap (λ lowest. is_between lowest c.lanes_of-lowest.result.1 lane) c.lanes_of-lowest.ensures.lowest
    ∙ ap (λ highest. is_between (lowest_lane c.args.bus_bytes aw.address aw.size c.args.n) highest lane) c.lanes_of-lowest.ensures.highest)
