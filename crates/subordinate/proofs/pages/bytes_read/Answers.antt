-- The word is moved down to the bus's lanes, and keeps the covered ones.
use Rattle.std.proofs.Common.{◌≡◌, ◌<◌, ◌%◌, ℕ, arith, ◌∙◌, ap}
use Rattle.bus_words.specs.Lanes.{has_lane, is_between}
use Rattle.axi_beats.specs.Transfers.{covers_lane, lowest_lane}
use Rattle.subordinate.proofs.BytesRead.{payload_of-read, payload_of-whole}
use Rattle.subordinate.proofs.pages.bytes_read.Goals as goal

pub returns-then-is_multiple_of : goal.returns-then-is_multiple_of
returns-then-is_multiple_of c = λ memory found.
    let aligned : c.args.address % 8 ≡ 0 = c.is_multiple_of.ensures.0 c.if-is_multiple_of.true in
    payload_of-whole c.args.bus_bytes memory c.args.ar c.args.n c.args.word c.requires.transfer (omega (arith, c.if-ar-eq3.true)) (rw c.requires.address at aligned) (omega (arith, c.ranges.word)) (rw c.requires.address at found)

pub returns : goal.returns
returns c = λ memory found.
    rw (c.merge.ensures, c.first_lane-first.ensures.value, c.requires.address)
    (payload_of-read c.args.bus_bytes memory c.args.ar c.args.n c.args.word c.lanes_between.result c.requires.transfer (rw c.requires.address at found) between)
  where
    between : (lane : ℕ) → lane < 8 → has_lane c.lanes_between.result lane ≡ covers_lane c.args.bus_bytes c.args.ar.address c.args.ar.size c.args.n lane
    between lane below =
        c.lanes_between.ensures.lanes lane below
        ∙ ap (λ (low : ℕ). is_between low c.lanes_of-lowest.result.1 lane) c.lanes_of-lowest.ensures.lowest
        ∙ ap (λ (high : ℕ). is_between (lowest_lane c.args.bus_bytes c.args.ar.address c.args.ar.size c.args.n) high lane) c.lanes_of-lowest.ensures.highest
