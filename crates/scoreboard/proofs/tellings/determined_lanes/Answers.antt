-- Those of its word; a request that doesn't read has none, nor has its reply past its last word.
use Rattle.std.proofs.Common.{◌+◌, ◌*◌, ◌∙◌, ◌&&◌, Bool, ap, arith, sym}
use Rattle.bus_words.specs.Lanes.{word_address}
use Rattle.scoreboard.specs.InsideBoards.{determined_in}
use Rattle.scoreboard.proofs.held.FootprintBytes.{no_lane, past_words}
use Rattle.scoreboard.proofs.held.ToldLanes.{and_false}
use Rattle.scoreboard.proofs.tellings.determined_lanes.Goals.{then-not-reads-via-then-not-reads, then-not-reads-via-else-not-reads+then-number-words}
use Rattle.scoreboard.proofs.tellings.determined_lanes.Goals as goal

pub returns-then-not-reads : goal.returns-then-not-reads
returns-then-not-reads c lane below =
    let r = c.args.footprint.now in
    let sure = determined_in r (word_address r.address + 8 * c.args.k + lane) in
    elim c.then-not-reads.branch [
      | then-not-reads-via-then-not-reads w ↦ no_lane lane below ∙ sym (ap (λ (b : Bool). b && sure) (sym c.reads.ensures ∙ w.if-not-reads.true))
      | then-not-reads-via-else-not-reads+then-number-words w ↦
          no_lane lane below
          ∙ sym (ap (λ (b : Bool). r.reads && b) (past_words r c.args.k lane w.words.ensures.range below (omega (arith, w.if-number-words.true, w.words.ensures.value))) ∙ and_false r.reads)
    ]
