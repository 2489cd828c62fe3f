-- All are, or those that aren't in doubt.
use Rattle.std.proofs.Common.{◌≡◌, ◌+◌, false, not, ap, arith, refl, sym, ◌∙◌}
use Rattle.bus_words.specs.Lanes.{has_lane, word_address}
use Rattle.sparse_memory.proofs.StateLaws.{lane-flags_in}
use Rattle.serial_memory.specs.SerialMemory.{doubts_of}
use Rattle.scoreboard.specs.InsideBoards.{FootprintState}
use Rattle.scoreboard.proofs.held.FootprintBytes.{every_lane, has_lane-not, word_again}
use Rattle.scoreboard.proofs.footprint.Footprint.known.Goals as goal

pub returns-then-not-self : goal.returns-then-not-self
returns-then-not-self c lane below =
    let reads : c.args.self.now.reads ≡ false = sym (ap (λ (r : FootprintState). r.reads) c.self.view_is) ∙ c.if-not-self.true in
    every_lane lane below ∙ rw reads refl

pub returns : goal.returns
returns c lane below =
    let doubts = doubts_of c.args.marks.now in
    let reads = sym (ap (λ (r : FootprintState). r.reads) c.self.view_is) ∙ c.if-not-self.false in
    has_lane-not c.doubts.result lane (omega arith) below
    ∙ ap (λ mask. not (has_lane mask lane)) c.doubts.ensures
    ∙ ap not (lane-flags_in doubts c.word_at.result lane below)
    ∙ ap (λ a. not (doubts (word_address a + lane))) c.word_at.ensures
    ∙ ap (λ a. not (doubts (a + lane))) (word_again c.args.self.now.address c.args.k)
    ∙ rw reads refl
