-- A byte that isn't determined is one of a word's.
use Rattle.std.proofs.Common.{◌+◌, ap, sym, ◌∙◌, arith, below_more}
use Rattle.bus_words.specs.Lanes.{has_lane}
use Rattle.scoreboard.specs.InsideBoards.{FootprintState, determined_in, footprint_of}
use Rattle.scoreboard.specs.Races.{covers}
use Rattle.scoreboard.proofs.held.FootprintBytes.{all_fixed, not_fixed}
use Rattle.scoreboard.proofs.footprint.Footprint.is_fixed.Goals as goal

pub returns-then-determined_in-lanes_in : goal.returns-then-determined_in-lanes_in
returns-then-determined_in-lanes_in c =
    let reads = ap (λ (r : FootprintState). r.reads) (sym c.self.view_is) ∙ c.if-not-self.false in
    not_fixed c.args.self.now c.word_at-word.result c.determined_in.result c.lanes_in.result (omega arith) (omega arith) reads c.determined_in.ensures c.lanes_in.ensures c.if-determined_in-lanes_in.true

pub loop-k-preserved : goal.loop-k-preserved
loop-k-preserved c =
    let r = c.args.self.now in
    below_more _ _ c.loop-k.invariant (λ lane less covered.
    ap (λ a. determined_in r (a + lane)) (sym c.word_at-word.ensures)
    ∙ sym (c.determined_in.ensures lane less)
    ∙ ap (λ mask. has_lane mask lane) c.if-determined_in-lanes_in.false
    ∙ c.lanes_in.ensures lane less
    ∙ ap (λ a. covers (footprint_of r) (a + lane)) c.word_at-word.ensures
    ∙ covered)

pub returns : goal.returns
returns c = all_fixed c.args.self.now c.words-k-end.ensures.range (λ k lane below less. c.loop-k.invariant k (omega arith) lane less)
