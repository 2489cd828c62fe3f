-- One word more; and at the end all of them.
use Rattle.std.proofs.Common.{◌+◌, ◌*◌, ◌&&◌, ◌||◌, Bool, ap, ap₂, get_or, ◌∙◌, below_more, arith}
use Rattle.bus_words.specs.Lanes.{has_lane, word_address}
use Rattle.bus_words.proofs.MaskLaws.{has_lane-and}
use Rattle.scoreboard.specs.InsideBoards.{FootprintState, determined_in, footprint_of}
use Rattle.scoreboard.proofs.held.FootprintBytes.{kept}
use Rattle.scoreboard.proofs.footprint.Footprint.keep.Goals as goal

pub loop-k-preserved : goal.loop-k-preserved
loop-k-preserved c =
    let same = c.loop-k.invariant.0 in (
      cc (c.put.ensures.rest, ap (λ (r : FootprintState). record r { determined = c.put.new.self.determined }) same),
      below_more _ _ (λ j below lane less. ap (λ mask. has_lane mask lane) (c.put.ensures.others j (omega (arith, below))) ∙ c.loop-k.invariant.1 j below lane less)
          (λ lane less. ap (λ mask. has_lane mask lane) c.put.ensures.own
          ∙ has_lane-and c.mask.result c.determined_in.result lane
          ∙ ap₂ (λ (a b : Bool). a && b) (ap (λ mask. has_lane mask lane) (c.mask.ensures ∙ c.loop-k.invariant.2 c.loop-k.k (omega arith)))
          (c.determined_in.ensures lane less)
          ∙ ap (λ a. has_lane (get_or c.args.self.now.determined c.loop-k.k 0) lane && determined_in c.args.coming.now (a + lane))
          (c.word_at.ensures ∙ ap (λ (r : FootprintState). word_address r.address + 8 * c.loop-k.k) same)),
      (λ j above. c.put.ensures.others j (omega (arith, above)) ∙ c.loop-k.invariant.2 j (omega (arith, above))),
      c.put.ensures.room ∙ c.loop-k.invariant.3,
    )

pub returns-clause-footprint : goal.returns-clause-footprint
returns-clause-footprint c =
    let old = c.args.self.now in
    let failed = λ (b : Bool) (r : FootprintState). record r { failed = r.failed || b } in
    let new = failed c.args.coming.now.failed c.loop-k.self in
    ap footprint_of (ap (failed c.coming.inside.failed) c.self.view_is ∙ ap (λ (r : FootprintState). failed r.failed c.loop-k.self) c.coming.view_is)
    ∙ kept old new (footprint_of c.args.coming.now) c.words-k-end.ensures.range (ap (failed c.args.coming.now.failed) c.loop-k.invariant.0) (λ k lane below less. c.loop-k.invariant.1 k (omega arith) lane less)
