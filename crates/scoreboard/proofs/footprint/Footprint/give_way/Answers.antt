-- One word more; and at the end all of them.
use Rattle.std.proofs.Common.{◌+◌, ◌*◌, ◌-◌, ◌&&◌, not, Bool, ap, ap₂, get_or, ◌∙◌, below_more, arith, rules}
use Rattle.bus_words.specs.Lanes.{has_lane, word_address}
use Rattle.bus_words.proofs.MaskLaws.{has_lane-and}
use Rattle.scoreboard.specs.InsideBoards.{FootprintState, footprint_of}
use Rattle.scoreboard.specs.Races.{covers}
use Rattle.scoreboard.proofs.held.FootprintBytes.{given_way, has_lane-not}
use Rattle.scoreboard.proofs.footprint.Footprint.give_way.Goals as goal

pub loop-k-preserved : goal.loop-k-preserved
loop-k-preserved c =
    let same = c.loop-k.invariant.0 in
    let others = footprint_of c.args.other.now in (
      cc (c.put.ensures.rest, ap (λ (r : FootprintState). record r { determined = c.put.new.self.determined }) same),
      below_more _ _ (λ j below lane less. ap (λ mask. has_lane mask lane) (c.put.ensures.others j (omega (arith, below))) ∙ c.loop-k.invariant.1 j below lane less)
          (λ lane less. ap (λ mask. has_lane mask lane) c.put.ensures.own
          ∙ has_lane-and c.mask.result (255 - c.lanes_in.result) lane
          ∙ ap₂ (λ (a b : Bool). a && b) (ap (λ mask. has_lane mask lane) (c.mask.ensures ∙ c.loop-k.invariant.2 c.loop-k.k (omega arith)))
          (has_lane-not c.lanes_in.result lane (omega arith) less ∙ ap not (c.lanes_in.ensures lane less))
          ∙ ap (λ a. has_lane (get_or c.args.self.now.determined c.loop-k.k 0) lane && not (covers others (a + lane)))
          (c.word_at.ensures ∙ ap (λ (r : FootprintState). word_address r.address + 8 * c.loop-k.k) same)),
      (λ j above. c.put.ensures.others j (omega (arith, above)) ∙ c.loop-k.invariant.2 j (omega (arith, above))),
      c.put.ensures.room ∙ c.loop-k.invariant.3,
    )

pub returns-clause-footprint : goal.returns-clause-footprint
returns-clause-footprint c =
    given_way c.args.self.now c.loop-k.self (footprint_of c.args.other.now) c.words-k-end.ensures.range (search (rules)) c.loop-k.invariant.0 (λ k lane below less. c.loop-k.invariant.1 k (omega arith) lane less)

pub returns-then-not-other-clause-footprint : goal.returns-then-not-other-clause-footprint
returns-then-not-other-clause-footprint c = search rules
