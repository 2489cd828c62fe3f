-- One word more; and at the end none of them.
use Rattle.std.proofs.Common.{ap, ◌∙◌, below_more, arith, true}
use Rattle.scoreboard.specs.InsideBoards.{FootprintState, footprint_of}
use Rattle.scoreboard.proofs.held.FootprintBytes.{none_determined}
use Rattle.scoreboard.proofs.footprint.Footprint.fail.Goals as goal

pub loop-k-preserved : goal.loop-k-preserved
loop-k-preserved c = (
  cc (c.put.ensures.rest, ap (λ (r : FootprintState). record r { determined = c.put.new.self.determined }) c.loop-k.invariant.0),
  below_more _ _ (λ j below. c.put.ensures.others j (omega (arith, below)) ∙ c.loop-k.invariant.1 j below) c.put.ensures.own,
  c.put.ensures.room ∙ c.loop-k.invariant.2,
)

pub returns-clause-footprint : goal.returns-clause-footprint
returns-clause-footprint c =
    ap (λ (r : FootprintState). footprint_of (record r { failed = true })) c.self-2.view_is
    ∙ none_determined c.args.self.now (record c.loop-k.self { failed = true }) c.words-k-end.ensures.range (ap (λ (r : FootprintState). record r { failed = true }) c.loop-k.invariant.0) (λ k below. c.loop-k.invariant.1 k (omega arith))
