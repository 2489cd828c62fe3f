-- One word more; and at the end all of them.
use Rattle.std.proofs.Common.{◌+◌, ◌*◌, ◌&&◌, not, ap, ◌∙◌, below_more, arith}
use Rattle.bus_words.specs.Lanes.{has_lane, word_address}
use Rattle.serial_memory.specs.SerialMemory.{doubts_of}
use Rattle.scoreboard.specs.InsideBoards.{FootprintState}
use Rattle.scoreboard.proofs.held.FootprintBytes.{determined_anew}
use Rattle.scoreboard.proofs.footprint.Footprint.determine.Goals as goal

pub loop-k-preserved : goal.loop-k-preserved
loop-k-preserved c = (
  cc (c.put.ensures.rest, ap (λ (r : FootprintState). record r { determined = c.put.new.self.determined }) c.loop-k.invariant.0),
  below_more _ _ (λ j below lane less. ap (λ mask. has_lane mask lane) (c.put.ensures.others j (omega (arith, below))) ∙ c.loop-k.invariant.1 j below lane less)
      (λ lane less. ap (λ mask. has_lane mask lane) c.put.ensures.own ∙ c.known-known.ensures lane less
      ∙ ap (λ (r : FootprintState). not (r.reads && doubts_of c.args.marks.now (word_address r.address + 8 * c.loop-k.k + lane))) c.loop-k.invariant.0),
  c.put.ensures.room ∙ c.loop-k.invariant.2,
)

pub returns-clause-footprint : goal.returns-clause-footprint
returns-clause-footprint c =
    determined_anew c.args.self.now c.loop-k.self (λ x. not (c.args.self.now.reads && doubts_of c.args.marks.now x)) c.words-k-end.ensures.range c.loop-k.invariant.0 (λ k lane below less. c.loop-k.invariant.1 k (omega arith) lane less)
