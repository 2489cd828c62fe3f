-- A message whose size is at most 12 has at most 512 beats, so there is room for each.
use Rattle.std.proofs.Common.{true, arith, rules}
use Rattle.tl_messages.proofs.BeatCounts.{beats_of-le}
use Rattle.tl_messages.proofs.request.Request.add.Goals as goal

pub push_reserved-requires : goal.push_reserved-requires
push_reserved-requires c = let few = beats_of-le c.self.inside.head.size true c.self.invariant.2 in grind arith

pub invariant_of-self : goal.invariant_of-self
invariant_of-self c = let few = beats_of-le c.self.inside.head.size true c.self.invariant.2 in (grind arith, grind arith, c.self.invariant.2)

pub returns : goal.returns
returns c = search rules
