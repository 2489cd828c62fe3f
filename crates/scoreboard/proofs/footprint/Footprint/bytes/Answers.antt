-- A request has at most 4,096 bytes.
use Rattle.std.proofs.Common.{arith}
use Rattle.scoreboard.proofs.held.FootprintBytes.{few_bytes}
use Rattle.scoreboard.proofs.footprint.Footprint.bytes.Goals as goal

pub returns-clause-most : goal.returns-clause-most
returns-clause-most c = omega (arith, few_bytes c.self.inside.size c.self.invariant.1.small)
