-- A read's word is one of the reply's.
use Rattle.std.proofs.Common.{◌<◌, arith, subst, sym}
use Rattle.std.proofs.lemmas.Grind.{common_steps}
use Rattle.responses.specs.Gathered.{GatherState, reads_of}
use Rattle.responses.proofs.ReadLaws.{word_of_read-lt}
use Rattle.responses.proofs.gather.Gather.on_r.Goals as goal

pub index-requires : goal.index-requires
index-requires c =
    let place = subst (λ (s : GatherState). c.args.place < reads_of s.bus_bytes s.outline) (sym c.self.view_is) c.requires in
    let below = word_of_read-lt c.self.inside.bus_bytes c.args.place c.self.inside.outline c.self.invariant.3 place in
    omega (arith, c.word_of_read.ensures, c.self.invariant.1, below)

pub index_mut-requires : goal.index_mut-requires
index_mut-requires c =
    let place = subst (λ (s : GatherState). c.args.place < reads_of s.bus_bytes s.outline) (sym c.self.view_is) c.requires in
    let below = word_of_read-lt c.self.inside.bus_bytes c.args.place c.self.inside.outline c.self.invariant.3 place in
    omega (arith, c.word_of_read.ensures, c.self.invariant.1, below)

pub returns : goal.returns
returns c = grind (arith, common_steps)
