-- The IDs are counted in the place of the reads.
use Rattle.std.proofs.Common.{◌∙◌, length, ap}
use Rattle.std.specs.Prelude.{filter}
use Rattle.axi_checker.specs.Monitors.{OpenSide, id_of_read}
use Rattle.axi_checker.specs.OpenBursts.{OpenRead, read_of_id}
use Rattle.axi_checker.proofs.IdLists.{same_count}
use Rattle.axi_checker.proofs.outstanding.Reads.of_id.Goals as goal

pub returns : goal.returns
returns g c =
    c.count.ensures ∙ same_count id_of_read (g.E.Entries.side c.self.inside.entries).items c.self.inside.ids.items c.args.id c.self.invariant.0
    ∙ ap (λ (side : OpenSide OpenRead). length (filter (read_of_id c.args.id) side.items)) c.self.view_is
