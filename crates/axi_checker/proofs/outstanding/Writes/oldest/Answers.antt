-- The ID is looked for in the place of the write.
use Rattle.std.proofs.Common.{◌≡◌, ◌∙◌, ap}
use Rattle.std.specs.Prelude.{find}
use Rattle.std.specs.List.{position}
use Rattle.axi_checker.specs.Monitors.{OpenSide, id_of_write}
use Rattle.axi_checker.specs.OpenBursts.{OpenWrite, write_of_id}
use Rattle.axi_checker.proofs.IdLists.{found_within, same_place}
use Rattle.axi_checker.proofs.outstanding.Writes.oldest.Goals as goal
use Rattle.axi_checker.proofs.outstanding.Writes.oldest.Given.{Over}

pub entry_at-requires : goal.entry_at-requires
entry_at-requires g c =
    let placed = c.first.ensures ∙ same_place id_of_write (g.E.Entries.side c.self.inside.entries).items c.self.inside.ids.items c.args.id c.self.invariant.0 in
    found_within (write_of_id c.args.id) (g.E.Entries.side c.self.inside.entries).items c.first.result placed

placed : (g : Over) (c : goal.After-entry_at g) → c.first.result ≡ position (write_of_id c.args.id) (g.E.Entries.side c.self.inside.entries).items
placed g c = c.first.ensures ∙ same_place id_of_write (g.E.Entries.side c.self.inside.entries).items c.self.inside.ids.items c.args.id c.self.invariant.0

pub returns-clause-place : goal.returns-clause-place
returns-clause-place g c = c.entry_at.ensures.place ∙ placed g c ∙ ap (λ (side : OpenSide OpenWrite). position (write_of_id c.args.id) side.items) c.self.view_is

pub returns-clause-write : goal.returns-clause-write
returns-clause-write g c =
    c.entry_at.ensures.entry (write_of_id c.args.id) (placed g c)
    ∙ ap (λ (side : OpenSide OpenWrite). find (write_of_id c.args.id) side.items) c.self.view_is
