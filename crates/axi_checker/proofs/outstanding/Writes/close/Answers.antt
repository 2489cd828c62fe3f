-- The place is taken out of both.
use Rattle.std.proofs.Common.{◌≡◌, ◌∙◌, List, map, ℕ, sym, ap, arith}
use Rattle.std.specs.Prelude.{Some}
use Rattle.std.specs.List.{position, remove}
use Rattle.bus_words.proofs.FirstPlaces.{IsFirst, position_is_first, without_first-first}
use Rattle.bus_words.proofs.MappedPlaces.{map-remove}
use Rattle.bus_words.specs.Places.{without_first}
use Rattle.axi_checker.specs.Monitors.{OpenSide, id_of_write}
use Rattle.axi_checker.specs.OpenBursts.{OpenWrite, write_of_id}
use Rattle.axi_checker.proofs.CompleteWrites.{complete_remove}
use Rattle.axi_checker.proofs.outstanding.Writes.close.Goals as goal

at : (id place : ℕ) (entries : List OpenWrite) (side : OpenSide OpenWrite) → entries ≡ side.items → position (write_of_id id) side.items ≡ Some place → IsFirst (write_of_id id) entries place
at id place entries side is found = position_is_first (write_of_id id) entries place (rw is found)

pub remove-requires : goal.remove-requires
remove-requires g c =
    let first = at c.args.id c.args.place (g.E.Entries.side c.self.inside.entries).items c.args.self.now (ap (λ (side : OpenSide OpenWrite). side.items) c.self.view_is) c.requires in
    first.within

pub invariant_of-self : goal.invariant_of-self
invariant_of-self g c =
    let first = at c.args.id c.args.place (g.E.Entries.side c.self.inside.entries).items c.args.self.now (ap (λ (side : OpenSide OpenWrite). side.items) c.self.view_is) c.requires in (
      c.remove-2.ensures.items ∙ ap (λ (l : List ℕ). remove l c.args.place) c.self.invariant.0 ∙ sym (map-remove id_of_write (g.E.Entries.side c.self.inside.entries).items c.args.place) ∙ ap (map id_of_write) (sym c.remove.ensures.items),
      omega (arith, c.self.invariant.1, c.remove.ensures.room, c.remove-2.ensures.room),
      omega (arith, c.self.invariant.2, c.remove.ensures.room),
      rw (c.remove.ensures.items, c.moved-self-inside.ensures) (complete_remove (g.E.Entries.side c.self.inside.entries).items c.self.inside.complete c.args.place c.self.invariant.3 first.within),
    )

pub returns-clause-items : goal.returns-clause-items
returns-clause-items g c =
    let first = at c.args.id c.args.place (g.E.Entries.side c.self.inside.entries).items c.args.self.now (ap (λ (side : OpenSide OpenWrite). side.items) c.self.view_is) c.requires in
    c.remove.ensures.items ∙ sym (without_first-first (write_of_id c.args.id) (g.E.Entries.side c.self.inside.entries).items c.args.place first) ∙ ap (λ (side : OpenSide OpenWrite). without_first (write_of_id c.args.id) side.items) c.self.view_is
