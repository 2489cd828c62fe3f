use Rattle.std.proofs.Common.{◌≡◌, Bool, true, false, not, is_none, refl, set, length-set, map, sym, ◌∙◌, ap}
use Rattle.std.proofs.lemmas.List.{map-set}
use Rattle.flight_table.proofs.ids.Ids.put.Goals as goal

turned : (some none : Bool) → some ≡ not none → none ≡ not some
turned some true is = rw is refl
turned some false is = rw is refl

pub invariant_of-self : goal.invariant_of-self
invariant_of-self c =
    let held = c.self.inside.holders.items in (
      rw (c.put.ensures, c.self.invariant.0, c.from.ensures, c.from-2.ensures) (ap (set (map is_none held) c.args.id) (turned _ c.is_none.result c.is_none.ensures) ∙ sym (map-set is_none held c.args.id c.args.holder)),
      rw (length-set held c.from-2.result c.args.holder) c.self.invariant.1,
    )
