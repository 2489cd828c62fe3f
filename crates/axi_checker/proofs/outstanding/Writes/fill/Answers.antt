-- The write that lacks data is the one at its place, and its length has eight bits; its ID stays.
use Rattle.std.proofs.Common.{◌≡◌, ◌≤◌, ◌+◌, ℕ, List, map, get_or, set, true, arith, sym, ◌∙◌, ap}
use Rattle.std.specs.Prelude.{Some}
use Rattle.std.specs.List.{position}
use Rattle.std.proofs.lemmas.Bool.{leb-true}
use Rattle.bus_words.specs.Places.{change_first}
use Rattle.bus_words.proofs.FirstPlaces.{IsFirst, change_first-first, first-passes, position_is_first}
use Rattle.axi_checker.specs.Monitors.{OpenSide, id_of_write}
use Rattle.axi_checker.specs.OpenBursts.{OpenWrite, lacks_data}
use Rattle.axi_checker.proofs.CompleteWrites.{complete_filled, complete_set}
use Rattle.axi_checker.proofs.IdLists.{kept_set}
use Rattle.axi_checker.proofs.outstanding.Writes.fill.Goals as goal

abbrev one_more : OpenWrite → OpenWrite
one_more write = record write { came = write.came + 1 }

-- the write at a place, the oldest that lacked data, had one more of its W beats
record IsFilled (place : ℕ) (entries after : List OpenWrite) (side : OpenSide OpenWrite) (write : OpenWrite) : Type 0 where
  first : IsFirst lacks_data entries place
  becomes : after ≡ set entries place (one_more write)
  ids : map id_of_write entries ≡ map id_of_write after
  is : after ≡ change_first lacks_data one_more side.items

filled : (place : ℕ) (entries after : List OpenWrite) (side : OpenSide OpenWrite) (read write : OpenWrite) → entries ≡ side.items
    → position lacks_data side.items ≡ Some place → read ≡ get_or entries place read → write ≡ read → after ≡ set entries place (one_more write) → IsFilled place entries after side write
filled place entries after side read write view found value same becomes =
    record {
      first = first;
      becomes = becomes;
      ids =
          sym (kept_set id_of_write entries place read (one_more write) (ap id_of_write (same ∙ value))) ∙ ap (map id_of_write) (sym becomes);
      is =
          becomes ∙ ap (λ (w : OpenWrite). set entries place (one_more w)) (same ∙ value) ∙ sym (change_first-first lacks_data one_more entries place read first)
          ∙ ap (change_first lacks_data one_more) view;
    }
  where
    first : IsFirst lacks_data entries place
    first = position_is_first lacks_data entries place (ap (position lacks_data) view ∙ found)

abbrev items_of : OpenSide OpenWrite → List OpenWrite
items_of side = side.items

pub overflow_add-filled : goal.overflow_add-filled
overflow_add-filled g c =
    let entries = (g.E.Entries.side c.self.inside.entries).items in
    let write = c.get-write.result in
    let first = position_is_first lacks_data entries c.args.place (ap (λ (side : OpenSide OpenWrite). position lacks_data side.items) c.self.view_is ∙ c.requires) in
    let lacks : lacks_data write ≡ true = ap lacks_data c.get-write.ensures.value ∙ first-passes lacks_data entries c.args.place write first in
    let few : c.write.inside.came ≤ c.write.inside.aw.len = leb-true _ _ (ap lacks_data c.write.view_is ∙ lacks) in
    omega (arith, few)

pub past-self-inside-requires : goal.past-self-inside-requires
past-self-inside-requires g c = omega (arith, c.self.invariant.2, c.self.invariant.3.within, c.get-write.ensures.few)

pub invariant_of-self : goal.invariant_of-self
invariant_of-self g c =
    let inside = c.self.inside in
    let now =
    filled c.args.place (g.E.Entries.side inside.entries).items (g.E.Entries.side c.put.new.self).items c.args.self.now c.get-write.result _ (ap items_of c.self.view_is)
    c.requires c.get-write.ensures.value c.write.view_is c.put.ensures.items in (
      c.self.invariant.0 ∙ now.ids,
      omega (arith, c.self.invariant.1, c.put.ensures.room),
      omega (arith, c.self.invariant.2, c.put.ensures.room),
      rw now.becomes (complete_set (g.E.Entries.side inside.entries).items inside.complete c.args.place _ c.self.invariant.3 now.first),
    )

pub invariant_of-self-2 : goal.invariant_of-self-2
invariant_of-self-2 g c =
    let inside = c.self.inside in
    let now =
    filled c.args.place (g.E.Entries.side inside.entries).items (g.E.Entries.side c.put.new.self).items c.args.self.now c.get-write.result _ (ap items_of c.self.view_is)
    c.requires c.get-write.ensures.value c.write.view_is c.put.ensures.items in (
      c.self.invariant.0 ∙ now.ids,
      omega (arith, c.self.invariant.1, c.put.ensures.room),
      omega (arith, c.self.invariant.2, c.put.ensures.room),
      rw (now.becomes, c.past-self-inside.ensures)
          (complete_filled (g.E.Entries.side inside.entries).items inside.complete c.args.place _ c.self.invariant.3 now.first (sym c.lacks_data.ensures ∙ c.if-lacks_data.false)),
    )

pub returns-then-lacks_data-clause-items : goal.returns-then-lacks_data-clause-items
returns-then-lacks_data-clause-items g c =
    let inside = c.self.inside in
    (filled c.args.place (g.E.Entries.side inside.entries).items (g.E.Entries.side c.put.new.self).items c.args.self.now c.get-write.result _ (ap items_of c.self.view_is)
    c.requires c.get-write.ensures.value c.write.view_is c.put.ensures.items).is

pub returns-clause-items : goal.returns-clause-items
returns-clause-items g c =
    let inside = c.self.inside in
    (filled c.args.place (g.E.Entries.side inside.entries).items (g.E.Entries.side c.put.new.self).items c.args.self.now c.get-write.result _ (ap items_of c.self.view_is)
    c.requires c.get-write.ensures.value c.write.view_is c.put.ensures.items).is
