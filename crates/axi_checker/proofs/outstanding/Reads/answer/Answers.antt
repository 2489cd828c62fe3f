-- The read at the place is the oldest of its ID: it is counted where R beats are to come after this one, else taken out, and what came of it
-- with it.
use Rattle.std.proofs.Common.{◌≡◌, ◌<◌, ◌≤◌, ◌+◌, ℕ, List, length, map, set, arith, sym, ◌∙◌, ap, subst}
use Rattle.std.proofs.lemmas.Grind.{common_steps}
use Rattle.std.specs.Prelude.{Some}
use Rattle.std.specs.List.{position, remove}
use Rattle.bus_words.proofs.FirstPlaces.{position_is_first}
use Rattle.bus_words.proofs.MappedPlaces.{map-remove}
use Rattle.axi_checker.specs.Monitors.{HaveCame, OpenSide, id_of_read}
use Rattle.axi_checker.specs.OpenBursts.{OpenRead, read_of_id, reads_after}
use Rattle.axi_checker.proofs.BeatsCame.{came_closed, came_counted, came_within, few_came}
use Rattle.axi_checker.proofs.IdLists.{kept_set}
use Rattle.axi_checker.proofs.ReadsAfter.{one_more, reads_after-set, reads_after-remove}
use Rattle.axi_checker.proofs.outstanding.Reads.answer.Goals as goal

-- ---- the place in the list that is kept, of the oldest read in the list that callers see
module _ (id place : ℕ) (entries : List OpenRead) (side : OpenSide OpenRead) (is : entries ≡ side.items) (found : position (read_of_id id) side.items ≡ Some place) where
  placed : position (read_of_id id) entries ≡ Some place
  placed = rw is found

  within : place < length entries
  within = (position_is_first (read_of_id id) entries place placed).within

pub overflow_add-self : goal.overflow_add-self
overflow_add-self g c =
    let inside = c.self.inside in
    omega (arith, few_came (g.E.Entries.side inside.entries).items inside.came c.self.invariant.3, c.get-read.ensures.few, c.self.invariant.2)

pub overflow_sub-self : goal.overflow_sub-self
overflow_sub-self g c =
    let inside = c.self.inside in
    let read = c.get-read.result in
    let here = within c.args.id c.args.place (g.E.Entries.side inside.entries).items c.args.self.now (ap (λ (side : OpenSide OpenRead). side.items) c.self.view_is) c.requires in
    let same : c.read.inside.came ≡ read.came = ap (λ (r : OpenRead). r.came) c.read.view_is in
    omega (arith, c.from-else-read-from.ensures, same, came_within (g.E.Entries.side inside.entries).items inside.came c.args.place read c.self.invariant.3 here c.get-read.ensures.value)

pub invariant_of-self : goal.invariant_of-self
invariant_of-self g c =
    let inside = c.self.inside in
    let read = c.get-read.result in
    let here = within c.args.id c.args.place (g.E.Entries.side inside.entries).items c.args.self.now (ap (λ (side : OpenSide OpenRead). side.items) c.self.view_is) c.requires in
    let small : read.came + 1 < 65536 = omega (arith, c.if-read-from.true, c.from.type_inv, ap (λ (r : OpenRead). r.came) c.read.view_is) in (
      c.self.invariant.0
          ∙ sym (kept_set id_of_read (g.E.Entries.side inside.entries).items c.args.place read (one_more read) (ap id_of_read c.get-read.ensures.value))
          ∙ ap (λ (r : OpenRead). map id_of_read (set (g.E.Entries.side inside.entries).items c.args.place (one_more r))) (sym c.read.view_is)
          ∙ ap (map id_of_read) (sym c.put.ensures.items),
      omega (arith, c.self.invariant.1, c.put.ensures.room),
      omega (arith, c.self.invariant.2, c.put.ensures.room),
      rw c.put.ensures.items (subst (λ (r : OpenRead). HaveCame (set (g.E.Entries.side inside.entries).items c.args.place (one_more r)) (inside.came + 1)) (sym c.read.view_is)
          (came_counted (g.E.Entries.side inside.entries).items inside.came c.args.place read c.self.invariant.3 here c.get-read.ensures.value small)),
    )

pub invariant_of-self-else-read-from : goal.invariant_of-self-else-read-from
invariant_of-self-else-read-from g c =
    let inside = c.self.inside in
    let read = c.get-read.result in
    let here = within c.args.id c.args.place (g.E.Entries.side inside.entries).items c.args.self.now (ap (λ (side : OpenSide OpenRead). side.items) c.self.view_is) c.requires in
    let same : c.from-else-read-from.result ≡ read.came = c.from-else-read-from.ensures ∙ ap (λ (r : OpenRead). r.came) c.read.view_is in (
      c.remove-else-read-from.ensures.items ∙ ap (λ (l : List ℕ). remove l c.args.place) c.self.invariant.0
          ∙ sym (map-remove id_of_read (g.E.Entries.side inside.entries).items c.args.place) ∙ ap (map id_of_read) (sym c.remove.ensures.items),
      omega (arith, c.self.invariant.1, c.remove.ensures.room, c.remove-else-read-from.ensures.room),
      omega (arith, c.self.invariant.2, c.remove.ensures.room),
      rw (same, c.remove.ensures.items) (came_closed (g.E.Entries.side inside.entries).items inside.came c.args.place read c.self.invariant.3 here c.get-read.ensures.value),
    )

pub returns-then-read-from-clause-items : goal.returns-then-read-from-clause-items
returns-then-read-from-clause-items g c =
    let reads = (g.E.Entries.side c.self.inside.entries).items in
    let read = c.get-read.result in
    let is = ap (λ (side : OpenSide OpenRead). side.items) c.self.view_is in
    let few : read.came < read.ar.len = subst (λ (r : OpenRead). r.came < r.ar.len) c.read.view_is (rw c.from.ensures at c.if-read-from.true) in
    c.put.ensures.items
    ∙ ap (λ (r : OpenRead). set reads c.args.place (one_more r)) c.read.view_is
    ∙ reads_after-set c.args.id c.args.place reads read (placed c.args.id c.args.place reads c.args.self.now is c.requires) c.get-read.ensures.value few
    ∙ ap (reads_after c.args.id) is

pub returns-else-read-from-clause-items : goal.returns-else-read-from-clause-items
returns-else-read-from-clause-items g c =
    let reads = (g.E.Entries.side c.self.inside.entries).items in
    let read = c.get-read.result in
    let is = ap (λ (side : OpenSide OpenRead). side.items) c.self.view_is in
    let all : read.ar.len ≤ read.came = subst (λ (r : OpenRead). r.ar.len ≤ r.came) c.read.view_is (rw c.from.ensures at c.if-read-from.false) in
    c.remove.ensures.items
    ∙ reads_after-remove c.args.id c.args.place reads read (placed c.args.id c.args.place reads c.args.self.now is c.requires) c.get-read.ensures.value all
    ∙ ap (reads_after c.args.id) is

pub remove-requires-else-read-from : goal.remove-requires-else-read-from
remove-requires-else-read-from g c = grind (arith, common_steps)
