use Rattle.std.proofs.Common.{◌≡◌, ◌≤◌, ◌^◌, ap, arith, sym, ◌∙◌}
use Rattle.std.specs.List.{position}
use Rattle.std.proofs.lemmas.Bool.{eqb-true}
use Rattle.std.proofs.lemmas.Nat.{pow_pos}
use Rattle.bus_words.proofs.FirstPlaces.{IsFirst, first-passes, position_is_first}
use Rattle.flight_table.specs.Rows.{bits_of, has_page}
use Rattle.flight_table.proofs.MarkLaws.{unit_is}
use Rattle.flight_table.proofs.RowLaws.{bits_here, bits_less, row_there, same_pages}
use Rattle.flight_table.proofs.rows.Rows.remove.Goals as goal

pub place_of-requires : goal.place_of-requires
place_of-requires c = rw c.deref.ensures.value c.self.invariant.0

pub unwrap-k-requires : goal.unwrap-k-requires
unwrap-k-requires c =
    let page = c.in-Some.page in
    let there : 2 ^ c.args.slot ≤ bits_of page c.args.self.now = rw c.in-Some.is at c.requires.there in
    rw (c.place_of.ensures, c.deref.ensures.value, c.self.view_is) (row_there page c.args.self.now (omega (arith, there, pow_pos c.args.slot)))

-- the row is that of the page
first : (c : goal.After-index_mut) → IsFirst (has_page c.in-Some.page) c.self.inside.rows.items c.unwrap-k.result
first c = position_is_first (has_page c.in-Some.page) c.self.inside.rows.items c.unwrap-k.result (ap (position (has_page c.in-Some.page)) (sym c.deref.ensures.value) ∙ sym c.place_of.ensures ∙ c.unwrap-k.ensures)

own : (c : goal.After-index_mut) → c.index_mut.result.now.page ≡ c.in-Some.page
own c = rw c.index_mut.ensures.value (eqb-true _ c.in-Some.page (first-passes (has_page c.in-Some.page) c.self.inside.rows.items c.unwrap-k.result c.index_mut.result.now (first c)))

enough : (c : goal.After-index_mut) → 2 ^ c.args.slot ≤ c.index_mut.result.now.slots
enough c =
    let page = c.in-Some.page in
    let there : 2 ^ c.args.slot ≤ bits_of page c.args.self.now = rw c.in-Some.is at c.requires.there in
    omega (arith, there, ap (bits_of page) c.self.view_is, bits_here c.self.inside.rows.items c.unwrap-k.result page c.index_mut.result.now c.self.invariant.0 (first c).within c.index_mut.ensures.value (own c))

pub overflow_sub-index_mut : goal.overflow_sub-index_mut
overflow_sub-index_mut c = rw (unit_is c.args.slot c.requires.slot) (enough c)

pub invariant_of-self : goal.invariant_of-self
invariant_of-self c = (rw (same_pages c.self.inside.rows.items c.unwrap-k.result _ c.index_mut.result.now c.index_mut.ensures.value) c.self.invariant.0, c.self.invariant.1)

pub returns : goal.returns
returns c =
    let page = c.in-Some.page in
    let rows = c.self.inside.rows.items in
    λ other. rw (c.in-Some.is, unit_is c.args.slot c.requires.slot)
    (bits_less rows c.unwrap-k.result page (2 ^ c.args.slot) other c.index_mut.result.now c.self.invariant.0 (first c.before.before).within c.index_mut.ensures.value (own c.before.before) (enough c.before.before)
    ∙ ap (bits_of other) c.self.view_is)
