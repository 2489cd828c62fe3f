use Rattle.std.proofs.Common.{◌≡◌, ◌≤◌, List, None, Option, ap, arith, sym, ◌∙◌, ℕ}
use Rattle.std.specs.List.{position}
use Rattle.std.specs.Vec.{vec_capacity}
use Rattle.std.proofs.lemmas.Bool.{eqb-true}
use Rattle.std.proofs.lemmas.List.{map-set, map_push}
use Rattle.bus_words.proofs.FirstPlaces.{first-passes, position_is_first}
use Rattle.flight_table.specs.Rows.{bits_of, has_page, is_vacant}
use Rattle.flight_table.specs.declared.rows.Row.{Row}
use Rattle.bus_words.proofs.DistinctPlaces.{distinct-append}
use Rattle.flight_table.proofs.RowLaws.{AreOthers, bits_claimed, bits_pushed, distinct_set, none_has, pages_of}
use Rattle.flight_table.proofs.rows.Rows.claim.Goals as goal

-- the page has no row yet
others : (page : ℕ) (items rows : List Row) (found : Option ℕ) → items ≡ rows → found ≡ position (has_page page) items → found ≡ None → AreOthers page (pages_of rows)
others page items rows found same is none = none_has page rows (ap (position (has_page page)) (sym same) ∙ sym is ∙ none)

pub place_of-requires : goal.place_of-requires
place_of-requires c = rw c.deref.ensures.value c.self.invariant.0

pub invariant_of-self : goal.invariant_of-self
invariant_of-self c =
    let rows = c.self.inside.rows.items in
    let k = c.in-Some-first_vacant.k in
    let new : Row = record { page = c.args.page; slots = 0 } in (
      rw (map-set (λ (row : Row). row.page) rows k new)
          (distinct_set (pages_of rows) k c.args.page c.self.invariant.0 (others c.args.page c.deref.result.now rows c.place_of.result c.deref.ensures.value c.place_of.ensures c.in_default.is)),
      c.self.invariant.1,
    )

pub returns-in-Some-first_vacant-clause-same : goal.returns-in-Some-first_vacant-clause-same
returns-in-Some-first_vacant-clause-same c =
    let rows = c.self.inside.rows.items in
    let k = c.in-Some-first_vacant.k in
    let row = c.index_mut.result.now in
    let first = position_is_first is_vacant rows k (ap (position is_vacant) (sym c.deref-2.ensures.value) ∙ sym c.first_vacant.ensures ∙ c.in-Some-first_vacant.is) in
    let new = others c.args.page c.deref.result.now rows c.place_of.result c.deref.ensures.value c.place_of.ensures c.in_default.is in
    λ other. bits_claimed rows k c.args.page other row c.self.invariant.0 new first.within (first-passes is_vacant rows k row first) ∙ ap (bits_of other) c.self.view_is

pub push_reserved-requires : goal.push_reserved-requires
push_reserved-requires c = grind (arith, c.deref-2.ensures.value, c.first_vacant.ensures, c.requires.room, c.self.invariant.1, c.self.inside.rows.ok)

pub invariant_of-self-2 : goal.invariant_of-self-2
invariant_of-self-2 c =
    let rows = c.self.inside.rows.items in
    let new : Row = record { page = c.args.page; slots = 0 } in
    let room : 64 ≤ vec_capacity c.push_reserved.new.self = omega (arith, c.self.invariant.1, c.push_reserved.ensures.capacity) in (
      rw (c.push_reserved.ensures.items, map_push (λ (row : Row). row.page) rows new)
          (distinct-append c.args.page (pages_of rows) c.self.invariant.0 (others c.args.page c.deref.result.now rows c.place_of.result c.deref.ensures.value c.place_of.ensures c.in_default.is)),
      room,
    )

pub returns-clause-same : goal.returns-clause-same
returns-clause-same c = λ other. rw c.push_reserved.ensures.items (bits_pushed c.self.inside.rows.items c.args.page other ∙ ap (bits_of other) c.self.view_is)

pub returns-in-Some-clause-page : goal.returns-in-Some-clause-page
returns-in-Some-clause-page c =
    let rows = c.args.self.now in
    let k = c.in-Some.k in
    let first = position_is_first (has_page c.args.page) rows k (ap (position (has_page c.args.page)) (sym c.self.view_is ∙ sym c.deref.ensures.value) ∙ sym c.place_of.ensures ∙ c.in-Some.is) in
    λ row. eqb-true _ c.args.page (first-passes (has_page c.args.page) rows k row first)
