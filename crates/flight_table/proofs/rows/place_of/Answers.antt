-- A row that stands at the guess stands nowhere else.
use Rattle.std.proofs.Common.{◌==◌, ◌∙◌, sym}
use Rattle.std.proofs.lemmas.List.{get_or-map}
use Rattle.flight_table.specs.declared.rows.Row.{Row}
use Rattle.bus_words.proofs.DistinctPlaces.{position_here}
use Rattle.bus_words.proofs.MappedPlaces.{length_map, position_map}
use Rattle.flight_table.proofs.RowLaws.{pages_of}
use Rattle.flight_table.proofs.rows.place_of.Goals as goal

pub returns-then-rows-guess : goal.returns-then-rows-guess
returns-then-rows-guess c =
    let rows = c.args.rows.now in
    let g = c.guess-guess.result in
    let none : Row = record { page = 0; slots = 0 } in
    let at = get_or-map (λ (row : Row). row.page) rows g none 0 c.if-guess-rows.true ∙ c.if-rows-guess.true in
    sym (sym (position_map (λ (row : Row). row.page) (λ page. page == c.args.page) rows) ∙ position_here (pages_of rows) g 0 c.args.page c.requires (rw (length_map (λ (row : Row). row.page) rows) c.if-guess-rows.true) at)
