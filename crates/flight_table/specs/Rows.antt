-- Which live requests lie in which AXI page until they are done. A range lies in one page, so requests conflict only with those of their own.
use Rattle.std.specs.Prelude.{ℕ, ◌/◌, ◌==◌, Bool, false, List, [], ◌∷◌, Option, Some, None, if◌then◌else◌}
use Rattle.burst_plan.specs.Pieces.{PlannedRange}
use Rattle.flight_table.specs.LiveRequests.{LiveRequest}
use Rattle.flight_table.specs.declared.rows.Row.{Row}

-- the page of a range
abbrev pub page_of : Option PlannedRange → Option ℕ
page_of None = None
page_of (Some range) = Some (range.address / 4096)

-- whether both are the same page; a request that sends nothing has none
abbrev pub lies_in : Option ℕ → Option ℕ → Bool
lies_in None other = false
lies_in (Some page) None = false
lies_in (Some page) (Some other) = other == page

-- the page of a request that isn't done
abbrev pub open_page : LiveRequest → Option ℕ
open_page request = if request.done then None else page_of request.plan

abbrev pub is_on : Option ℕ → LiveRequest → Bool
is_on page request = lies_in page (open_page request)

-- the slots that the row of a page has, as bits; none where the page has no row
abbrev pub bits_of : ℕ → List Row → ℕ
bits_of page [] = 0
bits_of page (row ∷ rows) = if row.page == page then row.slots else bits_of page rows

abbrev pub bits_in : Option ℕ → List Row → ℕ
bits_in None rows = 0
bits_in (Some page) rows = bits_of page rows

abbrev pub has_page : ℕ → Row → Bool
has_page page row = row.page == page

-- whether a row is free for another page
abbrev pub is_vacant : Row → Bool
is_vacant row = row.slots == 0
