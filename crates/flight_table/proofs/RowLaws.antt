-- The rows of the pages, through each change of the live requests.
use Rattle.std.proofs.Common.{◌≡◌, ◌≢◌, ℕ, zero, suc, ◌+◌, ◌-◌, ◌/◌, ◌==◌, ◌<◌, ◌≤◌, Bool, true, false, ◌&&◌, not, nat_lt, List, [], ◌∷◌, ◌++◌, map, length, get_or, set, Option, Some, None, IsSome, refl, ap, sym, ◌∙◌, arith}
use Rattle.std.specs.Prelude.{IfSome, if◌then◌else◌}
use Rattle.std.specs.List.{AllByRecursion, filter, find, list_any, position}
use Rattle.std.proofs.lemmas.Bool.{and_parts, eq-eqb, lt-ltb, ltb-true, or_parts}
use Rattle.bus_words.proofs.FirstPlaces.{find-first, find-none, position_is_first}
use Rattle.bus_words.proofs.PlaceChanges.{all-set}
use Rattle.burst_plan.specs.Pieces.{IsPlannable, PlannedRange, range_end}
use Rattle.burst_plan.proofs.PieceLaws.{range_in_page}
use Rattle.bus_words.specs.Places.{AreDistinct}
use Rattle.flight_table.specs.Conflicts.{slot_marks}
use Rattle.flight_table.specs.LiveRequests.{LiveRequest}
use Rattle.flight_table.specs.Marks.{number_of}
use Rattle.flight_table.specs.Order.{conflict, holds_back, is_get, ranges_meet, share_bytes}
use Rattle.flight_table.specs.Rows.{bits_in, bits_of, has_page, is_on, is_vacant, lies_in, open_page, page_of}
use Rattle.flight_table.specs.Spans.{span_of, spans_conflict}
use Rattle.flight_table.specs.Tables.{KeyedRequest, requests_of}
use Rattle.flight_table.specs.declared.rows.Row.{Row}
use Rattle.flight_table.proofs.Ranges.{span_conflicts}
use Rattle.flight_table.proofs.SlotMarks.{marks_never, marks_none, no_slots}
use Rattle.std.proofs.lemmas.Bool.Decides.{nat_tests}

abbrev pub pages_of : List Row → List ℕ
pages_of rows = map (λ row. row.page) rows

abbrev pub AreOthers : ℕ → List ℕ → Type 0
AreOthers page pages = AllByRecursion (λ other. other ≢ page) pages

abbrev pub HasPlan : LiveRequest → Type 0
HasPlan request = IfSome request.plan IsPlannable

-- ---- requests that conflict lie in one page

same_page : (a b : PlannedRange) → IsPlannable a → IsPlannable b → ranges_meet a b ≡ true → a.address / 4096 ≡ b.address / 4096
same_page a b in_a in_b meet =
    let parts = and_parts (nat_lt a.address (range_end b)) (nat_lt b.address (range_end a)) meet in
    let page_a = range_in_page a in_a in
    let page_b = range_in_page b in_b in
    omega (arith, ltb-true a.address (range_end b) parts.0, ltb-true b.address (range_end a) parts.1, page_a.0, page_a.1, page_b.0, page_b.1)

page_met : (a b : Option PlannedRange) → IfSome a IsPlannable → IfSome b IsPlannable → share_bytes a b ≡ true → (lies_in (page_of a) (page_of b) ≡ true) × (lies_in (page_of b) (page_of a) ≡ true)
page_met None b in_a in_b meet = absurd (cc (meet))
page_met (Some a) None in_a in_b meet = absurd (cc (meet))
page_met (Some a) (Some b) in_a in_b meet =
    let same = same_page a b in_a in_b meet in
    (eq-eqb (b.address / 4096) (a.address / 4096) (sym same), eq-eqb (a.address / 4096) (b.address / 4096) same)

shared : (a b : LiveRequest) → conflict a b ≡ true → share_bytes a.plan b.plan ≡ true
shared a b meet = (and_parts (share_bytes a.plan b.plan) (not (is_get a.operation && is_get b.operation)) meet).0

in_none : (page : Option ℕ) → lies_in page None ≡ false
in_none page = grind arith

-- a request that isn't done and conflicts with a later one lies in its page, and holds it back
pub holds_on : (later earlier : LiveRequest) → HasPlan later → HasPlan earlier → earlier.number < later.number
    → (is_on (page_of later.plan) earlier && spans_conflict (span_of earlier) (span_of later)) ≡ holds_back later earlier
holds_on later earlier own plan below = rw (span_conflicts earlier later, lt-ltb earlier.number later.number below) (by_done earlier.done refl (conflict earlier later) refl)
  where
    by_done : (done : Bool) → earlier.done ≡ done → (meet : Bool) → conflict earlier later ≡ meet → (is_on (page_of later.plan) earlier && meet) ≡ (true && not earlier.done && meet)
    by_done true is meet conflicts = rw (is, in_none (page_of later.plan)) refl
    by_done false is true conflicts = rw (is, (page_met earlier.plan later.plan plan own (shared earlier later conflicts)).1) refl
    by_done false is false conflicts = rw is (grind arith)

-- the page of a request that is done only where it has no plan
pub page_is : (r : LiveRequest) → (r.done ≡ true → r.plan ≡ None) → open_page r ≡ page_of r.plan
page_is r sends = grind (arith, sends)

-- ---- the row of a page

none_on : (entries : List KeyedRequest) → number_of (slot_marks (is_on None) entries) ≡ 0
none_on entries = ap number_of (marks_never (is_on None) entries (λ r. refl)) ∙ no_slots 64

pub row_bits : (page : Option ℕ) (entries : List KeyedRequest) (rows : List Row) → ((other : ℕ) → bits_of other rows ≡ number_of (slot_marks (is_on (Some other)) entries)) → bits_in page rows ≡ number_of (slot_marks (is_on page) entries)
row_bits None entries rows pages = sym (none_on entries)
row_bits (Some page) entries rows pages = pages page

pub found_bits : (page : ℕ) (rows : List Row) (row : Row) → find (has_page page) rows ≡ Some row → row.slots ≡ bits_of page rows
found_bits page [] row found = absurd (cc (found))
found_bits page (x ∷ rows) row found = grind (arith, found_bits page rows row)

pub no_bits : (page : ℕ) (rows : List Row) → find (has_page page) rows ≡ None → bits_of page rows ≡ 0
no_bits page [] none = refl
no_bits page (x ∷ rows) none = grind (arith, no_bits page rows)

pub bits_at : (page : ℕ) (rows : List Row) (k : ℕ) (row : Row) → position (has_page page) rows ≡ Some k → row ≡ get_or rows k row → row.slots ≡ bits_of page rows
bits_at page rows k row at is = found_bits page rows row (find-first (has_page page) rows k row (position_is_first (has_page page) rows k at) ∙ ap (λ (o : Row). Some o) (sym is))

pub bits_absent : (page : ℕ) (rows : List Row) → position (has_page page) rows ≡ None → 0 ≡ bits_of page rows
bits_absent page rows none = sym (no_bits page rows (find-none (has_page page) rows none))

pub row_there : (page : ℕ) (rows : List Row) → 0 < bits_of page rows → IsSome (position (has_page page) rows)
row_there page rows some = by_place (position (has_page page) rows) refl
  where
    by_place : (o : Option ℕ) → position (has_page page) rows ≡ o → IsSome (position (has_page page) rows)
    by_place None is = absurd (omega (arith, some, bits_absent page rows is))
    by_place (Some k) is = rw is refl

-- ---- another row in its place

pub at_page : (P : ℕ → Type 0) (rows : List Row) (k : ℕ) (d : Row) → AllByRecursion P (pages_of rows) → k < length rows → P (get_or rows k d).page
at_page P [] k d all within = absurd (omega (arith, within))
at_page P (row ∷ rows) zero d all within = all.0
at_page P (row ∷ rows) (suc k) d all within = at_page P rows k d all.1 (omega (arith, within))

pub bits_here : (rows : List Row) (k page : ℕ) (row : Row) → AreDistinct (pages_of rows) → k < length rows → row ≡ get_or rows k row → row.page ≡ page → row.slots ≡ bits_of page rows
bits_here [] k page row distinct within is own = absurd (omega (arith, within))
bits_here (x ∷ rows) zero page row distinct within is own = rw (← own, is, eq-eqb x.page x.page refl) refl
bits_here (x ∷ rows) (suc k) page row distinct within is own =
    let differ : row.page ≢ x.page = rw (← is) at (at_page (λ m. m ≢ x.page) rows k row distinct.0 (omega (arith, within))) in
    grind (arith, nat_tests, differ, own, bits_here rows k page row distinct.1 (omega (arith, within)) is own)

-- other slots of the page whose row it is
pub bits_put : (rows : List Row) (k page slots other : ℕ) (row : Row) → AreDistinct (pages_of rows) → k < length rows → row ≡ get_or rows k row → row.page ≡ page
    → bits_of other (set rows k (record { page = row.page; slots = slots })) ≡ (if page == other then slots else bits_of other rows)
bits_put [] k page slots other row distinct within is own = absurd (omega (arith, within))
bits_put (x ∷ rows) zero page slots other row distinct within is own = rw (← own, is) (grind arith)
bits_put (x ∷ rows) (suc k) page slots other row distinct within is own =
    let differ : row.page ≢ x.page = rw (← is) at (at_page (λ m. m ≢ x.page) rows k row distinct.0 (omega (arith, within))) in
    grind (arith, nat_tests, differ, own, bits_put rows k page slots other row distinct.1 (omega (arith, within)) is own)

-- more of them, and fewer
pub bits_more : (rows : List Row) (k page more other : ℕ) (row : Row) → AreDistinct (pages_of rows) → k < length rows → row ≡ get_or rows k row → row.page ≡ page
    → bits_of other (set rows k (record { page = row.page; slots = row.slots + more })) ≡ bits_of other rows + (if page == other then more else 0)
bits_more rows k page more other row distinct within is own =
    bits_put rows k page (row.slots + more) other row distinct within is own ∙ grind (arith, nat_tests, bits_here rows k page row distinct within is own)

pub bits_less : (rows : List Row) (k page less other : ℕ) (row : Row) → AreDistinct (pages_of rows) → k < length rows → row ≡ get_or rows k row → row.page ≡ page → less ≤ row.slots
    → bits_of other (set rows k (record { page = row.page; slots = row.slots - less })) + (if page == other then less else 0) ≡ bits_of other rows
bits_less rows k page less other row distinct within is own small =
    rw (bits_put rows k page (row.slots - less) other row distinct within is own) (grind (arith, nat_tests, small, bits_here rows k page row distinct within is own))

pub same_pages : (rows : List Row) (k slots : ℕ) (row : Row) → row ≡ get_or rows k row → pages_of (set rows k (record { page = row.page; slots = slots })) ≡ pages_of rows
same_pages [] k slots row is = refl
same_pages (x ∷ rows) zero slots row is = ap (λ (o : Row). o.page ∷ pages_of rows) is
same_pages (x ∷ rows) (suc k) slots row is = ap (λ pages. x.page ∷ pages) (same_pages rows k slots row is)

no_row : (page : ℕ) (rows : List Row) → AreOthers page (pages_of rows) → bits_of page rows ≡ 0
no_row page [] others = refl
no_row page (row ∷ rows) others = grind (arith, nat_tests, others.0, no_row page rows others.1)

-- a vacant row for a page that has none
pub bits_claimed : (rows : List Row) (k page other : ℕ) (d : Row) → AreDistinct (pages_of rows) → AreOthers page (pages_of rows) → k < length rows → is_vacant (get_or rows k d) ≡ true
    → bits_of other (set rows k (record { page = page; slots = 0 })) ≡ bits_of other rows
bits_claimed [] k page other d distinct others within vacant = absurd (omega (arith, within))
bits_claimed (row ∷ rows) zero page other d distinct others within vacant = grind (arith, nat_tests, vacant, no_row page rows others.1, no_row row.page rows distinct.0)
bits_claimed (row ∷ rows) (suc k) page other d distinct others within vacant = grind (arith, bits_claimed rows k page other d distinct.1 others.1 (omega (arith, within)) vacant)

-- a new row
pub bits_pushed : (rows : List Row) (page other : ℕ) → bits_of other (rows ++ record { page = page; slots = 0 } ∷ []) ≡ bits_of other rows
bits_pushed [] page other = grind arith
bits_pushed (row ∷ rows) page other = grind (arith, bits_pushed rows page other)

pub none_has : (page : ℕ) (rows : List Row) → position (has_page page) rows ≡ None → AreOthers page (pages_of rows)
none_has page rows none = others rows (find-none (has_page page) rows none)
  where
    others : (rows : List Row) → find (has_page page) rows ≡ None → AreOthers page (pages_of rows)
    others [] none = tt
    others (row ∷ rows) none = (λ e. grind (arith, nat_tests, none, e), others rows (grind (arith, none)))

pub distinct_set : (pages : List ℕ) (k page : ℕ) → AreDistinct pages → AreOthers page pages → AreDistinct (set pages k page)
distinct_set [] k page distinct others = tt
distinct_set (p ∷ pages) zero page distinct others = (others.1, distinct.1)
distinct_set (p ∷ pages) (suc k) page distinct others = (all-set (λ m. m ≢ p) pages k page distinct.0 (λ e. others.0 (sym e)), distinct_set pages k page distinct.1 others.1)

-- ---- there are no more rows in use than live requests

-- the requests that lie in another page
abbrev elsewhere : ℕ → List LiveRequest → List LiveRequest
elsewhere page live = filter (λ x. not (is_on (Some page) x)) live

-- no more pass than there are
few_pass : {X : Type 0} (p : X → Bool) (xs : List X) → length (filter p xs) ≤ length xs
few_pass p [] = omega arith
few_pass p (x ∷ xs) = grind (arith, few_pass p xs)

fewer : (page : ℕ) (live : List LiveRequest) → list_any (is_on (Some page)) live ≡ true → length (elsewhere page live) < length live
fewer page [] some = absurd (cc (some))
fewer page (x ∷ live) some = grind (arith, few_pass (λ o. not (is_on (Some page) o)) live, fewer page live)

one_page : (page other : ℕ) (own : Option ℕ) → page ≢ other → lies_in (Some page) own ≡ true → lies_in (Some other) own ≡ false
one_page page other own differ on = grind (arith, nat_tests, differ, on)

any_elsewhere : (page other : ℕ) (live : List LiveRequest) → page ≢ other → list_any (is_on (Some other)) (elsewhere page live) ≡ list_any (is_on (Some other)) live
any_elsewhere page other [] differ = refl
any_elsewhere page other (x ∷ live) differ = grind (arith, one_page page other (open_page x) differ, any_elsewhere page other live differ)

none_vacant : (rows : List Row) → find is_vacant rows ≡ None → AllByRecursion (λ row. 0 < row.slots) rows
none_vacant [] none = tt
none_vacant (row ∷ rows) none = (grind (arith, nat_tests, none), none_vacant rows (grind (arith, none)))

pub some_on : (q : LiveRequest → Bool) (entries : List KeyedRequest) → 0 < number_of (slot_marks q entries) → list_any q (requests_of entries) ≡ true
some_on q entries some = by_any (list_any q (requests_of entries)) refl
  where
    none : (es : List KeyedRequest) → list_any q (requests_of es) ≡ false → AllByRecursion (λ entry. q entry.request ≡ false) es
    none [] fails = tt
    none (e ∷ es) fails = let parts = or_parts (q e.request) (list_any q (requests_of es)) fails in (parts.0, none es parts.1)

    by_any : (b : Bool) → list_any q (requests_of entries) ≡ b → list_any q (requests_of entries) ≡ true
    by_any true is = is
    by_any false is = absurd (omega (arith, some, ap number_of (marks_none q entries (none entries is)) ∙ no_slots 64))

used_rows : (rows : List Row) (live : List LiveRequest) → AreDistinct (pages_of rows) → AllByRecursion (λ row. 0 < row.slots) rows → ((page : ℕ) → 0 < bits_of page rows → list_any (is_on (Some page)) live ≡ true)
    → length rows ≤ length live
used_rows [] live distinct used some = omega arith
used_rows (row ∷ rows) live distinct used some = omega (arith, fewer row.page live (some row.page (here used.0)), used_rows rows (elsewhere row.page live) distinct.1 used.1 later)
  where
    here : 0 < row.slots → 0 < bits_of row.page (row ∷ rows)
    here more = rw (eq-eqb row.page row.page refl) more

    differ : (page : ℕ) → 0 < bits_of page rows → row.page ≢ page
    differ page more same = omega (arith, more, rw same at (no_row row.page rows distinct.0))

    skip : (page : ℕ) → row.page ≢ page → (row.page == page) ≡ false
    skip page other = grind (arith, other)

    later : (page : ℕ) → 0 < bits_of page rows → list_any (is_on (Some page)) (elsewhere row.page live) ≡ true
    later page more = any_elsewhere row.page page live (differ page more) ∙ some page (rw (skip page (differ page more)) more)

pub few_rows : (rows : List Row) (entries : List KeyedRequest) → ((page : ℕ) → bits_of page rows ≡ number_of (slot_marks (is_on (Some page)) entries)) → AreDistinct (pages_of rows) → position is_vacant rows ≡ None
    → length rows ≤ length (requests_of entries)
few_rows rows entries pages distinct full =
    used_rows rows (requests_of entries) distinct (none_vacant rows (find-none is_vacant rows full)) (λ page more. some_on (is_on (Some page)) entries (rw (← pages page) more))
