-- What is kept by slot stays what it says, through each change of the live requests.
use Rattle.std.proofs.Common.{◌≡◌, ◌≢◌, ℕ, zero, suc, ◌+◌, ◌-◌, ◌*◌, ◌^◌, ◌==◌, ◌<◌, ◌≤◌, Bool, true, false, ◌&&◌, List, [], ◌∷◌, ◌++◌, map, length, get_or, set, replicate, Option, None, Some, refl, ap, ap₂, sym, ◌∙◌, arith, inl, inr, get_or-set_other, get_or-set_same, length-set}
use Rattle.std.specs.Prelude.{IfSome, if◌then◌else◌}
use Rattle.std.specs.List.{AllByRecursion, filter}
use Rattle.std.proofs.lemmas.Bool.Decides.{nat_tests}
use Rattle.std.proofs.lemmas.Bool.{cases_eq, eq-eqb, ne_eqb}
use Rattle.std.proofs.lemmas.List.{map_push, set-get_or}
use Rattle.std.proofs.lemmas.Option.{same_Some}
use Rattle.burst_plan.specs.Pieces.{IsPlannable, PlannedRange}
use Rattle.burst_plan.proofs.PlanLaws.{some_bursts}
use Rattle.bus_words.specs.Places.{change_first, without_first}
use Rattle.bus_words.proofs.MappedPlaces.{all-mapped}
use Rattle.bus_words.proofs.PlaceChanges.{all-append, all-change_first, all-map, all-without_first}
use Rattle.flight_table.specs.Conflicts.{AreInSlots, IsInSlot, is_held_by, slot_marks}
use Rattle.flight_table.specs.Inside.{IsProgress, count_holders}
use Rattle.flight_table.specs.Laws.{HaveOwnKeys}
use Rattle.flight_table.specs.LiveRequests.{LiveRequest, finished, pieces_planned}
use Rattle.flight_table.specs.Marks.{marks_of, number_of}
use Rattle.flight_table.specs.Order.{holds_back, is_held}
use Rattle.flight_table.specs.Rows.{bits_in, bits_of, is_on, lies_in, open_page, page_of}
use Rattle.flight_table.specs.Spans.{counted_in, joined_in, lowered_in, span_of, spans_conflict}
use Rattle.flight_table.specs.Tables.{KeyedRequest, change_entry, has_key, request_in, requests_of}
use Rattle.flight_table.specs.declared.rows.Row.{Row}
use Rattle.flight_table.specs.declared.spans.Span.{Span}
use Rattle.flight_table.proofs.Kept.{count_cons, done_holds, is_unheld, later_holds, more_holders, progress_held, progress_holds}
use Rattle.flight_table.proofs.MarkLaws.{as_marks, below, or_put, put_is}
use Rattle.flight_table.proofs.RowLaws.{HasPlan, holds_on, row_bits}
use Rattle.flight_table.proofs.SlotMarks.{AreOthers, HaveSlots, count_changed, count_without, length_slots, marked, marks_changed, marks_kept, marks_never, marks_none, marks_pushed, marks_without, no_slots, none_has, others, own_requests, unmarked}
use Rattle.flight_table.proofs.TableChanges.{count-none}
use Rattle.flight_table.proofs.Walks.{counted_none, counted_set, joined, joined_at, length_joined, length_lowered, lowered_at, one}

-- what holds of each entry, and of each besides
all-both : {X : Type 0} (P Q : X → Type 0) (xs : List X) → AllByRecursion P xs → AllByRecursion Q xs → AllByRecursion (λ x. P x × Q x) xs
all-both P Q [] one two = tt
all-both P Q (x ∷ xs) one two = ((one.0, two.0), all-both P Q xs one.1 two.1)

pub have_slots : (entries : List KeyedRequest) (counts sets : List ℕ) (spans : List Span) (rows : List Row) → AreInSlots entries counts sets spans rows → HaveSlots entries
have_slots entries counts sets spans rows kept = all-map (IsInSlot entries counts sets spans) (λ entry. entry.key < 64) entries (λ entry is. is.slot) kept.each

-- what holds of each entry holds of that of a key
pub entry_listed : (P : KeyedRequest → Type 0) (key : ℕ) (entries : List KeyedRequest) (r : LiveRequest) → AllByRecursion P entries → request_in key entries ≡ Some r → P (record { key = key; request = r })
entry_listed P key [] r all found = absurd (cc (found))
entry_listed P key (entry ∷ entries) r all found =
    elim (cases_eq entry.key key) [
      | inl same ↦ here same (rw (eq-eqb entry.key key same) at found)
      | inr other ↦ entry_listed P key entries r all.1 (rw (ne_eqb entry.key key other) at found)
    ]
  where
    here : entry.key ≡ key → Some entry.request ≡ Some r → P (record { key = key; request = r })
    here same is = rw (← same, ← same_Some entry.request r is) all.0

-- the count of the request of a key
pub slot_count : (entries : List KeyedRequest) (counts sets : List ℕ) (spans : List Span) (rows : List Row) (key : ℕ) → AreInSlots entries counts sets spans rows
    → IfSome (request_in key entries) (λ request. get_or counts key 0 ≡ count_holders (requests_of entries) request)
slot_count entries counts sets spans rows key kept = by_request (request_in key entries) refl
  where
    by_request : (o : Option LiveRequest) → request_in key entries ≡ o → IfSome o (λ request. get_or counts key 0 ≡ count_holders (requests_of entries) request)
    by_request None none = tt
    by_request (Some request) found = (entry_listed (IsInSlot entries counts sets spans) key entries request kept.each found).count

-- the row of a page as marks, in which there is room for one more
pub row_marks : (page : Option ℕ) (entries : List KeyedRequest) (counts sets : List ℕ) (spans : List Span) (rows : List Row) → AreInSlots entries counts sets spans rows → marks_of 64 (bits_in page rows) ≡ slot_marks (is_on page) entries
row_marks page entries counts sets spans rows kept = as_marks 64 (bits_in page rows) (slot_marks (is_on page) entries) (sym (length_slots (is_on page) entries)) (row_bits page entries rows kept.pages)

pub row_room : (page : Option ℕ) (key : ℕ) (entries : List KeyedRequest) (counts sets : List ℕ) (spans : List Span) (rows : List Row) → AreInSlots entries counts sets spans rows → request_in key entries ≡ None → key < 64
    → bits_in page rows + 2 ^ key < 2 ^ 64
row_room page key entries counts sets spans rows kept none small =
    let marks = slot_marks (is_on page) entries in
    let long = length_slots (is_on page) entries in
    let put = rw (unmarked (is_on page) key entries (none_has key entries none)) at (put_is marks key true (rw long small)) in
    omega (arith, row_bits page entries rows kept.pages, put, rw (length-set marks key true ∙ long) at (below (set marks key true)))

-- and the bit of a request in its row
pub row_holds : (page : Option ℕ) (key : ℕ) (entries : List KeyedRequest) (counts sets : List ℕ) (spans : List Span) (rows : List Row) (r : LiveRequest) → AreInSlots entries counts sets spans rows → request_in key entries ≡ Some r
    → page ≡ open_page r → IfSome page (λ p. 2 ^ key ≤ bits_of p rows)
row_holds None key entries counts sets spans rows r kept found is = tt
row_holds (Some page) key entries counts sets spans rows r kept found is =
    let q = is_on (Some page) in
    let slots = have_slots entries counts sets spans rows kept in
    let on : q r ≡ true = rw (← is, eq-eqb page page refl) refl in
    let put = rw (marked q key entries r slots found, on) at (put_is (slot_marks q entries) key false (rw (length_slots q entries) (entry_listed (λ entry. entry.key < 64) key entries r slots found))) in
    omega (arith, kept.pages page, put)

-- those that a request holds back, as marks
pub set_marks : (key : ℕ) (entries : List KeyedRequest) (counts sets : List ℕ) (spans : List Span) (rows : List Row) (r : LiveRequest) → AreInSlots entries counts sets spans rows → request_in key entries ≡ Some r
    → marks_of 64 (get_or sets key 0) ≡ slot_marks (is_held_by r) entries
set_marks key entries counts sets spans rows r kept found =
    as_marks 64 (get_or sets key 0) (slot_marks (is_held_by r) entries) (sym (length_slots (is_held_by r) entries)) (entry_listed (IsInSlot entries counts sets spans) key entries r kept.each found).set

-- ---- progress

pub slots_kept : (entries : List KeyedRequest) (counts sets : List ℕ) (spans : List Span) (rows : List Row) (key : ℕ) (change : LiveRequest → LiveRequest) (r : LiveRequest) → AreInSlots entries counts sets spans rows
    → request_in key entries ≡ Some r → ((q : LiveRequest) → IsProgress q (change q)) → AreInSlots (change_first (has_key key) (change_entry change) entries) counts sets spans rows
slots_kept entries counts sets spans rows key change r kept found progress =
    record {
      each = all-change_first In (has_key key) (change_entry change) entries (λ entry passes is. stepped entry is) (all-map (IsInSlot entries counts sets spans) In entries still kept.each);
      pages = λ page. kept.pages page ∙ sym (ap number_of (marks_kept (is_on (Some page)) change key entries (λ q. same_page page q)));
      all_counts = kept.all_counts;
      all_sets = kept.all_sets;
      all_spans = kept.all_spans;
    }
  where
    after : List KeyedRequest
    after = change_first (has_key key) (change_entry change) entries

    In : KeyedRequest → Type 0
    In = IsInSlot after counts sets spans

    same_page : (page : ℕ) (q : LiveRequest) → is_on (Some page) (change q) ≡ is_on (Some page) q
    same_page page q = rw ((progress q).plan, (progress q).done) refl

    as_many : (x : LiveRequest) → count_holders (requests_of after) x ≡ count_holders (requests_of entries) x
    as_many x = omega (arith, rw (progress_holds x r (change r) (progress r)) at (count_changed (holds_back x) change key entries r found))

    still : (entry : KeyedRequest) → IsInSlot entries counts sets spans entry → In entry
    still entry is =
        record {
          slot = is.slot;
          range = is.range;
          span = is.span;
          count = is.count ∙ sym (as_many entry.request);
          free = λ done. as_many entry.request ∙ is.free done;
          set = is.set ∙ sym (ap number_of (marks_kept (is_held_by entry.request) change key entries (λ q. progress_held entry.request q (change q) (progress q))));
        }

    stepped : (entry : KeyedRequest) → In entry → In (change_entry change entry)
    stepped entry is = grind (arith, is, entry.request)

-- ---- one less

none_passes : (q : LiveRequest → Bool) (entries : List KeyedRequest) → length (filter q (requests_of entries)) ≡ 0 → AllByRecursion (λ entry. q entry.request ≡ false) entries
none_passes q [] none = tt
none_passes q (entry ∷ entries) none = (grind (arith, none), none_passes q entries (grind (arith, none)))

pub slots_removed : (entries : List KeyedRequest) (counts sets : List ℕ) (spans : List Span) (rows : List Row) (key : ℕ) (r : LiveRequest) → AreInSlots entries counts sets spans rows → HaveOwnKeys entries
    → request_in key entries ≡ Some r → r.done ≡ true → AreInSlots (without_first (has_key key) entries) counts sets spans rows
slots_removed entries counts sets spans rows key r kept own found done =
    record {
      each = all-without_first (IsInSlot after counts sets spans) (has_key key) entries (all-map (λ entry. IsInSlot entries counts sets spans entry × (holds_back r entry.request ≡ false)) (IsInSlot after counts sets spans) entries still (all-both _ _ entries kept.each free));
      pages = λ page. kept.pages page ∙ sym (ap number_of (marks_without (is_on (Some page)) key entries r own found (rw done refl)));
      all_counts = kept.all_counts;
      all_sets = kept.all_sets;
      all_spans = kept.all_spans;
    }
  where
    after : List KeyedRequest
    after = without_first (has_key key) entries

    free : AllByRecursion (λ entry. holds_back r entry.request ≡ false) entries
    free = none_passes (holds_back r) entries ((entry_listed (IsInSlot entries counts sets spans) key entries r kept.each found).free done)

    as_many : (x : LiveRequest) → count_holders (requests_of after) x ≡ count_holders (requests_of entries) x
    as_many x = count_without (holds_back x) key entries r found (done_holds x r done)

    still : (entry : KeyedRequest) → IsInSlot entries counts sets spans entry × (holds_back r entry.request ≡ false) → IsInSlot after counts sets spans entry
    still entry (is, apart) =
        record {
          slot = is.slot;
          range = is.range;
          span = is.span;
          count = is.count ∙ sym (as_many entry.request);
          free = λ done. as_many entry.request ∙ is.free done;
          set = is.set ∙ sym (ap number_of (marks_without (is_held_by entry.request) key entries r own found apart));
        }

-- ---- whom nobody holds back

by_slot : (live : List LiveRequest) (counts : List ℕ) (entries : List KeyedRequest) → AllByRecursion (λ entry. get_or counts entry.key 0 ≡ count_holders live entry.request) entries
    → map (is_unheld live) (requests_of entries) ≡ map (λ entry. get_or counts entry.key 0 == 0) entries
by_slot live counts [] all = refl
by_slot live counts (entry ∷ entries) all = rw (all.0, by_slot live counts entries all.1) refl

pub unheld_by_slot : (entries : List KeyedRequest) (counts sets : List ℕ) (spans : List Span) (rows : List Row) → AreInSlots entries counts sets spans rows
    → map (is_unheld (requests_of entries)) (requests_of entries) ≡ map (λ entry. get_or counts entry.key 0 == 0) entries
unheld_by_slot entries counts sets spans rows kept =
    by_slot (requests_of entries) counts entries (all-map (IsInSlot entries counts sets spans) (λ entry. get_or counts entry.key 0 ≡ count_holders (requests_of entries) entry.request) entries (λ entry is. is.count) kept.each)

-- a change of a request leaves its key
pub keys_changed : (f : ℕ → Bool) (change : LiveRequest → LiveRequest) (key : ℕ) (entries : List KeyedRequest) → map (λ entry. f entry.key) (change_first (has_key key) (change_entry change) entries) ≡ map (λ entry. f entry.key) entries
keys_changed f change key [] = refl
keys_changed f change key (entry ∷ entries) = grind (arith, nat_tests, keys_changed f change key entries)

-- ---- one done

each_changed : (Q P : KeyedRequest → Type 0) (key : ℕ) (change : LiveRequest → LiveRequest) (entries : List KeyedRequest) → HaveOwnKeys entries → ((entry : KeyedRequest) → entry.key ≡ key → Q entry → P (change_entry change entry))
    → ((entry : KeyedRequest) → entry.key ≢ key → Q entry → P entry) → AllByRecursion Q entries → AllByRecursion P (change_first (has_key key) (change_entry change) entries)
each_changed Q P key change [] own here there all = tt
each_changed Q P key change (entry ∷ entries) own here there all =
    elim (cases_eq entry.key key) [
      | inl same ↦
          rw (eq-eqb entry.key key same)
          (here entry same all.0, all-map (λ x. (x.key ≢ entry.key) × Q x) P entries (λ x both. there x (λ is. both.0 (is ∙ sym same)) both.1) (all-both (λ x. x.key ≢ entry.key) Q entries (others entry entries own) all.1))
      | inr other ↦ rw (ne_eqb entry.key key other) (there entry other all.0, each_changed Q P key change entries own.1 here there all.1)
    ]

bit_times : (b : Bool) (n : ℕ) → (if b then 1 else 0) * n ≡ (if b then n else 0)
bit_times true n = omega arith
bit_times false n = omega arith

pub slots_finished : (entries : List KeyedRequest) (counts sets : List ℕ) (spans : List Span) (rows left : List Row) (key : ℕ) (r : LiveRequest) → AreInSlots entries counts sets spans rows → HaveOwnKeys entries
    → request_in key entries ≡ Some r → count_holders (requests_of entries) r ≡ 0 → ((page : ℕ) → bits_of page left + (if lies_in (Some page) (open_page r) then 2 ^ key else 0) ≡ bits_of page rows)
    → AreInSlots (change_first (has_key key) (change_entry finished) entries) (lowered_in (slot_marks (is_held_by r) entries) counts) (set sets key 0) spans left
slots_finished entries counts sets spans rows left key r kept own found free less =
    record {
      each = each_changed Was In key finished entries own here there (all-both _ _ entries kept.each (own_requests entries own));
      pages = pages;
      all_counts = length_lowered (slot_marks (is_held_by r) entries) counts ∙ kept.all_counts;
      all_sets = length-set sets key 0 ∙ kept.all_sets;
      all_spans = kept.all_spans;
    }
  where
    after : List KeyedRequest
    after = change_first (has_key key) (change_entry finished) entries

    held : List Bool
    held = slot_marks (is_held_by r) entries

    Was : KeyedRequest → Type 0
    Was entry = IsInSlot entries counts sets spans entry × (request_in entry.key entries ≡ Some entry.request)

    In : KeyedRequest → Type 0
    In = IsInSlot after (lowered_in held counts) (set sets key 0) spans

    slots : HaveSlots entries
    slots = have_slots entries counts sets spans rows kept

    small : key < 64
    small = entry_listed (λ entry. entry.key < 64) key entries r slots found

    as_many : (x : LiveRequest) → count_holders (requests_of after) x ≡ count_holders (requests_of entries) x - one (holds_back x r)
    as_many x = omega (arith, rw (done_holds x (finished r) refl) at (count_changed (holds_back x) finished key entries r found))

    now : (entry : KeyedRequest) → Was entry → get_or (lowered_in held counts) entry.key 0 ≡ count_holders (requests_of after) entry.request
    now entry was =
        lowered_at held entry.key counts (length_slots (is_held_by r) entries ∙ sym kept.all_counts)
        ∙ ap₂ (λ n b. n - one b) was.0.count (marked (is_held_by r) entry.key entries entry.request slots was.1) ∙ sym (as_many entry.request)

    there : (entry : KeyedRequest) → entry.key ≢ key → Was entry → In entry
    there entry other was =
        record {
          slot = was.0.slot;
          range = was.0.range;
          span = was.0.span;
          count = now entry was;
          free = λ done. omega (arith, as_many entry.request, was.0.free done);
          set = get_or-set_other sets key entry.key 0 0 other ∙ was.0.set ∙ sym (ap number_of (marks_kept (is_held_by entry.request) finished key entries (λ q. refl)));
        }

    here : (entry : KeyedRequest) → entry.key ≡ key → Was entry → In (change_entry finished entry)
    here entry same was =
        let own_request : entry.request ≡ r = same_Some entry.request r (sym was.1 ∙ ap (λ k. request_in k entries) same ∙ found) in
        record {
          slot = was.0.slot;
          range = was.0.range;
          span = was.0.span;
          count = now entry was;
          free = λ done. omega (arith, as_many entry.request, ap (count_holders (requests_of entries)) own_request, free);
          set =
              ap (λ k. get_or (set sets key 0) k 0) same ∙ get_or-set_same sets key 0 0 (rw kept.all_sets small)
              ∙ sym (ap number_of (marks_never (is_held_by (finished entry.request)) after (λ x. done_holds x (finished entry.request) refl)) ∙ no_slots 64);
        }

    pages : (page : ℕ) → bits_of page left ≡ number_of (slot_marks (is_on (Some page)) after)
    pages page =
        let marks = slot_marks (is_on (Some page)) entries in
        let put = rw (marked (is_on (Some page)) key entries r slots found, bit_times (is_on (Some page) r) (2 ^ key)) at (put_is marks key false (rw (length_slots (is_on (Some page)) entries) small)) in
        omega (arith, less page, kept.pages page, put, ap number_of (marks_changed (is_on (Some page)) finished key entries r own found))

-- ---- one more

joined_put : (b : Bool) (marks : List Bool) (slot : ℕ) → slot < length marks → get_or marks slot false ≡ false → joined b slot (number_of marks) ≡ number_of (set marks slot b)
joined_put true marks slot within none = or_put marks slot within
joined_put false marks slot within none = ap number_of (sym (set-get_or marks slot false) ∙ ap (set marks slot) none)

all_unmarked : (n : ℕ) → AllByRecursion (λ mark. mark ≡ false) (replicate n false)
all_unmarked zero = tt
all_unmarked (suc n) = (refl, all_unmarked n)

-- how many of a row's conflict with a request
slots_counted : (page : Option ℕ) (r : LiveRequest) (spans : List Span) (d : Span) (entries : List KeyedRequest) → length spans ≡ 64 → HaveOwnKeys entries
    → AllByRecursion (λ entry. (entry.key < 64) × ((is_on page entry.request && spans_conflict (get_or spans entry.key d) (span_of r)) ≡ holds_back r entry.request)) entries
    → counted_in (slot_marks (is_on page) entries) (span_of r) spans ≡ count_holders (requests_of entries) r
slots_counted page r spans d [] many own all = counted_none (replicate 64 false) (span_of r) spans (all_unmarked 64)
slots_counted page r spans d (entry ∷ entries) many own all =
    let marks = slot_marks (is_on page) entries in
    let long = length_slots (is_on page) entries in
    let put = rw (unmarked (is_on page) entry.key entries (others entry entries own), all.0.1) at (counted_set marks entry.key (is_on page entry.request) (span_of r) spans d (rw long all.0.0) (long ∙ sym many)) in
    rw (count_cons (holds_back r) entry.request (requests_of entries)) (omega (arith, put, slots_counted page r spans d entries many own.1 all.1))

no_plan_held : (r x : LiveRequest) → r.plan ≡ None → holds_back r x ≡ false
no_plan_held r x none = grind (arith, none)

pub count_never : (q : LiveRequest → Bool) (live : List LiveRequest) → ((x : LiveRequest) → q x ≡ false) → length (filter q live) ≡ 0
count_never q [] never = refl
count_never q (x ∷ live) never = rw (never x) (count_never q live never)

-- nobody holds back a request that is done, or that nobody holds back where it has bursts to send
pub none_holds : (key : ℕ) (entries : List KeyedRequest) (counts sets : List ℕ) (spans : List Span) (rows : List Row) (r : LiveRequest) → AreInSlots entries counts sets spans rows → request_in key entries ≡ Some r
    → (r.done ≡ false → 1 ≤ length (pieces_planned r.plan) → is_held (requests_of entries) r ≡ false) → count_holders (requests_of entries) r ≡ 0
none_holds key entries counts sets spans rows r kept found free = by_done r.done refl
  where
    in_slot : IsInSlot entries counts sets spans (record { key = key; request = r })
    in_slot = entry_listed (IsInSlot entries counts sets spans) key entries r kept.each found

    by_plan : r.done ≡ false → (plan : Option PlannedRange) → r.plan ≡ plan → IfSome plan IsPlannable → count_holders (requests_of entries) r ≡ 0
    by_plan undone None is range = count_never (holds_back r) (requests_of entries) (λ x. no_plan_held r x is)
    by_plan undone (Some range) is plannable = count-none (holds_back r) (requests_of entries) (free undone (rw is (some_bursts range plannable)))

    by_done : (done : Bool) → r.done ≡ done → count_holders (requests_of entries) r ≡ 0
    by_done true is = in_slot.free is
    by_done false is = by_plan is r.plan refl in_slot.range

-- a new request, whose number is the largest
pub record IsNew (entries : List KeyedRequest) (key : ℕ) (r : LiveRequest) : Type 0 where
  pub own : HaveOwnKeys entries
  pub fresh : request_in key entries ≡ None
  pub slot : key < 64
  pub range : HasPlan r
  pub sends : r.done ≡ true → r.plan ≡ None
  pub latest : AllByRecursion (λ earlier. earlier.number < r.number) (requests_of entries)

-- what is known of each earlier one
record IsEarlier (entries : List KeyedRequest) (counts sets : List ℕ) (spans : List Span) (key : ℕ) (r : LiveRequest) (entry : KeyedRequest) : Type 0 where
  is : IsInSlot entries counts sets spans entry
  other : entry.key ≢ key
  below : entry.request.number < r.number
  named : request_in entry.key entries ≡ Some entry.request

each_earlier : (entries : List KeyedRequest) (counts sets : List ℕ) (spans : List Span) (rows : List Row) (key : ℕ) (r : LiveRequest) → AreInSlots entries counts sets spans rows → IsNew entries key r
    → AllByRecursion (IsEarlier entries counts sets spans key r) entries
each_earlier entries counts sets spans rows key r kept new =
    all-map _ (IsEarlier entries counts sets spans key r) entries (λ entry all. record { is = all.0; other = all.1.0; below = all.1.1.0; named = all.1.1.1 })
    (all-both _ _ entries kept.each (all-both _ _ entries (none_has key entries new.fresh) (all-both _ _ entries (all-mapped (λ earlier. earlier.number < r.number) (λ (e : KeyedRequest). e.request) entries new.latest) (own_requests entries new.own))))

pub new_counted : (entries : List KeyedRequest) (counts sets : List ℕ) (spans : List Span) (rows : List Row) (key : ℕ) (r : LiveRequest) → AreInSlots entries counts sets spans rows → IsNew entries key r
    → counted_in (slot_marks (is_on (page_of r.plan)) entries) (span_of r) spans ≡ count_holders (requests_of entries) r
new_counted entries counts sets spans rows key r kept new =
    let none : Span = record { start = 0; end = 0; get = true } in
    slots_counted (page_of r.plan) r spans none entries kept.all_spans new.own
    (all-map (IsEarlier entries counts sets spans key r) _ entries (λ entry e. (e.is.slot, rw (e.is.span none) (holds_on r entry.request new.range e.is.range e.below))) (each_earlier entries counts sets spans rows key r kept new))

pub slots_added : (entries : List KeyedRequest) (counts sets : List ℕ) (spans : List Span) (rows more : List Row) (key count : ℕ) (r : LiveRequest) → AreInSlots entries counts sets spans rows → IsNew entries key r
    → count ≡ count_holders (requests_of entries) r → ((page : ℕ) → bits_of page more ≡ bits_of page rows + (if lies_in (Some page) (open_page r) then 2 ^ key else 0))
    → AreInSlots (entries ++ record { key = key; request = r } ∷ []) (set counts key count) (set (joined_in (slot_marks (is_on (page_of r.plan)) entries) (span_of r) spans key sets) key 0) (set spans key (span_of r)) more
slots_added entries counts sets spans rows more key count r kept new counted added =
    record {
      each = all-append In entries last (all-map (IsEarlier entries counts sets spans key r) In entries earlier (each_earlier entries counts sets spans rows key r kept new)) latest;
      pages = pages;
      all_counts = length-set counts key count ∙ kept.all_counts;
      all_sets = length-set joins key 0 ∙ long;
      all_spans = length-set spans key (span_of r) ∙ kept.all_spans;
    }
  where
    last : KeyedRequest
    last = record { key = key; request = r }

    after : List KeyedRequest
    after = entries ++ last ∷ []

    row : List Bool
    row = slot_marks (is_on (page_of r.plan)) entries

    joins : List ℕ
    joins = joined_in row (span_of r) spans key sets

    long : length joins ≡ 64
    long = length_joined row (span_of r) spans key sets ∙ kept.all_sets

    In : KeyedRequest → Type 0
    In = IsInSlot after (set counts key count) (set joins key 0) (set spans key (span_of r))

    apart : AreOthers key entries
    apart = none_has key entries new.fresh

    as_many : (x : LiveRequest) → x.number ≤ r.number → count_holders (requests_of after) x ≡ count_holders (requests_of entries) x
    as_many x later = rw (map_push (λ (entry : KeyedRequest). entry.request) entries last) (more_holders (requests_of entries) x r later)

    inside : (q : LiveRequest → Bool) → key < length (slot_marks q entries)
    inside q = rw (length_slots q entries) new.slot

    earlier : (entry : KeyedRequest) → IsEarlier entries counts sets spans key r entry → In entry
    earlier entry e =
        let none : Span = record { start = 0; end = 0; get = true } in
        let marks = slot_marks (is_held_by entry.request) entries in
        let holds = rw (marked (is_on (page_of r.plan)) entry.key entries entry.request (have_slots entries counts sets spans rows kept) e.named, e.is.span none, holds_on r entry.request new.range e.is.range e.below, e.is.set) at
        (joined_at row entry.key (span_of r) spans key sets none (rw (length_slots (is_on (page_of r.plan)) entries) e.is.slot) (length_slots (is_on (page_of r.plan)) entries ∙ sym kept.all_spans) (kept.all_sets ∙ sym kept.all_spans)) in
        record {
          slot = e.is.slot;
          range = e.is.range;
          span = λ d. get_or-set_other spans key entry.key (span_of r) d e.other ∙ e.is.span d;
          count = get_or-set_other counts key entry.key count 0 e.other ∙ e.is.count ∙ sym (as_many entry.request (omega (arith, e.below)));
          free = λ done. as_many entry.request (omega (arith, e.below)) ∙ e.is.free done;
          set =
              get_or-set_other joins key entry.key 0 0 e.other ∙ holds
              ∙ joined_put (holds_back r entry.request) marks key (inside (is_held_by entry.request)) (unmarked (is_held_by entry.request) key entries apart)
              ∙ sym (ap number_of (marks_pushed (is_held_by entry.request) entries last apart));
        }

    none_held : AllByRecursion (λ entry. is_held_by r entry.request ≡ false) after
    none_held =
        all-append _ entries last (all-map (IsEarlier entries counts sets spans key r) (λ entry. is_held_by r entry.request ≡ false) entries (λ entry e. later_holds entry.request r (omega (arith, e.below))) (each_earlier entries counts sets spans rows key r kept new))
        (later_holds r r (omega arith))

    latest : In last
    latest =
        record {
          slot = new.slot;
          range = new.range;
          span = λ d. get_or-set_same spans key (span_of r) d (rw kept.all_spans new.slot);
          count = get_or-set_same counts key count 0 (rw kept.all_counts new.slot) ∙ counted ∙ sym (as_many r (omega arith));
          free = λ done. count_never (holds_back r) (requests_of after) (λ x. no_plan_held r x (new.sends done));
          set = get_or-set_same joins key 0 0 (rw long new.slot) ∙ sym (ap number_of (marks_none (is_held_by r) after none_held) ∙ no_slots 64);
        }

    pages : (page : ℕ) → bits_of page more ≡ number_of (slot_marks (is_on (Some page)) after)
    pages page =
        let q = is_on (Some page) in
        let put = rw (unmarked q key entries apart, bit_times (q r) (2 ^ key)) at (put_is (slot_marks q entries) key (q r) (inside q)) in
        omega (arith, added page, kept.pages page, put, ap number_of (marks_pushed q entries last apart))
