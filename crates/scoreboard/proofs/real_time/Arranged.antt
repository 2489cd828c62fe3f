-- Orders that keep real time arise as requests are put in with their first beats, one after another, each as what it becomes.
use Rattle.std.proofs.Common.{◌≡◌, ◌≢◌, ℕ, zero, suc, ◌+◌, ◌<◌, ◌≤◌, ◌==◌, Bool, true, false, ◌&&◌, ◌||◌, List, [], ◌∷◌, ◌++◌, map, filter, length, Option, Some, None, Result, Ok, Err, inl, inr, if◌then◌else◌, nat_lt, refl, sym, ◌∙◌, ap, ap₂, subst, arith}
use Rattle.std.specs.Prelude.{slice_get}
use Rattle.std.specs.List.{AllByRecursion, list_any, range_with_len}
use Rattle.std.proofs.lemmas.Bool.{both_ways, cases_eq, cases_Bool, false_from_ne_true, lt-ltb, ltb-true, or_right}
use Rattle.std.proofs.lemmas.Bool.Decides.{nat_tests}
use Rattle.std.proofs.lemmas.List.{append-nil, append_assoc, length-append, length-map, map-append}
use Rattle.std.proofs.lemmas.List.Elements.{filter-append}
use Rattle.std.proofs.lemmas.List.Folds.{list_any-append, list_any_at}
use Rattle.std.proofs.Math.Bool.{or-true}
use Rattle.std.proofs.lemmas.Simd.{map-map}
use Rattle.bus_words.proofs.PlaceChanges.{all-map}
use Rattle.tl_messages.specs.Requests.{HeldMessage, WholeRequest, request_of}
use Rattle.tl_checker.specs.Ports.{joined}
use Rattle.tl_checker.specs.declared.Progress.{Progress}
use Rattle.tl_checker.specs.declared.Progress.TheVariants.{More, Whole}
use Rattle.tl_checker.specs.declared.TlRule.{TlRule}
use Rattle.scoreboard.specs.Boards.{Beginning, Board, ClientBoard, after_all, after_seen, answer_to, is_spoiled, opening_from}
use Rattle.scoreboard.specs.FailedBursts.{Span, failed_span}
use Rattle.scoreboard.specs.declared.Errors.{Errors}
use Rattle.scoreboard.specs.declared.Policy.TheVariants as policy
use Rattle.scoreboard.specs.declared.ObservedBeat.{ObservedBeat}
use Rattle.scoreboard.specs.declared.ObservedBeat.TheVariants.{A, D, Axi as OnAxi, Drained}
use Rattle.scoreboard.specs.Orders.{Entry, Order, after_beat, awaits, begun_to, begun_to_other, board_after, cut_short, ended_early, has_ended, is_over, reply_beats, with_beat, with_counted}
use Rattle.scoreboard.specs.RealTime.{EndedBefore, IsOrderOf, KeepsRealTime, MayBecome, MayBecomeAll, arranged, as_begun, becoming, begun_in, begun_next, completed, heard, numbered, struck, with_answered, with_failed, with_progress, with_request}
use Rattle.serial_memory.specs.SerialMemory.{Memory}
use Rattle.scoreboard.proofs.MappedLists.{any_map}
use Rattle.scoreboard.proofs.real_time.RequestActs.{well_bytes}
use Rattle.scoreboard.proofs.real_time.StepOrders as steps
use Rattle.scoreboard.proofs.real_time.StepOrders.{GoesOn, GoesOnAnswered, GoesOnRequest, GoesOnTaken, HasFate, IsOrderFrom, IsPutIn, fated_of, finished, first_of, is_coming}
use Rattle.scoreboard.proofs.real_time.Becoming.{MayBecomeFated, as_fated, followed, may_from, no_entry, numbered_first, numbered_last, numbered_map}
use Rattle.scoreboard.proofs.real_time.Fates.{GrowsTo, counted_in, from_parts, goes_since, spoiled_any}

-- ---- one beat more, behind others

after_snoc : (beats : List ObservedBeat) (seen : ObservedBeat) (board : Board)
    → after_all policy.RealTime board (beats ++ seen ∷ []) ≡ after_seen policy.RealTime (after_all policy.RealTime board beats) seen
after_snoc [] seen board = refl
after_snoc (first ∷ beats) seen board = after_snoc beats seen (after_seen policy.RealTime board first)

-- ---- numbers in lists

-- how often a number stands in a list
abbrev times : ℕ → List ℕ → ℕ
times number numbers = length (filter (λ other. other == number) numbers)

-- a list without a number
absent : (number : ℕ) (numbers : List ℕ) → times number numbers ≡ 0 → AllByRecursion (λ other. other ≢ number) numbers
absent number [] none = tt
absent number (first ∷ numbers) none = (grind (arith, nat_tests, none), absent number numbers (grind (arith, nat_tests, none)))

-- one that stands there once stands between two parts without it
record Splits (number : ℕ) (numbers : List ℕ) : Type 0 where
  left : List ℕ
  right : List ℕ
  is : numbers ≡ left ++ number ∷ right
  before : AllByRecursion (λ other. other ≢ number) left
  behind : AllByRecursion (λ other. other ≢ number) right

split_at : (number : ℕ) (numbers : List ℕ) → times number numbers ≡ 1 → Splits number numbers
split_at number [] once = absurd (omega (arith, once))
split_at number (first ∷ numbers) once =
    elim (cases_eq first number) [
      | inl same ↦ record {
        left = [];
        right = numbers;
        is = ap (λ k. k ∷ numbers) same;
        before = tt;
        behind = absent number numbers (grind (arith, nat_tests, same, once));
      }
      | inr differ ↦ behind_first differ (split_at number numbers (grind (arith, nat_tests, differ, once)))
    ]
  where
    behind_first : (first ≡ number → ⊥) → Splits number numbers → Splits number (first ∷ numbers)
    behind_first differ later =
        record { left = first ∷ later.left; right = later.right; is = ap (λ ks. first ∷ ks) later.is; before = (differ, later.before); behind = later.behind }

-- ---- those below a bound

abbrev below : ℕ → List ℕ → List ℕ
below bound numbers = filter (λ number. nat_lt number bound) numbers

-- without the bound itself, as many are below the next one
below_next : (bound : ℕ) (numbers : List ℕ) → AllByRecursion (λ other. other ≢ bound) numbers → below (bound + 1) numbers ≡ below bound numbers
below_next bound [] others = refl
below_next bound (first ∷ numbers) others =
    let same : nat_lt first (bound + 1) ≡ nat_lt first bound = grind (arith, nat_tests, others.0) in
    rw (same, below_next bound numbers others.1) refl

-- a list of which each is below a bound
all_below : (bound : ℕ) (numbers : List ℕ) → ((number : ℕ) → bound ≤ number → times number numbers ≡ 0) → below bound numbers ≡ numbers
all_below bound [] none = refl
all_below bound (first ∷ numbers) none =
    let rest = all_below bound numbers (λ number past. grind (arith, nat_tests, none number past)) in
    grind (arith, nat_tests, rest, none first)

-- each of those stands in it once
below_more : (bound : ℕ) (numbers : List ℕ) → length (below (bound + 1) numbers) ≡ length (below bound numbers) + times bound numbers
below_more bound [] = refl
below_more bound (first ∷ numbers) = grind (arith, nat_tests, below_more bound numbers)

none_yet : (ks : List ℕ) → below 0 ks ≡ []
none_yet [] = refl
none_yet (first ∷ ks) = grind (arith, nat_tests, none_yet ks)

count_below : (bound : ℕ) (numbers : List ℕ) → ((number : ℕ) → number < bound → times number numbers ≡ 1) → length (below bound numbers) ≡ bound
count_below zero numbers once = ap (λ (ks : List ℕ). length ks) (none_yet numbers)
count_below (suc bound) numbers once =
    let next : suc bound ≡ bound + 1 = omega arith in
    omega (arith, ap (λ n. length (below n numbers)) next, below_more bound numbers, once bound (omega arith), count_below bound numbers (λ number small. once number (omega (arith, small))))

-- ---- the entries by their numbers

-- what is the same below a bound, and what passes no test there
same_below : (one other : ℕ → Entry) (bound : ℕ) (numbers : List ℕ) → ((number : ℕ) → number < bound → one number ≡ other number)
    → map one (below bound numbers) ≡ map other (below bound numbers)
same_below one other bound [] same = refl
same_below one other bound (first ∷ numbers) same = grind (arith, nat_tests, same first, same_below one other bound numbers same)

none_below : (test : Entry → Bool) (one : ℕ → Entry) (bound : ℕ) (numbers : List ℕ)
    → AllByRecursion (λ number. number < bound → test (one number) ≡ false) numbers → list_any test (map one (below bound numbers)) ≡ false
none_below test one bound [] none = refl
none_below test one bound (first ∷ numbers) none = grind (arith, nat_tests, none.0, none_below test one bound numbers none.1)

-- what holds of each below a bound
each_below : (P : Entry → Type 0) (one : ℕ → Entry) (bound : ℕ) (numbers : List ℕ) → ((number : ℕ) → number < bound → P (one number))
    → AllByRecursion P (map one (below bound numbers))
each_below P one bound [] all = tt
each_below P one bound (first ∷ numbers) all =
    elim (cases_Bool (nat_lt first bound)) [
      | inl is ↦ rw is (all first (ltb-true first bound is), each_below P one bound numbers all)
      | inr is ↦ rw is (each_below P one bound numbers all)
    ]

-- one of a list passes at its number, or none at any
any_at : (test : Entry → Bool) (order : Order) → list_any test order ≡ true → (i : ℕ) × (i < length order) × (test (numbered order i) ≡ true)
any_at test [] some = absurd (cc (some))
any_at test (entry ∷ order) some =
    elim (cases_Bool (test entry)) [
      | inl is ↦ (0, omega arith, is)
      | inr is ↦ let rest = any_at test order (rw is at some) in (suc rest.0, omega (arith, rest.1), rest.2)
    ]

none_at : (test : Entry → Bool) (order : Order) → list_any test order ≡ false → (i : ℕ) → i < length order → test (numbered order i) ≡ false
none_at test order none i small =
    false_from_ne_true (test (numbered order i)) (λ passes. both_ways (list_any test order) none (list_any_at test order i no_entry small passes))

-- ---- an entry as it becomes

-- a request has the fields of an entry's
abbrev HasFields : Entry → WholeRequest → Type 0
HasFields entry q = q ≡ record entry.request { bytes = q.bytes; corrupt = q.corrupt }

-- a test that asks nothing of a request that it may become otherwise
abbrev IsKept : (Entry → Bool) → Type 0
IsKept test = (entry : Entry) (q : WholeRequest) → HasFields entry q → test (record entry { request = q }) ≡ test entry

ended_kept : IsKept has_ended
ended_kept entry q fields = ap (λ (r : WholeRequest). has_ended (record entry { request = r })) fields

begun_kept : (client : ℕ) → IsKept (begun_to client)
begun_kept client entry q fields = ap (λ (r : WholeRequest). begun_to client (record entry { request = r })) fields

-- an error response
struck_kept : (memory : Memory) (span : Span) (entry : Entry) (q : WholeRequest) → HasFields entry q
    → record (struck memory span entry) { request = q } ≡ struck memory span (record entry { request = q })
struck_kept memory span entry q fields = grind (arith, fields)

-- a beat of its reply
beat_kept : (begun : Bool) (client source : ℕ) (entry : Entry) (q : WholeRequest) → HasFields entry q
    → with_beat begun client source (record entry { request = q }) ≡ record (with_beat begun client source entry) { request = q }
beat_kept begun client source entry q fields = grind (arith, fields)

-- a reply that is over
other_kept : (client source : ℕ) → IsKept (begun_to_other client source)
other_kept client source entry q fields = ap (λ (r : WholeRequest). begun_to_other client source (record entry { request = r })) fields

waits_kept : (client source : ℕ) → IsKept (awaits client source)
waits_kept client source entry q fields = ap (λ (r : WholeRequest). awaits client source (record entry { request = r })) fields

early_request : (over : Bool) (client : ℕ) (entry : Entry) → (ended_early over client entry).request ≡ entry.request
early_request over client entry = grind arith

early_kept : (over : Bool) (client : ℕ) (entry : Entry) (q : WholeRequest) → HasFields entry q
    → ended_early over client (record entry { request = q }) ≡ record (ended_early over client entry) { request = q }
early_kept over client entry q fields = grind (arith, fields)

-- and whether one has begun then
early_begun_kept : (over : Bool) (client : ℕ) → IsKept (λ entry. begun_to client (ended_early over client entry))
early_begun_kept over client entry q fields =
    ap (begun_to client) (early_kept over client entry q fields)
    ∙ begun_kept client (ended_early over client entry) q
    (fields ∙ ap (λ (r : WholeRequest). record r { bytes = q.bytes; corrupt = q.corrupt }) (sym (early_request over client entry)))

-- its last beat
finish_kept : (errors : Errors) (client : ℕ) (q r : WholeRequest) (entry : Entry) → (is_coming client entry ≡ true → reply_beats q ≡ reply_beats r)
    → record (completed errors client q entry) { request = r } ≡ finished errors client q (record entry { request = r })
finish_kept errors client q r entry beats = grind (arith, beats)

-- one that a request may be, be it spoiled later
fated_same : (fate : ℕ → Bool) (errors : Errors) (client : ℕ) (q r : WholeRequest) (whole : Bool) (number : ℕ)
    → (is_spoiled errors q ≡ true → fate number ≡ true) → MayBecome (as_fated (fate number) (first_of errors client q whole number)) r
    → MayBecome (fated_of fate errors client q whole number) r
fated_same fate errors client q r whole number told may = by_spoiled (is_spoiled errors q) refl
  where
    by_spoiled : (spoiled : Bool) → is_spoiled errors q ≡ spoiled → MayBecome (fated_of fate errors client q whole number) r
    by_spoiled false is =
        subst (λ (b : Bool). MayBecome (as_fated b (first_of errors client q whole number)) r) (ap (λ (b : Bool). b || fate number) (sym is)) may
    by_spoiled true is =
        subst (λ (b : Bool). MayBecome (as_fated b (first_of errors client q whole number)) r) (told is ∙ ap (λ (b : Bool). b || fate number) (sym is)) may

-- ---- an order of all, as far as its requests have begun

-- behind it
kept_behind : (errors : Errors) (setup : Beginning) (beats : List ObservedBeat) (later : ℕ) (left right : List ℕ) → KeepsRealTime errors setup beats (left ++ later ∷ right)
    → AllByRecursion (λ number. EndedBefore errors setup beats number later → ⊥) right
kept_behind errors setup beats later [] right keeps = keeps.0
kept_behind errors setup beats later (first ∷ left) right keeps = kept_behind errors setup beats later left right keeps.1

module _ (errors : Errors) (setup : Beginning) (beats : List ObservedBeat) (requests : ℕ → WholeRequest) (numbers : List ℕ) (is_order : IsOrderOf errors setup beats numbers)
    (may : MayBecomeAll (begun_in errors setup beats) requests) where
  abbrev begun : List ObservedBeat → Order
  begun done = begun_in errors setup done

  -- some that have begun as the order has them
  abbrev entries_of : Order → Order
  entries_of now = map (becoming now requests) (below (length now) numbers)

  -- those that began in a first part
  abbrev so_far : List ObservedBeat → Order
  so_far done = entries_of (begun done)

  -- those that are spoiled in the end
  abbrev fate : ℕ → Bool
  fate number = (numbered (begun beats) number).spoiled

  grown : (done rest : List ObservedBeat) → beats ≡ done ++ rest → GrowsTo errors (begun done) (begun beats)
  grown done rest is = subst (λ (all : List ObservedBeat). GrowsTo errors (begun done) (begun all)) (sym is) (goes_since errors setup done rest)

  within : (done rest : List ObservedBeat) → beats ≡ done ++ rest → length (begun done) ≤ length (begun beats)
  within done rest is = (grown done rest is).longer

  -- what they may become after all, they may become there
  may_there : (done rest : List ObservedBeat) → beats ≡ done ++ rest → MayBecomeFated fate (begun done) requests
  may_there done rest is =
      may_from fate rest (board_after errors setup done) (begun done) requests (followed errors setup done)
      (subst (λ (now : Order). MayBecomeFated fate now requests) (ap begun is ∙ from_parts done rest (opening_from errors setup) []) as_fate)
    where
      as_fate : MayBecomeFated fate (begun beats) requests
      as_fate number small = may number small

  fields_there : (done rest : List ObservedBeat) → beats ≡ done ++ rest → (number : ℕ) → number < length (begun done)
      → HasFields (numbered (begun done) number) (requests number)
  fields_there done rest is number small = (may_there done rest is number small).fields

  once : (number : ℕ) → number < length (begun beats) → times number numbers ≡ 1
  once number small = is_order.all number ∙ rw (lt-ltb number (length (begun beats)) small) refl

  -- as many as have begun
  many_so_far : (done rest : List ObservedBeat) → beats ≡ done ++ rest → length (so_far done) ≡ length (begun done)
  many_so_far done rest is =
      length-map (below (length (begun done)) numbers) (becoming (begun done) requests)
      ∙ count_below (length (begun done)) numbers (λ number small. once number (omega (arith, small, within done rest is)))

  -- one that has ended was spoiled before, if it ever is
  fates_kept : (done rest : List ObservedBeat) → beats ≡ done ++ rest → AllByRecursion (HasFate fate) (so_far done)
  fates_kept done rest is =
      each_below (HasFate fate) (becoming (begun done) requests) (length (begun done)) numbers
      (λ k small ended fated. ((grown done rest is).grows k small).still
      (sym (ended_kept (numbered (begun done) k) (requests k) (fields_there done rest is k small)) ∙ ended)
      (sym (ap fate ((counted_in errors setup done).numbers k small)) ∙ fated))

  -- a test passes as often
  any_so_far : (done rest : List ObservedBeat) (test : Entry → Bool) → beats ≡ done ++ rest → IsKept test
      → list_any test (so_far done) ≡ list_any test (begun done)
  any_so_far done rest test is kept = by_some (list_any test (begun done)) refl
    where
      each : (P : ℕ → Type 0) → ((number : ℕ) → P number) → (ks : List ℕ) → AllByRecursion P ks
      each P all [] = tt
      each P all (first ∷ ks) = (all first, each P all ks)

      own : (number : ℕ) → number < length (begun done) → test (becoming (begun done) requests number) ≡ test (numbered (begun done) number)
      own number small = kept (numbered (begun done) number) (requests number) (fields_there done rest is number small)

      by_some : (some : Bool) → list_any test (begun done) ≡ some → list_any test (so_far done) ≡ list_any test (begun done)
      by_some false none =
          none_below test (becoming (begun done) requests) (length (begun done)) numbers
          (each (λ number. number < length (begun done) → test (becoming (begun done) requests number) ≡ false)
          (λ number small. own number small ∙ none_at test (begun done) none number small) numbers)
          ∙ sym none
      by_some true some =
          let found = any_at test (begun done) some in
          let here = split_at found.0 numbers (once found.0 (omega (arith, found.1, within done rest is))) in
          let left = below (length (begun done)) here.left in
          let right = below (length (begun done)) here.right in
          let parts : below (length (begun done)) numbers ≡ left ++ found.0 ∷ right =
          ap (below (length (begun done))) here.is
          ∙ filter-append (λ number. nat_lt number (length (begun done))) here.left (found.0 ∷ here.right)
          ∙ rw (lt-ltb found.0 (length (begun done)) found.1) refl in
          let passes : test (becoming (begun done) requests found.0) ≡ true = own found.0 found.1 ∙ found.2 in
          rw (
            parts,
            map-append (becoming (begun done) requests) left (found.0 ∷ right),
            list_any-append test (map (becoming (begun done) requests) left) (map (becoming (begun done) requests) (found.0 ∷ right)),
            passes,
            some,
          ) (or-true (list_any test (map (becoming (begun done) requests) left)))

  module _ (done : List ObservedBeat) (seen : ObservedBeat) (rest : List ObservedBeat) (parts : beats ≡ done ++ seen ∷ rest) where
    abbrev now : Order
    now = begun_next (board_after errors setup done) seen (begun done)

    -- the order so far with the next beat
    abbrev longer : Order
    longer = so_far (done ++ seen ∷ [])

    is_next : begun (done ++ seen ∷ []) ≡ now
    is_next = from_parts done (seen ∷ []) (opening_from errors setup) []

    with_next : beats ≡ (done ++ seen ∷ []) ++ rest
    with_next = parts ∙ sym (append_assoc done (seen ∷ []) rest)

    may_now : MayBecomeFated fate now requests
    may_now = subst (λ (order : Order). MayBecomeFated fate order requests) is_next (may_there (done ++ seen ∷ []) rest with_next)

    -- what is spoiled stays so
    told_now : (k : ℕ) → k < length now → (numbered now k).spoiled ≡ true → fate k ≡ true
    told_now k small = ((subst (λ (order : Order). GrowsTo errors order (begun beats)) is_next (grown (done ++ seen ∷ []) rest with_next)).grows k small).spoiled

    goes_to : (Goes : Order → Type 0) (order : Order) → Goes order → order ≡ entries_of now → Goes longer
    goes_to Goes order goes same = subst Goes (same ∙ ap entries_of (sym is_next)) goes

    -- nothing changes
    quiet : now ≡ begun done → longer ≡ so_far done
    quiet same = ap entries_of (is_next ∙ same)

    -- a change of each that asks nothing of a request that it may become otherwise
    each_change : (order : Order) (change : Entry → Entry)
        → ((k : ℕ) → k < length order → record (change (numbered order k)) { request = requests k } ≡ change (becoming order requests k))
        → entries_of (map change order) ≡ map change (entries_of order)
    each_change order change same =
        ap (λ n. map (becoming (map change order) requests) (below n numbers)) (length-map order change)
        ∙ same_below (becoming (map change order) requests) (λ k. change (becoming order requests k)) (length order) numbers
        (λ k small. ap (λ (entry : Entry). record entry { request = requests k }) (numbered_map change order k small) ∙ same k small)
        ∙ sym (map-map change (becoming order requests) (below (length order) numbers))

    -- a beat of a reply
    beat : (client source : ℕ) → now ≡ after_beat (begun done) client source → longer ≡ after_beat (so_far done) client source
    beat client source same =
        ap entries_of (is_next ∙ same)
        ∙ each_change cut (with_beat begun_then client source) each_counted
        ∙ ap (map (with_beat begun_then client source)) (each_change (begun done) (ended_early over client) each_cut)
        ∙ ap (λ (b : Bool). map (with_beat b client source) (map (ended_early over client) (so_far done))) begun_same
        ∙ ap (λ (b : Bool). with_counted (map (ended_early b client) (so_far done)) client source) over_same
      where
        over : Bool
        over = is_over (begun done) client source

        cut : Order
        cut = cut_short (begun done) client source

        begun_then : Bool
        begun_then = list_any (begun_to client) cut

        each_cut : (k : ℕ) → k < length (begun done)
            → record (ended_early over client (numbered (begun done) k)) { request = requests k } ≡ ended_early over client (becoming (begun done) requests k)
        each_cut k small = sym (early_kept over client (numbered (begun done) k) (requests k) (fields_there done (seen ∷ rest) parts k small))

        fields_cut : (k : ℕ) → k < length cut → HasFields (numbered cut k) (requests k)
        fields_cut k small =
            let within : k < length (begun done) = omega (arith, small, length-map (begun done) (ended_early over client)) in
            let is = ap (λ (entry : Entry). entry.request) (numbered_map (ended_early over client) (begun done) k within) ∙ early_request over client (numbered (begun done) k) in
            fields_there done (seen ∷ rest) parts k within
            ∙ ap (λ (r : WholeRequest). record r { bytes = (requests k).bytes; corrupt = (requests k).corrupt }) (sym is)

        each_counted : (k : ℕ) → k < length cut
            → record (with_beat begun_then client source (numbered cut k)) { request = requests k } ≡ with_beat begun_then client source (becoming cut requests k)
        each_counted k small = sym (beat_kept begun_then client source (numbered cut k) (requests k) (fields_cut k small))

        begun_same : begun_then ≡ list_any (begun_to client) (map (ended_early over client) (so_far done))
        begun_same =
            any_map (begun_to client) (ended_early over client) (begun done)
            ∙ sym (any_so_far done (seen ∷ rest) (λ entry. begun_to client (ended_early over client entry)) parts (early_begun_kept over client))
            ∙ sym (any_map (begun_to client) (ended_early over client) (so_far done))

        over_same : over ≡ is_over (so_far done) client source
        over_same =
            ap₂ (λ (other waits : Bool). other && waits) (sym (any_so_far done (seen ∷ rest) (begun_to_other client source) parts (other_kept client source)))
            (sym (any_so_far done (seen ∷ rest) (awaits client source) parts (waits_kept client source)))

    -- how errors may be told there
    abbrev errors_now : Errors
    errors_now = (board_after errors setup done).errors

    -- an error response
    fail : (memory : Memory) (span : Option Span) → now ≡ with_failed memory span (begun done) → longer ≡ with_failed memory span (so_far done)
    fail memory None same = quiet same
    fail memory (Some span) same =
        ap entries_of (is_next ∙ same)
        ∙ each_change (begun done) change each
      where
        change : Entry → Entry
        change = struck memory span

        each : (k : ℕ) → k < length (begun done) → record (change (numbered (begun done) k)) { request = requests k } ≡ change (becoming (begun done) requests k)
        each k small = struck_kept memory span (numbered (begun done) k) (requests k) (fields_there done (seen ∷ rest) parts k small)

    -- a beat between the first and the last of a request
    hear : (client : ℕ) (q : WholeRequest) → now ≡ map (heard errors_now client q) (begun done) → longer ≡ map (heard errors_now client q) (so_far done)
    hear client q same =
        ap entries_of (is_next ∙ same)
        ∙ each_change (begun done) change each
      where
        change : Entry → Entry
        change = heard errors_now client q

        by_open : (entry : Entry) (r : WholeRequest) → record (change entry) { request = r } ≡ change (record entry { request = r })
        by_open entry r = grind arith

        each : (k : ℕ) → k < length (begun done) → record (change (numbered (begun done) k)) { request = requests k } ≡ change (becoming (begun done) requests k)
        each k small = by_open (numbered (begun done) k) (requests k)

    -- the last beat of a request
    finish : (client : ℕ) (q : WholeRequest) → now ≡ map (completed errors_now client q) (begun done)
        → (longer ≡ map (finished errors_now client q) (so_far done))
        × AllByRecursion (λ entry. is_coming client entry ≡ true → MayBecome (fated_of fate errors_now client q true entry.number) entry.request) (so_far done)
    finish client q same = (
      ap entries_of (is_next ∙ same)
          ∙ ap (λ n. map (becoming (map change (begun done)) requests) (below n numbers)) (length-map (begun done) change)
          ∙ same_below (becoming (map change (begun done)) requests) (λ k. finished errors_now client q (becoming (begun done) requests k))
          (length (begun done)) numbers each
          ∙ sym (map-map (finished errors_now client q) (becoming (begun done) requests) (below (length (begun done)) numbers)),
      each_below (λ entry. is_coming client entry ≡ true → MayBecome (fated_of fate errors_now client q true entry.number) entry.request) (becoming (begun done) requests) (length (begun done)) numbers own,
    )
      where
        change : Entry → Entry
        change = completed errors_now client q

        done_entry : Entry → Entry
        done_entry entry =
            record entry {
              request = q;
              whole = true;
              spoiled = entry.spoiled || is_spoiled errors_now q;
              early = false;
              came = if entry.replied then reply_beats q else entry.came;
            }

        own : (k : ℕ) → k < length (begun done) → is_coming client (becoming (begun done) requests k) ≡ true
            → MayBecome (fated_of fate errors_now client q true (numbered (begun done) k).number) (requests k)
        own k small coming =
            let entry = numbered (begun done) k in
            let whole : change entry ≡ done_entry entry = rw coming refl in
            let is : numbered now k ≡ done_entry entry = ap (λ (o : Order). numbered o k) same ∙ numbered_map change (begun done) k small ∙ whole in
            let there : k < length now = omega (arith, small, ap (λ (o : Order). length o) same, length-map (begun done) change) in
            let may_then = subst (λ (e : Entry). MayBecome (as_fated (fate k) e) (requests k)) is (may_now k there) in
            subst (λ n. MayBecome (fated_of fate errors_now client q true n) (requests k)) (sym ((counted_in errors setup done).numbers k small))
            (fated_same fate errors_now client q (requests k) true k
            (λ spoils. told_now k there (ap (λ (e : Entry). e.spoiled) is ∙ or_right entry.spoiled (is_spoiled errors_now q) spoils))
            (record { same = may_then.same; fields = may_then.fields; corrupt = may_then.corrupt; bytes = may_then.bytes; left = may_then.left }))

        each : (k : ℕ) → k < length (begun done) → becoming (map change (begun done)) requests k ≡ finished errors_now client q (becoming (begun done) requests k)
        each k small =
            ap (λ (entry : Entry). record entry { request = requests k }) (numbered_map change (begun done) k small)
            ∙ finish_kept errors_now client q (requests k) (numbered (begun done) k)
            (λ coming. sym (ap (λ (x : WholeRequest). reply_beats x) (own k small coming).fields))

    -- a request begins, as what it becomes
    put : (Goes : Order → Type 0) (entry : Entry) → now ≡ begun done ++ entry ∷ []
        → ((new : Order) → MayBecome (as_fated (fate (length (begun done))) entry) (requests (length (begun done)))
        → (entry.spoiled ≡ true → fate (length (begun done)) ≡ true)
        → IsPutIn (record entry { request = requests (length (begun done)) }) (so_far done) new → Goes new)
        → Goes longer
    put Goes entry same goes =
        goes_to Goes new
        (goes new becomes told (map (becoming (begun done) requests) left, map (becoming (begun done) requests) right, were, none_ended, refl)) entries
      where
        count : ℕ
        count = length (begun done)

        own : Entry
        own = record entry { request = requests count }

        more : count < length now
        more = omega (arith, ap (λ (o : Order). length o) same, length-append (begun done) (entry ∷ []))

        last_now : numbered now count ≡ entry
        last_now = ap (λ (o : Order). numbered o count) same ∙ numbered_last (begun done) entry

        becomes : MayBecome (as_fated (fate count) entry) (requests count)
        becomes = subst (λ (e : Entry). MayBecome (as_fated (fate count) e) (requests count)) last_now (may_now count more)

        told : entry.spoiled ≡ true → fate count ≡ true
        told spoils = told_now count more (ap (λ (e : Entry). e.spoiled) last_now ∙ spoils)

        here : Splits count numbers
        here =
            split_at count numbers
            (once count (omega (arith, more, within (done ++ seen ∷ []) rest with_next, ap (λ (o : Order). length o) is_next)))

        left : List ℕ
        left = below count here.left

        right : List ℕ
        right = below count here.right

        old_parts : below count numbers ≡ left ++ right
        old_parts =
            let past : nat_lt count count ≡ false = grind (arith, nat_tests) in
            ap (below count) here.is ∙ filter-append (λ number. nat_lt number count) here.left (count ∷ here.right) ∙ rw past refl

        were : so_far done ≡ map (becoming (begun done) requests) left ++ map (becoming (begun done) requests) right
        were = ap (map (becoming (begun done) requests)) old_parts ∙ map-append (becoming (begun done) requests) left right

        -- none behind it had ended
        none_ended : list_any has_ended (map (becoming (begun done) requests) right) ≡ false
        none_ended =
            none_below has_ended (becoming (begun done) requests) count here.right
            (all-map (λ number. EndedBefore errors setup beats number count → ⊥)
            (λ number. number < count → has_ended (becoming (begun done) requests number) ≡ false) here.right
            (λ number keeps small. ended_kept (numbered (begun done) number) (requests number) (fields_there done (seen ∷ rest) parts number small)
            ∙ false_from_ne_true (has_ended (numbered (begun done) number)) (λ over.
            keeps (record { first = done; rest = seen ∷ rest; parts = parts; begun = small; ended = over; not_yet = omega arith })))
            (kept_behind errors setup beats count here.left here.right (subst (KeepsRealTime errors setup beats) here.is is_order.keeps)))

        with_it : ℕ → Entry
        with_it = becoming (begun done ++ entry ∷ []) requests

        still : (ks : List ℕ) → map (becoming (begun done) requests) (below count ks) ≡ map with_it (below count ks)
        still ks =
            same_below (becoming (begun done) requests) with_it count ks
            (λ k small. ap (λ (e : Entry). record e { request = requests k }) (sym (numbered_first (begun done) entry k small)))

        new : Order
        new = map (becoming (begun done) requests) left ++ own ∷ map (becoming (begun done) requests) right

        new_parts : below (count + 1) numbers ≡ left ++ count ∷ right
        new_parts =
            ap (below (count + 1)) here.is
            ∙ filter-append (λ number. nat_lt number (count + 1)) here.left (count ∷ here.right)
            ∙ rw (lt-ltb count (count + 1) (omega arith), below_next count here.left here.before, below_next count here.right here.behind) refl

        entries : new ≡ entries_of now
        entries =
            let first = still here.left in
            let last = still here.right in
            let this : with_it count ≡ own = ap (λ (e : Entry). record e { request = requests count }) (numbered_last (begun done) entry) in
            let all : new ≡ map with_it left ++ with_it count ∷ map with_it right = cc (first, last, this) in
            all
            ∙ sym (map-append with_it left (count ∷ right))
            ∙ ap (map with_it) (sym new_parts)
            ∙ ap (λ n. map with_it (below n numbers)) (sym (length-append (begun done) (entry ∷ [])))
            ∙ ap entries_of (sym same)

    -- as what a client's request becomes
    put_first : (client : ℕ) (q : WholeRequest) (whole : Bool) → now ≡ begun done ++ first_of errors_now client q whole (length (begun done)) ∷ []
        → (becomes : WholeRequest) × MayBecome (fated_of fate errors_now client q whole (length (so_far done))) becomes
        × IsPutIn (record (first_of errors_now client q whole (length (so_far done))) { request = becomes }) (so_far done) longer
    put_first client q whole same =
        subst (λ n. (becomes : WholeRequest) × MayBecome (fated_of fate errors_now client q whole n) becomes
        × IsPutIn (record (first_of errors_now client q whole n) { request = becomes }) (so_far done) longer) (sym (many_so_far done (seen ∷ rest) parts))
        (put (λ new. (becomes : WholeRequest) × MayBecome (fated_of fate errors_now client q whole count) becomes
        × IsPutIn (record (first_of errors_now client q whole count) { request = becomes }) (so_far done) new) (first_of errors_now client q whole count) same
        (λ new becomes told is. (requests count, fated_same fate errors_now client q (requests count) whole count told becomes, is)))
      where
        count : ℕ
        count = length (begun done)

    -- a beat that a port takes
    taken : (client : ℕ) (front : Option HeldMessage) (q : WholeRequest) (progress : Progress) → now ≡ with_progress errors_now client front q progress (begun done)
        → GoesOnTaken fate errors_now client front q progress (so_far done) longer
    taken client None q More same = put_first client q false same
    taken client None q Whole same = put_first client q true same
    taken client (Some held) q More same = hear client q same
    taken client (Some held) q Whole same = finish client q same

    answered : (client : ℕ) (front : Option HeldMessage) (message : HeldMessage) (answer : Result Progress TlRule)
        → now ≡ with_answered errors_now client front message answer (begun done) → GoesOnAnswered fate errors_now client front message answer (so_far done) longer
    answered client front message (Err broken) same = quiet same
    answered client front message (Ok progress) same = taken client front (request_of message) progress same

  goes_on : (done : List ObservedBeat) (seen : ObservedBeat) (rest : List ObservedBeat) → beats ≡ done ++ seen ∷ rest
      → GoesOn fate (board_after errors setup done) seen (so_far done) (so_far (done ++ seen ∷ []))
  goes_on done (OnAxi message) rest parts =
      let board = board_after errors setup done in
      fail done (OnAxi message) rest parts board.memory (failed_span board.errors board.axi message) refl
  goes_on done Drained rest parts = quiet done Drained rest parts refl
  goes_on done (D client message) rest parts = beat done (D client message) rest parts client message.source refl
  goes_on done (A number message) rest parts = by_client (slice_get (board_after errors setup done).clients number) refl
    where
      by_client : (found : Option ClientBoard)
          → begun_next (board_after errors setup done) (A number message) (begun done) ≡ with_request (board_after errors setup done).errors number found message (begun done)
          → GoesOnRequest fate (board_after errors setup done).errors number found message (so_far done) (so_far (done ++ A number message ∷ []))
      by_client None same = quiet done (A number message) rest parts same
      by_client (Some client) same =
          answered done (A number message) rest parts number client.front (joined client.limits client.front message)
          (answer_to policy.RealTime client message) same

  goes_from : (done rest : List ObservedBeat) → beats ≡ done ++ rest → IsOrderFrom fate (board_after errors setup done) (so_far done) rest (so_far beats)
  goes_from done [] is = ap so_far (is ∙ append-nil done)
  goes_from done (seen ∷ rest) is = (
    so_far (done ++ seen ∷ []),
    goes_on done seen rest is,
    fates_kept (done ++ seen ∷ []) rest (is ∙ sym (append_assoc done (seen ∷ []) rest)),
    subst (λ (board : Board). IsOrderFrom fate board (so_far (done ++ seen ∷ [])) rest (so_far beats)) (after_snoc done seen (opening_from errors setup))
        (goes_from (done ++ seen ∷ []) rest (is ∙ sym (append_assoc done (seen ∷ []) rest))),
  )

  -- the order arises step by step
  pub arises : steps.IsOrderOf errors setup beats (arranged errors setup beats requests numbers)
  arises =
      subst (λ ks. steps.IsOrderOf errors setup beats (map (becoming (begun beats) requests) ks))
      (all_below (length (begun beats)) numbers (λ number past.
      let test : nat_lt number (length (begun beats)) ≡ false = grind (arith, nat_tests, past) in is_order.all number ∙ rw test refl))
      (record {
        fate = fate;
        any = spoiled_any errors setup beats;
        ends = each_below (λ entry. fate entry.number ≡ true → entry.spoiled ≡ true) (becoming (begun beats) requests) (length (begun beats)) numbers
            (λ k small fated. sym (ap fate ((counted_in errors setup beats).numbers k small)) ∙ fated);
        from = subst (λ (o : Order). IsOrderFrom fate (opening_from errors setup) o beats (so_far beats)) (ap (map (becoming [] requests)) (none_yet numbers))
            (goes_from [] beats refl);
      })

-- ---- the order of first beats

range_times : (from count number : ℕ)
    → times number (range_with_len from count) ≡ (if nat_lt number from then 0 else (if nat_lt number (from + count) then 1 else 0))
range_times from zero number = grind (arith, nat_tests)
range_times from (suc count) number = grind (arith, nat_tests, range_times (from + 1) count number)

none_before : (errors : Errors) (setup : Beginning) (beats : List ObservedBeat) (later from count : ℕ) → later < from
    → AllByRecursion (λ number. EndedBefore errors setup beats number later → ⊥) (range_with_len from count)
none_before errors setup beats later from zero behind = tt
none_before errors setup beats later from (suc count) behind =
    ((λ ended. omega (arith, ended.begun, ended.not_yet, behind)), none_before errors setup beats later (from + 1) count (omega (arith, behind)))

range_keeps : (errors : Errors) (setup : Beginning) (beats : List ObservedBeat) (from count : ℕ) → KeepsRealTime errors setup beats (range_with_len from count)
range_keeps errors setup beats from zero = tt
range_keeps errors setup beats from (suc count) = (none_before errors setup beats from (from + 1) count (omega arith), range_keeps errors setup beats (from + 1) count)

pub first_beats : (errors : Errors) (setup : Beginning) (beats : List ObservedBeat) → IsOrderOf errors setup beats (range_with_len 0 (length (begun_in errors setup beats)))
first_beats errors setup beats =
    record {
      all = λ number. grind (arith, nat_tests, range_times 0 (length (begun_in errors setup beats)) number);
      keeps = range_keeps errors setup beats 0 (length (begun_in errors setup beats));
    }

-- ---- where nothing more comes

-- each may be what came of it
pub nothing_more : (errors : Errors) (setup : Beginning) (beats : List ObservedBeat) → MayBecomeAll (begun_in errors setup beats) (as_begun errors setup beats)
nothing_more errors setup beats number small =
    let well = ((followed errors setup beats).held number small).1 in
    record {
      same = λ whole sound. refl;
      fields = refl;
      corrupt = λ sound is. is;
      bytes = λ unwhole. well_bytes (as_begun errors setup beats number) well;
      left = λ whole spoiled. record { bytes = well_bytes (as_begun errors setup beats number) well; within = λ i gives. gives; full = well.full };
    }
