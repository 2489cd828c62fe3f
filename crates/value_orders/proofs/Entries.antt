-- The entries of a history go along with the beats of its board, and each request ends after it began.
use Rattle.std.proofs.Common.{◌≡◌, ℕ, ◌≤◌, ◌+◌, Bool, true, false, ◌&&◌, List, [], ◌∷◌, ◌++◌, map, length, Option, Some, None, if◌then◌else◌, refl, sym, ◌∙◌, ap, subst, suc, arith}
use Rattle.std.specs.Prelude.{Err, Ok, Result, is_none, slice_get}
use Rattle.setups.specs.Setups.{SetupLists}
use Rattle.tl_checker.specs.declared.Progress.{Progress}
use Rattle.tl_checker.specs.declared.TlRule.{TlRule}
use Rattle.tl_messages.specs.Requests.{HeldMessage}
use Rattle.scoreboard.specs.Boards.{Board, ClientBoard, answer_to}
use Rattle.scoreboard.specs.Orders.{Order, has_ended, is_due_in}
use Rattle.scoreboard.specs.RealTime.{begun_next, is_open}
use Rattle.scoreboard.specs.Unknown.{unknown_given}
use Rattle.scoreboard.specs.declared.ObservedBeat.{ObservedBeat}
use Rattle.scoreboard.specs.declared.ObservedBeat.TheVariants.{A, D, Axi as OnAxi, Drained}
use Rattle.scoreboard.specs.declared.Policy.TheVariants.{RealTime}
use Rattle.scoreboard.specs.declared.Wrong.{Wrong}
use Rattle.value_orders.specs.Histories.{Past, cut_off, entries_of, hear, heard_of, hidden_in, since_next, with_answer, with_entries, with_heard, with_looked, with_told}

-- ---- a change of what was seen of requests, which keeps their entries and ends

record IsLook (change : Past → Past) : Type 0 where
  entry : (past : Past) → (change past).entry ≡ past.entry
  ended : (past : Past) → (change past).ended ≡ past.ended

look_if : (test : Past → Bool) (change : Past → Past) → IsLook change → IsLook (λ past. if test past then change past else past)
look_if test change is = record { entry = λ past. by_entry past (test past); ended = λ past. by_ended past (test past) }
  where
    by_entry : (past : Past) (b : Bool) → (if b then change past else past).entry ≡ past.entry
    by_entry past true = is.entry past
    by_entry past false = refl

    by_ended : (past : Past) (b : Bool) → (if b then change past else past).ended ≡ past.ended
    by_ended past true = is.ended past
    by_ended past false = refl

-- each ends no earlier than it begins, where the first begins at a number
abbrev pub EndsFrom : ℕ → List Past → Type 0
EndsFrom first [] = Unit {0}
EndsFrom first (past ∷ pasts) = ((time : ℕ) → past.ended ≡ Some time → first ≤ time) × EndsFrom (first + 1) pasts

record IsSeen (old new : List Past) : Type 0 where
  entries : entries_of new ≡ entries_of old
  count : length new ≡ length old
  ends : (first : ℕ) → EndsFrom first old → EndsFrom first new

seen_same : (pasts : List Past) → IsSeen pasts pasts
seen_same pasts = record { entries = refl; count = refl; ends = λ first ends. ends }

seen_map : (change : Past → Past) (pasts : List Past) → IsLook change → IsSeen pasts (map change pasts)
seen_map change [] is = seen_same []
seen_map change (past ∷ pasts) is =
    let rest = seen_map change pasts is in
    record {
      entries = cc (is.entry past, rest.entries);
      count = ap suc rest.count;
      ends = λ first ends. (λ time at. ends.0 time (sym (is.ended past) ∙ at), rest.ends (first + 1) ends.1);
    }

look_hear : (given : ℕ) → IsLook (hear given)
look_hear given = record { entry = λ past. refl; ended = λ past. refl }

seen_looked : (setup : SetupLists) (board : Board) (seen : ObservedBeat) (lanes : ℕ) (said : Option Wrong) (pasts : List Past)
    → IsSeen pasts (with_looked setup board seen lanes said pasts)
seen_looked setup board (A client beat) lanes said pasts = by_client (slice_get board.clients client)
  where
    by_answer : (front : Option HeldMessage) (answer : Result Progress TlRule) → IsSeen pasts (with_answer client (unknown_given beat lanes) front answer pasts)
    by_answer front (Err broken) = seen_same pasts
    by_answer None (Ok progress) = seen_same pasts
    by_answer (Some held) (Ok progress) =
        seen_map (heard_of client (unknown_given beat lanes)) pasts
        (look_if (λ past. is_open client past.entry) (hear (unknown_given beat lanes)) (look_hear (unknown_given beat lanes)))

    by_client : (found : Option ClientBoard) → IsSeen pasts (with_heard client found beat lanes pasts)
    by_client None = seen_same pasts
    by_client (Some found) = by_answer found.front (answer_to RealTime found beat)
seen_looked setup board (D client beat) lanes (Some wrong) pasts = seen_same pasts
seen_looked setup board (D client beat) lanes None pasts =
    seen_map (λ past. if is_due_in (entries_of pasts) client beat.source past.entry then with_told setup board.errors beat lanes past else past) pasts
    (look_if (λ past. is_due_in (entries_of pasts) client beat.source past.entry) (with_told setup board.errors beat lanes)
    (record { entry = λ past. refl; ended = λ past. refl }))
seen_looked setup board (OnAxi beat) lanes said pasts = seen_same pasts
seen_looked setup board Drained lanes said pasts = seen_same pasts

-- ---- their entries

pub entries_with : (count given : ℕ) (order : Order) (pasts : List Past) → length pasts ≤ length order → entries_of (with_entries count given order pasts) ≡ order
entries_with count given [] [] long = refl
entries_with count given [] (past ∷ pasts) long = absurd (omega (arith, long))
entries_with count given (entry ∷ order) [] long = ap (λ (rest : Order). entry ∷ rest) (entries_with count given order [] (omega (arith)))
entries_with count given (entry ∷ order) (past ∷ pasts) long =
    ap (λ (rest : Order). entry ∷ rest) (entries_with count given order pasts (omega (arith, long)))

length_entries : (pasts : List Past) → length (entries_of pasts) ≡ length pasts
length_entries [] = refl
length_entries (past ∷ pasts) = ap suc (length_entries pasts)

pub entries_next : (setup : SetupLists) (board : Board) (before : ℕ) (seen : ObservedBeat) (lanes : ℕ) (said : Option Wrong) (pasts : List Past)
    → length (entries_of pasts) ≤ length (begun_next board seen (entries_of pasts))
    → entries_of (since_next setup board before seen lanes said pasts) ≡ begun_next board seen (entries_of pasts)
entries_next setup board before seen lanes said pasts longer =
    entries_with (before + length (begun_next board seen (entries_of pasts))) (hidden_in seen lanes) (begun_next board seen (entries_of pasts))
    (with_looked setup board seen lanes said pasts)
    (omega (arith, longer, length_entries pasts, (seen_looked setup board seen lanes said pasts).count))

-- ---- their ends

ends_with : (count given first : ℕ) (order : Order) (pasts : List Past) → length pasts ≤ length order → first + length order ≡ count + 1 → EndsFrom first pasts
    → EndsFrom first (with_entries count given order pasts)
ends_with count given first [] [] long reaches ends = tt
ends_with count given first [] (past ∷ pasts) long reaches ends = absurd (omega (arith, long))
ends_with count given first (entry ∷ order) [] long reaches ends =
    (λ time at. absurd (cc (at)), ends_with count given (first + 1) order [] (omega (arith)) (omega (arith, reaches)) tt)
ends_with count given first (entry ∷ order) (past ∷ pasts) long reaches ends = (
  λ time at. by_test (is_none past.ended && has_ended entry) time at,
  ends_with count given (first + 1) order pasts (omega (arith, long)) (omega (arith, reaches)) ends.1,
)
  where
    by_test : (b : Bool) (time : ℕ) → (if b then Some count else past.ended) ≡ Some time → first ≤ time
    by_test true time at = let same : Some count ≡ Some time = at in let is : count ≡ time = cc (same) in omega (arith, is, reaches)
    by_test false time at = ends.0 time at

pub ends_next : (setup : SetupLists) (board : Board) (before : ℕ) (seen : ObservedBeat) (lanes : ℕ) (said : Option Wrong) (pasts : List Past)
    → length (entries_of pasts) ≤ length (begun_next board seen (entries_of pasts)) → EndsFrom (before + 1) pasts
    → EndsFrom (before + 1) (since_next setup board before seen lanes said pasts)
ends_next setup board before seen lanes said pasts longer ends =
    let looked = seen_looked setup board seen lanes said pasts in
    ends_with (before + length (begun_next board seen (entries_of pasts))) (hidden_in seen lanes) (before + 1) (begun_next board seen (entries_of pasts))
    (with_looked setup board seen lanes said pasts) (omega (arith, longer, length_entries pasts, looked.count)) (omega (arith)) (looked.ends (before + 1) ends)

pub ends_cut : (count first : ℕ) (pasts : List Past) → first + length pasts ≤ count + 1 → EndsFrom first pasts → EndsFrom first (map (cut_off count) pasts)
ends_cut count first [] reaches ends = tt
ends_cut count first (past ∷ pasts) reaches ends = (λ time at. by_test (is_none past.ended) time at, ends_cut count (first + 1) pasts (omega (arith, reaches)) ends.1)
  where
    by_test : (b : Bool) (time : ℕ) → (if b then record past { ended = Some count; cut = true } else past).ended ≡ Some time → first ≤ time
    by_test true time at = let same : Some count ≡ Some time = at in let is : count ≡ time = cc (same) in omega (arith, is, reaches)
    by_test false time at = ends.0 time at

pub ends_append : (first : ℕ) (before after : List Past) → EndsFrom first before → EndsFrom (first + length before) after → EndsFrom first (before ++ after)
ends_append first [] after one other = subst (λ k. EndsFrom k after) (omega (arith)) other
ends_append first (past ∷ before) after one other =
    (one.0, ends_append (first + 1) before after one.1 (subst (λ k. EndsFrom k after) (omega (arith)) other))
