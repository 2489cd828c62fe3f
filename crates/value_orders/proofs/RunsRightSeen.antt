-- One beat more in a history since the start, of which all is known and that isn't found wrong: what was seen of each request goes on.
use Rattle.std.proofs.Common.{◌≡◌, ℕ, zero, suc, ◌<◌, ◌≤◌, ◌+◌, ◌-◌, ◌%◌, ◌&&◌, Bool, true, false, List, [], ◌∷◌, map, length, Option, Some, None, if◌then◌else◌, ◌⊎◌, inl, inr, refl, sym, ◌∙◌, ap, subst, arith}
use Rattle.std.specs.Prelude.{Err, Ok, Result, is_none, slice_get, slice_index_or}
use Rattle.std.proofs.lemmas.Bool.{both_ways, false_from_ne_true}
use Rattle.bus_words.specs.Lanes.{lane_byte}
use Rattle.setups.specs.Setups.{SetupLists}
use Rattle.tl_checker.specs.declared.Progress.{Progress}
use Rattle.tl_checker.specs.declared.TlRule.{TlRule}
use Rattle.tl_messages.specs.Requests.{HeldMessage}
use Rattle.scoreboard.specs.Boards.{Board, ClientBoard, answer_to}
use Rattle.scoreboard.specs.Orders.{Entry, Order, has_ended, is_due_in}
use Rattle.scoreboard.specs.RealTime.{begun_next, is_open, numbered}
use Rattle.scoreboard.specs.Unknown.{unknown_given}
use Rattle.scoreboard.specs.declared.Errors.{Errors}
use Rattle.scoreboard.specs.declared.ObservedBeat.{ObservedBeat}
use Rattle.scoreboard.specs.declared.ObservedBeat.TheVariants.{A, D, Axi as OnAxi, Drained}
use Rattle.scoreboard.specs.declared.Policy.TheVariants.{RealTime}
use Rattle.scoreboard.proofs.real_time.Fates.{GrowsTo}
use Rattle.value_orders.specs.Histories.{History, Past, begun_by, entries_of, first_seen, hear, heard_of, hidden_in, since_next, tells, with_answer, with_entries, with_entry, with_heard, with_looked, with_told}
use Rattle.value_orders.specs.RunOrders.{no_past, past_of}
use Rattle.value_orders.proofs.Entries.{entries_next}
use Rattle.value_orders.proofs.RunsBlameLive.{length_entries}
use Rattle.value_orders.proofs.RunsBlameOrders.{entry_at}
use Rattle.value_orders.proofs.RunsRightSteps.{GoesOn}

-- a history since the start, without a reset
abbrev pub from_start : List Past → History
from_start pasts = record { over = []; since = pasts }

-- ---- by places

map_at : (f : Past → Past) (pasts : List Past) (k : ℕ) → k < length pasts → slice_index_or (map f pasts) k no_past ≡ f (slice_index_or pasts k no_past)
map_at f [] k small = absurd (omega (arith, small))
map_at f (past ∷ pasts) zero small = refl
map_at f (past ∷ pasts) (suc k) small = map_at f pasts k (omega (arith, small))

with_at : (count given : ℕ) (order : Order) (pasts : List Past) (k : ℕ) → length pasts ≤ length order → k < length pasts
    → slice_index_or (with_entries count given order pasts) k no_past ≡ with_entry count (numbered order k) (slice_index_or pasts k no_past)
with_at count given [] pasts k long small = absurd (omega (arith, long, small))
with_at count given (entry ∷ order) [] k long small = absurd (omega (arith, small))
with_at count given (entry ∷ order) (past ∷ pasts) zero long small = refl
with_at count given (entry ∷ order) (past ∷ pasts) (suc k) long small = with_at count given order pasts k (omega (arith, long)) (omega (arith, small))

new_at : (count given : ℕ) (order : Order) (pasts : List Past) (k : ℕ) → length pasts ≤ k → k < length order
    → slice_index_or (with_entries count given order pasts) k no_past ≡ first_seen given (numbered order k)
new_at count given [] pasts k past_all small = absurd (omega (arith, small))
new_at count given (entry ∷ order) [] zero past_all small = refl
new_at count given (entry ∷ order) [] (suc k) past_all small = new_at count given order [] k (omega (arith)) (omega (arith, small))
new_at count given (entry ∷ order) (past ∷ pasts) zero past_all small = absurd (omega (arith, past_all))
new_at count given (entry ∷ order) (past ∷ pasts) (suc k) past_all small = new_at count given order pasts k (omega (arith, past_all)) (omega (arith, small))

-- ---- what is looked at

-- a beat tells this byte to a request
abbrev pub ToldNow : SetupLists → Errors → ObservedBeat → List Past → Past → ℕ → ℕ → Type 0
ToldNow setup errors (A client beat) pasts old x byte = ⊥
ToldNow setup errors (D client beat) pasts old x byte =
    (is_due_in (entries_of pasts) client beat.source old.entry ≡ true) × (tells setup errors old.entry beat 0 x ≡ true) × (lane_byte beat.payload (x % 8) ≡ byte)
ToldNow setup errors (OnAxi beat) pasts old x byte = ⊥
ToldNow setup errors Drained pasts old x byte = ⊥

record Looks (setup : SetupLists) (errors : Errors) (seen : ObservedBeat) (pasts : List Past) (old new : Past) : Type 0 where
  ended : new.ended ≡ old.ended
  told : (x byte : ℕ) → new.told x ≡ Some byte → (old.told x ≡ Some byte) ⊎ ToldNow setup errors seen pasts old x byte

looks_same : (setup : SetupLists) (errors : Errors) (seen : ObservedBeat) (pasts : List Past) (old : Past) → Looks setup errors seen pasts old old
looks_same setup errors seen pasts old = record { ended = refl; told = λ x byte is. inl is }

looked_at : (setup : SetupLists) (board : Board) (seen : ObservedBeat) (pasts : List Past) (k : ℕ) → k < length pasts
    → Looks setup board.errors seen pasts (slice_index_or pasts k no_past) (slice_index_or (with_looked setup board seen 0 None pasts) k no_past)
looked_at setup board (A client beat) pasts k small = by_client (slice_get board.clients client)
  where
    old : Past
    old = slice_index_or pasts k no_past

    by_test : (b : Bool) (past : Past) → Looks setup board.errors (A client beat) pasts past (if b then hear (unknown_given beat 0) past else past)
    by_test true past = record { ended = refl; told = λ x byte is. inl is }
    by_test false past = looks_same setup board.errors (A client beat) pasts past

    by_answer : (front : Option HeldMessage) (answer : Result Progress TlRule)
        → Looks setup board.errors (A client beat) pasts old (slice_index_or (with_answer client (unknown_given beat 0) front answer pasts) k no_past)
    by_answer front (Err broken) = looks_same setup board.errors (A client beat) pasts old
    by_answer None (Ok progress) = looks_same setup board.errors (A client beat) pasts old
    by_answer (Some held) (Ok progress) =
        subst (Looks setup board.errors (A client beat) pasts old) (sym (map_at (heard_of client (unknown_given beat 0)) pasts k small))
        (by_test (is_open client old.entry) old)

    by_client : (found : Option ClientBoard) → Looks setup board.errors (A client beat) pasts old (slice_index_or (with_heard client found beat 0 pasts) k no_past)
    by_client None = looks_same setup board.errors (A client beat) pasts old
    by_client (Some found) = by_answer found.front (answer_to RealTime found beat)
looked_at setup board (D client beat) pasts k small =
    subst (Looks setup board.errors (D client beat) pasts old)
    (sym (map_at (λ past. if is_due_in (entries_of pasts) client beat.source past.entry then with_told setup board.errors beat 0 past else past) pasts k small))
    (by_due (is_due_in (entries_of pasts) client beat.source old.entry) refl)
  where
    old : Past
    old = slice_index_or pasts k no_past

    by_tells : (due : is_due_in (entries_of pasts) client beat.source old.entry ≡ true) (x byte : ℕ) (b : Bool) → tells setup board.errors old.entry beat 0 x ≡ b
        → (if b then Some (lane_byte beat.payload (x % 8)) else old.told x) ≡ Some byte → (old.told x ≡ Some byte) ⊎ ToldNow setup board.errors (D client beat) pasts old x byte
    by_tells due x byte true tells_it is = inr (due, tells_it, cc (is))
    by_tells due x byte false tells_it is = inl is

    by_due : (b : Bool) → is_due_in (entries_of pasts) client beat.source old.entry ≡ b
        → Looks setup board.errors (D client beat) pasts old (if b then with_told setup board.errors beat 0 old else old)
    by_due true due = record { ended = refl; told = λ x byte is. by_tells due x byte (tells setup board.errors old.entry beat 0 x) refl is }
    by_due false due = looks_same setup board.errors (D client beat) pasts old
looked_at setup board (OnAxi beat) pasts k small = looks_same setup board.errors (OnAxi beat) pasts (slice_index_or pasts k no_past)
looked_at setup board Drained pasts k small = looks_same setup board.errors Drained pasts (slice_index_or pasts k no_past)

-- ---- one beat more

-- how an entry goes on
pub record EntryGoes (old new : Entry) : Type 0 where
  pub whole : old.whole ≡ true → (new.whole ≡ true) × (new.request ≡ old.request)
  pub client : new.client ≡ old.client

module _ (setup : SetupLists) (errors : Errors) (board : Board) (seen : ObservedBeat) (pasts : List Past)
    (grows : GrowsTo errors (entries_of pasts) (begun_next board seen (entries_of pasts)))
    (keeps : (k : ℕ) → k < length (entries_of pasts) → EntryGoes (numbered (entries_of pasts) k) (numbered (begun_next board seen (entries_of pasts)) k))
    (looked_long : length (with_looked setup board seen 0 None pasts) ≡ length pasts) where
  abbrev now : Order
  now = entries_of pasts

  abbrev next : Order
  next = begun_next board seen now

  abbrev pub later : List Past
  later = since_next setup board 0 seen 0 None pasts

  pub entries_are : entries_of later ≡ next
  entries_are = entries_next setup board 0 seen 0 None pasts grows.longer

  pub later_long : length later ≡ length next
  later_long = sym (length_entries later) ∙ ap (λ (order : Order). length order) entries_are

  pub longer : begun_by (from_start pasts) ≤ begun_by (from_start later)
  longer = omega (arith, later_long, grows.longer, length_entries pasts)

  pub entry_now : (number : ℕ) → 0 < number → (past_of (from_start pasts) number).entry ≡ numbered now (number - (0 + 1))
  entry_now number from_one = sym (entry_at (from_start pasts) number (omega (arith, from_one)))

  pub entry_next : (number : ℕ) → 0 < number → (past_of (from_start later) number).entry ≡ numbered next (number - (0 + 1))
  entry_next number from_one =
      sym (entry_at (from_start later) number (omega (arith, from_one))) ∙ ap (λ (order : Order). numbered order (number - (0 + 1))) entries_are

  within : (number : ℕ) → 0 < number → number ≤ begun_by (from_start pasts) → number - (0 + 1) < length now
  within number from_one some = omega (arith, from_one, some, length_entries pasts)

  small : (number : ℕ) → 0 < number → number ≤ begun_by (from_start pasts) → number - 1 < length pasts
  small number from_one some = omega (arith, from_one, some)

  looks : (number : ℕ) → 0 < number → number ≤ begun_by (from_start pasts)
      → Looks setup board.errors seen pasts (past_of (from_start pasts) number) (slice_index_or (with_looked setup board seen 0 None pasts) (number - 1) no_past)
  looks number from_one some = looked_at setup board seen pasts (number - 1) (small number from_one some)

  later_at : (number : ℕ) → 0 < number → number ≤ begun_by (from_start pasts)
      → past_of (from_start later) number
      ≡ with_entry (0 + length next) (numbered next (number - 1)) (slice_index_or (with_looked setup board seen 0 None pasts) (number - 1) no_past)
  later_at number from_one some =
      with_at (0 + length next) (hidden_in seen 0) next (with_looked setup board seen 0 None pasts) (number - 1)
      (omega (arith, looked_long, grows.longer, length_entries pasts)) (omega (arith, looked_long, small number from_one some))

  pub told_next : (number : ℕ) → 0 < number → number ≤ begun_by (from_start pasts) → (x byte : ℕ) → (past_of (from_start later) number).told x ≡ Some byte
      → ((past_of (from_start pasts) number).told x ≡ Some byte) ⊎ ToldNow setup board.errors seen pasts (past_of (from_start pasts) number) x byte
  told_next number from_one some x byte is =
      (looks number from_one some).told x byte (sym (ap (λ (past : Past). past.told x) (later_at number from_one some)) ∙ is)

  ended_next : (number : ℕ) → 0 < number → number ≤ begun_by (from_start pasts) → (time : ℕ) → (past_of (from_start later) number).ended ≡ Some time
      → ((past_of (from_start pasts) number).ended ≡ Some time) ⊎ (time ≡ begun_by (from_start later))
  ended_next number from_one some time is =
      by_test (is_none looked.ended && has_ended (numbered next (number - 1))) (sym (ap (λ (past : Past). past.ended) (later_at number from_one some)) ∙ is)
    where
      looked : Past
      looked = slice_index_or (with_looked setup board seen 0 None pasts) (number - 1) no_past

      by_test : (b : Bool) → (if b then Some (0 + length next) else looked.ended) ≡ Some time
          → ((past_of (from_start pasts) number).ended ≡ Some time) ⊎ (time ≡ begun_by (from_start later))
      by_test true at = let same : Some (0 + length next) ≡ Some time = at in let now_is : 0 + length next ≡ time = cc (same) in inr (omega (arith, now_is, later_long))
      by_test false at = inl (sym (looks number from_one some).ended ∙ at)

  pub goes_next : (number : ℕ) → 0 < number → number ≤ begun_by (from_start pasts)
      → GoesOn (begun_by (from_start later)) (past_of (from_start pasts) number) (past_of (from_start later) number)
  goes_next number from_one some =
      record {
        whole = λ is. by_whole (goes.whole (sym (ap (λ (entry : Entry). entry.whole) (entry_now number from_one)) ∙ is));
        client = ap (λ (entry : Entry). entry.client) (entry_next number from_one) ∙ goes.client ∙ sym (ap (λ (entry : Entry). entry.client) (entry_now number from_one));
        ended = ended_next number from_one some;
        live = λ live.
            ap has_ended (entry_now number from_one)
            ∙ false_from_ne_true (has_ended (numbered now (number - (0 + 1))))
            (λ over. both_ways (has_ended (past_of (from_start later) number).entry) live
            (ap has_ended (entry_next number from_one) ∙ (grows.grows (number - (0 + 1)) (within number from_one some)).ended over));
      }
    where
      goes : EntryGoes (numbered now (number - (0 + 1))) (numbered next (number - (0 + 1)))
      goes = keeps (number - (0 + 1)) (within number from_one some)

      by_whole : ((numbered next (number - (0 + 1))).whole ≡ true) × ((numbered next (number - (0 + 1))).request ≡ (numbered now (number - (0 + 1))).request)
          → ((past_of (from_start later) number).entry.whole ≡ true) × ((past_of (from_start later) number).entry.request ≡ (past_of (from_start pasts) number).entry.request)
      by_whole both = (
        ap (λ (entry : Entry). entry.whole) (entry_next number from_one) ∙ both.0,
        ap (λ (entry : Entry). entry.request) (entry_next number from_one) ∙ both.1 ∙ sym (ap (λ (entry : Entry). entry.request) (entry_now number from_one)),
      )

  -- one that has just begun
  pub new_past : (number : ℕ) → begun_by (from_start pasts) < number → number ≤ begun_by (from_start later)
      → past_of (from_start later) number ≡ first_seen (hidden_in seen 0) (numbered next (number - 1))
  new_past number beyond some =
      new_at (0 + length next) (hidden_in seen 0) next (with_looked setup board seen 0 None pasts) (number - 1) (omega (arith, looked_long, beyond))
      (omega (arith, some, later_long, beyond))
