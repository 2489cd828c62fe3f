-- Of the requests since the last reset none was cut off, and one has ended only where its entry has: so one to which a beat is due hasn't.
use Rattle.std.proofs.Common.{◌≡◌, ℕ, ◌<◌, ◌≤◌, ◌+◌, ◌&&◌, Bool, true, false, List, [], ◌∷◌, map, length, Option, Some, None, if◌then◌else◌, suc, refl, sym, ◌∙◌, ap, subst, arith}
use Rattle.std.specs.Prelude.{Err, Ok, Result, is_none, slice_get}
use Rattle.std.specs.List.{AllByRecursion}
use Rattle.std.proofs.lemmas.Bool.{and_parts}
use Rattle.setups.specs.Setups.{SetupLists}
use Rattle.tl_checker.specs.declared.Progress.{Progress}
use Rattle.tl_checker.specs.declared.TlRule.{TlRule}
use Rattle.tl_messages.specs.Requests.{HeldMessage}
use Rattle.scoreboard.specs.Boards.{Beginning, Board, ClientBoard, answer_to}
use Rattle.scoreboard.specs.Orders.{Entry, Order, has_ended, is_due_in}
use Rattle.scoreboard.specs.RealTime.{begun_next, is_open, numbered}
use Rattle.scoreboard.specs.Unknown.{UnknownBoard, unknown_given}
use Rattle.scoreboard.specs.declared.Errors.{Errors}
use Rattle.scoreboard.specs.declared.ObservedBeat.{ObservedBeat}
use Rattle.scoreboard.specs.declared.ObservedBeat.TheVariants.{A, D, Axi as OnAxi, Drained}
use Rattle.scoreboard.specs.declared.Policy.TheVariants.{RealTime}
use Rattle.scoreboard.specs.declared.Wrong.{Wrong}
use Rattle.scoreboard.proofs.real_time.Fates.{GrowsTo, IsCounted, goes_next}
use Rattle.value_orders.specs.Histories.{Happening, Reset, Seen, History, Past, board_next, entries_of, hear, hidden_in, history_from, history_in, history_next, no_history, opening, with_answer, with_entries, with_heard, with_looked, with_told}
use Rattle.value_orders.proofs.WellHistories.{IsKept, kept_in, kept_next}

pub record IsLive (past : Past) : Type 0 where
  pub uncut : past.cut ≡ false
  pub ends : (time : ℕ) → past.ended ≡ Some time → has_ended past.entry ≡ true

abbrev pub AreLive : List Past → Type 0
AreLive pasts = AllByRecursion IsLive pasts

-- ---- with what is looked at

live_if : (test : Past → Bool) (change : Past → Past) → ((past : Past) → IsLive past → IsLive (change past)) → (pasts : List Past) → AreLive pasts
    → AreLive (map (λ past. if test past then change past else past) pasts)
live_if test change keeps [] live = tt
live_if test change keeps (past ∷ pasts) live = (by_test (test past), live_if test change keeps pasts live.1)
  where
    by_test : (b : Bool) → IsLive (if b then change past else past)
    by_test true = keeps past live.0
    by_test false = live.0

live_looked : (setup : SetupLists) (board : Board) (seen : ObservedBeat) (lanes : ℕ) (said : Option Wrong) (pasts : List Past) → AreLive pasts
    → AreLive (with_looked setup board seen lanes said pasts)
live_looked setup board (A client beat) lanes said pasts live = by_client (slice_get board.clients client)
  where
    by_answer : (front : Option HeldMessage) (answer : Result Progress TlRule) → AreLive (with_answer client (unknown_given beat lanes) front answer pasts)
    by_answer front (Err broken) = live
    by_answer None (Ok progress) = live
    by_answer (Some held) (Ok progress) =
        live_if (λ past. is_open client past.entry) (hear (unknown_given beat lanes)) (λ past is. record { uncut = is.uncut; ends = is.ends }) pasts live

    by_client : (found : Option ClientBoard) → AreLive (with_heard client found beat lanes pasts)
    by_client None = live
    by_client (Some found) = by_answer found.front (answer_to RealTime found beat)
live_looked setup board (D client beat) lanes (Some wrong) pasts live = live
live_looked setup board (D client beat) lanes None pasts live =
    live_if (λ past. is_due_in (entries_of pasts) client beat.source past.entry) (with_told setup board.errors beat lanes)
    (λ past is. record { uncut = is.uncut; ends = is.ends }) pasts live
live_looked setup board (OnAxi beat) lanes said pasts live = live
live_looked setup board Drained lanes said pasts live = live

-- ---- their entries, which go on

live_with : (count given : ℕ) (order : Order) (pasts : List Past) → length pasts ≤ length order
    → ((k : ℕ) → k < length pasts → has_ended (numbered (entries_of pasts) k) ≡ true → has_ended (numbered order k) ≡ true)
    → AreLive pasts → AreLive (with_entries count given order pasts)
live_with count given [] pasts long grows live = live
live_with count given (entry ∷ order) [] long grows live =
    (record { uncut = refl; ends = λ time at. absurd (cc (at)) }, live_with count given order [] (omega (arith)) (λ k small. absurd (omega (arith, small))) tt)
live_with count given (entry ∷ order) (past ∷ pasts) long grows live = (
  record { uncut = live.0.uncut; ends = λ time at. by_test (is_none past.ended && has_ended entry) refl time at },
  live_with count given order pasts (omega (arith, long)) (λ k small. grows (suc k) (omega (arith, small))) live.1,
)
  where
    by_test : (b : Bool) → (is_none past.ended && has_ended entry) ≡ b → (time : ℕ) → (if b then Some count else past.ended) ≡ Some time → has_ended entry ≡ true
    by_test true is time at = (and_parts (is_none past.ended) (has_ended entry) is).1
    by_test false is time at = grows 0 (omega (arith)) (live.0.ends time at)

-- the entries don't change with what is looked at
same_entries : (test : Past → Bool) (change : Past → Past) → ((past : Past) → (change past).entry ≡ past.entry) → (pasts : List Past)
    → entries_of (map (λ past. if test past then change past else past) pasts) ≡ entries_of pasts
same_entries test change same [] = refl
same_entries test change same (past ∷ pasts) =
    ap (λ (entry : Entry). entry ∷ entries_of (map (λ past. if test past then change past else past) pasts)) (by_test (test past))
    ∙ ap (λ (rest : Order). past.entry ∷ rest) (same_entries test change same pasts)
  where
    by_test : (b : Bool) → (if b then change past else past).entry ≡ past.entry
    by_test true = same past
    by_test false = refl

pub looked_entries : (setup : SetupLists) (board : Board) (seen : ObservedBeat) (lanes : ℕ) (said : Option Wrong) (pasts : List Past)
    → entries_of (with_looked setup board seen lanes said pasts) ≡ entries_of pasts
looked_entries setup board (A client beat) lanes said pasts = by_client (slice_get board.clients client)
  where
    by_answer : (front : Option HeldMessage) (answer : Result Progress TlRule)
        → entries_of (with_answer client (unknown_given beat lanes) front answer pasts) ≡ entries_of pasts
    by_answer front (Err broken) = refl
    by_answer None (Ok progress) = refl
    by_answer (Some held) (Ok progress) = same_entries (λ past. is_open client past.entry) (hear (unknown_given beat lanes)) (λ past. refl) pasts

    by_client : (found : Option ClientBoard) → entries_of (with_heard client found beat lanes pasts) ≡ entries_of pasts
    by_client None = refl
    by_client (Some found) = by_answer found.front (answer_to RealTime found beat)
looked_entries setup board (D client beat) lanes (Some wrong) pasts = refl
looked_entries setup board (D client beat) lanes None pasts =
    same_entries (λ past. is_due_in (entries_of pasts) client beat.source past.entry) (with_told setup board.errors beat lanes) (λ past. refl) pasts
looked_entries setup board (OnAxi beat) lanes said pasts = refl
looked_entries setup board Drained lanes said pasts = refl

pub length_entries : (pasts : List Past) → length (entries_of pasts) ≡ length pasts
length_entries [] = refl
length_entries (past ∷ pasts) = ap suc (length_entries pasts)

-- ---- along a run

module _ (setup : SetupLists) (errors : Errors) where
  pub live_next : (old : UnknownBoard) (history : History) (happening : Happening) → IsKept errors old.board history → AreLive history.since
      → AreLive (history_next setup old.board happening history).since
  live_next old history (Seen seen lanes said) kept live =
      live_with (length history.over + length now) (hidden_in seen lanes) now looked (omega (arith, grows.longer, same_length))
      (λ k small. goes k (subst (λ n. k < n) same_length small))
      (live_looked setup old.board seen lanes said history.since live)
    where
      before : Order
      before = entries_of history.since

      now : Order
      now = begun_next old.board seen before

      looked : List Past
      looked = with_looked setup old.board seen lanes said history.since

      same : entries_of looked ≡ before
      same = looked_entries setup old.board seen lanes said history.since

      same_length : length looked ≡ length before
      same_length = sym (length_entries looked) ∙ ap (λ (order : Order). length order) same

      grows : GrowsTo errors before now
      grows = subst (λ e. GrowsTo e before now) kept.errors_are
          (goes_next old.board seen before (subst (λ e. IsCounted e before) (sym kept.errors_are) kept.counted))

      goes : (k : ℕ) → k < length before → has_ended (numbered (entries_of looked) k) ≡ true → has_ended (numbered now k) ≡ true
      goes k small over = (grows.grows k small).ended (ap (λ (order : Order). has_ended (numbered order k)) (sym same) ∙ over)
  live_next old history Reset kept live = tt

  live_from : (happenings : List Happening) (board : UnknownBoard) (history : History) → IsKept errors board.board history → AreLive history.since
      → AreLive (history_from setup board history happenings).since
  live_from [] board history kept live = live
  live_from (happening ∷ rest) board history kept live =
      live_from rest (board_next board happening) (history_next setup board.board happening history) (kept_next setup errors board history happening kept)
      (live_next board history happening kept live)

pub live_in : (errors : Errors) (beginning : Beginning) (happenings : List Happening) → AreLive (history_in errors beginning happenings).since
live_in errors beginning happenings = live_from beginning.lists errors happenings (opening errors beginning) no_history (kept_in errors beginning []) tt
