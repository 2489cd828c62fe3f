-- What holds of each request of a run, along all that happens: a checker let it pass, and it ends no earlier than it begins.
use Rattle.std.proofs.Common.{length-append, ◌≡◌, ℕ, ◌<◌, ◌≤◌, ◌+◌, ◌-◌, Bool, true, false, List, [], ◌∷◌, ◌++◌, map, length, Option, Some, None, if◌then◌else◌, suc, zero, refl, sym, ◌∙◌, ap, subst, arith}
use Rattle.std.specs.Prelude.{Err, Ok, Result, is_none, slice_get, slice_index_or}
use Rattle.std.specs.List.{AllByRecursion}
use Rattle.setups.specs.Setups.{SetupLists}
use Rattle.tl_checker.specs.Ports.{joined}
use Rattle.tl_checker.specs.declared.Progress.{Progress}
use Rattle.tl_checker.specs.declared.Progress.TheVariants.{More, Whole}
use Rattle.tl_checker.specs.declared.TlRule.{TlRule}
use Rattle.tl_messages.specs.declared.ABeat.{ABeat}
use Rattle.scoreboard.specs.Boards.{Beginning, Board, ClientBoard, after_a, after_seen, answer_to, answered_on}
use Rattle.scoreboard.specs.Orders.{Entry, Order}
use Rattle.scoreboard.specs.RealTime.{begun_next}
use Rattle.scoreboard.specs.Resets.{reset_client, reset_on}
use Rattle.scoreboard.specs.Unknown.{UnknownBoard, after_seen_unknown, known_of, unknown_answered, unknown_given, unknown_request}
use Rattle.scoreboard.specs.declared.Errors.{Errors}
use Rattle.scoreboard.specs.declared.ObservedBeat.{ObservedBeat}
use Rattle.scoreboard.specs.declared.ObservedBeat.TheVariants.{A, D, Axi as OnAxi, Drained}
use Rattle.scoreboard.specs.declared.Policy.TheVariants.{RealTime}
use Rattle.scoreboard.specs.declared.Wrong.{Wrong}
use Rattle.scoreboard.proofs.real_time.Becoming.{EachIn, IsFollowed, errors_kept, followed_next}
use Rattle.scoreboard.proofs.real_time.CheckedRequests.{IsFrontRight, front_none}
use Rattle.scoreboard.proofs.real_time.Fates.{GrowsTo, IsCounted, IsRecorded, goes_next}
use Rattle.scoreboard.proofs.real_time.Fronts.{AreFronts, changed_from, fronts_opening}
use Rattle.scoreboard.proofs.real_time.RequestActs.{IsWell}
use Rattle.value_orders.specs.Histories.{Happening, Reset, Seen, History, Past, all_past, begun_by, board_from, board_in, board_next, cut_off, entries_of, history_from, history_in, history_next, no_history, opening, since_next}
use Rattle.value_orders.specs.RunOrders.{no_past, past_of}
use Rattle.value_orders.proofs.Effects.{IsWellPast}
use Rattle.value_orders.proofs.Entries.{EndsFrom, ends_append, ends_cut, ends_next, entries_next}
use Rattle.value_orders.proofs.FineEntries.{IsFine, fine_next}

-- ---- the board of a beat of which not all is known: all but what is indeterminate is as if it were known

pub record IsBeside (known next : Board) : Type 0 where
  pub unsure : ℕ → Bool
  pub is : next ≡ record known { indeterminate = unsure }

beside_same : (board : Board) → IsBeside board board
beside_same board = record { unsure = board.indeterminate; is = refl }

-- where nothing is taken nothing changes
not_taken : (board : Board) (number : ℕ) (beat : ABeat) → after_seen RealTime board (A number beat) ≡ board → IsBeside (after_seen RealTime board (A number beat)) board
not_taken board number beat same = record { unsure = board.indeterminate; is = ap (λ (b : Board). record b { indeterminate = board.indeterminate }) (sym same) }

beside_request : (old : UnknownBoard) (number : ℕ) (beat : ABeat) (lanes : ℕ) (found : Option ClientBoard) → slice_get old.board.clients number ≡ found
    → IsBeside (after_seen RealTime old.board (A number beat)) (unknown_request RealTime old number found beat lanes).board
beside_request old number beat lanes None there = not_taken old.board number beat (ap (λ (o : Option ClientBoard). after_a RealTime old.board number o beat) there)
beside_request old number beat lanes (Some client) there = by_answer (answer_to RealTime client beat) refl
  where
    by_answer : (answer : Result Progress TlRule) → answer_to RealTime client beat ≡ answer
        → IsBeside (after_seen RealTime old.board (A number beat)) (unknown_answered RealTime old number client beat (unknown_given beat lanes) answer).board
    by_answer (Err broken) is =
        not_taken old.board number beat
        (ap (λ (o : Option ClientBoard). after_a RealTime old.board number o beat) there
        ∙ ap (λ (a : Result Progress TlRule). answered_on RealTime old.board number client (joined client.limits client.front beat) a) is)
    by_answer (Ok More) is = beside_same (after_seen RealTime old.board (A number beat))
    by_answer (Ok Whole) is = record { unsure = _; is = refl }

pub beside_seen : (old : UnknownBoard) (seen : ObservedBeat) (lanes : ℕ)
    → IsBeside (after_seen RealTime old.board (known_of RealTime old.board seen lanes)) (after_seen_unknown RealTime old seen lanes).board
beside_seen old (A client beat) lanes = beside_request old client beat lanes (slice_get old.board.clients client) refl
beside_seen old (D client beat) lanes = beside_same (after_seen RealTime old.board (known_of RealTime old.board (D client beat) lanes))
beside_seen old (OnAxi beat) lanes = beside_same (after_seen RealTime old.board (OnAxi beat))
beside_seen old Drained lanes = beside_same (after_seen RealTime old.board Drained)

-- what has begun goes on alike
pub known_begins : (board : Board) (seen : ObservedBeat) (lanes : ℕ) (now : Order)
    → begun_next board (known_of RealTime board seen lanes) now ≡ begun_next board seen now
known_begins board (A client beat) lanes now = refl
known_begins board (D client beat) lanes now = refl
known_begins board (OnAxi beat) lanes now = refl
known_begins board Drained lanes now = refl

-- ---- a board and what was seen

pub record IsKept (errors : Errors) (board : Board) (history : History) : Type 0 where
  pub errors_are : board.errors ≡ errors
  pub followed : IsFollowed board (entries_of history.since)
  pub counted : IsCounted errors (entries_of history.since)
  pub fine : EachIn (IsFine errors) (entries_of history.since)
  pub over : AllByRecursion (IsWellPast errors) history.over
  pub ends_over : EndsFrom 1 history.over
  pub ends : EndsFrom (length history.over + 1) history.since

followed_beside : (known next : Board) (now : Order) → IsBeside known next → IsFollowed known now → IsFollowed next now
followed_beside known next now beside follows =
    subst (λ (b : Board). IsFollowed b now) (sym beside.is) (record { fronts = follows.fronts; held = follows.held })

errors_beside : (known next : Board) → IsBeside known next → next.errors ≡ known.errors
errors_beside known next beside = ap (λ (b : Board). b.errors) beside.is

-- ---- one thing more

module _ (setup : SetupLists) (errors : Errors) where
  kept_seen : (old : UnknownBoard) (history : History) (seen : ObservedBeat) (lanes : ℕ) (said : Option Wrong) → IsKept errors old.board history
      → IsKept errors (board_next old (Seen seen lanes said)).board (history_next setup old.board (Seen seen lanes said) history)
  kept_seen old history seen lanes said kept =
      record {
        errors_are = errors_beside known next beside ∙ errors_kept old.board (known_of RealTime old.board seen lanes) ∙ kept.errors_are;
        followed = subst (IsFollowed next) (sym entries)
            (followed_beside known next now beside
            (subst (IsFollowed known) (known_begins old.board seen lanes before) (followed_next old.board (known_of RealTime old.board seen lanes) before kept.followed)));
        counted = subst (IsCounted errors) (sym entries) grows.counted;
        fine = subst (EachIn (IsFine errors)) (sym entries)
            (subst (λ e. EachIn (IsFine e) now) kept.errors_are
            (fine_next old.board seen before (subst (λ e. EachIn (IsFine e) before) (sym kept.errors_are) kept.fine)));
        over = kept.over;
        ends_over = kept.ends_over;
        ends = ends_next setup old.board (length history.over) seen lanes said history.since grows.longer kept.ends;
      }
    where
      before : Order
      before = entries_of history.since

      now : Order
      now = begun_next old.board seen before

      known : Board
      known = after_seen RealTime old.board (known_of RealTime old.board seen lanes)

      next : Board
      next = (after_seen_unknown RealTime old seen lanes).board

      beside : IsBeside known next
      beside = beside_seen old seen lanes

      grows : GrowsTo errors before now
      grows = subst (λ e. GrowsTo e before now) kept.errors_are
          (goes_next old.board seen before (subst (λ e. IsCounted e before) (sym kept.errors_are) kept.counted))

      entries : entries_of (since_next setup old.board (length history.over) seen lanes said history.since) ≡ now
      entries = entries_next setup old.board (length history.over) seen lanes said history.since grows.longer

-- ---- a reset

-- what holds of each entry holds of each request
each_past : (P : Entry → Type 0) (pasts : List Past) → EachIn P (entries_of pasts) → AllByRecursion (λ past. P past.entry) pasts
each_past P [] each = tt
each_past P (past ∷ pasts) each = (each 0 (omega (arith)), each_past P pasts (λ k small. each (suc k) (omega (arith, small))))

all_three : (P Q R S : Past → Type 0) (pasts : List Past) → ((past : Past) → P past → Q past → R past → S past) → AllByRecursion P pasts → AllByRecursion Q pasts
    → AllByRecursion R pasts → AllByRecursion S pasts
all_three P Q R S [] join one two three = tt
all_three P Q R S (past ∷ pasts) join one two three = (join past one.0 two.0 three.0, all_three P Q R S pasts join one.1 two.1 three.1)

-- those since the last reset are such as a checker lets pass
pub since_well : (errors : Errors) (board : Board) (history : History) → IsKept errors board history → AllByRecursion (IsWellPast errors) history.since
since_well errors board history kept =
    all_three (λ past. IsWell past.entry.request) (λ past. IsRecorded errors past.entry) (λ past. IsFine errors past.entry) (IsWellPast errors) history.since
    (λ past well recorded fine. record { well = λ whole. well; no_atomic = fine.no_atomic; any = recorded.told; sound = fine.sound })
    (each_past (λ entry. IsWell entry.request) history.since (λ k small. (kept.followed.held k small).1))
    (each_past (IsRecorded errors) history.since kept.counted.each)
    (each_past (IsFine errors) history.since kept.fine)

cut_well : (errors : Errors) (count : ℕ) (past : Past) → IsWellPast errors past → IsWellPast errors (cut_off count past)
cut_well errors count past well = by_test (is_none past.ended)
  where
    by_test : (b : Bool) → IsWellPast errors (if b then record past { ended = Some count; cut = true } else past)
    by_test true = record { well = well.well; no_atomic = well.no_atomic; any = well.any; sound = well.sound }
    by_test false = well

all_cut : (errors : Errors) (count : ℕ) (pasts : List Past) → AllByRecursion (IsWellPast errors) pasts → AllByRecursion (IsWellPast errors) (map (cut_off count) pasts)
all_cut errors count [] all = tt
all_cut errors count (past ∷ pasts) all = (cut_well errors count past all.0, all_cut errors count pasts all.1)

all_append : (P : Past → Type 0) (before after : List Past) → AllByRecursion P before → AllByRecursion P after → AllByRecursion P (before ++ after)
all_append P [] after one other = other
all_append P (past ∷ before) after one other = (one.0, all_append P before after one.1 other)

-- clients that are reset have begun nothing
reset_fronts : (board : Board) → AreFronts (reset_on board).clients
reset_fronts board number client there =
    let found = changed_from reset_client board.clients number client there in
    subst IsFrontRight found.2 (front_none (reset_client found.0) refl)

module _ (setup : SetupLists) (errors : Errors) where
  kept_reset : (old : UnknownBoard) (history : History) → IsKept errors old.board history
      → IsKept errors (board_next old Reset).board (history_next setup old.board Reset history)
  kept_reset old history kept =
      record {
        errors_are = kept.errors_are;
        followed = record { fronts = reset_fronts old.board; held = λ k small. absurd (omega (arith, small)) };
        counted = record { each = λ k small. absurd (omega (arith, small)); numbers = λ k small. absurd (omega (arith, small)) };
        fine = λ k small. absurd (omega (arith, small));
        over = all_append (IsWellPast errors) history.over (map (cut_off (begun_by history)) history.since) kept.over
            (all_cut errors (begun_by history) history.since (since_well errors old.board history kept));
        ends_over = ends_append 1 history.over (map (cut_off (begun_by history)) history.since) kept.ends_over
            (subst (λ k. EndsFrom k (map (cut_off (begun_by history)) history.since)) (omega (arith))
            (ends_cut (begun_by history) (length history.over + 1) history.since (omega (arith, length-append history.over history.since)) kept.ends));
        ends = tt;
      }

  pub kept_next : (old : UnknownBoard) (history : History) (happening : Happening) → IsKept errors old.board history
      → IsKept errors (board_next old happening).board (history_next setup old.board happening history)
  kept_next old history (Seen seen lanes said) kept = kept_seen setup errors old history seen lanes said kept
  kept_next old history Reset kept = kept_reset old history kept

  kept_from : (happenings : List Happening) (board : UnknownBoard) (history : History) → IsKept errors board.board history
      → IsKept errors (board_from board happenings).board (history_from setup board history happenings)
  kept_from [] board history kept = kept
  kept_from (happening ∷ rest) board history kept =
      kept_from rest (board_next board happening) (history_next setup board.board happening history) (kept_next board history happening kept)

-- since the start
pub kept_in : (errors : Errors) (beginning : Beginning) (happenings : List Happening)
    → IsKept errors (board_in errors beginning happenings).board (history_in errors beginning happenings)
kept_in errors beginning happenings =
    kept_from beginning.lists errors happenings (opening errors beginning) no_history
    (record {
      errors_are = refl;
      followed = record { fronts = fronts_opening beginning.lists; held = λ k small. absurd (omega (arith, small)) };
      counted = record { each = λ k small. absurd (omega (arith, small)); numbers = λ k small. absurd (omega (arith, small)) };
      fine = λ k small. absurd (omega (arith, small));
      over = tt;
      ends_over = tt;
      ends = tt;
    })

-- ---- each request by its number

at_number : (P : Past → Type 0) (pasts : List Past) (place : ℕ) → AllByRecursion P pasts → place < length pasts → P (slice_index_or pasts place no_past)
at_number P [] place all below = absurd (omega (arith, below))
at_number P (past ∷ pasts) zero all below = all.0
at_number P (past ∷ pasts) (suc place) all below = at_number P pasts place all.1 (omega (arith, below))

pub all_well : (errors : Errors) (board : Board) (history : History) → IsKept errors board history → (number : ℕ) → 0 < number → number ≤ begun_by history
    → IsWellPast errors (past_of history number)
all_well errors board history kept number from_one some =
    at_number (IsWellPast errors) (all_past history) (number - 1)
    (all_append (IsWellPast errors) history.over history.since kept.over (since_well errors board history kept)) (omega (arith, from_one, some))

pub all_end : (errors : Errors) (board : Board) (history : History) → IsKept errors board history → EndsFrom 1 (all_past history)
all_end errors board history kept =
    ends_append 1 history.over history.since kept.ends_over (subst (λ k. EndsFrom k history.since) (omega (arith)) kept.ends)
