-- Which requests are spoiled, along lists of beats: one that was spoiled stays so, one that has ended is so no later than it ended, and none is but where
-- errors may be told in any way. Each that has begun keeps its number.
use Rattle.std.proofs.Common.{◌≡◌, ℕ, ◌+◌, ◌<◌, ◌≤◌, ◌==◌, Bool, true, false, ◌&&◌, ◌||◌, not, List, [], ◌∷◌, ◌++◌, map, length, Option, Some, None, Result, Ok, Err, inl, inr, refl, sym, ◌∙◌, ap, subst, arith}
use Rattle.std.specs.Prelude.{slice_get}
use Rattle.std.specs.List.{list_any}
use Rattle.std.proofs.lemmas.Bool.{and_parts, cases_Bool, cases_eq, cases_lt, le-leb, not-true, or_left}
use Rattle.std.proofs.lemmas.List.{get_or_past, length-append, length-map}
use Rattle.tl_messages.specs.Requests.{HeldMessage, WholeRequest, request_of}
use Rattle.tl_checker.specs.Ports.{joined}
use Rattle.tl_checker.specs.declared.Progress.{Progress}
use Rattle.tl_checker.specs.declared.Progress.TheVariants.{More, Whole}
use Rattle.tl_checker.specs.declared.TlRule.{TlRule}
use Rattle.axi_checker.specs.declared.AxiBeat.{AxiBeat}
use Rattle.scoreboard.specs.AxiPorts.{PortBoard}
use Rattle.scoreboard.specs.Boards.{Beginning, Board, ClientBoard, after_all, after_seen, answer_to, is_spoiled, opening_from}
use Rattle.scoreboard.specs.FailedBursts.{Span, failed_span, shares}
use Rattle.scoreboard.specs.Orders.{Entry, Order, after_beat, begun_to, board_after, counted, cut_short, ended_early, has_ended, is_due, is_over, reply_beats, with_beat}
use Rattle.scoreboard.specs.RealTime.{acting_footprint, begun_from, begun_in, begun_next, completed, entry_of, heard, is_open, numbered, struck, with_answered, with_failed, with_progress, with_request}
use Rattle.serial_memory.specs.SerialMemory.{Memory}
use Rattle.scoreboard.specs.declared.Errors.{Errors}
use Rattle.scoreboard.specs.declared.Errors.TheVariants.{Any}
use Rattle.scoreboard.specs.declared.ObservedBeat.{ObservedBeat}
use Rattle.scoreboard.specs.declared.ObservedBeat.TheVariants.{A, D, Axi as OnAxi, Drained}
use Rattle.scoreboard.specs.declared.Policy.TheVariants.{RealTime}
use Rattle.scoreboard.proofs.real_time.Becoming.{EachIn, each_last, each_map, errors_kept, no_entry, numbered_first, numbered_last, numbered_map}

-- ---- one entry

-- as beats come: it stays spoiled, and isn't spoiled once it has ended
pub record Grows (old new : Entry) : Type 0 where
  pub number : new.number ≡ old.number
  pub spoiled : old.spoiled ≡ true → new.spoiled ≡ true
  pub ended : has_ended old ≡ true → has_ended new ≡ true
  pub still : has_ended old ≡ true → new.spoiled ≡ true → old.spoiled ≡ true

grows_same : (entry : Entry) → Grows entry entry
grows_same entry = record { number = refl; spoiled = λ is. is; ended = λ is. is; still = λ ended is. is }

-- no beat came of a reply to one that isn't whole, and one is spoiled only where errors are told in any way
pub record IsRecorded (errors : Errors) (entry : Entry) : Type 0 where
  pub starts : entry.whole ≡ false → entry.came ≡ 0
  pub told : entry.spoiled ≡ true → errors ≡ Any

-- so it hasn't ended
not_ended : (errors : Errors) (entry : Entry) → IsRecorded errors entry → entry.whole ≡ false → has_ended entry ≡ true → ⊥
not_ended errors entry is unwhole ended = grind (arith, is, unwhole, ended)

-- errors are told in any way where one is
pub spoils_any : (errors : Errors) (q : WholeRequest) → is_spoiled errors q ≡ true → errors ≡ Any
spoils_any errors q is = grind (arith, is)

-- a change of an entry
abbrev Keeps : Errors → (Entry → Entry) → Type 0
Keeps errors change = (entry : Entry) → IsRecorded errors entry → Grows entry (change entry) × IsRecorded errors (change entry)

told_more : (errors : Errors) (q : WholeRequest) (entry : Entry) → IsRecorded errors entry → (entry.spoiled || is_spoiled errors q) ≡ true → errors ≡ Any
told_more errors q entry is spoiled = grind (arith, is, spoiled)

heard_keeps : (errors : Errors) (client : ℕ) (q : WholeRequest) → Keeps errors (heard errors client q)
heard_keeps errors client q entry is =
    elim (cases_Bool (is_open client entry)) [
      | inl coming ↦
          let unwhole = not-true entry.whole (and_parts (entry.client == client) (not entry.whole) coming).1 in
          rw coming (
            record {
              number = refl;
              spoiled = λ was. or_left entry.spoiled (is_spoiled errors q) was;
              ended = λ over. over;
              still = λ over now. absurd (not_ended errors entry is unwhole over);
            },
            record { starts = is.starts; told = told_more errors q entry is },
          )
      | inr other ↦ rw other (grows_same entry, is)
    ]

completed_keeps : (errors : Errors) (client : ℕ) (q : WholeRequest) → Keeps errors (completed errors client q)
completed_keeps errors client q entry is =
    elim (cases_Bool (is_open client entry)) [
      | inl coming ↦
          let unwhole = not-true entry.whole (and_parts (entry.client == client) (not entry.whole) coming).1 in
          rw coming (
            record {
              number = refl;
              spoiled = λ was. or_left entry.spoiled (is_spoiled errors q) was;
              ended = λ over. absurd (not_ended errors entry is unwhole over);
              still = λ over now. absurd (not_ended errors entry is unwhole over);
            },
            record { starts = λ whole. absurd (cc (whole)); told = told_more errors q entry is },
          )
      | inr other ↦ rw other (grows_same entry, is)
    ]

struck_keeps : (errors : Errors) (memory : Memory) (span : Span) → errors ≡ Any → Keeps errors (struck memory span)
struck_keeps errors memory span any entry is =
    elim (cases_Bool (not (has_ended entry) && shares span (acting_footprint memory entry.request))) [
      | inl hits ↦
          let live = not-true (has_ended entry) (and_parts (not (has_ended entry)) (shares span (acting_footprint memory entry.request)) hits).0 in
          rw hits (
            record { number = refl; spoiled = λ was. refl; ended = λ over. over; still = λ over now. absurd (cc (sym live ∙ over)) },
            record { starts = is.starts; told = λ now. any },
          )
      | inr other ↦ rw other (grows_same entry, is)
    ]

beat_keeps : (errors : Errors) (begun : Bool) (client source : ℕ) → Keeps errors (with_beat begun client source)
beat_keeps errors begun client source entry is =
    elim (cases_Bool (is_due begun client source entry && entry.request.source == source)) [
      | inl due ↦ rw due (by_whole entry.whole refl)
      | inr other ↦ rw other (grows_same entry, is)
    ]
  where
    by_whole : (whole : Bool) → entry.whole ≡ whole → Grows entry (counted whole entry) × IsRecorded errors (counted whole entry)
    by_whole true whole = grind (arith, whole, le-leb (reply_beats entry.request) (entry.came + 1))
    by_whole false unwhole = grind (arith, unwhole)

early_keeps : (errors : Errors) (over : Bool) (client : ℕ) → Keeps errors (ended_early over client)
early_keeps errors over client entry is =
    elim (cases_Bool (over && begun_to client entry)) [
      | inl ends ↦ rw ends (turned (and_parts over (begun_to client entry) ends).1)
      | inr other ↦ rw other (grows_same entry, is)
    ]
  where
    turned : begun_to client entry ≡ true → Grows entry (record entry { came = reply_beats entry.request }) × IsRecorded errors (record entry { came = reply_beats entry.request })
    turned has = grind (arith, has, le-leb (reply_beats entry.request) (reply_beats entry.request) (omega arith))

-- ---- all that have begun

pub record IsCounted (errors : Errors) (now : Order) : Type 0 where
  pub each : EachIn (IsRecorded errors) now
  pub numbers : (k : ℕ) → k < length now → (numbered now k).number ≡ k

-- with more beats
pub record GrowsTo (errors : Errors) (now next : Order) : Type 0 where
  pub longer : length now ≤ length next
  pub grows : (k : ℕ) → k < length now → Grows (numbered now k) (numbered next k)
  pub counted : IsCounted errors next

goes_same : (errors : Errors) (now : Order) → IsCounted errors now → GrowsTo errors now now
goes_same errors now is = record { longer = omega arith; grows = λ k small. grows_same (numbered now k); counted = is }

goes_map : (errors : Errors) (change : Entry → Entry) (now : Order) → Keeps errors change → IsCounted errors now → GrowsTo errors now (map change now)
goes_map errors change now keeps is =
    record {
      longer = omega (arith, length-map now change);
      grows = grown;
      counted = record {
        each = each_map (IsRecorded errors) (IsRecorded errors) change now (λ entry recorded. (keeps entry recorded).1) is.each;
        numbers = λ k small.
            let within : k < length now = omega (arith, small, length-map now change) in (grown k within).number ∙ is.numbers k within;
      };
    }
  where
    grown : (k : ℕ) → k < length now → Grows (numbered now k) (numbered (map change now) k)
    grown k small = subst (Grows (numbered now k)) (sym (numbered_map change now k small)) (keeps (numbered now k) (is.each k small)).0

goes_last : (errors : Errors) (now : Order) (entry : Entry) → IsRecorded errors entry → entry.number ≡ length now → IsCounted errors now
    → GrowsTo errors now (now ++ entry ∷ [])
goes_last errors now entry own number is =
    record {
      longer = omega (arith, length-append now (entry ∷ []));
      grows = λ k small. subst (Grows (numbered now k)) (sym (numbered_first now entry k small)) (grows_same (numbered now k));
      counted = record {
        each = each_last (IsRecorded errors) now entry is.each own;
        numbers = λ k small.
            elim (cases_eq k (length now)) [
              | inl same ↦ ap (λ i. (numbered (now ++ entry ∷ []) i).number) same ∙ ap (λ (e : Entry). e.number) (numbered_last now entry) ∙ number ∙ sym same
              | inr differ ↦
                  let within : k < length now = omega (arith, small, differ, length-append now (entry ∷ [])) in
                  ap (λ (e : Entry). e.number) (numbered_first now entry k within) ∙ is.numbers k within
            ];
      };
    }

goes_then : (errors : Errors) (one two three : Order) → GrowsTo errors one two → GrowsTo errors two three → GrowsTo errors one three
goes_then errors one two three first rest = grind (arith, first, rest)

-- ---- a beat

begun_recorded : (errors : Errors) (client : ℕ) (q : WholeRequest) (whole : Bool) (number : ℕ)
    → IsRecorded errors (record (entry_of errors client q whole) { number = number })
begun_recorded errors client q whole number = record { starts = λ unwhole. refl; told = spoils_any errors q }

goes_taken : (errors : Errors) (client : ℕ) (front : Option HeldMessage) (q : WholeRequest) (progress : Progress) (now : Order) → IsCounted errors now
    → GrowsTo errors now (with_progress errors client front q progress now)
goes_taken errors client None q More now is =
    goes_last errors now (record (entry_of errors client q false) { number = length now }) (begun_recorded errors client q false (length now)) refl is
goes_taken errors client None q Whole now is =
    goes_last errors now (record (entry_of errors client q true) { number = length now }) (begun_recorded errors client q true (length now)) refl is
goes_taken errors client (Some held) q More now is = goes_map errors (heard errors client q) now (heard_keeps errors client q) is
goes_taken errors client (Some held) q Whole now is = goes_map errors (completed errors client q) now (completed_keeps errors client q) is

goes_failed : (errors : Errors) (memory : Memory) (span : Option Span) (now : Order) → ((some : Span) → span ≡ Some some → errors ≡ Any) → IsCounted errors now
    → GrowsTo errors now (with_failed memory span now)
goes_failed errors memory None now any is = goes_same errors now is
goes_failed errors memory (Some span) now any is = goes_map errors (struck memory span) now (struck_keeps errors memory span (any span refl)) is

-- errors are told in any way where a response tells of one
pub told_any : (errors : Errors) (port : PortBoard) (beat : AxiBeat) (span : Span) → failed_span errors port beat ≡ Some span → errors ≡ Any
told_any errors port beat span is = grind (arith, is)

pub goes_next : (board : Board) (seen : ObservedBeat) (now : Order) → IsCounted board.errors now → GrowsTo board.errors now (begun_next board seen now)
goes_next board (A number beat) now is = by_client (slice_get board.clients number)
  where
    by_answer : (front : Option HeldMessage) (message : HeldMessage) (answer : Result Progress TlRule)
        → GrowsTo board.errors now (with_answered board.errors number front message answer now)
    by_answer front message (Err broken) = goes_same board.errors now is
    by_answer front message (Ok progress) = goes_taken board.errors number front (request_of message) progress now is

    by_client : (found : Option ClientBoard) → GrowsTo board.errors now (with_request board.errors number found beat now)
    by_client None = goes_same board.errors now is
    by_client (Some client) = by_answer client.front (joined client.limits client.front beat) (answer_to RealTime client beat)
goes_next board (D client beat) now is =
    let cut = cut_short now client beat.source in
    let over = is_over now client beat.source in
    let first = goes_map board.errors (ended_early over client) now (early_keeps board.errors over client) is in
    goes_then board.errors now cut (after_beat now client beat.source) first
    (goes_map board.errors (with_beat (list_any (begun_to client) cut) client beat.source) cut
    (beat_keeps board.errors (list_any (begun_to client) cut) client beat.source) first.counted)
goes_next board (OnAxi beat) now is =
    goes_failed board.errors board.memory (failed_span board.errors board.axi beat) now (told_any board.errors board.axi beat) is
goes_next board Drained now is = goes_same board.errors now is

-- ---- lists of beats

pub errors_after : (beats : List ObservedBeat) (board : Board) → (after_all RealTime board beats).errors ≡ board.errors
errors_after [] board = refl
errors_after (seen ∷ beats) board = errors_after beats (after_seen RealTime board seen) ∙ errors_kept board seen

goes_from : (beats : List ObservedBeat) (board : Board) (now : Order) → IsCounted board.errors now → GrowsTo board.errors now (begun_from board now beats)
goes_from [] board now is = goes_same board.errors now is
goes_from (seen ∷ beats) board now is =
    let first = goes_next board seen now is in
    let after = after_seen RealTime board seen in
    goes_then board.errors now (begun_next board seen now) (begun_from after (begun_next board seen now) beats) first
    (subst (λ errors. GrowsTo errors (begun_next board seen now) (begun_from after (begun_next board seen now) beats)) (errors_kept board seen)
    (goes_from beats after (begun_next board seen now) (subst (λ errors. IsCounted errors (begun_next board seen now)) (sym (errors_kept board seen)) first.counted)))

pub from_parts : (first rest : List ObservedBeat) (board : Board) (now : Order)
    → begun_from board now (first ++ rest) ≡ begun_from (after_all RealTime board first) (begun_from board now first) rest
from_parts [] rest board now = refl
from_parts (seen ∷ first) rest board now = from_parts first rest (after_seen RealTime board seen) (begun_next board seen now)

-- since the start
pub counted_in : (errors : Errors) (setup : Beginning) (beats : List ObservedBeat) → IsCounted errors (begun_in errors setup beats)
counted_in errors setup beats = grind (arith, goes_from beats (opening_from errors setup))

-- from a first part of the beats to all of them
pub goes_since : (errors : Errors) (setup : Beginning) (done rest : List ObservedBeat)
    → GrowsTo errors (begun_in errors setup done) (begun_in errors setup (done ++ rest))
goes_since errors setup done rest =
    let board = board_after errors setup done in
    let same = errors_after done (opening_from errors setup) in
    subst (GrowsTo errors (begun_in errors setup done)) (sym (from_parts done rest (opening_from errors setup) []))
    (subst (λ e. GrowsTo e (begun_in errors setup done) (begun_from board (begun_in errors setup done) rest)) same
    (goes_from rest board (begun_in errors setup done) (subst (λ e. IsCounted e (begun_in errors setup done)) (sym same) (counted_in errors setup done))))

-- none is spoiled but where errors are told in any way
pub spoiled_any : (errors : Errors) (setup : Beginning) (beats : List ObservedBeat) (number : ℕ) → (numbered (begun_in errors setup beats) number).spoiled ≡ true
    → errors ≡ Any
spoiled_any errors setup beats number is =
    elim (cases_lt number (length (begun_in errors setup beats))) [
      | inl small ↦ ((counted_in errors setup beats).each number small).told is
      | inr past ↦ absurd (cc (sym (ap (λ (e : Entry). e.spoiled) (get_or_past (begun_in errors setup beats) number no_entry past)) ∙ is))
    ]
