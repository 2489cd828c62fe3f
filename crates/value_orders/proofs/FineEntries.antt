-- What else holds of each request that has begun: one of several beats is no atomic, and one that isn't spoiled isn't corrupt, where that may be told in any way.
use Rattle.std.proofs.Common.{◌≡◌, ℕ, ◌==◌, Bool, true, false, ◌&&◌, ◌||◌, not, length, Option, Some, None, if◌then◌else◌, refl, sym, ◌∙◌, ap, arith}
use Rattle.std.specs.Prelude.{Err, Ok, Result, slice_get}
use Rattle.std.specs.List.{list_any}
use Rattle.std.proofs.lemmas.Bool.{both_ways, or_parts}
use Rattle.serial_memory.specs.SerialMemory.{Memory}
use Rattle.tl_checker.specs.Ports.{joined, judged}
use Rattle.tl_checker.specs.declared.Progress.{Progress}
use Rattle.tl_checker.specs.declared.Progress.TheVariants.{More, Whole}
use Rattle.tl_checker.specs.declared.TlRule.{TlRule}
use Rattle.tl_messages.specs.Requests.{HeldMessage, WholeRequest, request_of}
use Rattle.tl_messages.specs.declared.ABeat.{ABeat}
use Rattle.tl_messages.specs.declared.AtomicOp.{AtomicOp}
use Rattle.tl_messages.specs.declared.Operation.TheVariants.{Atomic}
use Rattle.scoreboard.specs.Boards.{Board, ClientBoard, answer_to, is_spoiled}
use Rattle.scoreboard.specs.FailedBursts.{Span, failed_span}
use Rattle.scoreboard.specs.Flights.{is_busy}
use Rattle.scoreboard.specs.Orders.{Entry, Order, begun_to, cut_short, ended_early, is_over, with_beat}
use Rattle.scoreboard.specs.RealTime.{begun_next, completed, entry_of, heard, struck, with_answered, with_failed, with_progress, with_request}
use Rattle.scoreboard.specs.declared.Errors.{Errors}
use Rattle.scoreboard.specs.declared.Errors.TheVariants.{Any}
use Rattle.scoreboard.specs.declared.ObservedBeat.{ObservedBeat}
use Rattle.scoreboard.specs.declared.ObservedBeat.TheVariants.{A, D, Axi as OnAxi, Drained}
use Rattle.scoreboard.specs.declared.Policy.TheVariants.{RealTime}
use Rattle.scoreboard.proofs.real_time.Becoming.{EachIn, each_last, each_map}
use Rattle.scoreboard.proofs.real_time.FirstBeats.{more_put}

pub record IsFine (errors : Errors) (entry : Entry) : Type 0 where
  pub no_atomic : entry.whole ≡ false → (op : AtomicOp) → entry.request.operation ≡ Atomic op → ⊥
  pub sound : errors ≡ Any → entry.spoiled ≡ false → entry.request.corrupt ≡ false

-- where errors may be told in any way what isn't spoiled isn't corrupt
spoils_corrupt : (errors : Errors) (q : WholeRequest) → errors ≡ Any → is_spoiled errors q ≡ false → q.corrupt ≡ false
spoils_corrupt errors q any sound = grind (arith, any, sound)

-- ---- changes of an entry

fine_heard : (errors : Errors) (client : ℕ) (q : WholeRequest) (entry : Entry) → IsFine errors entry → IsFine errors (heard errors client q entry)
fine_heard errors client q entry fine = by_test (entry.client == client && not entry.whole)
  where
    by_test : (b : Bool) → IsFine errors (if b then record entry { spoiled = entry.spoiled || is_spoiled errors q } else entry)
    by_test false = fine
    by_test true =
        record { no_atomic = fine.no_atomic; sound = λ any sound. fine.sound any (or_parts entry.spoiled (is_spoiled errors q) sound).0 }

fine_completed : (errors : Errors) (client : ℕ) (q : WholeRequest) (entry : Entry) → IsFine errors entry → IsFine errors (completed errors client q entry)
fine_completed errors client q entry fine = by_test (entry.client == client && not entry.whole) refl
  where
    by_test : (b : Bool) → (entry.client == client && not entry.whole) ≡ b → IsFine errors (completed errors client q entry)
    by_test false is = rw is fine
    by_test true is =
        record {
          no_atomic = λ unwhole. absurd (both_ways (completed errors client q entry).whole unwhole (rw is refl));
          sound = λ any sound. rw is (spoils_corrupt errors q any (or_parts entry.spoiled (is_spoiled errors q) (sym (rw is refl) ∙ sound)).1);
        }

fine_same : (errors : Errors) (old new : Entry) → new.whole ≡ old.whole → new.request ≡ old.request → (new.spoiled ≡ false → old.spoiled ≡ false) → IsFine errors old
    → IsFine errors new
fine_same errors old new whole request spoiled fine =
    record {
      no_atomic = λ unwhole op atomic. fine.no_atomic (sym whole ∙ unwhole) op (sym (ap (λ (r : WholeRequest). r.operation) request) ∙ atomic);
      sound = λ any sound. ap (λ (r : WholeRequest). r.corrupt) request ∙ fine.sound any (spoiled sound);
    }

fine_struck : (errors : Errors) (memory : Memory) (span : Span) (entry : Entry) → IsFine errors entry → IsFine errors (struck memory span entry)
fine_struck errors memory span entry fine = fine_same errors entry (struck memory span entry) (grind arith) (grind arith) (λ sound. grind (arith, sound)) fine

fine_early : (errors : Errors) (over : Bool) (client : ℕ) (entry : Entry) → IsFine errors entry → IsFine errors (ended_early over client entry)
fine_early errors over client entry fine = fine_same errors entry (ended_early over client entry) (grind arith) (grind arith) (λ sound. grind (arith, sound)) fine

fine_beat : (errors : Errors) (begun : Bool) (client source : ℕ) (entry : Entry) → IsFine errors entry → IsFine errors (with_beat begun client source entry)
fine_beat errors begun client source entry fine = fine_same errors entry (with_beat begun client source entry) (grind arith) (grind arith) (λ sound. grind (arith, sound)) fine

-- ---- a beat

-- a request that has just begun
fine_first : (errors : Errors) (client : ClientBoard) (number count : ℕ) (beat : ABeat) (progress : Progress) (whole : Bool) → client.front ≡ None
    → answer_to RealTime client beat ≡ Ok progress → (whole ≡ false → progress ≡ More)
    → IsFine errors (record (entry_of errors number (request_of (joined client.limits None beat)) whole) { number = count })
fine_first errors client number count beat progress whole none is more =
    record {
      no_atomic = λ unwhole.
          more_put client.limits beat (is_busy RealTime client.flights beat.source)
          (ap (λ (front : Option HeldMessage). judged client.limits front beat (is_busy RealTime client.flights beat.source)) (sym none) ∙ is ∙ ap (λ (p : Progress). Ok p) (more unwhole));
      sound = λ any sound. spoils_corrupt errors (request_of (joined client.limits None beat)) any sound;
    }

fine_progress : (errors : Errors) (client : ClientBoard) (number : ℕ) (beat : ABeat) (now : Order) (front : Option HeldMessage) (progress : Progress) → client.front ≡ front
    → answer_to RealTime client beat ≡ Ok progress → EachIn (IsFine errors) now
    → EachIn (IsFine errors) (with_progress errors number front (request_of (joined client.limits front beat)) progress now)
fine_progress errors client number beat now None More none is fine =
    each_last (IsFine errors) now (record (entry_of errors number (request_of (joined client.limits None beat)) false) { number = length now }) fine
    (fine_first errors client number (length now) beat More false none is (λ unwhole. refl))
fine_progress errors client number beat now None Whole none is fine =
    each_last (IsFine errors) now (record (entry_of errors number (request_of (joined client.limits None beat)) true) { number = length now }) fine
    (fine_first errors client number (length now) beat Whole true none is (λ unwhole. absurd (cc (unwhole))))
fine_progress errors client number beat now (Some held) More some is fine =
    each_map (IsFine errors) (IsFine errors) (heard errors number (request_of (joined client.limits (Some held) beat))) now
    (fine_heard errors number (request_of (joined client.limits (Some held) beat))) fine
fine_progress errors client number beat now (Some held) Whole some is fine =
    each_map (IsFine errors) (IsFine errors) (completed errors number (request_of (joined client.limits (Some held) beat))) now
    (fine_completed errors number (request_of (joined client.limits (Some held) beat))) fine

pub fine_next : (board : Board) (seen : ObservedBeat) (now : Order) → EachIn (IsFine board.errors) now → EachIn (IsFine board.errors) (begun_next board seen now)
fine_next board (A number beat) now fine = by_client (slice_get board.clients number)
  where
    by_answer : (client : ClientBoard) (answer : Result Progress TlRule) → answer_to RealTime client beat ≡ answer
        → EachIn (IsFine board.errors) (with_answered board.errors number client.front (joined client.limits client.front beat) answer now)
    by_answer client (Err broken) is = fine
    by_answer client (Ok progress) is = fine_progress board.errors client number beat now client.front progress refl is fine

    by_client : (found : Option ClientBoard) → EachIn (IsFine board.errors) (with_request board.errors number found beat now)
    by_client None = fine
    by_client (Some client) = by_answer client (answer_to RealTime client beat) refl
fine_next board (D client beat) now fine =
    let over = is_over now client beat.source in
    let cut = cut_short now client beat.source in
    each_map (IsFine board.errors) (IsFine board.errors) (with_beat (list_any (begun_to client) cut) client beat.source) cut
    (fine_beat board.errors (list_any (begun_to client) cut) client beat.source)
    (each_map (IsFine board.errors) (IsFine board.errors) (ended_early over client) now (fine_early board.errors over client) fine)
fine_next board (OnAxi beat) now fine = by_span (failed_span board.errors board.axi beat)
  where
    by_span : (span : Option Span) → EachIn (IsFine board.errors) (with_failed board.memory span now)
    by_span None = fine
    by_span (Some span) = each_map (IsFine board.errors) (IsFine board.errors) (struck board.memory span) now (fine_struck board.errors board.memory span) fine
fine_next board Drained now fine = fine
