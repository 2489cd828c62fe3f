-- A run of a byte that goes along by the events of all that happens has as accesses what the history says each request did to that byte.
use Rattle.std.proofs.Common.{length-append, ◌≡◌, ℕ, ◌+◌, ◌==◌, Bool, true, false, not, List, [], ◌∷◌, ◌++◌, map, length, Option, Some, None, Result, Ok, Err, suc, refl, sym, ◌∙◌, ap, subst, arith}
use Rattle.std.specs.Prelude.{slice_get}
use Rattle.std.specs.List.{AllByRecursion, list_any}
use Rattle.std.proofs.lemmas.List.{length-map}
use Rattle.std.proofs.lemmas.Bool.{and_parts, eqb-true, not-true, or_left}
use Rattle.byte_orders.specs.Accesses.{Access}
use Rattle.byte_orders.specs.Runs.{Event, Run}
use Rattle.setups.specs.Setups.{SetupLists}
use Rattle.tl_checker.specs.Ports.{joined}
use Rattle.tl_checker.specs.declared.Progress.{Progress}
use Rattle.tl_checker.specs.declared.Progress.TheVariants.{More, Whole}
use Rattle.tl_checker.specs.declared.TlRule.{TlRule}
use Rattle.tl_messages.specs.Requests.{HeldMessage, WholeRequest, bytes_given, request_of, with_beat as with_more}
use Rattle.tl_messages.specs.declared.ABeat.{ABeat}
use Rattle.scoreboard.specs.Boards.{Board, ClientBoard, answer_to}
use Rattle.scoreboard.specs.FailedBursts.{Span, failed_span}
use Rattle.scoreboard.specs.Orders.{Entry, Order, after_beat, begun_to, cut_short, ended_early, is_over, with_beat}
use Rattle.scoreboard.specs.RealTime.{begun_next, completed, entry_of, heard, is_open, struck, with_answered, with_failed, with_progress, with_request}
use Rattle.scoreboard.specs.Unknown.{unknown_given}
use Rattle.scoreboard.specs.declared.Errors.{Errors}
use Rattle.scoreboard.specs.declared.Errors.TheVariants.{Any}
use Rattle.scoreboard.specs.declared.ObservedBeat.{ObservedBeat}
use Rattle.scoreboard.specs.declared.ObservedBeat.TheVariants.{A, D, Axi as OnAxi, Drained}
use Rattle.scoreboard.specs.declared.Policy.TheVariants.{RealTime}
use Rattle.scoreboard.specs.declared.Wrong.{Wrong}
use Rattle.scoreboard.proofs.real_time.Becoming.{EachIn, IsFollowed, IsHeldBy}
use Rattle.scoreboard.proofs.real_time.Fates.{IsCounted, IsRecorded, told_any}
use Rattle.scoreboard.proofs.real_time.Fronts.{front_at, front_of}
use Rattle.value_orders.specs.Events.{begun_as, completed_as, each_from, fails_as, is_struck, reply_events, answer_events, failed_events, progress_events, request_events, seen_events}
use Rattle.value_orders.specs.Histories.{first_seen, heard_of, with_shown, Past, entries_of, hidden_in, with_answer, with_entries, with_heard, with_looked}
use Rattle.value_orders.proofs.EventEnds.{KnowsEnd}
use Rattle.value_orders.proofs.EventMoves.{IsReady, completed_moves, first_moves, heard_moves, same_moves}
use Rattle.value_orders.proofs.EventReplyMoves.{reply_moves, struck_moves}
use Rattle.value_orders.proofs.EventRequests.{IsGrown}
use Rattle.value_orders.proofs.EventShapes.{IsRunOf, Moves}

-- ---- what is known of each request

-- a client's message with one more beat is the same request
pub grown_of : (errors : Errors) (clients : List ClientBoard) (number : ℕ) (client : ClientBoard) (held : HeldMessage) (beat : ABeat) (entry : Entry)
    → slice_get clients number ≡ Some client → client.front ≡ Some held → IsHeldBy errors (front_at clients) entry → is_open number entry ≡ true
    → IsGrown entry.request (request_of (with_more held beat))
grown_of errors clients number client held beat entry there front is_held is =
    let parts = and_parts (entry.client == number) (not entry.whole) is in
    let h = is_held.0 (not-true entry.whole parts.1) in
    let own = eqb-true entry.client number parts.0 in
    let both : Some held ≡ Some h.held = sym front ∙ sym (ap front_of there) ∙ sym (ap (front_at clients) own) ∙ h.is in
    let same : held ≡ h.held = cc (both) in
    subst (λ (m : HeldMessage). IsGrown entry.request (request_of (with_more m beat))) (sym same)
    (record {
      fields = ap (λ (q : WholeRequest). record q { bytes = bytes_given (with_more h.held beat); corrupt = (with_more h.held beat).corrupt }) h.fields;
      corrupt = λ was. or_left h.held.corrupt beat.corrupt (h.corrupt was);
    })

all_ready : (errors : Errors) (clients : List ClientBoard) (number : ℕ) (client : ClientBoard) (held : HeldMessage) (beat : ABeat) (pasts : List Past)
    → slice_get clients number ≡ Some client → client.front ≡ Some held → EachIn (IsHeldBy errors (front_at clients)) (entries_of pasts)
    → EachIn (IsRecorded errors) (entries_of pasts) → AllByRecursion KnowsEnd pasts → AllByRecursion (IsReady number (request_of (with_more held beat))) pasts
all_ready errors clients number client held beat [] there front are recorded knows = tt
all_ready errors clients number client held beat (past ∷ pasts) there front are recorded knows = (
  record {
    knows = knows.0;
    starts = (recorded 0 (omega arith)).starts;
    grown = grown_of errors clients number client held beat past.entry there front (are 0 (omega arith));
  },
  all_ready errors clients number client held beat pasts there front (λ k small. are (suc k) (omega (arith, small)))
      (λ k small. recorded (suc k) (omega (arith, small))) knows.1,
)

-- ---- a beat

module _ (setup : SetupLists) (x now total : ℕ) (before : List Access) (pasts : List Past) (run : Run) where
  -- how many have begun, where these have since the last reset
  abbrev count : Order → ℕ
  count order = total + length order

  abbrev first : ℕ
  first = total + 1

  abbrev next : ℕ
  next = now + 1

  -- they go on by some events
  abbrev GoesOn : Errors → ℕ → List Event → Order → List Past → Type 0
  GoesOn errors given events order looked = Moves setup errors x run events (count order) before first (with_entries (count order) given order looked)

  goes_at : (errors : Errors) (given : ℕ) (events : List Event) (order : Order) (looked : List Past) → count order ≡ now
      → Moves setup errors x run events now before first (with_entries now given order looked) → GoesOn errors given events order looked
  goes_at errors given events order looked same moves =
      subst (λ c. Moves setup errors x run events c before first (with_entries c given order looked)) (sym same) moves

  begun_at : (errors : Errors) (given : ℕ) (events : List Event) (order : Order) (looked : List Past) (begun : ℕ) → begun ≡ count order
      → Moves setup errors x run events begun before first (with_entries (count order) given order looked) → GoesOn errors given events order looked
  begun_at errors given events order looked begun same moves =
      subst (λ c. Moves setup errors x run events c before first (with_entries (count order) given order looked)) same moves

  module _ (errors : Errors) (reaches : count (entries_of pasts) ≡ now) (is : IsRunOf setup errors x KnowsEnd now before first pasts run) where
    -- nothing changes
    pub none_goes : (given : ℕ) → GoesOn errors given [] (entries_of pasts) pasts
    none_goes given =
        begun_at errors given [] (entries_of pasts) pasts now (sym reaches) (same_moves setup errors x now first before pasts (count (entries_of pasts)) given run is)

    -- one more begins
    module _ (client given : ℕ) (q : WholeRequest) (whole : Bool) where
      abbrev with_new : Order
      with_new = entries_of pasts ++ record (entry_of errors client q whole) { number = length (entries_of pasts) } ∷ []

      reached : first + length pasts ≡ now + 1
      reached = omega (arith, reaches, length-map pasts (λ (past : Past). past.entry))

      one_more : now + 1 ≡ count with_new
      one_more =
          omega (arith, reaches, length-append (entries_of pasts) (record (entry_of errors client q whole) { number = length (entries_of pasts) } ∷ []))

      first_goes : GoesOn errors given (begun_as setup errors x next (first_seen given (entry_of errors client q whole)) whole) with_new pasts
      first_goes =
          begun_at errors given (begun_as setup errors x next (first_seen given (entry_of errors client q whole)) whole) with_new pasts (now + 1) one_more
          (first_moves setup errors x now first before pasts (count with_new) given client (length (entries_of pasts)) q whole run reached is)

    -- each changes
    changed_reaches : (change : Entry → Entry) → count (map change (entries_of pasts)) ≡ now
    changed_reaches change = omega (arith, reaches, length-map (entries_of pasts) change)

    module _ (clients : List ClientBoard) (number : ℕ) (beat : ABeat) (lanes : ℕ) (held_in : EachIn (IsHeldBy errors (front_at clients)) (entries_of pasts))
        (recorded : EachIn (IsRecorded errors) (entries_of pasts)) where
      abbrev given : ℕ
      given = unknown_given beat lanes

      module _ (client : ClientBoard) (there : slice_get clients number ≡ Some client) where
        progress_goes : (front : Option HeldMessage) (progress : Progress) → client.front ≡ front
            → GoesOn errors given (progress_events setup errors x number given front (request_of (joined client.limits front beat)) progress next first pasts)
            (with_progress errors number front (request_of (joined client.limits front beat)) progress (entries_of pasts)) (with_answer number given front (Ok progress) pasts)
        progress_goes None More none = first_goes number given (request_of (joined client.limits None beat)) false
        progress_goes None Whole none = first_goes number given (request_of (joined client.limits None beat)) true
        progress_goes (Some held) More some =
            let q = request_of (with_more held beat) in
            goes_at errors given [] (map (heard errors number q) (entries_of pasts)) (map (heard_of number given) pasts) (changed_reaches (heard errors number q))
            (heard_moves setup errors x now first before pasts number given q run is)
        progress_goes (Some held) Whole some =
            let q = request_of (with_more held beat) in
            goes_at errors given (each_from (completed_as setup errors x number given q) first pasts) (map (completed errors number q) (entries_of pasts))
            (map (heard_of number given) pasts) (changed_reaches (completed errors number q))
            (completed_moves setup errors x now first before pasts number given q run
            (record {
              now_is = is.now_is;
              accesses = is.accesses;
              below = is.below;
              all = all_ready errors clients number client held beat pasts there some held_in recorded is.all;
            }))

        answer_goes : (answer : Result Progress TlRule)
            → GoesOn errors given (answer_events setup errors x number given client.front (joined client.limits client.front beat) answer next first pasts)
            (with_answered errors number client.front (joined client.limits client.front beat) answer (entries_of pasts)) (with_answer number given client.front answer pasts)
        answer_goes (Err broken) = none_goes given
        answer_goes (Ok progress) = progress_goes client.front progress refl

      request_goes : (found : Option ClientBoard) → slice_get clients number ≡ found
          → GoesOn errors given (request_events setup errors x number found beat lanes next first pasts) (with_request errors number found beat (entries_of pasts))
          (with_heard number found beat lanes pasts)
      request_goes None there = none_goes given
      request_goes (Some client) there = answer_goes client there (answer_to RealTime client beat)

  -- with any beat
  pub seen_goes : (board : Board) (seen : ObservedBeat) (lanes : ℕ) (said : Option Wrong) → count (entries_of pasts) ≡ now
      → IsRunOf setup board.errors x KnowsEnd now before first pasts run → IsFollowed board (entries_of pasts) → IsCounted board.errors (entries_of pasts)
      → GoesOn board.errors (hidden_in seen lanes) (seen_events setup board seen lanes said next first pasts x) (begun_next board seen (entries_of pasts))
      (with_looked setup board seen lanes said pasts)
  seen_goes board (A client beat) lanes said reaches is followed counted =
      request_goes board.errors reaches is board.clients client beat lanes followed.held counted.each (slice_get board.clients client) refl
  seen_goes board (D client beat) lanes said reaches is followed counted =
      goes_at board.errors 0 (reply_events setup board.errors x client beat lanes said first pasts) (after_beat (entries_of pasts) client beat.source)
      (with_shown setup board.errors client beat lanes said pasts)
      (omega (
        arith,
        reaches,
        length-map cut (with_beat (list_any (begun_to client) cut) client beat.source),
        length-map (entries_of pasts) (ended_early (is_over (entries_of pasts) client beat.source) client),
      )) (reply_moves setup board.errors x now first 0 before pasts client beat lanes said run is)
    where
      cut : Order
      cut = cut_short (entries_of pasts) client beat.source
  seen_goes board (OnAxi beat) lanes said reaches is followed counted =
      by_span (failed_span board.errors board.axi beat) (told_any board.errors board.axi beat)
    where
      by_span : (span : Option Span) → ((some : Span) → span ≡ Some some → board.errors ≡ Any)
          → GoesOn board.errors 0 (failed_events board.memory span first pasts) (with_failed board.memory span (entries_of pasts)) pasts
      by_span None any = none_goes board.errors reaches is 0
      by_span (Some span) any =
          let told = any span refl in
          let events = each_from (λ number past. fails_as number (is_struck board.memory span past.entry)) first pasts in
          let order = map (struck board.memory span) (entries_of pasts) in
          subst (λ (e : Errors). GoesOn e 0 events order pasts) (sym told)
          (goes_at Any 0 events order pasts (changed_reaches board.errors reaches is (struck board.memory span))
          (struck_moves setup x now first 0 before pasts board.memory span run (subst (λ (e : Errors). IsRunOf setup e x KnowsEnd now before first pasts run) told is)))
  seen_goes board Drained lanes said reaches is followed counted = none_goes board.errors reaches is 0
