-- What happens but for beginnings and resets is of some request, event by event: with a reply, with a message that is whole, and with an error response. So it opens
-- no access, and lets be what gives nothing.
use Rattle.std.proofs.Common.{ℕ, ◌+◌, ◌%◌, Bool, true, false, ◌&&◌, List, [], ◌∷◌, ◌++◌, Option, Some, None, if◌then◌else◌}
use Rattle.std.specs.List.{AllByRecursion, list_any}
use Rattle.bus_words.specs.Lanes.{lane_byte}
use Rattle.byte_orders.specs.Runs.{Event, Tells, Gives, LeavesOut, TakesEffect, Fails, Ends}
use Rattle.byte_orders.proofs.Leading.{AllOf, of_both}
use Rattle.byte_orders.proofs.QuietEvents.{IsOf, IsSilent}
use Rattle.serial_memory.specs.SerialMemory.{Memory}
use Rattle.setups.specs.Setups.{SetupLists}
use Rattle.tl_messages.specs.Requests.{WholeRequest}
use Rattle.tl_messages.specs.declared.DBeat.{DBeat}
use Rattle.scoreboard.specs.FailedBursts.{Span}
use Rattle.scoreboard.specs.Orders.{Entry, begun_to, cut_short, ended_early, is_due_in, is_over, with_beat}
use Rattle.scoreboard.specs.RealTime.{completed, is_open}
use Rattle.scoreboard.specs.declared.Errors.{Errors}
use Rattle.scoreboard.specs.declared.Wrong.{Wrong}
use Rattle.value_orders.specs.Bytes.{gives_at}
use Rattle.value_orders.specs.Events.{completed_as, counted_as, cut_as, each_from, ends_as, ends_with, failed_events, fails_as, is_atomic, is_struck, known_as, made_as, reply_events, shown_as, shown_events, shows, told_as, whole_as}
use Rattle.value_orders.specs.Histories.{Past, entries_of, hear, tells, with_told}
use Rattle.value_orders.proofs.EventSteps.{of_ends, of_fails, of_known, of_told, of_whole}
use Rattle.value_laws.specs.Kept.{Work, work_after}
use Rattle.value_laws.proofs.Along.{AllFrom, from_of}
use Rattle.value_laws.proofs.Buts.{StaysSilent, silent_after}
use Rattle.value_laws.proofs.Oldest.{IsOfSome}

abbrev pub AllOfSome : List Event → Type 0
AllOfSome events = AllByRecursion IsOfSome events

-- ---- lists

pub own_some : (number : ℕ) (events : List Event) → AllOf number events → AllOfSome events
own_some number [] of = tt
own_some number (event ∷ events) of = ((number, of.0), own_some number events of.1)

pub some_both : (xs ys : List Event) → AllOfSome xs → AllOfSome ys → AllOfSome (xs ++ ys)
some_both [] ys one two = two
some_both (event ∷ xs) ys one two = (one.0, some_both xs ys one.1 two)

pub each_some : (events : ℕ → Past → List Event) → ((number : ℕ) (past : Past) → AllOf number (events number past)) → (first : ℕ) (pasts : List Past)
    → AllOfSome (each_from events first pasts)
each_some events own first [] = tt
each_some events own first (past ∷ pasts) =
    some_both (events first past) (each_from events (first + 1) pasts) (own_some first (events first past) (own first past)) (each_some events own (first + 1) pasts)

-- ---- what they let be

of_stays : (number other : ℕ) (event : Event) → IsOf other event → StaysSilent number event
of_stays number other (Tells one byte) of = tt
of_stays number other (Gives one value) of = tt
of_stays number other (LeavesOut one) of = tt
of_stays number other (TakesEffect one) of = tt
of_stays number other (Fails one) of = tt
of_stays number other (Ends one) of = tt
of_stays number other event of = absurd of

all_stay : (number : ℕ) (events : List Event) → AllOfSome events → AllByRecursion (StaysSilent number) events
all_stay number [] some = tt
all_stay number (event ∷ events) some = (of_stays number some.0.0 event some.0.1, all_stay number events some.1)

-- one that gives nothing goes on so
pub some_silent : (number : ℕ) (work : Work) (events : List Event) → AllOfSome events → IsSilent number work.accesses → IsSilent number (work_after work events).accesses
some_silent number work events some silent = silent_after number work events (all_stay number events some) silent

-- and none begins
pub some_from : (oldest : ℕ) (events : List Event) → AllOfSome events → AllFrom oldest events
some_from oldest [] some = tt
some_from oldest (event ∷ events) some = (from_of oldest some.0.0 event some.0.1, some_from oldest events some.1)

-- ---- with a reply

module _ (setup : SetupLists) (errors : Errors) (x : ℕ) where
  of_made : (beat : DBeat) (lanes number : ℕ) (past : Past) → AllOf number (made_as setup errors x beat lanes number past)
  of_made beat lanes number past = by_test (is_atomic past.entry.request.operation && shows setup errors beat past.entry)
    where
      by_test : (b : Bool) → AllOf number (if b then known_as number (gives_at setup errors (with_told setup errors beat lanes past) x) else [])
      by_test true = of_known number (gives_at setup errors (with_told setup errors beat lanes past) x)
      by_test false = tt

  of_shown : (due : Entry → Bool) (beat : DBeat) (lanes number : ℕ) (past : Past) → AllOf number (shown_as setup errors x due beat lanes number past)
  of_shown due beat lanes number past = by_test (due past.entry)
    where
      by_test : (b : Bool) → AllOf number (if b
          then told_as number (tells setup errors past.entry beat lanes x) (lane_byte beat.payload (x % 8)) ++ made_as setup errors x beat lanes number past
          else [])
      by_test true =
          of_both number (told_as number (tells setup errors past.entry beat lanes x) (lane_byte beat.payload (x % 8))) (made_as setup errors x beat lanes number past)
          (of_told number (tells setup errors past.entry beat lanes x) (lane_byte beat.payload (x % 8))) (of_made beat lanes number past)
      by_test false = tt

  pub shown_some : (client : ℕ) (beat : DBeat) (lanes : ℕ) (said : Option Wrong) (first : ℕ) (pasts : List Past)
      → AllOfSome (shown_events setup errors x client beat lanes said first pasts)
  shown_some client beat lanes (Some wrong) first pasts = tt
  shown_some client beat lanes None first pasts =
      each_some (shown_as setup errors x (is_due_in (entries_of pasts) client beat.source) beat lanes)
      (λ number past. of_shown (is_due_in (entries_of pasts) client beat.source) beat lanes number past) first pasts

  -- ---- with a message that is whole

  of_completed : (client given : ℕ) (q : WholeRequest) (number : ℕ) (past : Past) → AllOf number (completed_as setup errors x client given q number past)
  of_completed client given q number past = by_test (is_open client past.entry)
    where
      by_test : (b : Bool) → AllOf number (if b
          then whole_as setup errors x number (record (hear given past) { entry = completed errors client q past.entry })
          ++ ends_as number (ends_with past.entry (completed errors client q past.entry))
          else [])
      by_test true =
          of_both number (whole_as setup errors x number (record (hear given past) { entry = completed errors client q past.entry }))
          (ends_as number (ends_with past.entry (completed errors client q past.entry)))
          (of_whole setup errors x number (record (hear given past) { entry = completed errors client q past.entry }))
          (of_ends number (ends_with past.entry (completed errors client q past.entry)))
      by_test false = tt

  pub completed_some : (client given : ℕ) (q : WholeRequest) (first : ℕ) (pasts : List Past)
      → AllOfSome (each_from (completed_as setup errors x client given q) first pasts)
  completed_some client given q first pasts = each_some (completed_as setup errors x client given q) (of_completed client given q) first pasts

pub cut_some : (over : Bool) (client first : ℕ) (pasts : List Past) → AllOfSome (each_from (cut_as over client) first pasts)
cut_some over client first pasts =
    each_some (cut_as over client) (λ number past. of_ends number (ends_with past.entry (ended_early over client past.entry))) first pasts

pub counted_some : (over begun : Bool) (client source first : ℕ) (pasts : List Past) → AllOfSome (each_from (counted_as over begun client source) first pasts)
counted_some over begun client source first pasts =
    each_some (counted_as over begun client source)
    (λ number past. of_ends number (ends_with (ended_early over client past.entry) (with_beat begun client source (ended_early over client past.entry)))) first pasts

pub reply_some : (setup : SetupLists) (errors : Errors) (x client : ℕ) (beat : DBeat) (lanes : ℕ) (said : Option Wrong) (first : ℕ) (pasts : List Past)
    → AllOfSome (reply_events setup errors x client beat lanes said first pasts)
reply_some setup errors x client beat lanes said first pasts =
    some_both (shown_events setup errors x client beat lanes said first pasts) (each_from (cut_as over client) first pasts ++ each_from (counted_as over begun client beat.source) first pasts)
    (shown_some setup errors x client beat lanes said first pasts)
    (some_both (each_from (cut_as over client) first pasts) (each_from (counted_as over begun client beat.source) first pasts) (cut_some over client first pasts)
    (counted_some over begun client beat.source first pasts))
  where
    over : Bool
    over = is_over (entries_of pasts) client beat.source

    begun : Bool
    begun = list_any (begun_to client) (cut_short (entries_of pasts) client beat.source)

-- ---- with an error response

pub failed_some : (memory : Memory) (span : Option Span) (first : ℕ) (pasts : List Past) → AllOfSome (failed_events memory span first pasts)
failed_some memory None first pasts = tt
failed_some memory (Some span) first pasts =
    each_some (λ number past. fails_as number (is_struck memory span past.entry)) (λ number past. of_fails number (is_struck memory span past.entry)) first pasts
