-- The events of requests with a beat on channel A that goes on with a message, or makes it whole.
use Rattle.std.proofs.Common.{◌≡◌, ℕ, ◌==◌, Bool, true, false, ◌&&◌, ◌||◌, not, [], ◌++◌, Some, None, if◌then◌else◌, refl, sym, ◌∙◌, ap}
use Rattle.std.specs.Prelude.{is_some}
use Rattle.std.proofs.lemmas.Bool.{and_parts, and_right, both_ways, lt-leb, not-true}
use Rattle.byte_orders.specs.Accesses.{Access}
use Rattle.byte_orders.proofs.Leading.{of_both, one_after, one_then}
use Rattle.setups.specs.Setups.{SetupLists}
use Rattle.tl_messages.specs.Operations.{has_data}
use Rattle.tl_messages.specs.Requests.{WholeRequest}
use Rattle.scoreboard.specs.Boards.{is_spoiled}
use Rattle.scoreboard.specs.Orders.{Entry, has_ended, reply_beats}
use Rattle.scoreboard.specs.RealTime.{completed, heard, is_open}
use Rattle.scoreboard.specs.declared.Errors.{Errors}
use Rattle.scoreboard.specs.declared.Errors.TheVariants.{Any, Strict}
use Rattle.scoreboard.proofs.real_time.Lengths.{some_beats}
use Rattle.value_orders.specs.Bytes.{access_of, gives_at, is_sure}
use Rattle.value_orders.specs.Events.{completed_as, ends_as, ends_with, whole_as}
use Rattle.value_orders.specs.Histories.{Past, hear, heard_of, with_entry}
use Rattle.value_orders.specs.Places.{acts_on}
use Rattle.value_orders.proofs.EventEnds.{KnowsEnd, end_still, end_with, live_of, open_of, parts_same, same_entry, stays}
use Rattle.value_orders.proofs.EventLists.{StepsTo, unwhole_gives, unwhole_unsure, writes_given}
use Rattle.value_orders.proofs.EventParts.{IsAlike, alike_gives, alike_sure}
use Rattle.value_orders.proofs.EventSteps.{ends_live, of_ends, of_whole, whole_live}

-- no beat came of the reply to one that isn't whole
abbrev pub StartsNone : Past → Type 0
StartsNone past = past.entry.whole ≡ false → past.entry.came ≡ 0

pub not_begun : (past : Past) → StartsNone past → past.entry.whole ≡ false → has_ended past.entry ≡ false
not_begun past starts unwhole = let none = starts unwhole in rw none (lt-leb (reply_beats past.entry.request) 0 (some_beats past.entry.request))

open_unwhole : (client : ℕ) (entry : Entry) → is_open client entry ≡ true → entry.whole ≡ false
open_unwhole client entry is = not-true entry.whole (and_parts (entry.client == client) (not entry.whole) is).1

-- ---- a beat between the first and the last

pub heard_stays : (errors : Errors) (client : ℕ) (q : WholeRequest) (entry : Entry) → has_ended (heard errors client q entry) ≡ has_ended entry
heard_stays errors client q entry = by_test (is_open client entry)
  where
    by_test : (b : Bool) → has_ended (if b then record entry { spoiled = entry.spoiled || is_spoiled errors q } else entry) ≡ has_ended entry
    by_test true = refl
    by_test false = refl

pub heard_steps : (setup : SetupLists) (errors : Errors) (x now number client given : ℕ) (q : WholeRequest) (past : Past) → KnowsEnd past
    → StepsTo setup errors x now number [] past (with_entry now (heard errors client q past.entry) (heard_of client given past))
heard_steps setup errors x now number client given q past knows = by_test (is_open client past.entry) refl
  where
    more : Entry
    more = record past.entry { spoiled = past.entry.spoiled || is_spoiled errors q }

    next : Past
    next = with_entry now more (hear given past)

    by_test : (b : Bool) → is_open client past.entry ≡ b
        → StepsTo setup errors x now number [] past (with_entry now (if b then more else past.entry) (if b then hear given past else past))
    by_test false is = same_entry setup errors x now number now past knows
    by_test true is =
        let unwhole = open_unwhole client past.entry is in
        stays setup errors x now number past next (end_still now more past knows) refl
        (unwhole_gives setup errors x next unwhole ∙ sym (unwhole_gives setup errors x past unwhole))
        (unwhole_unsure setup errors x next unwhole ∙ sym (unwhole_unsure setup errors x past unwhole))

-- ---- the last

-- a message with its last beat is the same request, and corrupt if it was before
pub record IsGrown (old q : WholeRequest) : Type 0 where
  pub fields : q ≡ record old { bytes = q.bytes; corrupt = q.corrupt }
  pub corrupt : old.corrupt ≡ true → q.corrupt ≡ true

abbrev pub may_write_by : SetupLists → Errors → ℕ → WholeRequest → Bool
may_write_by setup errors x q = has_data q.operation && acts_on setup errors q x

-- so it may write no byte that it mightn't before
may_grown : (setup : SetupLists) (errors : Errors) (x : ℕ) (old q : WholeRequest) → IsGrown old q → may_write_by setup errors x q ≡ true
    → may_write_by setup errors x old ≡ true
may_grown setup errors x old q is may = by_errors errors (sym (ap (may_write_by setup errors x) is.fields) ∙ may)
  where
    as_now : Errors → Bool → Bool
    as_now e b = may_write_by setup e x (record old { bytes = q.bytes; corrupt = b })

    never : as_now Strict true ≡ false
    never = and_right (has_data old.operation) false refl

    by_corrupt : (before after : Bool) → old.corrupt ≡ before → q.corrupt ≡ after → as_now Strict after ≡ true → may_write_by setup Strict x old ≡ true
    by_corrupt before true was now may = absurd (both_ways (as_now Strict true) never may)
    by_corrupt false false was now may = ap (λ (b : Bool). may_write_by setup Strict x (record old { corrupt = b })) was ∙ may
    by_corrupt true false was now may = absurd (both_ways q.corrupt now (is.corrupt was))

    by_errors : (e : Errors) → as_now e q.corrupt ≡ true → may_write_by setup e x old ≡ true
    by_errors Strict may = by_corrupt old.corrupt q.corrupt refl refl may
    by_errors Any may = may

-- its entry when it is whole
abbrev done_entry : Errors → WholeRequest → Entry → Entry
done_entry errors q entry =
    record entry {
      request = q;
      whole = true;
      spoiled = entry.spoiled || is_spoiled errors q;
      early = false;
      came = if entry.replied then reply_beats q else entry.came;
    }

pub completed_stays : (errors : Errors) (client : ℕ) (q : WholeRequest) (past : Past) → StartsNone past → has_ended past.entry ≡ true
    → has_ended (completed errors client q past.entry) ≡ true
completed_stays errors client q past starts ended = by_test (is_open client past.entry) refl
  where
    by_test : (b : Bool) → is_open client past.entry ≡ b → has_ended (if b then done_entry errors q past.entry else past.entry) ≡ true
    by_test false is = ended
    by_test true is = absurd (both_ways (has_ended past.entry) (not_begun past starts (open_unwhole client past.entry is)) ended)

module _ (setup : SetupLists) (errors : Errors) (x now number client given : ℕ) (q : WholeRequest) (past : Past) (knows : KnowsEnd past) (starts : StartsNone past)
    (grown : is_open client past.entry ≡ true → IsGrown past.entry.request q) where
  abbrev done : Entry
  done = done_entry errors q past.entry

  abbrev made : Past
  made = record (hear given past) { entry = done }

  abbrev next : Past
  next = with_entry now done (hear given past)

  abbrev own : Access
  own = access_of setup errors x number past

  -- as it is whole, and hasn't ended
  abbrev between : Access
  between = record own { gives = gives_at setup errors made x; sure = is_sure setup errors made x }

  abbrev ends : Bool
  ends = ends_with past.entry done

  alike : IsAlike made next
  alike = record { request = refl; whole = refl; spoiled = refl; replied = refl; hidden = refl; told = refl; cut = refl }

  module _ (is : is_open client past.entry ≡ true) where
    unwhole : past.entry.whole ≡ false
    unwhole = open_unwhole client past.entry is

    unended : has_ended past.entry ≡ false
    unended = not_begun past starts unwhole

    live : past.ended ≡ None
    live = live_of past knows unended

    may : is_some (gives_at setup errors made x) ≡ true → is_some (gives_at setup errors past x) ≡ true
    may some =
        ap is_some (unwhole_gives setup errors x past unwhole
        ∙ ap (λ (b : Bool). if b then Some None else None)
        (may_grown setup errors x past.entry.request q (grown is) (writes_given setup errors x made some)))

    first : one_after number now (whole_as setup errors x number made) own ≡ between
    first = whole_live number now setup errors x made own (open_of setup errors x number past live) (unwhole_unsure setup errors x past unwhole) may

    same_ends : ends ≡ has_ended done
    same_ends = ap (λ (b : Bool). not b && has_ended done) unended

    steps : StepsTo setup errors x now number (whole_as setup errors x number made ++ ends_as number ends) past next
    steps =
        record {
          of = of_both number (whole_as setup errors x number made) (ends_as number ends) (of_whole setup errors x number made) (of_ends number ends);
          leads = one_then number now (whole_as setup errors x number made) (ends_as number ends) own ∙ ap (one_after number now (ends_as number ends)) first
              ∙ ends_live number now between ends (record { begun = refl; live = live })
              ∙ parts_same number (ap (λ (b : Bool). if b then Some now else None) same_ends ∙ sym (end_with now done (hear given past) live)) refl
              (sym (alike_gives setup errors x made next alike)) (sym (alike_sure setup errors x made next alike));
        }

  pub completed_steps : StepsTo setup errors x now number (completed_as setup errors x client given q number past) past
      (with_entry now (completed errors client q past.entry) (heard_of client given past))
  completed_steps = by_test (is_open client past.entry) refl
    where
      by_test : (b : Bool) → is_open client past.entry ≡ b
          → StepsTo setup errors x now number
          (if b
          then whole_as setup errors x number (record (hear given past) { entry = if b then done else past.entry })
          ++ ends_as number (ends_with past.entry (if b then done else past.entry))
          else []) past (with_entry now (if b then done else past.entry) (if b then hear given past else past))
      by_test false is = same_entry setup errors x now number now past knows
      by_test true is = steps is
