-- What was seen since the last reset goes on by the events of each beat on channel D, and of each error response, as the history does.
use Rattle.std.proofs.Common.{◌≡◌, ℕ, Bool, true, false, not, List, [], ◌++◌, map, Option, Some, None, if◌then◌else◌, refl, sym, ◌∙◌, ap}
use Rattle.std.specs.Prelude.{is_none}
use Rattle.std.specs.List.{list_any}
use Rattle.std.proofs.lemmas.Simd.{map-map}
use Rattle.byte_orders.specs.Accesses.{Access}
use Rattle.byte_orders.specs.Runs.{Event, Run, run_after}
use Rattle.byte_orders.proofs.Leading.{leads_then}
use Rattle.serial_memory.specs.SerialMemory.{Memory}
use Rattle.setups.specs.Setups.{SetupLists}
use Rattle.tl_messages.specs.declared.DBeat.{DBeat}
use Rattle.scoreboard.specs.FailedBursts.{Span}
use Rattle.scoreboard.specs.Orders.{Entry, Order, after_beat, begun_to, cut_short, ended_early, has_ended, is_due_in, is_over, with_beat}
use Rattle.scoreboard.specs.RealTime.{struck}
use Rattle.scoreboard.specs.declared.Errors.{Errors}
use Rattle.scoreboard.specs.declared.Errors.TheVariants.{Any}
use Rattle.scoreboard.specs.declared.Wrong.{Wrong}
use Rattle.scoreboard.proofs.real_time.ReplySteps.{due_place}
use Rattle.value_orders.specs.Bytes.{accesses_from}
use Rattle.value_orders.specs.Events.{counted_as, cut_as, each_from, ends_as, ends_with, fails_as, is_struck, reply_events, shown_as, shown_events}
use Rattle.value_orders.specs.Histories.{Past, entries_of, with_entries, with_entry, with_shown, with_told}
use Rattle.value_orders.proofs.EventEnds.{KnowsEnd, live_of}
use Rattle.value_orders.proofs.EventFailures.{struck_stays, struck_steps}
use Rattle.value_orders.proofs.EventLists.{AllBelow, StepsTo}
use Rattle.value_orders.proofs.EventMoves.{still_knows}
use Rattle.value_orders.proofs.EventReplies.{beat_steps, counted_stays, cut_stays, cut_steps, shown_past, shown_steps}
use Rattle.value_orders.proofs.EventShapes.{IsRunOf, Moves, each_mapped, each_none, map_as, map_id, map_two, moves_as, moves_each, with_mapped, with_twice}

three_same : {a b c d e f : List Event} → a ≡ d → b ≡ e → c ≡ f → a ++ (b ++ c) ≡ d ++ (e ++ f)
three_same one two three = cc (one, two, three)

-- what goes on first, and then
moves_then : (setup : SetupLists) (errors : Errors) (x now first : ℕ) (before : List Access) (run : Run) (xs ys : List Event) (between next : List Past)
    → AllBelow first before → Moves setup errors x run xs now before first between
    → (IsRunOf setup errors x KnowsEnd now before first between (run_after run xs) → Moves setup errors x (run_after run xs) ys now before first next)
    → Moves setup errors x run (xs ++ ys) now before first next
moves_then setup errors x now first before run xs ys between next below one goes =
    let other = goes (record { now_is = one.leads.now; accesses = one.leads.accesses; below = below; all = one.knows }) in
    record {
      leads = leads_then run xs ys now now (before ++ accesses_from setup errors x first between) (before ++ accesses_from setup errors x first next) one.leads other.leads;
      knows = other.knows;
    }

-- ---- with an error response

pub struck_moves : (setup : SetupLists) (x now first given : ℕ) (before : List Access) (pasts : List Past) (memory : Memory) (span : Span) (run : Run)
    → IsRunOf setup Any x KnowsEnd now before first pasts run
    → Moves setup Any x run (each_from (λ number past. fails_as number (is_struck memory span past.entry)) first pasts) now before first
    (with_entries now given (map (struck memory span) (entries_of pasts)) pasts)
struck_moves setup x now first given before pasts memory span run is =
    let events : ℕ → Past → List Event = λ number past. fails_as number (is_struck memory span past.entry) in
    let change : Past → Past = λ past. with_entry now (struck memory span past.entry) past in
    moves_as setup Any x now first before run (each_from events first pasts) (each_from events first pasts) now (map change pasts)
    (with_entries now given (map (struck memory span) (entries_of pasts)) pasts) refl
    (sym (with_mapped now given (struck memory span) (λ past. past) pasts) ∙ ap (with_entries now given (map (struck memory span) (entries_of pasts))) (map_id pasts))
    (moves_each setup Any x now first before run KnowsEnd events change pasts (λ number past knows. struck_steps setup x now past number memory span knows)
    (λ past knows. still_knows now (struck memory span past.entry) past past refl knows (λ over. struck_stays memory span past.entry ∙ over)) is)

-- ---- with a beat on channel D

module _ (setup : SetupLists) (errors : Errors) (x now first given : ℕ) (before : List Access) (pasts : List Past) (client : ℕ) (beat : DBeat) (lanes : ℕ) where
  abbrev due : Entry → Bool
  due = is_due_in (entries_of pasts) client beat.source

  abbrev over : Bool
  over = is_over (entries_of pasts) client beat.source

  abbrev begun : Bool
  begun = list_any (begun_to client) (cut_short (entries_of pasts) client beat.source)

  -- each as it is looked at, and the events of that
  abbrev look : Option Wrong → Past → Past
  look (Some wrong) past = past
  look None past = shown_past setup errors due beat lanes past

  abbrev show : Option Wrong → ℕ → Past → List Event
  show (Some wrong) number past = []
  show None number past = shown_as setup errors x due beat lanes number past

  look_entry : (said : Option Wrong) (past : Past) → (look said past).entry ≡ past.entry
  look_entry (Some wrong) past = refl
  look_entry None past = by_due (due past.entry)
    where
      by_due : (b : Bool) → (if b then with_told setup errors beat lanes past else past).entry ≡ past.entry
      by_due true = refl
      by_due false = refl

  look_ended : (said : Option Wrong) (past : Past) → (look said past).ended ≡ past.ended
  look_ended (Some wrong) past = refl
  look_ended None past = by_due (due past.entry)
    where
      by_due : (b : Bool) → (if b then with_told setup errors beat lanes past else past).ended ≡ past.ended
      by_due true = refl
      by_due false = refl

  looked_is : (said : Option Wrong) → with_shown setup errors client beat lanes said pasts ≡ map (look said) pasts
  looked_is (Some wrong) = sym (map_id pasts)
  looked_is None = refl

  shown_is : (said : Option Wrong) → each_from (show said) first pasts ≡ shown_events setup errors x client beat lanes said first pasts
  shown_is (Some wrong) = each_none first pasts
  shown_is None = refl

  look_knows : (said : Option Wrong) (past : Past) → KnowsEnd past → KnowsEnd (look said past)
  look_knows said past knows =
      let same = look_entry said past in
      ap is_none (look_ended said past) ∙ knows ∙ ap (λ (e : Entry). not (has_ended e)) (sym same)

  show_steps : (said : Option Wrong) (number : ℕ) (past : Past) → KnowsEnd past → StepsTo setup errors x now number (show said number past) past (look said past)
  show_steps (Some wrong) number past knows = record { of = tt; leads = refl }
  show_steps None number past knows =
      shown_steps setup errors x now number due beat lanes past
      (λ is. live_of past knows (due_place (list_any (begun_to client) (entries_of pasts)) client beat.source past.entry is).live)

  -- without a reply that is over
  abbrev cut : Past → Past
  cut past = with_entry now (ended_early over client past.entry) past

  -- with the beat counted
  abbrev count : Past → Past
  count past = with_entry now (with_beat begun client beat.source past.entry) past

  abbrev count_as : ℕ → Past → List Event
  count_as number past = ends_as number (ends_with past.entry (with_beat begun client beat.source past.entry))

  module _ (said : Option Wrong) (run : Run) (is : IsRunOf setup errors x KnowsEnd now before first pasts run) where
    abbrev looked : List Past
    looked = map (look said) pasts

    shows : Moves setup errors x run (each_from (show said) first pasts) now before first looked
    shows = moves_each setup errors x now first before run KnowsEnd (show said) (look said) pasts (show_steps said) (look_knows said) is

    cuts : (next : Run) → IsRunOf setup errors x KnowsEnd now before first looked next
        → Moves setup errors x next (each_from (cut_as over client) first looked) now before first (map cut looked)
    cuts next there =
        moves_each setup errors x now first before next KnowsEnd (cut_as over client) cut looked
        (λ number past knows. cut_steps setup errors x now number over client past knows)
        (λ past knows. still_knows now (ended_early over client past.entry) past past refl knows (cut_stays over client past.entry)) there

    counts : (next : Run) → IsRunOf setup errors x KnowsEnd now before first (map cut looked) next
        → Moves setup errors x next (each_from count_as first (map cut looked)) now before first (map count (map cut looked))
    counts next there =
        moves_each setup errors x now first before next KnowsEnd count_as count (map cut looked)
        (λ number past knows. beat_steps setup errors x now begun client beat.source past number knows)
        (λ past knows. still_knows now (with_beat begun client beat.source past.entry) past past refl knows (counted_stays begun client beat.source past.entry)) there

    all_three : Moves setup errors x run
        (each_from (show said) first pasts ++ (each_from (cut_as over client) first looked ++ each_from count_as first (map cut looked))) now before first
        (map count (map cut looked))
    all_three =
        moves_then setup errors x now first before run (each_from (show said) first pasts)
        (each_from (cut_as over client) first looked ++ each_from count_as first (map cut looked)) looked (map count (map cut looked)) is.below shows
        (λ there. moves_then setup errors x now first before (run_after run (each_from (show said) first pasts)) (each_from (cut_as over client) first looked)
        (each_from count_as first (map cut looked)) (map cut looked) (map count (map cut looked)) is.below
        (cuts (run_after run (each_from (show said) first pasts)) there)
        (λ further. counts (run_after (run_after run (each_from (show said) first pasts)) (each_from (cut_as over client) first looked)) further))

    same_events : each_from (show said) first pasts ++ (each_from (cut_as over client) first looked ++ each_from count_as first (map cut looked))
        ≡ reply_events setup errors x client beat lanes said first pasts
    same_events =
        three_same (shown_is said)
        (each_mapped (cut_as over client) (cut_as over client) (look said) first pasts
        (λ number past. ap (λ (e : Entry). ends_as number (ends_with e (ended_early over client e))) (look_entry said past)))
        (ap (λ (some : List Past). each_from count_as first some) (map_two cut (look said) pasts)
        ∙ each_mapped count_as (counted_as over begun client beat.source) (λ past. cut (look said past)) first pasts
        (λ number past. ap (λ (e : Entry). counted_as over begun client beat.source number (record past { entry = e })) (look_entry said past)))

    -- each goes on at once as one after another
    same_step : (past : Past) → count (cut (look said past)) ≡ with_entry now (with_beat begun client beat.source (ended_early over client past.entry)) (look said past)
    same_step past =
        let own = (look said past).entry in
        with_twice now (ended_early over client own) (with_beat begun client beat.source (ended_early over client own)) (look said past)
        (counted_stays begun client beat.source (ended_early over client own))
        ∙ ap (λ (e : Entry). with_entry now (with_beat begun client beat.source (ended_early over client e)) (look said past)) (look_entry said past)

    same_next : map count (map cut looked)
        ≡ with_entries now given (after_beat (entries_of pasts) client beat.source) (with_shown setup errors client beat lanes said pasts)
    same_next =
        map_two count cut looked ∙ map_two (λ past. count (cut past)) (look said) pasts
        ∙ map_as (λ past. count (cut (look said past)))
        (λ past. with_entry now (with_beat begun client beat.source (ended_early over client past.entry)) (look said past)) pasts same_step
        ∙ sym (with_mapped now given (λ entry. with_beat begun client beat.source (ended_early over client entry)) (look said) pasts)
        ∙ ap (λ (order : Order). with_entries now given order looked)
        (sym (map-map (with_beat begun client beat.source) (ended_early over client) (entries_of pasts)))
        ∙ ap (with_entries now given (after_beat (entries_of pasts) client beat.source)) (sym (looked_is said))

    pub reply_moves : Moves setup errors x run (reply_events setup errors x client beat lanes said first pasts) now before first
        (with_entries now given (after_beat (entries_of pasts) client beat.source) (with_shown setup errors client beat lanes said pasts))
    reply_moves =
        moves_as setup errors x now first before run
        (each_from (show said) first pasts ++ (each_from (cut_as over client) first looked ++ each_from count_as first (map cut looked)))
        (reply_events setup errors x client beat lanes said first pasts) now (map count (map cut looked))
        (with_entries now given (after_beat (entries_of pasts) client beat.source) (with_shown setup errors client beat lanes said pasts)) same_events same_next all_three
