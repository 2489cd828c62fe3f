-- Along all that happens: a run of a byte that goes along with a history goes on by the events of one happening more to one that goes along with the next.
use Rattle.std.proofs.Common.{length-append, ◌≡◌, ℕ, ◌+◌, Bool, true, false, List, [], ◌∷◌, ◌++◌, map, length, Option, Some, append-nil, if◌then◌else◌, refl, sym, ◌∙◌, ap, subst, arith}
use Rattle.std.specs.Prelude.{is_none}
use Rattle.std.specs.List.{AllByRecursion}
use Rattle.std.proofs.lemmas.List.{length-map}
use Rattle.byte_orders.specs.Accesses.{Access}
use Rattle.byte_orders.specs.Runs.{Event, Resets, Run, cut_short, first_run, run_after}
use Rattle.byte_orders.proofs.Leading.{LeadsTo, leads_then}
use Rattle.setups.specs.Setups.{SetupLists}
use Rattle.scoreboard.specs.Boards.{Beginning, Board}
use Rattle.scoreboard.specs.Orders.{Order}
use Rattle.scoreboard.specs.RealTime.{begun_next}
use Rattle.scoreboard.specs.Unknown.{UnknownBoard}
use Rattle.scoreboard.specs.declared.Errors.{Errors}
use Rattle.scoreboard.specs.declared.ObservedBeat.{ObservedBeat}
use Rattle.scoreboard.specs.declared.Wrong.{Wrong}
use Rattle.scoreboard.proofs.real_time.Becoming.{IsFollowed}
use Rattle.scoreboard.proofs.real_time.Fates.{IsCounted, goes_next}
use Rattle.value_orders.specs.Bytes.{accesses_from, accesses_in, byte_at_start}
use Rattle.value_orders.specs.Events.{IsRunAt, events_from, events_in, events_of}
use Rattle.value_orders.specs.Histories.{Happening, History, Past, Reset, Seen, all_past, begun_by, board_from, board_in, board_next, cut_off, entries_of, history_from, history_in, history_next, no_history, opening}
use Rattle.value_orders.proofs.Entries.{entries_next}
use Rattle.value_orders.proofs.EventEnds.{KnowsEnd}
use Rattle.value_orders.proofs.EventFailures.{cut_accesses, cut_over}
use Rattle.value_orders.proofs.EventLists.{AllBelow, accesses_append, all_below}
use Rattle.value_orders.proofs.EventRuns.{seen_goes}
use Rattle.value_orders.proofs.EventShapes.{Moves}
use Rattle.value_orders.proofs.WellHistories.{IsKept, kept_in, kept_next}

-- of each request it is known whether it has ended: all have that began before the last reset
pub record EndsAreKnown (history : History) : Type 0 where
  pub over : AllByRecursion (λ past. is_none past.ended ≡ false) history.over
  pub since : AllByRecursion KnowsEnd history.since

-- ---- a beat

module _ (setup : SetupLists) (board : Board) (history : History) (seen : ObservedBeat) (lanes : ℕ) (said : Option Wrong) (ends : EndsAreKnown history)
    (followed : IsFollowed board (entries_of history.since)) (counted : IsCounted board.errors (entries_of history.since)) (x : ℕ) where
  abbrev total : ℕ
  total = length history.over

  abbrev now : ℕ
  now = begun_by history

  abbrev before : List Access
  before = accesses_from setup board.errors x 1 history.over

  abbrev next : History
  next = history_next setup board (Seen seen lanes said) history

  abbrev begins : Order
  begins = begun_next board seen (entries_of history.since)

  abbrev events : List Event
  events = events_of setup board (Seen seen lanes said) history x

  reaches : total + length (entries_of history.since) ≡ now
  reaches = omega (arith, length-append history.over history.since, length-map history.since (λ (past : Past). past.entry))

  -- the accesses of those before the last reset, and since
  parts : (since : List Past) → accesses_from setup board.errors x 1 (history.over ++ since) ≡ before ++ accesses_from setup board.errors x (total + 1) since
  parts since =
      accesses_append setup board.errors x 1 history.over since ∙ ap (λ k. before ++ accesses_from setup board.errors x k since) (omega arith)

  below : AllBelow (total + 1) before
  below = all_below setup board.errors x 1 (total + 1) history.over (omega arith)

  next_count : total + length begins ≡ begun_by next
  next_count =
      let longer = (goes_next board seen (entries_of history.since) counted).longer in
      let same = ap (λ (order : Order). length order) (entries_next setup board total seen lanes said history.since longer) in
      omega (arith, same, length-append history.over next.since, length-map next.since (λ (past : Past). past.entry))

  goes : (run : Run) → IsRunAt setup board.errors history x run
      → Moves setup board.errors x run events (total + length begins) before (total + 1) next.since
  goes run is =
      seen_goes setup x now total before history.since run board seen lanes said reaches
      (record { now_is = is.now; accesses = is.accesses ∙ parts history.since; below = below; all = ends.since }) followed counted

  pub seen_leads : (run : Run) → IsRunAt setup board.errors history x run → LeadsTo run events (begun_by next) (accesses_in setup board.errors next x)
  seen_leads run is =
      let leads = (goes run is).leads in
      record { may_come = leads.may_come; now = leads.now ∙ next_count; accesses = leads.accesses ∙ sym (parts next.since) }

  pub seen_known : EndsAreKnown next
  seen_known =
      let run : Run = record { now = now; oldest = 0; accesses = accesses_in setup board.errors history x; held = [] } in
      record { over = ends.over; since = (goes run (record { now = refl; accesses = refl })).knows }

-- ---- a reset

map_both : (f : Past → Past) (before after : List Past) → map f (before ++ after) ≡ map f before ++ map f after
map_both f [] after = refl
map_both f (past ∷ before) after = ap (λ (rest : List Past). f past ∷ rest) (map_both f before after)

all_cut : (count : ℕ) (pasts : List Past) → AllByRecursion (λ past. is_none past.ended ≡ false) (map (cut_off count) pasts)
all_cut count [] = tt
all_cut count (past ∷ pasts) = (by_test (is_none past.ended) refl, all_cut count pasts)
  where
    by_test : (b : Bool) → is_none past.ended ≡ b → is_none (if b then record past { ended = Some count; cut = true } else past).ended ≡ false
    by_test true is = refl
    by_test false is = is

both_over : (before after : List Past) → AllByRecursion (λ past. is_none past.ended ≡ false) before → AllByRecursion (λ past. is_none past.ended ≡ false) after
    → AllByRecursion (λ past. is_none past.ended ≡ false) (before ++ after)
both_over [] after one other = other
both_over (past ∷ before) after one other = (one.0, both_over before after one.1 other)

module _ (setup : SetupLists) (errors : Errors) (board : Board) (history : History) (ends : EndsAreKnown history) where
  abbrev after_reset : History
  after_reset = history_next setup board Reset history

  reset_known : EndsAreKnown after_reset
  reset_known =
      record {
        over = both_over history.over (map (cut_off (begun_by history)) history.since) ends.over (all_cut (begun_by history) history.since);
        since = tt;
      }

  reset_past : map (cut_off (begun_by history)) (all_past history) ≡ all_past after_reset
  reset_past =
      map_both (cut_off (begun_by history)) history.over history.since
      ∙ ap (λ (some : List Past). some ++ map (cut_off (begun_by history)) history.since) (cut_over setup errors 0 (begun_by history) history.over ends.over)
      ∙ sym (append-nil (history.over ++ map (cut_off (begun_by history)) history.since))

  reset_count : begun_by history ≡ begun_by after_reset
  reset_count =
      sym (length-map (all_past history) (cut_off (begun_by history))) ∙ ap (λ (pasts : List Past). length pasts) reset_past

  reset_leads : (x : ℕ) (run : Run) → IsRunAt setup errors history x run
      → LeadsTo run (Resets ∷ []) (begun_by after_reset) (accesses_in setup errors after_reset x)
  reset_leads x run is =
      record {
        may_come = (tt, tt);
        now = is.now ∙ reset_count;
        accesses = ap (λ n. map (cut_short n) run.accesses) is.now ∙ ap (map (cut_short (begun_by history))) is.accesses
            ∙ cut_accesses setup errors x (begun_by history) 1 (all_past history) ∙ ap (accesses_from setup errors x 1) reset_past;
      }

-- ---- one happening

module _ (setup : SetupLists) (errors : Errors) where
  -- where errors are told as its board says
  one_leads : (old : UnknownBoard) (history : History) (happening : Happening) (x : ℕ) (run : Run) → IsKept old.board.errors old.board history → EndsAreKnown history
      → IsRunAt setup old.board.errors history x run
      → LeadsTo run (events_of setup old.board happening history x) (begun_by (history_next setup old.board happening history))
      (accesses_in setup old.board.errors (history_next setup old.board happening history) x)
  one_leads old history (Seen seen lanes said) x run kept ends is =
      seen_leads setup old.board history seen lanes said ends kept.followed kept.counted x run is
  one_leads old history Reset x run kept ends is = reset_leads setup old.board.errors old.board history ends x run is

  own_known : (old : UnknownBoard) (history : History) (happening : Happening) → IsKept old.board.errors old.board history → EndsAreKnown history
      → EndsAreKnown (history_next setup old.board happening history)
  own_known old history (Seen seen lanes said) kept ends = seen_known setup old.board history seen lanes said ends kept.followed kept.counted 0
  own_known old history Reset kept ends = reset_known setup old.board.errors old.board history ends

  pub known_next : (old : UnknownBoard) (history : History) (happening : Happening) → IsKept errors old.board history → EndsAreKnown history
      → EndsAreKnown (history_next setup old.board happening history)
  known_next old history happening kept ends =
      own_known old history happening (subst (λ (e : Errors). IsKept e old.board history) (sym kept.errors_are) kept) ends

  pub leads_next : (old : UnknownBoard) (history : History) (happening : Happening) (x : ℕ) (run : Run) → IsKept errors old.board history → EndsAreKnown history
      → IsRunAt setup errors history x run
      → LeadsTo run (events_of setup old.board happening history x) (begun_by (history_next setup old.board happening history))
      (accesses_in setup errors (history_next setup old.board happening history) x)
  leads_next old history happening x run kept ends is =
      subst (λ (e : Errors). LeadsTo run (events_of setup old.board happening history x) (begun_by (history_next setup old.board happening history))
      (accesses_in setup e (history_next setup old.board happening history) x)) kept.errors_are
      (one_leads old history happening x run (subst (λ (e : Errors). IsKept e old.board history) (sym kept.errors_are) kept) ends
      (subst (λ (e : Errors). IsRunAt setup e history x run) (sym kept.errors_are) is))

  -- ---- many

  known_from : (happenings : List Happening) (board : UnknownBoard) (history : History) → IsKept errors board.board history → EndsAreKnown history
      → EndsAreKnown (history_from setup board history happenings)
  known_from [] board history kept ends = ends
  known_from (happening ∷ rest) board history kept ends =
      known_from rest (board_next board happening) (history_next setup board.board happening history) (kept_next setup errors board history happening kept)
      (known_next board history happening kept ends)

  leads_from : (happenings : List Happening) (board : UnknownBoard) (history : History) (x : ℕ) (run : Run) → IsKept errors board.board history → EndsAreKnown history
      → IsRunAt setup errors history x run
      → LeadsTo run (events_from setup board history happenings x) (begun_by (history_from setup board history happenings))
      (accesses_in setup errors (history_from setup board history happenings) x)
  leads_from [] board history x run kept ends is = record { may_come = tt; now = is.now; accesses = is.accesses }
  leads_from (happening ∷ rest) board history x run kept ends is =
      let next = history_next setup board.board happening history in
      let after = board_next board happening in
      let events = events_of setup board.board happening history x in
      let one = leads_next board history happening x run kept ends is in
      leads_then run events (events_from setup after next rest x) (begun_by next) (begun_by (history_from setup after next rest)) (accesses_in setup errors next x)
      (accesses_in setup errors (history_from setup after next rest) x) one
      (leads_from rest after next x (run_after run events) (kept_next setup errors board history happening kept) (known_next board history happening kept ends)
      (record { now = one.now; accesses = one.accesses }))

-- ---- since the start

none_known : EndsAreKnown no_history
none_known = record { over = tt; since = tt }

pub known_in : (errors : Errors) (beginning : Beginning) (happenings : List Happening) → EndsAreKnown (history_in errors beginning happenings)
known_in errors beginning happenings =
    known_from beginning.lists errors happenings (opening errors beginning) no_history (kept_in errors beginning []) none_known

-- a run that goes along with all that happened goes on by the events of one happening more
pub leads_in : (errors : Errors) (beginning : Beginning) (happenings : List Happening) (happening : Happening) (x : ℕ) (run : Run)
    → IsRunAt beginning.lists errors (history_in errors beginning happenings) x run
    → LeadsTo run (events_of beginning.lists (board_in errors beginning happenings).board happening (history_in errors beginning happenings) x)
    (begun_by (history_next beginning.lists (board_in errors beginning happenings).board happening (history_in errors beginning happenings)))
    (accesses_in beginning.lists errors (history_next beginning.lists (board_in errors beginning happenings).board happening (history_in errors beginning happenings)) x)
leads_in errors beginning happenings happening x run is =
    leads_next beginning.lists errors (board_in errors beginning happenings) (history_in errors beginning happenings) happening x run
    (kept_in errors beginning happenings) (known_in errors beginning happenings) is

-- the first run goes along with nothing
pub first_at : (errors : Errors) (beginning : Beginning) (x : ℕ) → IsRunAt beginning.lists errors no_history x (first_run (byte_at_start beginning x))
first_at errors beginning x = record { now = refl; accesses = refl }

-- and by the events of all that happened it leads to what each request did
pub all_leads : (errors : Errors) (beginning : Beginning) (happenings : List Happening) (x : ℕ)
    → LeadsTo (first_run (byte_at_start beginning x)) (events_in errors beginning happenings x) (begun_by (history_in errors beginning happenings))
    (accesses_in beginning.lists errors (history_in errors beginning happenings) x)
all_leads errors beginning happenings x =
    leads_from beginning.lists errors happenings (opening errors beginning) no_history x (first_run (byte_at_start beginning x)) (kept_in errors beginning []) none_known
    (first_at errors beginning x)

-- ---- one happening more

pub board_last : (board : UnknownBoard) (happenings : List Happening) (happening : Happening)
    → board_from board (happenings ++ happening ∷ []) ≡ board_next (board_from board happenings) happening
board_last board [] happening = refl
board_last board (first ∷ happenings) happening = board_last (board_next board first) happenings happening

pub history_last : (setup : SetupLists) (board : UnknownBoard) (history : History) (happenings : List Happening) (happening : Happening)
    → history_from setup board history (happenings ++ happening ∷ [])
    ≡ history_next setup (board_from board happenings).board happening (history_from setup board history happenings)
history_last setup board history [] happening = refl
history_last setup board history (first ∷ happenings) happening =
    history_last setup (board_next board first) (history_next setup board.board first history) happenings happening
