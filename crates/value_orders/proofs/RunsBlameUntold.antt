-- A run whose list is held, with what was told left out: its list is held too, as what is told plays no part there. So what a list blames no order explains
-- whatever was told else.
use Rattle.std.proofs.Common.{◌≡◌, ℕ, ◌≤◌, ◌==◌, Bool, true, false, ◌&&◌, List, [], ◌∷◌, ◌++◌, map, Option, Some, is_none, if◌then◌else◌, refl, sym, ◌∙◌, ap, subst}
use Rattle.byte_orders.specs.Accesses.{Access}
use Rattle.byte_orders.specs.Holdings.{Holding, NoOrderExplains}
use Rattle.byte_orders.specs.Runs.{AllMayCome, Event, IsBlamedInRuns, IsInFlight, MayCome, NoneBefore, Reads, Writes, Others, Tells, Gives, LeavesOut, TakesEffect, Fails, Ends, Resets, NoneOlderThan, Settles, Crowds, Run, changed_of, cut_short, ending, failing, first_run, giving, giving_nothing, reading, run_after, run_next, taking_effect, telling, with_changed, writing}
use Rattle.byte_orders.proofs.Members.{from_map, in_map}
use Rattle.value_orders.specs.Bytes.{untold}

-- a run as it is when nothing was told
abbrev untold_run : Run → Run
untold_run run = record run { accesses = map untold run.accesses }

-- ---- accesses that change

changed_untold : (number : ℕ) (change : Access → Access) → ((a : Access) → change (untold a) ≡ untold (change a)) → (a : Access)
    → changed_of number change (untold a) ≡ untold (changed_of number change a)
changed_untold number change same a = by_test (a.begun == number && is_none a.ended)
  where
    by_test : (b : Bool) → (if b then change (untold a) else untold a) ≡ untold (if b then change a else a)
    by_test true = same a
    by_test false = refl

all_untold : (f : Access → Access) → ((a : Access) → f (untold a) ≡ untold (f a)) → (accesses : List Access) → map f (map untold accesses) ≡ map untold (map f accesses)
all_untold f same [] = refl
all_untold f same (a ∷ accesses) = ap (λ (b : Access). b ∷ map f (map untold accesses)) (same a) ∙ ap (λ (rest : List Access). untold (f a) ∷ rest) (all_untold f same accesses)

with_untold : (number : ℕ) (change : Access → Access) → ((a : Access) → change (untold a) ≡ untold (change a)) → (accesses : List Access)
    → with_changed number change (map untold accesses) ≡ map untold (with_changed number change accesses)
with_untold number change same accesses = all_untold (changed_of number change) (changed_untold number change same) accesses

-- what one was told isn't seen then
told_untold : (number byte : ℕ) (accesses : List Access) → map untold accesses ≡ map untold (with_changed number (telling byte) accesses)
told_untold number byte [] = refl
told_untold number byte (a ∷ accesses) =
    ap (λ (b : Access). b ∷ map untold accesses) (by_test (a.begun == number && is_none a.ended))
    ∙ ap (λ (rest : List Access). untold (changed_of number (telling byte) a) ∷ rest) (told_untold number byte accesses)
  where
    by_test : (b : Bool) → untold a ≡ untold (if b then telling byte a else a)
    by_test true = refl
    by_test false = refl

cut_untold : (now : ℕ) (a : Access) → cut_short now (untold a) ≡ untold (cut_short now a)
cut_untold now a = by_test (is_none a.ended)
  where
    by_test : (b : Bool) → (if b then record (untold a) { ended = Some now; sure = false } else untold a) ≡ untold (if b then record a { ended = Some now; sure = false } else a)
    by_test true = refl
    by_test false = refl

appended_untold : (accesses : List Access) (a : Access) → untold a ≡ a → map untold accesses ++ a ∷ [] ≡ map untold (accesses ++ a ∷ [])
appended_untold [] a same = ap (λ (b : Access). b ∷ []) (sym same)
appended_untold (b ∷ accesses) a same = ap (λ (rest : List Access). untold b ∷ rest) (appended_untold accesses a same)

none_before : (number : ℕ) (accesses : List Access) → NoneBefore number accesses → NoneBefore number (map untold accesses)
none_before number accesses none a at live =
    let found = from_map untold a accesses at in
    subst (λ (b : Access). number ≤ b.begun) (sym found.holds) (none found.one found.there (sym (ap (λ (b : Access). b.ended) found.holds) ∙ live))

-- ---- events

-- a run of other events comes to this one, with what was told left out
record Comes (run next : Run) : Type 0 where
  events : List Event
  may : AllMayCome (untold_run run) events
  is : run_after (untold_run run) events ≡ untold_run next

one_comes : (run : Run) (event : Event) → MayCome (untold_run run) event → run_next (untold_run run) event ≡ untold_run (run_next run event) → Comes run (run_next run event)
one_comes run event may is = record { events = event ∷ []; may = (may, tt); is = is }

-- a run whose accesses are these
with_accesses : (run : Run) (held : List Holding) (new old : List Access) → new ≡ old
    → record run { accesses = new; held = held } ≡ record run { accesses = old; held = held }
with_accesses run held new old same = ap (λ (accesses : List Access). record run { accesses = accesses; held = held }) same

next_comes : (run : Run) (event : Event) → MayCome run event → Comes run (run_next run event)
next_comes run (Reads number) may =
    one_comes run (Reads number) may
    (ap (λ (accesses : List Access). record run { now = number; accesses = accesses }) (appended_untold run.accesses (reading number) refl))
next_comes run (Writes number) may =
    one_comes run (Writes number) may
    (ap (λ (accesses : List Access). record (run_next run (Writes number)) { accesses = accesses }) (appended_untold run.accesses (writing number) refl))
next_comes run (Others number) may = one_comes run (Others number) may refl
next_comes run (Tells number byte) may =
    record { events = []; may = tt; is = ap (λ (accesses : List Access). record run { accesses = accesses }) (told_untold number byte run.accesses) }
next_comes run (Gives number value) may =
    one_comes run (Gives number value) may
    (ap (λ (accesses : List Access). record (run_next run (Gives number value)) { accesses = accesses }) (with_untold number (giving value) (λ a. refl) run.accesses))
next_comes run (LeavesOut number) may =
    one_comes run (LeavesOut number) may
    (ap (λ (accesses : List Access). record (run_next run (LeavesOut number)) { accesses = accesses }) (with_untold number giving_nothing (λ a. refl) run.accesses))
next_comes run (TakesEffect number) may =
    one_comes run (TakesEffect number) may
    (ap (λ (accesses : List Access). record (run_next run (TakesEffect number)) { accesses = accesses }) (with_untold number taking_effect (λ a. refl) run.accesses))
next_comes run (Fails number) may =
    one_comes run (Fails number) may
    (ap (λ (accesses : List Access). record (run_next run (Fails number)) { accesses = accesses }) (with_untold number failing (λ a. refl) run.accesses))
next_comes run (Ends number) may =
    one_comes run (Ends number) may
    (ap (λ (accesses : List Access). record (run_next run (Ends number)) { accesses = accesses }) (with_untold number (ending run.now) (λ a. refl) run.accesses))
next_comes run Resets may =
    one_comes run Resets may
    (ap (λ (accesses : List Access). record (run_next run Resets) { accesses = accesses }) (all_untold (cut_short run.now) (cut_untold run.now) run.accesses))
next_comes run (NoneOlderThan number) may = one_comes run (NoneOlderThan number) (may.0, may.1, none_before number run.accesses may.2) refl
next_comes run Settles may = one_comes run Settles may refl
next_comes run Crowds may = one_comes run Crowds may refl

joined_may : (run : Run) (first rest : List Event) → AllMayCome run first → AllMayCome (run_after run first) rest → AllMayCome run (first ++ rest)
joined_may run [] rest one other = other
joined_may run (event ∷ first) rest one other = (one.0, joined_may (run_next run event) first rest one.1 other)

joined_after : (run : Run) (first rest : List Event) → run_after run (first ++ rest) ≡ run_after (run_after run first) rest
joined_after run [] rest = refl
joined_after run (event ∷ first) rest = joined_after (run_next run event) first rest

all_come : (run : Run) (events : List Event) → AllMayCome run events → Comes run (run_after run events)
all_come run [] may = record { events = []; may = tt; is = refl }
all_come run (event ∷ events) may =
    join (next_comes run event may.0) (all_come (run_next run event) events may.1)
  where
    join : Comes run (run_next run event) → Comes (run_next run event) (run_after (run_next run event) events) → Comes run (run_after run (event ∷ events))
    join one rest =
        record {
          events = one.events ++ rest.events;
          may = joined_may (untold_run run) one.events rest.events one.may (subst (λ (r : Run). AllMayCome r rest.events) (sym one.is) rest.may);
          is = joined_after (untold_run run) one.events rest.events ∙ ap (λ (r : Run). run_after r rest.events) one.is ∙ rest.is;
        }

-- ---- what a list blames

pub blames_untold : (held : List Holding) (number byte : ℕ) → IsBlamedInRuns held number byte
    → (start : Option ℕ) (events : List Event) → AllMayCome (first_run start) events → held ≡ (run_after (first_run start) events).held
    → IsInFlight number (run_after (first_run start) events).accesses
    → NoOrderExplains start (map untold (run_after (first_run start) events).accesses) number byte
blames_untold held number byte blamed start events may same flight =
    let run = run_after (first_run start) events in
    let comes = all_come (first_run start) events may in
    let there : IsInFlight number (run_after (first_run start) comes.events).accesses =
    subst (λ (r : Run). IsInFlight number r.accesses) (sym comes.is)
    (record { one = untold flight.one; there = in_map untold flight.one run.accesses flight.there; begun = flight.begun; live = flight.live }) in
    subst (λ (r : Run). NoOrderExplains start r.accesses number byte) comes.is
    (blamed start comes.events comes.may (same ∙ sym (ap (λ (r : Run). r.held) comes.is)) there)
