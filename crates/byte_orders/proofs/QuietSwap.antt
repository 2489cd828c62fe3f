-- Where quiet events stand in place of others, the list goes on alike, whatever keeps it short before and after: so a list that was kept by some of them was kept
-- by all, and by others as well.
use Rattle.std.proofs.Common.{◌≡◌, ℕ, ◌≤◌, ◌==◌, Bool, true, false, ◌&&◌, List, [], ◌∷◌, ◌++◌, map, Option, Some, None, is_none, if◌then◌else◌, inl, inr, ⊎_elim, refl, sym, ◌∙◌, ap, subst, arith}
use Rattle.std.specs.Prelude.{⊤}
use Rattle.std.specs.List.{AllByRecursion}
use Rattle.std.proofs.lemmas.Bool.{eq-eqb, eqb-true}
use Rattle.byte_orders.specs.Accesses.{Access, IsOneOf}
use Rattle.byte_orders.specs.Holdings.{crowd, pruned_at, with_settled}
use Rattle.byte_orders.specs.Runs.{AllMayCome, Event, NoneBefore, Tells, Gives, LeavesOut, TakesEffect, Fails, Ends, NoneOlderThan, Settles, Crowds, Run, changed_of, run_after, run_next}
use Rattle.byte_orders.proofs.Leading.{after_both, both_may_come}
use Rattle.byte_orders.proofs.Members.{from_map, in_map}
use Rattle.byte_orders.proofs.QuietEvents.{IsOf, IsQuiet, IsStill, accesses_next, change_by, now_next, all_quiet_next, quiet_after}
use Rattle.byte_orders.proofs.RunsRightly.{Holds, after_holds}

-- ---- what keeps a list short

-- an event that changes the list alone
abbrev pub IsIdle : Event → Type 0
IsIdle (NoneOlderThan number) = ⊤
IsIdle Settles = ⊤
IsIdle Crowds = ⊤
IsIdle event = ⊥

abbrev pub AllIdle : List Event → Type 0
AllIdle events = AllByRecursion IsIdle events

idle_one : (run : Run) (event : Event) → IsIdle event → (run_next run event).accesses ≡ run.accesses
idle_one run (NoneOlderThan number) idle = refl
idle_one run Settles idle = refl
idle_one run Crowds idle = refl
idle_one run event idle = absurd idle

pub idle_accesses : (run : Run) (events : List Event) → AllIdle events → (run_after run events).accesses ≡ run.accesses
idle_accesses run [] idle = refl
idle_accesses run (event ∷ events) idle = idle_accesses (run_next run event) events idle.1 ∙ idle_one run event idle.0

-- two runs that have the same list, and of which the second has no more that hasn't ended
pub record IsAsFar (run other : Run) : Type 0 where
  pub held : other.held ≡ run.held
  pub now : other.now ≡ run.now
  pub oldest : other.oldest ≡ run.oldest
  pub none : (number : ℕ) → NoneBefore number run.accesses → NoneBefore number other.accesses

-- the second goes on as the first
pub record GoesAs (run other : Run) (events : List Event) : Type 0 where
  pub may_come : AllMayCome other events
  pub far : IsAsFar (run_after run events) (run_after other events)

idle_next : (run other : Run) (event : Event) → IsIdle event → IsAsFar run other → IsAsFar (run_next run event) (run_next other event)
idle_next run other (NoneOlderThan number) idle far =
    record {
      held = ap (λ n. pruned_at number n other.held) far.now ∙ ap (pruned_at number run.now) far.held;
      now = far.now;
      oldest = refl;
      none = far.none;
    }
idle_next run other Settles idle far = record { held = ap with_settled far.held; now = far.now; oldest = far.oldest; none = far.none }
idle_next run other Crowds idle far =
    record { held = ap (λ n. crowd n ∷ []) far.now; now = far.now; oldest = far.oldest; none = far.none }
idle_next run other event idle far = absurd idle

idle_may : (run other : Run) (event : Event) → IsIdle event → IsAsFar run other → AllMayCome run (event ∷ []) → AllMayCome other (event ∷ [])
idle_may run other (NoneOlderThan number) idle far may =
    ((omega (arith, far.oldest, may.0.0), omega (arith, far.now, may.0.1), far.none number may.0.2), tt)
idle_may run other Settles idle far may = (tt, tt)
idle_may run other Crowds idle far may = (tt, tt)
idle_may run other event idle far may = absurd idle

pub idle_as : (run other : Run) (events : List Event) → AllIdle events → IsAsFar run other → AllMayCome run events → GoesAs run other events
idle_as run other [] idle far may = record { may_come = tt; far = far }
idle_as run other (event ∷ events) idle far may =
    let one = idle_may run other event idle.0 far (may.0, tt) in
    let rest = idle_as (run_next run event) (run_next other event) events idle.1 (idle_next run other event idle.0 far) may.1 in
    record { may_come = (one.0, rest.may_come); far = rest.far }

-- ---- which accesses end with quiet events

-- the request that an event is of
abbrev of : Event → ℕ
of (Tells number byte) = number
of (Gives number value) = number
of (LeavesOut number) = number
of (TakesEffect number) = number
of (Fails number) = number
of (Ends number) = number
of event = 0

is_of : (accesses : List Access) (event : Event) → IsQuiet accesses event → IsOf (of event) event
is_of accesses (Tells number byte) quiet = refl
is_of accesses (Gives number value) quiet = refl
is_of accesses (LeavesOut number) quiet = refl
is_of accesses (TakesEffect number) quiet = refl
is_of accesses (Fails number) quiet = refl
is_of accesses (Ends number) quiet = refl
is_of accesses event quiet = absurd quiet

-- an access after events
abbrev through : ℕ → List Event → Access → Access
through now [] a = a
through now (event ∷ events) a = through now events (changed_of (of event) (change_by now event) a)

begun_by : (now : ℕ) (event : Event) (a : Access) → (change_by now event a).begun ≡ a.begun
begun_by now (Tells number byte) a = refl
begun_by now (Gives number value) a = refl
begun_by now (LeavesOut number) a = refl
begun_by now (TakesEffect number) a = refl
begun_by now (Fails number) a = refl
begun_by now (Ends number) a = refl
begun_by now event a = refl

begun_one : (now : ℕ) (event : Event) (a : Access) → (changed_of (of event) (change_by now event) a).begun ≡ a.begun
begun_one now event a = by_test (a.begun == of event && is_none a.ended)
  where
    by_test : (b : Bool) → (if b then change_by now event a else a).begun ≡ a.begun
    by_test true = begun_by now event a
    by_test false = refl

begun_through : (now : ℕ) (events : List Event) (a : Access) → (through now events a).begun ≡ a.begun
begun_through now [] a = refl
begun_through now (event ∷ events) a = begun_through now events (changed_of (of event) (change_by now event) a) ∙ begun_one now event a

-- it stays ended
over_one : (now time : ℕ) (event : Event) (a : Access) → a.ended ≡ Some time → (changed_of (of event) (change_by now event) a).ended ≡ Some time
over_one now time event a over =
    by_test (a.begun == of event)
  where
    by_test : (b : Bool) → (if b && is_none a.ended then change_by now event a else a).ended ≡ Some time
    by_test true = let closed : is_none a.ended ≡ false = ap is_none over in rw closed over
    by_test false = over

over_through : (now time : ℕ) (events : List Event) (a : Access) → a.ended ≡ Some time → (through now events a).ended ≡ Some time
over_through now time [] a over = over
over_through now time (event ∷ events) a over =
    over_through now time events (changed_of (of event) (change_by now event) a) (over_one now time event a over)

was_open : (now : ℕ) (events : List Event) (a : Access) → (through now events a).ended ≡ None → a.ended ≡ None
was_open now events a open_now = by_ended a.ended refl
  where
    by_ended : (o : Option ℕ) → a.ended ≡ o → o ≡ None
    by_ended None is = refl
    by_ended (Some time) is = let bad : Some time ≡ None = sym (over_through now time events a is) ∙ open_now in absurd (cc (bad))

-- it ends with none but its own end
live_one : (now : ℕ) (event : Event) (a : Access) → a.ended ≡ None → (Ends a.begun ≡ event → ⊥) → (changed_of (of event) (change_by now event) a).ended ≡ None
live_one now (Ends number) a live other = by_test (a.begun == number) refl
  where
    by_test : (b : Bool) → (a.begun == number) ≡ b → (if b && is_none a.ended then change_by now (Ends number) a else a).ended ≡ None
    by_test false is = live
    by_test true is = absurd (other (ap (λ n. Ends n) (eqb-true a.begun number is)))
live_one now (Tells number byte) a live other = by_test (a.begun == number && is_none a.ended)
  where
    by_test : (b : Bool) → (if b then change_by now (Tells number byte) a else a).ended ≡ None
    by_test true = live
    by_test false = live
live_one now (Gives number value) a live other = by_test (a.begun == number && is_none a.ended)
  where
    by_test : (b : Bool) → (if b then change_by now (Gives number value) a else a).ended ≡ None
    by_test true = live
    by_test false = live
live_one now (LeavesOut number) a live other = by_test (a.begun == number && is_none a.ended)
  where
    by_test : (b : Bool) → (if b then change_by now (LeavesOut number) a else a).ended ≡ None
    by_test true = live
    by_test false = live
live_one now (TakesEffect number) a live other = by_test (a.begun == number && is_none a.ended)
  where
    by_test : (b : Bool) → (if b then change_by now (TakesEffect number) a else a).ended ≡ None
    by_test true = live
    by_test false = live
live_one now (Fails number) a live other = by_test (a.begun == number && is_none a.ended)
  where
    by_test : (b : Bool) → (if b then change_by now (Fails number) a else a).ended ≡ None
    by_test true = live
    by_test false = live
live_one now event a live other = by_test (a.begun == of event && is_none a.ended)
  where
    by_test : (b : Bool) → (if b then change_by now event a else a).ended ≡ None
    by_test true = live
    by_test false = live

open_through : (now : ℕ) (events : List Event) (a : Access) → a.ended ≡ None → (IsOneOf (Ends a.begun) events → ⊥) → (through now events a).ended ≡ None
open_through now [] a live never = live
open_through now (event ∷ events) a live never =
    let next = changed_of (of event) (change_by now event) a in
    open_through now events next (live_one now event a live (λ same. never (inl same)))
    (λ at. never (inr (subst (λ n. IsOneOf (Ends n) events) (begun_one now event a) at)))

-- and with that
end_one : (now : ℕ) (a : Access) → a.ended ≡ None → (changed_of a.begun (change_by now (Ends a.begun)) a).ended ≡ Some now
end_one now a live =
    let own : (a.begun == a.begun) ≡ true = eq-eqb a.begun a.begun refl in
    let open_now : is_none a.ended ≡ true = ap is_none live in
    rw (own, open_now) refl

ends_through : (now : ℕ) (events : List Event) (a : Access) → IsOneOf (Ends a.begun) events → (through now events a).ended ≡ None → ⊥
ends_through now [] a at open_now = absurd at
ends_through now (event ∷ events) a at open_now =
    let live = was_open now (event ∷ events) a open_now in
    ⊎_elim (λ same. here live same)
    (λ later. ends_through now events next (subst (λ n. IsOneOf (Ends n) events) (sym (begun_one now event a)) later) open_now) at
  where
    next : Access
    next = changed_of (of event) (change_by now event) a

    here : a.ended ≡ None → Ends a.begun ≡ event → ⊥
    here live same =
        let ended : next.ended ≡ Some now = subst (λ (e : Event). (changed_of (of e) (change_by now e) a).ended ≡ Some now) same (end_one now a live) in
        let bad : Some now ≡ None = sym (over_through now now events next ended) ∙ open_now in
        absurd (cc (bad))

map_through : (now : ℕ) (event : Event) (events : List Event) (accesses : List Access)
    → map (through now events) (map (changed_of (of event) (change_by now event)) accesses) ≡ map (through now (event ∷ events)) accesses
map_through now event events [] = refl
map_through now event events (a ∷ accesses) =
    ap (λ (rest : List Access). through now (event ∷ events) a ∷ rest) (map_through now event events accesses)

map_still : (now : ℕ) (accesses : List Access) → map (through now []) accesses ≡ accesses
map_still now [] = refl
map_still now (a ∷ accesses) = ap (λ (rest : List Access). a ∷ rest) (map_still now accesses)

-- a run that may go on by some events may by others, and is as far then
pub record GoesInstead (run : Run) (events others : List Event) : Type 0 where
  pub may_come : AllMayCome run others
  pub far : IsAsFar (run_after run events) (run_after run others)

split_may_come : (run : Run) (xs ys : List Event) → AllMayCome run (xs ++ ys) → AllMayCome run xs × AllMayCome (run_after run xs) ys
split_may_come run [] ys may = (tt, may)
split_may_come run (x ∷ xs) ys may = let rest = split_may_come (run_next run x) xs ys may.1 in ((may.0, rest.0), rest.1)

module _ (start : Option ℕ) where
  through_accesses : (run : Run) (events : List Event) → AllByRecursion (IsQuiet run.accesses) events
      → (run_after run events).accesses ≡ map (through run.now events) run.accesses
  through_accesses run [] quiet = sym (map_still run.now run.accesses)
  through_accesses run (event ∷ events) quiet =
      let its = is_of run.accesses event quiet.0 in
      let next = run_next run event in
      let same = now_next (of event) run event its in
      through_accesses next events (all_quiet_next ⊥ start run (of event) event events its quiet.1)
      ∙ ap (λ n. map (through n events) next.accesses) same
      ∙ ap (map (through run.now events)) (accesses_next (of event) run event its) ∙ map_through run.now event events run.accesses

  -- the ends among some events are among others
  abbrev pub EndsToo : List Event → List Event → Type 0
  EndsToo events others = (number : ℕ) → IsOneOf (Ends number) events → IsOneOf (Ends number) others

  none_open : (number now : ℕ) (events others : List Event) (accesses : List Access) → EndsToo events others → NoneBefore number (map (through now events) accesses)
      → NoneBefore number (map (through now others) accesses)
  none_open number now events others accesses too none b at open_now =
      let from = from_map (through now others) b accesses at in
      let a = from.one in
      let open_then : (through now others a).ended ≡ None = ap (λ (c : Access). c.ended) (sym from.holds) ∙ open_now in
      let live : (through now events a).ended ≡ None =
      open_through now events a (was_open now others a open_then) (λ ends. ends_through now others a (too a.begun ends) open_then) in
      let older : number ≤ (through now events a).begun = none (through now events a) (in_map (through now events) a accesses from.there) live in
      let same : (through now events a).begun ≡ b.begun =
      begun_through now events a ∙ sym (begun_through now others a) ∙ ap (λ (c : Access). c.begun) (sym from.holds) in
      subst (λ n. number ≤ n) same older

  -- ---- in place of some, others

  -- after either of two the run is as far
  quiet_far : (run : Run) (events others : List Event) → Holds ⊥ start run → AllByRecursion (IsQuiet run.accesses) events
      → AllByRecursion (IsQuiet run.accesses) others → EndsToo events others → IsAsFar (run_after run events) (run_after run others)
  quiet_far run events others holds first second too =
      let one = quiet_after ⊥ start run events holds first in
      let two = quiet_after ⊥ start run others holds second in
      record {
        held = two.held ∙ sym one.held;
        now = two.now ∙ sym one.now;
        oldest = two.oldest ∙ sym one.oldest;
        none = λ number none.
            subst (NoneBefore number) (sym (through_accesses run others second))
            (none_open number run.now events others run.accesses too (subst (NoneBefore number) (through_accesses run events first) none));
      }

  pub swap_quiet : (run : Run) (before events others after : List Event) → Holds ⊥ start run → AllIdle before → AllIdle after
      → AllByRecursion (IsQuiet run.accesses) events → AllByRecursion (IsQuiet run.accesses) others → EndsToo events others
      → AllMayCome run (before ++ (events ++ after)) → GoesInstead run (before ++ (events ++ after)) (before ++ (others ++ after))
  swap_quiet run before events others after holds short long first second too may =
      record {
        may_come = both_may_come run before (others ++ after) parts.0 (both_may_come between others after two.may_come last.may_come);
        far = subst (λ (r : Run). IsAsFar r (run_after run (before ++ (others ++ after)))) (sym (ends_at events))
            (subst (IsAsFar (run_after (run_after between events) after)) (sym (ends_at others)) last.far);
      }
    where
      between : Run
      between = run_after run before

      parts : AllMayCome run before × AllMayCome between (events ++ after)
      parts = split_may_come run before (events ++ after) may

      rest : AllMayCome between events × AllMayCome (run_after between events) after
      rest = split_may_come between events after parts.1

      holds_there : Holds ⊥ start between
      holds_there = after_holds ⊥ start run before parts.0 (λ never. absurd never) holds

      quiet_there : (some : List Event) → AllByRecursion (IsQuiet run.accesses) some → AllByRecursion (IsQuiet between.accesses) some
      quiet_there some quiet = subst (λ (accesses : List Access). AllByRecursion (IsQuiet accesses) some) (sym (idle_accesses run before short)) quiet

      two : IsStill between others
      two = quiet_after ⊥ start between others holds_there (quiet_there others second)

      last : GoesAs (run_after between events) (run_after between others) after
      last =
          idle_as (run_after between events) (run_after between others) after long
          (quiet_far between events others holds_there (quiet_there events first) (quiet_there others second) too) rest.1

      ends_at : (some : List Event) → run_after run (before ++ (some ++ after)) ≡ run_after (run_after between some) after
      ends_at some = after_both run before (some ++ after) ∙ after_both between some after
