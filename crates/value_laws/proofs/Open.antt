-- Which accesses of a byte haven't ended, as events come.
use Rattle.std.proofs.Common.{◌≡◌, ℕ, ◌≤◌, ◌==◌, Bool, true, false, ◌&&◌, List, [], ◌∷◌, ◌++◌, map, Some, None, is_none, if◌then◌else◌, ⊎_elim, refl, sym, ◌∙◌, ap, subst}
use Rattle.std.specs.Prelude.{⊤}
use Rattle.std.specs.List.{AllByRecursion}
use Rattle.std.proofs.lemmas.Bool.{both_ways}
use Rattle.byte_orders.specs.Accesses.{Access, IsOneOf}
use Rattle.byte_orders.specs.Runs.{Event, IsInFlight, NoneBefore, Reads, Writes, Others, Tells, Gives, LeavesOut, TakesEffect, Fails, Ends, Resets, NoneOlderThan, Settles, Crowds, changed_of, cut_short, ending, reading, with_changed, writing}
use Rattle.byte_orders.proofs.Members.{from_append, from_map, in_append_left, in_append_right, in_map}
use Rattle.byte_orders.proofs.QuietEvents.{change_by}
use Rattle.value_laws.specs.Kept.{Work, work_after, work_next}

-- a change that opens none, and one that closes none either
pub record OpensNone (f : Access → Access) : Type 0 where
  pub begun : (a : Access) → (f a).begun ≡ a.begun
  pub live : (a : Access) → (f a).ended ≡ None → a.ended ≡ None

pub record KeepsTimes (f : Access → Access) : Type 0 where
  pub begun : (a : Access) → (f a).begun ≡ a.begun
  pub ended : (a : Access) → (f a).ended ≡ a.ended

pub opens_none : (f : Access → Access) → KeepsTimes f → OpensNone f
opens_none f keeps = record { begun = keeps.begun; live = λ a none. sym (keeps.ended a) ∙ none }

-- an event that doesn't end a request
abbrev pub EndsNone : Event → Type 0
EndsNone (Ends number) = ⊥
EndsNone event = ⊤

pub opens_by : (now : ℕ) (event : Event) → OpensNone (change_by now event)
opens_by now (Tells number byte) = record { begun = λ a. refl; live = λ a none. none }
opens_by now (Gives number value) = record { begun = λ a. refl; live = λ a none. none }
opens_by now (LeavesOut number) = record { begun = λ a. refl; live = λ a none. none }
opens_by now (TakesEffect number) = record { begun = λ a. refl; live = λ a none. none }
opens_by now (Fails number) = record { begun = λ a. refl; live = λ a none. none }
opens_by now (Ends number) = record { begun = λ a. refl; live = λ a none. let bad : Some now ≡ None = none in absurd (cc (bad)) }
opens_by now event = record { begun = λ a. refl; live = λ a none. none }

pub keeps_by : (now : ℕ) (event : Event) → EndsNone event → KeepsTimes (change_by now event)
keeps_by now (Tells number byte) none = record { begun = λ a. refl; ended = λ a. refl }
keeps_by now (Gives number value) none = record { begun = λ a. refl; ended = λ a. refl }
keeps_by now (LeavesOut number) none = record { begun = λ a. refl; ended = λ a. refl }
keeps_by now (TakesEffect number) none = record { begun = λ a. refl; ended = λ a. refl }
keeps_by now (Fails number) none = record { begun = λ a. refl; ended = λ a. refl }
keeps_by now (Ends number) none = absurd none
keeps_by now event none = record { begun = λ a. refl; ended = λ a. refl }

pub opens_of : (number : ℕ) (f : Access → Access) → OpensNone f → OpensNone (changed_of number f)
opens_of number f is = record { begun = λ a. by_begun a (a.begun == number && is_none a.ended); live = λ a. by_live a (a.begun == number && is_none a.ended) }
  where
    by_begun : (a : Access) (b : Bool) → (if b then f a else a).begun ≡ a.begun
    by_begun a true = is.begun a
    by_begun a false = refl

    by_live : (a : Access) (b : Bool) → (if b then f a else a).ended ≡ None → a.ended ≡ None
    by_live a true none = is.live a none
    by_live a false none = none

keeps_of : (number : ℕ) (f : Access → Access) → KeepsTimes f → KeepsTimes (changed_of number f)
keeps_of number f is = record { begun = λ a. by_begun a (a.begun == number && is_none a.ended); ended = λ a. by_ended a (a.begun == number && is_none a.ended) }
  where
    by_begun : (a : Access) (b : Bool) → (if b then f a else a).begun ≡ a.begun
    by_begun a true = is.begun a
    by_begun a false = refl

    by_ended : (a : Access) (b : Bool) → (if b then f a else a).ended ≡ a.ended
    by_ended a true = is.ended a
    by_ended a false = refl

-- ---- two lists of accesses: what hasn't ended of the second hasn't of the first

abbrev pub AreOpenToo : List Access → List Access → Type 0
AreOpenToo some others = (a : Access) → IsOneOf a others → a.ended ≡ None → IsInFlight a.begun some

pub open_itself : (accesses : List Access) → AreOpenToo accesses accesses
open_itself accesses a there live = record { one = a; there = there; begun = refl; live = live }

-- the first changes, and none is closed; or the second, and none is opened
map_first : (f : Access → Access) (some others : List Access) → KeepsTimes f → AreOpenToo some others → AreOpenToo (map f some) others
map_first f some others keeps too a there live =
    let found = too a there live in
    record { one = f found.one; there = in_map f found.one some found.there; begun = keeps.begun found.one ∙ found.begun; live = keeps.ended found.one ∙ found.live }

map_second : (f : Access → Access) (some others : List Access) → OpensNone f → AreOpenToo some others → AreOpenToo some (map f others)
map_second f some others opens too a there live =
    let from = from_map f a others there in
    let was : from.one.ended ≡ None = opens.live from.one (sym (ap (λ (b : Access). b.ended) from.holds) ∙ live) in
    let found = too from.one from.there was in
    let same : from.one.begun ≡ a.begun = sym (ap (λ (b : Access). b.begun) from.holds ∙ opens.begun from.one) in
    record { one = found.one; there = found.there; begun = found.begun ∙ same; live = found.live }

pub first_changes : (number now : ℕ) (event : Event) (some others : List Access) → EndsNone event → AreOpenToo some others
    → AreOpenToo (with_changed number (change_by now event) some) others
first_changes number now event some others none too =
    map_first (changed_of number (change_by now event)) some others (keeps_of number (change_by now event) (keeps_by now event none)) too

pub second_changes : (number now : ℕ) (event : Event) (some others : List Access) → AreOpenToo some others → AreOpenToo some (with_changed number (change_by now event) others)
second_changes number now event some others too =
    map_second (changed_of number (change_by now event)) some others (opens_of number (change_by now event) (opens_by now event)) too

-- a request ends in both
module _ (number : ℕ) where
  ended_none : (now : ℕ) (a : Access) → a.ended ≡ None → (changed_of number (ending now) a).ended ≡ None → (a.begun == number) ≡ false
  ended_none now a live still = by_test (a.begun == number) refl
    where
      by_test : (b : Bool) → (a.begun == number) ≡ b → b ≡ false
      by_test false is = refl
      by_test true is =
          let open_now : is_none a.ended ≡ true = ap is_none live in
          let ended : (changed_of number (ending now) a).ended ≡ Some now = rw (is, open_now) refl in
          let bad : Some now ≡ None = sym ended ∙ still in
          absurd (cc (bad))

  not_ended : (now : ℕ) (a : Access) → (a.begun == number) ≡ false → changed_of number (ending now) a ≡ a
  not_ended now a other = rw other refl

  pub both_end : (now time : ℕ) (some others : List Access) → AreOpenToo some others
      → AreOpenToo (with_changed number (ending now) some) (with_changed number (ending time) others)
  both_end now time some others too a there live =
      let opens : OpensNone (changed_of number (ending time)) = opens_of number (ending time) (opens_by time (Ends number)) in
      let from = from_map (changed_of number (ending time)) a others there in
      let still : (changed_of number (ending time) from.one).ended ≡ None = sym (ap (λ (b : Access). b.ended) from.holds) ∙ live in
      let was : from.one.ended ≡ None = opens.live from.one still in
      let found = too from.one from.there was in
      let other : (found.one.begun == number) ≡ false = ap (λ (n : ℕ). n == number) found.begun ∙ ended_none time from.one was still in
      let stays : changed_of number (ending now) found.one ≡ found.one = not_ended now found.one other in
      let same : from.one.begun ≡ a.begun = sym (ap (λ (b : Access). b.begun) from.holds ∙ opens.begun from.one) in
      record {
        one = found.one;
        there = subst (λ (b : Access). IsOneOf b (with_changed number (ending now) some)) stays (in_map (changed_of number (ending now)) found.one some found.there);
        begun = found.begun ∙ same;
        live = found.live;
      }

-- one begins in both
pub both_begin : (a : Access) (some others : List Access) → AreOpenToo some others → AreOpenToo (some ++ a ∷ []) (others ++ a ∷ [])
both_begin a some others too b there live =
    ⊎_elim (λ first. let found = too b first live in
    record { one = found.one; there = in_append_left found.one some (a ∷ []) found.there; begun = found.begun; live = found.live })
    (λ last. record { one = b; there = in_append_right b some (a ∷ []) last; begun = refl; live = live }) (from_append b others (a ∷ []) there)

-- a reset closes all
pub closed_all : (now : ℕ) (a : Access) → (cut_short now a).ended ≡ None → ⊥
closed_all now a live = by_test (is_none a.ended) refl live
  where
    by_test : (b : Bool) → is_none a.ended ≡ b → (if b then record a { ended = Some now; sure = false } else a).ended ≡ None → ⊥
    by_test true is none = let bad : Some now ≡ None = none in absurd (cc (bad))
    by_test false is none = both_ways (is_none a.ended) is (ap is_none none)

pub all_cut : (now : ℕ) (some others : List Access) → AreOpenToo some (map (cut_short now) others)
all_cut now some others a there live =
    let from = from_map (cut_short now) a others there in
    absurd (closed_all now from.one (sym (ap (λ (b : Access). b.ended) from.holds) ∙ live))

-- so none of the second is older
pub none_too : (number : ℕ) (some others : List Access) → AreOpenToo some others → NoneBefore number some → NoneBefore number others
none_too number some others too none a there live =
    let found = too a there live in subst (λ n. number ≤ n) found.begun (none found.one found.there found.live)

-- ---- none is older, as events come

-- a request that begins has no smaller number
abbrev pub BeginsFrom : ℕ → Event → Type 0
BeginsFrom oldest (Reads number) = oldest ≤ number
BeginsFrom oldest (Writes number) = oldest ≤ number
BeginsFrom oldest event = ⊤

none_last : (oldest : ℕ) (accesses : List Access) (a : Access) → NoneBefore oldest accesses → oldest ≤ a.begun → NoneBefore oldest (accesses ++ a ∷ [])
none_last oldest accesses a none later b there live =
    ⊎_elim (λ first. none b first live) (λ last. ⊎_elim (λ same. subst (λ (c : Access). oldest ≤ c.begun) (sym same) later) (λ never. absurd never) last)
    (from_append b accesses (a ∷ []) there)

none_changed : (oldest number now : ℕ) (event : Event) (accesses : List Access) → NoneBefore oldest accesses
    → NoneBefore oldest (with_changed number (change_by now event) accesses)
none_changed oldest number now event accesses none =
    none_too oldest accesses (with_changed number (change_by now event) accesses) (second_changes number now event accesses accesses (open_itself accesses)) none

none_next : (oldest : ℕ) (work : Work) (event : Event) → BeginsFrom oldest event → NoneBefore oldest work.accesses → NoneBefore oldest (work_next work event).accesses
none_next oldest work (Reads number) from none = none_last oldest work.accesses (reading number) none from
none_next oldest work (Writes number) from none = none_last oldest work.accesses (writing number) none from
none_next oldest work (Others number) from none = none
none_next oldest work (Tells number byte) from none = none_changed oldest number work.now (Tells number byte) work.accesses none
none_next oldest work (Gives number value) from none = none_changed oldest number work.now (Gives number value) work.accesses none
none_next oldest work (LeavesOut number) from none = none_changed oldest number work.now (LeavesOut number) work.accesses none
none_next oldest work (TakesEffect number) from none = none_changed oldest number work.now (TakesEffect number) work.accesses none
none_next oldest work (Fails number) from none = none_changed oldest number work.now (Fails number) work.accesses none
none_next oldest work (Ends number) from none = none_changed oldest number work.now (Ends number) work.accesses none
none_next oldest work Resets from none = none_too oldest work.accesses (map (cut_short work.now) work.accesses) (all_cut work.now work.accesses work.accesses) none
none_next oldest work (NoneOlderThan number) from none = none
none_next oldest work Settles from none = none
none_next oldest work Crowds from none = none

pub none_after : (oldest : ℕ) (work : Work) (events : List Event) → AllByRecursion (BeginsFrom oldest) events → NoneBefore oldest work.accesses
    → NoneBefore oldest (work_after work events).accesses
none_after oldest work [] from none = none
none_after oldest work (event ∷ events) from none =
    none_after oldest (work_next work event) events from.1 (none_next oldest work event from.0 none)
