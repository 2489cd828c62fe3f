-- Events, and among them such that keep a list short: these do nothing to accesses. So calls that come one after another are one that has the events of all.
use Rattle.std.proofs.Common.{◌≡◌, ℕ, Bool, true, false, ◌||◌, List, [], ◌∷◌, ◌++◌, inl, inr, ⊎_elim, refl, sym, ◌∙◌, ap, subst}
use Rattle.std.specs.List.{AllByRecursion}
use Rattle.byte_orders.specs.Runs.{Event, NoneBefore, Reads, Writes, Others, Tells, Gives, LeavesOut, TakesEffect, Fails, Ends, Resets, NoneOlderThan, Settles, Crowds, Run, run_after, run_next}
use Rattle.byte_orders.proofs.Leading.{after_both, both_may_come}
use Rattle.byte_orders.proofs.QuietSwap.{IsIdle}
use Rattle.value_memory.specs.ByteEvents.{AllKeepShort, ByteState, Goes, IsHeldBy, KeepsShort}
use Rattle.value_laws.specs.Kept.{GoesAlong, IsSpread, Work, work_after, work_next, work_of}
use Rattle.value_laws.proofs.Open.{BeginsFrom, none_after}

-- ---- what was done

-- it depends on what was done before alone
pub next_work : (run : Run) (event : Event) → work_of (run_next run event) ≡ work_next (work_of run) event
next_work run (Reads number) = refl
next_work run (Writes number) = refl
next_work run (Others number) = refl
next_work run (Tells number byte) = refl
next_work run (Gives number value) = refl
next_work run (LeavesOut number) = refl
next_work run (TakesEffect number) = refl
next_work run (Fails number) = refl
next_work run (Ends number) = refl
next_work run Resets = refl
next_work run (NoneOlderThan number) = refl
next_work run Settles = refl
next_work run Crowds = refl

pub after_work : (run : Run) (events : List Event) → work_of (run_after run events) ≡ work_after (work_of run) events
after_work run [] = refl
after_work run (event ∷ events) = after_work (run_next run event) events ∙ ap (λ (w : Work). work_after w events) (next_work run event)

pub work_both : (work : Work) (xs ys : List Event) → work_after work (xs ++ ys) ≡ work_after (work_after work xs) ys
work_both work [] ys = refl
work_both work (x ∷ xs) ys = work_both (work_next work x) xs ys

-- what keeps a list short does nothing else
pub short_work : (crowded : Bool) (run : Run) (event : Event) → KeepsShort crowded event → work_of (run_next run event) ≡ work_of run
short_work crowded run (NoneOlderThan number) short = refl
short_work crowded run Settles short = refl
short_work crowded run Crowds short = refl
short_work crowded run event short = absurd short

pub short_idle : (crowded : Bool) (event : Event) → KeepsShort crowded event → IsIdle event
short_idle crowded (NoneOlderThan number) short = tt
short_idle crowded Settles short = tt
short_idle crowded Crowds short = tt
short_idle crowded event short = absurd short

pub spread_work : (crowded : Bool) (run : Run) (all events : List Event) → IsSpread crowded all events → work_of (run_after run all) ≡ work_after (work_of run) events
spread_work crowded run [] events spread = ap (λ (es : List Event). work_after (work_of run) es) (sym spread)
spread_work crowded run (event ∷ all) events spread =
    ⊎_elim (λ short. spread_work crowded (run_next run event) all events short.1 ∙ ap (λ (w : Work). work_after w events) (short_work crowded run event short.0))
    (λ one. spread_work crowded (run_next run event) all one.0 one.2 ∙ ap (λ (w : Work). work_after w one.0) (next_work run event)
    ∙ ap (λ (es : List Event). work_after (work_of run) es) (sym one.1)) spread

-- ---- one spread list after another

-- that a list may be crowded in one of two lets it be in both
pub short_left : (crowded other : Bool) (event : Event) → KeepsShort crowded event → KeepsShort (crowded || other) event
short_left crowded other (NoneOlderThan number) short = tt
short_left crowded other Settles short = tt
short_left crowded other Crowds short = rw short refl
short_left crowded other event short = absurd short

pub short_right : (crowded other : Bool) (event : Event) → KeepsShort other event → KeepsShort (crowded || other) event
short_right crowded other (NoneOlderThan number) short = tt
short_right crowded other Settles short = tt
short_right crowded other Crowds short = by_test crowded
  where
    by_test : (b : Bool) → (b || other) ≡ true
    by_test true = refl
    by_test false = short
short_right crowded other event short = absurd short

spread_right : (crowded other : Bool) (all events : List Event) → IsSpread other all events → IsSpread (crowded || other) all events
spread_right crowded other [] events spread = spread
spread_right crowded other (event ∷ all) events spread =
    ⊎_elim (λ short. inl (short_right crowded other event short.0, spread_right crowded other all events short.1))
    (λ one. inr (one.0, one.1, spread_right crowded other all one.0 one.2)) spread

pub spread_both : (crowded other : Bool) (xs some ys others : List Event) → IsSpread crowded xs some → IsSpread other ys others
    → IsSpread (crowded || other) (xs ++ ys) (some ++ others)
spread_both crowded other [] some ys others one two =
    subst (λ (es : List Event). IsSpread (crowded || other) ys (es ++ others)) (sym one) (spread_right crowded other ys others two)
spread_both crowded other (event ∷ xs) some ys others one two =
    ⊎_elim (λ short. inl (short_left crowded other event short.0, spread_both crowded other xs some ys others short.1 two))
    (λ first. inr (first.0 ++ others, ap (λ (es : List Event). es ++ others) first.1, spread_both crowded other xs first.0 ys others first.2 two)) one

-- ---- a call of a memory

spread_short : (crowded : Bool) (short : List Event) → AllKeepShort crowded short → IsSpread crowded short []
spread_short crowded [] all = refl
spread_short crowded (event ∷ short) all = inl (all.0, spread_short crowded short all.1)

spread_before : (crowded : Bool) (short all events : List Event) → AllKeepShort crowded short → IsSpread crowded all events → IsSpread crowded (short ++ all) events
spread_before crowded [] all events keeps spread = spread
spread_before crowded (event ∷ short) all events keeps spread = inl (keeps.0, spread_before crowded short all events keeps.1 spread)

spread_then : (crowded : Bool) (events short : List Event) → AllKeepShort crowded short → IsSpread crowded (events ++ short) events
spread_then crowded [] short keeps = spread_short crowded short keeps
spread_then crowded (event ∷ events) short keeps = inr (events, refl, spread_then crowded events short keeps)

-- one that keeps a list short before its events, and after
pub goes_along : (oldest : ℕ) (crowded : Bool) (old new : ByteState) (events : List Event) → Goes oldest crowded old new events → GoesAlong oldest crowded old new events
goes_along oldest crowded old new events goes run held none =
    let one = goes run held none in
    record {
      all = one.before ++ (events ++ one.after);
      spread = spread_before crowded one.before (events ++ one.after) events one.short_before (spread_then crowded events one.after one.short_after);
      may_come = one.may_come;
      held = one.held;
    }

-- none
pub along_nowhere : (oldest : ℕ) (crowded : Bool) (state : ByteState) → GoesAlong oldest crowded state state []
along_nowhere oldest crowded state run held none = record { all = []; spread = refl; may_come = tt; held = held }

-- one call after another is one that has the events of both, where no request begins that is older than what is said of them
pub along_both : (oldest : ℕ) (crowded other : Bool) (old between new : ByteState) (some others : List Event) → AllByRecursion (BeginsFrom oldest) some
    → GoesAlong oldest crowded old between some → GoesAlong oldest other between new others → GoesAlong oldest (crowded || other) old new (some ++ others)
along_both oldest crowded other old between new some others from first next run held none =
    let one = first run held none in
    let after = run_after run one.all in
    let done : work_of after ≡ work_after (work_of run) some = spread_work crowded run one.all some one.spread in
    let older : NoneBefore oldest after.accesses =
    subst (λ (w : Work). NoneBefore oldest w.accesses) (sym done) (none_after oldest (work_of run) some from none) in
    let two = next after one.held older in
    record {
      all = one.all ++ two.all;
      spread = spread_both crowded other one.all some two.all others one.spread two.spread;
      may_come = both_may_come run one.all two.all one.may_come two.may_come;
      held = subst (λ (r : Run). IsHeldBy new r) (sym (after_both run one.all two.all)) two.held;
    }
