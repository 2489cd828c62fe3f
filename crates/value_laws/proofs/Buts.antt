-- What a memory is told beside what happened, part by part: events of both; those that tell a byte; and those of a request that gives the byte nothing, or that
-- already.
use Rattle.std.proofs.Common.{◌≡◌, ℕ, ◌+◌, ◌<◌, List, [], ◌∷◌, ◌++◌, Option, Some, None, ⊎_elim, refl, sym, ◌∙◌, ap, subst, arith, append-nil}
use Rattle.std.specs.Prelude.{⊤}
use Rattle.std.specs.List.{AllByRecursion}
use Rattle.byte_orders.specs.Accesses.{Access}
use Rattle.byte_orders.specs.Runs.{Event, Reads, Writes, Others, Tells, Gives, LeavesOut, TakesEffect, Fails, Ends, Resets, NoneOlderThan, Settles, Crowds, cut_short, reading, run_next, writing}
use Rattle.byte_orders.proofs.Leading.{AllOf}
use Rattle.byte_orders.proofs.Members.{all_of, from_append, from_map}
use Rattle.byte_orders.proofs.QuietEvents.{IsOf, IsSilent, silent_next}
use Rattle.setups.specs.Setups.{SetupLists}
use Rattle.scoreboard.specs.declared.Errors.{Errors}
use Rattle.value_orders.specs.Bytes.{accesses_in, gives_at}
use Rattle.value_orders.specs.Histories.{History, all_past, begun_by}
use Rattle.value_orders.specs.RunOrders.{past_of}
use Rattle.value_orders.proofs.AccessOrders.{is_of}
use Rattle.value_orders.proofs.EventLists.{AllBelow, all_below}
use Rattle.value_laws.specs.Kept.{Work, run_of, work_after, work_next}
use Rattle.value_laws.proofs.Beside.{GivesAlready, IsNeedless}
use Rattle.value_laws.proofs.Open.{EndsNone, closed_all}
use Rattle.value_laws.proofs.Turns.{AllFit, Both, IsBut, Seen, Told, Turn, seen_in, told_in}

-- ---- parts

pub but_none : (work : Work) → IsBut work [] []
but_none work = record { turns = []; told_is = refl; seen_is = refl; fits = tt }

-- an event of both ahead of others, or one of one alone
pub then_both : (work : Work) (event : Event) (told seen : List Event) → IsBut (work_next work event) told seen → IsBut work (event ∷ told) (event ∷ seen)
then_both work event told seen but =
    record {
      turns = Both event ∷ but.turns;
      told_is = ap (λ (es : List Event). event ∷ es) but.told_is;
      seen_is = ap (λ (es : List Event). event ∷ es) but.seen_is;
      fits = but.fits;
    }

pub then_seen : (work : Work) (event : Event) (told seen : List Event) → IsNeedless work.accesses event → IsBut (work_next work event) told seen
    → IsBut work told (event ∷ seen)
then_seen work event told seen needless but =
    record {
      turns = Seen event ∷ but.turns;
      told_is = but.told_is;
      seen_is = ap (λ (es : List Event). event ∷ es) but.seen_is;
      fits = (needless, but.fits);
    }

pub then_told : (work : Work) (event : Event) (told seen : List Event) → IsNeedless work.accesses event → EndsNone event → IsBut work told seen
    → IsBut work (event ∷ told) seen
then_told work event told seen needless none but =
    record {
      turns = Told event ∷ but.turns;
      told_is = ap (λ (es : List Event). event ∷ es) but.told_is;
      seen_is = but.seen_is;
      fits = (needless, none, but.fits);
    }

-- the same events
pub but_same : (work : Work) (events : List Event) → IsBut work events events
but_same work [] = but_none work
but_same work (event ∷ events) = then_both work event events events (but_same (work_next work event) events)

-- one part after another
told_both : (some others : List Turn) → told_in (some ++ others) ≡ told_in some ++ told_in others
told_both [] others = refl
told_both (Both event ∷ some) others = ap (λ (es : List Event). event ∷ es) (told_both some others)
told_both (Told event ∷ some) others = ap (λ (es : List Event). event ∷ es) (told_both some others)
told_both (Seen event ∷ some) others = told_both some others

seen_both : (some others : List Turn) → seen_in (some ++ others) ≡ seen_in some ++ seen_in others
seen_both [] others = refl
seen_both (Both event ∷ some) others = ap (λ (es : List Event). event ∷ es) (seen_both some others)
seen_both (Told event ∷ some) others = seen_both some others
seen_both (Seen event ∷ some) others = ap (λ (es : List Event). event ∷ es) (seen_both some others)

fit_both : (work : Work) (some others : List Turn) → AllFit work some → AllFit (work_after work (seen_in some)) others → AllFit work (some ++ others)
fit_both work [] others first next = next
fit_both work (Both event ∷ some) others first next = fit_both (work_next work event) some others first next
fit_both work (Told event ∷ some) others first next = (first.0, first.1, fit_both work some others first.2 next)
fit_both work (Seen event ∷ some) others first next = (first.0, fit_both (work_next work event) some others first.1 next)

pub but_both : (work : Work) (told seen others later : List Event) → IsBut work told seen → IsBut (work_after work seen) others later
    → IsBut work (told ++ others) (seen ++ later)
but_both work told seen others later one two =
    record {
      turns = one.turns ++ two.turns;
      told_is = told_both one.turns two.turns ∙ ap (λ (es : List Event). es ++ told_in two.turns) one.told_is ∙ ap (λ (es : List Event). told ++ es) two.told_is;
      seen_is = seen_both one.turns two.turns ∙ ap (λ (es : List Event). es ++ seen_in two.turns) one.seen_is ∙ ap (λ (es : List Event). seen ++ es) two.seen_is;
      fits = fit_both work one.turns two.turns one.fits
          (subst (λ (es : List Event). AllFit (work_after work es) two.turns) (sym one.seen_is) two.fits);
    }

-- a byte that is told
pub but_tells : (work : Work) (number byte : ℕ) → IsBut work [] (Tells number byte ∷ [])
but_tells work number byte = then_seen work (Tells number byte) [] [] tt (but_none (work_next work (Tells number byte)))

-- what a request gives comes that gives that already
pub but_gives : (work : Work) (number : ℕ) (value : Option ℕ) → GivesAlready number value work.accesses → IsBut work [] (Gives number value ∷ [])
but_gives work number value already = then_seen work (Gives number value) [] [] already (but_none (work_next work (Gives number value)))

-- ---- a request that gives nothing

silent_gives : (number : ℕ) (value : Option ℕ) (accesses : List Access) → IsSilent number accesses → GivesAlready number value accesses
silent_gives number value accesses silent a there = rw (silent a there) refl

-- all that becomes of it is needless
pub silent_needless : (number : ℕ) (accesses : List Access) (event : Event) → IsSilent number accesses → IsOf number event → IsNeedless accesses event
silent_needless number accesses (Tells other byte) silent of = tt
silent_needless number accesses (Gives other value) silent of =
    subst (λ n. GivesAlready n value accesses) (sym of) (silent_gives number value accesses silent)
silent_needless number accesses (LeavesOut other) silent of = subst (λ n. IsSilent n accesses) (sym of) silent
silent_needless number accesses (TakesEffect other) silent of = subst (λ n. IsSilent n accesses) (sym of) silent
silent_needless number accesses (Fails other) silent of = subst (λ n. IsSilent n accesses) (sym of) silent
silent_needless number accesses (Ends other) silent of = subst (λ n. IsSilent n accesses) (sym of) silent
silent_needless number accesses event silent of = absurd of

-- and it stays so, with each event but its own beginning as one that may write
abbrev pub StaysSilent : ℕ → Event → Type 0
StaysSilent number (Writes other) = other ≡ number → ⊥
StaysSilent number event = ⊤

silent_last : (number : ℕ) (accesses : List Access) (a : Access) → IsSilent number accesses → (a.begun ≡ number → a.gives ≡ None) → IsSilent number (accesses ++ a ∷ [])
silent_last number accesses a silent own b at =
    ⊎_elim (λ first. silent b (first, at.1))
    (λ last. ⊎_elim (λ same. ap (λ (c : Access). c.gives) same ∙ own (sym (ap (λ (c : Access). c.begun) same) ∙ at.1.begun)) (λ never. absurd never) last)
    (from_append b accesses (a ∷ []) at.0)

silent_cut : (number now : ℕ) (accesses : List Access) → IsSilent number (run_next (run_of (record { now = now; accesses = accesses })) Resets).accesses
silent_cut number now accesses a at =
    let from = from_map (cut_short now) a accesses at.0 in
    absurd (closed_all now from.one (sym (ap (λ (b : Access). b.ended) from.holds) ∙ at.1.live))

pub silent_then : (number : ℕ) (work : Work) (event : Event) → StaysSilent number event → IsSilent number work.accesses → IsSilent number (work_next work event).accesses
silent_then number work (Reads other) stays silent = silent_last number work.accesses (reading other) silent (λ same. refl)
silent_then number work (Writes other) stays silent = silent_last number work.accesses (writing other) silent (λ same. absurd (stays same))
silent_then number work (Others other) stays silent = silent
silent_then number work (Tells other byte) stays silent = silent_next number other (run_of work) (Tells other byte) refl silent
silent_then number work (Gives other value) stays silent = silent_next number other (run_of work) (Gives other value) refl silent
silent_then number work (LeavesOut other) stays silent = silent_next number other (run_of work) (LeavesOut other) refl silent
silent_then number work (TakesEffect other) stays silent = silent_next number other (run_of work) (TakesEffect other) refl silent
silent_then number work (Fails other) stays silent = silent_next number other (run_of work) (Fails other) refl silent
silent_then number work (Ends other) stays silent = silent_next number other (run_of work) (Ends other) refl silent
silent_then number work Resets stays silent = silent_cut number work.now work.accesses
silent_then number work (NoneOlderThan other) stays silent = silent
silent_then number work Settles stays silent = silent
silent_then number work Crowds stays silent = silent

pub silent_after : (number : ℕ) (work : Work) (events : List Event) → AllByRecursion (StaysSilent number) events → IsSilent number work.accesses
    → IsSilent number (work_after work events).accesses
silent_after number work [] stay silent = silent
silent_after number work (event ∷ events) stay silent =
    silent_after number (work_next work event) events stay.1 (silent_then number work event stay.0 silent)

-- its own events let it be
own_stays : (number : ℕ) (event : Event) → IsOf number event → StaysSilent number event
own_stays number (Tells other byte) of = tt
own_stays number (Gives other value) of = tt
own_stays number (LeavesOut other) of = tt
own_stays number (TakesEffect other) of = tt
own_stays number (Fails other) of = tt
own_stays number (Ends other) of = tt
own_stays number event of = absurd of

-- what happened to it needs not be told; and what is told needs not have happened, but for its end
pub silent_seen : (number : ℕ) (work : Work) (events : List Event) → IsSilent number work.accesses → AllOf number events → IsBut work [] events
silent_seen number work [] silent of = but_none work
silent_seen number work (event ∷ events) silent of =
    then_seen work event [] events (silent_needless number work.accesses event silent of.0)
    (silent_seen number (work_next work event) events (silent_then number work event (own_stays number event of.0) silent) of.1)

pub silent_told : (number : ℕ) (work : Work) (events : List Event) → IsSilent number work.accesses → AllOf number events → AllByRecursion EndsNone events
    → IsBut work events []
silent_told number work [] silent of none = but_none work
silent_told number work (event ∷ events) silent of none =
    then_told work event events [] (silent_needless number work.accesses event silent of.0) none.0 (silent_told number work events silent of.1 none.1)

pub silent_any : (number : ℕ) (work : Work) (told seen : List Event) → IsSilent number work.accesses → AllOf number told → AllByRecursion EndsNone told
    → AllOf number seen → IsBut work told seen
silent_any number work told seen silent of none its =
    subst (λ (es : List Event). IsBut work es seen) (append-nil told)
    (but_both work told [] [] seen (silent_told number work told silent of none) (silent_seen number work seen silent its))

-- and where it ends with both
pub silent_ends : (number : ℕ) (work : Work) (told seen : List Event) → IsSilent number work.accesses → AllOf number told → AllByRecursion EndsNone told
    → AllOf number seen → IsBut work (told ++ Ends number ∷ []) (seen ++ Ends number ∷ [])
silent_ends number work told seen silent of none its =
    but_both work told seen (Ends number ∷ []) (Ends number ∷ []) (silent_any number work told seen silent of none its)
    (but_same (work_after work seen) (Ends number ∷ []))

-- ---- of those in a history

-- what a request gives already
pub already_at : (setup : SetupLists) (errors : Errors) (x : ℕ) (history : History) (number : ℕ) (value : Option ℕ)
    → gives_at setup errors (past_of history number) x ≡ Some value → GivesAlready number value (accesses_in setup errors history x)
already_at setup errors x history number value some a at =
    let own = is_of setup errors history x a at.0 in
    let same : own.number ≡ number = ap (λ (b : Access). b.begun) (sym own.is) ∙ at.1.begun in
    let gives : a.gives ≡ Some value = ap (λ (b : Access). b.gives) own.is ∙ ap (λ n. gives_at setup errors (past_of history n) x) same ∙ some in
    rw gives refl

-- one that begins is none of them
pub new_silent : (setup : SetupLists) (errors : Errors) (x : ℕ) (history : History) → IsSilent (begun_by history + 1) (accesses_in setup errors history x)
new_silent setup errors x history a at =
    let below : AllBelow (begun_by history + 1) (accesses_in setup errors history x) =
    all_below setup errors x 1 (begun_by history + 1) (all_past history) (omega arith) in
    let less : a.begun < begun_by history + 1 = all_of (λ (b : Access). b.begun < begun_by history + 1) a (accesses_in setup errors history x) below at.0 in
    absurd (omega (arith, less, at.1.begun))
