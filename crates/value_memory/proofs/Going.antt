-- Runs of a byte go on by events, one call after another.
use Rattle.std.proofs.Common.{◌≡◌, ℕ, ◌+◌, ◌≤◌, ◌<◌, Bool, true, false, List, [], ◌∷◌, ◌++◌, None, if◌then◌else◌, append_assoc, nat_lt, ◌⊎◌, inl, inr, refl, sym, ◌∙◌, ap, subst, arith}
use Rattle.std.proofs.lemmas.Bool.Decides.{nat_tests}
use Rattle.byte_orders.specs.Accesses.{Access}
use Rattle.byte_orders.specs.Holdings.{Holding, beginning, crowd, pruned_at, with_begun, with_reset, with_settled}
use Rattle.byte_orders.specs.Runs.{AllMayCome, Event, MayCome, NoneBefore, Reads, Writes, Others, Resets, NoneOlderThan, Settles, Crowds, Run, run_after, run_next}
use Rattle.value_memory.specs.ByteEvents.{AllKeepShort, ByteState, Goes, IsHeldBy, KeepsShort}

-- ---- one list of events after another

after_both : (run : Run) (xs ys : List Event) → run_after run (xs ++ ys) ≡ run_after (run_after run xs) ys
after_both run [] ys = refl
after_both run (x ∷ xs) ys = after_both (run_next run x) xs ys

both_may_come : (run : Run) (xs ys : List Event) → AllMayCome run xs → AllMayCome (run_after run xs) ys → AllMayCome run (xs ++ ys)
both_may_come run [] ys first next = next
both_may_come run (x ∷ xs) ys first next = (first.0, both_may_come (run_next run x) xs ys first.1 next)

both_keep_short : (crowded : Bool) (xs ys : List Event) → AllKeepShort crowded xs → AllKeepShort crowded ys → AllKeepShort crowded (xs ++ ys)
both_keep_short crowded [] ys first next = next
both_keep_short crowded (x ∷ xs) ys first next = (first.0, both_keep_short crowded xs ys first.1 next)

-- ---- what keeps a list short

-- what keeps one short that isn't crowded does so where it may be
short_anyhow : (crowded : Bool) (x : Event) → KeepsShort false x → KeepsShort crowded x
short_anyhow crowded (NoneOlderThan number) short = tt
short_anyhow crowded Settles short = tt
short_anyhow crowded Crowds short = let never : false ≡ true = short in absurd (cc)
short_anyhow crowded x short = absurd short

all_short_anyhow : (crowded : Bool) (xs : List Event) → AllKeepShort false xs → AllKeepShort crowded xs
all_short_anyhow crowded [] short = tt
all_short_anyhow crowded (x ∷ xs) short = (short_anyhow crowded x short.0, all_short_anyhow crowded xs short.1)

-- it changes no access, and begins no request
pub record IsSameWork (old new : Run) : Type 0 where
  pub accesses : new.accesses ≡ old.accesses
  pub now : new.now ≡ old.now

same_step : (crowded : Bool) (run : Run) (x : Event) → KeepsShort crowded x → IsSameWork run (run_next run x)
same_step crowded run (NoneOlderThan number) short = record { accesses = refl; now = refl }
same_step crowded run Settles short = record { accesses = refl; now = refl }
same_step crowded run Crowds short = record { accesses = refl; now = refl }
same_step crowded run x short = absurd short

pub same_work : (crowded : Bool) (run : Run) (xs : List Event) → AllKeepShort crowded xs → IsSameWork run (run_after run xs)
same_work crowded run [] short = record { accesses = refl; now = refl }
same_work crowded run (x ∷ xs) short =
    let first = same_step crowded run x short.0 in
    let rest = same_work crowded (run_next run x) xs short.1 in
    record { accesses = rest.accesses ∙ first.accesses; now = rest.now ∙ first.now }

-- ---- no access is older

pub NoneBefore-same : (oldest : ℕ) (old new : List Access) → new ≡ old → NoneBefore oldest old → NoneBefore oldest new
NoneBefore-same oldest old new same none = let P : List Access → Type 0 = λ accesses. NoneBefore oldest accesses in subst P (sym same) none

-- ---- a byte goes on

pub goes_nowhere : (oldest : ℕ) (crowded : Bool) (state : ByteState) → Goes oldest crowded state state []
goes_nowhere oldest crowded state run held none =
    record { before = []; after = []; short_before = tt; short_after = tt; may_come = tt; held = held }

-- first its list is kept short, and then events come
pub goes_after : (oldest : ℕ) (crowded : Bool) (old between new : ByteState) (events : List Event) → Goes oldest false old between [] → Goes oldest crowded between new events
    → Goes oldest crowded old new events
goes_after oldest crowded old between new events first next run held none =
    let one = first run held none in
    let early : List Event = one.before ++ one.after in
    let short = both_keep_short false one.before one.after one.short_before one.short_after in
    let same = same_work false run early short in
    let two = next (run_after run early) one.held (NoneBefore-same oldest run.accesses (run_after run early).accesses same.accesses none) in
    let late : List Event = two.before ++ (events ++ two.after) in
    let grouped : (early ++ two.before) ++ (events ++ two.after) ≡ early ++ late = append_assoc early two.before (events ++ two.after) in
    let M : List Event → Type 0 = λ xs. AllMayCome run xs in
    let H : Run → Type 0 = λ r. IsHeldBy new r in
    record {
      before = early ++ two.before;
      after = two.after;
      short_before = both_keep_short crowded early two.before (all_short_anyhow crowded early short) two.short_before;
      short_after = two.short_after;
      may_come = subst M (sym grouped) (both_may_come run early late one.may_come two.may_come);
      held = subst H (sym (ap (run_after run) grouped ∙ after_both run early late)) two.held;
    }

-- its list is pruned, and begins anew where it has settled
pub goes_tidied : (state : ByteState) → state.oldest ≤ state.now + 1 → Goes state.oldest false state (record state { held = with_settled (pruned_at state.oldest state.now state.held) }) []
goes_tidied state within run held none =
    let oldest = state.oldest in
    record {
      before = NoneOlderThan oldest ∷ Settles ∷ [];
      after = [];
      short_before = (tt, (tt, tt));
      short_after = tt;
      may_come = ((held.oldest, rw held.now within, none), (tt, tt));
      held = record { held = rw (held.now, held.held) refl; now = held.now; oldest = omega arith };
    }

-- what needs no crowd may come where there is one
pub goes_anyhow : (oldest : ℕ) (crowded : Bool) (old new : ByteState) (events : List Event) → Goes oldest false old new events → Goes oldest crowded old new events
goes_anyhow oldest crowded old new events goes run held none =
    let one = goes run held none in
    record {
      before = one.before;
      after = one.after;
      short_before = all_short_anyhow crowded one.before one.short_before;
      short_after = all_short_anyhow crowded one.after one.short_after;
      may_come = one.may_come;
      held = one.held;
    }

-- where an oldest one is known that is no older
pub goes_older : (oldest : ℕ) (old new : ByteState) → new.held ≡ old.held → new.now ≡ old.now → old.oldest ≤ new.oldest → Goes oldest false old new []
goes_older oldest old new same now older run held none =
    record {
      before = [];
      after = [];
      short_before = tt;
      short_after = tt;
      may_come = tt;
      held = record { held = held.held ∙ sym same; now = held.now ∙ sym now; oldest = omega (arith, held.oldest, older) };
    }

-- an event comes
pub goes_by : (oldest : ℕ) (old new : ByteState) (event : Event) → ((run : Run) → IsHeldBy old run → MayCome run event) → ((run : Run) → IsHeldBy old run → IsHeldBy new (run_next run event))
    → Goes oldest false old new (event ∷ [])
goes_by oldest old new event may steps run held none =
    record { before = []; after = []; short_before = tt; short_after = tt; may_come = (may run held, tt); held = steps run held }

-- an event comes that leaves accesses alone as they are seen here: what is held stays, and so does the oldest one
pub record IsQuiet (number : ℕ) (event : Event) : Type 0 where
  pub may : (run : Run) → run.now < number → MayCome run event
  pub now : (run : Run) → (run_next run event).now ≡ number
  pub oldest : (run : Run) → (run_next run event).oldest ≡ run.oldest
  pub held : (run : Run) → (run_next run event).held ≡ run.held

pub quiet_others : (number : ℕ) → IsQuiet number (Others number)
quiet_others number = record { may = λ run below. below; now = λ run. refl; oldest = λ run. refl; held = λ run. refl }

pub quiet_reads : (number : ℕ) → IsQuiet number (Reads number)
quiet_reads number = record { may = λ run below. below; now = λ run. refl; oldest = λ run. refl; held = λ run. refl }

-- a request begins, which may give the byte or not
pub record Begins (number : ℕ) (old new : ByteState) : Type 0 where
  pub later : old.now < number
  pub now : new.now ≡ number
  pub oldest : new.oldest ≡ old.oldest

below_now : (old : ByteState) (run : Run) (number : ℕ) → IsHeldBy old run → old.now < number → run.now < number
below_now old run number held later = omega (arith, held.now, later)

still_oldest : (old new : ByteState) (run : Run) → IsHeldBy old run → new.oldest ≡ old.oldest → run.oldest ≤ new.oldest
still_oldest old new run held same = omega (arith, held.oldest, same)

pub goes_quietly : (oldest number : ℕ) (event : Event) (old new : ByteState) → IsQuiet number event → Begins number old new → new.held ≡ old.held → Goes oldest false old new (event ∷ [])
goes_quietly oldest number event old new quiet begins same =
    goes_by oldest old new event (λ run held. quiet.may run (below_now old run number held begins.later))
    (λ run held. record {
      held = quiet.held run ∙ held.held ∙ sym same;
      now = quiet.now run ∙ sym begins.now;
      oldest = let P : ℕ → Type 0 = λ n. n ≤ new.oldest in subst P (sym (quiet.oldest run)) (still_oldest old new run held begins.oldest);
    })

goes_writing : (oldest number : ℕ) (old new : ByteState) → Begins number old new → new.held ≡ with_begun number old.held → Goes oldest false old new (Writes number ∷ [])
goes_writing oldest number old new begins is =
    goes_by oldest old new (Writes number) (λ run held. below_now old run number held begins.later)
    (λ run held. record {
      held = ap (with_begun number) held.held ∙ sym is;
      now = sym begins.now;
      oldest = still_oldest old new run held begins.oldest;
    })

-- and then there is no room for its list
goes_into_crowd : (oldest number : ℕ) (event : Event) (old new : ByteState) → ((run : Run) → run.now < number → MayCome run event) → ((run : Run) → (run_next run event).now ≡ number)
    → ((run : Run) → (run_next run event).oldest ≡ run.oldest) → Begins number old new → new.held ≡ crowd number ∷ [] → Goes oldest true old new (event ∷ [])
goes_into_crowd oldest number event old new may now same begins is run held none =
    record {
      before = [];
      after = Crowds ∷ [];
      short_before = tt;
      short_after = (refl, tt);
      may_come = (may run (below_now old run number held begins.later), (tt, tt));
      held = record {
        held = ap (λ n. crowd n ∷ []) (now run) ∙ sym is;
        now = now run ∙ sym begins.now;
        oldest = let P : ℕ → Type 0 = λ n. n ≤ new.oldest in subst P (sym (same run)) (still_oldest old new run held begins.oldest);
      };
    }

-- what a beginning is to one byte
pub goes_begun : (oldest number : ℕ) (crowded gives : Bool) (other : Event) (old new : ByteState) → IsQuiet number other → Begins number old new
    → (new.held ≡ (if gives then with_begun number old.held else old.held)) ⊎ ((crowded ≡ true) × (new.held ≡ crowd number ∷ []))
    → Goes oldest crowded old new (if gives then Writes number ∷ [] else other ∷ [])
goes_begun oldest number crowded true other old new quiet begins (inl is) = goes_anyhow oldest crowded old new (Writes number ∷ []) (goes_writing oldest number old new begins is)
goes_begun oldest number crowded false other old new quiet begins (inl is) = goes_anyhow oldest crowded old new (other ∷ []) (goes_quietly oldest number other old new quiet begins is)
goes_begun oldest number crowded true other old new quiet begins (inr lost) =
    let P : Bool → Type 0 = λ b. Goes oldest b old new (Writes number ∷ []) in
    subst P (sym lost.0) (goes_into_crowd oldest number (Writes number) old new (λ run below. below) (λ run. refl) (λ run. refl) begins lost.1)
goes_begun oldest number crowded false other old new quiet begins (inr lost) =
    let P : Bool → Type 0 = λ b. Goes oldest b old new (other ∷ []) in
    subst P (sym lost.0) (goes_into_crowd oldest number other old new quiet.may quiet.now quiet.oldest begins lost.1)

-- ---- what becomes of a request

-- as many have begun, and the oldest one is the same
pub record IsSameTimes (old new : Run) : Type 0 where
  pub now : new.now ≡ old.now
  pub oldest : new.oldest ≡ old.oldest

-- a change that is one event
pub goes_changed : (oldest : ℕ) (event : Event) (change : ℕ → List Holding → List Holding) (state new : ByteState) → ((run : Run) → MayCome run event)
    → ((run : Run) → IsSameTimes run (run_next run event)) → ((run : Run) → (run_next run event).held ≡ change run.now run.held)
    → new ≡ record state { held = change state.now state.held } → Goes oldest false state new (event ∷ [])
goes_changed oldest event change state new may times changes is =
    let P : ByteState → Type 0 = λ s. Goes oldest false state s (event ∷ []) in
    subst P (sym is)
    (goes_by oldest state (record state { held = change state.now state.held }) event (λ run held. may run)
    (λ run held. record {
      held = changes run ∙ ap (λ n. change n run.held) held.now ∙ ap (change state.now) held.held;
      now = (times run).now ∙ held.now;
      oldest = let Q : ℕ → Type 0 = λ n. n ≤ state.oldest in subst Q (sym (times run).oldest) held.oldest;
    }))

-- ---- a reset

-- all lists change alike
pub goes_reset : (oldest : ℕ) (old new : ByteState) → new.now ≡ old.now → old.oldest ≤ new.oldest → new.held ≡ with_reset old.now old.held → Goes oldest false old new (Resets ∷ [])
goes_reset oldest old new now older is =
    goes_by oldest old new Resets (λ run held. tt)
    (λ run held. record {
      held = ap (λ n. with_reset n run.held) held.now ∙ ap (with_reset old.now) held.held ∙ sym is;
      now = held.now ∙ sym now;
      oldest = omega (arith, held.oldest, older);
    })

-- what was given up is over, and nobody knows what it is
pub goes_reset_crowd : (oldest lost : ℕ) (old new : ByteState) → new.now ≡ old.now → old.oldest ≤ new.oldest → old.held ≡ crowd lost ∷ [] → new.held ≡ beginning None ∷ []
    → Goes oldest false old new (Resets ∷ [])
goes_reset_crowd oldest lost old new now older was is run held none =
    let crowded : run.held ≡ crowd lost ∷ [] = held.held ∙ was in
    record {
      before = [];
      after = Settles ∷ [];
      short_before = tt;
      short_after = (tt, tt);
      may_come = (tt, (tt, tt));
      held = record { held = ap (λ hs. with_settled (with_reset run.now hs)) crowded ∙ sym is; now = held.now ∙ sym now; oldest = omega (arith, held.oldest, older) };
    }

-- ---- what was given up is over

pruned_crowd : (oldest now lost : ℕ) → lost < oldest → lost ≤ now → with_settled (pruned_at oldest now (crowd lost ∷ [])) ≡ beginning None ∷ []
pruned_crowd oldest now lost over past =
    let early : nat_lt lost oldest ≡ true = grind (arith, nat_tests, over) in
    let late : nat_lt now lost ≡ false = grind (arith, nat_tests, past) in
    rw (early, late) refl

pub goes_past_crowd : (lost : ℕ) (old new : ByteState) → lost < new.oldest → lost ≤ old.now → new.oldest ≤ old.now + 1 → old.oldest ≤ new.oldest → new.now ≡ old.now
    → old.held ≡ crowd lost ∷ [] → new.held ≡ beginning None ∷ [] → Goes new.oldest false old new []
goes_past_crowd lost old new over past within older now was is run held none =
    let crowded : run.held ≡ crowd lost ∷ [] = held.held ∙ was in
    let here : lost ≤ run.now = omega (arith, past, held.now) in
    record {
      before = NoneOlderThan new.oldest ∷ Settles ∷ [];
      after = [];
      short_before = (tt, (tt, tt));
      short_after = tt;
      may_come = ((omega (arith, held.oldest, older), omega (arith, within, held.now), none), (tt, tt));
      held = record {
        held = ap (λ hs. with_settled (pruned_at new.oldest run.now hs)) crowded ∙ pruned_crowd new.oldest run.now lost over here ∙ sym is;
        now = held.now ∙ sym now;
        oldest = omega arith;
      };
    }
