-- A byte is kept along with all that happens: a call of a memory that is told what happened, but for needless events, leads to what is held after it; and what all
-- that happened did to a byte goes on by the events of one happening more.
use Rattle.std.proofs.Common.{◌≡◌, ℕ, ◌≤◌, Bool, List, [], ◌∷◌, ◌++◌, Option, refl, sym, ◌∙◌, ap, subst, arith}
use Rattle.byte_orders.specs.Runs.{Event, NoneBefore, Run, first_run, run_after}
use Rattle.byte_orders.proofs.Leading.{after_both, both_may_come}
use Rattle.byte_orders.proofs.QuietEvents.{holds_in}
use Rattle.scoreboard.specs.Boards.{Beginning}
use Rattle.scoreboard.specs.declared.Errors.{Errors}
use Rattle.value_memory.specs.ByteEvents.{ByteState, Goes, IsHeldBy}
use Rattle.value_orders.specs.Bytes.{accesses_in, byte_at_start}
use Rattle.value_orders.specs.Events.{events_of}
use Rattle.value_orders.specs.Histories.{Happening, History, begun_by, board_in, history_in, history_next, no_history, opening}
use Rattle.value_orders.proofs.EventHistories.{history_last, leads_in}
use Rattle.value_laws.specs.Kept.{GoesAlong, GoesOnAlong, HasRun, IsPastAt, IsSpread, Work, run_of, work_after, work_in, work_of}
use Rattle.value_laws.proofs.Buts.{but_none}
use Rattle.value_laws.proofs.Open.{open_itself}
use Rattle.value_laws.proofs.Spreads.{after_work, goes_along, spread_work, work_both}
use Rattle.value_laws.proofs.Turns.{AllFit, GoesBeside, IsBut, go_beside, seen_in}

-- ---- a call, or several

pub along_kept : (start : Option ℕ) (work : Work) (oldest : ℕ) (crowded : Bool) (old new : ByteState) (told seen : List Event) → HasRun start work old
    → GoesAlong oldest crowded old new told → NoneBefore oldest work.accesses → IsBut work told seen → HasRun start (work_after work seen) new
along_kept start work oldest crowded old new told seen has goes none but =
    record {
      events = has.events ++ beside.others;
      may_come = both_may_come first has.events beside.others has.may_come beside.may_come;
      done = ap work_of (after_both first has.events beside.others) ∙ spread_work crowded run beside.others (seen_in but.turns) beside.spread
          ∙ ap (λ (w : Work). work_after w (seen_in but.turns)) has.done ∙ ap (λ (es : List Event). work_after work es) but.seen_is;
      held = subst (λ (r : Run). IsHeldBy new r) (sym (after_both first has.events beside.others)) there;
    }
  where
    first : Run
    first = first_run start

    run : Run
    run = run_after first has.events

    one : GoesOnAlong crowded run new told
    one = goes run has.held (subst (λ (w : Work). NoneBefore oldest w.accesses) (sym has.done) none)

    beside : GoesBeside crowded run run one.all (seen_in but.turns)
    beside =
        go_beside start crowded but.turns one.all run run (record { held = refl; now = refl; oldest = refl; live = open_itself run.accesses })
        (holds_in start has.events has.may_come) (subst (λ (w : Work). AllFit w but.turns) (sym has.done) but.fits)
        (subst (λ (es : List Event). IsSpread crowded one.all es) (sym but.told_is) one.spread) one.may_come

    there : IsHeldBy new (run_after run beside.others)
    there =
        record {
          held = beside.beside.held ∙ one.held.held;
          now = beside.beside.now ∙ one.held.now;
          oldest = let same = beside.beside.oldest in let older = one.held.oldest in omega (arith, same, older);
        }

pub goes_kept : (start : Option ℕ) (work : Work) (oldest : ℕ) (crowded : Bool) (old new : ByteState) (told seen : List Event) → HasRun start work old
    → Goes oldest crowded old new told → NoneBefore oldest work.accesses → IsBut work told seen → HasRun start (work_after work seen) new
goes_kept start work oldest crowded old new told seen has goes none but =
    along_kept start work oldest crowded old new told seen has (goes_along oldest crowded old new told goes) none but

-- one call after another
pub kept_both : (start : Option ℕ) (work : Work) (some others : List Event) (state : ByteState) → HasRun start (work_after (work_after work some) others) state
    → HasRun start (work_after work (some ++ others)) state
kept_both start work some others state has = subst (λ (w : Work). HasRun start w state) (sym (work_both work some others)) has

-- a call that is no event
pub still_kept : (start : Option ℕ) (work : Work) (oldest : ℕ) (crowded : Bool) (old new : ByteState) → HasRun start work old → Goes oldest crowded old new []
    → NoneBefore oldest work.accesses → HasRun start work new
still_kept start work oldest crowded old new has goes none = goes_kept start work oldest crowded old new [] [] has goes none (but_none work)

-- one that holds the same
pub same_kept : (start : Option ℕ) (work : Work) (old new : ByteState) → HasRun start work old → new.held ≡ old.held → new.now ≡ old.now → old.oldest ≤ new.oldest
    → HasRun start work new
same_kept start work old new has held now older =
    record {
      events = has.events;
      may_come = has.may_come;
      done = has.done;
      held = record {
        held = has.held.held ∙ sym held;
        now = has.held.now ∙ sym now;
        oldest = let was = has.held.oldest in omega (arith, was, older);
      };
    }

-- ---- one happening more

module _ (errors : Errors) (beginning : Beginning) (happenings : List Happening) (happening : Happening) (x : ℕ) where
  -- its events, to the byte
  abbrev pub events_next : List Event
  events_next = events_of beginning.lists (board_in errors beginning happenings).board happening (history_in errors beginning happenings) x

  abbrev work : Work
  work = work_in errors beginning happenings x

  abbrev next : History
  next = history_next beginning.lists (board_in errors beginning happenings).board happening (history_in errors beginning happenings)

  -- they do to it what was done then
  pub work_leads : work_after work events_next ≡ work_in errors beginning (happenings ++ happening ∷ []) x
  work_leads =
      let leads = leads_in errors beginning happenings happening x (run_of work) (record { now = refl; accesses = refl }) in
      let reached : work_of (run_after (run_of work) events_next) ≡ record { now = begun_by next; accesses = accesses_in beginning.lists errors next x } =
      cc (leads.now, leads.accesses) in
      sym (after_work (run_of work) events_next) ∙ reached
      ∙ ap (λ (h : History). record { now = begun_by h; accesses = accesses_in beginning.lists errors h x })
      (sym (history_last beginning.lists (opening errors beginning) no_history happenings happening))

  -- so where a memory was led by all of them it is kept along
  pub past_next : (state : ByteState) → HasRun (byte_at_start beginning x) (work_after work events_next) state
      → IsPastAt errors beginning (happenings ++ happening ∷ []) x state
  past_next state has = subst (λ (w : Work). HasRun (byte_at_start beginning x) w state) work_leads has

  -- with one call, or several, that are told what happened, but for needless events
  pub past_along : (oldest : ℕ) (crowded : Bool) (old new : ByteState) (told : List Event) → IsPastAt errors beginning happenings x old
      → GoesAlong oldest crowded old new told → NoneBefore oldest (accesses_in beginning.lists errors (history_in errors beginning happenings) x)
      → IsBut (work_in errors beginning happenings x) told events_next → IsPastAt errors beginning (happenings ++ happening ∷ []) x new
  past_along oldest crowded old new told past goes none but =
      past_next new (along_kept (byte_at_start beginning x) work oldest crowded old new told events_next past goes none but)

  pub past_goes : (oldest : ℕ) (crowded : Bool) (old new : ByteState) (told : List Event) → IsPastAt errors beginning happenings x old
      → Goes oldest crowded old new told → NoneBefore oldest (accesses_in beginning.lists errors (history_in errors beginning happenings) x)
      → IsBut (work_in errors beginning happenings x) told events_next → IsPastAt errors beginning (happenings ++ happening ∷ []) x new
  past_goes oldest crowded old new told past goes none but =
      past_along oldest crowded old new told past (goes_along oldest crowded old new told goes) none but
