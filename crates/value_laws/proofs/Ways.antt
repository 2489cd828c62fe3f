-- A memory on its way through one happening, call by call: at first no event of it has come, then those that each call is told, but for needless ones, and at last all.
use Rattle.std.proofs.Common.{◌≡◌, ℕ, ◌+◌, ◌<◌, ◌≤◌, Bool, true, false, List, [], ◌∷◌, ◌++◌, length, append-nil, sym, subst, arith}
use Rattle.byte_orders.specs.Accesses.{IsOneOf}
use Rattle.byte_orders.specs.Runs.{Ends, Event, NoneBefore}
use Rattle.scoreboard.specs.Boards.{Beginning}
use Rattle.scoreboard.specs.Orders.{has_ended}
use Rattle.scoreboard.specs.RealTime.{numbered}
use Rattle.scoreboard.specs.declared.Errors.{Errors}
use Rattle.value_memory.specs.ValueMemory.{AllGo, KeepsCounts, ValueState, byte_in, held_in, to_all}
use Rattle.value_orders.specs.Bytes.{byte_at_start}
use Rattle.value_orders.specs.Events.{begins_as}
use Rattle.value_orders.specs.Histories.{begun_by, Happening, entries_of, history_in}
use Rattle.value_orders.proofs.EventHistories.{known_in}
use Rattle.value_laws.specs.Kept.{AllAreOnWay, AllArePast, AllGoAlong, HasRun, NoneIsOlder, Work, work_after, work_in}
use Rattle.value_laws.proofs.Along.{AllFrom, all_goes}
use Rattle.value_laws.proofs.Buts.{but_none}
use Rattle.value_laws.proofs.Failing.{EachToldOrSilent, fails_all, fails_kept}
use Rattle.value_laws.proofs.Keeps.{along_kept, events_next, kept_both, past_next, same_kept}
use Rattle.value_laws.proofs.Oldest.{none_then}
use Rattle.value_laws.proofs.Open.{none_after}
use Rattle.value_laws.proofs.Parts.{AllOfSome, some_from}
use Rattle.value_laws.proofs.Spreads.{work_both}
use Rattle.value_laws.proofs.Turns.{IsBut}

module _ (errors : Errors) (beginning : Beginning) (happenings : List Happening) where
  -- what was done to a byte so far
  abbrev pub work_on : (ℕ → List Event) → ℕ → Work
  work_on events x = work_after (work_in errors beginning happenings x) (events x)

  -- ---- at first, and at last

  pub way_first : (memory : ValueState) → AllArePast errors beginning happenings memory → AllAreOnWay errors beginning happenings (to_all []) memory
  way_first memory past = past

  pub way_last : (happening : Happening) (events : ℕ → List Event) (memory : ValueState) → AllAreOnWay errors beginning happenings events memory
      → ((x : ℕ) → events x ≡ events_next errors beginning happenings happening x) → AllArePast errors beginning (happenings ++ happening ∷ []) memory
  way_last happening events memory way all x =
      past_next errors beginning happenings happening x (byte_in memory x)
      (subst (λ (es : List Event). HasRun (byte_at_start beginning x) (work_after (work_in errors beginning happenings x) es) (byte_in memory x)) (all x) (way x))

  -- the same events, written otherwise
  pub way_as : (some others : ℕ → List Event) (memory : ValueState) → ((x : ℕ) → some x ≡ others x) → AllAreOnWay errors beginning happenings some memory
      → AllAreOnWay errors beginning happenings others memory
  way_as some others memory same way x =
      subst (λ (es : List Event). HasRun (byte_at_start beginning x) (work_after (work_in errors beginning happenings x) es) (byte_in memory x)) (same x) (way x)

  -- ---- a call

  -- that is told more of what happened
  pub way_along : (events : ℕ → List Event) (oldest : ℕ) (crowded : Bool) (old new : ValueState) (told seen : ℕ → List Event)
      → AllAreOnWay errors beginning happenings events old → AllGoAlong oldest crowded old new told → NoneIsOlder errors beginning happenings events oldest
      → ((x : ℕ) → IsBut (work_on events x) (told x) (seen x)) → AllAreOnWay errors beginning happenings (λ x. events x ++ seen x) new
  way_along events oldest crowded old new told seen way goes none but x =
      kept_both (byte_at_start beginning x) (work_in errors beginning happenings x) (events x) (seen x) (byte_in new x)
      (along_kept (byte_at_start beginning x) (work_on events x) oldest crowded (byte_in old x) (byte_in new x) (told x) (seen x) (way x) (goes x) (none x) (but x))

  pub way_goes : (events : ℕ → List Event) (oldest : ℕ) (crowded : Bool) (old new : ValueState) (told seen : ℕ → List Event)
      → AllAreOnWay errors beginning happenings events old → AllGo oldest crowded old new told → NoneIsOlder errors beginning happenings events oldest
      → ((x : ℕ) → IsBut (work_on events x) (told x) (seen x)) → AllAreOnWay errors beginning happenings (λ x. events x ++ seen x) new
  way_goes events oldest crowded old new told seen way goes none but =
      way_along events oldest crowded old new told seen way (all_goes oldest crowded old new told goes) none but

  -- that is told nothing: where places are made, or the oldest one in flight is known
  pub way_still : (events : ℕ → List Event) (oldest : ℕ) (crowded : Bool) (old new : ValueState) → AllAreOnWay errors beginning happenings events old
      → AllGo oldest crowded old new (to_all []) → NoneIsOlder errors beginning happenings events oldest → AllAreOnWay errors beginning happenings events new
  way_still events oldest crowded old new way goes none =
      way_as (λ x. events x ++ []) events new (λ x. append-nil (events x))
      (way_goes events oldest crowded old new (to_all []) (to_all []) way goes none (λ x. but_none (work_on events x)))

  -- or pages get room
  pub way_same : (events : ℕ → List Event) (old new : ValueState) → ((x : ℕ) → held_in new x ≡ held_in old x) → KeepsCounts old new
      → AllAreOnWay errors beginning happenings events old → AllAreOnWay errors beginning happenings events new
  way_same events old new held counts way x =
      same_kept (byte_at_start beginning x) (work_on events x) (byte_in old x) (byte_in new x) (way x) (held x) counts.begun
      (let same = counts.oldest in omega (arith, same))

  -- that is told which requests have failed, in any order, and not those that give the byte nothing
  pub way_fails : (events : ℕ → List Event) (oldest : ℕ) (crowded : Bool) (old new : ValueState) (told seen : ℕ → List ℕ)
      → AllAreOnWay errors beginning happenings events old → AllGoAlong oldest crowded old new (λ x. fails_all (told x)) → NoneIsOlder errors beginning happenings events oldest
      → ((x n : ℕ) → IsOneOf n (told x) → IsOneOf n (seen x)) → ((x : ℕ) → EachToldOrSilent (work_on events x) (told x) (seen x))
      → AllAreOnWay errors beginning happenings (λ x. events x ++ fails_all (seen x)) new
  way_fails events oldest crowded old new told seen way goes none from each x =
      kept_both (byte_at_start beginning x) (work_in errors beginning happenings x) (events x) (fails_all (seen x)) (byte_in new x)
      (fails_kept (byte_at_start beginning x) (work_on events x) oldest crowded (byte_in old x) (byte_in new x) (told x) (seen x) (way x) (goes x) (none x) (from x) (each x))

  -- ---- the oldest in flight

  -- what isn't older stays so, where none begins that is
  pub older_more : (events more : ℕ → List Event) (oldest : ℕ) → ((x : ℕ) → AllFrom oldest (more x)) → NoneIsOlder errors beginning happenings events oldest
      → NoneIsOlder errors beginning happenings (λ x. events x ++ more x) oldest
  older_more events more oldest from none x =
      subst (λ (w : Work). NoneBefore oldest w.accesses) (sym (work_both (work_in errors beginning happenings x) (events x) (more x)))
      (none_after oldest (work_on events x) (more x) (from x) (none x))

  -- as with events of requests that had begun
  pub older_stays : (events more : ℕ → List Event) (oldest : ℕ) → ((x : ℕ) → AllOfSome (more x)) → NoneIsOlder errors beginning happenings events oldest
      → NoneIsOlder errors beginning happenings (λ x. events x ++ more x) oldest
  older_stays events more oldest some none = older_more events more oldest (λ x. some_from oldest (more x) (some x)) none

  -- the next one is no older than any number up to it
  pub older_begins : (may : ℕ → Bool) (oldest : ℕ) → oldest ≤ begun_by (history_in errors beginning happenings) + 1
      → NoneIsOlder errors beginning happenings (λ x. []) oldest
      → NoneIsOlder errors beginning happenings (λ x. begins_as (begun_by (history_in errors beginning happenings) + 1) (may x)) oldest
  older_begins may oldest later none =
      older_more (λ x. []) (λ x. begins_as (begun_by (history_in errors beginning happenings) + 1) (may x)) oldest (λ x. by_may (may x)) none
    where
      by_may : (b : Bool) → AllFrom oldest (begins_as (begun_by (history_in errors beginning happenings) + 1) b)
      by_may true = (later, tt)
      by_may false = (later, tt)

  -- and none is older than all that were in flight, and end with none of them
  pub older_then : (events : ℕ → List Event) (oldest : ℕ) → ((x : ℕ) → AllOfSome (events x))
      → ((x k : ℕ) → k < length (history_in errors beginning happenings).since
      → has_ended (numbered (entries_of (history_in errors beginning happenings).since) k) ≡ false
      → (IsOneOf (Ends (length (history_in errors beginning happenings).over + 1 + k)) (events x) → ⊥)
      → oldest ≤ length (history_in errors beginning happenings).over + 1 + k)
      → NoneIsOlder errors beginning happenings events oldest
  older_then events oldest some least x =
      none_then beginning.lists errors x (history_in errors beginning happenings) oldest (events x) (known_in errors beginning happenings) (some x) (least x)
