-- A drain makes the first step that is enabled until none is. It knows that each step takes one from the work; what the steps do is hidden.
use Rattle.std.proofs.Common.{◌≡◌, ℕ, zero, suc, ◌+◌, ◌^◌, ◌<◌, ◌≤◌, [], drop, Some, refl, ap, sym, ◌∙◌, subst, arith}
use Rattle.std.specs.Prelude.{slice_get}
use Rattle.world.specs.Choices.{LeadsTo}
use Rattle.world.specs.Laws.{IsDrained, IsSoundWorld, work_spared}
use Rattle.world.specs.World.{Drains, WorldState, drained, drained_within, enabled, next, one_more, work_left}
use Rattle.world.specs.declared.Step.{Step}
use Rattle.world.proofs.AllDone.{nothing_enabled}
use Rattle.world.proofs.WorkBounds.{few_work}
use Rattle.world.proofs.WorkSteps.{enabled_takes, first_dropped}

-- ---- what a drain gives is what the definition gives

drains_within : (n most : ℕ) (old new : WorldState) → Drains old n new → n ≤ most → drained_within most old ≡ (n, new)
drains_within zero zero old new (none, same) fits = ap (λ (state : WorldState). (0, state)) (sym same)
drains_within zero (suc most) old new (none, same) fits = rw (none, drained_within) (ap (λ (state : WorldState). (0, state)) (sym same))
drains_within (suc n) zero old new drains fits = absurd (omega (arith, fits))
drains_within (suc n) (suc most) old new (step, rest, is, drains) fits =
    let more : n + 1 ≡ suc n = omega arith in
    rw (is, drained_within) (ap one_more (drains_within n most (next old step).state new drains (omega (arith, fits))) ∙ ap (λ (m : ℕ). (m, new)) more)

pub drained_is : (old new : WorldState) (n : ℕ) → IsDrained old n new → drained old ≡ (n, new)
drained_is old new n done = drains_within n (work_left old) old new done.steps (omega (arith, done.count))

-- ---- a drain begins, goes on and ends

-- the events of one part of a drain and those of the next
pub led_on : (n m : ℕ) (old mid new : WorldState) → LeadsTo old n mid → LeadsTo mid m new → LeadsTo old (n + m) new
led_on zero m old mid new same more =
    let none : m ≡ 0 + m = omega arith in
    subst (λ (k : ℕ). LeadsTo old k new) none (subst (λ (state : WorldState). LeadsTo state m new) same more)
led_on (suc n) m old mid new (step, sound, first, rest) more =
    let one : suc (n + m) ≡ suc n + m = omega arith in
    subst (λ (k : ℕ). LeadsTo old k new) one (step, sound, first, led_on n m (next old step).state mid new rest more)

-- and one event more
pub led_step : (old now : WorldState) (made : ℕ) (step : Step) → LeadsTo old made now → IsSoundWorld now → slice_get (enabled now) 0 ≡ Some step → LeadsTo old (made + 1) (next now step).state
led_step old now made step led sound first = led_on made 1 old now (next now step).state led (step, sound, first, refl)

-- each of n events takes one from the work
record TakesSome (old : WorldState) (n : ℕ) (new : WorldState) : Type 0 where
  work : work_left old + work_spared old ≡ n + (work_left new + work_spared new)
  spared : work_spared old ≤ work_spared new

led_takes : (n : ℕ) (old new : WorldState) → LeadsTo old n new → TakesSome old n new
led_takes zero old new same = subst (λ (state : WorldState). TakesSome old 0 state) (sym same) (record { work = omega arith; spared = omega arith })
led_takes (suc n) old new (step, sound, first, rest) =
    let takes = enabled_takes old 0 step sound first in
    let later = led_takes n (next old step).state new rest in
    record { work = omega (arith, takes.work, later.work); spared = omega (arith, takes.spared, later.spared) }

-- there is less work after some
pub led_less : (n : ℕ) (old new : WorldState) → LeadsTo old n new → 0 < n → work_left new < work_left old
led_less n old new led some = let takes = led_takes n old new led in omega (arith, takes.work, takes.spared, some)

pub step_less : (now : WorldState) (step : Step) → IsSoundWorld now → slice_get (enabled now) 0 ≡ Some step → work_left (next now step).state < work_left now
step_less now step sound first = led_less 1 now (next now step).state (step, sound, first, refl) (omega arith)

-- the count fits a word
pub led_few : (n : ℕ) (old new : WorldState) → LeadsTo old n new → n < 2 ^ 63
led_few zero old new led = omega arith
led_few (suc n) old new (step, sound, first, rest) =
    let takes = led_takes (suc n) old new (step, sound, first, rest) in
    omega (arith, takes.work, takes.spared, few_work old sound)

led_drains : (n : ℕ) (old new : WorldState) → LeadsTo old n new → enabled new ≡ [] → Drains old n new
led_drains zero old new same none = (subst (λ (state : WorldState). enabled state ≡ []) same none, same)
led_drains (suc n) old new (step, sound, first, rest) none = (step, drop 1 (enabled old), first_dropped (enabled old) 0 step first, led_drains n (next old step).state new rest none)

led_ends : (n : ℕ) (old new : WorldState) → LeadsTo old n new → IsSoundWorld new → enabled new ≡ [] → IsDrained old n new
led_ends n old new led sound none =
    let ended = nothing_enabled new sound none in
    let takes = led_takes n old new led in
    record {
      steps = led_drains n old new led none;
      count = omega (arith, takes.work, takes.spared, ended.1);
      spared = takes.spared;
      nothing_left = ended.1;
      quiet = ended.0;
    }

-- and where no step is made any more, that is all
pub led_last : (made more : ℕ) (old now new : WorldState) → LeadsTo old made now → LeadsTo now more new → more ≡ 0 → LeadsTo old made new
led_last made more old now new led rest none =
    let all : made + more ≡ made = omega (arith, none) in
    subst (λ (k : ℕ). LeadsTo old k new) all (led_on made more old now new led rest)

pub led_done : (made more : ℕ) (old now new : WorldState) → LeadsTo old made now → LeadsTo now more new → more ≡ 0 → IsSoundWorld new → enabled new ≡ [] → IsDrained old made new
led_done made more old now new led rest none sound ends = led_ends made old new (led_last made more old now new led rest none) sound ends
