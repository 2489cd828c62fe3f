-- The steps that bridge and memory can make by themselves offer nothing and take nothing, so they keep the order of acceptance.
use Rattle.std.proofs.Common.{◌≡◌, ◌≤◌, ℕ, zero, suc, Bool, true, false, List, [], ◌∷◌, ◌++◌, length, map, Option, Some, None, arith, refl, subst, sym}
use Rattle.std.specs.List.{list_all}
use Rattle.std.specs.Prelude.{is_some, slice_get, if◌then◌else◌}
use Rattle.axi_beats.specs.Bursts.{Burst}
use Rattle.bridge_core.specs.Bridge.{burst_to_send}
use Rattle.subordinate.specs.FreeMemory.{ids_with_b, ids_with_r, waiting_beats}
use Rattle.world.specs.Choices.{LeadsTo}
use Rattle.world.specs.Laws.{IsSoundWorld}
use Rattle.world.specs.World.{WorldState, enabled, next, perform_at, pumps_enabled}
use Rattle.world.specs.declared.Step.{Step}
use Rattle.world.specs.declared.Step.TheVariants.{AnswerB, AnswerR, Offer, Pump, Take}
use Rattle.world_run.proofs.OrderSteps.{keeps_next}
use Rattle.world_run.specs.InOrder.{IsForeseen, KeepsOrder}
use Rattle.world_run.specs.Serial.{Order}

-- ---- lists

pub none_past : {X : Type 0} (xs : List X) (k : ℕ) → length xs ≤ k → slice_get xs k ≡ None
none_past [] k past = refl
none_past (x ∷ xs) zero past = absurd (omega (arith, past))
none_past (x ∷ xs) (suc k) past = none_past xs k (omega (arith, past))

all_append : {X : Type 0} (p : X → Bool) (xs ys : List X) → list_all p xs ≡ true → list_all p ys ≡ true → list_all p (xs ++ ys) ≡ true
all_append p [] ys here there = there
all_append p (x ∷ xs) ys here there = grind (arith, here, all_append p xs ys)

all_map : {X Y : Type 0} (p : Y → Bool) (f : X → Y) (xs : List X) → ((x : X) → p (f x) ≡ true) → list_all p (map f xs) ≡ true
all_map p f [] each = refl
all_map p f (x ∷ xs) each = grind (arith, each x, all_map p f xs each)

pub all_at : {X : Type 0} (p : X → Bool) (xs : List X) (k : ℕ) (x : X) → list_all p xs ≡ true → slice_get xs k ≡ Some x → p x ≡ true
all_at p [] k x all there = absurd (cc (there))
all_at p (y ∷ ys) zero x all there = grind (arith, all, there)
all_at p (y ∷ ys) (suc k) x all there = grind (arith, all, there, all_at p ys k x)

-- ---- steps

abbrev pub is_own : Step → Bool
is_own (Offer client beat) = false
is_own (Take client) = false
is_own step = true

pump_own : (burst : Option Burst) → list_all is_own (if is_some burst then Pump ∷ [] else []) ≡ true
pump_own None = refl
pump_own (Some burst) = refl

pub own_enabled : (state : WorldState) → list_all is_own (enabled state) ≡ true
own_enabled state =
    let performs = map perform_at (waiting_beats state.memory) in
    let bs = map AnswerB (ids_with_b state.memory) in
    let rs = map AnswerR (ids_with_r state.memory) in
    all_append is_own (pumps_enabled state) (performs ++ (bs ++ rs)) (pump_own (burst_to_send state.bridge))
    (all_append is_own performs (bs ++ rs) (all_map is_own perform_at (waiting_beats state.memory) (λ place. refl))
    (all_append is_own bs rs (all_map is_own AnswerB (ids_with_b state.memory) (λ id. refl)) (all_map is_own AnswerR (ids_with_r state.memory) (λ id. refl))))

own_foreseen : (order : Order) (state : WorldState) (step : Step) → is_own step ≡ true → IsForeseen order state step
own_foreseen order state (Offer client beat) own = absurd (cc (own))
own_foreseen order state (Take client) own = absurd (cc (own))
own_foreseen order state step own = tt

enabled_foreseen : (order : Order) (state : WorldState) (step : Step) → slice_get (enabled state) 0 ≡ Some step → IsForeseen order state step
enabled_foreseen order state step first = own_foreseen order state step (all_at is_own (enabled state) 0 step (own_enabled state) first)

-- the world that steps begin with keeps the laws, where that keeps them which they lead to
begins_sound : (n : ℕ) (old new : WorldState) → LeadsTo old n new → IsSoundWorld new → IsSoundWorld old
begins_sound zero old new same sound = subst IsSoundWorld same sound
begins_sound (suc n) old new (step, sound_old, first, rest) sound = sound_old

-- steps that are enabled keep the order, since nothing has to be foreseen of them
pub led_keeps : (order : Order) (n : ℕ) (old new : WorldState) → LeadsTo old n new → IsSoundWorld new → KeepsOrder order old → KeepsOrder order new
led_keeps order zero old new same sound keeps = subst (λ (state : WorldState). KeepsOrder order state) (sym same) keeps
led_keeps order (suc n) old new (step, sound_old, first, rest) sound keeps =
    let after = (next old step).state in
    let kept = keeps_next order old step sound_old (begins_sound n after new rest sound) (enabled_foreseen order old step first) keeps in
    led_keeps order n after new rest sound kept
