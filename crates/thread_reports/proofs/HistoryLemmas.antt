-- A history with one step more. It knows lists of outcomes; what a step does is hidden.
use Rattle.std.proofs.Common.{◌≡◌, Bool, true, false, List, [], ◌∷◌, ◌++◌, refl, ap, ◌∙◌}
use Rattle.std.specs.Prelude.{◌&&◌}
use Rattle.std.specs.List.{list_all}
use Rattle.world.specs.World.{WorldState, Outcome, after, leaves_all, next, outcomes}
use Rattle.world.specs.declared.Step.{Step}
use Rattle.world_run.proofs.RunLemmas.{after-append, outcomes-append}
use Rattle.thread_reports.specs.Histories.{IsHistory, all_change, has_changed}

list_all-append : (test : Outcome → Bool) (xs : List Outcome) (x : Outcome) → list_all test (xs ++ x ∷ []) ≡ (list_all test xs && test x)
list_all-append test [] x = and_true (test x)
  where
    and_true : (b : Bool) → (b && true) ≡ b
    and_true true = refl
    and_true false = refl
list_all-append test (y ∷ ys) x = by_first (test y) (list_all test ys) (list_all test (ys ++ x ∷ [])) (list_all-append test ys x)
  where
    by_first : (b all longer : Bool) → longer ≡ (all && test x) → (b && longer) ≡ ((b && all) && test x)
    by_first true all longer same = same
    by_first false all longer same = refl

-- each of the steps and the next one changed the world
pub all_change-append : (start : WorldState) (steps : List Step) (step : Step) → all_change start (steps ++ step ∷ []) ≡ (all_change start steps && has_changed (next (after start steps) step))
all_change-append start steps step =
    ap (list_all has_changed) (outcomes-append start steps step) ∙ list_all-append has_changed (outcomes start steps) (next (after start steps) step)

-- a history goes on with a step that changes the world
pub history_goes_on : (start : WorldState) (steps : List Step) (world : WorldState) (step : Step) → IsHistory start steps world → leaves_all (next world step).answer ≡ false
    → IsHistory start (steps ++ step ∷ []) (next world step).state
history_goes_on start steps world step history changed =
    record {
      replays = cc (history.replays, after-append start steps step);
      changes = cc (history.changes, history.replays, changed, all_change-append start steps step);
    }
