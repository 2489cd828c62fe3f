-- Choices of a memory thread, with one more, and when it is done. What a step does is hidden.
use Rattle.std.proofs.Common.{◌≡◌, ◌==◌, ℕ, zero, suc, Bool, true, false, List, [], ◌∷◌, ◌++◌, length, refl, sym, ap, ◌∙◌, subst, arith}
use Rattle.std.specs.Prelude.{◌&&◌, ◌||◌, nat_eq}
use Rattle.std.proofs.lemmas.Bool.{false≢true}
use Rattle.world.specs.World.{WorldState, after, next}
use Rattle.world.specs.declared.Step.{Step}
use Rattle.bridge_threads.specs.SharedStates.{SharedState, turned}
use Rattle.bridge_threads.specs.Turns.{AreChosen, IsChosen, after_turns, place_after, word_at}

pub after_turns-append : (shared : SharedState) (steps : List Step) (step : Step) → after_turns shared (steps ++ step ∷ []) ≡ turned (after_turns shared steps) step
after_turns-append shared [] step = refl
after_turns-append shared (first ∷ steps) step = after_turns-append (turned shared first) steps step

-- the world goes with the steps, whether they are stored or not
pub world_after_turns : (shared : SharedState) (steps : List Step) → (after_turns shared steps).world ≡ after shared.world steps
world_after_turns shared [] = refl
world_after_turns shared (first ∷ steps) = world_after_turns (turned shared first) steps

pub AreChosen-append : (words : List ℕ) (place : ℕ) (state : WorldState) (steps : List Step) (middle : ℕ) (step : Step) (end : ℕ) → AreChosen words place state steps middle
    → IsChosen (after state steps) (word_at words middle) step → end ≡ place_after (length words) middle → AreChosen words place state (steps ++ step ∷ []) end
AreChosen-append words place state [] middle step end here chosen is = (subst (λ k. IsChosen state (word_at words k) step) (sym here) chosen, ap (place_after (length words)) here ∙ sym is)
AreChosen-append words place state (first ∷ steps) middle step end are chosen is =
    (are.0, AreChosen-append words (place_after (length words) place) (next state first).state steps middle step end are.1 chosen is)

-- where it isn't to stop, and no client is at work, a memory thread is done when nothing is enabled
pub over_by : (stop : Bool) (working count choices : ℕ) → stop ≡ false → working ≡ 0 → choices ≡ count → nat_eq choices 0 ≡ (stop || working == 0 && count == 0)
over_by true working count choices going none same = absurd (false≢true (sym going))
over_by false zero count choices going none same = ap (λ n. n == 0) same
over_by false (suc working) count choices going none same = absurd (omega (arith, none))
