-- What the parts of a world can do by themselves, and how a drain goes on. It knows which steps are enabled; which bytes they move is left out.
use Rattle.std.specs.Prelude.{ℕ, ◌≡◌, ◌++◌, Bool, true, false, List, [], map, zero, suc, Some, None, not, slice_get}
use Rattle.bridge_core.specs.Bridge.{burst_to_send}
use Rattle.subordinate.specs.FreeMemory.{FreeMemory, ids_with_b, ids_with_r, waiting_beats}
use Rattle.world.specs.Laws.{IsSoundWorld}
use Rattle.world.specs.World.{WorldState, enabled, next}
use Rattle.world.specs.declared.Answer.{Answer}
use Rattle.world.specs.declared.Answer.TheVariants.{R, Sent}
use Rattle.world.specs.declared.Step.{Step}
use Rattle.world.specs.declared.Step.TheVariants.{AnswerB, AnswerR, Perform}

-- the answers of a memory that may come: AnswerB by rising ID, AnswerR by rising ID
abbrev pub answers_enabled : FreeMemory → List Step
answers_enabled memory = map AnswerB (ids_with_b memory) ++ map AnswerR (ids_with_r memory)

-- whether an answer tells that a burst went
abbrev pub is_sent : Answer → Bool
is_sent (Sent serial) = true
is_sent answer = false

-- whether an answer tells of an R of whose burst more come
abbrev pub goes_on : Answer → Bool
goes_on (R beat) = not beat.last
goes_on answer = false

-- from old to new by n events, each the first that is enabled
abbrev pub LeadsTo : WorldState → ℕ → WorldState → Type 0
LeadsTo old zero new = new ≡ old
LeadsTo old (suc n) new = (step : Step) × IsSoundWorld old × (slice_get (enabled old) 0 ≡ Some step) × LeadsTo (next old step).state n new

-- the first beat that waits was performed
pub record PerformsFirst (old new : WorldState) : Type 0 where
  pub serial : ℕ
  pub beat : ℕ
  pub first : slice_get (waiting_beats old.memory) 0 ≡ Some (serial, beat)
  pub state : new ≡ (next old (Perform serial beat)).state

-- no request is ready, and no beat waits
pub record IsPerformed (state : WorldState) : Type 0 where
  pub idle : burst_to_send state.bridge ≡ None
  pub performed : waiting_beats state.memory ≡ []
