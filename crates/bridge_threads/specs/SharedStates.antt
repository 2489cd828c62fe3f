-- What is kept under the lock: the world with its history, and what the workers tell one another. It knows the steps that changed the world; which
-- worker made each, and when, is told by nothing.
use Rattle.std.specs.Prelude.{ℕ, Bool, false, List, [], ◌∷◌, ◌++◌, if◌then◌else◌}
use Rattle.setups.specs.Setups.{SetupLists}
use Rattle.world.specs.World.{WorldState, Outcome, leaves_all, next, opening_world}
use Rattle.world.specs.declared.Step.{Step}

-- what lies under the lock: the set-up, the world, the stored steps and how many there may be, how many clients are at work, and whether all
-- workers are to stop
pub record SharedState : Type 0 where
  pub setup : SetupLists
  pub world : WorldState
  pub steps : List Step
  pub room : ℕ
  pub working : ℕ
  pub stop : Bool

-- before the first step: the opening world, and every client at work
abbrev pub opening_shared : SetupLists → ℕ → SharedState
opening_shared setup room =
    record { setup = setup; world = opening_world setup; steps = []; room = room; working = setup.config.clients; stop = false }

-- after a step, which is stored where it changed the world
abbrev pub with_outcome : SharedState → Step → Outcome → SharedState
with_outcome shared step outcome =
    record shared { world = outcome.state; steps = if leaves_all outcome.answer then shared.steps else shared.steps ++ step ∷ [] }

abbrev pub turned : SharedState → Step → SharedState
turned shared step = with_outcome shared step (next shared.world step)
