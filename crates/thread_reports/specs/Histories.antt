-- A history of the world, as one thread could have made it. It knows the steps that changed the world, in the order in which they were made; which
-- worker made each, and when, is told by nothing.
use Rattle.std.specs.Prelude.{◌≡◌, Bool, List, not, IsTrue}
use Rattle.std.specs.List.{list_all}
use Rattle.world.specs.World.{WorldState, Outcome, after, leaves_all, outcomes}
use Rattle.world.specs.declared.Step.{Step}

-- whether an event changed the world
abbrev pub has_changed : Outcome → Bool
has_changed outcome = not (leaves_all outcome.answer)

-- whether each of some steps changed the world
abbrev pub all_change : WorldState → List Step → Bool
all_change start steps = list_all has_changed (outcomes start steps)

-- a history: the world is its start after the stored steps, and each of them changed it
pub record IsHistory (start : WorldState) (steps : List Step) (world : WorldState) : Type 0 where
  pub replays : world ≡ after start steps
  pub changes : IsTrue (all_change start steps)
