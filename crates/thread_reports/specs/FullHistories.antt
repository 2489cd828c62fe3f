-- A history that has no room for a step more. It knows steps and scripts alone.
use Rattle.std.specs.Prelude.{ℕ, ◌≡◌, List, ◌++◌, length, Some, slice_get, IsTrue}
use Rattle.tl_messages.specs.declared.ABeat.{ABeat}
use Rattle.setups.specs.Setups.{SetupLists}
use Rattle.world.specs.World.{opening_world}
use Rattle.world.specs.declared.Step.{Step}
use Rattle.thread_reports.specs.Histories.{all_change}
use Rattle.thread_reports.specs.Reports.{offers_of}

-- each client's offers begin its script
abbrev pub BeginScripts : List Step → List (List ABeat) → Type 0
BeginScripts steps scripts =
    (client : ℕ) (script : List ABeat) → slice_get scripts client ≡ Some script → (more : List ABeat) × (offers_of client steps ++ more ≡ script)

-- a full history: as many steps as there is room for, each of which changed the world from its opening on, and in which each client's offers begin
-- its script
pub record IsFullHistory (setup : SetupLists) (scripts : List (List ABeat)) (room : ℕ) (steps : List Step) : Type 0 where
  pub full : length steps ≡ room
  pub changes : IsTrue (all_change (opening_world setup) steps)
  pub begins : BeginScripts steps scripts
