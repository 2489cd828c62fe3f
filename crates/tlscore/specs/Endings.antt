-- How the program ends (this project's profile).
use Rattle.std.specs.Prelude.{ℕ, ◌≡◌, ◌≢◌, ◌⊎◌, Bool, true, false, List, [], Option, Some, Result, Ok, Err}
use Rattle.std.specs.Io.KnownBytes.{Keeps}
use Rattle.burst_plan.specs.declared.MapFault.TheVariants as map_fault
use Rattle.script_text.specs.declared.faults.ScriptFault.{ScriptFault}
use Rattle.script_text.specs.declared.faults.ScriptFault.TheVariants.{Script, Setup, Read, Write, NoMemory}
use Rattle.subordinate.specs.declared.DeviceFault.TheVariants as device_fault
use Rattle.setups.specs.declared.SetupFault.{SetupFault}
use Rattle.setups.specs.declared.SetupFault.TheVariants as setup

-- as the observation did; or with a write fault, whatever it ended with, since the flush comes after all of its text. Where it ended with none, the
-- writer then held a byte, if it shows what it holds: so a fault before any text stays itself
abbrev pub Flushes : (Option (List ℕ) → Result Bool ScriptFault → Type 0) → Option (List ℕ) → Result Bool ScriptFault → Type 0
Flushes EndsWith new (Err Write) =
    (ending : Result Bool ScriptFault) × (held : Option (List ℕ)) × EndsWith held ending × Keeps held new × ((ending ≡ Err Write) ⊎ (held ≢ Some []))
Flushes EndsWith new result = EndsWith new result

-- of a refused set-up: 4 for want of memory
abbrev pub setup_status : SetupFault → ℕ
setup_status setup.NoMemory = 4
setup_status (setup.Map map_fault.NoMemory) = 4
setup_status (setup.Device device_fault.NoMemory) = 4
setup_status _ = 2

-- 0 where nothing is wrong, 1 where something is, 2 for a fault of the input or its set-up, 3 for one of the reader or writer, 4 for want of memory
abbrev pub status_of : Result Bool ScriptFault → ℕ
status_of (Ok false) = 0
status_of (Ok true) = 1
status_of (Err (Script line word)) = 2
status_of (Err (Setup fault)) = setup_status fault
status_of (Err Read) = 3
status_of (Err Write) = 3
status_of (Err NoMemory) = 4
