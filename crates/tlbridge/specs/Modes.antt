-- How a call ends that carries out a script and then flushes its output.
use Rattle.std.specs.Prelude.{ℕ, ◌≡◌, ◌≢◌, ◌⊎◌, Bool, List, [], Option, Some, Result, Err}
use Rattle.std.specs.Io.KnownBytes.{Keeps}
use Rattle.tlbridge.specs.declared.faults.TextFault.{TextFault}
use Rattle.tlbridge.specs.declared.faults.TextFault.TheVariants.{Write}

-- as the script did; or with a write fault, whatever the script ended with, since the flush comes after all of its text. Where it ended with none,
-- the writer then held a byte, if it shows what it holds: so a fault before any text stays itself
abbrev pub Flushes : (Option (List ℕ) → Result Bool TextFault → Type 0) → Option (List ℕ) → Result Bool TextFault → Type 0
Flushes EndsWith new (Err Write) =
    (ending : Result Bool TextFault) × (held : Option (List ℕ)) × EndsWith held ending × Keeps held new × ((ending ≡ Err Write) ⊎ (held ≢ Some []))
Flushes EndsWith new result = EndsWith new result
