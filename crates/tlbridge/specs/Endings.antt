-- How a text call ends.
use Rattle.std.specs.Prelude.{◌≡◌, Bool, List, ℕ, Option, Result, Ok, Err}
use Rattle.script_text.specs.Scripts.{TextResult}
use Rattle.script_text.specs.Scripts as script
use Rattle.script_text.specs.declared.faults.ScriptFault.{ScriptFault}
use Rattle.script_text.specs.declared.faults.ScriptFault.TheVariants as script_fault
use Rattle.tlbridge.specs.declared.faults.TextFault.{TextFault}
use Rattle.tlbridge.specs.declared.faults.TextFault.TheVariants.{Script, Setup, Read, Write, NoMemory}

-- a script's fault as one of a text call
abbrev pub text_fault : ScriptFault → TextFault
text_fault (script_fault.Script line word) = Script line word
text_fault (script_fault.Setup fault) = Setup fault
text_fault script_fault.Read = Read
text_fault script_fault.Write = Write
text_fault script_fault.NoMemory = NoMemory

abbrev pub text_ending : Result Bool ScriptFault → Result Bool TextFault
text_ending (Ok refused) = Ok refused
text_ending (Err fault) = Err (text_fault fault)

-- as the reading of a script of at most 65,536 lines ends
abbrev pub EndsAs : (List ℕ → TextResult Bool) → (List ℕ → TextResult Bool) → Option (List ℕ) → Option (List ℕ) → Option (List ℕ) → Option (List ℕ) → Result Bool TextFault → Type 0
EndsAs whole before_failure input rest old new result =
    (ending : Result Bool ScriptFault) × (result ≡ text_ending ending) × script.EndsAs 65536 whole before_failure input rest old new ending
