-- Answers as numbers (this project's profile).
use Rattle.std.specs.Prelude.{ℕ, ◌≡◌, ◌⊎◌, ◌+◌, List, length, Option, Some, None}
use Rattle.script_text.specs.declared.faults.ScriptFault.{ScriptFault}
use Rattle.script_text.specs.declared.faults.ScriptFault.TheVariants.{Script, Setup, Read, Write, NoMemory}

-- a fault: 2^32 and the first wrong word, 2^33 where the set-up is refused, and one more where memory is
abbrev pub fault_answer : ScriptFault → ℕ
fault_answer (Script line word) = 4294967296 + word
fault_answer (Setup fault) = 8589934592
fault_answer NoMemory = 8589934593
fault_answer Read = 8589934594
fault_answer Write = 8589934594

-- a byte, or that there is none
abbrev pub byte_answer : Option ℕ → ℕ
byte_answer (Some byte) = byte
byte_answer None = 4294967296

-- of the text of a fault, how many bytes it has; or memory was refused
abbrev pub FaultTold : List ℕ → ℕ → Type 0
FaultTold text answer = (answer ≡ length text) ⊎ (answer ≡ 8589934593)
