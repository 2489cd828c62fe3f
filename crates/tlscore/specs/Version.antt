-- The line that says which version this is, and how the call ends that writes it (this project's profile).
use Rattle.std.specs.Prelude.{ℕ, ◌≡◌, Bool, false, List, [], ◌∷◌, codes, Option, Result, Ok, Err}
use Rattle.std.specs.Io.KnownBytes.{Appends}
use Rattle.bus_words.specs.Text.{line}
use Rattle.line_text.specs.Writing.{WritesSome}
use Rattle.script_text.specs.declared.faults.ScriptFault.{ScriptFault}
use Rattle.script_text.specs.declared.faults.ScriptFault.TheVariants.{Write}

-- the program's name and its version
abbrev pub version_text : List ℕ
version_text = line (codes "tlscore" ∷ codes "0.1.0" ∷ [])

-- the line was written, and nothing is wrong; or a write failed, and what was written, if anything, is a front of the line
abbrev pub TellsVersion : Option (List ℕ) → Option (List ℕ) → Result Bool ScriptFault → Type 0
TellsVersion old new (Ok is_wrong) = (is_wrong ≡ false) × Appends old new version_text
TellsVersion old new (Err fault) = (fault ≡ Write) × ((rest : List ℕ) × WritesSome version_text rest old new)
