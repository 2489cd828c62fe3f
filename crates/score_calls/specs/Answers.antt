-- Answers as numbers (this project's profile).
use Rattle.std.specs.Prelude.{ℕ, Result, Ok, Err}
use Rattle.call_words.specs.Answers.{fault_answer}
use Rattle.script_text.specs.declared.faults.ScriptFault.{ScriptFault}

-- what was found, or why nothing was
abbrev pub answer_of : Result ℕ ScriptFault → ℕ
answer_of (Ok code) = code
answer_of (Err fault) = fault_answer fault
