-- At which line a script stops, of those that were judged (this project's profile).
use Rattle.std.specs.Prelude.{◌≡◌, ◌≤◌, ◌⊎◌, ⊤, ℕ, ◌+◌, Bool, true, List, [], ◌∷◌, ◌++◌, length, take, Option, Result, Ok, Err}
use Rattle.line_text.specs.Words.{lines_of}
use Rattle.script_text.specs.Scripts.{EndsAs, LineStep, Reading, StopsForMemory, line_step, text_before_failure, text_of}
use Rattle.script_text.specs.declared.faults.ScriptFault.{ScriptFault}
use Rattle.script_text.specs.declared.faults.ScriptFault.TheVariants.{NoMemory, Script}

-- ---- the state after lines

-- what comes after a line, or the line's fault
abbrev pub after_line : {S : Type 0} → (S → Result S ScriptFault) → LineStep S → Result S ScriptFault
after_line rest (Ok went) = rest went.1
after_line rest (Err fault) = Err fault

-- the state after lines, by the number of the first, or the first fault among them
abbrev pub state_after : {S A : Type 0} → Reading S A → S → ℕ → List (List ℕ) → Result S ScriptFault
state_after reading state number [] = Ok state
state_after reading state number (line ∷ lines) =
    after_line (λ next. state_after reading next (number + 1) lines) (line_step reading state number line)

-- ---- the line at which a script stops

-- as much of a line as is held: all of one that may stand, and more than that of one that is too long
abbrev pub held_of : List ℕ → List ℕ
held_of line = take 129 line

-- of the lines behind some without fault: the only one has this fault, by its number; or there is none, and the script's end has it
abbrev pub IsAtFault : {S A : Type 0} → Reading S A → S → ℕ → List (List ℕ) → List ℕ → ScriptFault → Type 0
IsAtFault reading state number [] held fault = (held ≡ []) × ((reading.ending state number).result ≡ Err fault)
IsAtFault reading state number (line ∷ []) held fault = (held ≡ held_of line) × (line_step reading state number line ≡ Err fault)
IsAtFault reading state number (line ∷ next ∷ lines) held fault = ⊥

-- a script stops at the last of these lines, which is held, or behind them; the others, from a state and a number on, have no fault
pub record StopsAt {S A : Type 0} (reading : Reading S A) (start : S) (first : ℕ) (lines : List (List ℕ)) (held : List ℕ) (fault : ScriptFault) : Type 0 where
  pub before : List (List ℕ)
  pub rest : List (List ℕ)
  pub parts : lines ≡ before ++ rest
  pub state : S
  pub went : state_after reading start first before ≡ Ok state
  pub number : ℕ
  pub counted : number ≡ first + length before
  pub at_fault : IsAtFault reading state number rest held fault

-- where a script ends with a script fault, the line is held at which it stopped
abbrev pub StopsWithin : {S A : Type 0} → Reading S A → S → ℕ → List (List ℕ) → List ℕ → Result A ScriptFault → Type 0
StopsWithin reading start first lines held (Err (Script line word)) = StopsAt reading start first lines held (Script line word)
StopsWithin reading start first lines held _ = ⊤

-- the same of the bytes that were judged, but for a line more than a script may have, of which only a byte was read
abbrev pub HoldsFaultLine : {S A : Type 0} → Reading S A → S → List ℕ → List ℕ → Result A ScriptFault → Type 0
HoldsFaultLine reading start judged held (Err (Script line word)) = line ≤ reading.most_lines → StopsAt reading start 1 (lines_of judged) held (Script line word)
HoldsFaultLine reading start judged held _ = ⊤

-- how a call ends that holds the line at which a script fault stopped it: as one that holds none, and it is the line of the bytes that were judged
abbrev pub EndsHolding : {S A : Type 0} → Bool → Reading S A → S → List ℕ → Option (List ℕ) → Option (List ℕ) → Option (List ℕ) → Option (List ℕ) → Result A ScriptFault → Type 0
EndsHolding grows reading start held input rest old new result =
    ((ends : EndsAs reading.most_lines (text_of reading start) (text_before_failure reading start) input rest old new result) × HoldsFaultLine reading start ends.judged held result)
    ⊎ ((grows ≡ true) × (result ≡ Err NoMemory) × StopsForMemory reading start input rest old new)
