-- What a call that carries out a line, or ends a script, may answer.
use Rattle.std.specs.Prelude.{◌≡◌, ◌≢◌, ◌⊎◌, ℕ, Bool, true, false, List, [], ◌++◌, Option, Result, Ok, Err, IsOk}
use Rattle.std.specs.Io.KnownBytes.{Appends, Keeps}
use Rattle.script_text.specs.Scripts.{LineStep, Reading, TextResult, HasText, Tells}
use Rattle.script_text.specs.declared.faults.ScriptFault.{ScriptFault}
use Rattle.script_text.specs.declared.faults.ScriptFault.TheVariants.{Script, Setup, Read, Write, NoMemory}

-- the text of a line that went well was written, and `wrote` tells whether it has any; a script may end after a line that has. A script that is
-- still silent was so before, and wrote nothing
pub record Goes {S A : Type 0} (reading : Reading S A) (step : LineStep S) (is_silent : S → Bool) (old new : S) (before after : Option (List ℕ)) (wrote : Bool) : Type 0 where
  pub text : List ℕ
  pub step_is : step ≡ Ok (text, new)
  pub written : Appends before after text
  pub quiet : wrote ≡ false → text ≡ []
  pub speaks : wrote ≡ true → (text ≢ []) × ((number : ℕ) → IsOk (reading.ending new number).result)
  pub silent : is_silent new ≡ true → (is_silent old ≡ true) × (text ≡ [])

-- a line without fault, after which the script may end
pub record Stands {S A : Type 0} (reading : Reading S A) (step : LineStep S) : Type 0 where
  pub text : List ℕ
  pub next : S
  pub step_is : step ≡ Ok (text, next)
  pub may_end : (number : ℕ) → IsOk (reading.ending next number).result

-- a line with text
abbrev pub Speaks : {S A : Type 0} → Reading S A → LineStep S → Type 0
Speaks reading step = (line : Stands reading step) × (line.text ≢ [])

-- a line that has text, or after which a script that ends has
abbrev pub GivesText : {S A : Type 0} → Reading S A → LineStep S → Type 0
GivesText reading step = (line : Stands reading step) × ((number : ℕ) → line.text ++ (reading.ending line.next number).output ≢ [])

-- a line was carried out; a write fails only at one with text, and memory is asked for only while nothing was written, at one that gives text, but
-- by a script that `grows`: by that also at any line without fault
abbrev pub TakesStep : {S A : Type 0} → Reading S A → Bool → LineStep S → (S → Bool) → S → S → Option (List ℕ) → Option (List ℕ) → Result Bool ScriptFault → Type 0
TakesStep reading grows step is_silent old new before after (Ok wrote) = Goes reading step is_silent old new before after wrote
TakesStep reading grows step is_silent old new before after (Err (Script line word)) = (step ≡ Err (Script line word)) × Keeps before after
TakesStep reading grows step is_silent old new before after (Err (Setup fault)) = (step ≡ Err (Setup fault)) × Keeps before after
TakesStep reading grows step is_silent old new before after (Err Read) = ⊥
TakesStep reading grows step is_silent old new before after (Err Write) = Speaks reading step
TakesStep reading grows step is_silent old new before after (Err NoMemory) =
    ((is_silent old ≡ true) × GivesText reading step ⊎ (grows ≡ true) × Stands reading step) × Keeps before after

-- a script was ended, after its last line or within it; a write fails only where there is text, and memory is asked for only where there is no
-- fault and nothing was written, but by a script that `grows`: of that nothing more was written, or the text of its last line, which is given
abbrev pub TakesRest : {A : Type 0} → TextResult A → List ℕ → Bool → Bool → Option (List ℕ) → Option (List ℕ) → Result A ScriptFault → Type 0
TakesRest text line grows silent before after (Ok answer) = Tells text before after (Ok answer)
TakesRest text line grows silent before after (Err (Script number word)) = Tells text before after (Err (Script number word))
TakesRest text line grows silent before after (Err (Setup fault)) = Tells text before after (Err (Setup fault))
TakesRest text line grows silent before after (Err Read) = ⊥
TakesRest text line grows silent before after (Err Write) = IsOk text.result × HasText text
TakesRest text line grows silent before after (Err NoMemory) =
    IsOk text.result × ((silent ≡ true) × Keeps before after ⊎ (grows ≡ true) × (Keeps before after ⊎ Appends before after line))
