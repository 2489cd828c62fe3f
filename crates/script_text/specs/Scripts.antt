-- How a script is read, whatever its lines do, and how a call that reads one ends (this project's profile).
use Rattle.std.specs.Prelude.{◌≡◌, ◌≢◌, ◌≤◌, ◌⊎◌, ℕ, ◌+◌, ◌*◌, Bool, true, false, not, ◌&&◌, ◌||◌, List, [], ◌∷◌, ◌++◌, length, Option, Result, Ok, Err, IsOk, if◌then◌else◌, nat_lt}
use Rattle.std.specs.Io.KnownBytes.{Appends, Consumes, Keeps, IsAtEnd}
use Rattle.line_text.specs.Words.{lines_of, ended_lines_of, is_plain_line, is_skipped, words_of}
use Rattle.script_text.specs.declared.faults.ScriptFault.{ScriptFault}
use Rattle.script_text.specs.declared.faults.ScriptFault.TheVariants.{Script, Setup, Read, Write, NoMemory}

-- ---- lines

-- the output of a script, and its result: what a script that ends answers, or the fault that ended it
pub record TextResult (A : Type 0) : Type 0 where
  pub output : List ℕ
  pub result : Result A ScriptFault

-- what a line makes of a script's state: the text that is written and the state after it, or the fault that ends the script
abbrev pub LineStep : Type 0 → Type 0
LineStep S = Result (List ℕ × S) ScriptFault

-- a kind of script, by its states and its answers: how many lines it may have, what the words of a line do, by the line's number from 1, and
-- how the script ends where no line has a fault, by the number of the line after the last; and, of one that may ask for memory in mid-run, at which
-- lines it may, by their words, and whether it may at its end
pub record Reading (S A : Type 0) : Type 0 where
  pub most_lines : ℕ
  pub step : S → ℕ → List (List ℕ) → LineStep S
  pub ending : S → ℕ → TextResult A
  pub wants : S → List (List ℕ) → Bool
  pub wants_at_end : S → Bool

-- one line: at fault at word 0 where its bytes may not stand or it is one more than a script may have, skipped, or read by its words
abbrev pub line_step : {S A : Type 0} → Reading S A → S → ℕ → List ℕ → LineStep S
line_step reading state number line =
    if not (is_plain_line line) || nat_lt reading.most_lines number
    then Err (Script number 0)
    else (if is_skipped (words_of line) then Ok ([], state) else reading.step state number (words_of line))

-- ---- a whole script

-- nothing is written
abbrev pub ended : {A : Type 0} → Result A ScriptFault → TextResult A
ended result = record { output = []; result = result }

abbrev pub after_text : {A : Type 0} → List ℕ → TextResult A → TextResult A
after_text text rest = record rest { output = text ++ rest.output }

-- what one line gives, with what stands after it
abbrev pub after_step : {S A : Type 0} → (S → TextResult A) → LineStep S → TextResult A
after_step rest (Err fault) = ended (Err fault)
after_step rest (Ok went) = after_text went.0 (rest went.1)

-- the lines from a number on; `ending` says how the script ends after the last
abbrev pub lines_result : {S A : Type 0} → Reading S A → (S → ℕ → TextResult A) → S → ℕ → List (List ℕ) → TextResult A
lines_result reading ending state number [] = ending state number
lines_result reading ending state number (line ∷ lines) =
    after_step (λ next. lines_result reading ending next (number + 1) lines) (line_step reading state number line)

-- the text of a whole input, from a state and a line's number on
abbrev pub text_from : {S A : Type 0} → Reading S A → S → ℕ → List ℕ → TextResult A
text_from reading state number input = lines_result reading reading.ending state number (lines_of input)

abbrev pub text_of : {S A : Type 0} → Reading S A → S → List ℕ → TextResult A
text_of reading start input = text_from reading start 1 input

-- the text of the lines whose line feed was read, from a state and a line's number on, where the reader failed after these bytes
abbrev pub text_failing_from : {S A : Type 0} → Reading S A → S → ℕ → List ℕ → TextResult A
text_failing_from reading state number input = lines_result reading (λ state number. ended (Err Read)) state number (ended_lines_of input)

-- the text where the reader failed after these bytes: that of the lines whose line feed was read, and a fault in them comes first
abbrev pub text_before_failure : {S A : Type 0} → Reading S A → S → List ℕ → TextResult A
text_before_failure reading start input = text_failing_from reading start 1 input

-- ---- how a call ends

-- what was written and answered is the text of these bytes
abbrev pub Tells : {A : Type 0} → TextResult A → Option (List ℕ) → Option (List ℕ) → Result A ScriptFault → Type 0
Tells text old new result = Appends old new text.output × (text.result ≡ result)

-- a script that writes something
abbrev pub HasText : {A : Type 0} → TextResult A → Type 0
HasText text = text.output ≢ []

-- a fault that stands whatever follows
abbrev pub IsSettled : {A : Type 0} → (List ℕ → TextResult A) → List ℕ → Type 0
IsSettled whole judged = (more : List ℕ) → whole (judged ++ more) ≡ whole judged

-- all of the input was judged: nothing was read ahead, and the reader is at its end
abbrev pub IsAllJudged : List ℕ → Option (List ℕ) → Type 0
IsAllJudged ahead rest = (ahead ≡ []) × IsAtEnd rest

-- what was judged before the end of the last line: its line feed, or the input's end
abbrev pub IsFront : List ℕ → List ℕ → List ℕ → Option (List ℕ) → Type 0
IsFront front judged ahead rest = (judged ≡ front ++ 10 ∷ []) ⊎ ((judged ≡ front) × IsAllJudged ahead rest)

-- no line is at fault, and the last, or the script's end after it, has text: more than the lines before it
abbrev pub EndsWithText : {A : Type 0} → (List ℕ → TextResult A) → (List ℕ → TextResult A) → List ℕ → List ℕ → Option (List ℕ) → Type 0
EndsWithText whole before_failure judged ahead rest =
    IsOk (whole judged).result × ((front : List ℕ) × IsFront front judged ahead rest × ((before_failure front).output ≢ (whole judged).output))

-- where a call asks for memory: before its first read, or where no line is at fault, at the first line with which a script that ends has text, or at
-- the input's end
abbrev pub AsksForMemory : {A : Type 0} → (List ℕ → TextResult A) → (List ℕ → TextResult A) → List ℕ → List ℕ → Option (List ℕ) → Type 0
AsksForMemory whole before_failure judged ahead rest =
    (judged ++ ahead ≡ [])
    ⊎ (IsOk (whole judged).result
    × ((front : List ℕ) × IsFront front judged ahead rest × ((before_failure front).output ≡ []) × (HasText (whole judged) ⊎ IsAllJudged ahead rest)))

-- how a call ends that has judged these bytes and read those ahead: `whole` and `before_failure` are the texts of a whole input and of one
-- whose reader failed
abbrev pub EndsAfter : {A : Type 0} → (List ℕ → TextResult A) → (List ℕ → TextResult A) → List ℕ → List ℕ → Option (List ℕ) → Option (List ℕ) → Option (List ℕ) → Result A ScriptFault → Type 0
-- to the end, with the text of all of it
EndsAfter whole before_failure judged ahead rest old new (Ok answer) = IsAllJudged ahead rest × Tells (whole judged) old new (Ok answer)
-- with the text of the lines before the fault, and no later than where the fault stands whatever follows
EndsAfter whole before_failure judged ahead rest old new (Err (Script line word)) =
    (IsAllJudged ahead rest ⊎ IsSettled whole judged) × Tells (whole judged) old new (Err (Script line word))
EndsAfter whole before_failure judged ahead rest old new (Err (Setup fault)) =
    (IsAllJudged ahead rest ⊎ IsSettled whole judged) × Tells (whole judged) old new (Err (Setup fault))
-- with the text of the lines whose line feed was read
EndsAfter whole before_failure judged ahead rest old new (Err Read) = (ahead ≡ []) × Tells (before_failure judged) old new (Err Read)
-- only where there is text that the lines before don't have, and no line is at fault; how much a writer took that failed isn't told
EndsAfter whole before_failure judged ahead rest old new (Err Write) = EndsWithText whole before_failure judged ahead rest
-- with nothing written, and only where memory is asked for
EndsAfter whole before_failure judged ahead rest old new (Err NoMemory) = Keeps old new × AsksForMemory whole before_failure judged ahead rest

-- how a call ends, by what the reader has left before and after it and what the writer holds before and after it, where these are known. What
-- left the reader was judged, at most the lines that a script may have, of 128 bytes with their line ends, and one byte more; but for what was
-- read ahead, at most a block of 65,536 bytes
pub record EndsAs {A : Type 0} (most_lines : ℕ) (whole before_failure : List ℕ → TextResult A) (input rest old new : Option (List ℕ)) (result : Result A ScriptFault) : Type 0 where
  pub judged : List ℕ
  pub ahead : List ℕ
  pub consumed : Consumes input rest (judged ++ ahead)
  pub bound : length judged ≤ 130 * most_lines + 1
  pub block : length ahead ≤ 65536
  pub ends : EndsAfter whole before_failure judged ahead rest old new result

-- ---- a script that may ask for memory in mid-run

-- whether memory may be asked for at a line: at none that is skipped
abbrev pub line_wants : {S A : Type 0} → Reading S A → S → List ℕ → Bool
line_wants reading state line = not (is_skipped (words_of line)) && reading.wants state (words_of line)

-- of a line without fault, by the state after it
abbrev pub where_it_stands : {S : Type 0} → (S → Bool) → LineStep S → Bool
where_it_stands test (Ok went) = test went.1
where_it_stands test (Err fault) = false

-- whether memory may be asked for at the last of these lines, which have no fault, where it may have been at the one before them
abbrev pub last_wants : {S A : Type 0} → Reading S A → Bool → S → ℕ → List (List ℕ) → Bool
last_wants reading before state number [] = before
last_wants reading before state number (line ∷ lines) =
    where_it_stands (λ next. last_wants reading (line_wants reading state line) next (number + 1) lines) (line_step reading state number line)

-- whether it may be at the script's end after them
abbrev pub end_wants : {S A : Type 0} → Reading S A → S → ℕ → List (List ℕ) → Bool
end_wants reading state number [] = reading.wants_at_end state
end_wants reading state number (line ∷ lines) = where_it_stands (λ next. end_wants reading next (number + 1) lines) (line_step reading state number line)

-- the same of a whole input
abbrev pub asks_last : {S A : Type 0} → Reading S A → S → List ℕ → Bool
asks_last reading start input = last_wants reading false start 1 (lines_of input)

abbrev pub asks_at_end : {S A : Type 0} → Reading S A → S → List ℕ → Bool
asks_at_end reading start input = end_wants reading start 1 (lines_of input)

-- whether it may be at a last line without a line feed, if there is one, or at the script's end behind it
abbrev pub rest_wants : {S A : Type 0} → Reading S A → S → ℕ → List ℕ → Bool
rest_wants reading state number line = last_wants reading false state number (lines_of line) || end_wants reading state number (lines_of line)

-- the lines that were carried out: those before the last that was judged, or at the input's end all of them, the last of which then has a line feed
-- here
abbrev pub AreCarriedOut : List ℕ → List ℕ → List ℕ → Option (List ℕ) → Type 0
AreCarriedOut lines judged ahead rest = IsFront lines judged ahead rest ⊎ ((lines ≡ judged ++ 10 ∷ []) × IsAllJudged ahead rest)

-- where memory was refused in mid-run: no line is at fault, and the text of the lines that were carried out was written. It may be asked for at the
-- last line that was judged, or at the script's end. What left the reader is bounded as it is wherever a call ends
pub record StopsForMemory {S A : Type 0} (reading : Reading S A) (start : S) (input rest old new : Option (List ℕ)) : Type 0 where
  pub judged : List ℕ
  pub ahead : List ℕ
  pub lines : List ℕ
  pub consumed : Consumes input rest (judged ++ ahead)
  pub bound : length judged ≤ 130 * reading.most_lines + 1
  pub block : length ahead ≤ 65536
  pub sound : IsOk (text_of reading start judged).result
  pub carried_out : AreCarriedOut lines judged ahead rest
  pub written : Appends old new (text_before_failure reading start lines).output
  pub cause : (asks_last reading start judged ≡ true) ⊎ (IsAllJudged ahead rest × (asks_at_end reading start judged ≡ true))

-- how a call ends that may ask for memory also in mid-run, where the script `grows`
abbrev pub EndsOrStops : {S A : Type 0} → Bool → Reading S A → S → Option (List ℕ) → Option (List ℕ) → Option (List ℕ) → Option (List ℕ) → Result A ScriptFault → Type 0
EndsOrStops grows reading start input rest old new result =
    EndsAs reading.most_lines (text_of reading start) (text_before_failure reading start) input rest old new result
    ⊎ ((grows ≡ true) × (result ≡ Err NoMemory) × StopsForMemory reading start input rest old new)
