-- What a line and a call of an observation do, by what the score does.
use Rattle.std.proofs.Common.{◌≡◌, ◌≤◌, ◌<◌, ◌+◌, inl, inr, ℕ, List, [], Bool, true, false, Option, None, Some, Result, Ok, Err, IsOk, refl, sym, subst, ap, ap₂, ◌∙◌, arith, nat_lt, rules}
use Rattle.std.proofs.lemmas.Bool.Decides.{nat_tests}
use Rattle.std.specs.Str.Lines.{strip_carriage_return}
use Rattle.line_text.specs.Words.{is_plain_line, is_skipped, words_of}
use Rattle.score_script.specs.ObservedLines.{command_of}
use Rattle.score_script.specs.Observations.{LineTold, Observing, SetUpState, observing_text, SetUpTold, TakeTold, line_done, next_number, stage_in}
use Rattle.score_script.specs.Scores.{FailsBy, Score, score_kind, score_reading, wrong_command}
use Rattle.score_script.specs.declared.profiles.Asked.{Asked}
use Rattle.score_script.specs.declared.score.Command.{Command}
use Rattle.score_setup.specs.ScoreSetups.{RangeLists}
use Rattle.script_text.specs.Scripts.{LineStep, line_step}
use Rattle.script_text.specs.Stages.{Running, Stage, command_step, nothing_written}
use Rattle.script_text.specs.Steps.{Goes, TakesStep}
use Rattle.script_text.specs.declared.faults.ScriptFault.{ScriptFault}
use Rattle.script_text.specs.declared.faults.ScriptFault.TheVariants.{Script, Setup, Read, Write, NoMemory}

-- ---- numbers

pub next_within : (number : ℕ) → nat_lt 4294967294 (next_number number) ≡ false
next_within number = let most : next_number number ≤ 4294967294 = omega arith in grind (arith, nat_tests, most)

pub next_is : (number : ℕ) → number < 4294967294 → next_number number ≡ number + 1
next_is number within = omega (arith, within)

-- ---- a line

pub skipped_line : (score : Score) (number : ℕ) (line : List ℕ) → is_plain_line line ≡ true → nat_lt 4294967294 number ≡ false → is_skipped (words_of line) ≡ true
    → line_step score_reading (Running score) number line ≡ Ok ([], Running score)
skipped_line score number line plain within skipped = rw (plain, within, skipped) refl

pub wrong_line : (score : Score) (number word : ℕ) (line : List ℕ) → is_plain_line line ≡ true → nat_lt 4294967294 number ≡ false → is_skipped (words_of line) ≡ false → command_of (words_of line) ≡ Err word
    → line_step score_reading (Running score) number line ≡ Err (Script number word)
wrong_line score number word line plain within some wrong = rw (plain, within, some, wrong) refl

pub command_line : (score : Score) (number : ℕ) (line : List ℕ) (said : Command) → is_plain_line line ≡ true → nat_lt 4294967294 number ≡ false → is_skipped (words_of line) ≡ false
    → command_of (words_of line) ≡ Ok said → line_step score_reading (Running score) number line ≡ command_step score_kind (Ok score) number said
command_line score number line said plain within some read = rw (plain, within, some, read) refl

-- nothing is found of a line that is skipped
quiet_text : (seen : Observing) → seen.found.held ≡ None → seen.found.own ≡ None → seen.found.over ≡ false → observing_text seen ≡ []
quiet_text seen held own over = rw (held, own, over) refl

pub skipped_told : (old new : Observing) (line : List ℕ) → is_plain_line (strip_carriage_return line) ≡ true → is_skipped (words_of (strip_carriage_return line)) ≡ true → new.score ≡ old.score
    → new.found.held ≡ None → new.found.own ≡ None → new.found.over ≡ false → line_done old line ≡ Ok (observing_text new, Running new.score)
skipped_told old new line plain skipped score held own over =
    skipped_line old.score (next_number old.number) (strip_carriage_return line) plain (next_within old.number) skipped
    ∙ ap₂ (λ (text : List ℕ) (s : Score). Ok (text, Running s)) (sym (quiet_text new held own over)) (sym score)

-- where nothing is wrong with a command, its line has no fault
command_goes : (score : Score) (number : ℕ) (said : Command) → wrong_command score said ≡ None → IsOk (command_step score_kind (Ok score) number said)
command_goes score number said none = rw none refl

-- by what the score does
told_by : (old new : Observing) (line : List ℕ) (said : Command) (wrong : Option ℕ) (told : Result ℕ ScriptFault) → line_done old line ≡ command_step score_kind (Ok old.score) (next_number old.number) said
    → wrong_command old.score said ≡ wrong → TakeTold old (next_number old.number) said new told → LineTold old line new told
told_by old new line said None (Ok code) done none (may, after, is) =
    (done ∙ rw none (ap (λ (seen : Observing). Ok (observing_text seen, Running seen.score)) (sym after)), ap (λ (seen : Observing). seen.number) after, is)
told_by old new line said (Some word) (Ok code) done some (may, after, is) = absurd (search (rules, some, may))
told_by old new line said None (Err fault) done none (why, stops) =
    let memory : fault ≡ NoMemory = subst (λ (w : Option ℕ). FailsBy (next_number old.number) w fault) none why in
    subst (λ (f : ScriptFault). LineTold old line new (Err f)) (sym memory)
    (subst (λ (step : LineStep (Stage RangeLists Asked Score)). IsOk step) (sym done) (command_goes old.score (next_number old.number) said none), stops)
told_by old new line said (Some wrong) (Err fault) done some (why, stops) =
    let at : fault ≡ Script (next_number old.number) wrong = subst (λ (w : Option ℕ). FailsBy (next_number old.number) w fault) some why in
    subst (λ (f : ScriptFault). LineTold old line new (Err f)) (sym at) (done ∙ rw some refl, stops)

pub line_told : (old new : Observing) (line : List ℕ) (said : Command) (told : Result ℕ ScriptFault) → line_done old line ≡ command_step score_kind (Ok old.score) (next_number old.number) said
    → TakeTold old (next_number old.number) said new told → LineTold old line new told
line_told old new line said told done taken = told_by old new line said (wrong_command old.score said) told done refl taken

-- ---- a line of the set-up

-- by its number, and how far the set-up had come
pub setup_fault_told : (grows : Bool) (old new : SetUpState) (line : List ℕ) (number : ℕ) (stage after : Stage RangeLists Asked Score) (fault : ScriptFault) (before behind : Option (List ℕ)) → stage ≡ stage_in old → number ≡ old.number + 1
    → TakesStep score_reading grows (line_step score_reading stage number (strip_carriage_return line)) nothing_written stage after before behind (Err fault) → SetUpTold old line new (Err fault)
setup_fault_told grows old new line number stage after (Script at word) before behind there is step = inl (ap₂ (λ (s : Stage RangeLists Asked Score) (n : ℕ). line_step score_reading s n (strip_carriage_return line)) (sym there) (sym is) ∙ step.0)
setup_fault_told grows old new line number stage after (Setup fault) before behind there is step = ap₂ (λ (s : Stage RangeLists Asked Score) (n : ℕ). line_step score_reading s n (strip_carriage_return line)) (sym there) (sym is) ∙ step.0
setup_fault_told grows old new line number stage after Read before behind there is step = step
setup_fault_told grows old new line number stage after Write before behind there is step = rw (sym there, sym is) step
setup_fault_told grows old new line number stage after NoMemory before behind there is (inl (silent, gives), kept) =
    let done = ap₂ (λ (s : Stage RangeLists Asked Score) (n : ℕ). line_step score_reading s n (strip_carriage_return line)) (sym there) (sym is) ∙ gives.0.step_is in rw done refl
setup_fault_told grows old new line number stage after NoMemory before behind there is (inr (may, stands), kept) =
    let done = ap₂ (λ (s : Stage RangeLists Asked Score) (n : ℕ). line_step score_reading s n (strip_carriage_return line)) (sym there) (sym is) ∙ stands.step_is in rw done refl

-- where the line's step ended so
pub setup_err_told : (grows : Bool) (old new : SetUpState) (line : List ℕ) (number : ℕ) (stage after : Stage RangeLists Asked Score) (told : Result Bool ScriptFault) (fault : ScriptFault) (before behind : Option (List ℕ)) → stage ≡ stage_in old
    → number ≡ old.number + 1 → told ≡ Err fault
    → TakesStep score_reading grows (line_step score_reading stage number (strip_carriage_return line)) nothing_written stage after before behind told → SetUpTold old line new (Err fault)
setup_err_told grows old new line number stage after told fault before behind there is ended step =
    setup_fault_told grows old new line number stage after fault before behind there is
    (subst (λ (t : Result Bool ScriptFault). TakesStep score_reading grows (line_step score_reading stage number (strip_carriage_return line)) nothing_written stage after before behind t) ended step)

-- one that has text is refused so
pub setup_text_told : (old other : SetUpState) (line : List ℕ) (number : ℕ) (stage after : Stage RangeLists Asked Score) (before behind : Option (List ℕ)) (wrote : Bool) → stage ≡ stage_in old → number ≡ next_number old.number
    → old.number < 4294967294 → wrote ≡ true → Goes score_reading (line_step score_reading stage number (strip_carriage_return line)) nothing_written stage after before behind wrote → SetUpTold old line other (Err (Script number 1))
setup_text_told old other line number stage after before behind wrote there is within text goes =
    let speaks = goes.speaks text in
    let done = ap₂ (λ (s : Stage RangeLists Asked Score) (n : ℕ). line_step score_reading s n (strip_carriage_return line)) (sym there) (sym (is ∙ next_is old.number within)) ∙ goes.step_is in
    inr (inl (record { text = goes.text; next = after; step_is = done; may_end = speaks.1 }, speaks.0), is, refl)
