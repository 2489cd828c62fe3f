-- A script that asks writes nothing while it is read, and one that ends has a set-up that isn't refused.
use Rattle.std.proofs.Common.{◌≡◌, ◌∙◌, ℕ, ◌+◌, Bool, true, false, List, [], ◌∷◌, Option, Some, None, Result, Ok, Err, refl, sym, ap, rules, if◌then◌else◌}
use Rattle.std.specs.Prelude.{⊤, ◌||◌, nat_lt, not}
use Rattle.setups.specs.Setups.{SetupLists, setup_fault}
use Rattle.setups.specs.declared.SetupFault.{SetupFault}
use Rattle.script_text.specs.Scripts.{LineStep, TextResult, after_step, line_step, lines_result}
use Rattle.line_text.specs.Words.{is_plain_line, is_skipped, words_of}
use Rattle.script_text.specs.declared.faults.ScriptFault.{ScriptFault}
use Rattle.script_text.specs.declared.faults.ScriptFault.TheVariants.{Script}
use Rattle.script_text.specs.Stages.{added_step}
use Rattle.threads_script.specs.Asked.{AskedLists, IsSoundAsked, asked_at_end, asked_by, asked_unless, threads_reading}

-- ---- nothing is written

abbrev IsSilent : LineStep AskedLists → Type 0
IsSilent (Ok went) = went.0 ≡ []
IsSilent (Err fault) = ⊤

silent_if : (test : Bool) (yes no : LineStep AskedLists) → IsSilent yes → IsSilent no → IsSilent (if test then yes else no)
silent_if true first second is other = is
silent_if false first second is other = other

silent_words : (number : ℕ) (asked : Result AskedLists ℕ) → IsSilent (added_step number asked)
silent_words number (Ok asked) = refl
silent_words number (Err word) = tt

silent_line : (asked : AskedLists) (number : ℕ) (line : List ℕ) → IsSilent (line_step threads_reading asked number line)
silent_line asked number line =
    let words = words_of line in
    let read = added_step number (asked_by asked words) in
    silent_if (not (is_plain_line line) || nat_lt 65536 number) (Err (Script number 0)) (if is_skipped words then Ok ([], asked) else read) tt
    (silent_if (is_skipped words) (Ok ([], asked)) read refl (silent_words number (asked_by asked words)))

silent_after : {A : Type 0} (rest : AskedLists → TextResult A) (step : LineStep AskedLists) → ((asked : AskedLists) → (rest asked).output ≡ []) → IsSilent step → (after_step rest step).output ≡ []
silent_after rest (Ok went) none silent = rw silent (none went.1)
silent_after rest (Err fault) none silent = refl

pub silent_lines : (ending : AskedLists → ℕ → TextResult AskedLists) (asked : AskedLists) (number : ℕ) (lines : List (List ℕ)) → ((at : AskedLists) (n : ℕ) → (ending at n).output ≡ [])
    → (lines_result threads_reading ending asked number lines).output ≡ []
silent_lines ending asked number [] none = none asked number
silent_lines ending asked number (line ∷ lines) none =
    silent_after (λ next. lines_result threads_reading ending next (number + 1) lines) (line_step threads_reading asked number line)
    (λ next. silent_lines ending next (number + 1) lines none) (silent_line asked number line)

-- the end writes nothing either
silent_unless : (asked : AskedLists) (fault : Option SetupFault) → (asked_unless asked fault).output ≡ []
silent_unless asked None = refl
silent_unless asked (Some fault) = refl

silent_end : (asked : AskedLists) (number : ℕ) (setup : Option SetupLists) → (asked_at_end asked number setup).output ≡ []
silent_end asked number None = refl
silent_end asked number (Some setup) = silent_unless asked (setup_fault setup)

pub nothing_written : (asked : AskedLists) (number : ℕ) (lines : List (List ℕ)) → (lines_result threads_reading threads_reading.ending asked number lines).output ≡ []
nothing_written asked number lines = silent_lines threads_reading.ending asked number lines (λ at n. silent_end at n at.setup)

-- ---- what is asked has a set-up

abbrev answer_or : AskedLists → Result AskedLists ScriptFault → AskedLists
answer_or other (Ok asked) = asked
answer_or other (Err fault) = other

told_as : (asked told : AskedLists) (result : Result AskedLists ScriptFault) → result ≡ Ok asked → result ≡ Ok told → asked ≡ told
told_as asked told result is same = sym (ap (answer_or asked) is) ∙ ap (answer_or asked) same

sound_unless : (asked told : AskedLists) (setup : SetupLists) (fault : Option SetupFault) → asked.setup ≡ Some setup → setup_fault setup ≡ fault → (asked_unless asked fault).result ≡ Ok told → IsSoundAsked told
sound_unless asked told setup None set_up is same = record { setup = setup; set_up = sym (ap (λ a. a.setup) (told_as asked told (Ok asked) refl same)) ∙ set_up; sound = is }
sound_unless asked told setup (Some fault) set_up is same = search rules

sound_end : (asked told : AskedLists) (number : ℕ) (setup : Option SetupLists) → asked.setup ≡ setup → (asked_at_end asked number setup).result ≡ Ok told → IsSoundAsked told
sound_end asked told number None is same = search rules
sound_end asked told number (Some setup) is same = sound_unless asked told setup (setup_fault setup) is refl same

sound_after : (told : AskedLists) (rest : AskedLists → TextResult AskedLists) (step : LineStep AskedLists) → ((next : AskedLists) → (rest next).result ≡ Ok told → IsSoundAsked told)
    → (after_step rest step).result ≡ Ok told → IsSoundAsked told
sound_after told rest (Ok went) ends same = ends went.1 same
sound_after told rest (Err fault) ends same = search rules

pub sound_asked : (asked told : AskedLists) (number : ℕ) (lines : List (List ℕ)) → (lines_result threads_reading threads_reading.ending asked number lines).result ≡ Ok told → IsSoundAsked told
sound_asked asked told number [] same = sound_end asked told number asked.setup refl same
sound_asked asked told number (line ∷ lines) same =
    sound_after told (λ next. lines_result threads_reading threads_reading.ending next (number + 1) lines) (line_step threads_reading asked number line)
    (λ next is. sound_asked next told (number + 1) lines is) same
