-- What a command makes of a script, and what a refused opening does.
use Rattle.std.specs.Prelude.{◌&&◌}
use Rattle.std.specs.Result.{result_err}
use Rattle.std.proofs.Common.{◌≡◌, ◌≢◌, ◌++◌, ◌⊎◌, inl, inr, ℕ, List, [], Bool, true, false, Option, Some, None, IfSome, IfOk, IfErr, Result, Ok, Err, IsOk, refl, subst, sym, ap, ◌∙◌, rules}
use Rattle.std.proofs.KnownBytes.{Appends-nil, Keeps-refl}
use Rattle.burst_plan.specs.PageMap.{region_fault}
use Rattle.config.specs.Configs.{is_valid}
use Rattle.script_text.specs.Forms.{told_as}
use Rattle.script_text.specs.Scripts.{LineStep}
use Rattle.script_text.specs.SetupRules.{SetupRules}
use Rattle.script_text.specs.Stages.{GivesSome, GivesWorld, Kind, OpensAs, Opening, Running, SaysAlike, SettingUp, Stage, Writes, command_step, commanded_step, is_misplaced, line_commanded, nothing_written, reading_of, set_up_as, set_up_with, setup_step, stage_as, stage_of, stage_wants, told_step, told_wants, unless_refused, wants_where, world_at, wrong_opened}
use Rattle.script_text.specs.Steps.{GivesText, Stands, TakesStep}
use Rattle.script_text.specs.declared.faults.ScriptFault.{ScriptFault}
use Rattle.script_text.specs.declared.faults.ScriptFault.TheVariants.{Script, Setup, Read, Write, NoMemory}
use Rattle.script_text.specs.declared.keywords.Form.{Form}
use Rattle.script_text.specs.declared.stages.Stage.{Stage as StageHeld}
use Rattle.script_text.specs.declared.stages.Stage.TheVariants as held
use Rattle.setups.proofs.SetupFaults.{memory_never}
use Rattle.setups.specs.Setups.{SetupLists, setup_fault}
use Rattle.setups.specs.declared.SetupFault.{SetupFault}
use Rattle.setups.specs.declared.SetupFault.TheVariants as refused
use Rattle.subordinate.specs.Faults.{device_fault}

-- ---- making what commands work on

-- a set-up with a fault is refused by it
refused_as : (W : Type 0) (fault : SetupFault) → fault ≢ refused.NoMemory → OpensAs {W = W} (Err fault) (Err fault)
refused_as W refused.NoMemory never = absurd (never refl)
refused_as W fault never = refl

made_as : {V W : Type 0} (said : V → W) (opening : W) (result : Result V SetupFault) → IfOk result (λ world. said world ≡ opening) → IfErr result (λ fault. (None ≡ Some fault) ⊎ (fault ≡ refused.NoMemory)) → OpensAs (Ok opening) (told_as said result)
made_as said opening (Ok world) is wants = ap (λ w. Ok w) (sym is)
made_as said opening (Err fault) is (inl wrong) = search rules
made_as said opening (Err fault) is (inr want) = rw want refl

-- a call that refuses a set-up with a fault by it, which isn't want of memory, and makes what commands work on of each other where memory isn't refused
pub opens_unless : {V W : Type 0} (said : V → W) (opening : W) (fault : Option SetupFault) (result : Result V SetupFault) → fault ≢ Some refused.NoMemory → IfSome fault (λ fault. result ≡ Err fault)
    → IfErr result (λ other. (fault ≡ Some other) ⊎ (other ≡ refused.NoMemory)) → IfOk result (λ world. said world ≡ opening) → OpensAs (unless_refused opening fault) (told_as said result)
opens_unless said opening None result never refuses wants opens = made_as said opening result opens wants
opens_unless said opening (Some fault) result never refuses wants opens = rw refuses (refused_as _ fault (λ want. never (ap (λ f. Some f) want)))

-- a call that opens a set-up of this project's bridge
pub opens_as : {V W : Type 0} (said : V → W) (opening : W) (setup : SetupLists) (result : Result V SetupFault) → IfSome (setup_fault setup) (λ fault. result ≡ Err fault)
    → IfErr result (λ fault. (setup_fault setup ≡ Some fault) ⊎ (fault ≡ refused.NoMemory)) → IfOk result (λ world. said world ≡ opening) → OpensAs (unless_refused opening (setup_fault setup)) (told_as said result)
opens_as said opening setup result = opens_unless said opening (setup_fault setup) result (memory_never (is_valid setup.config) (region_fault setup.regions) (device_fault setup.pages setup.bad_words))

-- the same lists by the same rules
pub says_itself : {H Z : Type 0} (lists : H → Z) (rules : SetupRules Z) → SaysAlike lists rules lists rules
says_itself lists rules =
    record { of_config = λ words told is. is; has_no_room = λ setup f words. refl; with_line = λ old new f words told takes. takes }

-- ---- commands

-- what a line writes, where it may stand
abbrev stands_so : {Z S W C : Type 0} (kind : Kind Z S W C) (step : LineStep (Stage Z S W)) (given : List ℕ × W) → step ≡ Ok (given.0, Running given.1) → Stands (reading_of kind) step
stands_so kind step given is = record { text = given.0; next = Running given.1; step_is = is; may_end = λ n. refl }

-- a command of what was made, by what it gives
given_by : {Z S W C : Type 0} (kind : Kind Z S W C) (world : W) (number : ℕ) (command : C) → GivesSome kind → (r : Result (List ℕ × W) ℕ) → kind.commanded world number command ≡ r → result_err r ≡ None
    → GivesText (reading_of kind) (command_step kind (Ok world) number command)
given_by kind world number command some (Ok given) is right =
    (stands_so kind (command_step kind (Ok world) number command) given (ap (commanded_step number) is), λ n. some world number command given is)
given_by kind world number command some (Err word) is right = search rules

-- a line that says none is wrong whatever would be made for it
pub wrong_told : {Z S W C : Type 0} (kind : Kind Z S W C) (opened : Result W SetupFault) (number word : ℕ) → wrong_opened kind opened number (Err word) ≡ Some word
wrong_told kind (Ok world) number word = refl
wrong_told kind (Err fault) number word = refl

-- the first that may stand gives text
gives_first : {Z S W C : Type 0} (kind : Kind Z S W C) (opened : Result W SetupFault) (number : ℕ) (command : C) → GivesSome kind → wrong_opened kind opened number (Ok command) ≡ None → IsOk (set_up_as opened)
    → GivesText (reading_of kind) (command_step kind (set_up_as opened) number command)
gives_first kind (Ok world) number command some right ok = given_by kind world number command some (kind.commanded world number command) refl right
gives_first kind (Err fault) number command some right ok = search rules

-- the first that may not stand is at fault
abbrev option_or_word : ℕ → Option ℕ → ℕ
option_or_word other None = other
option_or_word other (Some word) = word

wrong_by : {Z S W : Type 0} (number word : ℕ) (r : Result (List ℕ × W) ℕ) → result_err r ≡ Some word → commanded_step {Z = Z} {S = S} {W = W} number r ≡ Err (Script number word)
wrong_by number word (Ok given) is = search rules
wrong_by number word (Err other) is = ap (λ (o : Option ℕ). Err (Script number (option_or_word other o))) is

wrong_as_opened : {Z S W C : Type 0} (kind : Kind Z S W C) (opened : Result W SetupFault) (number word : ℕ) (command : C) → wrong_opened kind opened number (Ok command) ≡ Some word
    → command_step kind (set_up_as opened) number command ≡ Err (Script number word)
wrong_as_opened kind (Ok world) number word command is = wrong_by number word (kind.commanded world number command) is
wrong_as_opened kind (Err fault) number word command is = search rules

pub wrong_step : {Z S W C : Type 0} (kind : Kind Z S W C) (setup : Z) (own : S) (number word : ℕ) (told : Result C ℕ) → wrong_opened kind (kind.opened own setup) number told ≡ Some word
    → told_step kind (SettingUp setup own) number told ≡ Err (Script number word)
wrong_step kind setup own number word (Ok command) is = wrong_as_opened kind (kind.opened own setup) number word command is
wrong_step kind setup own number word (Err other) is =
    ap (λ (o : Option ℕ). Err (Script number (option_or_word other o))) (sym (wrong_told kind (kind.opened own setup) number other) ∙ is)

-- what the first works on wasn't made
pub TakesStep-unopened : {V Z S W C : Type 0} (kind : Kind Z S W C) (said : V → W) (grows : Bool) (setup : Z) (own : S) (next : Stage Z S W) (number : ℕ) (told : Result C ℕ) (writer : Option (List ℕ)) (fault : ScriptFault) → GivesSome kind
    → wrong_opened kind (kind.opened own setup) number told ≡ None → GivesWorld said (set_up_as (kind.opened own setup)) (Err fault)
    → TakesStep (reading_of kind) grows (told_step kind (SettingUp setup own) number told) nothing_written (SettingUp setup own) next writer writer (Err fault)
TakesStep-unopened kind said grows setup own next number (Err word) writer fault some right refused = absurd (search (rules, wrong_told kind (kind.opened own setup) number word, right))
TakesStep-unopened kind said grows setup own next number (Ok command) writer (Script line word) some right refused = (ap (λ found. command_step kind found number command) refused, Keeps-refl writer)
TakesStep-unopened kind said grows setup own next number (Ok command) writer (Setup fault) some right refused = (ap (λ found. command_step kind found number command) refused, Keeps-refl writer)
TakesStep-unopened kind said grows setup own next number (Ok command) writer Read some right refused = refused
TakesStep-unopened kind said grows setup own next number (Ok command) writer Write some right refused = absurd refused
TakesStep-unopened kind said grows setup own next number (Ok command) writer NoMemory some right ok =
    (inl (refl, gives_first kind (kind.opened own setup) number command some right ok), Keeps-refl writer)

-- a line's text was written, or it wasn't carried out, by what it gives
carried_by : {Z S W C : Type 0} (kind : Kind Z S W C) (grows : Bool) (stage : Stage Z S W) (step : LineStep (Stage Z S W)) (number : ℕ) (next : W) (before after : Option (List ℕ)) (r : Result (List ℕ × W) ℕ) (result : Result Bool ScriptFault)
    → step ≡ commanded_step number r → Writes grows number r next before after result → TakesStep (reading_of kind) grows step nothing_written stage (Running next) before after result
carried_by kind grows stage step number next before after (Ok given) (Ok wrote) is (written, made, quiet, speaks) =
    record {
      text = given.0;
      step_is = is ∙ ap (λ w. Ok (given.0, Running w)) (sym made);
      written = written;
      quiet = quiet;
      speaks = λ some. (speaks some, λ n. refl);
      silent = λ still. search rules;
    }
carried_by kind grows stage step number next before after (Ok given) (Err Write) is some = (stands_so kind step given is, some)
carried_by kind grows stage step number next before after (Ok given) (Err NoMemory) is (may, kept) = (inr (may, stands_so kind step given is), kept)
carried_by kind grows stage step number next before after (Ok given) (Err fault) is fails = absurd fails
carried_by kind grows stage step number next before after (Err word) (Ok wrote) is fails = absurd fails
carried_by kind grows stage step number next before after (Err word) (Err fault) is (wrong, kept) =
    rw wrong (is, kept)

-- what commands work on is what it is whatever the line's number
found_at : {Z S W C : Type 0} (kind : Kind Z S W C) (stage : Stage Z S W) (number : ℕ) (world : W) → world_at kind stage number ≡ Ok world → world_at kind stage 0 ≡ Ok world
found_at kind Opening number world found = search rules
found_at kind (SettingUp setup own) number world found = found
found_at kind (Running other) number world found = found

-- what a line does, by what it says
told_is : {Z S W C : Type 0} (kind : Kind Z S W C) (stage : Stage Z S W) (world : W) (number : ℕ) (told : Result C ℕ) → world_at kind stage number ≡ Ok world → told_step kind stage number told ≡ commanded_step number (line_commanded kind world number told)
told_is kind stage world number (Ok command) found = ap (λ w. command_step kind w number command) found
told_is kind stage world number (Err word) found = refl

pub TakesStep-carried : {Z S W C : Type 0} (kind : Kind Z S W C) (grows : Bool) (stage : Stage Z S W) (number : ℕ) (world next : W) (told : Result C ℕ) (before after : Option (List ℕ)) (result : Result Bool ScriptFault) → world_at kind stage number ≡ Ok world
    → Writes (grows && told_wants kind world told) number (line_commanded kind world number told) next before after result
    → TakesStep (reading_of kind) (grows && stage_wants kind stage told) (told_step kind stage number told) nothing_written stage (Running next) before after result
TakesStep-carried kind grows stage number world next told before after result found wrote =
    subst (λ (asks : Bool). TakesStep (reading_of kind) (grows && asks) (told_step kind stage number told) nothing_written stage (Running next) before after result)
    (sym (ap (wants_where (λ w. told_wants kind w told)) (found_at kind stage number world found)))
    (carried_by kind (grows && told_wants kind world told) stage (told_step kind stage number told) number next before after (line_commanded kind world number told) result
    (told_is kind stage world number told found) wrote)

-- no command was carried out where there is nothing that commands work on
pub early_where : {H Z S V W : Type 0} (lists : H → Z) (said : V → W) (stage : StageHeld H S V) → ((world : V) → stage ≡ held.Running world → ⊥) → nothing_written (stage_as lists said (stage_of stage)) ≡ true
early_where lists said held.Opening never = refl
early_where lists said (held.SettingUp setup own) never = refl
early_where lists said (held.Running world) never = absurd (never world refl)

-- ---- kinds whose commands may stand anywhere

-- none is wrong as the first one, but where its line is
pub never_wrong : {Z S W C : Type 0} (kind : Kind Z S W C) (opened : Result W SetupFault) (number : ℕ) (told : Result C ℕ) → ((world : W) (command : C) → result_err (kind.commanded world number command) ≡ None)
    → result_err told ≡ wrong_opened kind opened number told
never_wrong kind (Ok world) number (Ok command) right = sym (right world command)
never_wrong kind (Ok world) number (Err word) right = refl
never_wrong kind (Err fault) number told right = refl

abbrev given_or : {X : Type 0} → X → Result X ℕ → X
given_or other (Ok given) = given
given_or other (Err word) = other

abbrev as_given : {X : Type 0} → X → Result X ℕ
as_given given = Ok given

-- what such a command gives has text
pub some_given : {W : Type 0} (ending : W → List ℕ) (made given : List ℕ × W) → as_given made ≡ Ok given → made.0 ++ ending made.1 ≢ [] → given.0 ++ ending given.1 ≢ []
some_given {W} ending made given is = subst (λ (g : List ℕ × W). g.0 ++ ending g.1 ≢ []) (ap (given_or made) is)

-- ---- lines without text

-- a set-up line may stand before the first command alone
pub silent_before : {Z S W C : Type 0} (kind : Kind Z S W C) (stage : Stage Z S W) (f : Form) (words : List (List ℕ)) → is_misplaced kind stage f words ≡ false → nothing_written stage ≡ true
silent_before kind Opening f words fits = refl
silent_before kind (SettingUp setup own) f words fits = refl
silent_before kind (Running world) f words fits = search rules

-- a set-up line adds to the set-up
pub setup_step-added : {Z S W C : Type 0} (kind : Kind Z S W C) (stage next : Stage Z S W) (number : ℕ) (words : List (List ℕ)) (f : Form) → kind.takes f ≡ true → is_misplaced kind stage f words ≡ false → set_up_with kind stage words f ≡ Ok next
    → setup_step kind stage number words f ≡ Ok ([], next)
setup_step-added kind stage next number words f takes fits says = rw (takes, fits, says) refl

-- before the first command there are lines without text
pub TakesStep-quiet : {Z S W C : Type 0} (kind : Kind Z S W C) (grows : Bool) (stage next : Stage Z S W) (step : LineStep (Stage Z S W)) (writer : Option (List ℕ)) → step ≡ Ok ([], next) → nothing_written stage ≡ true
    → TakesStep (reading_of kind) grows step nothing_written stage next writer writer (Ok false)
TakesStep-quiet kind grows stage next step writer is before =
    record {
      text = [];
      step_is = is;
      written = Appends-nil writer;
      quiet = λ none. refl;
      speaks = λ wrong. search rules;
      silent = λ still. (before, refl);
    }
