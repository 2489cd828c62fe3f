-- What every kind of script has in common: a `config` line, other set-up lines, and then commands (this project's profile).
use Rattle.std.specs.Prelude.{◌≡◌, ◌≢◌, ℕ, Bool, true, false, not, ◌||◌, List, [], ◌++◌, Option, Some, None, Result, Ok, Err, IsOk, if◌then◌else◌}
use Rattle.std.specs.Io.KnownBytes.{Appends, Keeps}
use Rattle.std.specs.Result.{result_err}
use Rattle.setups.specs.declared.SetupFault.{SetupFault}
use Rattle.setups.specs.declared.SetupFault.TheVariants as refused
use Rattle.script_text.specs.Forms.{told_as, form_of}
use Rattle.script_text.specs.Scripts.{LineStep, Reading, TextResult, ended}
use Rattle.script_text.specs.SetupRules.{SetupRules}
use Rattle.line_text.specs.Words.{word_at}
use Rattle.script_text.specs.declared.faults.ScriptFault.{ScriptFault}
use Rattle.script_text.specs.declared.faults.ScriptFault.TheVariants.{Script, Setup as SetupRefused, Write, NoMemory}
use Rattle.script_text.specs.declared.keywords.Form.{Form}
use Rattle.script_text.specs.declared.keywords.Form.TheVariants as form
use Rattle.script_text.specs.declared.stages.Stage.{Stage as StageHeld}
use Rattle.script_text.specs.declared.stages.Stage.TheVariants as held

-- how far a script has come: no line yet; set-up lines, and what the kind's own of these have said; or what its commands work on, once the first
-- came
pub data Stage (Z S W : Type 0) : Type 0 where
  Opening : Stage Z S W
  SettingUp : Z → S → Stage Z S W
  Running : W → Stage Z S W

-- a kind of script: how many lines it may have; which set-up lines it has of those that scripts share, and what they add up to; what its own set-up
-- lines have said before the first of them, and with one line more, or that line's first wrong word, where it is one of them; whether a line is passed
-- over where it stands before the first command; what the words of a command's line say, or the first wrong word, which is word 1 where no command
-- begins so; what its commands work on, or why the set-up is refused; what a command writes, by the number of its line, and what is there after it, or
-- that line's wrong word, where it may not stand there; and what is written at the input's end, with the result. Of one that may ask for
-- memory in mid-run also at which commands it may, and whether it may at the input's end
pub record Kind (Z S W C : Type 0) : Type 0 where
  pub most_lines : ℕ
  pub takes : Form → Bool
  pub set_up : SetupRules Z
  pub own_opening : S
  pub own_line : S → List (List ℕ) → Option (Result S ℕ)
  pub passes : List (List ℕ) → Bool
  pub command_of : List (List ℕ) → Result C ℕ
  pub opened : S → Z → Result W SetupFault
  pub commanded : W → ℕ → C → Result (List ℕ × W) ℕ
  pub ending : W → List ℕ × Bool
  pub wants : W → C → Bool
  pub wants_at_end : W → Bool

-- whether no command was carried out yet
abbrev pub nothing_written : {Z S W : Type 0} → Stage Z S W → Bool
nothing_written Opening = true
nothing_written (SettingUp setup own) = true
nothing_written (Running world) = false

-- ---- a set-up line that scripts share

-- whether a form is one of a set-up line
abbrev pub is_setup_form : Form → Bool
is_setup_form form.Config = true
is_setup_form form.Region = true
is_setup_form form.Page = true
is_setup_form form.BadWord = true
is_setup_form _ = false

abbrev pub is_config_form : Form → Bool
is_config_form form.Config = true
is_config_form _ = false

-- whether a set-up line of this form may not stand here: `config` comes first, and set-up lines before all commands
abbrev pub is_misplaced : {Z S W C : Type 0} → Kind Z S W C → Stage Z S W → Form → List (List ℕ) → Bool
is_misplaced kind Opening form words = not (is_config_form form)
is_misplaced kind (SettingUp setup own) form words = kind.set_up.has_no_room setup form words
is_misplaced kind (Running world) form words = true

-- the set-up with one line more, of a form that isn't `config`
abbrev pub with_setup_line : {Z S W C : Type 0} → Kind Z S W C → Stage Z S W → Form → List (List ℕ) → Result (Stage Z S W) ℕ
with_setup_line kind (SettingUp setup own) form words = told_as (λ next. SettingUp next own) (kind.set_up.with_line setup form words)
with_setup_line kind stage form words = Err 1

-- how far a script has come with a line of a set-up form, or that line's first wrong word; `config` is the first, and before it no line of the kind's
-- own has said anything
abbrev pub set_up_with : {Z S W C : Type 0} → Kind Z S W C → Stage Z S W → List (List ℕ) → Form → Result (Stage Z S W) ℕ
set_up_with kind stage words form.Config = told_as (λ setup. SettingUp setup kind.own_opening) (kind.set_up.of_config words)
set_up_with kind stage words form = with_setup_line kind stage form words

-- a line that adds to what was said before writes nothing
abbrev pub added_step : {X : Type 0} → ℕ → Result X ℕ → LineStep X
added_step number (Ok added) = Ok ([], added)
added_step number (Err word) = Err (Script number word)

-- a line of a set-up form: the kind has to have it, and it has to be able to stand here
abbrev pub setup_step : {Z S W C : Type 0} → Kind Z S W C → Stage Z S W → ℕ → List (List ℕ) → Form → LineStep (Stage Z S W)
setup_step kind stage number words form =
    if not (kind.takes form) || is_misplaced kind stage form words
    then Err (Script number 1)
    else added_step number (set_up_with kind stage words form)

-- ---- a command

-- a refused set-up as a script's fault
abbrev pub set_up_as : {W : Type 0} → Result W SetupFault → Result W ScriptFault
set_up_as (Ok world) = Ok world
set_up_as (Err fault) = Err (SetupRefused fault)

-- what a command finds, which is made for the first; without a `config` line word 1 of this line is at fault
abbrev pub world_at : {Z S W C : Type 0} → Kind Z S W C → Stage Z S W → ℕ → Result W ScriptFault
world_at kind Opening number = Err (Script number 1)
world_at kind (SettingUp setup own) number = set_up_as (kind.opened own setup)
world_at kind (Running world) number = Ok world

-- what a command makes of a script
abbrev pub commanded_step : {Z S W : Type 0} → ℕ → Result (List ℕ × W) ℕ → LineStep (Stage Z S W)
commanded_step number (Ok given) = Ok (given.0, Running given.1)
commanded_step number (Err word) = Err (Script number word)

-- what it writes, and what is there after it, or its line's wrong word
abbrev pub command_step : {Z S W C : Type 0} → Kind Z S W C → Result W ScriptFault → ℕ → C → LineStep (Stage Z S W)
command_step kind (Err fault) number command = Err fault
command_step kind (Ok world) number command = commanded_step number (kind.commanded world number command)

-- a line that says a command, or its first wrong word
abbrev pub told_step : {Z S W C : Type 0} → Kind Z S W C → Stage Z S W → ℕ → Result C ℕ → LineStep (Stage Z S W)
told_step kind stage number (Ok command) = command_step kind (world_at kind stage number) number command
told_step kind stage number (Err word) = Err (Script number word)

-- what the command does that a line says, where there is a world for it, or the line's first wrong word
abbrev pub line_commanded : {Z S W C : Type 0} → Kind Z S W C → W → ℕ → Result C ℕ → Result (List ℕ × W) ℕ
line_commanded kind world number (Ok command) = kind.commanded world number command
line_commanded kind world number (Err word) = Err word

-- the wrong word of a line that would be the first command, by what would be made for it; where the set-up is refused, that of one that says no command
abbrev pub wrong_opened : {Z S W C : Type 0} → Kind Z S W C → Result W SetupFault → ℕ → Result C ℕ → Option ℕ
wrong_opened kind (Ok world) number told = result_err (line_commanded kind world number told)
wrong_opened kind (Err fault) number told = result_err told

-- what the words of a command's line say by the form that the first of them names, if it names one, or the first wrong word
abbrev pub command_by_form : {C : Type 0} → (Form → List (List ℕ) → Result C ℕ) → List (List ℕ) → Option Form → Result C ℕ
command_by_form command_of words None = Err 1
command_by_form command_of words (Some form) = command_of form words

-- ---- a line before the first command

-- a set-up line of the kind's own adds to what these have said, and writes nothing; any other line is the first command
abbrev pub own_step : {Z S W C : Type 0} → Kind Z S W C → Stage Z S W → Z → ℕ → List (List ℕ) → Option (Result S ℕ) → LineStep (Stage Z S W)
own_step kind stage setup number words (Some (Ok own)) = Ok ([], SettingUp setup own)
own_step kind stage setup number words (Some (Err word)) = Err (Script number word)
own_step kind stage setup number words None = told_step kind stage number (kind.command_of words)

-- a line of no set-up form comes behind `config`
abbrev pub other_step : {Z S W C : Type 0} → Kind Z S W C → Stage Z S W → ℕ → List (List ℕ) → LineStep (Stage Z S W)
other_step kind (SettingUp setup own) number words =
    own_step kind (SettingUp setup own) setup number words (kind.own_line own words)
other_step kind stage number words = Err (Script number 1)

-- a line that isn't passed over, by the form that its first word names
abbrev pub form_step : {Z S W C : Type 0} → Kind Z S W C → Stage Z S W → ℕ → List (List ℕ) → Option Form → LineStep (Stage Z S W)
form_step kind stage number words None = other_step kind stage number words
form_step kind stage number words (Some form) =
    if is_setup_form form then setup_step kind stage number words form else other_step kind stage number words

abbrev pub early_step : {Z S W C : Type 0} → Kind Z S W C → Stage Z S W → ℕ → List (List ℕ) → LineStep (Stage Z S W)
early_step kind stage number words =
    if kind.passes words then Ok ([], stage) else form_step kind stage number words (form_of (word_at words 1))

-- ---- a whole script

-- a line, by its words: behind the first command there are commands alone
abbrev pub stage_step : {Z S W C : Type 0} → Kind Z S W C → Stage Z S W → ℕ → List (List ℕ) → LineStep (Stage Z S W)
stage_step kind stage number words =
    if nothing_written stage then early_step kind stage number words else told_step kind stage number (kind.command_of words)

-- at the input's end what commands work on is made where none came
abbrev pub ending_of : {Z S W C : Type 0} → Kind Z S W C → Result W ScriptFault → TextResult Bool
ending_of kind (Ok world) = record { output = (kind.ending world).0; result = Ok (kind.ending world).1 }
ending_of kind (Err fault) = ended (Err fault)

abbrev pub stage_ending : {Z S W C : Type 0} → Kind Z S W C → Stage Z S W → ℕ → TextResult Bool
stage_ending kind stage number = ending_of kind (world_at kind stage number)

-- whether memory may be asked for at a command, by what its line says
abbrev pub told_wants : {Z S W C : Type 0} → Kind Z S W C → W → Result C ℕ → Bool
told_wants kind world (Ok command) = kind.wants world command
told_wants kind world (Err word) = false

-- by what commands work on; at the first by what is made for it
abbrev pub wants_where : {W : Type 0} → (W → Bool) → Result W ScriptFault → Bool
wants_where test (Ok world) = test world
wants_where test (Err fault) = false

abbrev pub stage_wants : {Z S W C : Type 0} → Kind Z S W C → Stage Z S W → Result C ℕ → Bool
stage_wants kind stage told = wants_where (λ world. told_wants kind world told) (world_at kind stage 0)

abbrev pub stage_wants_at_end : {Z S W C : Type 0} → Kind Z S W C → Stage Z S W → Bool
stage_wants_at_end kind stage = wants_where kind.wants_at_end (world_at kind stage 0)

abbrev pub reading_of : {Z S W C : Type 0} → Kind Z S W C → Reading (Stage Z S W) Bool
reading_of kind =
    record {
      most_lines = kind.most_lines;
      step = stage_step kind;
      ending = stage_ending kind;
      wants = λ stage words. stage_wants kind stage (kind.command_of words);
      wants_at_end = stage_wants_at_end kind;
    }

-- what commands work on where a set-up has no fault
abbrev pub unless_refused : {W : Type 0} → W → Option SetupFault → Result W SetupFault
unless_refused world None = Ok world
unless_refused world (Some fault) = Err fault

-- ---- what the calls of a kind answer

-- what commands work on was made, memory was refused though the set-up has no fault, or the set-up is refused
abbrev pub OpensAs : {W : Type 0} → Result W SetupFault → Result W SetupFault → Type 0
OpensAs opened (Ok world) = opened ≡ Ok world
OpensAs opened (Err refused.NoMemory) = IsOk opened
OpensAs opened (Err refused.BadConfig) = opened ≡ Err refused.BadConfig
OpensAs opened (Err (refused.Map fault)) = opened ≡ Err (refused.Map fault)
OpensAs opened (Err (refused.Device fault)) = opened ≡ Err (refused.Device fault)

-- why a text wasn't written: the writer failed, which it does only where there is some; or, of a kind that `grows`, memory was refused before that
abbrev pub FailsAt : Bool → List ℕ → Option (List ℕ) → Option (List ℕ) → ScriptFault → Type 0
FailsAt grows text before after Write = text ≢ []
FailsAt grows text before after NoMemory = (grows ≡ true) × Keeps before after
FailsAt grows text before after _ = ⊥

-- a command's text was written, and `wrote` tells whether there is any; or its line has a wrong word, and that is told
abbrev pub Writes : {W : Type 0} → Bool → ℕ → Result (List ℕ × W) ℕ → W → Option (List ℕ) → Option (List ℕ) → Result Bool ScriptFault → Type 0
Writes grows number (Ok given) new before after (Ok wrote) =
    Appends before after given.0 × (new ≡ given.1) × (wrote ≡ false → given.0 ≡ []) × (wrote ≡ true → given.0 ≢ [])
Writes grows number (Ok given) new before after (Err fault) = FailsAt grows given.0 before after fault
Writes grows number (Err word) new before after (Ok wrote) = ⊥
Writes grows number (Err word) new before after (Err fault) = (fault ≡ Script number word) × Keeps before after

-- a script's last text was written with its result
abbrev pub WritesEnd : Bool → List ℕ × Bool → Option (List ℕ) → Option (List ℕ) → Result Bool ScriptFault → Type 0
WritesEnd grows given before after (Ok answer) = Appends before after given.0 × (given.1 ≡ answer)
WritesEnd grows given before after (Err fault) = FailsAt grows given.0 before after fault

-- a command that may stand has text, or a script that ends after it
abbrev pub GivesSome : {Z S W C : Type 0} → Kind Z S W C → Type 0
GivesSome {Z} {S} {W} {C} kind =
    (world : W) (number : ℕ) (command : C) (given : List ℕ × W) → kind.commanded world number command ≡ Ok given
    → given.0 ++ (kind.ending given.1).0 ≢ []

-- ---- what the state of a script is in a clause

abbrev pub stage_of : {Z S W : Type 0} → StageHeld Z S W → Stage Z S W
stage_of held.Opening = Opening
stage_of (held.SettingUp setup own) = SettingUp setup own
stage_of (held.Running world) = Running world

-- a stage, with the set-up and what commands work on said otherwise
abbrev pub stage_as : {H Z S V W : Type 0} → (H → Z) → (V → W) → Stage H S V → Stage Z S W
stage_as lists said Opening = Opening
stage_as lists said (SettingUp setup own) = SettingUp (lists setup) own
stage_as lists said (Running world) = Running (said world)

-- a line was taken, or its first wrong word is told
abbrev pub TakesLine : {X : Type 0} → Result X ℕ → X → Result (Unit {0}) ℕ → Type 0
TakesLine told new (Ok done) = told ≡ Ok new
TakesLine told new (Err word) = told ≡ Err word

-- rules that speak of a set-up by its lists say what others say by other lists: what a `config` line gives, where there is no room for a line, and
-- what a line adds
pub record SaysAlike {H Y Z : Type 0} (others : H → Y) (other_rules : SetupRules Y) (lists : H → Z) (rules : SetupRules Z) : Type 0 where
  pub of_config : (words : List (List ℕ)) (told : Result H ℕ) → told_as others told ≡ other_rules.of_config words → told_as lists told ≡ rules.of_config words
  pub has_no_room : (setup : H) (form : Form) (words : List (List ℕ)) → other_rules.has_no_room (others setup) form words ≡ rules.has_no_room (lists setup) form words
  pub with_line : (old new : H) (form : Form) (words : List (List ℕ)) (told : Result (Unit {0}) ℕ) → TakesLine (other_rules.with_line (others old) form words) (others new) told
      → TakesLine (rules.with_line (lists old) form words) (lists new) told

-- what a script's commands work on was given, as `said` says it, or why it wasn't made
abbrev pub GivesWorld : {V W : Type 0} → (V → W) → Result W ScriptFault → Result V ScriptFault → Type 0
GivesWorld said opened (Ok world) = opened ≡ Ok (said world)
GivesWorld said opened (Err (Script line word)) = opened ≡ Err (Script line word)
GivesWorld said opened (Err (SetupRefused fault)) = opened ≡ Err (SetupRefused fault)
GivesWorld said opened (Err NoMemory) = IsOk opened
GivesWorld said opened _ = ⊥
