-- What a line of a set-up does: none writes text, and none asks for memory.
use Rattle.std.proofs.Common.{◌≡◌, ◌+◌, ◌++◌, inl, inr, ℕ, List, [], Bool, true, false, Option, None, Some, Result, Ok, Err, refl, sym, subst, ap, ap₂, ◌∙◌, nat_lt}
use Rattle.std.specs.Prelude.{not, ◌||◌, if◌then◌else◌, ⊤}
use Rattle.std.specs.Str.Lines.{strip_carriage_return}
use Rattle.line_text.specs.Words.{is_plain_line, is_skipped, word_at, words_of}
use Rattle.setups.specs.Setups.{SetupLists, setup_fault}
use Rattle.setups.specs.declared.SetupFault.{SetupFault}
use Rattle.script_text.specs.Forms.{form_of, told_as}
use Rattle.script_text.specs.Scripts.{LineStep, line_step}
use Rattle.script_text.specs.Stages.{GivesWorld, Opening, Running, SettingUp, Stage, added_step, ending_of, form_step, is_misplaced, is_setup_form, nothing_written, other_step, set_up_as, set_up_with, setup_step, stage_ending, stage_step, unless_refused, with_setup_line, world_at}
use Rattle.script_text.specs.Steps.{Goes, TakesStep}
use Rattle.script_text.specs.declared.faults.ScriptFault.{ScriptFault}
use Rattle.script_text.specs.declared.faults.ScriptFault.TheVariants.{Script, Setup, Read, Write, NoMemory}
use Rattle.script_text.specs.declared.keywords.Form.{Form}
use Rattle.script_text.specs.declared.keywords.Form.TheVariants as form
use Rattle.world_run.proofs.OrderOpens.{keeps_opening}
use Rattle.world_run.specs.InOrder.{KeepsOrder}
use Rattle.bridge_calls.specs.Bridges.{BridgeState, opening_bridge}
use Rattle.bridge_calls.specs.SetUps.{OpensInOrder, SetUpState, line_done, set_up_kind, set_up_reading, stage_in}

abbrev Stages : Type 0
Stages = Stage SetupLists (Unit {0}) BridgeState

-- ---- no line has text, or begins the model

-- a set-up that wasn't begun
abbrev pub IsEarly : Stages → Type 0
IsEarly Opening = ⊤
IsEarly (SettingUp setup own) = ⊤
IsEarly (Running bridge) = ⊥

-- what a line leaves of one is no more
IsQuiet : Stages → LineStep Stages → Type 0
IsQuiet old (Ok given) = (given.0 ≡ []) × (IsEarly old → IsEarly given.1)
IsQuiet old (Err fault) = ⊤

quiet_err : (old : Stages) (fault : ScriptFault) → IsQuiet old (Err fault)
unfolding IsQuiet
quiet_err old fault = tt

quiet_same : (old : Stages) → IsQuiet old (Ok ([], old))
unfolding IsQuiet
quiet_same old = (refl, λ early. early)

quiet_if : (old : Stages) (b : Bool) (x y : LineStep Stages) → IsQuiet old x → IsQuiet old y → IsQuiet old (if b then x else y)
quiet_if old true x y here there = here
quiet_if old false x y here there = there

-- a set-up line leaves a set-up
EarlyIfTold : Result Stages ℕ → Type 0
EarlyIfTold (Ok stage) = IsEarly stage
EarlyIfTold (Err word) = ⊤

told_early : {X : Type 0} (to : X → Stages) (told : Result X ℕ) → ((x : X) → IsEarly (to x)) → EarlyIfTold (told_as to told)
unfolding EarlyIfTold
told_early to (Ok x) each = each x
told_early to (Err word) each = tt

early_line_of : (stage : Stages) (form : Form) (words : List (List ℕ)) → EarlyIfTold (with_setup_line set_up_kind stage form words)
unfolding EarlyIfTold
early_line_of Opening form words = tt
early_line_of (SettingUp setup own) form words = told_early (λ next. SettingUp next own) (set_up_kind.set_up.with_line setup form words) (λ next. tt)
early_line_of (Running bridge) form words = tt

early_set_up : (stage : Stages) (words : List (List ℕ)) (form : Form) → EarlyIfTold (set_up_with set_up_kind stage words form)
early_set_up stage words form.Config = told_early (λ setup. SettingUp setup set_up_kind.own_opening) (set_up_kind.set_up.of_config words) (λ setup. tt)
early_set_up stage words form = early_line_of stage form words

quiet_added : (old : Stages) (number : ℕ) (added : Result Stages ℕ) → EarlyIfTold added → IsQuiet old (added_step number added)
unfolding IsQuiet EarlyIfTold
quiet_added old number (Ok stage) early = (refl, λ was. early)
quiet_added old number (Err word) early = tt

module _ (stage : Stages) (number : ℕ) (words : List (List ℕ)) where
  quiet_setup : (form : Form) → IsQuiet stage (setup_step set_up_kind stage number words form)
  quiet_setup form =
      quiet_if stage (not (set_up_kind.takes form) || is_misplaced set_up_kind stage form words) (Err (Script number 1)) (added_step number (set_up_with set_up_kind stage words form)) (quiet_err stage (Script number 1))
      (quiet_added stage number (set_up_with set_up_kind stage words form) (early_set_up stage words form))

  -- any other line has a fault
  quiet_other : IsQuiet stage (other_step set_up_kind stage number words)
  quiet_other = by_stage stage
    where
      by_stage : (old : Stages) → IsQuiet old (other_step set_up_kind old number words)
      by_stage Opening = quiet_err Opening (Script number 1)
      by_stage (SettingUp setup own) = quiet_err (SettingUp setup own) (Script number 1)
      by_stage (Running bridge) = quiet_err (Running bridge) (Script number 1)

  quiet_form : (form : Option Form) → IsQuiet stage (form_step set_up_kind stage number words form)
  quiet_form None = quiet_other
  quiet_form (Some form) = quiet_if stage (is_setup_form form) (setup_step set_up_kind stage number words form) (other_step set_up_kind stage number words) (quiet_setup form) quiet_other

  quiet_stage : IsQuiet stage (stage_step set_up_kind stage number words)
  quiet_stage =
      quiet_if stage (nothing_written stage) (form_step set_up_kind stage number words (form_of (word_at words 1))) (Err (Script number 1)) (quiet_form (form_of (word_at words 1))) (quiet_err stage (Script number 1))

quiet_line : (stage : Stages) (number : ℕ) (line : List ℕ) → IsQuiet stage (line_step set_up_reading stage number line)
quiet_line stage number line =
    quiet_if stage (not (is_plain_line line) || nat_lt 65536 number) (Err (Script number 0)) (if is_skipped (words_of line) then Ok ([], stage) else stage_step set_up_kind stage number (words_of line)) (quiet_err stage (Script number 0))
    (quiet_if stage (is_skipped (words_of line)) (Ok ([], stage)) (stage_step set_up_kind stage number (words_of line)) (quiet_same stage) (quiet_stage stage number (words_of line)))

left_quiet : (stage next : Stages) (number : ℕ) (line text : List ℕ) → line_step set_up_reading stage number line ≡ Ok (text, next) → (text ≡ []) × (IsEarly stage → IsEarly next)
unfolding IsQuiet
left_quiet stage next number line text is = subst (IsQuiet stage) is (quiet_line stage number line)

text_none : (stage next : Stages) (number : ℕ) (line text : List ℕ) → line_step set_up_reading stage number line ≡ Ok (text, next) → text ≡ []
text_none stage next number line text is = (left_quiet stage next number line text is).0

pub early_line : (old after : SetUpState) (line : List ℕ) → IsEarly (stage_in old) → line_done old line ≡ Ok ([], stage_in after) → IsEarly (stage_in after)
early_line old after line early is = (left_quiet (stage_in old) (stage_in after) (old.number + 1) (strip_carriage_return line) [] is).1 early

-- nor has the end text
ended_none : (opened : Result BridgeState ScriptFault) → (ending_of set_up_kind opened).output ≡ []
ended_none (Ok bridge) = refl
ended_none (Err fault) = refl

ending_none : (stage : Stages) (number : ℕ) → (stage_ending set_up_kind stage number).output ≡ []
ending_none stage number = ended_none (world_at set_up_kind stage number)

-- ---- a line

line_is : (old : SetUpState) (line : List ℕ) (number : ℕ) (stage : Stages) (told : LineStep Stages) → stage ≡ stage_in old → number ≡ old.number + 1
    → line_step set_up_reading stage number (strip_carriage_return line) ≡ told → line_done old line ≡ told
line_is old line number stage told there is done =
    ap₂ (λ (s : Stages) (n : ℕ). line_step set_up_reading s n (strip_carriage_return line)) (sym there) (sym is) ∙ done

pub line_goes : (old : SetUpState) (line : List ℕ) (number : ℕ) (stage after : Stages) (before behind : Option (List ℕ)) (wrote : Bool) → stage ≡ stage_in old → number ≡ old.number + 1
    → Goes set_up_reading (line_step set_up_reading stage number (strip_carriage_return line)) nothing_written stage after before behind wrote → line_done old line ≡ Ok ([], after)
line_goes old line number stage after before behind wrote there is goes =
    line_is old line number stage _ there is
    (goes.step_is ∙ ap (λ (text : List ℕ). Ok (text, after)) (text_none stage after number (strip_carriage_return line) goes.text goes.step_is))

line_stops : (old : SetUpState) (line : List ℕ) (number : ℕ) (stage after : Stages) (fault : ScriptFault) (before behind : Option (List ℕ)) → stage ≡ stage_in old → number ≡ old.number + 1
    → TakesStep set_up_reading false (line_step set_up_reading stage number (strip_carriage_return line)) nothing_written stage after before behind (Err fault) → line_done old line ≡ Err fault
line_stops old line number stage after (Script at word) before behind there is step = line_is old line number stage _ there is step.0
line_stops old line number stage after (Setup fault) before behind there is step = line_is old line number stage _ there is step.0
line_stops old line number stage after Read before behind there is step = absurd step
line_stops old line number stage after Write before behind there is (stands, some) = absurd (some (text_none stage stands.next number (strip_carriage_return line) stands.text stands.step_is))
line_stops old line number stage after NoMemory before behind there is (inl (silent, (stands, some)), kept) =
    absurd (some 0 (ap₂ (λ (text ending : List ℕ). text ++ ending) (text_none stage stands.next number (strip_carriage_return line) stands.text stands.step_is) (ending_none stands.next 0)))
line_stops old line number stage after NoMemory before behind there is (inr (grows, stands), kept) = absurd (cc (grows))

-- where the line's step ended so
pub line_ends : (old : SetUpState) (line : List ℕ) (number : ℕ) (stage after : Stages) (told : Result Bool ScriptFault) (fault : ScriptFault) (before behind : Option (List ℕ)) → stage ≡ stage_in old → number ≡ old.number + 1
    → told ≡ Err fault
    → TakesStep set_up_reading false (line_step set_up_reading stage number (strip_carriage_return line)) nothing_written stage after before behind told → line_done old line ≡ Err fault
line_ends old line number stage after told fault before behind there is ended step =
    line_stops old line number stage after fault before behind there is
    (subst (λ (t : Result Bool ScriptFault). TakesStep set_up_reading false (line_step set_up_reading stage number (strip_carriage_return line)) nothing_written stage after before behind t) ended step)

-- ---- the world of the set-up

abbrev bridge_in : BridgeState → Result BridgeState ScriptFault → BridgeState
bridge_in other (Ok bridge) = bridge
bridge_in other (Err fault) = other

pub opening_is : (opening bridge : BridgeState) (fault : Option SetupFault) → set_up_as (unless_refused opening fault) ≡ Ok bridge → opening ≡ bridge
opening_is opening bridge None is = ap (bridge_in opening) is
opening_is opening bridge (Some fault) is = absurd (cc (is))

pub opens_in_order : (stage : Stages) (number : ℕ) (given : Result BridgeState ScriptFault) → GivesWorld (λ (bridge : BridgeState). bridge) (world_at set_up_kind stage number) given → OpensInOrder stage given
opens_in_order Opening number given made = tt
opens_in_order (SettingUp setup own) number (Ok bridge) made =
    λ order faults regions. subst (λ (b : BridgeState). KeepsOrder order b.world) (opening_is (opening_bridge setup) bridge (setup_fault setup) made) (keeps_opening order setup faults regions)
opens_in_order (SettingUp setup own) number (Err fault) made = tt
opens_in_order (Running bridge) number given made = tt
