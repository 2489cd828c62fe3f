-- An observation that is judged call by call (this project's profile).
use Rattle.std.specs.Prelude.{ℕ, ◌≡◌, ◌⊎◌, ◌+◌, ◌<◌, Bool, true, false, List, [], min, Option, Some, None, Result, Ok, Err, IsOk, if◌then◌else◌, nat_lt}
use Rattle.std.specs.Str.Lines.{strip_carriage_return}
use Rattle.axi_checker.specs.Names.{rule_number}
use Rattle.score_script.specs.Profiles.{PolicyBoard}
use Rattle.score_script.specs.ScoreStates.{score_of}
use Rattle.score_script.specs.Scores.{FailsBy, Score, called_score, commanded_score, finds, finds_at_once, score_reading, settling, told_of, told_text, wrong_command}
use Rattle.score_script.specs.UnansweredTexts.{unanswered_code}
use Rattle.score_script.specs.declared.findings.Finding.{Finding}
use Rattle.score_script.specs.declared.findings.Finding.TheVariants as finding
use Rattle.score_script.specs.declared.findings.Findings.{Findings}
use Rattle.score_script.specs.declared.profiles.Asked.{Asked}
use Rattle.score_script.specs.declared.score.Command.{Command}
use Rattle.score_script.specs.declared.score.Score.{Score as HeldScore}
use Rattle.score_setup.specs.ScoreSetups.{RangeLists, ranges_of}
use Rattle.score_setup.specs.declared.ScoreSetup.{ScoreSetup}
use Rattle.scoreboard.specs.Names.{reply_rule_number}
use Rattle.scoreboard.specs.declared.Wrong.{Wrong}
use Rattle.scoreboard.specs.declared.Wrong.TheVariants.{NoClient, Request, Reply, Axi, Place, UnknownAxi, UnknownRequest}
use Rattle.script_text.specs.Scripts.{LineStep, line_step}
use Rattle.script_text.specs.Stages.{Running, Stage, stage_as}
use Rattle.script_text.specs.Steps.{Speaks}
use Rattle.script_text.specs.declared.faults.ScriptFault.{ScriptFault}
use Rattle.script_text.specs.declared.faults.ScriptFault.TheVariants.{Script, Setup, Read, Write, NoMemory}
use Rattle.tl_checker.specs.Names.{number_of}

-- ---- what was found, as a number

-- what is wrong with a beat: 1 where its client isn't there, and else 100 and the number of a request's rule, 200 and that of a reply's, or 300 and
-- that of the AXI4 port's
abbrev pub wrong_code : Wrong → ℕ
wrong_code NoClient = 1
wrong_code (Request rule) = 100 + number_of rule
wrong_code (Reply rule due) = 200 + reply_rule_number rule
wrong_code (Axi rule) = 300 + rule_number rule
wrong_code UnknownRequest = 117
wrong_code UnknownAxi = 313
wrong_code Place = 315

-- of what was found: 0 where nothing is wrong
abbrev pub finding_code : Option Finding → ℕ
finding_code None = 0
finding_code (Some (finding.Beat line client wrong)) = wrong_code wrong
finding_code (Some (finding.Byte byte)) = 0

-- of what has no answer, where it was said that the observation is over
abbrev pub over_code : PolicyBoard → Bool → ℕ
over_code board false = 0
over_code board true = unanswered_code board.board

-- the first of two
abbrev pub first_code : ℕ → ℕ → ℕ
first_code code next = if nat_lt 0 code then code else next

-- ---- an observation

-- the score, the number of the last line or call that had no fault, and what that found
pub record Observing : Type 0 where
  pub score : Score
  pub number : ℕ
  pub found : Findings

-- what a contract sees of one
pub record ObservationState : Type 0 where
  pub score : HeldScore
  pub number : ℕ
  pub found : Findings

-- the same, with its score said by bytes
abbrev pub observing_of : ObservationState → Observing
observing_of held = record { score = score_of held.score; number = held.number; found = held.found }

-- the number of the next line or call: the last stays
abbrev pub next_number : ℕ → ℕ
next_number number = min (number + 1) 4294967294

-- the lines of what the last line or call found
abbrev pub observing_text : Observing → List ℕ
observing_text seen = told_text seen.score seen.number seen.found

-- the number of the first of them
abbrev pub observing_code : Observing → ℕ
observing_code seen =
    first_code (finding_code seen.found.held) (first_code (finding_code seen.found.own) (over_code seen.score.board seen.found.over))

-- ---- a command that was read

-- the observation after it
abbrev pub after_command : Observing → ℕ → Command → Observing
after_command seen number said =
    record { score = commanded_score seen.score number said; number = number; found = told_of (finds seen.score number said) }

-- it is carried out, and its answer is the code of what it finds; or it has a fault
abbrev pub TakeTold : Observing → ℕ → Command → Observing → Result ℕ ScriptFault → Type 0
TakeTold old number said new (Ok code) =
    (wrong_command old.score said ≡ None) × (new ≡ after_command old number said) × (code ≡ observing_code new)
TakeTold old number said new (Err fault) = FailsBy number (wrong_command old.score said) fault × (new ≡ old)

-- ---- a line

-- what a line does, as it does where a whole text is read
abbrev pub line_done : Observing → List ℕ → LineStep (Stage RangeLists Asked Score)
line_done seen line = line_step score_reading (Running seen.score) (next_number seen.number) (strip_carriage_return line)

-- its text is what was found, and its answer the code of that; or it has a fault
abbrev pub LineTold : Observing → List ℕ → Observing → Result ℕ ScriptFault → Type 0
LineTold old line new (Ok code) =
    (line_done old line ≡ Ok (observing_text new, Running new.score)) × (new.number ≡ next_number old.number) × (code ≡ observing_code new)
LineTold old line new (Err (Script at word)) = (line_done old line ≡ Err (Script at word)) × (new ≡ old)
LineTold old line new (Err NoMemory) = IsOk (line_done old line) × (new ≡ old)
LineTold old line new (Err fault) = ⊥

-- ---- a command that is called

-- the observation after it
abbrev pub after_call : Observing → Command → Observing
after_call seen said =
    let number = next_number seen.number in
    record { score = called_score seen.score number said; number = number; found = told_of (finds_at_once seen.score number said) }

-- what is told where only the held beat was judged: what was found of it, or else what was told before
abbrev pub found_left : Findings → Option Finding → Findings
found_left found None = found
found_left found (Some told) = record { held = Some told; own = None; over = false }

-- the observation where only the held beat was judged
abbrev pub after_held : Observing → Observing
after_held seen = record seen { score = (settling seen.score).1; found = found_left seen.found (settling seen.score).0 }

-- what a fault leaves: by a wrong word nothing has changed, and where memory was refused the held beat may have been judged
abbrev pub CallLeft : Option ℕ → Observing → Observing → Type 0
CallLeft (Some word) old new = new ≡ old
CallLeft None old new = (new ≡ old) ⊎ (new ≡ after_held old)

-- it is carried out, and its answer is the code of what it finds; or it has a fault
abbrev pub CallTold : Observing → Command → Observing → Result ℕ ScriptFault → Type 0
CallTold old said new (Ok code) = (wrong_command old.score said ≡ None) × (new ≡ after_call old said) × (code ≡ observing_code new)
CallTold old said new (Err fault) = FailsBy (next_number old.number) (wrong_command old.score said) fault × CallLeft (wrong_command old.score said) old new

-- ---- a line of the set-up

-- what a contract sees of a set-up: how far it has come, and how many lines it has
pub record SetUpState : Type 0 where
  pub stage : Stage ScoreSetup Asked HeldScore
  pub number : ℕ

-- how far it has come, as it is said
abbrev pub stage_in : SetUpState → Stage RangeLists Asked Score
stage_in held = stage_as ranges_of score_of held.stage

-- what a line does, as it does where a whole text is read
abbrev pub setup_line_done : SetUpState → List ℕ → LineStep (Stage RangeLists Asked Score)
setup_line_done held line = line_step score_reading (stage_in held) (held.number + 1) (strip_carriage_return line)

-- it went well and has no text, or has a fault; a line that has text is none of a set-up, and refused for its word 1, and so is one more than there may be
abbrev pub SetUpTold : SetUpState → List ℕ → SetUpState → Result (Unit {0}) ScriptFault → Type 0
SetUpTold old line new (Ok done) = (setup_line_done old line ≡ Ok ([], stage_in new)) × (new.number ≡ old.number + 1)
SetUpTold old line new (Err (Script at word)) =
    (setup_line_done old line ≡ Err (Script at word))
    ⊎ ((Speaks score_reading (setup_line_done old line) ⊎ (4294967293 < old.number)) × (at ≡ next_number old.number) × (word ≡ 1))
SetUpTold old line new (Err (Setup fault)) = setup_line_done old line ≡ Err (Setup fault)
SetUpTold old line new (Err Read) = ⊥
SetUpTold old line new (Err Write) = Speaks score_reading (setup_line_done old line)
SetUpTold old line new (Err NoMemory) = IsOk (setup_line_done old line)
