-- What each way to take a command leaves: what was found and the score after it, or why it wasn't taken (this project's profile).
use Rattle.std.specs.Prelude.{ℕ, ◌≡◌, true, Option, None, Result, Ok, Err}
use Rattle.score_script.specs.Scores.{FailsBy, Finds, LeavesBy, Score, called_score, command_wants, commanded_score, finds, finds_at_once, held_wants, settling, wrong_command}
use Rattle.score_script.specs.declared.findings.Finding.{Finding}
use Rattle.score_script.specs.declared.findings.Findings.{Findings}
use Rattle.score_script.specs.declared.score.Command.{Command}
use Rattle.script_text.specs.declared.faults.ScriptFault.{ScriptFault}
use Rattle.script_text.specs.declared.faults.ScriptFault.TheVariants.{NoMemory}

-- this was found of the held beat and of what came behind it, and this is the score after both
pub record Gives (finds : Finds) (told : Findings) (new : Score) : Type 0 where
  pub held : told.held ≡ finds.held
  pub own : told.own ≡ finds.own
  pub over : told.over ≡ finds.over
  pub after : new ≡ finds.after

-- memory was refused where the held beat asks for it: nothing has changed, and nothing was told of it
pub record Refuses (old : Score) (before : Option Finding) (new : Score) (told : Option Finding) : Type 0 where
  pub kept : new ≡ old
  pub quiet : told ≡ before
  pub wants : held_wants old.board old.held ≡ true

-- the held beat is judged
abbrev pub Settles : {E : Type 0} → Score → Option Finding → Score → Option Finding → Result (Unit {0}) E → Type 0
Settles old before new told (Ok done) = (told ≡ (settling old).0) × (new ≡ (settling old).1)
Settles old before new told (Err refused) = Refuses old before new told

-- it is judged, and then more is found
abbrev pub SettlesBefore : {E : Type 0} → Finds → Score → Findings → Score → Findings → Result (Unit {0}) E → Type 0
SettlesBefore finds old before new told (Ok done) = Gives finds told new
SettlesBefore finds old before new told (Err refused) = Refuses old before.held new told.held

-- a command may stand, and this is found, and left; or its line has a fault, and nothing has changed
abbrev pub TakesAs : Finds → Score → ℕ → Command → Findings → Score → Findings → Result (Unit {0}) ScriptFault → Type 0
TakesAs finds old number said before new told (Ok done) = (wrong_command old said ≡ None) × Gives finds told new
TakesAs finds old number said before new told (Err fault) =
    FailsBy number (wrong_command old said) fault × (new ≡ old) × (told.held ≡ before.held) × (fault ≡ NoMemory → command_wants old said ≡ true)

-- one that was read is taken
abbrev pub Takes : Score → ℕ → Command → Findings → Score → Findings → Result (Unit {0}) ScriptFault → Type 0
Takes old number said before new told result =
    TakesAs (record (finds old number said) { after = commanded_score old number said }) old number said before new told result

-- the same of one that is called: where memory was refused the held beat may have been judged
abbrev pub TakesAtOnce : Score → ℕ → Command → Findings → Score → Findings → Result (Unit {0}) ScriptFault → Type 0
TakesAtOnce old number said before new told (Ok done) =
    (wrong_command old said ≡ None) × Gives (record (finds_at_once old number said) { after = called_score old number said }) told new
TakesAtOnce old number said before new told (Err fault) =
    FailsBy number (wrong_command old said) fault × LeavesBy (wrong_command old said) old before.held new told.held
