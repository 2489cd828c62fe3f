-- What is written of a command that is carried out: the lines of what it found.
use Rattle.std.proofs.Common.{◌≡◌, ◌≢◌, ℕ, List, [], Bool, Option, None, Ok, Err, refl, subst}
use Rattle.score_script.specs.Scores.{Finds, Score, command_wants, commanded, commanded_score, finds, told_of, told_text, wrong_command}
use Rattle.score_script.specs.Takings.{Gives}
use Rattle.score_script.specs.declared.findings.Findings.{Findings}
use Rattle.score_script.specs.declared.score.Command.{Command}
use Rattle.script_text.specs.Stages.{Writes}
use Rattle.script_text.specs.declared.faults.ScriptFault.TheVariants.{Write}
use Rattle.score_script.proofs.UnansweredLines.{Wrote}

-- it is the text of what the command finds
told_so : (given : Finds) (told : Findings) (new : Score) (number : ℕ) → Gives given told new → told_text new number told ≡ told_text given.after number (told_of given)
told_so given told new number gives = rw (gives.held, gives.own, gives.over, gives.after) refl

module _ (old new : Score) (number : ℕ) (said : Command) (told : Findings) (before after : Option (List ℕ)) where
  abbrev GivesAll : Type 0
  GivesAll = Gives (record (finds old number said) { after = commanded_score old number said }) told new

  pub carried : (wrote : Bool) → wrong_command old said ≡ None → GivesAll → Wrote (told_text new number told) before after wrote
      → Writes (command_wants old said) number (commanded old number said) new before after (Ok wrote)
  carried wrote may gives written =
      let so = subst (λ (text : List ℕ). Wrote text before after wrote) (told_so _ told new number gives) written in rw may (so.0, gives.after, so.1, so.2)

  -- where the writer failed there is some
  pub not_carried : wrong_command old said ≡ None → GivesAll → told_text new number told ≢ [] → Writes (command_wants old said) number (commanded old number said) new before after (Err Write)
  not_carried may gives some = rw may (subst (λ (text : List ℕ). text ≢ []) (told_so _ told new number gives) some)
