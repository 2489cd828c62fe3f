-- Each command of `tlbridge run` has text.
use Rattle.std.proofs.Common.{◌≢◌, ℕ, [], ◌++◌, Option, Some, None, rules}
use Rattle.world.specs.World.{WorldState, next}
use Rattle.world.specs.declared.Answer.{Answer}
use Rattle.world.specs.declared.Answer.TheVariants as answer
use Rattle.line_text.specs.Traces.{mem_text}
use Rattle.line_text.proofs.TraceTexts.{some_after, some_before}
use Rattle.run_script.specs.Answers.{answer_text}
use Rattle.script_text.specs.Stages.{GivesSome}
use Rattle.script_text.proofs.StageSteps.{some_given}
use Rattle.run_script.specs.Run.{Command, Event, Drain, Mem, Work, after_answer, before_answer, commanded, run_kind}

answer_text-some : (a : Answer) → answer_text a ≢ []
answer_text-some answer.More none = search rules
answer_text-some (answer.Accepted number) none = search rules
answer_text-some answer.NotReady none = search rules
answer_text-some answer.Exhausted none = search rules
answer_text-some (answer.Refused rule) none = search rules
answer_text-some answer.NoClient none = search rules
answer_text-some (answer.Sent serial) none = search rules
answer_text-some answer.Idle none = search rules
answer_text-some answer.Done none = search rules
answer_text-some answer.NoSuch none = search rules
answer_text-some answer.Already none = search rules
answer_text-some (answer.B b) none = search rules
answer_text-some (answer.R r) none = search rules
answer_text-some answer.Nothing none = search rules
answer_text-some (answer.Reply number) none = search rules

pub commanded-some : (world : WorldState) (command : Command) → (commanded world command).0 ≢ []
commanded-some world (Event s) =
    some_after (before_answer s) (answer_text (next world s).answer ++ after_answer s (next world s))
    (some_before (answer_text (next world s).answer) (after_answer s (next world s)) (answer_text-some (next world s).answer))
commanded-some world Drain = λ none. search rules
commanded-some world (Mem address) = by_byte _
  where
    by_byte : (byte : Option ℕ) → mem_text byte ≢ []
    by_byte None none = search rules
    by_byte (Some byte) none = search rules
commanded-some world Work = λ none. search rules

pub run_gives : GivesSome run_kind
run_gives world number command given is =
    some_given (λ after. (run_kind.ending after).0) (commanded world command) given is (some_before _ _ (commanded-some world command))
