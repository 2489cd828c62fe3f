-- The message that a beat makes whole is the one that is held.
use Rattle.std.proofs.Common.{◌≡◌, Option, Some, None, Result, Ok, Err, refl, ap, ◌∙◌}
use Rattle.std.specs.Prelude.{IfSome}
use Rattle.tl_messages.specs.Requests.{HeldMessage}
use Rattle.tl_messages.specs.declared.ABeat.{ABeat}
use Rattle.tl_checker.specs.Ports.{joined}
use Rattle.tl_checker.specs.declared.Progress.{Progress}
use Rattle.tl_checker.specs.declared.Progress.TheVariants.{More, Whole}
use Rattle.tl_checker.specs.declared.TlRule.{TlRule}
use Rattle.scoreboard.specs.Boards.{ClientBoard, answer_to}
use Rattle.scoreboard.specs.InsideBoards.{request_taken, taken_by}
use Rattle.scoreboard.specs.Views.{if_whole, made_whole}
use Rattle.scoreboard.specs.declared.Policy.{Policy}
use Rattle.scoreboard.specs.declared.Wrong.{Wrong}

-- by what is said of how far a message is with a beat
pub held_whole : (policy : Policy) (client : Option ClientBoard) (beat : ABeat) (taken : Result Progress Wrong) (held : HeldMessage) → taken ≡ request_taken policy client beat
    → (taken ≡ Ok Whole → (found : ClientBoard) → client ≡ Some found → held ≡ joined found.limits found.front beat)
    → IfSome (made_whole policy client beat) (λ (message : HeldMessage). held ≡ message)
held_whole policy None beat taken held is whole = tt
held_whole policy (Some found) beat taken held is whole = by_answer (answer_to policy found beat) refl
  where
    by_answer : (answer : Result Progress TlRule) → answer_to policy found beat ≡ answer
        → IfSome (if_whole answer (joined found.limits found.front beat)) (λ (message : HeldMessage). held ≡ message)
    by_answer (Ok Whole) told = whole (is ∙ ap taken_by told) found refl
    by_answer (Ok More) told = tt
    by_answer (Err broken) told = tt
