-- Where requests take effect in real time a beat on channel A with which nothing is wrong makes its message whole just where its client has begun none behind it.
use Rattle.std.proofs.Common.{◌≡◌, ℕ, Option, Some, None, Result, Ok, Err, if◌then◌else◌, refl, sym, ◌∙◌, ap, subst}
use Rattle.std.specs.Prelude.{is_none, option_map, slice_get}
use Rattle.std.proofs.lemmas.Bool.{eq-eqb}
use Rattle.tl_messages.specs.Requests.{HeldMessage}
use Rattle.tl_messages.specs.declared.ABeat.{ABeat}
use Rattle.tl_checker.specs.Ports.{joined}
use Rattle.tl_checker.specs.declared.Progress.{Progress}
use Rattle.tl_checker.specs.declared.Progress.TheVariants.{More, Whole}
use Rattle.tl_checker.specs.declared.TlRule.{TlRule}
use Rattle.scoreboard.specs.Boards.{Board, ClientBoard, a_wrong, after_a, after_seen, answer_to, answered_on, wrong_at, wrong_request}
use Rattle.scoreboard.specs.InsideBoards.{front_after}
use Rattle.scoreboard.specs.Unanswered.{source_begun}
use Rattle.scoreboard.specs.Views.{if_whole, made_whole, whole_with}
use Rattle.scoreboard.specs.declared.ObservedBeat.TheVariants.{A}
use Rattle.scoreboard.specs.declared.Policy.TheVariants.{RealTime}
use Rattle.scoreboard.proofs.real_time.Fronts.{front_answered, front_of}

source_of_front : (found : Option ClientBoard) → source_begun found ≡ option_map (λ message. message.source) (front_of found)
source_of_front None = refl
source_of_front (Some client) = refl

-- the message, if no source is begun
abbrev unless_begun : HeldMessage → Option ℕ → Option HeldMessage
unless_begun message source = if is_none source then Some message else None

pub whole_told : (board : Board) (number : ℕ) (client : ClientBoard) (beat : ABeat) → slice_get board.clients number ≡ Some client
    → wrong_at RealTime board (A number beat) ≡ None
    → whole_with RealTime board (A number beat)
    ≡ (if is_none (source_begun (slice_get (after_seen RealTime board (A number beat)).clients number)) then Some (joined client.limits client.front beat) else None)
whole_told board number client beat there right =
    ap (λ (found : Option ClientBoard). made_whole RealTime found beat) there
    ∙ by_answer (answer_to RealTime client beat) (subst (λ (found : Option ClientBoard). a_wrong RealTime found beat ≡ None) there right)
    ∙ ap (λ (found : Option ClientBoard). unless_begun message (source_begun (slice_get (after_a RealTime board number found beat).clients number))) (sym there)
  where
    message : HeldMessage
    message = joined client.limits client.front beat

    begun_now : (answer : Result Progress TlRule) → source_begun (slice_get (answered_on RealTime board number client message answer).clients number)
        ≡ option_map (λ held. held.source) (front_after client.front message answer)
    begun_now answer =
        source_of_front (slice_get (answered_on RealTime board number client message answer).clients number)
        ∙ ap (option_map (λ (held : HeldMessage). held.source)) (front_answered board number number client message answer there ∙ rw (eq-eqb number number refl) refl)

    by_answer : (answer : Result Progress TlRule) → wrong_request answer ≡ None
        → if_whole answer message ≡ unless_begun message (source_begun (slice_get (answered_on RealTime board number client message answer).clients number))
    by_answer (Err broken) right = absurd (cc (right))
    by_answer (Ok More) right = ap (unless_begun message) (sym (begun_now (Ok More)))
    by_answer (Ok Whole) right = ap (unless_begun message) (sym (begun_now (Ok Whole)))
