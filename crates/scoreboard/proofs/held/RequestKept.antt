-- A beat on channel A was taken, and the lanes that it gives and nobody knows are kept.
use Rattle.std.proofs.Common.{◌≡◌, ℕ, List, Ok, Err, Option, Some, None, Result, ap, ap₂, refl, rules, ◌∙◌}
use Rattle.tl_messages.specs.Requests.{HeldMessage, request_of}
use Rattle.tl_messages.specs.declared.ABeat.{ABeat}
use Rattle.tl_checker.specs.Ports.{joined}
use Rattle.tl_checker.specs.declared.Progress.{Progress}
use Rattle.tl_checker.specs.declared.Progress.TheVariants.{More, Whole}
use Rattle.tl_checker.specs.declared.TlRule.{TlRule}
use Rattle.scoreboard.specs.Boards.{Board, ClientBoard, after_seen, answer_to}
use Rattle.scoreboard.specs.InsideBoards.{BoardState, board_of, request_taken, taken_by, unknown_board}
use Rattle.scoreboard.specs.Unknown.{UnknownBoard, doubted_on, unknown_answered, unknown_given, unknown_request, with_given}
use Rattle.scoreboard.specs.declared.ObservedBeat.TheVariants.{A}
use Rattle.scoreboard.specs.declared.Policy.{Policy}
use Rattle.scoreboard.specs.declared.Wrong.{Wrong}

-- the board before, where the port has taken the beat, and where its lanes are kept
module _ (policy : Policy) (old : UnknownBoard) (mid new : BoardState) (number : ℕ) (beat : ABeat) (lanes : ℕ) (progress : Progress) where
  abbrev pub given : ℕ
  given = unknown_given beat lanes

  -- its board is that after the beat
  pub record IsTakenBy (found : Option ClientBoard) : Type 0 where
    pub answer : Ok progress ≡ request_taken policy found beat
    pub board : board_of mid ≡ after_seen policy old.board (A number beat)
    pub unknown : mid.unknown ≡ old.lanes
    pub request : (client : ClientBoard) → found ≡ Some client → progress ≡ Whole → mid.request ≡ joined client.limits client.front beat
    pub more : progress ≡ More → unknown_board new ≡ record (unknown_board mid) { lanes = with_given mid.unknown number given }
    pub whole : progress ≡ Whole → unknown_board new ≡ doubted_on (record (unknown_board mid) { lanes = with_given mid.unknown number given }) number (request_of mid.request)

  progress_of : Result Progress Wrong → Progress
  progress_of (Ok told) = told
  progress_of (Err wrong) = More

  by_answer : (client : ClientBoard) → IsTakenBy (Some client) → (answer : Result Progress TlRule) → Ok progress ≡ taken_by answer
      → unknown_board new ≡ unknown_answered policy old number client beat given answer
  unfolding progress_of
  by_answer client taken (Err broken) is = search rules
  by_answer client taken (Ok More) is =
      taken.more (ap progress_of is)
      ∙ ap₂ (λ (board : Board) (kept : List (List ℕ)). record { board = board; lanes = with_given kept number given }) taken.board taken.unknown
  by_answer client taken (Ok Whole) is =
      let whole : progress ≡ Whole = ap progress_of is in
      taken.whole whole
      ∙ ap (λ (request : HeldMessage). doubted_on (record (unknown_board mid) { lanes = with_given mid.unknown number given }) number (request_of request)) (taken.request client refl whole)
      ∙ ap₂ (λ (board : Board) (kept : List (List ℕ)). doubted_on (record { board = board; lanes = with_given kept number given }) number (request_of (joined client.limits client.front beat))) taken.board taken.unknown

  pub kept_after : (found : Option ClientBoard) → IsTakenBy found → unknown_board new ≡ unknown_request policy old number found beat lanes
  kept_after None taken = absurd (none taken.answer)
    where
      none : Ok progress ≡ request_taken policy None beat → ⊥
      none is = search rules
  kept_after (Some client) taken = by_answer client taken (answer_to policy client beat) taken.answer
