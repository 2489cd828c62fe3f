-- Of beats that are right in order of acceptance the board of requests finds nothing wrong with the next: so nothing is found wrong that isn't.
use Rattle.std.proofs.Common.{◌≡◌, ℕ, false, List, [], ◌∷◌, ◌++◌, map, None, refl, ◌∙◌, ap}
use Rattle.std.specs.List.{AllByRecursion, range_with_len}
use Rattle.setups.specs.Setups.{SetupLists}
use Rattle.scoreboard.specs.Boards.{Board, after_all, from_zeros, opening_with}
use Rattle.scoreboard.specs.Right.{IsRight}
use Rattle.scoreboard.specs.Unknown.{UnknownBoard, some_begun, unknown_wrong}
use Rattle.scoreboard.specs.declared.Errors.{Errors}
use Rattle.scoreboard.specs.declared.ObservedBeat.{ObservedBeat}
use Rattle.scoreboard.specs.declared.Policy.TheVariants.{RealTime}
use Rattle.scoreboard.proofs.held.AllKnown.{FitsBeat, known-after, known-wrong}
use Rattle.scoreboard.proofs.real_time.RightRuns.{lets_right_pass}
use Rattle.value_orders.specs.Blames.{all_seen}
use Rattle.value_orders.specs.Histories.{Seen, board_from, board_in, board_next, opening}

none_begun : (numbers : List ℕ) → some_begun (map (λ k. []) numbers) ≡ false
none_begun [] = refl
none_begun (number ∷ numbers) = none_begun numbers

board_along : (beats : List ObservedBeat) (old : UnknownBoard) → AllByRecursion FitsBeat beats → some_begun old.lanes ≡ false
    → (board_from old (all_seen beats)).board ≡ after_all RealTime old.board beats
board_along [] old fits none = refl
board_along (seen ∷ rest) old fits none =
    let next = known-after RealTime old none seen fits.0 in
    board_along rest (board_next old (Seen seen 0 None)) fits.1 next.1 ∙ ap (λ (b : Board). after_all RealTime b rest) next.0

-- the board of beats of which all is known
pub board_is : (errors : Errors) (setup : SetupLists) (beats : List ObservedBeat) → AllByRecursion FitsBeat beats
    → (board_in errors (from_zeros setup) (all_seen beats)).board ≡ after_all RealTime (opening_with errors setup) beats
board_is errors setup beats fits = board_along beats (opening errors (from_zeros setup)) fits (none_begun (range_with_len 0 setup.config.clients))

-- it finds nothing wrong
pub board_lets_pass : (errors : Errors) (setup : SetupLists) (before : List ObservedBeat) (seen : ObservedBeat) → AllByRecursion FitsBeat before → FitsBeat seen
    → IsRight (from_zeros setup) (before ++ seen ∷ [])
    → unknown_wrong RealTime (board_in errors (from_zeros setup) (all_seen before)).board seen 0 ≡ None
board_lets_pass errors setup before seen fits own right =
    known-wrong RealTime (board_in errors (from_zeros setup) (all_seen before)).board seen own
    ∙ lets_right_pass (board_in errors (from_zeros setup) (all_seen before)).board seen errors setup before (board_is errors setup before fits) right
