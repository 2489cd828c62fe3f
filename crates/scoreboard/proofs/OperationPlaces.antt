-- Where a request acts is where its operation does.
use Rattle.std.proofs.Common.{◌≡◌, Bool, false, None, if◌then◌else◌, refl, ap}
use Rattle.burst_plan.specs.PageMap.{translated}
use Rattle.tl_messages.specs.Requests.{WholeRequest}
use Rattle.serial_memory.specs.SerialMemory.{on_good_page, place_at, place_in}
use Rattle.scoreboard.specs.Boards.{Board, acting, place_on}
use Rattle.scoreboard.specs.declared.Errors.{Errors}
use Rattle.scoreboard.specs.declared.Errors.TheVariants.{Any, Strict}

-- a request that isn't corrupt acts where its operation does
pub place_sound : (board : Board) (q : WholeRequest) → q.corrupt ≡ false → place_on board q ≡ place_at board.memory q.operation q.address
place_sound board q sound = by_errors board.errors
  where
    by_errors : (errors : Errors) → place_in board.memory (acting errors q) ≡ place_at board.memory q.operation q.address
    by_errors Strict =
        ap (λ (corrupt : Bool). on_good_page board.memory.faults (if corrupt then None else translated board.memory.regions q.operation q.address)) sound
    by_errors Any = refl

-- and where errors are told in any way each request
pub place_any : (board : Board) (q : WholeRequest) → board.errors ≡ Any → place_on board q ≡ place_at board.memory q.operation q.address
place_any board q any = ap (λ (errors : Errors). place_in board.memory (acting errors q)) any
