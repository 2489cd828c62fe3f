-- The law of a run: what no order of the accesses of a byte tells a request, no order of the requests does in which each atomic finds what it was told.
use Rattle.std.proofs.Common.{◌≡◌, ℕ, List}
use Rattle.byte_orders.specs.Accesses.{IsOneOf}
use Rattle.meaning.specs.Meaning.{Bytes}
use Rattle.tl_messages.specs.Requests.{WholeRequest}
use Rattle.scoreboard.specs.Boards.{Beginning, MayBegin}
use Rattle.scoreboard.specs.declared.Errors.{Errors}
use Rattle.value_orders.specs.Bytes.{NoneTells}
use Rattle.value_orders.specs.Histories.{Happening, board_in, history_in}
use Rattle.value_orders.specs.RunOrders.{AtomicsFind, IsRunOrder, MayBeAll, bytes_before, past_of}
use Rattle.value_orders.proofs.OrdersTell.{orders_tell}
use Rattle.value_orders.proofs.WellHistories.{all_well, kept_in}
use Rattle.value_orders.proofs.WholeEffects.{does}

pub runs_tell : (errors : Errors) (beginning : Beginning) (happenings : List Happening) (requests : ℕ → WholeRequest) (numbers : List ℕ) (start : Bytes) (x number byte : ℕ)
    → IsRunOrder (history_in errors beginning happenings) numbers → IsOneOf number numbers → MayBeAll (history_in errors beginning happenings) requests → MayBegin beginning start
    → AtomicsFind beginning.lists (history_in errors beginning happenings) requests start numbers
    → NoneTells beginning errors (history_in errors beginning happenings) x number byte
    → bytes_before beginning.lists requests start numbers number x ≡ byte → ⊥
runs_tell errors beginning happenings requests numbers start x number byte order there may begins find none is =
    let history = history_in errors beginning happenings in
    orders_tell beginning errors history requests x number byte numbers start
    (λ other from_one some m finds.
    does beginning.lists errors (past_of history other) (requests other)
    (all_well errors (board_in errors beginning happenings).board history (kept_in errors beginning happenings) other from_one some) (may other from_one some) m x finds)
    order there begins find none is
