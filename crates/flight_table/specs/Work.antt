-- The work that is left (this project's profile): bursts to send, beats to perform, answers to come.
use Rattle.std.specs.Prelude.{◌≡◌, ℕ, ◌+◌, Bool, true, List, length, drop, sum_by, if◌then◌else◌}
use Rattle.std.specs.List.{AllByRecursion}
use Rattle.burst_plan.specs.declared.Piece.{Piece}
use Rattle.flight_table.specs.LiveRequests.{LiveRequest, planned, write_pieces}
use Rattle.flight_table.specs.Tables.{FlightTable}

-- the beats of a piece, and the answers to its burst: one for a write, one for each beat of a read; true is a write
abbrev pub beats_of_burst : Piece → ℕ
beats_of_burst piece = piece.len + 1

abbrev pub answers_of_burst : Bool → Piece → ℕ
answers_of_burst write piece = if write then 1 else piece.len + 1

-- to perform and to answer each of the bursts is so much work
abbrev pub AreWorth : ℕ → Bool → List Piece → Type 0
AreWorth each write pieces = AllByRecursion (λ piece. beats_of_burst piece + answers_of_burst write piece ≡ each) pieces

-- the work of bursts of which none was sent: to send each, to perform its beats, to answer it
abbrev pub work_of_bursts : Bool → List Piece → ℕ
work_of_bursts write pieces = length pieces + sum_by beats_of_burst pieces + sum_by (answers_of_burst write) pieces

-- the work of what a request has still to write once it has read: that of an atomic that doesn't write yet
abbrev pub later_work : LiveRequest → ℕ
later_work request = if request.writing then 0 else work_of_bursts true (write_pieces request)

-- the work of a request that isn't done, as though no beat of an unanswered burst was performed or answered; the write of an atomic counts from
-- the start
abbrev pub work_of : LiveRequest → ℕ
work_of request =
    if request.done then 0
    else length (drop request.sent (planned request)) + sum_by beats_of_burst (drop request.answered (planned request))
    + sum_by (answers_of_burst request.writing) (drop request.answered (planned request)) + later_work request

abbrev pub work : FlightTable → ℕ
work table = sum_by work_of table.live

-- the work of the bursts that a request has still to send
abbrev pub unsent_work : LiveRequest → ℕ
unsent_work request = if request.done then 0 else work_of_bursts request.writing (drop request.sent (planned request)) + later_work request

-- the work that a request spared: that of the write of an atomic that is done and never came to write, since its read failed
abbrev pub spared_work : LiveRequest → ℕ
spared_work request = if request.done then later_work request else 0

-- the unsent work of all live requests
abbrev pub unsent : FlightTable → ℕ
unsent table = sum_by unsent_work table.live
