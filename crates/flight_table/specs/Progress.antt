-- The steps of a live request, and by how much each lowers the sums.
use Rattle.std.specs.Prelude.{◌≡◌, ◌+◌, ◌<◌, ◌≤◌, Bool, false, true, length}
use Rattle.flight_table.specs.LiveRequests.{LiveRequest, finished, planned, with_answered, with_sent, with_write}
use Rattle.flight_table.specs.Sums.{one_undone}
use Rattle.flight_table.specs.Work.{unsent_work, work_of}
use Rattle.flight_table.specs.declared.live_request.Step.{Step}
use Rattle.flight_table.specs.declared.live_request.Step.TheVariants.{Sent, Answered, Writes, Done}
use Rattle.flight_table.specs.declared.sums.Sums.{Sums}

-- what becomes of a request
abbrev pub stepped : Step → LiveRequest → LiveRequest
stepped (Sent id) = with_sent id
stepped Answered = with_answered
stepped Writes = with_write
stepped Done = finished

-- whether a request is done by it
abbrev pub ends : Step → Bool
ends (Sent id) = false
ends Answered = false
ends Writes = false
ends Done = true

-- all bursts of its phase are sent and answered
pub record HasAnswers (request : LiveRequest) : Type 0 where
  pub all : length (planned request) ≤ request.answered
  pub sent : request.answered ≤ request.sent

-- which request may take which step
abbrev pub MayStep : Step → LiveRequest → Type 0
MayStep (Sent id) request = (request.done ≡ false) × (request.sent < length (planned request))
MayStep Answered request = (request.answered < request.sent) × (request.sent ≤ length (planned request))
MayStep Writes request = (request.done ≡ false) × (request.writing ≡ false) × HasAnswers request
MayStep Done request = HasAnswers request

-- a step lowers the sums by so much
pub record IsWorth (step : Step) (request : LiveRequest) (worth : Sums) : Type 0 where
  pub undone : one_undone (stepped step request) + worth.undone ≡ one_undone request
  pub work : work_of (stepped step request) + worth.work ≡ work_of request
  pub unsent : unsent_work (stepped step request) + worth.unsent ≡ unsent_work request
