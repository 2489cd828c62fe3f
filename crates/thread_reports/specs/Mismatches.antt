-- Where what workers brought back differs from the stored steps made once more: of which client first, and at which of its receipts; or in
-- nothing that one client shows. It knows lists alone; how they are compared is hidden.
use Rattle.std.specs.Prelude.{ℕ, ◌≡◌, ◌≢◌, ◌<◌, ◌≤◌, ◌^◌, ◌-◌, ◌⊎◌, false, List, length, take, Some, slice_get}
use Rattle.tl_messages.specs.declared.ABeat.{ABeat}
use Rattle.world_run.specs.Runs.{HandedReply, accepted_numbers, answers_of, handed_in}
use Rattle.world.specs.World.{WorldState, after, in_flight}
use Rattle.world.specs.declared.Step.{Step}
use Rattle.thread_reports.specs.Histories.{all_change}
use Rattle.thread_reports.specs.Replays.{AreFirstReceipts, HasReceipt}
use Rattle.thread_reports.specs.Reports.{AreClientReports, IsClientReport, handed_to}
use Rattle.thread_reports.specs.declared.receipts.Receipts.{Receipts}

-- the receipts before a place are the first replies, and the next reply, if there is one, isn't the receipt there: so the receipt at the place is
-- the first that differs, if there is one, and else it is the place after the last
pub record EndsAt (receipts : Receipts) (replies : List HandedReply) (place : ℕ) : Type 0 where
  pub beats : ℕ
  pub same : AreFirstReceipts receipts (take place replies) place beats
  pub differs : (reply : HandedReply) → slice_get replies place ≡ Some reply → HasReceipt receipts place beats reply.number reply.beats → ⊥

-- the first client by number that hasn't its part of a report, and the place at which its receipts end to be the replies, as far as 32 bits name it
pub record IsWrongClient (start : WorldState) (steps : List Step) (scripts : List (List ABeat)) (receipts : List Receipts) (client index : ℕ) : Type 0 where
  pub script : List ABeat
  pub received : Receipts
  pub place : ℕ
  pub script_is : slice_get scripts client ≡ Some script
  pub received_is : slice_get receipts client ≡ Some received
  pub wrong : IsClientReport start steps client script received → ⊥
  pub first :
      (other : ℕ) (its : List ABeat) (taken : Receipts) → other < client → slice_get scripts other ≡ Some its → slice_get receipts other ≡ Some taken
      → IsClientReport start steps other its taken
  pub ends : EndsAt received (handed_to client start steps) place
  pub index_is : place < 2 ^ 32 → index ≡ place

-- what no client shows: a step changed nothing, something is in flight at the end, there aren't as many replies handed out as requests accepted,
-- or more requests were accepted than can be counted
abbrev pub IsUnsettled : WorldState → List Step → Type 0
IsUnsettled start steps =
    (all_change start steps ≡ false) ⊎ (in_flight (after start steps) ≢ 0)
    ⊎ (length (accepted_numbers (answers_of start steps)) ≢ length (handed_in start steps)) ⊎ (2 ^ 64 - 1 ≤ length (accepted_numbers (answers_of start steps)))

-- why steps aren't those of a report: there aren't receipts for each client; or a client hasn't its part; or each has, and what no client shows
-- isn't so. Where it is no client's, it is told as client 0, index 0
abbrev pub IsMismatch : WorldState → List Step → List (List ABeat) → List Receipts → ℕ → ℕ → Type 0
IsMismatch start steps scripts receipts client index =
    ((length receipts ≢ length scripts) × (client ≡ 0) × (index ≡ 0)) ⊎ IsWrongClient start steps scripts receipts client index
    ⊎ (AreClientReports start steps scripts receipts × IsUnsettled start steps × (client ≡ 0) × (index ≡ 0))
