-- Sums over the live requests.
use Rattle.std.specs.Prelude.{◌≡◌, ℕ, ◌+◌, ◌≤◌, List, length, sum_by, if◌then◌else◌}
use Rattle.std.specs.List.{AllByRecursion}
use Rattle.flight_table.specs.LiveRequests.{LiveRequest}
use Rattle.flight_table.specs.Work.{unsent_work, work_of}
use Rattle.flight_table.specs.declared.sums.Sums.{Sums}

abbrev pub one_undone : LiveRequest → ℕ
one_undone request = if request.done then 0 else 1

abbrev pub no_sums : Sums
no_sums = record { undone = 0; work = 0; unsent = 0 }

abbrev pub with_sums : LiveRequest → Sums → Sums
with_sums request sums =
    record { undone = sums.undone + one_undone request; work = sums.work + work_of request; unsent = sums.unsent + unsent_work request }

abbrev pub sums_of : List LiveRequest → Sums
sums_of live = record { undone = sum_by one_undone live; work = sum_by work_of live; unsent = sum_by unsent_work live }

-- as small as the sums of 64 requests
pub record AreSmall (sums : Sums) : Type 0 where
  pub undone : sums.undone ≤ 64
  pub work : sums.work ≤ 6400000000
  pub unsent : sums.unsent ≤ 6400000000

-- as small as the work of a planned range
pub record IsSmall (request : LiveRequest) : Type 0 where
  pub work : work_of request ≤ 100000000
  pub unsent : unsent_work request ≤ 100000000

-- two sums together
abbrev pub plus_sums : Sums → Sums → Sums
plus_sums part rest = record { undone = rest.undone + part.undone; work = rest.work + part.work; unsent = rest.unsent + part.unsent }

-- no larger than others
pub record ArePart (part sums : Sums) : Type 0 where
  pub undone : part.undone ≤ sums.undone
  pub work : part.work ≤ sums.work
  pub unsent : part.unsent ≤ sums.unsent

-- the sums are those of the live requests, of which there are at most 64
pub record IsSummed (live : List LiveRequest) (sums : Sums) : Type 0 where
  pub sums_are : sums ≡ sums_of live
  pub small : AllByRecursion IsSmall live
  pub few : length live ≤ 64
