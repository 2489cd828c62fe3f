-- What a request means, by the address that it has.
use Rattle.std.proofs.Common.{◌≡◌, ℕ, List, Some, None, arith}
use Rattle.tl_messages.specs.Requests.{WholeRequest}
use Rattle.burst_plan.specs.PageMap.{address_of}
use Rattle.burst_plan.specs.declared.Region.{Region}
use Rattle.subordinate.specs.Faults.{Faults, is_bad, standing_at}
use Rattle.meaning.specs.Meaning.{Bytes, denied, effect, meaning}

pub meaning_none : (faults : Faults) (regions : List Region) (q : WholeRequest) (m : Bytes) → address_of regions q ≡ None → meaning faults regions q m ≡ record { reply = denied; after = m }
meaning_none faults regions q m none = grind (arith, none)

pub meaning_some : (faults : Faults) (regions : List Region) (q : WholeRequest) (m : Bytes) (a : ℕ) → address_of regions q ≡ Some a
    → meaning faults regions q m ≡ effect faults q m a q.operation (standing_at faults a) (is_bad faults a)
meaning_some faults regions q m a some = grind (arith, some)
