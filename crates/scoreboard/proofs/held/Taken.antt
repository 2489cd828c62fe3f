-- A request that came whole, where it was accepted.
use Rattle.std.proofs.Common.{◌≡◌, ◌/◌, ℕ, Bool, List, true, sym, subst}
use Rattle.std.specs.Prelude.{IfSome}
use Rattle.burst_plan.specs.declared.Region.{Region}
use Rattle.serial_memory.specs.SerialMemory.{memory_of, on_good_page, rooms_of}
use Rattle.subordinate.specs.Faults.{Faults}
use Rattle.tl_messages.specs.Operations.{has_data}
use Rattle.tl_messages.specs.Requests.{HeldMessage, request_of}
use Rattle.burst_plan.specs.PageMap.{address_of}
use Rattle.scoreboard.specs.Boards.{acting}
use Rattle.scoreboard.specs.InsideBoards.{BoardState, IsAcceptedBeside, IsTaken}
use Rattle.scoreboard.specs.declared.Errors.{Errors}

-- that it has room, by what that rests on
abbrev has_room : Faults → List Region → (ℕ → Bool) → Errors → HeldMessage → Type 0
has_room faults regions rooms errors request =
    has_data (acting errors (request_of request)).operation ≡ true
    → IfSome (on_good_page faults (address_of regions (acting errors (request_of request)))) (λ address. rooms (address / 4096) ≡ true)

pub taken_beside : (old new : BoardState) → IsAcceptedBeside old new → IsTaken old → IsTaken new
taken_beside old new rest taken =
    let faults = (memory_of new.memory).faults in
    let regions = (memory_of new.memory).regions in
    let rooms = rooms_of new.memory in
    record {
      checked = rw rest.request taken.checked;
      room = subst (λ (request : HeldMessage). has_room faults regions rooms new.errors request) (sym rest.request)
          (subst (λ (errors : Errors). has_room faults regions rooms errors old.request) (sym rest.errors)
          (subst (λ (r : ℕ → Bool). has_room faults regions r old.errors old.request) (sym rest.rooms)
          (subst (λ (r : List Region). has_room faults r (rooms_of old.memory) old.errors old.request) (sym rest.regions)
          (subst (λ (f : Faults). has_room f (memory_of old.memory).regions (rooms_of old.memory) old.errors old.request) (sym rest.faults) taken.room))));
    }
