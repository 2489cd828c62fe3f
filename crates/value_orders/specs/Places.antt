-- Where requests act in the memory: on which bytes, and on which word each beat.
use Rattle.std.specs.Prelude.{ℕ, ◌+◌, ◌/◌, ◌^◌, ◌==◌, Bool, false, ◌&&◌, Option, Some, None, nat_le, nat_lt}
use Rattle.burst_plan.specs.PageMap.{address_of}
use Rattle.serial_memory.specs.SerialMemory.{on_good_page}
use Rattle.setups.specs.Setups.{SetupLists, faults_of}
use Rattle.tl_messages.specs.Requests.{WholeRequest}
use Rattle.scoreboard.specs.Boards.{acting}
use Rattle.scoreboard.specs.declared.Errors.{Errors}

-- the address of a good page at which a request acts, if it has one: where errors are told in any way one that is corrupt may act all the same
abbrev pub acts_at : SetupLists → Errors → WholeRequest → Option ℕ
acts_at setup errors q = on_good_page (faults_of setup) (address_of setup.regions (acting errors q))

-- whether a byte is one of 2^size from an address on
abbrev pub covers_from : Option ℕ → ℕ → ℕ → Bool
covers_from None size x = false
covers_from (Some address) size x = nat_le address x && nat_lt x (address + 2 ^ size)

-- whether a request acts on a byte
abbrev pub acts_on : SetupLists → Errors → WholeRequest → ℕ → Bool
acts_on setup errors q x = covers_from (acts_at setup errors q) q.size x

-- whether a byte is in word k of those from an address on
abbrev pub is_in_word : Option ℕ → ℕ → ℕ → Bool
is_in_word None k x = false
is_in_word (Some address) k x = x / 8 == address / 8 + k
