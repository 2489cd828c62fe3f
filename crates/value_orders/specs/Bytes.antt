-- What each request does to one byte of the memory, as an access of it.
use Rattle.std.specs.Prelude.{ℕ, ◌%◌, ◌+◌, ◌-◌, ◌^◌, Bool, true, false, ◌&&◌, ◌||◌, not, List, [], ◌∷◌, map, Option, Some, None, if◌then◌else◌, is_none, option_map, slice_get, unwrap_or}
use Rattle.std.specs.List.{list_any, range_with_len}
use Rattle.bus_words.specs.Lanes.{given_at}
use Rattle.byte_orders.specs.Accesses.{Access, IsExplained, with_told}
use Rattle.data_unit.specs.Atomics.{atomic_result, operand_of}
use Rattle.data_unit.specs.Words.{bytes_of, value}
use Rattle.setups.specs.Setups.{SetupLists, faults_of}
use Rattle.subordinate.specs.Faults.{is_bad}
use Rattle.tl_messages.specs.Operations.{has_data}
use Rattle.tl_messages.specs.Requests.{WholeRequest}
use Rattle.tl_messages.specs.declared.AtomicOp.{AtomicOp}
use Rattle.tl_messages.specs.declared.Operation.{Operation}
use Rattle.tl_messages.specs.declared.Operation.TheVariants.{Atomic, Get, Intent, PutFull, PutPartial}
use Rattle.scoreboard.specs.Boards.{Beginning}
use Rattle.scoreboard.specs.Orders.{has_failed}
use Rattle.scoreboard.specs.Unknown.{is_unknown_given}
use Rattle.scoreboard.specs.declared.Errors.{Errors}
use Rattle.value_orders.specs.Histories.{History, Past, all_past}
use Rattle.value_orders.specs.Places.{acts_at, acts_on}

-- ---- what a whole request gives, that hasn't failed

-- whether nobody knows byte i of those that a request gave, from an address on
abbrev pub is_hidden_byte : List ℕ → ℕ → ℕ → Bool
is_hidden_byte hidden address i = is_unknown_given hidden (address % 8) (address % 8 + i)

-- the byte at an address, of a request that acts at another
abbrev pub is_hidden_at : Past → ℕ → ℕ → Bool
is_hidden_at past address x = is_hidden_byte past.hidden address (x - address)

-- of a Put, where its mask has that byte
abbrev pub given_by : Past → ℕ → ℕ → Option (Option ℕ)
given_by past address x = option_map (λ byte. if is_hidden_at past address x then None else Some byte) (given_at past.entry.request.bytes address x)

-- the addresses of an atomic's bytes
abbrev pub range_of : WholeRequest → ℕ → List ℕ
range_of q address = range_with_len address (2 ^ q.size)

-- whether nobody knows what an atomic makes: it wasn't told all that it reads, or nobody knows a byte of its operand
abbrev pub is_in_doubt : Past → ℕ → Bool
is_in_doubt past address = list_any (λ x. is_none (past.told x) || is_hidden_at past address x) (range_of past.entry.request address)

-- what it makes of what it was told
abbrev pub made_of : AtomicOp → WholeRequest → ℕ → (ℕ → Option ℕ) → List ℕ
made_of op q address told =
    bytes_of (2 ^ q.size) (atomic_result op (2 ^ q.size) (value (map (λ x. unwrap_or (told x) 0) (range_of q address))) (operand_of q))

-- of an atomic: nothing where its word is bad
abbrev pub made_by : SetupLists → AtomicOp → Past → ℕ → ℕ → Option (Option ℕ)
made_by setup op past address x =
    if is_bad (faults_of setup) address then None
    else Some (if is_in_doubt past address then None else slice_get (made_of op past.entry.request address past.told) (x - address))

abbrev pub left_by : SetupLists → Operation → Past → ℕ → ℕ → Option (Option ℕ)
left_by setup (Atomic op) past address x = made_by setup op past address x
left_by setup PutFull past address x = given_by past address x
left_by setup PutPartial past address x = given_by past address x
left_by setup Get past address x = None
left_by setup (Intent write) past address x = None

-- ---- what any gives

-- whether a request has failed, or may have, where errors are told in any way
abbrev pub is_failed : SetupLists → Errors → Past → Bool
is_failed setup errors past = has_failed errors setup past.entry

-- by whether it is whole, and has failed: nobody knows what a request gives before it is whole, nor what one leaves that has failed
abbrev pub gives_as : SetupLists → Bool → Bool → Past → ℕ → ℕ → Option (Option ℕ)
gives_as setup false failed past address x = Some None
gives_as setup true true past address x = option_map (λ byte. None) (left_by setup past.entry.request.operation past address x)
gives_as setup true false past address x = left_by setup past.entry.request.operation past address x

-- nothing where it doesn't act on the byte, or has no data
abbrev pub gives_from : SetupLists → Errors → Past → Option ℕ → ℕ → Option (Option ℕ)
gives_from setup errors past None x = None
gives_from setup errors past (Some address) x = gives_as setup past.entry.whole (is_failed setup errors past) past address x

-- whether it may write the byte
abbrev pub may_write_at : SetupLists → Errors → Past → ℕ → Bool
may_write_at setup errors past x = has_data past.entry.request.operation && acts_on setup errors past.entry.request x

abbrev pub gives_at : SetupLists → Errors → Past → ℕ → Option (Option ℕ)
gives_at setup errors past x =
    if may_write_at setup errors past x
    then gives_from setup errors past (acts_at setup errors past.entry.request) x
    else None

-- whether it takes effect there: it may write, is whole, hasn't failed, and wasn't cut off
abbrev pub is_sure : SetupLists → Errors → Past → ℕ → Bool
is_sure setup errors past x =
    may_write_at setup errors past x && past.entry.whole && not (is_failed setup errors past) && not past.cut

-- ---- accesses

-- that of a request by its number
abbrev pub access_of : SetupLists → Errors → ℕ → ℕ → Past → Access
access_of setup errors x number past =
    record { begun = number; ended = past.ended; told = past.told x; gives = gives_at setup errors past x; sure = is_sure setup errors past x }

-- those of all, the first of which has a number
abbrev pub accesses_from : SetupLists → Errors → ℕ → ℕ → List Past → List Access
accesses_from setup errors x number [] = []
accesses_from setup errors x number (past ∷ pasts) = access_of setup errors x number past ∷ accesses_from setup errors x (number + 1) pasts

-- what a history has of a byte
abbrev pub accesses_in : SetupLists → Errors → History → ℕ → List Access
accesses_in setup errors history x = accesses_from setup errors x 1 (all_past history)

-- what it was at the start, where that is known
abbrev pub byte_at_start : Beginning → ℕ → Option ℕ
byte_at_start beginning x = if beginning.unknown x then None else Some (beginning.bytes x)

-- no order of the accesses of a byte, in which each was told what it was told, has a request be told this too, by its number
abbrev pub NoneExplains : Beginning → Errors → History → ℕ → ℕ → ℕ → Type 0
NoneExplains beginning errors history x number byte =
    IsExplained (byte_at_start beginning x) (with_told number byte (accesses_in beginning.lists errors history x)) → ⊥

-- an access without what it was told
abbrev pub untold : Access → Access
untold a = record a { told = None }

-- no order of the accesses of a byte has a request be told this, by its number, whatever was told else
abbrev pub NoneTells : Beginning → Errors → History → ℕ → ℕ → ℕ → Type 0
NoneTells beginning errors history x number byte =
    IsExplained (byte_at_start beginning x) (with_told number byte (map untold (accesses_in beginning.lists errors history x))) → ⊥
