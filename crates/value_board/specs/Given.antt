-- What a whole message gives to each word of those that it acts on, and what an atomic makes of the bytes that its reply tells.
use Rattle.std.specs.Prelude.{ℕ, ◌-◌, ◌^◌, ◌%◌, ◌==◌, ◌&&◌, Bool, true, false, Option, Some, None, if◌then◌else◌, nat_le}
use Rattle.bus_words.specs.Lanes.{has_lane}
use Rattle.tl_messages.specs.Requests.{HeldMessage, beat_at}
use Rattle.tl_messages.specs.declared.AtomicOp.{AtomicOp}
use Rattle.tl_messages.specs.declared.DBeat.{DBeat}
use Rattle.tl_messages.specs.declared.Operation.{Operation}
use Rattle.tl_messages.specs.declared.Operation.TheVariants.{Atomic, Get, Intent, PutFull, PutPartial}
use Rattle.byte_values.specs.Words.{known_byte}
use Rattle.byte_values.specs.declared.known.KnownBytes.{KnownBytes}
use Rattle.data_unit.specs.Atomics.{atomic_result}
use Rattle.data_unit.specs.Words.{full_mask, merged, operand_in, placed_at}
use Rattle.scoreboard.specs.Telling.{bytes_told, lanes_with, nothing_told}
use Rattle.scoreboard.specs.declared.Errors.{Errors}
use Rattle.scoreboard.specs.declared.Errors.TheVariants.{Any, Strict}
use Rattle.scoreboard.specs.declared.tellings.Telling.{Telling}
use Rattle.value_board.specs.declared.client_values.AtomicStep.{AtomicStep}
use Rattle.value_board.specs.declared.given.GivenWord.{GivenWord}
use Rattle.value_board.specs.declared.given.Giving.{Giving}
use Rattle.value_board.specs.declared.given.Giving.TheVariants.{Anything, AsItSays, Nothing, Refused}

-- bytes of which nobody knows any
abbrev pub unknown_bytes : KnownBytes
unknown_bytes = record { value = 0; lanes = 0 }

-- whether a message is an atomic
abbrev pub is_atomic : Operation → Bool
is_atomic (Atomic op) = true
is_atomic PutFull = false
is_atomic PutPartial = false
is_atomic Get = false
is_atomic (Intent write) = false

-- the lanes of word k to which a message with data gives something that acts at an address: those of its mask; an atomic to all that it acts on
abbrev pub lanes_given : Bool → HeldMessage → ℕ → ℕ → ℕ
lanes_given atomic message address k = if atomic then full_mask address message.size else (beat_at message k).mask

-- what is known of that, where nobody knows some lanes; of an atomic nothing, before its reply tells what it found
abbrev pub known_given : Bool → HeldMessage → ℕ → ℕ → KnownBytes
known_given atomic message k hidden = if atomic then unknown_bytes else record { value = (beat_at message k).word; lanes = 255 - hidden }

-- what a message gives to word k: nothing, where it isn't carried out, or has no effect; what nobody knows, where it has failed
abbrev pub given_by_giving : Giving → Bool → HeldMessage → ℕ → ℕ → ℕ → GivenWord
given_by_giving Nothing atomic message address k hidden = record { lanes = 0; known = unknown_bytes }
given_by_giving Refused atomic message address k hidden = record { lanes = 0; known = unknown_bytes }
given_by_giving Anything atomic message address k hidden = record { lanes = lanes_given atomic message address k; known = unknown_bytes }
given_by_giving AsItSays atomic message address k hidden = record { lanes = lanes_given atomic message address k; known = known_given atomic message k hidden }

abbrev pub given_word : Giving → HeldMessage → ℕ → ℕ → ℕ → GivenWord
given_word giving message address k hidden = given_by_giving giving (is_atomic message.operation) message address k hidden

-- how much of it counts that is carried out, by whether it is an atomic, whether a read of its word is refused, and whether it has failed
abbrev pub giving_carried : Bool → Bool → Bool → Giving
giving_carried atomic refuses failed = if atomic && refuses then (if failed then Nothing else Refused) else (if failed then Anything else AsItSays)

-- whether a beat of it was corrupt, so that it isn't carried out
abbrev pub is_dropped : Errors → HeldMessage → Bool
is_dropped Strict message = message.corrupt
is_dropped Any message = false

abbrev pub giving_of : Errors → Bool → Bool → HeldMessage → Giving
giving_of errors refuses failed message = if is_dropped errors message then Nothing else giving_carried (is_atomic message.operation) refuses failed

-- whether it takes effect
abbrev pub is_sure : Giving → Bool
is_sure Nothing = false
is_sure Refused = true
is_sure Anything = false
is_sure AsItSays = true

-- what is given to a lane: None where nothing is, and Some None where nobody knows what
abbrev pub given_as : ℕ → GivenWord → Option (Option ℕ)
given_as lane given = if has_lane given.lanes lane then Some (known_byte lane given.known) else None

-- ---- what is compared

-- what a beat tells where another is due, and some lanes are compared
abbrev pub lanes_telling : DBeat → ℕ → Telling
lanes_telling due lanes =
    if due.opcode == 1
    then record { told = bytes_told due.size; compared = lanes_with (has_lane lanes); lanes = lanes; due = due.payload }
    else nothing_told

-- ---- atomics

-- an operation and its operand, by the message's one beat, on the bytes at an address
abbrev pub step_of : AtomicOp → HeldMessage → ℕ → AtomicStep
step_of op message address =
    record {
      op = op;
      address = address;
      size = message.size;
      operand = operand_in (merged 0 (beat_at message 0).word (beat_at message 0).mask) address message.size;
    }

-- where these are at most eight, at a multiple of their number
abbrev pub step_at : AtomicOp → HeldMessage → ℕ → Option AtomicStep
step_at op message address = if nat_le message.size 3 && (address % 2 ^ message.size == 0) then Some (step_of op message address) else None

-- the word that it leaves of a payload that tells all that it reads
abbrev pub made_word : AtomicStep → ℕ → KnownBytes
made_word step payload =
    record {
      value = placed_at (atomic_result step.op (2 ^ step.size) (operand_in payload step.address step.size) step.operand) step.address step.size;
      lanes = full_mask step.address step.size;
    }
