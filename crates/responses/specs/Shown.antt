-- Replies, and the beats on channel D that show them (TileLink 1.8, channel D, byte lanes; this project's profile: a beat whose bytes
-- aren't all given is corrupt, a denied reply with data is corrupt on each beat, and a payload that says nothing is zero).
use Rattle.std.specs.Prelude.{ℕ, ◌+◌, ◌*◌, Bool, true, false, ◌&&◌, ◌||◌, List, [], ◌∷◌, map, Option, is_none, if◌then◌else◌}
use Rattle.std.specs.List.{range_with_len, list_any}
use Rattle.bus_words.specs.Lanes.{word_address, payload_of, given_at}
use Rattle.tl_messages.specs.Lanes.{in_range}
use Rattle.tl_messages.specs.Operations.{reply_opcode, reply_has_data, beats_of}
use Rattle.tl_messages.specs.Requests.{WholeRequest}
use Rattle.tl_messages.specs.declared.DBeat.{DBeat}

-- a reply: whether it is denied, and for Get and atomics the 2^size bytes, of which some may not be given
pub record Reply : Type 0 where
  pub denied : Bool
  pub bytes : List (Option ℕ)

-- the address of a lane's byte in word j of a request's range
abbrev pub address_in_word : WholeRequest → ℕ → ℕ → ℕ
address_in_word q j lane = word_address q.address + 8 * j + lane

-- whether a byte of word j isn't given
abbrev pub lacks_a_byte : WholeRequest → Reply → ℕ → Bool
lacks_a_byte q reply j =
    list_any (λ lane. in_range q.address q.size (address_in_word q j lane) && is_none (given_at reply.bytes q.address (address_in_word q j lane))) (range_with_len 0 8)

-- the beat of a reply without data
abbrev pub beat_without_data : WholeRequest → Reply → DBeat
beat_without_data q reply =
    record { opcode = reply_opcode q.operation; param = 0; size = q.size; source = q.source; denied = reply.denied; payload = 0; corrupt = false }

-- the beat of word j of a reply with data: the bytes in their lanes, or corrupt with payload zero
abbrev pub beat_of_word : WholeRequest → Reply → ℕ → DBeat
beat_of_word q reply j =
    if reply.denied || lacks_a_byte q reply j
    then record (beat_without_data q reply) { corrupt = true }
    else record (beat_without_data q reply) { payload = payload_of (λ lane. given_at reply.bytes q.address (address_in_word q j lane)) }

-- the beats of a reply
abbrev pub shown : WholeRequest → Reply → List DBeat
shown q reply =
    if reply_has_data q.operation
    then map (beat_of_word q reply) (range_with_len 0 (beats_of q.size true))
    else (beat_without_data q reply ∷ [])
