-- Requests as wholes, and what a port holds of a message that has begun.
use Rattle.std.specs.Prelude.{ℕ, ◌+◌, ◌/◌, ◌^◌, Bool, false, ◌||◌, List, [], ◌∷◌, ◌++◌, map, length, Option, Some, None, if◌then◌else◌, slice_get, slice_index_or, option_and_then, nat_le}
use Rattle.std.specs.List.{range_with_len, list_any}
use Rattle.bus_words.specs.Lanes.{lane_byte, has_lane}
use Rattle.tl_messages.specs.Lanes.{lane_of}
use Rattle.tl_messages.specs.Operations.{operation_of, has_data, beats_of}
use Rattle.tl_messages.specs.declared.ABeat.{ABeat}
use Rattle.tl_messages.specs.declared.MaskedWord.{MaskedWord}
use Rattle.tl_messages.specs.declared.request.Head.{Head}
use Rattle.tl_messages.specs.declared.Operation.{Operation}
use Rattle.tl_messages.specs.declared.Operation.TheVariants.{Get}

-- a request as a whole: who asks for what, of which 2^size bytes, the bytes that it gives, and whether a beat was corrupt
pub record WholeRequest : Type 0 where
  pub client : ℕ
  pub source : ℕ
  pub operation : Operation
  pub size : ℕ
  pub address : ℕ
  pub bytes : List (Option ℕ)
  pub corrupt : Bool

-- a message of which some beats have come: the first beat's fields, each beat's payload with its mask, and whether a beat was corrupt
pub record HeldMessage : Type 0 where
  pub client : ℕ
  pub source : ℕ
  pub operation : Operation
  pub size : ℕ
  pub address : ℕ
  pub corrupt : Bool
  pub beats : List MaskedWord

-- a beat's payload with its mask
abbrev pub masked_word : ABeat → MaskedWord
masked_word beat = record { word = beat.payload; mask = beat.mask }

-- the message whose first beat has these fields, and of which these beats have come
abbrev pub message_held : Head → List MaskedWord → HeldMessage
message_held head beats =
    record {
      client = head.client;
      source = head.source;
      operation = head.operation;
      size = head.size;
      address = head.address;
      corrupt = head.corrupt;
      beats = beats;
    }

-- a Get of one byte at address 0, of which no beat has come
abbrev pub no_message : HeldMessage
no_message = record { client = 0; source = 0; operation = Get; size = 0; address = 0; corrupt = false; beats = [] }

-- a message after its first beat
abbrev pub begun : ℕ → ABeat → HeldMessage
begun client beat =
    record {
      client = client;
      source = beat.source;
      operation = operation_of beat.opcode beat.param;
      size = beat.size;
      address = beat.address;
      corrupt = beat.corrupt;
      beats = masked_word beat ∷ [];
    }

-- the message with one more beat
abbrev pub with_beat : HeldMessage → ABeat → HeldMessage
with_beat held beat = record held { corrupt = held.corrupt || beat.corrupt; beats = held.beats ++ masked_word beat ∷ [] }

-- what is held of a list of beats that isn't empty
abbrev pub message_of : ℕ → ABeat → List ABeat → HeldMessage
message_of client first rest =
    record (begun client first) { corrupt = list_any (λ beat. beat.corrupt) (first ∷ rest); beats = map masked_word (first ∷ rest) }

-- what is held of a list of beats
abbrev pub held_of : ℕ → List ABeat → Option HeldMessage
held_of client [] = None
held_of client (first ∷ rest) = Some (message_of client first rest)

-- payload and mask of beat k of a message; zero where there is no such beat
abbrev pub beat_at : HeldMessage → ℕ → MaskedWord
beat_at held k = slice_index_or held.beats k (record { word = 0; mask = 0 })

-- whether all beats of the message have come
abbrev pub is_whole : HeldMessage → Bool
is_whole held = nat_le (beats_of held.size (has_data held.operation)) (length held.beats)

-- the byte that a beat gives in a lane: what its payload has there, where its mask has that lane
abbrev pub given_in : ℕ → MaskedWord → Option ℕ
given_in lane beat = if has_lane beat.mask lane then Some (lane_byte beat.word lane) else None

-- byte i of a request at an address: lane (address + i) mod 8 of beat i / 8
abbrev pub byte_given : ℕ → List MaskedWord → ℕ → Option ℕ
byte_given address beats i = option_and_then (given_in (lane_of (address + i))) (slice_get beats (i / 8))

-- the 2^size bytes that a message gives: those of its data, or none
abbrev pub bytes_given : HeldMessage → List (Option ℕ)
bytes_given held =
    map (λ i. if has_data held.operation then byte_given held.address held.beats i else None) (range_with_len 0 (2 ^ held.size))

-- the request that a whole message is
abbrev pub request_of : HeldMessage → WholeRequest
request_of held =
    record {
      client = held.client;
      source = held.source;
      operation = held.operation;
      size = held.size;
      address = held.address;
      bytes = bytes_given held;
      corrupt = held.corrupt;
    }
