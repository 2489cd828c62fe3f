-- The reply that a memory's answers make (this project's profile). Reads are numbered from 0 by rising address. On a bus of eight bytes a
-- transfer brings a word. On a bus of four it brings half a word: the lower half of its lanes are addresses 0 to 3 of the word.
use Rattle.std.specs.Prelude.{ℕ, ◌+◌, ◌*◌, ◌/◌, ◌%◌, ◌^◌, ◌==◌, min, max, Bool, true, false, nat_le, ◌&&◌, ◌||◌, not, List, [], map, replicate, Option, Some, None, if◌then◌else◌, slice_get, slice_set, slice_index_or, option_map}
use Rattle.std.specs.List.{range_with_len}
use Rattle.std.specs.Option.{option_flatten}
use Rattle.bus_words.specs.Lanes.{lane_byte}
use Rattle.tl_messages.specs.Lanes.{lane_of}
use Rattle.tl_messages.specs.Operations.{reply_has_data, beats_of}
use Rattle.tl_messages.specs.Requests.{WholeRequest}
use Rattle.tl_messages.specs.declared.Operation.TheVariants.{PutFull, PutPartial, Atomic, Get, Intent}
use Rattle.tl_messages.specs.declared.Operation.{Operation}
use Rattle.axi_beats.specs.Responses.{is_okay, is_slverr, is_decerr}
use Rattle.axi_beats.specs.declared.Resp.{Resp}
use Rattle.axi_beats.specs.declared.RBeat.{RBeat}
use Rattle.data_unit.specs.Words.{operand_in}
use Rattle.responses.specs.Shown.{Reply}
use Rattle.responses.specs.declared.gather.Outline.{Outline}

-- what is known of the answers to a request: how many reads came, never counted above all that it has, whether it is denied, and the words of
-- its range by rising address, of which one isn't given where a transfer of it failed
pub record Gathering : Type 0 where
  pub came : ℕ
  pub denied : Bool
  pub words : List (Option ℕ)

-- a request's outline and what was gathered for it, over a bus of so many bytes
pub record GatherState : Type 0 where
  pub bus_bytes : ℕ
  pub outline : Outline
  pub gathering : Gathering

-- what a reply needs of its request
abbrev pub outline_of : WholeRequest → Outline
outline_of q = record { operation = q.operation; size = q.size; source = q.source; address = q.address }

-- how many words the reply to a request has: one for each beat with data
abbrev pub words_of : Outline → ℕ
words_of outline = if reply_has_data outline.operation then beats_of outline.size true else 0

-- how many read transfers bring them
abbrev pub reads_of : ℕ → Outline → ℕ
reads_of bus_bytes outline = if reply_has_data outline.operation then max 1 (2 ^ outline.size / bus_bytes) else 0

-- before the first answer: each word is zero until its reads come
abbrev pub gathering_of : Outline → Bool → Gathering
gathering_of outline denied = record { came = 0; denied = denied; words = replicate (words_of outline) (Some 0) }

-- as after the start of a denied Put of one byte at address 0, source 0
abbrev pub opening_gather : ℕ → GatherState
opening_gather bus_bytes =
    record {
      bus_bytes = bus_bytes;
      outline = record { operation = PutFull; size = 0; source = 0; address = 0 };
      gathering = gathering_of (record { operation = PutFull; size = 0; source = 0; address = 0 }) true;
    }

-- a B other than OKAY denies
abbrev pub after_b : Resp → Gathering → Gathering
after_b resp gathering = record gathering { denied = gathering.denied || not (is_okay resp) }

-- on a bus of four bytes, which half a read brings, counted from the lower half of the first word: of eight bytes or more each half in its turn,
-- of fewer the one that the address is in
abbrev pub half_of_read : Outline → ℕ → ℕ
half_of_read outline place = if nat_le 3 outline.size then place else lane_of outline.address / 4

-- the word that a read belongs to
abbrev pub word_of_read : ℕ → Outline → ℕ → ℕ
word_of_read bus_bytes outline place = if bus_bytes == 4 then half_of_read outline place / 2 else place

-- a word of two halves, from the lower bits of two numbers
abbrev pub of_halves : ℕ → ℕ → ℕ
of_halves lower upper = lower % 2 ^ 32 + upper % 2 ^ 32 * 2 ^ 32

-- a word with its lower or its upper half replaced
abbrev pub with_half : Bool → ℕ → ℕ → ℕ
with_half lower payload word = if lower then of_halves payload (word / 2 ^ 32) else of_halves word payload

-- a word after the payload of one of its reads
abbrev pub with_payload : ℕ → Outline → ℕ → ℕ → ℕ → ℕ
with_payload bus_bytes outline place payload word =
    if bus_bytes == 4 then with_half (half_of_read outline place % 2 == 0) payload word else payload

-- a word after one of its reads: from SLVERR on it isn't given
abbrev pub word_after : ℕ → Outline → ℕ → RBeat → Option ℕ → Option ℕ
word_after bus_bytes outline place r word = if is_slverr r.resp then None else option_map (with_payload bus_bytes outline place r.payload) word

-- the words after a read
abbrev pub words_after : ℕ → Outline → ℕ → RBeat → List (Option ℕ) → List (Option ℕ)
words_after bus_bytes outline place r words =
    slice_set words (word_of_read bus_bytes outline place)
    (word_after bus_bytes outline place r (slice_index_or words (word_of_read bus_bytes outline place) None))

-- a read at its place; DECERR denies the whole reply. The count stops at the number of reads
abbrev pub after_r : ℕ → Outline → RBeat → ℕ → Gathering → Gathering
after_r bus_bytes outline r place gathering =
    record {
      came = min (gathering.came + 1) (reads_of bus_bytes outline);
      denied = gathering.denied || is_decerr r.resp;
      words = words_after bus_bytes outline place r gathering.words;
    }

-- the word that holds byte i of a request
abbrev pub word_gathered : Outline → List (Option ℕ) → ℕ → Option ℕ
word_gathered outline words i = option_flatten (slice_get words ((lane_of outline.address + i) / 8))

-- byte i of a request: its lane of its word, where that word is given
abbrev pub byte_gathered : Outline → List (Option ℕ) → ℕ → Option ℕ
byte_gathered outline words i = option_map (λ word. lane_byte word (lane_of (outline.address + i))) (word_gathered outline words i)

-- the reply; a denied one gives no bytes
abbrev pub gathered : Outline → Gathering → Reply
gathered outline gathering =
    record {
      denied = gathering.denied;
      bytes = if reply_has_data outline.operation && not gathering.denied then map (byte_gathered outline gathering.words) (range_with_len 0 (2 ^ outline.size)) else [];
    }

-- whether an operation is an atomic
abbrev pub is_atomic : Operation → Bool
is_atomic PutFull = false
is_atomic PutPartial = false
is_atomic (Atomic op) = true
is_atomic Get = false
is_atomic (Intent write) = false

-- whether a range is one number's: at most eight bytes, at a multiple of how many they are, as is that of each atomic that a checker lets pass
abbrev pub holds_number : Outline → Bool
holds_number outline = nat_le outline.size 3 && outline.address % 2 ^ outline.size == 0

-- the old value that the read of an atomic found: none where the request is denied or the read failed
abbrev pub old_value : Outline → Gathering → Option ℕ
old_value outline gathering =
    if is_atomic outline.operation && not gathering.denied && holds_number outline
    then option_map (λ word. operand_in word outline.address outline.size) (option_flatten (slice_get gathering.words 0))
    else None
