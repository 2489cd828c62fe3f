-- What is found of the payload of a beat on channel D, by the values that its request may be told.
use Rattle.std.specs.Prelude.{ℕ, ◌+◌, ◌-◌, ◌*◌, ◌/◌, ◌==◌, Bool, true, false, ◌&&◌, not, Option, Some, None, if◌then◌else◌, bit_and, bit_or}
use Rattle.bus_words.specs.Lanes.{has_lane, lane_byte, mask_of}
use Rattle.byte_orders.specs.Holdings.{is_compared, may_be_told}
use Rattle.data_unit.specs.Words.{full_mask, merged}
use Rattle.tl_messages.specs.Operations.{beats_of}
use Rattle.tl_messages.specs.declared.DBeat.{DBeat}
use Rattle.scoreboard.specs.Unknown.{some_unknown}
use Rattle.scoreboard.specs.declared.ReplyRule.{ReplyRule}
use Rattle.scoreboard.specs.declared.ReplyRule.TheVariants.{Corrupt, Denied, Interleaved, Opcode, Payload, Size, Unasked, Unknown}
use Rattle.scoreboard.specs.declared.Wrong.{Wrong}
use Rattle.scoreboard.specs.declared.Wrong.TheVariants.{Axi, NoClient, Place, Reply, Request, UnknownAxi, UnknownRequest}
use Rattle.scoreboard.specs.declared.views.ReplyView.{ReplyView}
use Rattle.value_memory.specs.States.{Contents, held_of}
use Rattle.value_memory.specs.declared.ByteRange.{ByteRange}
use Rattle.value_board.specs.Values.{range_at}
use Rattle.value_board.specs.declared.found.Found.{Found}

-- of some lanes of the word at an address those that the request of a number may not be told as a payload has them
abbrev pub wrong_in : Contents → ℕ → ℕ → ℕ → ℕ → ℕ
wrong_in c number address payload lanes =
    mask_of (λ lane. has_lane lanes lane && not (may_be_told (held_of c (address / 8 * 8 + lane)) number (lane_byte payload lane)))

-- and those in which that says something
abbrev pub compared_in : Contents → ℕ → ℕ → ℕ → ℕ
compared_in c number address lanes = mask_of (λ lane. has_lane lanes lane && is_compared (held_of c (address / 8 * 8 + lane)) number)

-- nothing is told
abbrev pub nothing_found : Found
nothing_found = record { wrong = 0; compared = 0; told = 0 }

-- whether the next beat of a reply tells bytes of its request that are looked at: it has data, isn't due as corrupt, and the request hasn't failed
abbrev pub tells : ReplyView → Bool
tells view = view.reads && not view.failed && view.due.opcode == 1 && not view.due.corrupt && not (view.left == 0)

-- the address of the word that is next, of a range of which so many are left
abbrev pub next_word : ByteRange → ℕ → ℕ
next_word range left = range.address + (beats_of range.size true - left) * 8

abbrev pub found_in : Contents → ByteRange → ℕ → ℕ → ℕ → ℕ → Found
found_in c range left number payload lanes =
    record {
      wrong = wrong_in c number (next_word range left) payload (bit_and (full_mask range.address range.size) (255 - lanes));
      compared = compared_in c number (next_word range left) (full_mask range.address range.size);
      told = full_mask range.address range.size;
    }

abbrev pub found_at : Contents → Option ByteRange → ℕ → ℕ → ℕ → ℕ → Found
found_at c None left number payload lanes = nothing_found
found_at c (Some range) left number payload lanes = found_in c range left number payload lanes

-- of a payload, of which nobody knows some lanes, in the next beat of a reply to the request of a number
abbrev pub found_of : Contents → ReplyView → ℕ → ℕ → ℕ → Found
found_of c view number payload lanes =
    if tells view then found_at c (range_at view.address view.size) view.left number payload lanes else nothing_found

-- ---- what is wrong

-- whether a beat is right, but for lanes that nobody knows
abbrev pub is_unknown_rule : ReplyRule → Bool
is_unknown_rule Unasked = false
is_unknown_rule Interleaved = false
is_unknown_rule Opcode = false
is_unknown_rule Size = false
is_unknown_rule Denied = false
is_unknown_rule Corrupt = false
is_unknown_rule Payload = false
is_unknown_rule Unknown = true

abbrev pub is_right_as_known : Option Wrong → Bool
is_right_as_known None = true
is_right_as_known (Some NoClient) = false
is_right_as_known (Some (Request broken)) = false
is_right_as_known (Some (Reply rule due)) = is_unknown_rule rule
is_right_as_known (Some (Axi broken)) = false
is_right_as_known (Some Place) = false
is_right_as_known (Some UnknownRequest) = false
is_right_as_known (Some UnknownAxi) = false

-- a beat with the payload that is due in some lanes
abbrev pub with_due : DBeat → ℕ → ℕ → DBeat
with_due beat due lanes = record beat { payload = merged beat.payload due lanes }

-- a lane that nobody knows, and that is compared, is wrong where nothing else is
abbrev pub or_compared : Option Wrong → Bool → DBeat → ℕ → ℕ → Option Wrong
or_compared None true beat due lanes = Some (Reply Unknown (Some (with_due beat due lanes)))
or_compared None false beat due lanes = None
or_compared (Some wrong) looked beat due lanes = Some wrong

-- a beat that a board finds right as far as it is known: a byte is wrong that its request may not be told
abbrev pub wrong_payload : Option Wrong → Found → DBeat → ℕ → ℕ → Option Wrong
wrong_payload verdict found beat due lanes =
    if found.wrong == 0
    then or_compared verdict (some_unknown lanes (has_lane found.compared)) beat due lanes
    else Some (Reply Payload (Some (with_due beat due (bit_or found.wrong lanes))))

-- what is wrong with a beat, by what a board says, and what is found of its payload where another payload is due
abbrev pub wrong_with : Option Wrong → Found → DBeat → ℕ → ℕ → Option Wrong
wrong_with verdict found beat due lanes = if is_right_as_known verdict then wrong_payload verdict found beat due lanes else verdict
