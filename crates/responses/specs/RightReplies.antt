-- What makes beats on channel D a right reply, by the rules on replies and byte by byte.
use Rattle.std.specs.Prelude.{◌≡◌, ℕ, ◌+◌, ◌/◌, ◌<◌, true, false, ◌&&◌, ◌||◌, List, Some, None, slice_get}
use Rattle.bus_words.specs.Lanes.{lane_byte}
use Rattle.tl_messages.specs.Lanes.{in_range, lane_of}
use Rattle.tl_messages.specs.Operations.{reply_has_data}
use Rattle.tl_messages.specs.Requests.{WholeRequest}
use Rattle.tl_messages.specs.declared.DBeat.{DBeat}
use Rattle.tl_checker.specs.ReplyRules.{reply_fault}
use Rattle.responses.specs.Shown.{Reply, address_in_word, lacks_a_byte}

-- the beats break no rule on replies; a beat is corrupt just where the reply has data, and is denied or lacks a byte of that word; a byte that
-- is given stands in its lane of its beat, where that isn't corrupt; and all else is zero: lanes outside the range, and what is corrupt
pub record ShowsReply (q : WholeRequest) (reply : Reply) (beats : List DBeat) : Type 0 where
  pub legal : reply_fault q beats ≡ None
  pub corrupt : (j : ℕ) (beat : DBeat) → slice_get beats j ≡ Some beat → beat.corrupt ≡ (reply_has_data q.operation && (reply.denied || lacks_a_byte q reply j))
  pub bytes :
      (i byte : ℕ) (beat : DBeat) → slice_get reply.bytes i ≡ Some (Some byte) → slice_get beats ((lane_of q.address + i) / 8) ≡ Some beat → beat.corrupt ≡ false
      → lane_byte beat.payload (lane_of (q.address + i)) ≡ byte
  pub outside :
      (j lane : ℕ) (beat : DBeat) → slice_get beats j ≡ Some beat → lane < 8 → in_range q.address q.size (address_in_word q j lane) ≡ false → lane_byte beat.payload lane ≡ 0
  pub unsaid : (j : ℕ) (beat : DBeat) → slice_get beats j ≡ Some beat → beat.corrupt ≡ true → beat.payload ≡ 0
