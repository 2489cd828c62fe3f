-- What is held of the eight bytes of a word together. The list of a byte is what the word's has in its lane, and the rule is that of `byte_orders`, byte by
-- byte. A set of lanes has 8 bits, bit k for lane k.
use Rattle.std.specs.Prelude.{ℕ, ◌==◌, Bool, true, false, ◌&&◌, not, List, [], ◌∷◌, ◌++◌, map, filter, filter_map, length, Option, Some, None, if◌then◌else◌, is_none, is_some, nat_lt, bit_and, bit_or}
use Rattle.bus_words.specs.Lanes.{has_lane, lane_byte, mask_of}
use Rattle.data_unit.specs.Words.{merged}
use Rattle.byte_orders.specs.Holdings.{Holding, is_compared, is_hidden, is_open_of, may_be_told, settled_as, with_ended, with_failed, with_reset, with_sure, with_value, without}
use Rattle.byte_values.specs.declared.change.Change.{Change}
use Rattle.byte_values.specs.declared.change.Change.TheVariants.{Gives, Sure, Fails, Ends, Resets}
use Rattle.byte_values.specs.declared.known.KnownBytes.{KnownBytes}
use Rattle.byte_values.specs.declared.known.SettledBytes.{SettledBytes}

-- what a writer gives to the bytes of a word, or many: to these lanes, of which the known ones have the bytes of a value; when it began; when it ended, if it
-- has; whether it takes effect; and whether it's of many, as a `Holding` says it of one byte. A known lane counts only where the lanes have it
pub record WordHolding : Type 0 where
  pub value : ℕ
  pub known : ℕ
  pub lanes : ℕ
  pub begun : ℕ
  pub over : Option ℕ
  pub sure : Bool
  pub many : Bool

-- what is held of a word: what it was, or has settled as, in the lanes of which that may still be told; and what its writers give
pub record WordList : Type 0 where
  pub settled : SettledBytes
  pub held : List WordHolding

-- ---- the list of a byte

-- the byte of a value in a lane, none where that isn't known
abbrev pub byte_if : ℕ → ℕ → ℕ → Option ℕ
byte_if known value lane = if has_lane known lane then Some (lane_byte value lane) else None

abbrev pub known_byte : ℕ → KnownBytes → Option ℕ
known_byte lane k = byte_if k.lanes k.value lane

-- what a holding gives to a lane, where it gives that
abbrev pub holding_in : ℕ → WordHolding → Holding
holding_in lane w = record { value = byte_if w.known w.value lane; begun = w.begun; over = w.over; sure = w.sure; many = w.many }

abbrev pub lane_holding : ℕ → WordHolding → Option Holding
lane_holding lane w = if has_lane w.lanes lane then Some (holding_in lane w) else None

-- what has settled is as of a writer that had ended before all others began
abbrev pub beginning_of : SettledBytes → WordHolding
beginning_of s = record { value = s.value; known = s.known; lanes = s.lanes; begun = 0; over = Some 0; sure = true; many = false }

-- what some give to a lane
unfoldable pub lane_holdings : ℕ → List WordHolding → List Holding
lane_holdings lane hs = filter_map (lane_holding lane) hs

-- the list of the byte in a lane
abbrev pub lane_list : ℕ → WordList → List Holding
lane_list lane ws = lane_holdings lane (beginning_of ws.settled ∷ ws.held)

-- ---- sets of lanes

-- the lanes of one set that another doesn't have
unfoldable pub lanes_without : ℕ → ℕ → ℕ
lanes_without lanes others = mask_of (λ lane. has_lane lanes lane && not (has_lane others lane))

abbrev pub with_lanes : ℕ → WordHolding → WordHolding
with_lanes lanes w = record w { lanes = lanes }

-- whether it gives a lane at all; one that doesn't isn't kept
abbrev pub gives_lanes : WordHolding → Bool
gives_lanes w = not (w.lanes == 0)

-- ---- how a list begins

-- all is as it was; nobody knows more of it than this
abbrev pub new_word : KnownBytes → WordList
new_word k = record { settled = record { value = k.value; known = k.lanes; lanes = 255 }; held = [] }

-- one that stands for all writers of some lanes, where so many requests have begun
abbrev pub crowd_of : ℕ → ℕ → WordHolding
crowd_of now lanes = record { value = 0; known = 0; lanes = lanes; begun = now; over = None; sure = false; many = true }

-- the bytes that aren't known may be what one that began no later than a number gave, which found no place
abbrev pub lost_word : KnownBytes → ℕ → WordList
lost_word k lost =
    record {
      settled = record { value = k.value; known = k.lanes; lanes = k.lanes };
      held = filter gives_lanes (crowd_of lost (lanes_without 255 k.lanes) ∷ []);
    }

-- no byte has settled
abbrev pub nothing_settled : SettledBytes
nothing_settled = record { value = 0; known = 0; lanes = 0 }

-- ---- what becomes of it

-- a writer that has begun, which may give these lanes
abbrev pub just_begun_of : ℕ → ℕ → WordHolding
just_begun_of number lanes = record { value = 0; known = 0; lanes = lanes; begun = number; over = None; sure = false; many = false }

-- a writer begins; where twelve are held already, they and it become one that stands for all that have begun, and what has settled counts no more
abbrev pub begun_word : ℕ → ℕ → WordList → WordList
begun_word number lanes ws =
    if nat_lt (length ws.held) 12
    then record ws { held = ws.held ++ just_begun_of number lanes ∷ [] }
    else record { settled = nothing_settled; held = crowd_of number 255 ∷ [] }

-- as of one byte, which nobody knows: whose it is, its times, and whether it takes effect
abbrev pub times_of : WordHolding → Holding
times_of w = record { value = None; begun = w.begun; over = w.over; sure = w.sure; many = w.many }

abbrev pub changed_open : ℕ → (WordHolding → WordHolding) → WordHolding → WordHolding
changed_open number change w = if is_open_of number (times_of w) then change w else w

abbrev pub cut_off_word : ℕ → WordHolding → WordHolding
cut_off_word now w = if is_none w.over then record w { over = Some now; sure = false } else w

-- as a change leaves it
abbrev pub changed_by : Change → WordHolding → WordHolding
changed_by (Gives number lanes known) w = changed_open number (λ x. record x { value = known.value; known = known.lanes; lanes = bit_and x.lanes lanes }) w
changed_by (Sure number) w = changed_open number (λ x. record x { sure = true }) w
changed_by (Fails number) w = changed_open number (λ x. record x { known = 0; sure = false }) w
changed_by (Ends number now) w = changed_open number (λ x. record x { over = Some now }) w
changed_by (Resets now) w = cut_off_word now w

abbrev pub changed_word : Change → WordList → WordList
changed_word change ws = record ws { held = filter gives_lanes (map (changed_by change) ws.held) }

-- what the change is to the byte in a lane
abbrev pub changed_in : ℕ → Change → List Holding → List Holding
changed_in lane (Gives number lanes known) hs = if has_lane lanes lane then with_value number (known_byte lane known) hs else without number hs
changed_in lane (Sure number) hs = with_sure number hs
changed_in lane (Fails number) hs = with_failed number hs
changed_in lane (Ends number now) hs = with_ended number now hs
changed_in lane (Resets now) hs = with_reset now hs

-- ---- what keeps it short

-- one that stands for many is over once none of them is in flight, by the number of the oldest request in flight
abbrev pub closed_by : ℕ → ℕ → WordHolding → WordHolding
closed_by oldest now w = if w.many && is_none w.over && nat_lt w.begun oldest then record w { over = Some now } else w

abbrev pub closed_word : ℕ → ℕ → WordList → WordList
closed_word oldest now ws = record ws { held = map (closed_by oldest now) ws.held }

-- the lanes of a holding in which none of some hides it from a reader that began at a number, or later. What has settled hides nothing
unfoldable pub seen_lanes : List WordHolding → ℕ → WordHolding → ℕ
seen_lanes held reader w = mask_of (λ lane. has_lane w.lanes lane && not (is_hidden (lane_holdings lane held) reader (holding_in lane w)))

abbrev pub seen_of : List WordHolding → ℕ → WordHolding → WordHolding
seen_of held reader w = with_lanes (seen_lanes held reader w) w

-- of each the lanes go that are hidden from the oldest in flight
abbrev pub seen_word : ℕ → WordList → WordList
seen_word oldest ws =
    record {
      settled = record ws.settled { lanes = seen_lanes ws.held oldest (beginning_of ws.settled) };
      held = filter gives_lanes (map (seen_of ws.held oldest) ws.held);
    }

-- the lanes that settle, of those that haven't yet: only one holding is left of them, which is over
unfoldable pub settling_lanes : ℕ → List WordHolding → ℕ
settling_lanes settled held = mask_of (λ lane. is_some (settled_as (lane_holdings lane held)) && not (has_lane settled lane))

-- what has settled with the bytes that a holding gives to some lanes
abbrev pub joined : ℕ → SettledBytes → WordHolding → SettledBytes
joined lanes s w =
    record {
      value = merged s.value w.value (bit_and w.lanes lanes);
      known = bit_or (lanes_without s.known (bit_and w.lanes lanes)) (bit_and w.known (bit_and w.lanes lanes));
      lanes = bit_or s.lanes (bit_and w.lanes lanes);
    }

abbrev pub all_joined : ℕ → SettledBytes → List WordHolding → SettledBytes
all_joined lanes s [] = s
all_joined lanes s (w ∷ ws) = all_joined lanes (joined lanes s w) ws

abbrev pub parted : ℕ → WordHolding → WordHolding
parted lanes w = with_lanes (lanes_without w.lanes lanes) w

-- some lanes leave their holdings, and have settled as what these gave
abbrev pub settled_in : ℕ → WordList → WordList
settled_in lanes ws = record { settled = all_joined lanes ws.settled ws.held; held = filter gives_lanes (map (parted lanes) ws.held) }

abbrev pub settled_word : WordList → WordList
settled_word ws = settled_in (settling_lanes ws.settled.lanes ws.held) ws

-- all three, when a request has ended
abbrev pub pruned_word : ℕ → ℕ → WordList → WordList
pruned_word oldest now ws = settled_word (seen_word oldest (closed_word oldest now ws))

-- ---- what is answered

-- of some lanes those in which a byte of a payload may not be told to the request that began at a number
unfoldable pub wrong_lanes : WordList → ℕ → ℕ → ℕ → ℕ
wrong_lanes ws number payload lanes = mask_of (λ lane. has_lane lanes lane && not (may_be_told (lane_list lane ws) number (lane_byte payload lane)))

-- of some lanes those in which that says something, as all that it may find is known
unfoldable pub compared_lanes : WordList → ℕ → ℕ → ℕ
compared_lanes ws number lanes = mask_of (λ lane. has_lane lanes lane && is_compared (lane_list lane ws) number)

-- what all of the word has settled as, where no writer counts any more
abbrev pub settled_bytes : WordList → Option KnownBytes
settled_bytes ws = if (length ws.held == 0) && (ws.settled.lanes == 255) then Some (record { value = ws.settled.value; lanes = ws.settled.known }) else None
