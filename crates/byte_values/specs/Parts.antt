-- What the calls that answer are put together from: sets of lanes of one holding, and of all together.
use Rattle.std.specs.Prelude.{ℕ, List, [], ◌∷◌, if◌then◌else◌, bit_and, bit_or}
use Rattle.bus_words.specs.Lanes.{lane_byte, mask_of}
use Rattle.byte_orders.specs.Accesses.{may_show}
use Rattle.byte_orders.specs.Holdings.{hides, is_own}
use Rattle.byte_values.specs.Words.{WordHolding, byte_if, lanes_without, seen_lanes, times_of}

-- the lanes in which a request may find a holding: it isn't its own, nor hidden from it
abbrev pub found_lanes : List WordHolding → ℕ → WordHolding → ℕ
found_lanes held number w = if is_own number (times_of w) then 0 else seen_lanes held number w

-- those in which it may be told as a payload has it, as it has that or nobody knows what
unfoldable pub showing_lanes : WordHolding → ℕ → ℕ
showing_lanes w payload = mask_of (λ lane. may_show (byte_if w.known w.value lane) (lane_byte payload lane))

abbrev pub told_by : List WordHolding → ℕ → ℕ → WordHolding → ℕ
told_by held number payload w = bit_and (found_lanes held number w) (showing_lanes w payload)

-- those in which nobody knows what it may find
abbrev pub unknown_by : List WordHolding → ℕ → WordHolding → ℕ
unknown_by held number w = lanes_without (found_lanes held number w) w.known

-- those in which one hides another, by the one
abbrev pub hiding_by : ℕ → WordHolding → WordHolding → ℕ
hiding_by reader w other = if hides reader (times_of w) (times_of other) then other.lanes else 0

-- some lanes, and those that one of a list has or more
abbrev pub with_all : (WordHolding → ℕ) → ℕ → List WordHolding → ℕ
with_all lanes_of lanes [] = lanes
with_all lanes_of lanes (w ∷ ws) = with_all lanes_of (bit_or lanes (lanes_of w)) ws
