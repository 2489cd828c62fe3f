-- What a memory of values blames, whose bytes go along with all that happened, is blamed rightly: no request may be told such a byte, in any order.
use Rattle.std.proofs.Common.{◌≡◌, ℕ, ◌+◌, ◌*◌, ◌/◌, ◌%◌, ◌<◌, Bool, true, false, List, [], ◌∷◌, ◌++◌, refl, sym, ◌∙◌, ap, arith}
use Rattle.bus_words.specs.Lanes.{lane_byte}
use Rattle.byte_orders.specs.Holdings.{may_be_told}
use Rattle.setups.specs.Setups.{SetupLists}
use Rattle.tl_messages.specs.declared.DBeat.{DBeat}
use Rattle.scoreboard.specs.Boards.{Beginning, from_zeros}
use Rattle.scoreboard.specs.Right.{IsRight}
use Rattle.scoreboard.specs.declared.Errors.{Errors}
use Rattle.scoreboard.specs.declared.ObservedBeat.{ObservedBeat}
use Rattle.scoreboard.specs.declared.ObservedBeat.TheVariants.{D}
use Rattle.value_memory.specs.ByteEvents.{ByteState}
use Rattle.value_memory.specs.ValueMemory.{ValueState, byte_in, held_in, lane_held}
use Rattle.value_orders.specs.Blames.{BlamesRightly, IsBlamedByte, IsDueTo, TellsBlamed, all_seen}
use Rattle.value_orders.specs.Histories.{Happening, history_in, tells}
use Rattle.value_orders.specs.RunOrders.{past_of}
use Rattle.value_orders.proofs.RunsBlame.{blamed_by}
use Rattle.value_orders.proofs.RunsBlamePayload.{blames_rightly}
use Rattle.value_orders.proofs.RunsRight.{never_blames}
use Rattle.value_laws.specs.Kept.{AllArePast, IsPastAt, Work}

module _ (errors : Errors) (beginning : Beginning) (happenings : List Happening) where
  -- a byte that its list doesn't let a request be told
  pub past_blames : (x number byte : ℕ) (state : ByteState) → IsPastAt errors beginning happenings x state → may_be_told state.held number byte ≡ false
      → IsBlamedByte errors beginning happenings x number byte
  past_blames x number byte state past none =
      blamed_by errors beginning happenings x number byte state.held past.events past.may_come (sym past.held.held) (ap (λ (w : Work). w.accesses) past.done) none

  -- in a beat that is due to that, and tells it
  pub past_tells : (memory : ValueState) (client : ℕ) (beat : DBeat) (lanes number x : ℕ) → AllArePast errors beginning happenings memory
      → IsDueTo (history_in errors beginning happenings) client beat number
      → tells beginning.lists errors (past_of (history_in errors beginning happenings) number).entry beat lanes x ≡ true
      → may_be_told (held_in memory x) number (lane_byte beat.payload (x % 8)) ≡ false → TellsBlamed errors beginning happenings client beat lanes
  past_tells memory client beat lanes number x past due its none =
      record {
        number = number;
        is_due = due;
        x = x;
        tells_it = its;
        blames_it = past_blames x number (lane_byte beat.payload (x % 8)) (byte_in memory x) (past x) none;
      }

  -- so the beat is wrong in every order
  pub past_rightly : (memory : ValueState) (client : ℕ) (beat : DBeat) (lanes number x : ℕ) → AllArePast errors beginning happenings memory
      → IsDueTo (history_in errors beginning happenings) client beat number
      → tells beginning.lists errors (past_of (history_in errors beginning happenings) number).entry beat lanes x ≡ true
      → may_be_told (held_in memory x) number (lane_byte beat.payload (x % 8)) ≡ false → BlamesRightly errors beginning happenings client beat lanes
  past_rightly memory client beat lanes number x past due its none =
      blames_rightly errors beginning happenings client beat lanes (past_tells memory client beat lanes number x past due its none)

  -- ---- by the lane of a word

  lane_of : (address lane : ℕ) → lane < 8 → (address / 8 * 8 + lane) % 8 ≡ lane
  lane_of address lane below = omega (arith, below)

  pub lane_tells : (memory : ValueState) (client : ℕ) (beat : DBeat) (lanes number address lane : ℕ) → AllArePast errors beginning happenings memory
      → IsDueTo (history_in errors beginning happenings) client beat number → lane < 8
      → tells beginning.lists errors (past_of (history_in errors beginning happenings) number).entry beat lanes (address / 8 * 8 + lane) ≡ true
      → may_be_told (lane_held memory address lane) number (lane_byte beat.payload lane) ≡ false → TellsBlamed errors beginning happenings client beat lanes
  lane_tells memory client beat lanes number address lane past due below its none =
      past_tells memory client beat lanes number (address / 8 * 8 + lane) past due its
      (ap (λ k. may_be_told (lane_held memory address lane) number (lane_byte beat.payload k)) (lane_of address lane below) ∙ none)

-- and none of what is right in order of acceptance
pub past_lets : (errors : Errors) (setup : SetupLists) (before : List ObservedBeat) (memory : ValueState) (client : ℕ) (beat : DBeat) (number x : ℕ)
    → AllArePast errors (from_zeros setup) (all_seen before) memory → IsRight (from_zeros setup) (before ++ D client beat ∷ [])
    → IsDueTo (history_in errors (from_zeros setup) (all_seen before)) client beat number
    → tells setup errors (past_of (history_in errors (from_zeros setup) (all_seen before)) number).entry beat 0 x ≡ true
    → may_be_told (held_in memory x) number (lane_byte beat.payload (x % 8)) ≡ true
past_lets errors setup before memory client beat number x past right due its = by_test (may_be_told (held_in memory x) number (lane_byte beat.payload (x % 8))) refl
  where
    by_test : (b : Bool) → may_be_told (held_in memory x) number (lane_byte beat.payload (x % 8)) ≡ b → b ≡ true
    by_test true is = refl
    by_test false is =
        absurd (never_blames errors setup before client beat right
        (past_tells errors (from_zeros setup) (all_seen before) memory client beat 0 number x past due its is))
