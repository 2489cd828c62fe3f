-- Requests that take effect in order of acceptance, where nobody knows what some bytes of the memory were at first. What no request gave so far isn't
-- known, nor what an atomic made of it, and what a reply tells of that isn't compared.
use Rattle.std.specs.Prelude.{ℕ, ◌+◌, ◌-◌, ◌*◌, ◌==◌, Bool, true, ◌&&◌, not, List, [], ◌∷◌, length, Option, is_some, if◌then◌else◌}
use Rattle.std.specs.List.{list_any, range_with_len}
use Rattle.bus_words.specs.Lanes.{given_at, lane_byte, word_address}
use Rattle.tl_messages.specs.Operations.{beats_of}
use Rattle.tl_messages.specs.declared.DBeat.{DBeat}
use Rattle.scoreboard.specs.Flights.{Footprint}
use Rattle.scoreboard.specs.Races.{covers, is_fixed}

-- ---- what isn't known

-- the bytes that aren't known after a request that gives these bytes: of those only what an atomic makes of bytes that aren't known
abbrev pub after_turn : (ℕ → Bool) → Footprint → List (Option ℕ) → ℕ → Bool
after_turn unknown footprint bytes x =
    if footprint.writes && is_some (given_at bytes footprint.address x) then not (is_fixed footprint) else unknown x

-- the footprint that is kept of a request: what it reads plays no part where all of that is known
abbrev pub unless_fixed : Footprint → Footprint
unless_fixed footprint = record footprint { reads = footprint.reads && not (is_fixed footprint) }

-- ---- the beats of a reply

-- a beat that is due, and of which of its lanes isn't known what is due there
pub record DueBeat : Type 0 where
  pub beat : DBeat
  pub unknown : ℕ → Bool

-- whether a lane of beat k of a reply tells of a byte that its request reads and that isn't known; corrupt beats tell of none, nor do those without data
abbrev pub is_unknown_in : Footprint → ℕ → DBeat → ℕ → Bool
is_unknown_in footprint k beat lane =
    footprint.reads && beat.opcode == 1 && not beat.corrupt && covers footprint (word_address footprint.address + 8 * k + lane)
    && not (footprint.determined (word_address footprint.address + 8 * k + lane))

-- the beats that are left of the reply to a request with this footprint
abbrev pub dues_of : Footprint → List DBeat → List DueBeat
dues_of footprint [] = []
dues_of footprint (beat ∷ rest) =
    record { beat = beat; unknown = is_unknown_in footprint (beats_of footprint.size true - length (beat ∷ rest)) beat } ∷ dues_of footprint rest

-- whether two payloads differ in a lane of which it is known what is due there
abbrev pub differs_known : (ℕ → Bool) → ℕ → ℕ → ℕ → Bool
differs_known unknown due payload lane = not (unknown lane) && not (lane_byte due lane == lane_byte payload lane)

-- whether some lane isn't known, and a payload tells what is due in all others
abbrev pub agrees_where_known : DueBeat → DBeat → Bool
agrees_where_known due beat =
    list_any due.unknown (range_with_len 0 8) && not (list_any (differs_known due.unknown due.beat.payload beat.payload) (range_with_len 0 8))

-- a beat as it is compared with the one that is due: with that payload, where it differs from it only in what isn't known
abbrev pub as_known : DueBeat → DBeat → DBeat
as_known due beat = if agrees_where_known due beat then record beat { payload = due.beat.payload } else beat
