-- The lanes of a beat of which it is known what is due there: as a mask has them, and how a beat is compared by them.
use Rattle.std.proofs.Common.{◌≡◌, ℕ, zero, suc, ◌+◌, ◌-◌, ◌<◌, Bool, true, false, ◌||◌, not, if◌then◌else◌, List, [], ◌∷◌, length, Option, Some, None, refl, sym, ◌∙◌, ap, ap₂, arith}
use Rattle.std.specs.Prelude.{◌≢◌, slice_get}
use Rattle.std.specs.Cmp.{booleans_Decides}
use Rattle.std.specs.List.{list_any, range_with_len}
use Rattle.std.proofs.lemmas.Bool.Decides.{nat_tests}
use Rattle.bus_words.specs.Lanes.{has_lane}
use Rattle.bus_words.specs.Tables.{first_broken}
use Rattle.tl_messages.specs.declared.DBeat.{DBeat}
use Rattle.tl_messages.specs.Operations.{beats_of}
use Rattle.scoreboard.specs.Boards.{reply_rules, unless_indeterminate, wrong_by, wrong_in_turn, wrong_reply}
use Rattle.scoreboard.specs.Flights.{InFlight}
use Rattle.scoreboard.specs.InTurn.{DueBeat, agrees_where_known, as_known, dues_of, is_unknown_in}
use Rattle.scoreboard.specs.declared.Policy.{Policy}
use Rattle.scoreboard.specs.declared.Policy.TheVariants.{AcceptanceOrder, RealTime}
use Rattle.scoreboard.specs.declared.ReplyRule.TheVariants.{Unasked}
use Rattle.scoreboard.specs.declared.Wrong.TheVariants.{Reply}
use Rattle.scoreboard.specs.declared.ReplyRule.{ReplyRule}

-- a mask with any bit has a lane
pub some_lane : (mask : ℕ) → mask < 256 → mask ≢ 0 → list_any (has_lane mask) (range_with_len 0 8) ≡ true
some_lane mask fits some = grind (arith, fits, some)

-- tests that say the same of numbers from one on say the same of a range
pub any_same : (f g : ℕ → Bool) (from n : ℕ) → ((k : ℕ) → k < n → f (from + k) ≡ g (from + k)) → list_any f (range_with_len from n) ≡ list_any g (range_with_len from n)
any_same f g from zero same = refl
any_same f g from (suc n) same =
    ap₂ (λ (a b : Bool). a || b) (first (same zero (omega arith))) (any_same f g (from + 1) n (λ k below. next k (same (suc k) (omega (arith, below)))))
  where
    first : f (from + 0) ≡ g (from + 0) → f from ≡ g from
    first is = let at : from + 0 ≡ from = omega arith in rw at at is

    next : (k : ℕ) → f (from + suc k) ≡ g (from + suc k) → f (from + 1 + k) ≡ g (from + 1 + k)
    next k is = let at : from + suc k ≡ from + 1 + k = omega arith in rw at at is

-- it is by its eight lanes whether a beat agrees
pub agrees_same : (due beat : DBeat) (f g : ℕ → Bool) → ((lane : ℕ) → lane < 8 → f lane ≡ g lane)
    → agrees_where_known (record { beat = due; unknown = f }) beat ≡ agrees_where_known (record { beat = due; unknown = g }) beat
agrees_same due beat f g same = grind (arith, same)

-- ---- by which rule a beat is wrong

keeps : (rule : Option ReplyRule) → unless_indeterminate true rule ≡ rule
keeps rule = grind arith

-- by the rule by which it is wrong without that, but for its payload, where it agrees
pub rule_where_known : (due : DueBeat) (beat : DBeat)
    → first_broken (reply_rules due.beat (as_known due beat)) ≡ unless_indeterminate (not (agrees_where_known due beat)) (first_broken (reply_rules due.beat beat))
rule_where_known due beat = by_test (agrees_where_known due beat)
  where
    by_test : (agrees : Bool) → first_broken (reply_rules due.beat (if agrees then record beat { payload = due.beat.payload } else beat)) ≡ unless_indeterminate (not agrees) (first_broken (reply_rules due.beat beat))
    by_test false = sym (keeps (first_broken (reply_rules due.beat beat)))
    by_test true = grind (arith, nat_tests, booleans_Decides)

-- ---- the next beat of a reply

-- there is none
pub unasked : (policy : Policy) (told : Option Bool) (flight : InFlight) (beat : DBeat) → slice_get flight.beats 0 ≡ None
    → wrong_reply policy told (Some flight) beat ≡ Some (Reply Unasked None)
unasked policy told flight beat none = by_beats policy flight.beats none
  where
    by_beats : (policy : Policy) (beats : List DBeat) → slice_get beats 0 ≡ None → wrong_reply policy told (Some (record flight { beats = beats })) beat ≡ Some (Reply Unasked None)
    by_beats AcceptanceOrder [] is = refl
    by_beats RealTime [] is = refl
    by_beats policy (due ∷ rest) is = absurd (cc (is))

-- the first of those that are left
abbrev pub due_of : InFlight → DBeat → DueBeat
due_of flight due = record { beat = due; unknown = is_unknown_in flight.footprint (beats_of flight.footprint.size true - length flight.beats) due }

pub compared : (told : Option Bool) (flight : InFlight) (due beat : DBeat) → slice_get flight.beats 0 ≡ Some due
    → wrong_by due (unless_indeterminate (not (agrees_where_known (due_of flight due) beat)) (first_broken (reply_rules due beat)))
    ≡ wrong_reply AcceptanceOrder told (Some flight) beat
compared told flight due beat is = ap (wrong_by due) (sym (rule_where_known (due_of flight due) beat)) ∙ by_beats flight.beats is
  where
    by_beats : (beats : List DBeat) → slice_get beats 0 ≡ Some due
        → wrong_in_turn (due_of (record flight { beats = beats }) due ∷ []) beat ≡ wrong_in_turn (dues_of flight.footprint beats) beat
    by_beats [] there = absurd (cc (there))
    by_beats (first ∷ rest) there = let same : first ≡ due = cc (there) in rw same refl
