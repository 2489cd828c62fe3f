-- Requests on a board and on its shadow, beside one that joins both: they stand beside each other as before.
use Rattle.std.proofs.Common.{◌≡◌, ℕ, Bool, true, List, drop, Option, Some, None, refl, ap, arith}
use Rattle.std.specs.Prelude.{option_map}
use Rattle.tl_messages.specs.Requests.{WholeRequest}
use Rattle.tl_messages.specs.declared.DBeat.{DBeat}
use Rattle.burst_plan.specs.declared.Region.{Region}
use Rattle.subordinate.specs.Faults.{Faults}
use Rattle.scoreboard.specs.Flights.{Footprint, InFlight}
use Rattle.scoreboard.specs.Races.{beside, flight_beside}
use Rattle.scoreboard.proofs.real_time.Ahead.{IsBehind, IsComing, IsWithin}
use Rattle.scoreboard.proofs.real_time.AlikeBeats.{Alike, LeftAlike, Same, Words}

-- beats that are alike are so where less is determined
alike_beside : (footprint other : Footprint) (k : ℕ) (beat its : DBeat) → Alike footprint k beat its → Alike (beside footprint other) k beat its
alike_beside footprint other k beat its alike = grind (arith, alike)

left_beside : (footprint other : Footprint) (mine theirs : List DBeat) → LeftAlike footprint mine theirs → LeftAlike (beside footprint other) mine theirs
left_beside footprint other mine theirs (Same same) = Same same
left_beside footprint other mine theirs (Words k due its rest others is_mine is_theirs alike place) =
    Words k due its rest others is_mine is_theirs (alike_beside footprint other k due its alike) place

module _ (joined joined_there : Footprint) (within : IsWithin joined_there joined) where
  -- what is determined beside both
  less_beside : (mine theirs : Footprint) (x : ℕ) → (mine.determined x ≡ true → theirs.determined x ≡ true) → (beside mine joined).determined x ≡ true
      → (beside theirs joined_there).determined x ≡ true
  less_beside mine theirs x less determined = grind (arith, less, determined, within)

  pub behind_beside : (fated : Bool) (mine theirs : InFlight) → IsBehind fated mine theirs
      → IsBehind fated (flight_beside joined mine) (flight_beside joined_there theirs)
  behind_beside fated mine theirs is =
      record {
        source = is.source;
        acts = λ does. ap (λ (r : Footprint). record r { determined = (beside mine.footprint joined).determined }) (is.acts does);
        sound = λ unfated sound. ap (λ (r : Footprint). record r { determined = (beside mine.footprint joined).determined }) (is.sound unfated sound);
        less = λ unfated x reads determined. less_beside mine.footprint theirs.footprint x (is.less unfated x reads) determined;
        long = is.long;
        shapes = is.shapes;
        alike = λ unfated sound n below. left_beside mine.footprint joined (drop n mine.beats) (drop n theirs.beats) (is.alike unfated sound n below);
      }

  pub coming_beside_it : (faults : Faults) (regions : List Region) (coming : Footprint) (q : WholeRequest) (theirs : InFlight) → IsComing faults regions coming q theirs
      → IsComing faults regions (beside coming joined) q (flight_beside joined_there theirs)
  coming_beside_it faults regions coming q theirs is = grind (arith, is)

-- a request that is in flight beside another was so before
pub was_beside : (footprint : Footprint) (o : Option InFlight) (now : InFlight) → option_map (flight_beside footprint) o ≡ Some now
    → (was : InFlight) × (o ≡ Some was) × (flight_beside footprint was ≡ now)
was_beside footprint None now is = absurd (cc (is))
was_beside footprint (Some was) now is = (was, refl, cc (is))

pub none_beside : (footprint : Footprint) (o : Option InFlight) → option_map (flight_beside footprint) o ≡ None → o ≡ None
none_beside footprint o is = grind (arith, is)
