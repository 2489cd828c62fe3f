-- Serials of bursts don't run out. It counts bursts by request; everything else is hidden.
use Rattle.std.proofs.Common.{◌≡◌, ℕ, ◌*◌, ◌^◌, ◌<◌, ◌≤◌, ◌⊎◌, inl, inr, true, List, [], length, Option, Some, None, refl, sym, subst, arith}
use Rattle.std.specs.Prelude.{min}
use Rattle.std.proofs.Math.Nat.{mul-le-mul_left, mul-le-mul_right}
use Rattle.std.proofs.Math.Pow.{pow_mono}
use Rattle.std.proofs.lemmas.Bool.{cases_lt}
use Rattle.burst_plan.specs.Pieces.{IsPlannable, PlannedRange, pieces}
use Rattle.burst_plan.specs.PlannedTransfers.{beat_bytes, burst_beats, burst_bytes}
use Rattle.burst_plan.specs.declared.Piece.{Piece}
use Rattle.burst_plan.proofs.PieceLaws.{burst_count, divides_evenly, length-pieces}
use Rattle.burst_plan.specs.declared.Region.{Region}
use Rattle.config.specs.Configs.{is_valid}
use Rattle.bridge_core.specs.Laws.{IsServed}
use Rattle.bridge_core.specs.HeldRequests.{BridgedRequest}
use Rattle.config.specs.declared.Config.{Config}
use Rattle.bridge_core.proofs.SentBursts.{plannable}
use Rattle.flight_table.specs.LiveRequests.{LiveRequest, all_sent, pieces_planned, planned}

-- ---- a plan has at most 1,024 pieces

few_of_four : (count bytes n : ℕ) → n ≡ count * bytes → n ≤ 4096 → 4 ≤ bytes → count ≤ 1024
few_of_four count bytes n whole small wide = let rows : count * 4 ≤ count * bytes = mul-le-mul_left count wide in omega (arith, rows)

few_of_one : (count bytes n : ℕ) → n ≡ count * bytes → 0 < bytes → count ≤ n
few_of_one count bytes n whole some = let rows : count * 1 ≤ count * bytes = mul-le-mul_left count some in omega (arith, rows)

wide_beats : (n bus : ℕ) → (bus ≡ 4) ⊎ (bus ≡ 8) → 4 ≤ n → 4 ≤ min n bus
wide_beats n bus width wide = grind (arith, width, wide)

at_least : (beats beat : ℕ) → 1 ≤ beats → beat ≤ beats * beat
at_least beats beat some = let rows : 1 * beat ≤ beats * beat = mul-le-mul_right beat some in omega (arith, rows)

pub few_pieces : (range : PlannedRange) → IsPlannable range → length (pieces range) ≤ 1024
few_pieces range plans =
    let even = divides_evenly range plans in
    let small : 2 ^ range.size ≤ 4096 = pow_mono {i = range.size} {j = 12} plans.size in
    let count : burst_count range ≤ 1024 =
    elim (cases_lt (2 ^ range.size) 4) [
      | inl below ↦ omega (arith, few_of_one (burst_count range) (burst_bytes range) (2 ^ range.size) even.parts.whole even.parts.some, below)
      | inr wide ↦
          let beat : 4 ≤ beat_bytes range = subst (λ (bytes : ℕ). 4 ≤ bytes) (sym even.wide) (wide_beats (2 ^ range.size) range.bus_bytes plans.bus wide) in
          let bytes : 4 ≤ burst_bytes range = omega (arith, beat, even.beats, at_least (burst_beats range) (beat_bytes range) even.some_beats) in
          few_of_four (burst_count range) (burst_bytes range) (2 ^ range.size) even.parts.whole small bytes
    ] in
    omega (arith, length-pieces range even, count)

-- a request sends each of its pieces at most twice, to read it and to write it
few_planned : (flight : LiveRequest) → length (pieces_planned flight.plan) ≤ 1024 → flight.sent ≤ length (planned flight) → all_sent flight ≤ 2048
few_planned flight few most = grind (arith, few, most)

-- what holds of the pieces of each range that can be planned holds of those of a live request
pub plan_has : (P : List Piece → Type 0) → P [] → ((range : PlannedRange) → IsPlannable range → P (pieces range)) → (config : Config) (regions : List Region) (request : BridgedRequest)
    → is_valid config ≡ true → IsServed config regions request → P (pieces_planned request.flight.plan)
plan_has P none some config regions request valid served = by_plan request.flight.plan refl
  where
    by_plan : (plan : Option PlannedRange) → request.flight.plan ≡ plan → P (pieces_planned plan)
    by_plan None is = none
    by_plan (Some range) is = some range (plannable config regions request range valid served.pages served is).0

-- a live request has sent at most 2,048 bursts
pub most_sent : (config : Config) (regions : List Region) (request : BridgedRequest) → is_valid config ≡ true → IsServed config regions request → request.flight.sent ≤ length (planned request.flight)
    → all_sent request.flight ≤ 2048
most_sent config regions request valid served most =
    few_planned request.flight (plan_has (λ parts. length parts ≤ 1024) (omega arith) few_pieces config regions request valid served) most
