-- How much work there can be. It knows how many requests may be live and how many bursts each has; which is where is hidden.
use Rattle.std.proofs.Common.{◌≡◌, ℕ, ◌+◌, ◌*◌, ◌%◌, ◌^◌, ◌<◌, ◌≤◌, Bool, true, List, [], ◌∷◌, length, drop, refl, arith}
use Rattle.std.specs.Prelude.{sum_by}
use Rattle.std.specs.List.{AllByRecursion}
use Rattle.std.proofs.lemmas.Bool.{cond_both}
use Rattle.std.proofs.Math.Nat.{div-le_self, mul-le-mul_right}
use Rattle.std.proofs.Math.Pow.{pow_mono}
use Rattle.std.proofs.lemmas.List.Sums.{sum_by-cons, sum_by-take-drop}
use Rattle.std.proofs.lemmas.Nat.{one_shl}
use Rattle.burst_plan.specs.Pieces.{IsPlannable, PlannedRange, beat_size, pieces}
use Rattle.burst_plan.specs.declared.Piece.{Piece}
use Rattle.burst_plan.specs.declared.Region.{Region}
use Rattle.burst_plan.proofs.PlanLaws.{beats_counted}
use Rattle.tl_messages.specs.Operations.{has_data, reply_has_data}
use Rattle.flight_table.specs.LiveRequests.{LiveRequest, pieces_planned, planned, read_pieces, write_pieces}
use Rattle.flight_table.specs.Work.{answers_of_burst, beats_of_burst, later_work, unsent_work, work_of_bursts}
use Rattle.config.specs.Configs.{is_valid}
use Rattle.bridge_core.specs.Laws.{IsServed, beats_in}
use Rattle.bridge_core.specs.HeldRequests.{BridgedRequest, flights_of}
use Rattle.config.specs.declared.Config.{Config}
use Rattle.world.specs.Laws.{IsSoundWorld}
use Rattle.world.specs.World.{WorldState, work_left}
use Rattle.world.proofs.OpenWork.{work_open_few}
use Rattle.world.proofs.Serials.{plan_has}

-- ---- a plan has at most 4,096 transfers

few_transfers : (range : PlannedRange) → IsPlannable range → beats_in (pieces range) ≤ 4096
few_transfers range plans =
    let whole : 1 * 2 ^ range.size % 2 ^ 16 ≡ 2 ^ range.size = one_shl range.size 16 (omega (arith, plans.size)) in
    let small : 2 ^ range.size ≤ 4096 = pow_mono {i = range.size} {j = 12} plans.size in
    let counted = beats_counted range (beat_size range) plans refl in
    let fewer = div-le_self (1 * 2 ^ range.size % 2 ^ 16) (2 ^ beat_size range) in
    omega (arith, whole, small, counted, fewer)

-- ---- the work of bursts is at most three times their transfers

burst_work : (write : Bool) (piece : Piece) → 1 + beats_of_burst piece + answers_of_burst write piece ≤ 3 * beats_of_burst piece
burst_work write piece = grind arith

bursts_work : (write : Bool) (pieces : List Piece) → work_of_bursts write pieces ≤ 3 * sum_by beats_of_burst pieces
bursts_work write [] = omega arith
bursts_work write (piece ∷ pieces) =
    omega (arith, burst_work write piece, bursts_work write pieces, sum_by-cons beats_of_burst piece pieces, sum_by-cons (answers_of_burst write) piece pieces)

left_work : (sent : ℕ) (write : Bool) (pieces : List Piece) → beats_in pieces ≤ 4096 → work_of_bursts write (drop sent pieces) ≤ 12288
left_work sent write pieces few = omega (arith, few, bursts_work write (drop sent pieces), sum_by-take-drop beats_of_burst pieces sent)

few_unsent : (flight : LiveRequest) → beats_in (pieces_planned flight.plan) ≤ 4096 → unsent_work flight ≤ 24576
few_unsent flight few =
    let reads : beats_in (read_pieces flight) ≤ 4096 = cond_both (reply_has_data flight.operation) _ _ Few (λ some. few) (λ none. omega arith) in
    let writes : beats_in (write_pieces flight) ≤ 4096 = cond_both (has_data flight.operation) _ _ Few (λ some. few) (λ none. omega arith) in
    let phase : beats_in (planned flight) ≤ 4096 = cond_both flight.writing _ _ Few (λ write. writes) (λ read. reads) in
    let later : later_work flight ≤ 12288 = cond_both flight.writing _ _ (λ n. n ≤ 12288) (λ write. omega arith) (λ read. left_work 0 true (write_pieces flight) writes) in
    cond_both flight.done _ _ (λ n. n ≤ 24576) (λ done. omega arith) (λ live. omega (arith, later, left_work flight.sent flight.writing (planned flight) phase))
  where
    Few : List Piece → Type 0
    Few parts = beats_in parts ≤ 4096

all_unsent : (config : Config) (regions : List Region) (live : List BridgedRequest) → is_valid config ≡ true → AllByRecursion (IsServed config regions) live → sum_by unsent_work (flights_of live) ≤ length live * 24576
all_unsent config regions [] valid served = omega arith
all_unsent config regions (request ∷ live) valid served =
    omega (
      arith,
      few_unsent request.flight (plan_has (λ parts. beats_in parts ≤ 4096) (omega arith) few_transfers config regions request valid served.0),
      all_unsent config regions live valid served.1,
      sum_by-cons unsent_work request.flight (flights_of live),
    )

-- ---- all of it fits a word

pub few_work : (state : WorldState) → IsSoundWorld state → work_left state < 2 ^ 63
few_work state sound =
    let table = state.bridge.requests in
    let unsent = all_unsent table.config table.regions table.live sound.bridge_laws.requests.config sound.bridge_laws.requests.served in
    let few : length table.live ≤ 2 ^ 48 = omega (arith, sound.serials.live, sound.serials.accepted) in
    let rows : length table.live * 24576 ≤ 2 ^ 48 * 24576 = mul-le-mul_right 24576 few in
    omega (arith, unsent, rows, work_open_few state.memory sound.memory_laws)
