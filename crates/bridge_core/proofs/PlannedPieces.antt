-- The pieces of a live request's plan: there is one at least, and of an atomic just one.
use Rattle.std.proofs.Common.{◌≡◌, ℕ, ◌/◌, ◌^◌, ◌≤◌, true, false, ◌&&◌, List, length, Some, None, ap, sym, ◌∙◌, arith}
use Rattle.std.proofs.lemmas.Bool.{and_parts}
use Rattle.std.proofs.lemmas.Nat.{pow_pos}
use Rattle.std.proofs.Math.Pow.{pow_mono}
use Rattle.tl_messages.specs.Operations.{has_data, reply_has_data}
use Rattle.tl_messages.specs.Requests.{HeldMessage, request_of}
use Rattle.tl_messages.specs.declared.AtomicOp.{AtomicOp}
use Rattle.tl_messages.specs.declared.Operation.{Operation}
use Rattle.tl_messages.specs.declared.Operation.TheVariants.{Atomic}
use Rattle.tl_checker.specs.Sound.{IsSound}
use Rattle.burst_plan.specs.PageMap.{IsPageMap}
use Rattle.burst_plan.specs.Pieces.{IsPlannable, PlannedRange, cut_bytes, pieces}
use Rattle.burst_plan.specs.PlannedTransfers.{burst_bytes}
use Rattle.burst_plan.specs.declared.Region.{Region}
use Rattle.burst_plan.proofs.PieceLaws.{divides_evenly, length-pieces}
use Rattle.burst_plan.proofs.PlanLaws.{some_bursts}
use Rattle.flight_table.specs.LiveRequests.{LiveRequest, reads_then_writes, plan_for, read_pieces, write_pieces}
use Rattle.config.specs.Configs.{is_valid, port_of}
use Rattle.bridge_core.specs.Laws.{IsOfMessage}
use Rattle.bridge_core.specs.HeldRequests.{BridgedRequest, range_of}
use Rattle.config.specs.declared.Config.{Config}
use Rattle.bridge_core.proofs.NextSending.{present}
use Rattle.bridge_core.proofs.ReadCounts.{config_parts, itself, plannable, range_known}

-- ---- the range of a message

-- it has a plan, with the message's bytes over the bus
pub record IsPlanOf (config : Config) (message : HeldMessage) (range : PlannedRange) : Type 0 where
  pub plannable : IsPlannable range
  pub size : range.size ≡ message.size
  pub bus : range.bus_bytes ≡ config.axi_bytes
  pub max_len : range.max_len ≡ config.max_len

pub plan_known : (config : Config) (regions : List Region) (message : HeldMessage) (range : PlannedRange) → is_valid config ≡ true → IsPageMap regions → IsSound (port_of config message.client) message
    → plan_for message.operation (range_of config regions (request_of message)) ≡ Some range → IsPlanOf config message range
plan_known config regions message range valid map sound is =
    let has = range_known config regions message range map is in
    let plan : IsPlannable range = plannable config regions message range (config_parts config valid) sound has in
    grind (arith, has.is)

pub some_pieces : (config : Config) (message : HeldMessage) (range : PlannedRange) → IsPlanOf config message range → 1 ≤ length (pieces range)
some_pieces config message range plan = some_bursts range plan.plannable

-- eight bytes go as one burst
pub one_piece : (config : Config) (message : HeldMessage) (range : PlannedRange) → is_valid config ≡ true → IsPlanOf config message range → message.size ≤ 3 → length (pieces range) ≡ 1
one_piece config message range valid plan small =
    let cut : 8 ≤ cut_bytes range = rw (plan.bus, plan.max_len) (config_parts config valid).eight_bytes in
    let few : 2 ^ range.size ≤ 8 = pow_mono {i = range.size} {j = 3} (omega (arith, plan.size, small)) in
    let bytes : burst_bytes range ≡ 2 ^ range.size = omega (arith, cut, few) in
    length-pieces range (divides_evenly range plan.plannable) ∙ ap (λ n. 2 ^ range.size / n) bytes ∙ itself (2 ^ range.size) (pow_pos range.size)

-- ---- the plan of a live request

pub record HasPlan (config : Config) (request : BridgedRequest) : Type 0 where
  pub range : PlannedRange
  pub is : request.flight.plan ≡ Some range
  pub plan : IsPlanOf config request.message range

-- a live request that isn't done has one
pub live_plan : (config : Config) (regions : List Region) (request : BridgedRequest) → is_valid config ≡ true → IsPageMap regions → IsSound (port_of config request.message.client) request.message
    → IsOfMessage config regions request → (request.flight.plan ≡ None → request.flight.done ≡ true) → request.flight.done ≡ false → HasPlan config request
live_plan config regions request valid map sound of_message no_plan live =
    let (range, is) = present request.flight.plan (grind (arith, no_plan, live)) in
    record { range = range; is = is; plan = plan_known config regions request.message range valid map sound (sym of_message.plan ∙ is) }

-- an atomic has at most eight bytes
atomic_small : (operation : Operation) (size : ℕ) → (reply_has_data operation && has_data operation) ≡ true → ((op : AtomicOp) → operation ≡ Atomic op → size ≤ 3) → size ≤ 3
atomic_small operation size is small = grind arith

-- an atomic reads one piece, and writes one
pub record IsAtomicPlan (flight : LiveRequest) : Type 0 where
  pub reads : length (read_pieces flight) ≡ 1
  pub writes : length (write_pieces flight) ≡ 1

pub atomic_plan : (config : Config) (regions : List Region) (request : BridgedRequest) → is_valid config ≡ true → IsSound (port_of config request.message.client) request.message
    → IsOfMessage config regions request → HasPlan config request → reads_then_writes request.flight ≡ true → IsAtomicPlan request.flight
atomic_plan config regions request valid sound of_message has atomic =
    let both = and_parts (reply_has_data request.flight.operation) (has_data request.flight.operation) atomic in
    let small : request.message.size ≤ 3 = atomic_small request.flight.operation request.message.size atomic (λ op is. sound.atomic_size op (sym of_message.operation ∙ is)) in
    let one = one_piece config request.message has.range valid has.plan small in
    record { reads = rw (both.0, has.is) one; writes = rw (both.1, has.is) one }
