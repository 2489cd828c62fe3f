-- How many read transfers a live request has: those that its reply needs.
use Rattle.std.proofs.Common.{◌≡◌, ℕ, ◌*◌, ◌/◌, ◌%◌, ◌^◌, ◌<◌, ◌≤◌, min, max, Bool, true, List, [], refl, ap, sym, ◌∙◌, subst, arith}
use Rattle.std.specs.Prelude.{IfSome, None, Option, Some, if◌then◌else◌}
use Rattle.std.proofs.lemmas.Bool.{and_parts}
use Rattle.std.proofs.lemmas.Bool.Decides.{nat_tests}
use Rattle.std.proofs.Math.Nat.{mul-le-mul}
use Rattle.std.proofs.lemmas.Nat.{one_shl, pow_pos}
use Rattle.bus_words.proofs.MappedPlaces.{map_some}
use Rattle.tl_messages.specs.Operations.{reply_has_data}
use Rattle.tl_messages.specs.Requests.{HeldMessage, WholeRequest, request_of}
use Rattle.tl_messages.specs.declared.Operation.{Operation}
use Rattle.tl_checker.specs.Sound.{IsSound}
use Rattle.axi_beats.specs.Transfers.{IsBusWidth}
use Rattle.burst_plan.specs.PageMap.{IsPageMap, LeadsTo, translated_address, address_of}
use Rattle.burst_plan.specs.Pieces.{IsPlannable, PlannedRange, beat_size, is_max_len, pieces}
use Rattle.burst_plan.specs.declared.Piece.{Piece}
use Rattle.burst_plan.specs.declared.Region.{Region}
use Rattle.burst_plan.proofs.PieceLaws.{divides_evenly}
use Rattle.burst_plan.proofs.PlanLaws.{beats_counted}
use Rattle.burst_plan.proofs.TranslationLaws.{LeadsTo-alignment, translated-LeadsTo}
use Rattle.flight_table.specs.Laws.{AreLimits}
use Rattle.flight_table.specs.LiveRequests.{plan_for, read_pieces}
use Rattle.responses.specs.Gathered.{reads_of}
use Rattle.bridge_core.specs.Bridge.{boxes_of}
use Rattle.config.specs.Configs.{is_valid, port_of}
use Rattle.bridge_core.specs.HeldRequests.{table_limits_of, BridgedRequest, outline_in, range_at, range_of}
use Rattle.bridge_core.specs.Laws.{IsServed, beats_in}
use Rattle.config.specs.declared.Config.{Config}

-- ---- a valid configuration

pub record IsValidConfig (config : Config) : Type 0 where
  pub limits : AreLimits (table_limits_of config)
  pub max_len : is_max_len config.max_len ≡ true
  pub max_size : config.max_size ≤ 12
  pub bus : IsBusWidth config.axi_bytes
  pub eight_bytes : 8 ≤ config.axi_bytes * config.max_len

some_transfers : (len : ℕ) → is_max_len len ≡ true → 1 ≤ len
some_transfers len is = grind (arith, nat_tests)

pub config_parts : (config : Config) → is_valid config ≡ true → IsValidConfig config
config_parts config valid =
    let len : is_max_len config.max_len ≡ true = (and_parts _ _ (and_parts _ _ (and_parts _ _ valid).0).0).1 in
    let some : 1 ≤ config.max_len = some_transfers config.max_len len in
    record { limits = grind (arith, nat_tests); max_len = len; max_size = grind (arith, nat_tests); bus = grind (arith, nat_tests); eight_bytes = grind (arith, nat_tests) }

-- no more boxes than 64
pub few_boxes : (config : Config) → is_valid config ≡ true → boxes_of config ≤ 64
few_boxes config valid =
    let limits = (config_parts config valid).limits in
    mul-le-mul limits.most_ids limits.most_depth

-- ---- the range of a live request

pub planned_range : (operation : Operation) (plan : Option PlannedRange) (range : PlannedRange) → plan_for operation plan ≡ Some range → plan ≡ Some range
planned_range operation plan range is = grind arith

-- it is that of the message, at an address to which the message leads
pub record HasRange (config : Config) (regions : List Region) (message : HeldMessage) (range : PlannedRange) : Type 0 where
  pub address : ℕ
  pub is : range ≡ range_at config (request_of message) address
  pub leads : LeadsTo regions message.operation message.address address

pub leads_there : (regions : List Region) (q : WholeRequest) (address : ℕ) → IsPageMap regions → translated_address regions q ≡ Some address → LeadsTo regions q.operation q.address address
leads_there regions q address map is = subst (λ (place : Option ℕ). IfSome place (LeadsTo regions q.operation q.address)) is (translated-LeadsTo regions q.operation q.address map.in_range)

pub uncorrupt_address : (corrupt : Bool) (place : Option ℕ) (address : ℕ) → (if corrupt then None else place) ≡ Some address → place ≡ Some address
uncorrupt_address corrupt place address is = grind arith

pub range_known : (config : Config) (regions : List Region) (message : HeldMessage) (range : PlannedRange) → IsPageMap regions → plan_for message.operation (range_of config regions (request_of message)) ≡ Some range
    → HasRange config regions message range
range_known config regions message range map is =
    map_some (range_at config (request_of message)) (address_of regions (request_of message)) range (planned_range message.operation (range_of config regions (request_of message)) range is)
    (λ address at same.
    let place = uncorrupt_address message.corrupt (translated_address regions (request_of message)) address at in
    record { address = address; is = sym same; leads = leads_there regions (request_of message) address map place })

pub range_served : (config : Config) (regions : List Region) (request : BridgedRequest) (range : PlannedRange) → IsServed config regions request → request.flight.plan ≡ Some range
    → HasRange config regions request.message range
range_served config regions request range served is = range_known config regions request.message range served.pages (sym served.flight.plan ∙ is)

pub plannable : (config : Config) (regions : List Region) (message : HeldMessage) (range : PlannedRange) → IsValidConfig config → IsSound (port_of config message.client) message → HasRange config regions message range
    → IsPlannable range
plannable config regions message range valid sound has =
    let small : message.size ≤ 12 = omega (arith, sound.size, valid.max_size) in
    let aligned = LeadsTo-alignment regions message.operation message.address has.address message.size has.leads small ∙ sound.aligned in
    subst IsPlannable (sym has.is) (record { bus = valid.bus; max_len = valid.max_len; size = small; aligned = aligned })

-- ---- its transfers

-- the quotient by the smaller of a number and the bus's bytes
pub itself : (n : ℕ) → 0 < n → n / n ≡ 1
itself n some = grind (arith, some)

quotient_most : (n bus : ℕ) → IsBusWidth bus → 0 < n → n / min n bus ≡ max 1 (n / bus)
quotient_most n bus width some = grind (arith, itself n)

pieces_counted : (range : PlannedRange) → IsPlannable range → beats_in (pieces range) ≡ max 1 (2 ^ range.size / range.bus_bytes)
pieces_counted range plans =
    let whole : 1 * 2 ^ range.size % 2 ^ 16 ≡ 2 ^ range.size = one_shl range.size 16 (omega (arith, plans.size)) in
    let even = divides_evenly range plans in
    sym (beats_counted range (beat_size range) plans refl)
    ∙ ap (λ n. n / 2 ^ beat_size range) whole
    ∙ ap (λ n. 2 ^ range.size / n) even.wide
    ∙ quotient_most (2 ^ range.size) range.bus_bytes plans.bus (pow_pos range.size)

if_reads : (reads : Bool) (parts : List Piece) (n : ℕ) → beats_in parts ≡ n → beats_in (if reads then parts else []) ≡ (if reads then n else 0)
if_reads reads parts n counted = grind (arith, counted)

-- the read transfers of a request that has a plan are those that its reply needs
pub reads_counted : (config : Config) (regions : List Region) (request : BridgedRequest) (range : PlannedRange) → is_valid config ≡ true → IsPageMap regions → IsServed config regions request → request.flight.plan ≡ Some range
    → beats_in (read_pieces request.flight) ≡ reads_of config.axi_bytes (outline_in request)
reads_counted config regions request range valid map served is =
    let has = range_served config regions request range served is in
    let counted : beats_in (pieces range) ≡ max 1 (2 ^ request.message.size / config.axi_bytes) =
    pieces_counted range (plannable config regions request.message range (config_parts config valid) served.message has) ∙ ap (λ (r : PlannedRange). max 1 (2 ^ r.size / r.bus_bytes)) has.is in
    rw (served.flight.operation, is) (if_reads (reply_has_data request.message.operation) (pieces range) _ counted)
