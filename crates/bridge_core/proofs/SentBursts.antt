-- The burst that goes next is legal, and breaks no rule of the port.
use Rattle.std.proofs.Common.{◌≡◌, ℕ, ◌+◌, ◌-◌, ◌^◌, ◌<◌, ◌≤◌, Bool, true, List, [], ◌∷◌, length, take, Option, Some, None, refl, ap, sym, ◌∙◌, arith, subst, length-drop, length-take}
use Rattle.std.specs.Prelude.{if◌then◌else◌, unwrap_or}
use Rattle.std.specs.List.{range_with_len, slice_get}
use Rattle.std.specs.Option.{option_and_then}
use Rattle.std.proofs.lemmas.List.Elements.{All-map}
use Rattle.tl_messages.specs.Operations.{has_data}
use Rattle.tl_messages.specs.Requests.{HeldMessage, byte_given, bytes_given, given_in, request_of}
use Rattle.tl_messages.specs.declared.MaskedWord.{MaskedWord}
use Rattle.tl_messages.specs.declared.Operation.{Operation}
use Rattle.tl_messages.specs.declared.Operation.TheVariants.{PutFull, PutPartial, Atomic, Get, Intent}
use Rattle.data_unit.specs.Atomics.{atomic_result, operand_of}
use Rattle.data_unit.specs.Words.{bytes_of}
use Rattle.data_unit.proofs.NumberLaws.{All-bytes_of, lane_byte-lt}
use Rattle.axi_beats.specs.Bursts.{Burst, IsLegal}
use Rattle.axi_checker.specs.OpenBursts.{OpenBursts}
use Rattle.axi_checker.specs.Rules.{AxiPortLimits, burst_fault, id_of, outstanding_beside}
use Rattle.axi_checker.proofs.Taking.{legal_is_unbroken}
use Rattle.burst_plan.specs.PageMap.{IsPageMap}
use Rattle.burst_plan.specs.Pieces.{IsPlannable, PlannedRange, pieces}
use Rattle.burst_plan.specs.PlannedBursts.{AreBytes}
use Rattle.burst_plan.specs.declared.Piece.{Piece}
use Rattle.burst_plan.specs.declared.Region.{Region}
use Rattle.burst_plan.proofs.WriteLaws.{puts_given_bytes, reads_are_legal}
use Rattle.flight_table.specs.LiveRequests.{LiveRequest, pieces_planned, planned}
use Rattle.flight_table.proofs.PhaseLaws.{piece_planned}
use Rattle.flight_table.proofs.Steps.{takes_id}
use Rattle.bridge_core.specs.Bridge.{BridgeState}
use Rattle.config.specs.Configs.{axi_port_of, is_valid}
use Rattle.bridge_core.specs.HeldRequests.{table_limits_of, BridgedRequest, RequestTable, flights_of}
use Rattle.bridge_core.specs.Laws.{IsLinked, IsServed, IsSoundBridge, IsSoundRequestTable, came_of_next, open_reads, open_writes, outstanding}
use Rattle.bridge_core.specs.Sending.{Sending, burst_of_piece, bytes_to_write, bytes_written, next_sending}
use Rattle.config.specs.declared.Config.{Config}
use Rattle.bridge_core.proofs.NextSending.{next_found, next_served, next_sound}
use Rattle.bridge_core.proofs.ReadCounts.{config_parts, range_served}
use Rattle.bridge_core.proofs.ReadCounts as counts
use Rattle.bridge_core.proofs.SentLinks.{IsTakenBy, taken_by}

-- ---- the bytes that a request writes are bytes

given_small : (lane : ℕ) (word : MaskedWord) → unwrap_or (given_in lane word) 0 < 256
given_small lane word = grind (arith, lane_byte-lt word.word lane)

byte_given_small : (lane : ℕ) (word : Option MaskedWord) → unwrap_or (option_and_then (given_in lane) word) 0 < 256
byte_given_small lane word = grind (arith, given_small lane)

given_are_bytes : (held : HeldMessage) → AreBytes (bytes_given held)
given_are_bytes held =
    All-map (λ (byte : Option ℕ). unwrap_or byte 0 < 256) (λ i. if has_data held.operation then byte_given held.address held.beats i else None) (range_with_len 0 (2 ^ held.size))
    (λ k d within. grind (arith, byte_given_small))

no_bytes : AreBytes []
no_bytes k d within = absurd (omega (arith, within))

pub written_are_bytes : (held : HeldMessage) (operation : Operation) (old : ℕ) → AreBytes (bytes_written (request_of held) operation old)
written_are_bytes held PutFull old = given_are_bytes held
written_are_bytes held PutPartial old = given_are_bytes held
written_are_bytes held (Atomic op) old =
    All-map (λ (byte : Option ℕ). unwrap_or byte 0 < 256) (λ (byte : ℕ). Some byte) (bytes_of (2 ^ held.size) (atomic_result op (2 ^ held.size) old (operand_of (request_of held))))
    (All-bytes_of (2 ^ held.size) (atomic_result op (2 ^ held.size) old (operand_of (request_of held))))
written_are_bytes held Get old = no_bytes
written_are_bytes held (Intent write) old = no_bytes

-- ---- a request's range has a plan

pub plannable : (config : Config) (regions : List Region) (request : BridgedRequest) (range : PlannedRange) → is_valid config ≡ true → IsPageMap regions → IsServed config regions request
    → request.flight.plan ≡ Some range → (IsPlannable range) × (range.bus_bytes ≡ config.axi_bytes)
plannable config regions request range valid map_of served plan =
    let has = range_served config regions request range served plan in
    (counts.plannable config regions request.message range (config_parts config valid) served.message has, ap (λ (r : PlannedRange). r.bus_bytes) has.is)

-- ---- its bursts are pieces of its plan

abbrev pub IsListed : List Piece → Piece → Type 0
IsListed pieces piece = (k : ℕ) × (slice_get pieces k ≡ Some piece)

pub piece_of_plan : (flight : LiveRequest) (range : PlannedRange) (k : ℕ) (piece : Piece) → flight.plan ≡ Some range → slice_get (planned flight) k ≡ Some piece → slice_get (pieces range) k ≡ Some piece
piece_of_plan flight range k piece plan there = ap (λ (p : Option PlannedRange). slice_get (pieces_planned p) k) (sym plan) ∙ piece_planned flight k piece there

-- ---- so it is legal

burst_legal : (id : ℕ) (request : BridgedRequest) (range : PlannedRange) (piece : Piece) → IsPlannable range → IsListed (pieces range) piece → IsLegal range.bus_bytes (burst_of_piece id request range piece)
burst_legal id request range piece has_plan (k, listed) =
    let writes = (puts_given_bytes range (bytes_to_write request) has_plan (written_are_bytes request.message request.message.operation _)).legal k id piece listed in
    grind (arith, writes, reads_are_legal range has_plan k id piece listed)

pub sent_legal : (table : RequestTable) (sending : Sending) → IsSoundRequestTable table → next_sending table ≡ Some sending → IsLegal table.config.axi_bytes sending.burst
sent_legal table sending sound is =
    let next = next_found table sending is in
    let served = next_served table sending sound next in
    let (has_plan, bus) = plannable table.config table.regions sending.request next.range sound.config served.pages served next.plan in
    let legal = burst_legal sending.id sending.request next.range next.piece has_plan (sending.request.flight.sent, piece_of_plan sending.request.flight next.range sending.request.flight.sent next.piece next.plan next.next) in
    rw next.burst (subst (λ bus_bytes. IsLegal bus_bytes (burst_of_piece sending.id sending.request next.range next.piece)) bus legal)

-- ---- its ID has room for it

pub id_of_piece : (id : ℕ) (request : BridgedRequest) (range : PlannedRange) (piece : Piece) → id_of (burst_of_piece id request range piece) ≡ id
id_of_piece id request range piece = grind arith

-- each outstanding burst is open as a write, or as a read
pub either_side : (id : ℕ) (write : Bool) (came : ℕ) (pieces : List Piece) → length (open_writes id write pieces) + length (open_reads id write came pieces) ≡ length pieces
either_side id write came [] = grind arith
either_side id write came (piece ∷ pieces) = grind (arith, either_side id write 0 pieces)

-- no more bursts of its ID are open on a side than a request has outstanding
few_beside : (id : ℕ) (live : List BridgedRequest) (open_bursts : OpenBursts) (request : BridgedRequest) (range : PlannedRange) (piece : Piece) → IsLinked id live open_bursts → IsTakenBy id live request
    → outstanding_beside open_bursts (burst_of_piece id request range piece) ≤ length (outstanding request.flight)
few_beside id live open_bursts request range piece linked taken =
    let writes = ap length (linked.writes ∙ taken.writes) in
    let reads = ap length (linked.reads ∙ taken.reads) in
    grind (arith, writes, reads, either_side id request.flight.writing (came_of_next request) (outstanding request.flight))

pub few_outstanding : (flight : LiveRequest) → length (outstanding flight) ≤ flight.sent - flight.answered
few_outstanding flight = omega (arith, length-drop flight.answered (take flight.sent (planned flight)), length-take flight.sent (planned flight))

-- a burst is within the limits of a port that has so many bursts outstanding
pub record IsWithinPort (port : AxiPortLimits) (open_bursts : OpenBursts) (burst : Burst) : Type 0 where
  pub id : id_of burst < port.ids
  pub depth : outstanding_beside open_bursts burst < port.depth

pub sent_within : (state : BridgeState) (sending : Sending) → IsSoundBridge state → next_sending state.requests ≡ Some sending
    → IsWithinPort (axi_port_of state.requests.config) state.open_bursts sending.burst
sent_within state sending sound is =
    let requests = state.requests in
    let next = next_found requests sending is in
    let flight = sending.request.flight in
    let takes = takes_id (table_limits_of requests.config) (flights_of requests.live) flight sending.id flight.id refl (next_sound requests sending sound.requests next).id next.id in
    let beside = few_beside sending.id requests.live state.open_bursts sending.request next.range next.piece (sound.linked sending.id) (taken_by requests sending sound.requests next) in
    rw next.burst (record {
      id = omega (arith, id_of_piece sending.id sending.request next.range next.piece, takes.below);
      depth = omega (arith, beside, few_outstanding flight, next.ready.depth);
    })

-- ---- so it breaks no rule

pub sent_unbroken : (state : BridgeState) (sending : Sending) → IsSoundBridge state → next_sending state.requests ≡ Some sending
    → (IsLegal state.requests.config.axi_bytes sending.burst) × (burst_fault (axi_port_of state.requests.config) state.open_bursts sending.burst ≡ None)
sent_unbroken state sending sound is =
    let legal = sent_legal state.requests sending sound.requests is in
    let within = sent_within state sending sound is in
    (legal, legal_is_unbroken (axi_port_of state.requests.config) state.open_bursts sending.burst sound.filled legal within.id within.depth)
