-- A box is in stock wherever a request is ready: each ID has at most as many bursts outstanding as it may have on one side. It counts; what
-- a box holds is hidden.
use Rattle.std.proofs.Common.{◌≡◌, ◌⊎◌, ℕ, suc, ◌+◌, ◌-◌, ◌==◌, ◌<◌, ◌≤◌, false, List, [], ◌∷◌, ◌++◌, length, Option, Some, None, refl, ap, sym, ◌∙◌, subst, arith}
use Rattle.std.specs.Prelude.{IsSome, option_map, filter}
use Rattle.std.specs.List.{AllByRecursion}
use Rattle.std.proofs.lemmas.List.{length-append}
use Rattle.std.proofs.lemmas.List.Elements.{filter-append}
use Rattle.std.proofs.lemmas.Bool.{eq-eqb}
use Rattle.axi_beats.specs.Bursts.{Burst}
use Rattle.axi_checker.specs.Monitors.{HasFewOfEach}
use Rattle.axi_checker.specs.OpenBursts.{OpenBursts, read_of_id, write_of_id}
use Rattle.axi_checker.specs.Rules.{id_of}
use Rattle.axi_checker.proofs.Few.{room_for_one}
use Rattle.bridge_core.specs.Bridge.{BridgeState, StockedBridge, boxes_of, burst_to_send}
use Rattle.bridge_core.specs.Laws.{IsSoundBridge, came_of_next, outstanding, reads_held, writes_held}
use Rattle.bridge_core.specs.HeldRequests.{BridgedRequest, holder}
use Rattle.bridge_core.specs.Sending.{Sending, next_sending}
use Rattle.subordinate.specs.Device.{DeviceState}
use Rattle.world.specs.Inside.{ArePaired}
use Rattle.bridge_core.proofs.AnswerLinks.{holder_known}
use Rattle.bridge_core.proofs.NextSending.{next_found}
use Rattle.bridge_core.proofs.SentBursts.{either_side, few_outstanding, id_of_piece, sent_within}
use Rattle.bridge_core.proofs.SentLinks.{taken_by}
use Rattle.subordinate.specs.FreeMemory.{FreeMemory, Pending, is_read_of, is_write_of, newly_pending, reads_as, writes_as}
use Rattle.subordinate.proofs.OpenBursts.{reads_known, writes_known}
use Rattle.world.specs.Laws.{Agree}
use Rattle.world.proofs.TakesAll.{id_known}

-- the ID of an open burst, on either side
abbrev pub id_of_pending : Pending → ℕ
id_of_pending pending = id_of pending.burst

abbrev pub count_of : ℕ → List Pending → ℕ
count_of id pending = length (filter (λ p. id_of_pending p == id) pending)

-- ---- how many bursts an ID has outstanding

by_side : (id : ℕ) (burst : Burst) → ((reads_as id burst ≡ false) × (writes_as id burst ≡ (id_of burst == id))) ⊎ ((writes_as id burst ≡ false) × (reads_as id burst ≡ (id_of burst == id)))
by_side id burst = grind arith

both_sides : (id : ℕ) (pending : List Pending) → count_of id pending ≡ length (filter (is_write_of id) pending) + length (filter (is_read_of id) pending)
both_sides id [] = refl
both_sides id (p ∷ ps) = grind (arith, by_side id p.burst, both_sides id ps)

-- how many its holder has outstanding
abbrev count_held : ℕ → Option BridgedRequest → ℕ
count_held id held = length (writes_held id held) + length (reads_held id held)

-- so many are open
counted : (bridge : BridgeState) (memory : FreeMemory) (id : ℕ) → Agree bridge memory → count_of id memory.pending ≡ count_held id (holder id bridge.requests.live)
counted bridge memory id agree =
    let held = holder id bridge.requests.live in
    let writes : length (filter (is_write_of id) memory.pending) ≡ length (writes_held id held) =
    sym (writes_known id memory.pending) ∙ ap (λ (outstanding : OpenBursts). length (filter (write_of_id id) outstanding.writes)) (sym agree.outstanding)
    ∙ ap length (agree.bridge_laws.linked id).writes in
    let reads : length (filter (is_read_of id) memory.pending) ≡ length (reads_held id held) =
    sym (reads_known id memory.pending) ∙ ap (λ (outstanding : OpenBursts). length (filter (read_of_id id) outstanding.reads)) (sym agree.outstanding)
    ∙ ap length (agree.bridge_laws.linked id).reads in
    omega (arith, both_sides id memory.pending, writes, reads)

few_of : (id : ℕ) (request : BridgedRequest) → count_held id (Some request) ≤ request.flight.sent - request.flight.answered
few_of id request = omega (arith, either_side id request.flight.writing (came_of_next request) (outstanding request.flight), few_outstanding request.flight)

few_held : (bridge : BridgeState) (id : ℕ) → IsSoundBridge bridge → (held : Option BridgedRequest) → holder id bridge.requests.live ≡ held → count_held id held ≤ bridge.requests.config.depth
few_held bridge id sound None is = omega arith
few_held bridge id sound (Some request) is = omega (arith, few_of id request, (holder_known bridge.requests id request sound.requests is).sound.depth)

-- an ID under which a burst is open is one of the port's
below_ids : (bridge : BridgeState) (memory : FreeMemory) (id : ℕ) → Agree bridge memory → 1 ≤ count_of id memory.pending → id < bridge.requests.config.ids
below_ids bridge memory id agree some = id_known bridge id agree.bridge_laws (λ none. absurd (omega (arith, some, rw none at (counted bridge memory id agree))))

-- each open burst counts for its own ID
each_counts : (ids : ℕ) (before later all : List Pending) → all ≡ before ++ later → ((id : ℕ) → 1 ≤ count_of id all → id < ids) → AllByRecursion (λ p. id_of_pending p < ids) later
each_counts ids before [] all is known = tt
each_counts ids before (p ∷ later) all is known =
    let own : count_of (id_of_pending p) (p ∷ later) ≡ suc (count_of (id_of_pending p) later) = rw (eq-eqb (id_of_pending p) (id_of_pending p) refl) refl in
    let split : count_of (id_of_pending p) all ≡ count_of (id_of_pending p) before + count_of (id_of_pending p) (p ∷ later) =
    ap (count_of (id_of_pending p)) is ∙ ap length (filter-append (λ (q : Pending). id_of_pending q == id_of_pending p) before (p ∷ later))
    ∙ length-append (filter (λ (q : Pending). id_of_pending q == id_of_pending p) before) (filter (λ (q : Pending). id_of_pending q == id_of_pending p) (p ∷ later)) in
    (known (id_of_pending p) (omega (arith, own, split)), each_counts ids (before ++ p ∷ []) later all (is ∙ one_by_one before p later) known)
  where
    one_by_one : (before : List Pending) (p : Pending) (later : List Pending) → before ++ p ∷ later ≡ (before ++ p ∷ []) ++ later
    one_by_one [] p later = refl
    one_by_one (q ∷ before) p later = ap (λ (ps : List Pending). q ∷ ps) (one_by_one before p later)

few_of_each : (bridge : BridgeState) (memory : FreeMemory) → Agree bridge memory → HasFewOfEach id_of_pending bridge.requests.config.ids bridge.requests.config.depth memory.pending
few_of_each bridge memory agree =
    record {
      known = each_counts bridge.requests.config.ids [] memory.pending memory.pending refl (λ id some. below_ids bridge memory id agree some);
      few = λ id. omega (arith, counted bridge memory id agree, few_held bridge id agree.bridge_laws (holder id bridge.requests.live) refl);
    }

-- ---- so a burst that goes finds a box

-- fewer bursts are open than there are boxes
pub box_left : (bridge : BridgeState) (memory : FreeMemory) (sending : Sending) → Agree bridge memory → next_sending bridge.requests ≡ Some sending → length memory.pending < boxes_of bridge.requests.config
box_left bridge memory sending agree is =
    let next = next_found bridge.requests sending is in
    let taken = taken_by bridge.requests sending agree.bridge_laws.requests next in
    let within = sent_within bridge sending agree.bridge_laws is in
    let few : count_of sending.id memory.pending < bridge.requests.config.depth =
    omega (arith, counted bridge memory sending.id agree, ap length taken.writes, ap length taken.reads, few_of sending.id sending.request, next.ready.depth) in
    let own : id_of sending.burst ≡ sending.id = ap id_of next.burst ∙ id_of_piece sending.id sending.request next.range next.piece in
    room_for_one id_of_pending bridge.requests.config.ids bridge.requests.config.depth memory.pending (newly_pending memory.sent sending.burst) (few_of_each bridge memory agree) within.id
    (subst (λ (id : ℕ). count_of id memory.pending < bridge.requests.config.depth) (sym own) few)

box_for : (bridge : BridgeState) (memory : FreeMemory) → Agree bridge memory → (sending : Option Sending) → next_sending bridge.requests ≡ sending → IsSome (option_map (λ (s : Sending). s.burst) sending)
    → length memory.pending < boxes_of bridge.requests.config
box_for bridge memory agree None is some = absurd (cc (some))
box_for bridge memory agree (Some sending) is some = box_left bridge memory sending agree is

-- with each box in stock or holding an open burst
pub box_in_stock : (bridge : StockedBridge) (device : DeviceState) → ArePaired bridge device → IsSome (burst_to_send bridge.state) → 0 < bridge.stock
box_in_stock bridge device paired some =
    omega (arith, paired.boxes, box_for bridge.state device.memory paired.agree (next_sending bridge.state.requests) refl some)
