-- A request that is accepted joins the table, and what is kept of it goes into the slot of its key; one whose reply is taken leaves.
use Rattle.std.proofs.Common.{◌≡◌, ℕ, None, refl, ◌∙◌, ap, ◌<◌, Bool, true, [], ◌∷◌, ◌++◌, length, set, Option, is_none, is_some, not, arith}
use Rattle.std.specs.Prelude.{option_map}
use Rattle.bus_words.proofs.PlaceChanges.{all-without_first, all-append}
use Rattle.flight_table.specs.Laws.{IsSound, AreLimits}
use Rattle.flight_table.specs.Tables.{KeyedRequest, KeyedTable, is_done_of, request_at, without_key, with_entry}
use Rattle.bridge_core.specs.Inside.{IsFirstAt, IsKept, KeptTable, bridged, held_in, joined, shown_table, HeldRequest}
use Rattle.bridge_core.specs.Laws.{IsServed, IsSoundRequestTable}
use Rattle.bridge_core.specs.HeldRequests.{BridgedRequest, RequestTable, is_done_for, without_done, newly_live, range_at, range_of, table_limits_of}
use Rattle.burst_plan.specs.PageMap.{address_of, IsPageMap}
use Rattle.bridge_core.proofs.TableSteps.{without_by_key, without_joined, added_joined, all-held, kept_put, Shows, shows}
use Rattle.tl_messages.specs.Requests.{HeldMessage, request_of}
use Rattle.tl_checker.specs.Sound as checker
use Rattle.burst_plan.specs.Pieces.{PlannedRange}
use Rattle.flight_table.specs.LiveRequests.{flight_for}
use Rattle.responses.specs.Gathered.{gathering_of, outline_of}
use Rattle.config.specs.Configs.{is_valid, port_of}
use Rattle.bridge_core.specs.HeldRequests as requests
use Rattle.config.specs.declared.Config.{Config}
use Rattle.bridge_core.proofs.ReadCounts.{config_parts}
use Rattle.bridge_core.proofs.ServedRequests.{served_new}

-- ---- a request whose reply is taken

abbrev pub IsTakenOut : KeptTable → KeptTable → ℕ → Type 0
IsTakenOut old new client = Shows new (without_done client (shown_table old))

pub taken_out : (old : KeptTable) (flight : KeyedTable) (client key : ℕ) → IsKept old → IsSoundRequestTable (shown_table old) → (at : IsFirstAt (is_done_of client) old.flight key) → flight ≡ without_key key old.flight → IsSound flight
    → IsTakenOut old (record old { flight = flight }) client
taken_out old flight client key kept sound at is laws =
    let entries = ap (λ (t : KeyedTable). t.entries) is ∙ without_by_key (λ (e : KeyedRequest). is_done_of client e.request) old.flight.entries (record { key = key; request = at.request }) at.laws.keys at.first in
    let live = ap (joined old.helds) entries ∙ without_joined (is_done_of client) old.helds old.flight.entries in
    shows (record { limits = ap (λ (t : KeyedTable). t.limits) is ∙ kept.limits; buses = kept.buses; all = kept.all }) laws sound.config (rw (live, ap (λ (t : KeyedTable). t.accepted) is) refl)
    (all-without_first (IsServed old.config old.regions) (is_done_for client) (shown_table old).live sound.served)

-- ---- a request that is accepted

pub limits_made : (config : Config) → is_valid config ≡ true → AreLimits (table_limits_of config)
limits_made config valid = (config_parts config valid).limits

-- what is accepted under a key that named nothing, and what is kept of it
pub record IsJoining (old : KeptTable) (flight : KeyedTable) (key : ℕ) (held : HeldRequest) (message : HeldMessage) (range : Option PlannedRange) : Type 0 where
  pub few : key < 64
  pub fresh : request_at key old.flight ≡ None
  pub range_is : range ≡ range_of old.config old.regions (request_of message)
  pub state : flight ≡ with_entry (record { key = key; request = flight_for old.flight.accepted message.client message range }) old.flight
  pub laws : IsSound flight
  pub pages : IsPageMap old.regions
  pub of_port : checker.IsSound (port_of old.config message.client) message
  pub held_is : held ≡ record { message = message; bus_bytes = (held_in old.helds key).bus_bytes; gathering = gathering_of (outline_of (request_of message)) (is_none range) }

abbrev pub IsJoined : KeptTable → KeptTable → HeldMessage → Type 0
IsJoined old new message = Shows new (requests.with_request message (shown_table old))

none_mapped : {A B : Type 0} (f : A → B) (o : Option A) → is_none (option_map f o) ≡ is_none o
none_mapped f o = grind arith

pub none_told : {A : Type 0} (o : Option A) (b : Bool) → is_some o ≡ not b → b ≡ is_none o
none_told o b told = grind arith

pub joins : (old : KeptTable) (flight : KeyedTable) (key : ℕ) (held : HeldRequest) (message : HeldMessage) (range : Option PlannedRange) → IsKept old → IsSoundRequestTable (shown_table old)
    → IsJoining old flight key held message range → IsJoined old (record old { flight = flight; helds = set old.helds key held }) message
joins old flight key held message range kept sound joining =
    let one = flight_for old.flight.accepted message.client message range in
    let before : RequestTable = shown_table old in
    let within : key < length old.helds = omega (arith, joining.few, kept.all) in
    let bus = ap (λ (h : HeldRequest). h.bus_bytes) joining.held_is ∙ all-held (λ (h : HeldRequest). h.bus_bytes ≡ old.config.axi_bytes) old.helds key kept.buses within in
    let denied : is_none range ≡ is_none (address_of old.regions (request_of message)) =
    ap is_none joining.range_is ∙ none_mapped (range_at old.config (request_of message)) (address_of old.regions (request_of message)) in
    let is_new : bridged one held ≡ newly_live before message = rw (joining.held_is, denied, joining.range_is) refl in
    let live =
    ap (λ (t : KeyedTable). joined (set old.helds key held) t.entries) joining.state
    ∙ added_joined old.helds old.flight.entries key one held joining.fresh within
    ∙ ap (λ (b : BridgedRequest). before.live ++ b ∷ []) is_new in
    shows (kept_put old flight key held kept (ap (λ (t : KeyedTable). t.limits) joining.state) bus) joining.laws sound.config (rw (live, ap (λ (t : KeyedTable). t.accepted) joining.state) refl)
    (all-append (IsServed old.config old.regions) before.live (newly_live before message) sound.served (served_new before message sound.config joining.pages joining.of_port))
