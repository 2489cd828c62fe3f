-- The live request that an answer belongs to, and what the answer makes of it.
use Rattle.std.proofs.Common.{◌≡◌, ℕ, ◌<◌, Bool, true, false, Option, Some, None, refl, sym, ◌∙◌, ap, subst, length, get_or, set, arith}
use Rattle.std.specs.Prelude.{IsSome, IsSomeAnd, is_some}
use Rattle.std.specs.List.{find}
use Rattle.std.proofs.lemmas.Bool.{lt-leb}
use Rattle.bus_words.proofs.PlaceChanges.{all-find}
use Rattle.tl_messages.specs.Requests.{request_of}
use Rattle.axi_beats.specs.declared.RBeat.{RBeat}
use Rattle.axi_beats.specs.declared.Resp.{Resp}
use Rattle.flight_table.specs.Laws.{IsSound, IsSoundRequest}
use Rattle.flight_table.specs.LiveRequests.{LiveRequest, is_settled, planned, with_answered}
use Rattle.flight_table.specs.Order.{holds_id}
use Rattle.flight_table.specs.Tables.{KeyedTable, change_key, request_at}
use Rattle.flight_table.specs.declared.TableLimits.{TableLimits}
use Rattle.responses.specs.Gathered.{outline_of, reads_of}
use Rattle.config.specs.Configs.{is_valid}
use Rattle.bridge_core.specs.HeldRequests.{table_limits_of, BridgedRequest, RequestTable, after_read, after_response, holder, holds, settled, value_found}
use Rattle.bridge_core.specs.Inside.{AwaitsAnswer, AwaitsBeat, HeldRequest, IsFirstAt, IsKept, IsUndone, KeptTable, answered_flight, beat_held, bridged, held_in, responded, settled_flight, shown_table, value_held}
use Rattle.bridge_core.specs.Laws.{IsServed, IsSoundRequestTable}
use Rattle.bridge_core.proofs.TableSteps.{found_apart, IsChanged, IsStep, all-held, changed_table, held_at, shown_at}
use Rattle.bridge_core.proofs.KeyChanges.{change_none}
use Rattle.bridge_core.proofs.SendingLinks.{sound_requests}
use Rattle.bridge_core.proofs.ServedRequests.{found_is_atomic, served_read, served_response}

-- a live request, of which something is known
pub record Serving (kept : KeptTable) (key : ℕ) (P : BridgedRequest → Type 0) (r : LiveRequest) : Type 0 where
  pub served : IsServed kept.config kept.regions (bridged r (held_in kept.helds key))
  pub sound : IsSoundRequest (table_limits_of kept.config) kept.flight.accepted r
  pub known : P (bridged r (held_in kept.helds key))
  pub bus : (held_in kept.helds key).bus_bytes ≡ kept.config.axi_bytes

some_of : {X : Type 0} (P : X → Type 0) (o : Option X) → IsSomeAnd o P → IsSome o
some_of P None holds = absurd holds
some_of P (Some x) holds = refl

-- the request that holds an ID, of a table whose holder is known
pub holder_apart : (kept : KeptTable) (table : RequestTable) (id : ℕ) (P : BridgedRequest → Type 0) → shown_table kept ≡ table → IsSomeAnd (holder id table.live) P → IsSome (find (λ entry. holds_id id entry.request) kept.flight.entries)
holder_apart kept table id P is holds =
    found_apart (holds_id id) kept.helds kept.flight.entries (some_of P (holder id (shown_table kept).live) (subst (λ (t : RequestTable). IsSomeAnd (holder id t.live) P) (sym is) holds))

pub holder_serves : (kept : KeptTable) (table : RequestTable) (id key : ℕ) (P : BridgedRequest → Type 0) → shown_table kept ≡ table → IsKept kept → IsSoundRequestTable (shown_table kept) → (at : IsFirstAt (holds_id id) kept.flight key)
    → key < 64 → IsSomeAnd (holder id table.live) P → Serving kept key P at.request
holder_serves kept table id key P is keeps sound at few holding =
    let live = (shown_table kept).live in
    let one = bridged at.request (held_in kept.helds key) in
    let found = shown_at (holds_id id) kept key at in
    record {
      served = all-find (IsServed kept.config kept.regions) (holds id) live one sound.served found;
      sound = all-find (λ (b : BridgedRequest). IsSoundRequest (table_limits_of kept.config) kept.flight.accepted b.flight) (holds id) live one (sound_requests (shown_table kept) sound) found;
      known = rw found at (subst (λ (t : RequestTable). IsSomeAnd (holder id t.live) P) (sym is) holding);
      bus = all-held (λ (h : HeldRequest). h.bus_bytes ≡ kept.config.axi_bytes) kept.helds key keeps.buses (omega (arith, few, keeps.all));
    }

-- ---- what an answer makes of it

-- settled on both sides
pub settled_both : (found : Bool) (r : LiveRequest) (held : HeldRequest) → found ≡ is_some (value_found (bridged r held)) → settled (bridged r held) ≡ bridged (settled_flight found r) held
settled_both found r held is = rw is (grind arith)

unsettled : (r : LiveRequest) (limits : TableLimits) (accepted : ℕ) → IsSoundRequest limits accepted r → r.answered < r.sent → is_settled r ≡ false
unsettled r limits accepted sound less = lt-leb (length (planned r)) r.answered (omega (arith, less, sound.sent))

-- the step of a response
pub step_response : (kept : KeptTable) (key : ℕ) (resp : Resp) (found : Bool) (r : LiveRequest) → is_valid kept.config ≡ true → Serving kept key (AwaitsAnswer true) r
    → found ≡ is_some (value_held (responded resp (held_in kept.helds key))) → IsStep kept (answered_flight found) (held_in kept.helds key) (responded resp (held_in kept.helds key)) (after_response resp) r
step_response kept key resp found r valid serving is =
    let held = held_in kept.helds key in
    record {
      bus = refl;
      same = settled_both found (with_answered r) (responded resp held) is;
      served = λ served.
          served_response {request = bridged r held} valid served serving.sound resp serving.known.side serving.known.unanswered serving.known.live;
    }

read_served : (kept : KeptTable) (key : ℕ) (beat : RBeat) (r : LiveRequest) → is_valid kept.config ≡ true → Serving kept key (AwaitsBeat kept.config.axi_bytes beat) r
    → IsServed kept.config kept.regions (after_read kept.config.axi_bytes beat (bridged r (held_in kept.helds key)))
read_served kept key beat r valid serving =
    let known = serving.known in
    served_read {request = bridged r (held_in kept.helds key)} valid serving.served serving.sound beat known.awaits.piece known.beats
    (record { within = known.awaits.unanswered; live = known.awaits.live; reads = known.awaits.side; burst = known.awaits.next; came = known.came; few = known.within }) known.last known.place

-- the step of the last beat of a read
pub step_last : (kept : KeptTable) (key : ℕ) (beat : RBeat) (found : Bool) (r : LiveRequest) → is_valid kept.config ≡ true → Serving kept key (AwaitsBeat kept.config.axi_bytes beat) r → beat.last ≡ true
    → found ≡ is_some (value_held (beat_held beat (held_in kept.helds key)))
    → IsStep kept (answered_flight found) (held_in kept.helds key) (beat_held beat (held_in kept.helds key)) (after_read kept.config.axi_bytes beat) r
step_last kept key beat found r valid serving last is =
    record {
      bus = refl;
      same = rw (last, ← serving.bus) (settled_both found (with_answered r) (beat_held beat (held_in kept.helds key)) is);
      served = λ served. read_served kept key beat r valid serving;
    }

-- the step of another beat of a read
pub step_more : (kept : KeptTable) (key : ℕ) (beat : RBeat) (r : LiveRequest) → is_valid kept.config ≡ true → Serving kept key (AwaitsBeat kept.config.axi_bytes beat) r → beat.last ≡ false
    → IsStep kept (λ q. q) (held_in kept.helds key) (beat_held beat (held_in kept.helds key)) (after_read kept.config.axi_bytes beat) r
step_more kept key beat r valid serving last =
    record {
      bus = refl;
      same = rw (last, ← serving.bus)
          (rw (unsettled r (table_limits_of kept.config) kept.flight.accepted serving.sound serving.known.awaits.unanswered) refl);
      served = λ served. read_served kept key beat r valid serving;
    }

-- ---- an answer, as the calls make it

-- what a whole answer asks of the request, and what it makes of the table, once it was counted
pub record IsAnswer (kept : KeptTable) (id key slot : ℕ) (found : Bool) (new : HeldRequest) (change : BridgedRequest → BridgedRequest) : Type 0 where
  pub live : IsSomeAnd (request_at key kept.flight) (IsUndone found)
  pub unanswered : IsSomeAnd (request_at key kept.flight) (λ request. request.answered < request.sent)
  pub changes : (flight : KeyedTable) → flight ≡ change_key key (answered_flight found) kept.flight → IsSound flight → IsChanged kept (record kept { flight = flight; helds = set kept.helds slot new }) (holds_id id) change

-- what a beat of a read makes of the table: the last one answers its burst, and another leaves more to come
pub record IsRead (kept : KeptTable) (r : RBeat) (key slot : ℕ) (found : Bool) (new : HeldRequest) : Type 0 where
  pub answers : r.last ≡ true → IsAnswer kept r.id key slot found new (after_read kept.config.axi_bytes r)
  pub more : r.last ≡ false → IsChanged kept (record kept { helds = set kept.helds slot new }) (holds_id r.id) (after_read kept.config.axi_bytes r)

-- what stands in a slot is kept of the request of a key
module _ {kept : KeptTable} {table : RequestTable} {key slot : ℕ} {held : HeldRequest} (id : ℕ) (view : shown_table kept ≡ table) (keeps : IsKept kept) (sound : IsSoundRequestTable (shown_table kept)) (at : IsFirstAt (holds_id id) kept.flight key)
    (same : slot ≡ key) (few : slot < 64) (held_is : held ≡ get_or kept.helds slot held) where
  is_old : held ≡ held_in kept.helds key
  is_old = held_at kept key slot held keeps same few held_is

  serving : (P : BridgedRequest → Type 0) → IsSomeAnd (holder id table.live) P → Serving kept key P at.request
  serving P holds = holder_serves kept table id key P view keeps sound at (rw same at few) holds

  -- its step changes the table
  changes : (flight : KeyedTable) (f : LiveRequest → LiveRequest) (new : HeldRequest) (change : BridgedRequest → BridgedRequest) → flight ≡ change_key key f kept.flight → IsSound flight → IsStep kept f (held_in kept.helds key) new change at.request
      → IsChanged kept (record kept { flight = flight; helds = set kept.helds slot new }) (holds_id id) change
  changes flight f new change state laws step = rw same (changed_table kept flight (holds_id id) key f new change keeps sound at (rw same at few) state laws step)

  -- a whole answer: a request that awaits one isn't done, and its (held_in kept.helds key) value is found only where it is an atomic
  answered : (found : Bool) (new : HeldRequest) (change : BridgedRequest → BridgedRequest) → IsServed kept.config kept.regions (bridged at.request (held_in kept.helds key)) → at.request.done ≡ false → at.request.answered < at.request.sent
      → new.message ≡ (held_in kept.helds key).message → found ≡ is_some (value_held new) → IsStep kept (answered_flight found) (held_in kept.helds key) new change at.request → IsAnswer kept id key slot found new change
  answered found new change served live less message is step =
      record {
        live = rw at.named
            (record { live = live; atomic = λ some. found_is_atomic kept.config kept.regions (bridged at.request (held_in kept.helds key)) new.gathering served.flight (rw message at (sym is ∙ some)) });
        unanswered = rw at.named less;
        changes = λ flight state laws. changes flight (answered_flight found) new change state laws step;
      }

  pub response_answers : {new : HeldRequest} {found : Bool} (resp : Resp) → IsSomeAnd (holder id table.live) (AwaitsAnswer true) → new ≡ responded resp held → found ≡ is_some (value_held new)
      → IsAnswer kept id key slot found new (after_response resp)
  response_answers {new = new} {found = found} resp holds new_is found_is =
      let serves = serving (AwaitsAnswer true) holds in
      let now : new ≡ responded resp (held_in kept.helds key) = new_is ∙ ap (responded resp) is_old in
      let value : found ≡ is_some (value_held (responded resp (held_in kept.helds key))) = rw now at found_is in
      rw now
      (answered found (responded resp (held_in kept.helds key)) (after_response resp) serves.served serves.known.live serves.known.unanswered refl value
      (step_response kept key resp found at.request sound.config serves value))

pub read_serves : (kept : KeptTable) {table : RequestTable} (r : RBeat) → shown_table kept ≡ table → IsSomeAnd (holder r.id table.live) (AwaitsBeat table.config.axi_bytes r)
    → IsSomeAnd (holder r.id table.live) (AwaitsBeat kept.config.axi_bytes r)
read_serves kept {table = table} r view holds = subst (λ (t : RequestTable). IsSomeAnd (holder r.id table.live) (AwaitsBeat t.config.axi_bytes r)) (sym view) holds

module _ {kept : KeptTable} {table : RequestTable} {key slot : ℕ} {held : HeldRequest} (r : RBeat) (view : shown_table kept ≡ table) (keeps : IsKept kept) (sound : IsSoundRequestTable (shown_table kept)) (at : IsFirstAt (holds_id r.id) kept.flight key)
    (same : slot ≡ key) (few : slot < 64) (held_is : held ≡ get_or kept.helds slot held) (holds : IsSomeAnd (holder r.id table.live) (AwaitsBeat table.config.axi_bytes r)) where
  reads : Serving kept key (AwaitsBeat kept.config.axi_bytes r) at.request
  reads = serving r.id view keeps sound at same few held_is (AwaitsBeat kept.config.axi_bytes r) (read_serves kept r view holds)

  -- the beat has a place among those that the request gathers
  pub read_fits : held.gathering.came < reads_of held.bus_bytes (outline_of (request_of held.message))
  read_fits = rw (is_old r.id view keeps sound at same few held_is, reads.bus) reads.known.place

  pub beat_reads : {new : HeldRequest} {found : Bool} → new ≡ beat_held r held → found ≡ is_some (value_held new) → IsRead kept r key slot found new
  beat_reads {new = new} {found = found} new_is found_is =
      let one = beat_held r (held_in kept.helds key) in
      let now : new ≡ one = new_is ∙ ap (beat_held r) (is_old r.id view keeps sound at same few held_is) in
      let value : found ≡ is_some (value_held one) = rw now at found_is in
      let awaits = reads.known.awaits in
      rw now
      (record {
        answers = λ last.
            answered r.id view keeps sound at same few held_is found one (after_read kept.config.axi_bytes r) reads.served awaits.live awaits.unanswered refl value (step_last kept key r found at.request sound.config reads last value);
        more = λ going.
            changes r.id view keeps sound at same few held_is kept.flight (λ q. q) one (after_read kept.config.axi_bytes r) (change_none key (λ q. q) kept.flight (rw at.named refl)) at.laws
            (step_more kept key r at.request sound.config reads going);
      })
