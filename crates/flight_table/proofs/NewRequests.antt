-- One more request keeps the laws of the table, and how many there can be.
use Rattle.std.proofs.Common.{◌≡◌, ℕ, suc, zero, ◌+◌, ◌*◌, ◌<◌, ◌≤◌, Bool, true, false, not, nat_lt, List, [], ◌∷◌, ◌++◌, map, length, Option, Some, None, is_none, refl, ap, sym, ◌∙◌, arith, length-append, subst}
use Rattle.std.specs.Prelude.{if◌then◌else◌}
use Rattle.std.specs.List.{AllByRecursion, filter, list_any}
use Rattle.std.proofs.Math.Nat.{mul-le-mul_right}
use Rattle.std.proofs.lemmas.Bool.{lt-ltb, le-ltb}
use Rattle.bus_words.proofs.PlaceChanges.{all-append, all-map}
use Rattle.flight_table.specs.Laws.{AreLimits, AreRising, HaveOwnKeys, IsSound, IsSoundRequest, IsSoundTable}
use Rattle.flight_table.specs.LiveRequests.{LiveRequest, all_sent, flight_for}
use Rattle.burst_plan.specs.declared.Piece.{Piece}
use Rattle.tl_messages.specs.Operations.{has_data, reply_has_data}
use Rattle.burst_plan.specs.Pieces.{PlannedRange}
use Rattle.tl_messages.specs.Requests.{HeldMessage}
use Rattle.bus_words.specs.Places.{without_first}
use Rattle.flight_table.specs.Order.{holds_back, holds_id, is_held}
use Rattle.flight_table.specs.Tables.{FlightTable, KeyedRequest, KeyedTable, has_key, has_number, has_room, has_source, is_busy, is_of, request_at, requests_of, table_of, with_request, without_number}
use Rattle.flight_table.proofs.KeyLaws.{without_by_number}
use Rattle.flight_table.proofs.Steps.{with_live}
use Rattle.flight_table.proofs.TableChanges.{count-none, from_numbers, sound-without, to_numbers}
use Rattle.std.proofs.lemmas.Bool.Decides.{nat_tests}
use Rattle.flight_table.proofs.Kept.{count_pushed}
use Rattle.bus_words.proofs.MappedPlaces.{length_map}
use Rattle.std.proofs.lemmas.List.{map_push}

abbrev number_of : LiveRequest → ℕ
number_of r = r.number

abbrev InOrder : List LiveRequest → LiveRequest → Type 0
InOrder live request = request.done ≡ false → is_held live request ≡ true → request.id ≡ None

-- a request as it is accepted
pub record IsNew (table : FlightTable) (r : LiveRequest) : Type 0 where
  pub number : r.number ≡ table.accepted
  pub client : r.client < table.limits.clients
  pub room : has_room table r.client ≡ true
  pub source : is_busy table r.client r.source ≡ false
  pub reads : r.writing ≡ false → reply_has_data r.operation ≡ true
  pub writes : r.writing ≡ true → r.done ≡ false → has_data r.operation ≡ true
  pub sent : r.sent ≡ 0
  pub all : all_sent r ≡ 0
  pub answered : r.answered ≡ 0
  pub id : r.id ≡ None
  pub no_plan : r.plan ≡ None → r.done ≡ true

rising-append : (live : List LiveRequest) (r : LiveRequest) → AreRising (map number_of live) → AllByRecursion (λ (o : LiveRequest). o.number < r.number) live → AreRising (map number_of (live ++ r ∷ []))
rising-append [] r rising below = (tt, tt)
rising-append (x ∷ live) r rising below = (to_numbers (λ m. x.number < m) (live ++ r ∷ []) (all-append (λ o. x.number < o.number) live r (from_numbers (λ m. x.number < m) live rising.0) below.0), rising-append live r rising.1 below.1)

any-append : {X : Type 0} (q : X → Bool) (xs : List X) (x : X) → q x ≡ false → list_any q (xs ++ x ∷ []) ≡ list_any q xs
any-append q [] x fails = rw fails refl
any-append q (y ∷ xs) x fails = rw (any-append q xs x fails) refl

-- the latest holds back nobody
latest_holds_none : (x r : LiveRequest) → x.number < r.number → holds_back x r ≡ false
latest_holds_none x r below = grind (arith, below)

pub sound_new : (table : FlightTable) (r : LiveRequest) → IsSoundTable table → IsNew table r → IsSoundTable (with_request r table)
sound_new table r sound new =
    record {
      requests = all-append (IsSoundRequest table.limits (table.accepted + 1)) table.live r (all-map (IsSoundRequest table.limits table.accepted) (IsSoundRequest table.limits (table.accepted + 1)) table.live later sound.requests) fresh;
      rising = rising-append table.live r sound.rising below;
      one_holder = λ id. omega (arith, sound.one_holder id, rw (no_id id) at (count_pushed (holds_id id) table.live r));
      in_order = all-append (InOrder (table.live ++ r ∷ [])) table.live r (in_order table.live below sound.in_order) (λ undone held. new.id);
      few = few;
      own_sources = own;
    }
  where
    later : (x : LiveRequest) → IsSoundRequest table.limits table.accepted x → IsSoundRequest table.limits (table.accepted + 1) x
    later x s = let number : x.number < table.accepted + 1 = omega (arith, s.number) in assumption

    fresh : IsSoundRequest table.limits (table.accepted + 1) r
    fresh = grind arith

    below : AllByRecursion (λ (o : LiveRequest). o.number < r.number) table.live
    below = all-map (IsSoundRequest table.limits table.accepted) (λ o. o.number < r.number) table.live (λ x s. omega (arith, s.number, new.number)) sound.requests

    no_id : (id : ℕ) → holds_id id r ≡ false
    no_id id = rw new.id refl

    in_order : (xs : List LiveRequest) → AllByRecursion (λ (o : LiveRequest). o.number < r.number) xs → AllByRecursion (InOrder table.live) xs → AllByRecursion (InOrder (table.live ++ r ∷ [])) xs
    in_order [] less all = tt
    in_order (x ∷ xs) less all =
        (λ undone held. all.0 undone (sym (any-append (holds_back x) table.live r (latest_holds_none x r less.0)) ∙ held), in_order xs less.1 all.1)

    few : (client : ℕ) → length (filter (is_of client) (table.live ++ r ∷ [])) ≤ table.limits.quota
    few client =
        let room = λ (same : r.client ≡ client). rw same at new.room in
        grind (arith, nat_tests, sound.few client, count_pushed (is_of client) table.live r, room)

    own : (client source : ℕ) → length (filter (has_source client source) (table.live ++ r ∷ [])) ≤ 1
    own client source =
        let free = λ (whose : r.client ≡ client) (from : r.source ≡ source). rw (whose, from) at new.source in
        grind (arith, nat_tests, sound.own_sources client source, count_pushed (has_source client source) table.live r, count-none (has_source client source) table.live, free)

-- ---- how many there are

abbrev is_below : ℕ → LiveRequest → Bool
is_below clients r = nat_lt r.client clients

none_below : (live : List LiveRequest) → list_any (is_below 0) live ≡ false
none_below [] = refl
none_below (x ∷ live) = rw (le-ltb x.client 0 (omega arith)) (none_below live)

below-more : (clients : ℕ) (live : List LiveRequest) → length (filter (is_below (suc clients)) live) ≤ length (filter (is_below clients) live) + length (filter (is_of clients) live)
below-more clients [] = omega arith
below-more clients (x ∷ live) = grind (arith, nat_tests, below-more clients live)

pub few_below : (clients quota : ℕ) (live : List LiveRequest) → ((client : ℕ) → length (filter (is_of client) live) ≤ quota) → length (filter (is_below clients) live) ≤ clients * quota
few_below zero quota live few = rw (count-none (is_below 0) live (none_below live)) (omega arith)
few_below (suc clients) quota live few = omega (arith, below-more clients live, few clients, few_below clients quota live few)

all_below : (clients : ℕ) (live : List LiveRequest) → AllByRecursion (λ (r : LiveRequest). r.client < clients) live → length (filter (is_below clients) live) ≡ length live
all_below clients [] all = refl
all_below clients (x ∷ live) all = rw (lt-ltb x.client clients all.0) (ap suc (all_below clients live all.1))

-- a sound table has at most 64 live requests
pub at_most_64 : (table : FlightTable) → AreLimits table.limits → IsSoundTable table → length table.live ≤ 64
at_most_64 table limits sound =
    let below = all_below table.limits.clients table.live (all-map (IsSoundRequest table.limits table.accepted) (λ r. r.client < table.limits.clients) table.live (λ x s. s.client) sound.requests) in
    let few = few_below table.limits.clients table.limits.quota table.live sound.few in
    let rows : table.limits.clients * table.limits.quota ≤ 8 * table.limits.quota = mul-le-mul_right table.limits.quota limits.most_clients in
    omega (arith, below, few, rows, limits.most_quota)

-- ---- the table with keys, after one more request

-- what a request has to meet to be accepted
pub record MayAccept (keyed : KeyedTable) (client source : ℕ) : Type 0 where
  pub there : client < keyed.limits.clients
  pub room : has_room (table_of keyed) client ≡ true
  pub free : is_busy (table_of keyed) client source ≡ false

-- whatever it reads or writes, it has sent nothing yet
none_sent : (replies : Bool) (parts : List Piece) → (if not replies then length (if replies then parts else []) else 0) + 0 ≡ 0
none_sent replies parts = grind arith

pub is_new : (table : FlightTable) (client : ℕ) (held : HeldMessage) (plan : Option PlannedRange) → client < table.limits.clients → has_room table client ≡ true → is_busy table client held.source ≡ false
    → IsNew table (flight_for table.accepted client held plan)
is_new table client held plan there room free = grind (arith, there, room, free)

new_table : (keyed : KeyedTable) (client : ℕ) (held : HeldMessage) (plan : Option PlannedRange) → IsSound keyed → MayAccept keyed client held.source
    → IsSoundTable (with_request (flight_for keyed.accepted client held plan) (table_of keyed))
new_table keyed client held plan sound may =
    sound_new (table_of keyed) (flight_for keyed.accepted client held plan) sound.table
    (is_new (table_of keyed) client held plan may.there may.room may.free)

before : (old now : KeyedTable) (client source : ℕ) → old ≡ now → MayAccept now client source → MayAccept old client source
before old now client source same may = subst (λ t. MayAccept t client source) (sym same) may

-- there is room in the slab
pub room_left : (old now : KeyedTable) (client : ℕ) (held : HeldMessage) (plan : Option PlannedRange) → old ≡ now → IsSound old → MayAccept now client held.source → length old.entries < 64
room_left old now client held plan same sound may =
    let request = flight_for old.accepted client held plan in
    let table = new_table old client held plan sound (before old now client held.source same may) in
    omega (arith, at_most_64 (with_request request (table_of old)) sound.limits table, length-append (requests_of old.entries) (request ∷ []), length_map (λ (e : KeyedRequest). e.request) old.entries)

-- a client that has room is one of 8, and has fewer than 8 live requests
pub known_client : (old now : KeyedTable) (client : ℕ) → old ≡ now → IsSound old → client < now.limits.clients → client < 8
known_client old now client same sound below = omega (arith, ap (λ (t : KeyedTable). t.limits.clients) same, sound.limits.most_clients, below)

pub quota_left : (old now : KeyedTable) (client source : ℕ) → old ≡ now → IsSound old → MayAccept now client source → length (filter (is_of client) (requests_of old.entries)) < 8
quota_left old now client source same sound may = grind (arith, same, sound, may)

-- the next number is above all
pub is_latest : (keyed : KeyedTable) → IsSound keyed → AllByRecursion (λ (earlier : LiveRequest). earlier.number < keyed.accepted) (requests_of keyed.entries)
is_latest keyed sound =
    all-map (IsSoundRequest keyed.limits keyed.accepted) (λ earlier. earlier.number < keyed.accepted) (requests_of keyed.entries) (λ earlier s. s.number) sound.table.requests

pub accepted_laws : (old now : KeyedTable) (client key : ℕ) (held : HeldMessage) (plan : Option PlannedRange) (request : LiveRequest) (entries : List KeyedRequest) → old ≡ now → IsSound old
    → MayAccept now client held.source → request ≡ flight_for old.accepted client held plan → entries ≡ old.entries ++ record { key = key; request = request } ∷ [] → HaveOwnKeys entries
    → IsSound (record { limits = old.limits; accepted = old.accepted + 1; entries = entries })
accepted_laws old now client key held plan request entries same sound may is made own =
    let table = new_table old client held plan sound (before old now client held.source same may) in
    let requests : requests_of entries ≡ requests_of old.entries ++ flight_for old.accepted client held plan ∷ [] =
    ap requests_of made ∙ map_push (λ (e : KeyedRequest). e.request) old.entries (record { key = key; request = request }) ∙ ap (λ (r : LiveRequest). requests_of old.entries ++ r ∷ []) is in
    record {
      limits = sound.limits;
      table = subst (λ live. IsSoundTable (record { limits = old.limits; accepted = old.accepted + 1; live = live })) (sym requests) table;
      keys = own;
    }

-- ---- and after one less
pub record IsReleased (old new : KeyedTable) (number : ℕ) : Type 0 where
  pub table : table_of new ≡ without_number number (table_of old)
  pub laws : IsSound new

released : (old : KeyedTable) (key : ℕ) (r : LiveRequest) (entries : List KeyedRequest) → IsSound old → request_at key old ≡ Some r → entries ≡ without_first (has_key key) old.entries → HaveOwnKeys entries
    → IsReleased old (record old { entries = entries }) r.number
released old key r entries sound found made own =
    let same : requests_of entries ≡ without_first (has_number r.number) (requests_of old.entries) = ap requests_of made ∙ without_by_number key old.entries r sound.table.rising found in
    record {
      table = ap (λ (live : List LiveRequest). with_live old live) same;
      laws =
          record {
            limits = sound.limits;
            table = subst (λ live. IsSoundTable (with_live old live)) (sym same) (sound-without (table_of old) r.number sound.table);
            keys = own;
          };
    }

pub release_is : (old now : KeyedTable) (key : ℕ) (r : LiveRequest) (entries : List KeyedRequest) → old ≡ now → IsSound old → request_at key old ≡ Some r → entries ≡ without_first (has_key key) old.entries → HaveOwnKeys entries
    → IsReleased now (record old { entries = entries }) r.number
release_is old now key r entries same sound found made own = subst (λ t. IsReleased t (record old { entries = entries }) r.number) same (released old key r entries sound found made own)

-- a request that is done as it is accepted has no plan
pub none_planned : (plan : Option PlannedRange) → is_none plan ≡ true → plan ≡ None
none_planned plan none = grind (arith, none)
