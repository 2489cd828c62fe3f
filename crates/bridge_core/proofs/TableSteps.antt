-- Live requests, each kept as its place in the order of bursts and, in the slot of its key, what it asks and was told; and what a change of
-- one of them keeps of the table: a slot for each key, and what is true of every table.
use Rattle.std.proofs.Common.{◌≡◌, ◌≢◌, ℕ, ◌==◌, ◌<◌, Bool, false, List, [], ◌∷◌, ◌++◌, map, length, set, Some, None, refl, sym, ◌∙◌, ap, arith, get_or, true}
use Rattle.std.specs.Prelude.{IsSome, option_map}
use Rattle.std.specs.List.{AllByRecursion, find}
use Rattle.std.proofs.lemmas.Bool.{ne_eqb}
use Rattle.std.proofs.lemmas.Bool.Decides.{nat_tests}
use Rattle.std.proofs.lemmas.List.{get_or-set_other, get_or-set_same, map-append, get_or_default, length-set}
use Rattle.bus_words.specs.Places.{change_first, without_first}
use Rattle.bus_words.proofs.PlaceChanges.{all-at, all-find, all-set}
use Rattle.bus_words.proofs.MappedPlaces.{all-mapped}
use Rattle.flight_table.specs.Laws.{HaveOwnKeys, AreRising, IsSound}
use Rattle.flight_table.specs.LiveRequests.{LiveRequest}
use Rattle.flight_table.specs.Tables.{KeyedRequest, change_entry, has_key, request_in, requests_of, KeyedTable, change_key, has_number, key_where, table_of}
use Rattle.config.specs.Configs.{is_valid}
use Rattle.bridge_core.specs.Inside.{HeldRequest, bridged, held_in, joined, nothing_held, with_held, IsFirstAt, IsKept, KeptTable, shown_table}
use Rattle.bridge_core.specs.HeldRequests.{BridgedRequest, RequestTable, flights_of, flight_table_of}
use Rattle.flight_table.proofs.KeyLaws.{named}
use Rattle.bridge_core.specs.Laws.{IsServed, IsSoundRequestTable}
use Rattle.bridge_core.proofs.ServedRequests.{all-change_found}

-- ---- searches and changes of a list that a map gives

pub find-mapped : {X Y : Type 0} (p : Y → Bool) (f : X → Y) (xs : List X) → find p (map f xs) ≡ option_map f (find (λ x. p (f x)) xs)
find-mapped p f [] = refl
find-mapped p f (x ∷ xs) = grind (arith, find-mapped p f xs)

without_first-mapped : {X Y : Type 0} (p : Y → Bool) (f : X → Y) (xs : List X) → map f (without_first (λ x. p (f x)) xs) ≡ without_first p (map f xs)
without_first-mapped p f [] = refl
without_first-mapped p f (x ∷ xs) = grind (arith, without_first-mapped p f xs)

-- ---- the first request that passes a test, by its key

abbrev AreOthers : ℕ → List KeyedRequest → Type 0
AreOthers key entries = AllByRecursion (λ k. k ≢ key) (map (λ (entry : KeyedRequest). entry.key) entries)

-- a request that is found later has another key
other_key : (first : KeyedRequest) (test : KeyedRequest → Bool) (entries : List KeyedRequest) (entry : KeyedRequest) → AreOthers first.key entries → find test entries ≡ Some entry → (first.key == entry.key) ≡ false
other_key first test entries entry others found =
    let apart : entry.key ≢ first.key = all-find (λ (e : KeyedRequest). e.key ≢ first.key) test entries entry (all-mapped (λ k. k ≢ first.key) (λ (e : KeyedRequest). e.key) entries others) found in
    ne_eqb first.key entry.key (λ same. apart (sym same))

-- a change of the request of its key is one of the first that passes
pub change_by_key : (test : KeyedRequest → Bool) (change : KeyedRequest → KeyedRequest) (entries : List KeyedRequest) (entry : KeyedRequest) → HaveOwnKeys entries → find test entries ≡ Some entry
    → change_first (has_key entry.key) change entries ≡ change_first test change entries
change_by_key test change [] entry own found = refl
change_by_key test change (e ∷ es) entry own found = grind (arith, nat_tests, other_key e test es entry own.0, change_by_key test change es entry own.1)

-- and so is its taking out
pub without_by_key : (test : KeyedRequest → Bool) (entries : List KeyedRequest) (entry : KeyedRequest) → HaveOwnKeys entries → find test entries ≡ Some entry
    → without_first (has_key entry.key) entries ≡ without_first test entries
without_by_key test [] entry own found = refl
without_by_key test (e ∷ es) entry own found = grind (arith, nat_tests, other_key e test es entry own.0, without_by_key test es entry own.1)

-- ---- requests with what is kept of them

pub flights_joined : (helds : List HeldRequest) (entries : List KeyedRequest) → flights_of (joined helds entries) ≡ requests_of entries
flights_joined helds [] = refl
flights_joined helds (e ∷ es) = ap (λ (l : List LiveRequest). e.request ∷ l) (flights_joined helds es)

pub found_joined : (test : LiveRequest → Bool) (helds : List HeldRequest) (entries : List KeyedRequest) (key : ℕ) (r : LiveRequest) → find (λ entry. test entry.request) entries ≡ Some (record { key = key; request = r })
    → find (λ b. test b.flight) (joined helds entries) ≡ Some (bridged r (held_in helds key))
found_joined test helds entries key r found = find-mapped (λ (b : BridgedRequest). test b.flight) (with_held helds) entries ∙ ap (option_map (with_held helds)) found

pub none_joined : (test : LiveRequest → Bool) (helds : List HeldRequest) (entries : List KeyedRequest) → find test (requests_of entries) ≡ None → find (λ b. test b.flight) (joined helds entries) ≡ None
none_joined test helds entries none =
    grind (
      arith,
      find-mapped test (λ (e : KeyedRequest). e.request) entries,
      find-mapped (λ (b : BridgedRequest). test b.flight) (with_held helds) entries,
    )

-- where a request is found with what is kept of it, its place in the order is found
pub found_apart : (test : LiveRequest → Bool) (helds : List HeldRequest) (entries : List KeyedRequest) → IsSome (find (λ b. test b.flight) (joined helds entries)) → IsSome (find (λ entry. test entry.request) entries)
found_apart test helds entries there = grind (arith, find-mapped (λ (b : BridgedRequest). test b.flight) (with_held helds) entries)

-- what is put into a slot is kept of no other request
put_others : (helds : List HeldRequest) (key : ℕ) (held : HeldRequest) (entries : List KeyedRequest) → AreOthers key entries → joined (set helds key held) entries ≡ joined helds entries
put_others helds key held [] others = refl
put_others helds key held (e ∷ es) others =
    rw (get_or-set_other helds key e.key held nothing_held others.0, put_others helds key held es others.1) refl

-- a request and what is kept of it change together
pub changed_joined : (test : LiveRequest → Bool) (change : BridgedRequest → BridgedRequest) (f : LiveRequest → LiveRequest) (helds : List HeldRequest) (entries : List KeyedRequest) (key : ℕ) (r : LiveRequest) (held : HeldRequest)
    → HaveOwnKeys entries → find (λ entry. test entry.request) entries ≡ Some (record { key = key; request = r }) → key < length helds → change (bridged r (held_in helds key)) ≡ bridged (f r) held
    → joined (set helds key held) (change_first (λ entry. test entry.request) (change_entry f) entries) ≡ change_first (λ b. test b.flight) change (joined helds entries)
changed_joined test change f helds [] key r held own found within is = refl
changed_joined test change f helds (e ∷ es) key r held own found within is =
    grind (
      arith,
      nat_tests,
      get_or-set_same helds key held nothing_held within,
      get_or-set_other helds key e.key held nothing_held,
      put_others helds key held es,
      other_key e (λ (o : KeyedRequest). test o.request) es (record { key = key; request = r }) own.0,
      own.0,
      changed_joined test change f helds es key r held own.1,
    )

pub without_joined : (test : LiveRequest → Bool) (helds : List HeldRequest) (entries : List KeyedRequest)
    → joined helds (without_first (λ entry. test entry.request) entries) ≡ without_first (λ b. test b.flight) (joined helds entries)
without_joined test helds entries = without_first-mapped (λ (b : BridgedRequest). test b.flight) (with_held helds) entries

-- a key that names no request is another than theirs
unnamed : (key : ℕ) (entries : List KeyedRequest) → request_in key entries ≡ None → AreOthers key entries
unnamed key [] none = tt
unnamed key (e ∷ es) none = grind (arith, nat_tests, unnamed key es)

-- a request that joins, with what is put into the slot of its key
pub added_joined : (helds : List HeldRequest) (entries : List KeyedRequest) (key : ℕ) (r : LiveRequest) (held : HeldRequest) → request_in key entries ≡ None → key < length helds
    → joined (set helds key held) (entries ++ record { key = key; request = r } ∷ []) ≡ joined helds entries ++ bridged r held ∷ []
added_joined helds entries key r held none within =
    map-append (with_held (set helds key held)) entries (record { key = key; request = r } ∷ [])
    ∙ rw (put_others helds key held entries (unnamed key entries none), get_or-set_same helds key held nothing_held within) refl

-- ---- a key that a search found

pub first_at : (test : LiveRequest → Bool) (flight : KeyedTable) (key : ℕ) → IsSound flight → key_where test flight ≡ Some key → IsFirstAt test flight key
first_at test flight key laws keyed =
    let names = named test flight.entries key laws.keys keyed in
    let found : find (λ entry. test entry.request) flight.entries ≡ Some (record { key = key; request = names.request }) =
    grind (arith, keyed, names.first, find-mapped test (λ (e : KeyedRequest). e.request) flight.entries) in
    record { request = names.request; named = names.named; first = found; laws = laws }

-- ---- the table that the order of bursts sees

pub table_seen : (kept : KeptTable) → IsKept kept → table_of kept.flight ≡ flight_table_of (shown_table kept)
table_seen kept is = rw (is.limits, flights_joined kept.helds kept.flight.entries) refl

-- what is kept after a call, and the table that it shows
pub record Shows (new : KeptTable) (shown : RequestTable) : Type 0 where
  pub kept : IsKept new
  pub sound : IsSoundRequestTable (shown_table new)
  pub table : shown_table new ≡ shown

pub shows : {new : KeptTable} {shown : RequestTable} → IsKept new → IsSound new.flight → is_valid new.config ≡ true → shown_table new ≡ shown → AllByRecursion (IsServed new.config new.regions) shown.live → Shows new shown
shows {new = new} kept laws valid table served =
    record {
      kept = kept;
      sound = record { config = valid; flights = rw (← (table_seen new kept)) laws.table; served = rw (ap (λ (t : RequestTable). t.live) table) served };
      table = table;
    }

-- ---- by number

abbrev numbers_of : List KeyedRequest → List ℕ
numbers_of entries = map (λ (r : LiveRequest). r.number) (requests_of entries)

-- the request that a search found is the first of its number
pub numbered : (test : KeyedRequest → Bool) (entries : List KeyedRequest) (entry : KeyedRequest) → AreRising (numbers_of entries) → find test entries ≡ Some entry
    → find (λ e. has_number entry.request.number e.request) entries ≡ Some entry
numbered test [] entry rising found = found
numbered test (e ∷ es) entry rising found =
    let above = all-mapped (λ (r : LiveRequest). e.request.number < r.number) (λ (o : KeyedRequest). o.request) es
    (all-mapped (λ m. e.request.number < m) (λ (r : LiveRequest). r.number) (requests_of es) rising.0) in
    grind (
      arith,
      nat_tests,
      all-find (λ (o : KeyedRequest). e.request.number < o.request.number) test es entry above,
      numbered test es entry rising.1,
    )

-- ---- what is kept of a request

-- of the first request that passes a test, as the table shows it
pub shown_at : (test : LiveRequest → Bool) (kept : KeptTable) (key : ℕ) → (at : IsFirstAt test kept.flight key) → find (λ b. test b.flight) (shown_table kept).live ≡ Some (bridged at.request (held_in kept.helds key))
shown_at test kept key at = found_joined test kept.helds kept.flight.entries key at.request at.first

-- what stands in the slot of a key
pub held_at : (kept : KeptTable) (key slot : ℕ) (held : HeldRequest) → IsKept kept → slot ≡ key → slot < 64 → held ≡ get_or kept.helds slot held → held ≡ held_in kept.helds key
held_at kept key slot held is same few at = at ∙ get_or_default kept.helds slot held nothing_held (omega (arith, few, is.all)) ∙ ap (held_in kept.helds) same

-- what is true of each slot is true of that of a key
pub all-held : (P : HeldRequest → Type 0) (helds : List HeldRequest) (key : ℕ) → AllByRecursion P helds → key < length helds → P (held_in helds key)
all-held P helds key all within = all-at P helds key nothing_held all within

-- something of the bus of the limits is put into a slot
pub kept_put : (kept : KeptTable) (flight : KeyedTable) (key : ℕ) (held : HeldRequest) → IsKept kept → flight.limits ≡ kept.flight.limits → held.bus_bytes ≡ kept.config.axi_bytes
    → IsKept (record kept { flight = flight; helds = set kept.helds key held })
kept_put kept flight key held is limits bus =
    record { limits = limits ∙ is.limits; buses = all-set (λ (h : HeldRequest). h.bus_bytes ≡ kept.config.axi_bytes) kept.helds key held is.buses bus; all = length-set kept.helds key held ∙ is.all }

-- ---- a change of one request

-- the table after a change of one request and of what is kept of it
abbrev pub IsChanged : KeptTable → KeptTable → (LiveRequest → Bool) → (BridgedRequest → BridgedRequest) → Type 0
IsChanged old new test change = Shows new (record (shown_table old) { live = change_first (λ b. test b.flight) change (shown_table old).live })

-- what has to be shown of a change: what is kept now is kept over the same bus; both together are what the change makes; and it leaves the request served
pub record IsStep (kept : KeptTable) (f : LiveRequest → LiveRequest) (old new : HeldRequest) (change : BridgedRequest → BridgedRequest) (r : LiveRequest) : Type 0 where
  pub bus : new.bus_bytes ≡ old.bus_bytes
  pub same : change (bridged r old) ≡ bridged (f r) new
  pub served : IsServed kept.config kept.regions (bridged r old) → IsServed kept.config kept.regions (change (bridged r old))

pub changed_table : (old : KeptTable) (flight : KeyedTable) (test : LiveRequest → Bool) (key : ℕ) (f : LiveRequest → LiveRequest) (held : HeldRequest) (change : BridgedRequest → BridgedRequest) → IsKept old
    → IsSoundRequestTable (shown_table old) → (at : IsFirstAt test old.flight key) → key < 64 → flight ≡ change_key key f old.flight → IsSound flight → IsStep old f (held_in old.helds key) held change at.request
    → IsChanged old (record old { flight = flight; helds = set old.helds key held }) test change
changed_table old flight test key f held change kept sound at few is laws step =
    let within : key < length old.helds = omega (arith, few, kept.all) in
    let one = bridged at.request (held_in old.helds key) in
    let entries = ap (λ (t : KeyedTable). t.entries) is ∙ change_by_key (λ (e : KeyedRequest). test e.request) (change_entry f) old.flight.entries (record { key = key; request = at.request }) at.laws.keys at.first in
    let live = ap (joined (set old.helds key held)) entries ∙ changed_joined test change f old.helds old.flight.entries key at.request held at.laws.keys at.first within step.same in
    let bus = step.bus ∙ all-held (λ (h : HeldRequest). h.bus_bytes ≡ old.config.axi_bytes) old.helds key kept.buses within in
    let found = shown_at test old key at in
    let served_one = step.served (all-find (IsServed old.config old.regions) (λ (b : BridgedRequest). test b.flight) (shown_table old).live one sound.served found) in
    shows (kept_put old flight key held kept (ap (λ (t : KeyedTable). t.limits) is) bus) laws sound.config (rw (live, ap (λ (t : KeyedTable). t.accepted) is) refl)
    (all-change_found (IsServed old.config old.regions) (λ b. test b.flight) change (shown_table old).live one found served_one sound.served)
