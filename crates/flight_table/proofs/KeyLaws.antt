-- Keys: which request a key names, and what a change of it is among the requests by number.
use Rattle.std.proofs.Common.{◌≡◌, ◌≢◌, ℕ, ◌==◌, ◌<◌, ◌≤◌, is_some, subst, Bool, true, false, List, [], ◌∷◌, map, Option, Some, None, refl, ap, sym, ◌∙◌, arith}
use Rattle.std.specs.Prelude.{if◌then◌else◌, option_map, option_and_then, IfSome, IsSomeAnd}
use Rattle.std.specs.List.{AllByRecursion, find}
use Rattle.std.proofs.lemmas.Bool.{and_parts, eqb-true, eq-eqb}
use Rattle.bus_words.specs.Places.{change_first, without_first}
use Rattle.bus_words.proofs.PlaceChanges.{all-map, find-passes}
use Rattle.flight_table.specs.Laws.{AreRising, HaveOwnKeys, IsSound}
use Rattle.flight_table.specs.Order.{IsSmallestDone, IsSmallestReady, is_ready, next_ready}
use Rattle.flight_table.specs.LiveRequests.{LiveRequest}
use Rattle.flight_table.specs.Tables.{FlightTable, KeyedRequest, KeyedTable, change_entry, has_key, has_number, is_done_of, is_of, key_in, oldest_done, request_in, request_named, requests_of, table_of}
use Rattle.std.proofs.lemmas.Bool.Decides.{nat_tests}
use Rattle.flight_table.proofs.TableChanges.{from_numbers}

-- a key that a search found is one of the keys
key_listed : (P : ℕ → Type 0) (test : LiveRequest → Bool) (entries : List KeyedRequest) (k : ℕ) → AllByRecursion P (map (λ entry. entry.key) entries) → key_in test entries ≡ Some k → P k
key_listed P test [] k all found = absurd (cc)
key_listed P test (entry ∷ entries) k all found = grind (arith, all.0, key_listed P test entries k all.1)

-- what is true of each request is true of the one that a key names
pub request_listed : (P : LiveRequest → Type 0) (key : ℕ) (entries : List KeyedRequest) (r : LiveRequest) → AllByRecursion P (requests_of entries) → request_in key entries ≡ Some r → P r
request_listed P key [] r all found = absurd (cc)
request_listed P key (entry ∷ entries) r all found = grind (arith, all.0, request_listed P key entries r all.1)

-- the request that a search found by its key: it passes, and it is the first that does
pub record IsNamed (test : LiveRequest → Bool) (entries : List KeyedRequest) (k : ℕ) : Type 0 where
  pub request : LiveRequest
  pub named : request_in k entries ≡ Some request
  pub passes : test request ≡ true
  pub first : find test (requests_of entries) ≡ Some request

skip : (entry : KeyedRequest) (entries : List KeyedRequest) (k : ℕ) → k ≢ entry.key → request_in k (entry ∷ entries) ≡ request_in k entries
skip entry entries k other = grind (arith, nat_tests, other)

pub named : (test : LiveRequest → Bool) (entries : List KeyedRequest) (k : ℕ) → HaveOwnKeys entries → key_in test entries ≡ Some k → IsNamed test entries k
named test [] k own found = absurd (cc)
named test (entry ∷ entries) k own found = by_test (test entry.request) refl found (λ later. named test entries k own.1 later)
  where
    by_test : (b : Bool) → test entry.request ≡ b → option_map (λ (e : KeyedRequest). e.key) (if b then Some entry else find (λ e. test e.request) entries) ≡ Some k
        → (key_in test entries ≡ Some k → IsNamed test entries k) → IsNamed test (entry ∷ entries) k
    by_test true is here rest = grind (arith, is, here, rest)
    by_test false is later rest =
        let found = rest later in
        let other : k ≢ entry.key = key_listed (λ m. m ≢ entry.key) test entries k own.0 later in
        record { request = found.request; named = skip entry entries k other ∙ found.named; passes = found.passes; first = rw is found.first }

pub none_named : (test : LiveRequest → Bool) (entries : List KeyedRequest) → key_in test entries ≡ None → find test (requests_of entries) ≡ None
none_named test [] none = refl
none_named test (entry ∷ entries) none = grind (arith, none_named test entries)

-- the same of what a call answers
pub answer_names : (test : LiveRequest → Bool) (entries : List KeyedRequest) (answer : Option ℕ) → HaveOwnKeys entries → answer ≡ key_in test entries
    → option_and_then (λ k. request_in k entries) answer ≡ find test (requests_of entries)
answer_names test entries None own is = sym (none_named test entries (sym is))
answer_names test entries (Some k) own is = let found = named test entries k own (sym is) in found.named ∙ sym found.first

pub answer_passes : (test : LiveRequest → Bool) (P : LiveRequest → Type 0) (entries : List KeyedRequest) (answer : Option ℕ) → ((r : LiveRequest) → test r ≡ true → P r) → HaveOwnKeys entries
    → answer ≡ key_in test entries → IfSome answer (λ k. IsSomeAnd (request_in k entries) P)
answer_passes test P entries None so own is = tt
answer_passes test P entries (Some k) so own is =
    let found = named test entries k own (sym is) in rw found.named (so found.request found.passes)

-- ---- by number

other_number : (entry : KeyedRequest) (entries : List KeyedRequest) (key : ℕ) (r : LiveRequest) → AllByRecursion (λ m. entry.request.number < m) (map (λ (o : LiveRequest). o.number) (requests_of entries))
    → request_in key entries ≡ Some r → (entry.request.number == r.number) ≡ false
other_number entry entries key r above found =
    let larger : entry.request.number < r.number = request_listed (λ o. entry.request.number < o.number) key entries r (from_numbers (λ m. entry.request.number < m) (requests_of entries) above) found in
    grind (arith, larger)

abbrev numbers_of : List KeyedRequest → List ℕ
numbers_of entries = map (λ (o : LiveRequest). o.number) (requests_of entries)

pub by_number : (change : LiveRequest → LiveRequest) (key : ℕ) (entries : List KeyedRequest) (r : LiveRequest) → AreRising (numbers_of entries) → request_in key entries ≡ Some r
    → requests_of (change_first (has_key key) (change_entry change) entries) ≡ change_first (has_number r.number) change (requests_of entries)
by_number change key [] r rising found = refl
by_number change key (entry ∷ entries) r rising found = grind (arith, nat_tests, other_number entry entries key r rising.0, by_number change key entries r rising.1)

pub without_by_number : (key : ℕ) (entries : List KeyedRequest) (r : LiveRequest) → AreRising (numbers_of entries) → request_in key entries ≡ Some r
    → requests_of (without_first (has_key key) entries) ≡ without_first (has_number r.number) (requests_of entries)
without_by_number key [] r rising found = refl
without_by_number key (entry ∷ entries) r rising found = grind (arith, nat_tests, other_number entry entries key r rising.0, without_by_number key entries r rising.1)

-- a key's request is found by its number
pub found_by_number : (key : ℕ) (entries : List KeyedRequest) (r : LiveRequest) → AreRising (numbers_of entries) → request_in key entries ≡ Some r → find (has_number r.number) (requests_of entries) ≡ Some r
found_by_number key [] r rising found = absurd (cc)
found_by_number key (entry ∷ entries) r rising found = grind (arith, nat_tests, other_number entry entries key r rising.0, found_by_number key entries r rising.1)

-- ---- the first that passes

-- a search by rising numbers finds the smallest number
pub smallest : (test : LiveRequest → Bool) (live : List LiveRequest) (r : LiveRequest) → AreRising (map (λ (o : LiveRequest). o.number) live) → find test live ≡ Some r
    → AllByRecursion (λ o. test o ≡ true → r.number ≤ o.number) live
smallest test [] r rising found = tt
smallest test (x ∷ live) r rising found = by_test (test x) refl found (λ later. smallest test live r rising.1 later)
  where
    by_test : (b : Bool) → test x ≡ b → (if b then Some x else find test live) ≡ Some r
        → (find test live ≡ Some r → AllByRecursion (λ o. test o ≡ true → r.number ≤ o.number) live) → AllByRecursion (λ o. test o ≡ true → r.number ≤ o.number) (x ∷ live)
    by_test true is here rest =
        let same : x ≡ r = cc in
        (λ passes. rw same (omega arith), all-map (λ o. x.number < o.number) (λ o. test o ≡ true → r.number ≤ o.number) live (λ o above passes. omega (arith, ap (λ (o : LiveRequest). o.number) same, above)) (from_numbers (λ m. x.number < m) live rising.0))
    by_test false is later rest = (λ passes. absurd (cc (passes, is)), rest later)

pub none_passes : (test : LiveRequest → Bool) (live : List LiveRequest) → find test live ≡ None → AllByRecursion (λ o. test o ≡ false) live
none_passes test [] none = tt
none_passes test (x ∷ live) none = (grind (arith, none), none_passes test live (grind (arith, none)))

pub some_found : (test : LiveRequest → Bool) (entries : List KeyedRequest) → is_some (key_in test entries) ≡ is_some (find test (requests_of entries))
some_found test [] = refl
some_found test (entry ∷ entries) = grind (arith, some_found test entries)

-- what is known of the first request that passes a test is known of the one that the answer names
first_named : (P : FlightTable → LiveRequest → Type 0) (test : LiveRequest → Bool) (old now : KeyedTable) (answer : Option ℕ) → old ≡ now → HaveOwnKeys old.entries → answer ≡ key_in test old.entries
    → ((r : LiveRequest) → find test (table_of old).live ≡ Some r → P (table_of old) r) → IfSome (request_named answer now) (P (table_of now))
first_named P test old now answer same own is so =
    subst (λ t. IfSome (request_named answer t) (P (table_of t))) same (by_answer (request_named answer old) (answer_names test old.entries answer own is))
  where
    by_answer : (o : Option LiveRequest) → o ≡ find test (table_of old).live → IfSome o (P (table_of old))
    by_answer None found = tt
    by_answer (Some r) found = so r (sym found)

-- the smallest ready number
pub found_ready : (table : FlightTable) (r : LiveRequest) → AreRising (map (λ (o : LiveRequest). o.number) table.live) → next_ready table ≡ Some r → IsSmallestReady table r
found_ready table r rising found = record { ready = find-passes (is_ready table) table.live r found; smallest = smallest (is_ready table) table.live r rising found }

pub smallest_ready : (old now : KeyedTable) (answer : Option ℕ) → old ≡ now → IsSound old → HaveOwnKeys old.entries → answer ≡ key_in (is_ready (table_of old)) old.entries
    → IfSome (request_named answer now) (IsSmallestReady (table_of now))
smallest_ready old now answer same sound own is =
    first_named IsSmallestReady (is_ready (table_of old)) old now answer same own is (λ r found. found_ready (table_of old) r sound.table.rising found)

-- the smallest number of a client that is done
pub found_done : (table : FlightTable) (client : ℕ) (r : LiveRequest) → AreRising (map (λ (o : LiveRequest). o.number) table.live) → oldest_done table client ≡ Some r → IsSmallestDone table client r
found_done table client r rising found =
    let parts = and_parts (is_of client r) r.done (find-passes (is_done_of client) table.live r found) in
    record { done = parts.1; whose = eqb-true r.client client parts.0; smallest = all-map _ _ table.live (λ o most whose done. most (rw (eq-eqb o.client client whose, done) refl)) (smallest (is_done_of client) table.live r rising found) }

pub smallest_done : (client : ℕ) (old now : KeyedTable) (answer : Option ℕ) → old ≡ now → IsSound old → HaveOwnKeys old.entries → answer ≡ key_in (is_done_of client) old.entries
    → IfSome (request_named answer now) (IsSmallestDone (table_of now) client)
smallest_done client old now answer same sound own is =
    first_named (λ table. IsSmallestDone table client) (is_done_of client) old now answer same own is (λ r found. found_done (table_of old) client r sound.table.rising found)

pub none_ready : (old now : KeyedTable) (answer : Option ℕ) → old ≡ now → answer ≡ key_in (is_ready (table_of old)) old.entries → answer ≡ None
    → AllByRecursion (λ request. is_ready (table_of now) request ≡ false) (table_of now).live
none_ready old now answer same is none =
    subst (λ t. AllByRecursion (λ request. is_ready (table_of t) request ≡ false) (table_of t).live) same
    (none_passes (is_ready (table_of old)) (requests_of old.entries) (none_named (is_ready (table_of old)) old.entries (sym is ∙ none)))
