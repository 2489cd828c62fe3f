-- The requests of an index under changes of the slab.
use Rattle.std.proofs.Common.{◌∙◌, is_some, true, Bool, count_by, OnSome, zero, ◌≡◌, ◌≢◌, ℕ, suc, ◌+◌, ◌==◌, List, [], ◌∷◌, ◌++◌, map, length, Option, Some, None, refl, ap, sym, arith, length-append, get_or, set, unwrap_or, IsSome, inl, inr}
use Rattle.std.specs.List.{AllByRecursion, find, position}
use Rattle.bus_words.proofs.FirstPlaces.{find-none}
use Rattle.std.proofs.lemmas.Bool.{cases_eq, eq-eqb, ne_eqb}
use Rattle.std.proofs.lemmas.Grind.{common_steps}
use Rattle.std.proofs.lemmas.Option.{same_Some}
use Rattle.bus_words.specs.Places.{AreDistinct, change_first, without_first}
use Rattle.bus_words.proofs.DistinctPlaces.{distinct-append, distinct-without_first}
use Rattle.bus_words.proofs.PlaceChanges.{all-append, all-without_first}
use Rattle.slab.proofs.SlabLemmas.{Updates-with_value}
use Rattle.slab.specs.Slab.{Slab, with_value, get, ContainsKey, slab_len, Updates}
use Rattle.flight_table.specs.Inside.{IsIndex, entries_in, entry_in, no_request, stored}
use Rattle.flight_table.specs.LiveRequests.{LiveRequest}
use Rattle.flight_table.specs.Tables.{KeyedRequest, change_entry, has_key, request_in, requests_of, key_in}
use Rattle.bus_words.proofs.MappedPlaces.{position_map}
use Rattle.std.proofs.lemmas.Bool.Decides.{nat_tests}
use Rattle.std.specs.Prelude.{Some}

abbrev AreOthers : ℕ → List ℕ → Type 0
AreOthers key ks = AllByRecursion (λ k. k ≢ key) ks

-- the keys of the requests
pub keys_of : (s : Slab LiveRequest) (ks : List ℕ) → map (λ (entry : KeyedRequest). entry.key) (entries_in s ks) ≡ ks
keys_of s [] = refl
keys_of s (k ∷ ks) = rw (keys_of s ks) refl

pub length_entries : (s : Slab LiveRequest) (ks : List ℕ) → length (entries_in s ks) ≡ length ks
length_entries s [] = refl
length_entries s (k ∷ ks) = ap suc (length_entries s ks)

-- keys with the values that they had
entries-same : (s t : Slab LiveRequest) (key : ℕ) (ks : List ℕ) → AreOthers key ks → ((o : ℕ) → o ≢ key → get t o ≡ get s o) → entries_in t ks ≡ entries_in s ks
entries-same s t key [] others same = refl
entries-same s t key (k ∷ ks) others same = rw (same k others.0, entries-same s t key ks others.1 same) refl

there-same : (s t : Slab LiveRequest) (key : ℕ) (ks : List ℕ) → AreOthers key ks → ((o : ℕ) → o ≢ key → get t o ≡ get s o) → AllByRecursion (ContainsKey s) ks → AllByRecursion (ContainsKey t) ks
there-same s t key [] others same there = tt
there-same s t key (k ∷ ks) others same there = (rw (same k others.0) there.0, there-same s t key ks others.1 same there.1)

-- a key without a value isn't in the index
pub fresh : (s : Slab LiveRequest) (key : ℕ) (ks : List ℕ) → get s key ≡ None → AllByRecursion (ContainsKey s) ks → AreOthers key ks
fresh s key [] none there = tt
fresh s key (k ∷ ks) none there = (λ e. grind (arith, none, e, there.0), fresh s key ks none there.1)

fresh-request : (s : Slab LiveRequest) (key : ℕ) (ks : List ℕ) → AreOthers key ks → request_in key (entries_in s ks) ≡ None
fresh-request s key [] others = refl
fresh-request s key (k ∷ ks) others = grind (arith, nat_tests, others.0, fresh-request s key ks others.1)

-- ---- one more request

entries-append : (s : Slab LiveRequest) (ks : List ℕ) (key : ℕ) → entries_in s (ks ++ key ∷ []) ≡ entries_in s ks ++ entry_in s key ∷ []
entries-append s [] key = refl
entries-append s (k ∷ ks) key = rw (entries-append s ks key) refl

pub entries-add : (s t : Slab LiveRequest) (key : ℕ) (r : LiveRequest) (ks : List ℕ) → IsIndex s ks → get s key ≡ None → Updates s t key (Some r)
    → entries_in t (ks ++ key ∷ []) ≡ entries_in s ks ++ record { key = key; request = r } ∷ []
entries-add s t key r ks index none u =
    rw (entries-append t ks key, entries-same s t key ks (fresh s key ks none index.there) u.others, u.changed) refl

pub index-add : (s t : Slab LiveRequest) (key : ℕ) (r : LiveRequest) (ks : List ℕ) → IsIndex s ks → get s key ≡ None → Updates s t key (Some r) → slab_len t ≡ slab_len s + 1 → IsIndex t (ks ++ key ∷ [])
index-add s t key r ks index none u len =
    let others = fresh s key ks none index.there in record {
      there = all-append (ContainsKey t) ks key (there-same s t key ks others u.others index.there) (rw u.changed refl);
      distinct = distinct-append key ks index.distinct others;
      count = rw len (omega (arith, length-append ks (key ∷ []), index.count));
    }

pub fresh-add : (s : Slab LiveRequest) (key : ℕ) (ks : List ℕ) → IsIndex s ks → get s key ≡ None → request_in key (entries_in s ks) ≡ None
fresh-add s key ks index none = fresh-request s key ks (fresh s key ks none index.there)

-- ---- the request of a key

pub stored-request : (s : Slab LiveRequest) (key : ℕ) (ks : List ℕ) → IsSome (request_in key (entries_in s ks)) → request_in key (entries_in s ks) ≡ Some (stored s key)
stored-request s key [] some = absurd (grind (arith, some))
stored-request s key (k ∷ ks) some = grind (arith, nat_tests, stored-request s key ks)

-- it is what the slab has
pub request_held : (s : Slab LiveRequest) (key : ℕ) (ks : List ℕ) (r : LiveRequest) → IsSome (request_in key (entries_in s ks)) → get s key ≡ Some r → request_in key (entries_in s ks) ≡ Some r
request_held s key ks r some held = stored-request s key ks some ∙ ap (λ o. Some (unwrap_or o no_request)) held

pub key-there : (s : Slab LiveRequest) (key : ℕ) (ks : List ℕ) → AllByRecursion (ContainsKey s) ks → IsSome (request_in key (entries_in s ks)) → ContainsKey s key
key-there s key [] there some = absurd (grind (arith, some))
key-there s key (k ∷ ks) there some = grind (arith, nat_tests, there.0, key-there s key ks there.1)

-- ---- another request in its place

pub entries-set : (s t : Slab LiveRequest) (key : ℕ) (r : LiveRequest) (ks : List ℕ) → AreDistinct ks → Updates s t key (Some r)
    → entries_in t ks ≡ change_first (has_key key) (change_entry (λ o. r)) (entries_in s ks)
entries-set s t key r [] distinct u = refl
entries-set s t key r (k ∷ ks) distinct u =
    grind (arith, nat_tests, u.changed, u.others k, λ (here : k ≡ key). entries-same s t key ks (rw (← here) distinct.0) u.others, entries-set s t key r ks distinct.1 u)

kept : (s t : Slab LiveRequest) (key k : ℕ) (r : LiveRequest) → Updates s t key (Some r) → ContainsKey s k → ContainsKey t k
kept s t key k r u there = grind (arith, u.changed, u.others k, there)

there-set : (s t : Slab LiveRequest) (ks : List ℕ) (key : ℕ) (r : LiveRequest) → Updates s t key (Some r) → AllByRecursion (ContainsKey s) ks → AllByRecursion (ContainsKey t) ks
there-set s t [] key r u there = tt
there-set s t (k ∷ ks) key r u there = (kept s t key k r u there.0, there-set s t ks key r u there.1)

count-set : (xs : List (Option LiveRequest)) (k : ℕ) (v : LiveRequest) → is_some (get_or xs k None) ≡ true → count_by is_some (set xs k (Some v)) ≡ count_by is_some xs
count-set [] k v h = refl
count-set (None ∷ xs) zero v h = grind (arith, h)
count-set (Some x ∷ xs) zero v h = refl
count-set (x ∷ xs) (suc k) v h = grind (arith, common_steps, count-set xs k v h)

pub index-set : (s : Slab LiveRequest) (ks : List ℕ) (key : ℕ) (r : LiveRequest) → IsIndex s ks → ContainsKey s key → IsIndex (with_value s key r) ks
index-set s ks key r index there =
    record {
      there = there-set s (with_value s key r) ks key r (Updates-with_value s key r there) index.there;
      distinct = index.distinct;
      count = index.count ∙ sym (count-set s.slots key r there);
    }

-- a change that gives this request
pub change-constant : (change : LiveRequest → LiveRequest) (key : ℕ) (entries : List KeyedRequest) (r request : LiveRequest) → request_in key entries ≡ Some r → request ≡ change r
    → change_first (has_key key) (change_entry (λ o. request)) entries ≡ change_first (has_key key) (change_entry change) entries
change-constant change key [] r request found is = refl
change-constant change key (entry ∷ entries) r request found is = grind (arith, is, λ (later : request_in key entries ≡ Some r). change-constant change key entries r request later is)

-- the request of a key after a change of it
pub request_changed : (change : LiveRequest → LiveRequest) (key : ℕ) (entries : List KeyedRequest) (r : LiveRequest) → request_in key entries ≡ Some r
    → request_in key (change_first (has_key key) (change_entry change) entries) ≡ Some (change r)
request_changed change key [] r found = absurd (cc (found))
request_changed change key (entry ∷ entries) r found = grind (arith, λ (later : request_in key entries ≡ Some r). request_changed change key entries r later)

pub request_taken : (change : LiveRequest → LiveRequest) (key : ℕ) (entries after : List KeyedRequest) (r now : LiveRequest) → request_in key entries ≡ Some r
    → after ≡ change_first (has_key key) (change_entry change) entries → request_in key after ≡ Some now → now ≡ change r
request_taken change key entries after r now found made is = same_Some now (change r) (sym is ∙ ap (request_in key) made ∙ request_changed change key entries r found)

-- ---- a request less

pub without-others : (key : ℕ) (ks : List ℕ) → AreDistinct ks → AreOthers key (without_first (λ k. k == key) ks)
without-others key [] distinct = tt
without-others key (k ∷ ks) distinct =
    elim (cases_eq k key) [
      | inl same ↦ rw (eq-eqb k key same, ← same) distinct.0
      | inr other ↦ rw (ne_eqb k key other) (other, without-others key ks distinct.1)
    ]

entries-without : (s : Slab LiveRequest) (key : ℕ) (ks : List ℕ) → entries_in s (without_first (λ k. k == key) ks) ≡ without_first (has_key key) (entries_in s ks)
entries-without s key [] = refl
entries-without s key (k ∷ ks) = grind (arith, entries-without s key ks)

pub entries-remove : (s t : Slab LiveRequest) (key : ℕ) (ks : List ℕ) → AreDistinct ks → Updates s t key None
    → entries_in t (without_first (λ k. k == key) ks) ≡ without_first (has_key key) (entries_in s ks)
entries-remove s t key ks distinct u =
    entries-same s t key (without_first (λ k. k == key) ks) (without-others key ks distinct) u.others ∙ entries-without s key ks

pub length-without : (s : Slab LiveRequest) (key : ℕ) (ks : List ℕ) → IsSome (request_in key (entries_in s ks)) → length (without_first (λ k. k == key) ks) + 1 ≡ length ks
length-without s key [] some = absurd (grind (arith, some))
length-without s key (k ∷ ks) some = grind (arith, length-without s key ks)

on_some : {P : Type 0} (r : Option LiveRequest) → is_some r ≡ true → OnSome r P → P
on_some None h p = absurd (grind (arith, h))
on_some (Some x) h p = p

pub index-remove : (s t : Slab LiveRequest) (key : ℕ) (ks : List ℕ) (r : Option LiveRequest) → IsIndex s ks → IsSome (request_in key (entries_in s ks)) → Updates s t key None → r ≡ get s key
    → OnSome r (slab_len t + 1 ≡ slab_len s) → IsIndex t (without_first (λ k. k == key) ks)
index-remove s t key ks r index some u is len =
    let others = without-others key ks index.distinct in
    let found : is_some r ≡ true = rw is (key-there s key ks index.there some) in
    let less : slab_len t + 1 ≡ slab_len s = on_some r found len in record {
      there = there-same s t key (without_first (λ k. k == key) ks) others u.others (all-without_first (ContainsKey s) (λ k. k == key) ks index.there);
      distinct = distinct-without_first (λ k. k == key) ks index.distinct;
      count = omega (arith, less, index.count, length-without s key ks some);
    }

-- no key, no request
no_request_of : (s : Slab LiveRequest) (key : ℕ) (ks : List ℕ) → find (λ k. k == key) ks ≡ None → IsSome (request_in key (entries_in s ks)) → ⊥
no_request_of s key [] none some = grind (arith, some)
no_request_of s key (k ∷ ks) none some = grind (arith, no_request_of s key ks)

-- the place of a key in the index
pub key_placed : (s : Slab LiveRequest) (key : ℕ) (ks : List ℕ) → IsSome (request_in key (entries_in s ks)) → IsSome (position (λ k. k == key) ks)
key_placed s key ks some = placed (position (λ k. k == key) ks) refl
  where
    placed : (o : Option ℕ) → position (λ k. k == key) ks ≡ o → IsSome (position (λ k. k == key) ks)
    placed None is = absurd (no_request_of s key ks (find-none (λ k. k == key) ks is) some)
    placed (Some k) is = rw is refl

-- ---- by place

pub length_requests : (s : Slab LiveRequest) (ks : List ℕ) → length (requests_of (entries_in s ks)) ≡ length ks
length_requests s [] = refl
length_requests s (k ∷ ks) = ap suc (length_requests s ks)

-- the place of a key, and that of a request that passes a test
pub place_keyed : (s : Slab LiveRequest) (key : ℕ) (ks : List ℕ) → position (has_key key) (entries_in s ks) ≡ position (λ k. k == key) ks
place_keyed s key ks = position_map (entry_in s) (has_key key) ks

pub place_passing : (s : Slab LiveRequest) (p : LiveRequest → Bool) (ks : List ℕ) → position p (requests_of (entries_in s ks)) ≡ position (λ k. p (stored s k)) ks
place_passing s p ks = position_map (λ (entry : KeyedRequest). entry.request) p (entries_in s ks) ∙ position_map (entry_in s) (λ entry. p entry.request) ks

-- what a scan of the keys finds in the slab is what the list of the requests has
pub find_scan : (s : Slab LiveRequest) (p : LiveRequest → Bool) (ks : List ℕ) → find (λ k. p (stored s k)) ks ≡ key_in p (entries_in s ks)
find_scan s p [] = refl
find_scan s p (k ∷ ks) = grind (arith, find_scan s p ks)
