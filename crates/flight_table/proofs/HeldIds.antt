-- The holders of the IDs, through each change of the live requests.
use Rattle.std.proofs.Common.{◌≡◌, ◌≢◌, ℕ, zero, suc, ◌+◌, ◌<◌, ◌≤◌, Bool, true, false, is_none, List, [], ◌∷◌, ◌++◌, map, length, get_or, set, Option, Some, None, refl, ap, sym, ◌∙◌, arith, replicate}
use Rattle.std.specs.Prelude.{IfSome, if◌then◌else◌}
use Rattle.std.specs.List.{filter, find, list_any, position, range_with_len}
use Rattle.std.proofs.lemmas.List.{get_or-map, get_or_past}
use Rattle.bus_words.proofs.FirstPlaces.{find-first, find-none, position_is_first}
use Rattle.bus_words.specs.Places.{change_first, without_first}
use Rattle.flight_table.specs.Inside.{CanRename, HasOneHolder, MayName, holders_of_ids, renamed}
use Rattle.flight_table.specs.LiveRequests.{LiveRequest}
use Rattle.flight_table.specs.Order.{free_id, holds_id, is_free}
use Rattle.flight_table.specs.Tables.{KeyedRequest, change_entry, has_key, key_in, request_in, requests_of}
use Rattle.flight_table.proofs.Kept.{IsPlaced, count_set, requests_changed}
use Rattle.bus_words.proofs.MappedPlaces.{length_map, map_same, position_map, position_same}
use Rattle.std.proofs.lemmas.List.FromFn.{length-range_with_len, get_or-range_with_len}
use Rattle.std.proofs.lemmas.Bool.Decides.{nat_tests}
use Rattle.std.proofs.lemmas.Bool.{eq-eqb, ne_eqb}

-- ---- the key of the first that passes a test, after a change

key_pushed : (q : LiveRequest → Bool) (entries : List KeyedRequest) (e : KeyedRequest) → q e.request ≡ false → key_in q (entries ++ e ∷ []) ≡ key_in q entries
key_pushed q [] e fails = rw fails refl
key_pushed q (x ∷ entries) e fails = grind (arith, key_pushed q entries e fails)

-- the changed one passes as it did
key_kept : (q : LiveRequest → Bool) (key : ℕ) (entries : List KeyedRequest) (r new : LiveRequest) → request_in key entries ≡ Some r → q new ≡ q r → key_in q (change_first (has_key key) (change_entry (λ o. new)) entries) ≡ key_in q entries
key_kept q key [] r new found same = refl
key_kept q key (x ∷ entries) r new found same = grind (arith, same, λ (later : request_in key entries ≡ Some r). key_kept q key entries r new later same)

-- the changed one passes, and no other did
key_taken : (q : LiveRequest → Bool) (key : ℕ) (entries : List KeyedRequest) (r new : LiveRequest) → request_in key entries ≡ Some r → q new ≡ true → list_any q (requests_of entries) ≡ false
    → key_in q (change_first (has_key key) (change_entry (λ o. new)) entries) ≡ Some key
key_taken q key [] r new found passes none = absurd (cc (found))
key_taken q key (x ∷ entries) r new found passes none = grind (arith, nat_tests, passes, λ (later : request_in key entries ≡ Some r). key_taken q key entries r new later passes)

key_none : (q : LiveRequest → Bool) (entries : List KeyedRequest) → length (filter q (requests_of entries)) ≡ 0 → key_in q entries ≡ None
key_none q [] none = refl
key_none q (x ∷ entries) none = grind (arith, key_none q entries)

-- one that doesn't pass was taken out
key_without : (q : LiveRequest → Bool) (key : ℕ) (entries : List KeyedRequest) (r : LiveRequest) → request_in key entries ≡ Some r → q r ≡ false → key_in q (without_first (has_key key) entries) ≡ key_in q entries
key_without q key [] r found fails = refl
key_without q key (x ∷ entries) r found fails = grind (arith, fails, λ (later : request_in key entries ≡ Some r). key_without q key entries r later fails)

-- ---- the list of the holders

range_same : {X : Type 0} (f g : ℕ → X) (a n : ℕ) → ((id : ℕ) → a ≤ id → g id ≡ f id) → map g (range_with_len a n) ≡ map f (range_with_len a n)
range_same f g a zero same = refl
range_same f g a (suc n) same = rw (same a (omega arith), range_same f g (a + 1) n (λ id above. same id (omega (arith, above)))) refl

-- one of a range changes
pub range_set : {X : Type 0} (f g : ℕ → X) (a n k : ℕ) (v : X) → k < n → g (a + k) ≡ v → ((id : ℕ) → id ≢ a + k → g id ≡ f id) → map g (range_with_len a n) ≡ set (map f (range_with_len a n)) k v
range_set f g a zero k v within is others = absurd (omega (arith, within))
range_set f g a (suc n) zero v within is others = grind (arith, within, is, others, range_same f g (a + 1) n)
range_set f g a (suc n) (suc k) v within is others =
    rw (others a (λ same. omega (arith, same)))
    (ap (λ xs. f a ∷ xs) (range_set f g (a + 1) n k v (omega (arith, within)) (rw (moved a k) is) (λ id other. others id (λ same. other (omega (arith, same))))))
  where
    moved : (a k : ℕ) → a + 1 + k ≡ a + suc k
    moved a k = omega arith

pub ids_add : (ids : ℕ) (entries : List KeyedRequest) (e : KeyedRequest) → e.request.id ≡ None → holders_of_ids ids (entries ++ e ∷ []) ≡ holders_of_ids ids entries
ids_add ids entries e none = map_same (λ id. key_in (holds_id id) (entries ++ e ∷ [])) (λ id. key_in (holds_id id) entries) (range_with_len 0 ids) (λ id. key_pushed (holds_id id) entries e (rw none refl))

pub ids_remove : (ids key : ℕ) (entries : List KeyedRequest) (r : LiveRequest) → request_in key entries ≡ Some r → r.id ≡ None → holders_of_ids ids (without_first (has_key key) entries) ≡ holders_of_ids ids entries
ids_remove ids key entries r found none =
    map_same (λ id. key_in (holds_id id) (without_first (has_key key) entries)) (λ id. key_in (holds_id id) entries) (range_with_len 0 ids) (λ id. key_without (holds_id id) key entries r found (rw none refl))

-- the request keeps its ID, or has none
ids_kept : (ids key : ℕ) (entries : List KeyedRequest) (r new : LiveRequest) → request_in key entries ≡ Some r → new.id ≡ r.id
    → holders_of_ids ids (change_first (has_key key) (change_entry (λ o. new)) entries) ≡ holders_of_ids ids entries
ids_kept ids key entries r new found same =
    map_same (λ id. key_in (holds_id id) (change_first (has_key key) (change_entry (λ o. new)) entries)) (λ id. key_in (holds_id id) entries) (range_with_len 0 ids)
    (λ id. key_kept (holds_id id) key entries r new found (rw same refl))

pub ids_set : (ids key : ℕ) (entries : List KeyedRequest) (r new : LiveRequest) (old now : Option ℕ) → request_in key entries ≡ Some r → r.id ≡ old → new.id ≡ now → MayName ids (requests_of entries) old now
    → holders_of_ids ids (change_first (has_key key) (change_entry (λ o. new)) entries) ≡ renamed key old now (holders_of_ids ids entries)
ids_set ids key entries r new None None found was is may = ids_kept ids key entries r new found (is ∙ sym was)
ids_set ids key entries r new None (Some id) found was is may =
    range_set (λ i. key_in (holds_id i) entries) (λ i. key_in (holds_id i) (change_first (has_key key) (change_entry (λ o. new)) entries)) 0 ids id (Some key) may.0
    (rw zero_plus (key_taken (holds_id id) key entries r new found (rw is (eq-eqb id id refl)) may.1))
    (λ i other. key_kept (holds_id i) key entries r new found (rw (is, was) (ne_eqb id i (λ same. other (sym same ∙ sym zero_plus)))))
  where
    zero_plus : 0 + id ≡ id
    zero_plus = omega arith
ids_set ids key entries r new (Some held) None found was is may = absurd may
ids_set ids key entries r new (Some held) (Some id) found was is may = ids_kept ids key entries r new found (is ∙ ap (λ (i : ℕ). Some i) (sym may) ∙ sym was)

none_left : (a b : Bool) (m n : ℕ) → m + (if a then 1 else 0) ≡ n + (if b then 1 else 0) → a ≡ true → b ≡ false → n ≤ 1 → m ≡ 0
none_left a b m n sum held free one = grind (arith, sum, held, free, one)

-- a request that is done gives its ID back
pub ids_finish : (ids key place : ℕ) (entries : List KeyedRequest) (r new : LiveRequest) (old : Option ℕ) → request_in key entries ≡ Some r → IsPlaced key entries place r → r.id ≡ old → new.id ≡ None
    → IfSome old (HasOneHolder ids (requests_of entries)) → holders_of_ids ids (change_first (has_key key) (change_entry (λ o. new)) entries) ≡ renamed key old None (holders_of_ids ids entries)
ids_finish ids key place entries r new None found at was is one = ids_kept ids key entries r new found (is ∙ sym was)
ids_finish ids key place entries r new (Some id) found at was is one =
    range_set (λ i. key_in (holds_id i) entries) (λ i. key_in (holds_id i) (change_first (has_key key) (change_entry (λ o. new)) entries)) 0 ids id None one.0
    (rw zero_plus (key_none (holds_id id) (change_first (has_key key) (change_entry (λ o. new)) entries) nobody))
    (λ i other. key_kept (holds_id i) key entries r new found (rw (is, was) (sym (ne_eqb id i (λ same. other (sym same ∙ sym zero_plus))))))
  where
    zero_plus : 0 + id ≡ id
    zero_plus = omega arith

    nobody : length (filter (holds_id id) (requests_of (change_first (has_key key) (change_entry (λ o. new)) entries))) ≡ 0
    nobody =
        rw (requests_changed (λ o. new) key entries place r at)
        (none_left (holds_id id r) (holds_id id new) (length (filter (holds_id id) (set (requests_of entries) place new))) (length (filter (holds_id id) (requests_of entries)))
        (count_set (holds_id id) (requests_of entries) place new r at.within (at.there r)) (rw was (eq-eqb id id refl)) (rw is refl) one.1)

-- ---- what is read

is_free_by_key : (entries : List KeyedRequest) (id : ℕ) → is_none (key_in (holds_id id) entries) ≡ is_free (requests_of entries) id
is_free_by_key [] id = refl
is_free_by_key (x ∷ entries) id = grind (arith, is_free_by_key entries id)

first_in_range : (p : ℕ → Bool) (n : ℕ) → position p (range_with_len 0 n) ≡ find p (range_with_len 0 n)
first_in_range p n = by_place (position p (range_with_len 0 n)) refl
  where
    by_place : (o : Option ℕ) → position p (range_with_len 0 n) ≡ o → o ≡ find p (range_with_len 0 n)
    by_place None missing = sym (find-none p (range_with_len 0 n) missing)
    by_place (Some k) found =
        let first = position_is_first p (range_with_len 0 n) k found in
        let same : get_or (range_with_len 0 n) k 0 ≡ k = get_or-range_with_len 0 n k 0 (rw (length-range_with_len 0 n) at first.within) ∙ omega arith in
        sym (find-first p (range_with_len 0 n) k 0 first ∙ ap (λ (i : ℕ). Some i) same)

-- the first ID without a holder is the smallest free one
pub first_free : (ids : ℕ) (entries : List KeyedRequest) → position is_none (holders_of_ids ids entries) ≡ free_id ids (requests_of entries)
first_free ids entries =
    position_map (λ id. key_in (holds_id id) entries) is_none (range_with_len 0 ids)
    ∙ position_same (λ id. is_none (key_in (holds_id id) entries)) (is_free (requests_of entries)) (range_with_len 0 ids) (is_free_by_key entries)
    ∙ first_in_range (is_free (requests_of entries)) ids

pub holder_is : (ids id : ℕ) (entries : List KeyedRequest) → id < ids → get_or (holders_of_ids ids entries) id None ≡ key_in (holds_id id) entries
holder_is ids id entries within =
    get_or-map (λ i. key_in (holds_id i) entries) (range_with_len 0 ids) id 0 None (rw (length-range_with_len 0 ids) within)
    ∙ ap (λ i. key_in (holds_id i) entries) (get_or-range_with_len 0 ids id 0 within ∙ omega arith)

pub length_holders : (ids : ℕ) (entries : List KeyedRequest) → length (holders_of_ids ids entries) ≡ ids
length_holders ids entries = length_map (λ id. key_in (holds_id id) entries) (range_with_len 0 ids) ∙ length-range_with_len 0 ids

pub no_holder : (ids id : ℕ) (entries : List KeyedRequest) → ids ≤ id → get_or (holders_of_ids ids entries) id None ≡ None
no_holder ids id entries beyond = get_or_past (holders_of_ids ids entries) id None (rw (length_holders ids entries) beyond)

-- with no request nobody holds an ID
pub no_holders : (a ids : ℕ) → map (λ (id : ℕ). key_in (holds_id id) []) (range_with_len a ids) ≡ replicate ids None
no_holders a zero = refl
no_holders a (suc ids) = ap (λ (hs : List (Option ℕ)). None ∷ hs) (no_holders (a + 1) ids)

-- what may be done with an ID is within the list
pub may_rename : (ids : ℕ) (live : List LiveRequest) (old now : Option ℕ) → MayName ids live old now → CanRename ids old now
may_rename ids live None None may = tt
may_rename ids live None (Some id) may = may.0
may_rename ids live (Some held) None may = absurd may
may_rename ids live (Some held) (Some id) may = tt

pub gives_back : (ids : ℕ) (live : List LiveRequest) (old : Option ℕ) → IfSome old (HasOneHolder ids live) → CanRename ids old None
gives_back ids live None one = tt
gives_back ids live (Some id) one = one.0
