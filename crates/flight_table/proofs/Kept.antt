-- What is kept by place stays what it says, through each change of the live requests.
use Rattle.std.proofs.Common.{◌≡◌, ℕ, zero, suc, ◌+◌, ◌==◌, ◌<◌, ◌≤◌, Bool, true, false, List, [], ◌∷◌, ◌++◌, map, length, get_or, set, Some, refl, ap, ap₂, sym, ◌∙◌, arith}
use Rattle.std.specs.Prelude.{IsSome, IsSomeAnd, if◌then◌else◌, option_map}
use Rattle.std.specs.List.{AllByRecursion, filter, find, position, remove}
use Rattle.std.proofs.lemmas.List.{get_or-map, map-set, map_push, set-get_or}
use Rattle.bus_words.specs.Places.{change_first, without_first}
use Rattle.bus_words.proofs.FirstPlaces.{IsFirst, change_first-first, find-first, position_is_first, without_first-first}
use Rattle.flight_table.specs.Inside.{IsKept, IsProgress, count_holders, is_named, is_open}
use Rattle.flight_table.specs.LiveRequests.{LiveRequest, finished}
use Rattle.flight_table.specs.Order.{holds_back}
use Rattle.flight_table.specs.Tables.{KeyedRequest, change_entry, has_key, request_in, requests_of}
use Rattle.bus_words.proofs.MappedPlaces.{length_map, map-remove, map_same}
use Rattle.bus_words.proofs.PlaceChanges.{all-map}
use Rattle.std.proofs.lemmas.Bool.{le-ltb}
use Rattle.std.proofs.lemmas.Option.{same_Some}
use Rattle.std.proofs.lemmas.List.Elements.{filter_agree}

-- ---- the requests at their places, after a change by key

-- the request of a key, at its place
pub record IsPlaced (key : ℕ) (entries : List KeyedRequest) (place : ℕ) (r : LiveRequest) : Type 0 where
  pub within : place < length (requests_of entries)
  pub there : (d : LiveRequest) → get_or (requests_of entries) place d ≡ r
  pub first : IsFirst (has_key key) entries place

pub placed : (key : ℕ) (entries : List KeyedRequest) (place : ℕ) (r : LiveRequest) → position (has_key key) entries ≡ Some place → request_in key entries ≡ Some r → IsPlaced key entries place r
placed key entries place r at is =
    let first = position_is_first (has_key key) entries place at in
    record {
      within = rw (length_map (λ (entry : KeyedRequest). entry.request) entries) first.within;
      there = λ d. by_entry d first;
      first = first;
    }
  where
    by_entry : (d : LiveRequest) → IsFirst (has_key key) entries place → get_or (requests_of entries) place d ≡ r
    by_entry d first =
        let e : KeyedRequest = record { key = 0; request = d } in
        let found : find (has_key key) entries ≡ Some (get_or entries place e) = find-first (has_key key) entries place e first in
        let same : option_map (λ (entry : KeyedRequest). entry.request) (Some (get_or entries place e)) ≡ Some r = rw found at is in
        get_or-map (λ (entry : KeyedRequest). entry.request) entries place e d first.within ∙ same_Some (get_or entries place e).request r same

pub requests_changed : (change : LiveRequest → LiveRequest) (key : ℕ) (entries : List KeyedRequest) (place : ℕ) (r : LiveRequest) → IsPlaced key entries place r
    → requests_of (change_first (has_key key) (change_entry change) entries) ≡ set (requests_of entries) place (change r)
requests_changed change key entries place r at =
    let e : KeyedRequest = record { key = 0; request = r } in
    ap requests_of (change_first-first (has_key key) (change_entry change) entries place e at.first)
    ∙ map-set (λ (entry : KeyedRequest). entry.request) entries place (change_entry change (get_or entries place e))
    ∙ ap (λ (x : LiveRequest). set (requests_of entries) place (change x)) (sym (get_or-map (λ (entry : KeyedRequest). entry.request) entries place e r at.first.within) ∙ at.there r)

pub requests_without : (key : ℕ) (entries : List KeyedRequest) (place : ℕ) (r : LiveRequest) → IsPlaced key entries place r
    → requests_of (without_first (has_key key) entries) ≡ remove (requests_of entries) place
requests_without key entries place r at =
    ap requests_of (without_first-first (has_key key) entries place at.first) ∙ map-remove (λ (entry : KeyedRequest). entry.request) entries place

-- ---- how many pass a test, after a change at a place

pub count_cons : {X : Type 0} (q : X → Bool) (x : X) (xs : List X) → length (filter q (x ∷ xs)) ≡ (if q x then 1 else 0) + length (filter q xs)
count_cons q x xs = grind arith

pub count_pushed : {X : Type 0} (q : X → Bool) (xs : List X) (x : X) → length (filter q (xs ++ x ∷ [])) ≡ length (filter q xs) + (if q x then 1 else 0)
count_pushed q [] x = rw (count_cons q x []) (omega arith)
count_pushed q (y ∷ xs) x = rw (count_cons q y (xs ++ x ∷ []), count_cons q y xs, count_pushed q xs x) (omega arith)

-- as many, and the new one, as before, and the old one
pub count_set : {X : Type 0} (q : X → Bool) (xs : List X) (place : ℕ) (new old : X) → place < length xs → get_or xs place old ≡ old
    → length (filter q (set xs place new)) + (if q old then 1 else 0) ≡ length (filter q xs) + (if q new then 1 else 0)
count_set q [] place new old within is = absurd (omega (arith, within))
count_set q (x ∷ xs) zero new old within is = rw (count_cons q new xs, count_cons q x xs, is) (omega arith)
count_set q (x ∷ xs) (suc place) new old within is = rw (count_cons q x (set xs place new), count_cons q x xs) (omega (arith, count_set q xs place new old (omega (arith, within)) is))

pub count_removed : {X : Type 0} (q : X → Bool) (xs : List X) (place : ℕ) (old : X) → place < length xs → get_or xs place old ≡ old
    → length (filter q (remove xs place)) + (if q old then 1 else 0) ≡ length (filter q xs)
count_removed q [] place old within is = absurd (omega (arith, within))
count_removed q (x ∷ xs) zero old within is = rw (count_cons q x xs, is) (omega arith)
count_removed q (x ∷ xs) (suc place) old within is = rw (count_cons q x (remove xs place), count_cons q x xs) (omega (arith, count_removed q xs place old (omega (arith, within)) is))

-- another in the place of one, of whom a test says the same
pub unchanged : {X : Type 0} (q : LiveRequest → X) (live : List LiveRequest) (place : ℕ) (old new : LiveRequest) → get_or live place old ≡ old → q new ≡ q old → map q (set live place new) ≡ map q live
unchanged q live place old new there is = map-set q live place new ∙ ap (set (map q live) place) is ∙ sym (map-set q live place old) ∙ ap (map q) (ap (set live place) (sym there) ∙ set-get_or live place old)

-- ---- which requests hold back which

abbrev pub is_unheld : List LiveRequest → LiveRequest → Bool
is_unheld live x = count_holders live x == 0

-- one that is done holds back none
pub done_holds : (x r : LiveRequest) → r.done ≡ true → holds_back x r ≡ false
done_holds x r done = grind (arith, done)

-- nor does a later one
pub later_holds : (x r : LiveRequest) → x.number ≤ r.number → holds_back x r ≡ false
later_holds x r later = rw (le-ltb r.number x.number later) refl

-- whom progress leaves held back, and by whom
pub progress_holds : (x old new : LiveRequest) → IsProgress old new → holds_back x new ≡ holds_back x old
progress_holds x old new p = rw (p.number, p.operation, p.plan, p.done) refl

pub progress_held : (x old new : LiveRequest) → IsProgress old new → holds_back new x ≡ holds_back old x
progress_held x old new p = rw (p.number, p.operation, p.plan) refl

-- ---- one more
pub map_each : {X Y : Type 0} (f g : X → Y) (xs : List X) → AllByRecursion (λ x. f x ≡ g x) xs → map f xs ≡ map g xs
map_each f g [] all = refl
map_each f g (x ∷ xs) all = rw (all.0, map_each f g xs all.1) refl

pub more_holders : (live : List LiveRequest) (x r : LiveRequest) → x.number ≤ r.number → count_holders (live ++ r ∷ []) x ≡ count_holders live x
more_holders live x r later = count_pushed (holds_back x) live r ∙ rw (later_holds x r later) (omega arith)

pub kept_add : (depth : ℕ) (live : List LiveRequest) (r : LiveRequest) (able named unheld : List Bool) (held : ℕ) → IsKept depth live able named unheld
    → AllByRecursion (λ earlier. earlier.number < r.number) live → held ≡ count_holders live r
    → IsKept depth (live ++ r ∷ []) (able ++ is_open depth r ∷ []) (named ++ is_named depth r ∷ []) (unheld ++ (held == 0) ∷ [])
kept_add depth live r able named unheld held kept latest is =
    record {
      open_bursts = rw kept.open_bursts (sym (map_push (is_open depth) live r));
      named_bursts = rw kept.named_bursts (sym (map_push (is_named depth) live r));
      free = rw kept.free (sym (map_push (is_unheld (live ++ r ∷ [])) live r ∙ ap₂ (λ ms m. ms ++ m ∷ []) others (ap (λ n. n == 0) (more_holders live r r (omega arith) ∙ sym is))));
    }
  where
    others : map (is_unheld (live ++ r ∷ [])) live ≡ map (is_unheld live) live
    others =
        map_each (is_unheld (live ++ r ∷ [])) (is_unheld live) live
        (all-map (λ (x : LiveRequest). x.number < r.number) (λ x. is_unheld (live ++ r ∷ []) x ≡ is_unheld live x) live (λ x below. ap (λ n. n == 0) (more_holders live x r (omega (arith, below)))) latest)

-- ---- progress
pub kept_set : (depth : ℕ) (live : List LiveRequest) (place : ℕ) (old new : LiveRequest) (able named unheld : List Bool) → IsKept depth live able named unheld → place < length live
    → get_or live place old ≡ old → IsProgress old new → IsKept depth (set live place new) (set able place (is_open depth new)) (set named place (is_named depth new)) unheld
kept_set depth live place old new able named unheld kept within there progress =
    record {
      open_bursts = rw kept.open_bursts (sym (map-set (is_open depth) live place new));
      named_bursts = rw kept.named_bursts (sym (map-set (is_named depth) live place new));
      free = kept.free ∙ sym same;
    }
  where
    as_many : (x : LiveRequest) → is_unheld (set live place new) x ≡ is_unheld live x
    as_many x = ap (λ n. n == 0) (omega (arith, rw (progress_holds x old new progress) at (count_set (holds_back x) live place new old within there)))

    own : is_unheld live new ≡ is_unheld live old
    own = ap (λ xs. length xs == 0) (filter_agree (holds_back new) (holds_back old) (λ x. progress_held x old new progress) live)

    same : map (is_unheld (set live place new)) (set live place new) ≡ map (is_unheld live) live
    same = map_same (is_unheld (set live place new)) (is_unheld live) (set live place new) as_many ∙ unchanged (is_unheld live) live place old new there own

-- ---- one done
pub kept_finish : (depth : ℕ) (live : List LiveRequest) (place : ℕ) (r : LiveRequest) (able named unheld free : List Bool) → IsKept depth live able named unheld → free ≡ map (is_unheld (set live place (finished r))) (set live place (finished r))
    → IsKept depth (set live place (finished r)) (set able place false) (set named place false) free
kept_finish depth live place r able named unheld free kept is =
    record {
      open_bursts = rw kept.open_bursts (sym (map-set (is_open depth) live place (finished r)));
      named_bursts = rw kept.named_bursts (sym (map-set (is_named depth) live place (finished r)));
      free = is;
    }

-- ---- one less
pub kept_remove : (depth : ℕ) (live : List LiveRequest) (place : ℕ) (r : LiveRequest) (able named unheld : List Bool) → IsKept depth live able named unheld → place < length live
    → get_or live place r ≡ r → r.done ≡ true → IsKept depth (remove live place) (remove able place) (remove named place) (remove unheld place)
kept_remove depth live place r able named unheld kept within there done =
    record {
      open_bursts = rw kept.open_bursts (sym (map-remove (is_open depth) live place));
      named_bursts = rw kept.named_bursts (sym (map-remove (is_named depth) live place));
      free = rw kept.free (sym (map_same (is_unheld (remove live place)) (is_unheld live) (remove live place) as_many ∙ map-remove (is_unheld live) live place));
    }
  where
    as_many : (x : LiveRequest) → is_unheld (remove live place) x ≡ is_unheld live x
    as_many x = ap (λ n. n == 0) (omega (arith, rw (done_holds x r done) at (count_removed (holds_back x) live place r within there)))

-- ---- what a condition says of the request of a key
pub record IsNamed (key : ℕ) (entries : List KeyedRequest) (P : LiveRequest → Type 0) : Type 0 where
  pub request : LiveRequest
  pub named : request_in key entries ≡ Some request
  pub holds : P request

pub named_request : (key : ℕ) (entries : List KeyedRequest) (P : LiveRequest → Type 0) → IsSomeAnd (request_in key entries) P → IsNamed key entries P
named_request key entries P holds = grind (arith, holds)

pub some_named : (key : ℕ) (entries : List KeyedRequest) (P : LiveRequest → Type 0) → IsSomeAnd (request_in key entries) P → IsSome (request_in key entries)
some_named key entries P holds = rw (named_request key entries P holds).named refl

-- the same of the request that is known
pub named_with : (key : ℕ) (entries : List KeyedRequest) (r : LiveRequest) (P : LiveRequest → Type 0) → request_in key entries ≡ Some r → IsSomeAnd (request_in key entries) P → P r
named_with key entries r P found holds = rw found at holds
