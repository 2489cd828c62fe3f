-- Each client's live requests, through each change of the live requests.
use Rattle.std.proofs.Common.{◌≡◌, ◌≢◌, ℕ, zero, suc, ◌+◌, ◌==◌, ◌<◌, ◌≤◌, Bool, true, false, List, [], ◌∷◌, ◌++◌, map, length, get_or, set, replicate, Option, Some, None, refl, ap, sym, ◌∙◌, arith, IsSome, ◌⊎◌, inl, inr}
use Rattle.std.specs.Prelude.{if◌then◌else◌, option_map}
use Rattle.std.specs.List.{AllByRecursion, filter, find, list_any, position, range_with_len}
use Rattle.std.proofs.lemmas.Bool.{cases_lt}
use Rattle.std.proofs.lemmas.List.{get_or-map, get_or_past, map_push}
use Rattle.bus_words.proofs.FirstPlaces.{IsFirst, find-none, position_is_first}
use Rattle.bus_words.specs.Places.{change_first, without_first}
use Rattle.flight_table.specs.Clients.{AreOwned, has_own_key, has_own_source, own_done, own_finished, own_part, own_requests, requests_of_clients}
use Rattle.flight_table.specs.LiveRequests.{LiveRequest, finished}
use Rattle.flight_table.specs.Tables.{KeyedRequest, change_entry, has_key, has_source, is_done_of, is_of, key_in, request_in, requests_of}
use Rattle.flight_table.specs.declared.clients.OwnRequest.{OwnRequest}
use Rattle.flight_table.proofs.HeldIds.{range_set}
use Rattle.flight_table.proofs.MarkLaws.{is_set}
use Rattle.bus_words.proofs.MappedPlaces.{length_map, map_same, position_map}
use Rattle.std.proofs.lemmas.List.FromFn.{length-range_with_len, get_or-range_with_len}
use Rattle.bus_words.proofs.PlaceChanges.{all-append}

abbrev own_if : Bool → KeyedRequest → List OwnRequest → List OwnRequest
own_if b e own = if b then own_part e ∷ own else own

own_cons : (e : KeyedRequest) (entries : List KeyedRequest) (client : ℕ) → own_requests (e ∷ entries) client ≡ own_if (is_of client e.request) e (own_requests entries client)
own_cons e entries client = grind arith

other_client : (client own : ℕ) → client ≢ own → (own == client) ≡ false
other_client client own other = grind (arith, other)

own_client : (client own : ℕ) → client ≡ own → (own == client) ≡ true
own_client client own same = grind (arith, same)

-- ---- one more

pushed_own : (entries : List KeyedRequest) (e : KeyedRequest) (client : ℕ) → is_of client e.request ≡ true → own_requests (entries ++ e ∷ []) client ≡ own_requests entries client ++ own_part e ∷ []
pushed_own [] e client is = rw (own_cons e [] client, is) refl
pushed_own (x ∷ entries) e client is = grind (arith, pushed_own entries e client is)

pushed_other : (entries : List KeyedRequest) (e : KeyedRequest) (client : ℕ) → is_of client e.request ≡ false → own_requests (entries ++ e ∷ []) client ≡ own_requests entries client
pushed_other [] e client is = rw (own_cons e [] client, is) refl
pushed_other (x ∷ entries) e client is = rw (own_cons x (entries ++ e ∷ []) client, own_cons x entries client, pushed_other entries e client is) refl

-- one client's list changes
one_changes : (clients own : ℕ) (old new : List KeyedRequest) (list : List OwnRequest) → own < clients → own_requests new own ≡ list → ((client : ℕ) → client ≢ own → own_requests new client ≡ own_requests old client)
    → requests_of_clients clients new ≡ set (requests_of_clients clients old) own list
one_changes clients own old new list within is others =
    range_set (own_requests old) (own_requests new) 0 clients own list within (rw zero_plus is) (λ client other. others client (λ same. other (same ∙ sym zero_plus)))
  where
    zero_plus : 0 + own ≡ own
    zero_plus = omega arith

pub owned_add : (clients : ℕ) (entries : List KeyedRequest) (e : KeyedRequest) → e.request.client < clients
    → requests_of_clients clients (entries ++ e ∷ []) ≡ set (requests_of_clients clients entries) e.request.client (own_requests entries e.request.client ++ own_part e ∷ [])
owned_add clients entries e within =
    one_changes clients e.request.client entries (entries ++ e ∷ []) (own_requests entries e.request.client ++ own_part e ∷ []) within (pushed_own entries e e.request.client (own_client e.request.client e.request.client refl))
    (λ client other. pushed_other entries e client (other_client client e.request.client other))

-- ---- another in its place

-- nothing that its client's calls ask for changes
kept_own : (key : ℕ) (entries : List KeyedRequest) (r new : LiveRequest) (client : ℕ) → request_in key entries ≡ Some r → new.client ≡ r.client → new.source ≡ r.source → new.done ≡ r.done
    → own_requests (change_first (has_key key) (change_entry (λ o. new)) entries) client ≡ own_requests entries client
kept_own key [] r new client found whose source done = refl
kept_own key (x ∷ entries) r new client found whose source done =
    grind (arith, whose, source, done, λ (later : request_in key entries ≡ Some r). kept_own key entries r new client later whose source done)

pub owned_set : (clients key : ℕ) (entries : List KeyedRequest) (r new : LiveRequest) → request_in key entries ≡ Some r → new.client ≡ r.client → new.source ≡ r.source → new.done ≡ r.done
    → requests_of_clients clients (change_first (has_key key) (change_entry (λ o. new)) entries) ≡ requests_of_clients clients entries
owned_set clients key entries r new found whose source done =
    map_same (own_requests (change_first (has_key key) (change_entry (λ o. new)) entries)) (own_requests entries) (range_with_len 0 clients) (λ client. kept_own key entries r new client found whose source done)

-- ---- one done

finished_own : (key : ℕ) (entries : List KeyedRequest) (r : LiveRequest) (client : ℕ) → request_in key entries ≡ Some r → is_of client r ≡ true
    → own_requests (change_first (has_key key) (change_entry (λ o. finished r)) entries) client ≡ change_first (has_own_key key) own_finished (own_requests entries client)
finished_own key [] r client found is = refl
finished_own key (x ∷ entries) r client found is = grind (arith, is, λ (later : request_in key entries ≡ Some r). finished_own key entries r client later is)

-- a change that leaves a request another client's
changed_other : (key : ℕ) (entries : List KeyedRequest) (r new : LiveRequest) (client : ℕ) → request_in key entries ≡ Some r → is_of client r ≡ false → is_of client new ≡ false
    → own_requests (change_first (has_key key) (change_entry (λ o. new)) entries) client ≡ own_requests entries client
changed_other key [] r new client found was is = refl
changed_other key (x ∷ entries) r new client found was is = grind (arith, was, is, λ (later : request_in key entries ≡ Some r). changed_other key entries r new client later was is)

pub owned_finish : (clients key : ℕ) (entries : List KeyedRequest) (r : LiveRequest) → request_in key entries ≡ Some r → r.client < clients
    → requests_of_clients clients (change_first (has_key key) (change_entry (λ o. finished r)) entries) ≡ set (requests_of_clients clients entries) r.client (change_first (has_own_key key) own_finished (own_requests entries r.client))
owned_finish clients key entries r found within =
    one_changes clients r.client entries (change_first (has_key key) (change_entry (λ o. finished r)) entries) (change_first (has_own_key key) own_finished (own_requests entries r.client)) within
    (finished_own key entries r r.client found (own_client r.client r.client refl))
    (λ client other. changed_other key entries r (finished r) client found (other_client client r.client other) (other_client client r.client other))

-- ---- one less

removed_own : (key : ℕ) (entries : List KeyedRequest) (r : LiveRequest) (client : ℕ) → request_in key entries ≡ Some r → is_of client r ≡ true
    → own_requests (without_first (has_key key) entries) client ≡ without_first (has_own_key key) (own_requests entries client)
removed_own key [] r client found is = refl
removed_own key (x ∷ entries) r client found is = grind (arith, is, λ (later : request_in key entries ≡ Some r). removed_own key entries r client later is)

removed_other : (key : ℕ) (entries : List KeyedRequest) (r : LiveRequest) (client : ℕ) → request_in key entries ≡ Some r → is_of client r ≡ false → own_requests (without_first (has_key key) entries) client ≡ own_requests entries client
removed_other key [] r client found was = refl
removed_other key (x ∷ entries) r client found was = grind (arith, was, λ (later : request_in key entries ≡ Some r). removed_other key entries r client later was)

pub owned_remove : (clients key : ℕ) (entries : List KeyedRequest) (r : LiveRequest) → request_in key entries ≡ Some r → r.client < clients
    → requests_of_clients clients (without_first (has_key key) entries) ≡ set (requests_of_clients clients entries) r.client (without_first (has_own_key key) (own_requests entries r.client))
owned_remove clients key entries r found within =
    one_changes clients r.client entries (without_first (has_key key) entries) (without_first (has_own_key key) (own_requests entries r.client)) within
    (removed_own key entries r r.client found (own_client r.client r.client refl)) (λ client other. removed_other key entries r client found (other_client client r.client other))

-- ---- where a request stands

own_there : (key : ℕ) (entries : List KeyedRequest) (r : LiveRequest) (client : ℕ) → request_in key entries ≡ Some r → is_of client r ≡ true → IsSome (find (has_own_key key) (own_requests entries client))
own_there key [] r client found is = absurd (cc (found))
own_there key (x ∷ entries) r client found is = grind (arith, is, λ (later : request_in key entries ≡ Some r). own_there key entries r client later is)

pub own_placed : (key : ℕ) (entries : List KeyedRequest) (r : LiveRequest) → request_in key entries ≡ Some r → IsSome (position (has_own_key key) (own_requests entries r.client))
own_placed key entries r found = by_place (position (has_own_key key) (own_requests entries r.client)) refl (own_there key entries r r.client found (own_client r.client r.client refl))
  where
    by_place : (o : Option ℕ) → position (has_own_key key) (own_requests entries r.client) ≡ o → IsSome (find (has_own_key key) (own_requests entries r.client)) → IsSome (position (has_own_key key) (own_requests entries r.client))
    by_place None missing some = absurd (cc (find-none (has_own_key key) (own_requests entries r.client) missing, some))
    by_place (Some place) at some = rw at refl

-- ---- what is read

pub length_clients : (clients : ℕ) (entries : List KeyedRequest) → length (requests_of_clients clients entries) ≡ clients
length_clients clients entries = length_map (own_requests entries) (range_with_len 0 clients) ∙ length-range_with_len 0 clients

none_own : (clients client : ℕ) (entries : List KeyedRequest) → AllByRecursion (λ (r : LiveRequest). r.client < clients) (requests_of entries) → clients ≤ client → own_requests entries client ≡ []
none_own clients client [] few beyond = refl
none_own clients client (x ∷ entries) few beyond = rw (own_cons x entries client, not_of x.request.client few.0, none_own clients client entries few.1 beyond) refl
  where
    not_of : (own : ℕ) → own < clients → (own == client) ≡ false
    not_of own below = grind (arith, below, beyond)

pub own_list : (clients client : ℕ) (entries : List KeyedRequest) (kept : List (List OwnRequest)) → AreOwned clients entries kept → get_or kept client [] ≡ own_requests entries client
own_list clients client entries kept owned = ap (λ (lists : List (List OwnRequest)). get_or lists client []) owned.lists ∙ by_client (cases_lt client clients)
  where
    by_client : (client < clients) ⊎ (clients ≤ client) → get_or (requests_of_clients clients entries) client [] ≡ own_requests entries client
    by_client (inl below) =
        get_or-map (own_requests entries) (range_with_len 0 clients) client 0 [] (rw (length-range_with_len 0 clients) below) ∙ ap (own_requests entries) (get_or-range_with_len 0 clients client 0 below ∙ omega arith)
    by_client (inr beyond) =
        get_or_past (requests_of_clients clients entries) client [] (rw (length_clients clients entries) beyond) ∙ sym (none_own clients client entries owned.few beyond)

pub count_own : (client : ℕ) (entries : List KeyedRequest) → length (own_requests entries client) ≡ length (filter (is_of client) (requests_of entries))
count_own client [] = refl
count_own client (x ∷ entries) = grind (arith, count_own client entries)

pub source_own : (client source : ℕ) (entries : List KeyedRequest) → list_any (has_own_source source) (own_requests entries client) ≡ list_any (has_source client source) (requests_of entries)
source_own client source [] = refl
source_own client source (x ∷ entries) = grind (arith, source_own client source entries)

pub done_own : (client : ℕ) (entries : List KeyedRequest) → option_map (λ (o : OwnRequest). o.key) (find own_done (own_requests entries client)) ≡ key_in (is_done_of client) entries
done_own client [] = refl
done_own client (x ∷ entries) = grind (arith, done_own client entries)

-- no requests
pub none_owned : (a clients : ℕ) → map (λ (client : ℕ). own_requests [] client) (range_with_len a clients) ≡ replicate clients []
none_owned a zero = refl
none_owned a (suc clients) = ap (λ (lists : List (List OwnRequest)). [] ∷ lists) (none_owned (a + 1) clients)

-- ---- what is kept, after each change

same_own : (key source : ℕ) (done : Bool) (e : KeyedRequest) → key ≡ e.key → source ≡ e.request.source → done ≡ e.request.done → record { key = key; source = source; done = done } ≡ own_part e
same_own key source done e one two three = λ i. record { key = one i; source = two i; done = three i }

few_added : (clients : ℕ) (entries : List KeyedRequest) (e : KeyedRequest) → AllByRecursion (λ (r : LiveRequest). r.client < clients) (requests_of entries) → e.request.client < clients
    → AllByRecursion (λ (r : LiveRequest). r.client < clients) (requests_of (entries ++ e ∷ []))
few_added clients entries e few within = rw (map_push (λ (o : KeyedRequest). o.request) entries e) (all-append (λ (r : LiveRequest). r.client < clients) (requests_of entries) e.request few within)

few_changed : (clients key : ℕ) (entries : List KeyedRequest) (new : LiveRequest) → AllByRecursion (λ (r : LiveRequest). r.client < clients) (requests_of entries) → new.client < clients
    → AllByRecursion (λ (r : LiveRequest). r.client < clients) (requests_of (change_first (has_key key) (change_entry (λ o. new)) entries))
few_changed clients key [] new few within = tt
few_changed clients key (x ∷ entries) new few within = grind (arith, few.0, few.1, within, few_changed clients key entries new few.1 within)

few_left : (clients key : ℕ) (entries : List KeyedRequest) → AllByRecursion (λ (r : LiveRequest). r.client < clients) (requests_of entries)
    → AllByRecursion (λ (r : LiveRequest). r.client < clients) (requests_of (without_first (has_key key) entries))
few_left clients key [] few = tt
few_left clients key (x ∷ entries) few = grind (arith, few.0, few.1, few_left clients key entries few.1)

pub kept_added : (clients client source : ℕ) (done : Bool) (entries after : List KeyedRequest) (kept now : List (List OwnRequest)) (key : ℕ) (r : LiveRequest) → AreOwned clients entries kept → r.client < clients
    → client ≡ r.client → source ≡ r.source → done ≡ r.done → after ≡ entries ++ record { key = key; request = r } ∷ []
    → now ≡ set kept client (get_or kept client [] ++ record { key = key; source = source; done = done } ∷ []) → AreOwned clients after now
kept_added clients client source done entries after kept now key r owned within whose from ends made is =
    let e : KeyedRequest = record { key = key; request = r } in
    record {
      lists =
          is ∙ rw (whose, own_list clients r.client entries kept owned, owned.lists, same_own key source done e refl from ends, made) (sym (owned_add clients entries e within));
      few = rw made (few_added clients entries e owned.few within);
    }

pub kept_finished : (clients client : ℕ) (entries after : List KeyedRequest) (kept now : List (List OwnRequest)) (key : ℕ) (r done : LiveRequest) → AreOwned clients entries kept → request_in key entries ≡ Some r
    → r.client < clients → client ≡ r.client → done ≡ finished r → after ≡ change_first (has_key key) (change_entry (λ o. done)) entries
    → now ≡ set kept client (change_first (has_own_key key) own_finished (get_or kept client [])) → AreOwned clients after now
kept_finished clients client entries after kept now key r done owned found within whose ends made is =
    record {
      lists = is ∙ rw (whose, own_list clients r.client entries kept owned, owned.lists, made, ends) (sym (owned_finish clients key entries r found within));
      few = rw (made, ends) (few_changed clients key entries (finished r) owned.few within);
    }

pub kept_removed : (clients client : ℕ) (entries after : List KeyedRequest) (kept now : List (List OwnRequest)) (key : ℕ) (r : LiveRequest) → AreOwned clients entries kept → request_in key entries ≡ Some r
    → r.client < clients → client ≡ r.client → after ≡ without_first (has_key key) entries
    → now ≡ set kept client (without_first (has_own_key key) (get_or kept client [])) → AreOwned clients after now
kept_removed clients client entries after kept now key r owned found within whose made is =
    record {
      lists = is ∙ rw (whose, own_list clients r.client entries kept owned, owned.lists, made) (sym (owned_remove clients key entries r found within));
      few = rw made (few_left clients key entries owned.few);
    }

pub kept_same : (clients : ℕ) (entries after : List KeyedRequest) (kept : List (List OwnRequest)) (key : ℕ) (r new : LiveRequest) → AreOwned clients entries kept → request_in key entries ≡ Some r
    → new.client ≡ r.client → new.source ≡ r.source → new.done ≡ r.done → r.client < clients → after ≡ change_first (has_key key) (change_entry (λ o. new)) entries → AreOwned clients after kept
kept_same clients entries after kept key r new owned found whose from ends within made =
    record {
      lists = rw made (owned.lists ∙ sym (owned_set clients key entries r new found whose from ends));
      few = rw made (few_changed clients key entries new owned.few (rw whose within));
    }

-- ---- what its client's calls ask for

-- a client that is kept
pub is_kept : (clients client own : ℕ) (entries : List KeyedRequest) (kept : List (List OwnRequest)) → AreOwned clients entries kept → client ≡ own → own < clients → client < length kept
is_kept clients client own entries kept owned whose within = rw (owned.lists, length_clients clients entries, whose) within

-- the place of a request among its client's
pub is_listed : (clients client key : ℕ) (entries : List KeyedRequest) (kept : List (List OwnRequest)) (r : LiveRequest) → AreOwned clients entries kept → request_in key entries ≡ Some r → client ≡ r.client
    → IsSome (position (has_own_key key) (get_or kept client []))
is_listed clients client key entries kept r owned found whose = rw (whose, own_list clients r.client entries kept owned) (own_placed key entries r found)

-- how many its client has
pub are_fewer : (clients client own most : ℕ) (entries : List KeyedRequest) (kept : List (List OwnRequest)) → AreOwned clients entries kept → client ≡ own → length (filter (is_of own) (requests_of entries)) < most → length (get_or kept client []) < most
are_fewer clients client own most entries kept owned whose fewer = rw (whose, own_list clients own entries kept owned, count_own own entries) fewer

-- ---- the first that is done, by the marks of them

marked_place : (own : List OwnRequest) (marks : List Bool) (found : Option ℕ) → marks ≡ map own_done own → found ≡ position is_set marks
    → position own_done own ≡ found
marked_place own marks found are at = sym (position_map own_done is_set own) ∙ ap (position is_set) (sym are) ∙ sym at

pub first_marked : (own : List OwnRequest) (marks : List Bool) (place : ℕ) → marks ≡ map own_done own → Some place ≡ position is_set marks
    → IsFirst own_done own place
first_marked own marks place are at = position_is_first own_done own place (marked_place own marks (Some place) are at)

pub none_done : (own : List OwnRequest) (marks : List Bool) → marks ≡ map own_done own → None ≡ position is_set marks → position own_done own ≡ None
none_done own marks are at = marked_place own marks None are at
