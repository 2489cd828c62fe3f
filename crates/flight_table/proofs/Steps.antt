-- What each call makes of a request keeps the laws of the table.
use Rattle.std.proofs.Common.{◌≡◌, ℕ, suc, zero, ◌+◌, ◌-◌, ◌<◌, ◌≤◌, Bool, true, false, is_some, List, [], ◌∷◌, length, Option, Some, None, refl, ap, sym, ◌∙◌, arith, inl, inr, ◌⊎◌, subst, IsTrue}
use Rattle.std.specs.Prelude.{IfSome, IsSomeAnd}
use Rattle.std.proofs.lemmas.Bool.{cases_lt, not-true, eqb-true, leb-true}
use Rattle.std.specs.List.{AllByRecursion, find, list_any, range_with_len, slice_get}
use Rattle.std.specs.Option.{option_or}
use Rattle.bus_words.proofs.PlaceChanges.{find-passes}
use Rattle.bus_words.specs.Places.{change_first}
use Rattle.tl_messages.specs.Operations.{has_data}
use Rattle.flight_table.specs.Inside.{HasOneHolder, MayName}
use Rattle.flight_table.specs.Laws.{HaveOwnKeys, IsSound, IsSoundRequest, IsSoundTable}
use Rattle.flight_table.specs.LiveRequests.{LiveRequest, all_sent, awaits_write, finished, is_settled, pieces_planned, planned, with_answered, with_sent, with_write}
use Rattle.flight_table.specs.Progress.{HasAnswers}
use Rattle.flight_table.specs.Order.{free_id, holds_id, id_for, is_free, is_held, is_id, is_ready}
use Rattle.flight_table.specs.Tables.{FlightTable, KeyedRequest, KeyedTable, change_entry, change_key, change_number, has_key, has_number, key_in, request_at, request_in, requests_of, table_of}
use Rattle.flight_table.specs.declared.TableLimits.{TableLimits}
use Rattle.flight_table.proofs.KeyLaws.{by_number, found_by_number, request_listed}
use Rattle.flight_table.proofs.TableChanges.{IsStep, sound-put}
use Rattle.std.proofs.lemmas.Bool.Decides.{nat_tests}
use Rattle.std.proofs.lemmas.Option.{same_Some}

-- what it means to be ready
pub record IsReady (table : FlightTable) (r : LiveRequest) : Type 0 where
  pub undone : r.done ≡ false
  pub more : r.sent < length (planned r)
  pub depth : r.sent - r.answered < table.limits.depth
  pub some : is_some (id_for table.limits table.live r) ≡ true
  pub free : is_held table.live r ≡ false

within_some : {X : Type 0} (xs : List X) (k : ℕ) → is_some (slice_get xs k) ≡ true → k < length xs
within_some [] k some = absurd (cc)
within_some (x ∷ xs) zero some = omega arith
within_some (x ∷ xs) (suc k) some = omega (arith, within_some xs k some)

pub ready_parts : (table : FlightTable) (r : LiveRequest) → is_ready table r ≡ true → IsReady table r
ready_parts table r ready = grind (arith, ready, r.sent, within_some (planned r) r.sent (grind (arith, ready)))

-- ---- sent

below_range : (p : ℕ → Bool) (a n id : ℕ) → find p (range_with_len a n) ≡ Some id → id < a + n
below_range p a zero id found = absurd (cc)
below_range p a (suc n) id found = grind (arith, below_range p (a + 1) n id)

-- the ID is in range, and it is the request's own or free
pub record MayTake (limits : TableLimits) (live : List LiveRequest) (r : LiveRequest) (id : ℕ) : Type 0 where
  pub below : id < limits.ids
  pub own : (is_id id r.id ≡ true) ⊎ (list_any (holds_id id) live ≡ false)

pub takes_id : (limits : TableLimits) (live : List LiveRequest) (r : LiveRequest) (id : ℕ) (own : Option ℕ) → r.id ≡ own → IfSome own (λ held. held < limits.ids) → option_or own (free_id limits.ids live) ≡ Some id
    → MayTake limits live r id
takes_id limits live r id None none within is =
    record {
      below = omega (arith, below_range (is_free live) 0 limits.ids id is);
      own = inr (not-true (list_any (holds_id id) live) (find-passes (is_free live) (range_with_len 0 limits.ids) id is));
    }
takes_id limits live r id (Some held) some within is = grind (arith, some, within, is)

pub step_sent : (table : FlightTable) (r : LiveRequest) (id : ℕ) → IsSoundRequest table.limits table.accepted r → is_ready table r ≡ true → id_for table.limits table.live r ≡ Some id
    → IsStep table.limits table.accepted table.live r (with_sent id r)
step_sent table r id sound ready is =
    let parts = ready_parts table r ready in
    let takes = takes_id table.limits table.live r id r.id refl sound.id is in
    let sent : r.sent + 1 ≤ length (planned r) = omega (arith, parts.more) in
    let answered : r.answered ≤ r.sent + 1 = omega (arith, sound.answered) in
    let depth : r.sent + 1 ≤ r.answered + table.limits.depth = omega (arith, parts.depth, sound.answered) in
    let unsent : all_sent (with_sent id r) ≡ 0 → Some id ≡ None = λ none. absurd (omega (arith, none)) in
    let freed : r.done ≡ true → Some id ≡ None = λ done. absurd (cc (done, parts.undone)) in
    record {
      number = refl;
      client = refl;
      source = refl;
      sound = assumption;
      ids = λ other holds. let same : id ≡ other = eqb-true id other holds in rw (← same) takes.own;
      back = λ x holds. holds;
      order = λ undone held. absurd (cc (held, parts.free));
    }

-- ---- answered

pub step_answered : (table : FlightTable) (r : LiveRequest) → IsSoundRequest table.limits table.accepted r → (r.done ≡ false → is_held table.live r ≡ true → r.id ≡ None) → r.answered < r.sent
    → IsStep table.limits table.accepted table.live r (with_answered r)
step_answered table r sound order one = grind (arith, sound, order, one)

-- ---- the write of an atomic is planned

-- an atomic that awaits its write: it isn't done, reads, and all of that is answered
pub record AwaitsWrite (r : LiveRequest) : Type 0 where
  pub carries : has_data r.operation ≡ true
  pub undone : r.done ≡ false
  pub reads : r.writing ≡ false
  pub settled : is_settled r ≡ true

pub awaits_parts : (r : LiveRequest) → awaits_write r ≡ true → AwaitsWrite r
awaits_parts r awaits = record { carries = grind (arith, awaits); undone = grind (arith, awaits); reads = grind (arith, awaits); settled = grind (arith, awaits) }

-- all bursts of a settled request are answered
pub has_answers : (limits : TableLimits) (accepted : ℕ) (r : LiveRequest) → IsSoundRequest limits accepted r → is_settled r ≡ true → HasAnswers r
has_answers limits accepted r sound settled = record { all = leb-true (length (planned r)) r.answered settled; sent = sound.answered }

pub step_write : (table : FlightTable) (r : LiveRequest) → IsSoundRequest table.limits table.accepted r → (r.done ≡ false → is_held table.live r ≡ true → r.id ≡ None) → AwaitsWrite r
    → IsStep table.limits table.accepted table.live r (with_write r)
step_write table r sound order awaits = grind (arith, sound, order, awaits)

-- ---- done

pub step_finished : (table : FlightTable) (r : LiveRequest) → IsSoundRequest table.limits table.accepted r → IsStep table.limits table.accepted table.live r (finished r)
step_finished table r sound = grind (arith, sound)

-- nobody holds back a request that isn't done and whose bursts are answered
pub settled_free : (limits : TableLimits) (accepted : ℕ) (live : List LiveRequest) (r : LiveRequest) → IsSoundRequest limits accepted r → (r.done ≡ false → is_held live r ≡ true → r.id ≡ None) → is_settled r ≡ true
    → r.done ≡ false → 1 ≤ length (pieces_planned r.plan) → is_held live r ≡ false
settled_free limits accepted live r sound order settled undone some = grind (arith, sound, order, settled, undone, some)

-- ---- the table after a change

-- what a call's condition says of the request that the key names
pub needs : (P : KeyedTable → LiveRequest → Type 0) (old now : KeyedTable) (key : ℕ) (r : LiveRequest) → old ≡ now → request_at key old ≡ Some r → IsSomeAnd (request_at key now) (P now) → P old r
needs P old now key r same found holds = rw found at (subst (λ t. IsSomeAnd (request_at key t) (P t)) (sym same) holds)

-- what is known of the request that a key names
pub known : (keyed : KeyedTable) (key : ℕ) (r : LiveRequest) → IsSound keyed → request_at key keyed ≡ Some r
    → IsSoundRequest keyed.limits keyed.accepted r × (r.done ≡ false → is_held (requests_of keyed.entries) r ≡ true → r.id ≡ None)
known keyed key r sound found = (
  request_listed (IsSoundRequest keyed.limits keyed.accepted) key keyed.entries r sound.table.requests found,
  request_listed (λ q. q.done ≡ false → is_held (requests_of keyed.entries) q ≡ true → q.id ≡ None) key keyed.entries r sound.table.in_order found,
)

-- the table after the request of a key changed, and nothing else
pub record IsChanged (old new : KeyedTable) (key : ℕ) (change : LiveRequest → LiveRequest) : Type 0 where
  pub state : new ≡ change_key key change old
  pub table : IfSome (request_at key old) (λ r. table_of new ≡ change_number r.number change (table_of old))
  pub laws : IsSound new

number_put : (change : LiveRequest → LiveRequest) (r : LiveRequest) (live : List LiveRequest) → find (has_number r.number) live ≡ Some r
    → change_first (has_number r.number) change live ≡ change_first (has_number r.number) (λ o. change r) live
number_put change r [] found = refl
number_put change r (x ∷ live) found = grind (arith, number_put change r live)

abbrev pub with_live : KeyedTable → List LiveRequest → FlightTable
with_live old live = record { limits = old.limits; accepted = old.accepted; live = live }

changed : (old : KeyedTable) (key : ℕ) (change : LiveRequest → LiveRequest) (r : LiveRequest) (entries : List KeyedRequest) → IsSound old → request_at key old ≡ Some r
    → entries ≡ change_first (has_key key) (change_entry change) old.entries → HaveOwnKeys entries → IsStep old.limits old.accepted (requests_of old.entries) r (change r)
    → IsChanged old (record old { entries = entries }) key change
changed old key change r entries sound found made own step =
    record {
      state = ap (λ (es : List KeyedRequest). record old { entries = es }) made;
      table = rw found numbered;
      laws = record {
        limits = sound.limits;
        table = subst IsSoundTable (sym (numbered ∙ put)) (sound-put (table_of old) r (change r) sound.table by_its_number step);
        keys = own;
      };
    }
  where
    by_its_number : find (has_number r.number) (requests_of old.entries) ≡ Some r
    by_its_number = found_by_number key old.entries r sound.table.rising found

    numbered : table_of (record old { entries = entries }) ≡ change_number r.number change (table_of old)
    numbered =
        ap (λ (live : List LiveRequest). with_live old live) (ap requests_of made ∙ by_number change key old.entries r sound.table.rising found)

    put : change_number r.number change (table_of old) ≡ change_number r.number (λ o. change r) (table_of old)
    put = ap (λ (live : List LiveRequest). with_live old live) (number_put change r (requests_of old.entries) by_its_number)

pub change_is : (old now : KeyedTable) (key : ℕ) (change : LiveRequest → LiveRequest) (r : LiveRequest) (entries : List KeyedRequest) → old ≡ now → IsSound old → request_at key old ≡ Some r
    → entries ≡ change_first (has_key key) (change_entry change) old.entries → HaveOwnKeys entries → IsStep old.limits old.accepted (requests_of old.entries) r (change r)
    → IsChanged now (record old { entries = entries }) key change
change_is old now key change r entries same sound found made own step =
    subst (λ t. IsChanged t (record old { entries = entries }) key change) same (changed old key change r entries sound found made own step)

-- ---- a burst is sent

pub sends : (old now : KeyedTable) (key : ℕ) (r : LiveRequest) → old ≡ now → request_at key old ≡ Some r → IsSomeAnd (request_at key now) (λ q. IsTrue (is_ready (table_of now) q)) → is_ready (table_of old) r ≡ true
sends old now key r same found ready = needs (λ t q. IsTrue (is_ready (table_of t) q)) old now key r same found ready

-- what is known of the request that a key names, seen by a caller
pub seen : (P : KeyedTable → LiveRequest → Type 0) (old now : KeyedTable) (key : ℕ) (r : LiveRequest) → old ≡ now → request_at key old ≡ Some r → P old r → IfSome (request_at key now) (P now)
seen P old now key r same found holds = subst (λ t. IfSome (request_at key t) (P t)) same (rw found holds)

-- ---- what the calls below ask

-- it keeps its ID
same_name : (ids : ℕ) (live : List LiveRequest) (old now : Option ℕ) → now ≡ old → MayName ids live old now
same_name ids live None None same = tt
same_name ids live None (Some id) same = absurd (cc (same))
same_name ids live (Some held) None same = absurd (cc (same))
same_name ids live (Some held) (Some id) same = sym (same_Some id held same)

pub keeps_name : (ids : ℕ) (live : List LiveRequest) (key : ℕ) (entries : List KeyedRequest) (change : LiveRequest → LiveRequest) (r : LiveRequest) → request_in key entries ≡ Some r → (change r).id ≡ r.id
    → IsSomeAnd (request_in key entries) (λ old. MayName ids live old.id (change old).id)
keeps_name ids live key entries change r found same = rw found (same_name ids live r.id (change r).id same)

-- or takes the one that it was told
takes_name : (limits : TableLimits) (live : List LiveRequest) (old : Option ℕ) (id : ℕ) → option_or old (free_id limits.ids live) ≡ Some id → MayName limits.ids live old (Some id)
takes_name limits live None id is = (
  omega (arith, below_range (is_free live) 0 limits.ids id is),
  not-true (list_any (holds_id id) live) (find-passes (is_free live) (range_with_len 0 limits.ids) id is),
)
takes_name limits live (Some held) id is = cc

pub sent_name : (limits : TableLimits) (live : List LiveRequest) (key : ℕ) (entries : List KeyedRequest) (r : LiveRequest) (id : ℕ) → request_in key entries ≡ Some r → id_for limits live r ≡ Some id
    → IsSomeAnd (request_in key entries) (λ old. MayName limits.ids live old.id (Some id))
sent_name limits live key entries r id found is = rw found (takes_name limits live r.id id is)

-- the ID of a request that will be done is its own
pub gives_name : (keyed : KeyedTable) (key : ℕ) (r : LiveRequest) → IsSound keyed → request_at key keyed ≡ Some r → IsSomeAnd (request_at key keyed) (λ old. IfSome old.id (HasOneHolder keyed.limits.ids (requests_of keyed.entries)))
gives_name keyed key r sound found = rw found (by_id r.id (known keyed key r sound found).0.id)
  where
    by_id : (o : Option ℕ) → IfSome o (λ id. id < keyed.limits.ids) → IfSome o (HasOneHolder keyed.limits.ids (requests_of keyed.entries))
    by_id None within = tt
    by_id (Some id) within = (within, sound.table.one_holder id)

-- and one that is done has none
pub has_no_name : (keyed : KeyedTable) (key : ℕ) (r : LiveRequest) → IsSound keyed → request_at key keyed ≡ Some r → r.done ≡ true → IsSomeAnd (request_at key keyed) (λ old. old.id ≡ None)
has_no_name keyed key r sound found done = rw found ((known keyed key r sound found).0.freed done)

-- ---- no ID beyond the table's is held

other_id : (ids id : ℕ) (o : Option ℕ) → IfSome o (λ held. held < ids) → ids ≤ id → is_id id o ≡ false
other_id ids id o within above = grind (arith, nat_tests, within, above)

nobody_beyond : (limits : TableLimits) (accepted id : ℕ) (entries : List KeyedRequest) → AllByRecursion (IsSoundRequest limits accepted) (requests_of entries) → limits.ids ≤ id → key_in (holds_id id) entries ≡ None
nobody_beyond limits accepted id [] all above = refl
nobody_beyond limits accepted id (e ∷ entries) all above = rw (other_id limits.ids id e.request.id all.0.id above) (nobody_beyond limits accepted id entries all.1 above)

pub held_beyond : (keyed : KeyedTable) (id : ℕ) (answer : Option ℕ) → IsSound keyed → (id < keyed.limits.ids → answer ≡ key_in (holds_id id) keyed.entries) → (keyed.limits.ids ≤ id → answer ≡ None) → answer ≡ key_in (holds_id id) keyed.entries
held_beyond keyed id answer sound within beyond =
    elim (cases_lt id keyed.limits.ids) [
      | inl below ↦ within below
      | inr above ↦ beyond above ∙ sym (nobody_beyond keyed.limits keyed.accepted id keyed.entries sound.table.requests above)
    ]
