-- Of two requests that touch a byte which one of them writes, the later starts when the earlier is finished: no event changes that. It knows
-- the hold rule of the table of live requests, what each event makes of these, and which have started and are finished; bursts and the memory
-- are hidden.
use Rattle.std.specs.List.{AllByRecursion, find, list_any}
use Rattle.std.specs.Option.{option_or}
use Rattle.std.proofs.Common.{◌≡◌, ℕ, ◌<◌, ◌≤◌, nat_lt, Bool, true, false, ◌&&◌, ◌||◌, not, List, [], ◌∷◌, ◌⊎◌, inl, inr, Option, Some, None, is_some, refl, sym, subst, ◌∙◌, ap, arith, ◌≢◌, ◌+◌, ◌==◌, ◌++◌, map, option_map, if◌then◌else◌, is_none}
use Rattle.std.proofs.lemmas.Bool.Decides.{nat_tests}
use Rattle.std.proofs.lemmas.Bool.{and_parts, cases_Bool, eqb-true, cases_eq, cond_both, eq-eqb, ne_eqb}
use Rattle.std.proofs.lemmas.List.Folds.{find-append}
use Rattle.std.proofs.lemmas.Option.{same_Some}
use Rattle.bus_words.specs.Places.{change_first, without_first}
use Rattle.bus_words.proofs.PlaceChanges.{all-append, all-change_first, all-find, all-map, all-without_first, find-passes}
use Rattle.bus_words.proofs.MappedPlaces.{all-mapped}
use Rattle.bus_words.proofs.FoundChanges.{find-changed-found, find-changed-unseen}
use Rattle.tl_messages.specs.Lanes.{in_range}
use Rattle.tl_messages.specs.Requests.{HeldMessage, WholeRequest, request_of}
use Rattle.tl_messages.specs.declared.Operation.{Operation}
use Rattle.tl_messages.specs.declared.Operation.TheVariants.{Intent}
use Rattle.axi_beats.specs.declared.RBeat.{RBeat}
use Rattle.axi_beats.specs.declared.Resp.{Resp}
use Rattle.burst_plan.specs.Pieces.{PlannedRange}
use Rattle.burst_plan.specs.declared.Region.{Region}
use Rattle.responses.specs.Gathered.{after_b, after_r}
use Rattle.flight_table.specs.LiveRequests.{LiveRequest, plan_for, is_settled, with_answered}
use Rattle.flight_table.specs.Order.{holds_back, is_get, is_held, share_bytes, is_id}
use Rattle.flight_table.specs.Laws.{AreRising, IsSoundRequest}
use Rattle.bridge_core.specs.Laws.{IsOfMessage, IsServed, IsSoundRequestTable}
use Rattle.bridge_core.specs.HeldRequests.{BridgedRequest, RequestTable, flights_of, is_numbered, range_at, range_of, after_read, after_response, after_sending, holds, is_done_for, newly_live, outline_in, settled, value_found, with_read, with_request, with_response, with_sent_burst, without_done, table_limits_of}
use Rattle.burst_plan.specs.PageMap.{address_of}
use Rattle.config.specs.declared.Config.{Config}
use Rattle.bridge_core.specs.Bridge.{message_with}
use Rattle.bridge_core.proofs.SentLinks.{found_by_number, numbers}
use Rattle.world.specs.Laws.{IsSoundWorld}
use Rattle.setups.specs.Setups.{SetupLists}
use Rattle.world.specs.World.{Outcome, WorldState, next, opening_world}
use Rattle.world.specs.declared.Step.{Step}
use Rattle.world.proofs.Events.{each_way}
use Rattle.world_run.specs.InOrder.{HoldsBack, is_finished, has_begun, is_over, started, IsForeseen, IsForeseenBy, IsInItsTurn, KeepsOrder, IsHistory}
use Rattle.world_run.specs.Serial.{Order, asked, is_intent, touches, touches_byte, touches_from, writes}
use Rattle.meaning.specs.Meaning.{Bytes}
use Rattle.world_run.proofs.BytesLeft.{message_touches}
use Rattle.world_run.proofs.History.{history_moves}

-- ---- tests

not_both : (a b : Bool) → (a ≡ false) ⊎ (b ≡ false) → (a && b) ≡ false
not_both a b out = grind (arith, out)

-- a number that isn't given yet has nothing started or finished
pub unaccepted : (table : RequestTable) (j : ℕ) → table.accepted ≤ j → started table j ≡ false
unaccepted table j past = let none : nat_lt j table.accepted ≡ false = grind (arith, nat_tests) in rw none refl

-- who is finished has started
pub done_begun : (o : Option BridgedRequest) → is_over o ≡ true → has_begun o ≡ true
done_begun o over = grind (arith, over)

-- ---- the range of a request that touches a byte

-- a plan's range has the byte at x
abbrev pub HasByte : Option PlannedRange → ℕ → Type 0
HasByte None x = ⊥
HasByte (Some range) x = in_range range.address range.size x ≡ true

planned_there : (config : Config) (q : WholeRequest) (address : ℕ) (operation : Operation) (x : ℕ) → (not (is_intent operation) && in_range address q.size x) ≡ true
    → HasByte (plan_for operation (Some (range_at config q address))) x
planned_there config q address (Intent write) x there = absurd (cc)
planned_there config q address _ x there = there

planned_at : (config : Config) (q : WholeRequest) (place : Option ℕ) (x : ℕ) → touches_from q place x ≡ true → HasByte (plan_for q.operation (option_map (range_at config q) place)) x
planned_at config q None x there = absurd (cc)
planned_at config q (Some address) x there = planned_there config q address q.operation x there

touches_asked : (order : Order) (k x : ℕ) (q : WholeRequest) → asked order k ≡ Some q → touches order k x ≡ true → touches_from q (address_of order.regions q) x ≡ true
touches_asked order k x q is there = sym (ap (λ (o : Option WholeRequest). touches_byte order o x) is) ∙ there

pub message_planned : (order : Order) (config : Config) (message : HeldMessage) (k x : ℕ) → asked order k ≡ Some (request_of message) → touches order k x ≡ true
    → HasByte (plan_for message.operation (range_of config order.regions (request_of message))) x
message_planned order config message k x is there =
    planned_at config (request_of message) (address_of order.regions (request_of message)) x (touches_asked order k x (request_of message) is there)

-- ranges with a byte in common meet
share : (a b : Option PlannedRange) (x : ℕ) → HasByte a x → HasByte b x → share_bytes a b ≡ true
share a b x in_a in_b = grind (arith, in_a, in_b)

-- who writes is no Get
no_get : (order : Order) (message : HeldMessage) (k x : ℕ) → asked order k ≡ Some (request_of message) → writes order k x ≡ true → is_get message.operation ≡ false
no_get order message k x is there = grind (arith, is, there)

first_only : (a b : Bool) → (a || b) ≡ true → b ≡ false → a ≡ true
first_only a b one other = grind (arith, one, other)

-- ---- of two live requests

-- a live request of a number, as it was asked for
pub record IsAsked (order : Order) (config : Config) (k : ℕ) (request : BridgedRequest) : Type 0 where
  pub number : request.flight.number ≡ k
  pub asked : asked order k ≡ Some (request_of request.message)
  pub message : IsOfMessage config order.regions request

pub has_byte : (order : Order) (config : Config) (k x : ℕ) (request : BridgedRequest) → IsAsked order config k request → touches order k x ≡ true → HasByte request.flight.plan x
has_byte order config k x request is there =
    subst (λ (plan : Option PlannedRange). HasByte plan x) (sym is.message.plan) (message_planned order config request.message k x is.asked there)

writes_no_get : (order : Order) (config : Config) (k x : ℕ) (request : BridgedRequest) → IsAsked order config k request → writes order k x ≡ true → is_get request.flight.operation ≡ false
writes_no_get order config k x request is there = ap (λ (operation : Operation). is_get operation) is.message.operation ∙ no_get order request.message k x is.asked there

-- both touch a byte, and one writes it
abbrev DoConflict : Order → ℕ → ℕ → ℕ → Type 0
DoConflict order i j x = ((writes order i x ≡ true) × (touches order j x ≡ true)) ⊎ ((touches order i x ≡ true) × (writes order j x ≡ true))

-- the earlier one holds back the later
held_by : (order : Order) (config : Config) (i j x : ℕ) (a b : BridgedRequest) → i < j → IsAsked order config i a → IsAsked order config j b → DoConflict order i j x → a.flight.done ≡ false
    → holds_back b.flight a.flight ≡ true
held_by order config i j x a b before of_a of_b both undone = rw (earlier, undone, meets, not_both (is_get a.flight.operation) (is_get b.flight.operation) one) refl
  where
    earlier : nat_lt a.flight.number b.flight.number ≡ true
    earlier = rw (of_a.number, of_b.number) (grind (arith, nat_tests))

    meets : share_bytes a.flight.plan b.flight.plan ≡ true
    meets = elim both [
      | inl of_i ↦ share a.flight.plan b.flight.plan x (has_byte order config i x a of_a (message_touches order i x a.message of_a.asked of_i.0)) (has_byte order config j x b of_b of_i.1)
      | inr of_j ↦ share a.flight.plan b.flight.plan x (has_byte order config i x a of_a of_j.0) (has_byte order config j x b of_b (message_touches order j x b.message of_b.asked of_j.1))
    ]

    one : (is_get a.flight.operation ≡ false) ⊎ (is_get b.flight.operation ≡ false)
    one = elim both [
      | inl of_i ↦ inl (writes_no_get order config i x a of_a of_i.0)
      | inr of_j ↦ inr (writes_no_get order config j x b of_b of_j.1)
    ]

-- a test that no live request passes
none_passes : (test : LiveRequest → Bool) (p : BridgedRequest → Bool) (live : List BridgedRequest) (request : BridgedRequest) → list_any test (flights_of live) ≡ false → find p live ≡ Some request
    → test request.flight ≡ false
none_passes test p [] request none found = absurd (cc)
none_passes test p (r ∷ live) request none found = grind (arith, none_passes test p live request)

-- the request of each live number is the one that was asked for
abbrev pub AreAsked : Order → List BridgedRequest → Type 0
AreAsked order live = AllByRecursion (λ request. asked order request.flight.number ≡ Some (request_of request.message)) live

found_asked : (order : Order) (table : RequestTable) (k : ℕ) (request : BridgedRequest) → IsSoundRequestTable table → table.regions ≡ order.regions → AreAsked order table.live
    → find (is_numbered k) table.live ≡ Some request → IsAsked order table.config k request
found_asked order table k request sound regions all found = record {
  number = number;
  asked = subst (λ (n : ℕ). asked order n ≡ Some (request_of request.message)) number (all-find (λ r. asked order r.flight.number ≡ Some (request_of r.message)) (is_numbered k) table.live request all found);
  message = subst (λ (map : List Region). IsOfMessage table.config map request) regions (all-find (IsServed table.config table.regions) (is_numbered k) table.live request sound.served found).flight;
}
  where
    number : request.flight.number ≡ k
    number = eqb-true request.flight.number k (find-passes (is_numbered k) table.live request found)

-- where one sends that isn't done, whatever it conflicts with is done
module _ (order : Order) (table : RequestTable) (sound : IsSoundRequestTable table) (regions : table.regions ≡ order.regions) (all : AreAsked order table.live) where
  waits : (i j x : ℕ) (b : BridgedRequest) → i < j → j < table.accepted → DoConflict order i j x → find (is_numbered j) table.live ≡ Some b → has_begun (Some b) ≡ true → b.flight.done ≡ false
      → is_finished table i ≡ true
  waits i j x b before below both there begun undone = given (find (is_numbered i) table.live) refl
    where
      unheld : is_held (flights_of table.live) b.flight ≡ false
      unheld = elim (cases_Bool (is_held (flights_of table.live) b.flight)) [
        | inl held ↦ (
            let none : b.flight.id ≡ None = all-find _ (is_numbered j) table.live b (all-mapped (λ (r : LiveRequest). r.done ≡ false → is_held (flights_of table.live) r ≡ true → r.id ≡ None) (λ (r : BridgedRequest). r.flight) table.live sound.flights.in_order) there undone held in
            let holds_one : is_some b.flight.id ≡ true = first_only (is_some b.flight.id) b.flight.done begun undone in
            absurd (cc (holds_one, ap (λ (own : Option ℕ). is_some own) none)))
        | inr free ↦ free
      ]

      over : (o : Option BridgedRequest) → find (is_numbered i) table.live ≡ o → is_over o ≡ true
      over None is = refl
      over (Some a) is = elim (cases_Bool a.flight.done) [
        | inl done ↦ done
        | inr live ↦ (
            let holds_it = held_by order table.config i j x a b before (found_asked order table i a sound regions all is) (found_asked order table j b sound regions all there) both live in
            let none = none_passes (holds_back b.flight) (is_numbered i) table.live a unheld is in
            cc)
      ]

      given : (o : Option BridgedRequest) → find (is_numbered i) table.live ≡ o → (nat_lt i table.accepted && is_over (find (is_numbered i) table.live)) ≡ true
      given o is =
          let known : nat_lt i table.accepted ≡ true = grind (arith, nat_tests) in
          rw (known, is) (over o is)

-- ---- from one table to the next

-- neither touches nor writes anything
abbrev pub IsIdle : Order → ℕ → Type 0
IsIdle order j = (x : ℕ) → (touches order j x ≡ false) × (writes order j x ≡ false)

-- who has started or is finished stays so, and who is finished had started, but for one that touches nothing
pub record Goes (order : Order) (old new : RequestTable) (j : ℕ) : Type 0 where
  pub begun : started old j ≡ true → started new j ≡ true
  pub over : is_finished old j ≡ true → is_finished new j ≡ true
  pub before : is_finished new j ≡ true → (started old j ≡ true) ⊎ IsIdle order j

pub record MovesOn (order : Order) (old new : RequestTable) : Type 0 where
  pub regions : new.regions ≡ old.regions
  pub asked : AreAsked order new.live
  pub goes : (j : ℕ) → Goes order old new j

-- so the later still wait
pub held_next : (order : Order) (old new : RequestTable) → IsSoundRequestTable new → old.regions ≡ order.regions → MovesOn order old new
    → HoldsBack (writes order) (touches order) (started old) (is_finished old) → HoldsBack (writes order) (touches order) (started new) (is_finished new)
held_next order old new sound regions moves held = record {
  earlier = λ i j x before begun writes_it touches_it. by_number i j x before begun (inl (writes_it, touches_it))
      (λ was. held.earlier i j x before was writes_it touches_it) (λ idle. let none = (idle x).0 in absurd (cc));
  later = λ i j x before begun touches_it writes_it. by_number i j x before begun (inr (touches_it, writes_it))
      (λ was. held.later i j x before was touches_it writes_it) (λ idle. let none = (idle x).1 in absurd (cc));
}
  where
    here : new.regions ≡ order.regions
    here = moves.regions ∙ regions

    by_number : (i j x : ℕ) → i < j → started new j ≡ true → DoConflict order i j x → (started old j ≡ true → is_finished old i ≡ true) → (IsIdle order j → ⊥) → is_finished new i ≡ true
    by_number i j x before begun both earlier busy = found (find (is_numbered j) new.live) refl
      where
        counted : nat_lt j new.accepted ≡ true
        counted = (and_parts (nat_lt j new.accepted) (has_begun (find (is_numbered j) new.live)) begun).0

        has : has_begun (find (is_numbered j) new.live) ≡ true
        has = (and_parts (nat_lt j new.accepted) (has_begun (find (is_numbered j) new.live)) begun).1

        ended : is_over (find (is_numbered j) new.live) ≡ true → is_finished new i ≡ true
        ended over = elim ((moves.goes j).before (rw (counted, over) refl)) [
          | inl was ↦ (moves.goes i).over (earlier was)
          | inr idle ↦ absurd (busy idle)
        ]

        found : (o : Option BridgedRequest) → find (is_numbered j) new.live ≡ o → is_finished new i ≡ true
        found None is = ended (rw is refl)
        found (Some b) is = elim (cases_Bool b.flight.done) [
          | inl done ↦ ended (rw (is, done) refl)
          | inr live ↦ waits order new sound here moves.asked i j x b before (grind (arith, nat_tests)) both is (sym (ap (λ (o : Option BridgedRequest). has_begun o) is) ∙ has) live
        ]

-- ---- what a search finds after a change

search_changed : {X : Type 0} (q p : X → Bool) (f : X → X) (xs : List X) → ((x : X) → q (f x) ≡ q x)
    → (find q (change_first p f xs) ≡ find q xs) ⊎ ((x : X) × (find q xs ≡ Some x) × (find p xs ≡ Some x) × (find q (change_first p f xs) ≡ Some (f x)))
search_changed q p f [] same = inl refl
search_changed {X = X} q p f (y ∷ ys) same = by_test (p y) (q y) refl (search_changed q p f ys same)
  where
    by_test : (b c : Bool) → q y ≡ c
        → (find q (change_first p f ys) ≡ find q ys) ⊎ ((x : X) × (find q ys ≡ Some x) × (find p ys ≡ Some x) × (find q (change_first p f ys) ≡ Some (f x)))
        → (find q (if b then f y ∷ ys else y ∷ change_first p f ys) ≡ (if c then Some y else find q ys))
        ⊎ ((x : X) × ((if c then Some y else find q ys) ≡ Some x) × ((if b then Some y else find p ys) ≡ Some x) × (find q (if b then f y ∷ ys else y ∷ change_first p f ys) ≡ Some (f x)))
    by_test b c is rest = grind (arith, is, rest)

-- numbers above another
none_above : (n : ℕ) (live : List BridgedRequest) → AllByRecursion (λ m. n < m) (map (λ (flight : LiveRequest). flight.number) (flights_of live)) → find (is_numbered n) live ≡ None
none_above n [] above = refl
none_above n (r ∷ live) above = grind (arith, nat_tests, above.0, none_above n live above.1)

pub found_without : (p : BridgedRequest → Bool) (n : ℕ) (live : List BridgedRequest) → AreRising (map (λ (flight : LiveRequest). flight.number) (flights_of live))
    → (find (is_numbered n) (without_first p live) ≡ find (is_numbered n) live)
    ⊎ ((r : BridgedRequest) × (find (is_numbered n) live ≡ Some r) × (p r ≡ true) × (find (is_numbered n) (without_first p live) ≡ None))
found_without p n [] rising = inl refl
found_without p n (y ∷ live) rising = by_test (p y) (is_numbered n y) refl refl (found_without p n live rising.1)
  where
    by_test : (b c : Bool) → p y ≡ b → is_numbered n y ≡ c
        → (find (is_numbered n) (without_first p live) ≡ find (is_numbered n) live)
        ⊎ ((r : BridgedRequest) × (find (is_numbered n) live ≡ Some r) × (p r ≡ true) × (find (is_numbered n) (without_first p live) ≡ None))
        → (find (is_numbered n) (if b then live else y ∷ without_first p live) ≡ (if c then Some y else find (is_numbered n) live))
        ⊎ ((r : BridgedRequest) × ((if c then Some y else find (is_numbered n) live) ≡ Some r) × (p r ≡ true)
        × (find (is_numbered n) (if b then live else y ∷ without_first p live) ≡ None))
    by_test b c passes is rest = grind (arith, nat_tests, eqb-true, none_above, passes, is, rest)

-- ---- one live request

-- it goes on
record Follows (old new : Option BridgedRequest) : Type 0 where
  begun : has_begun old ≡ true → has_begun new ≡ true
  over : is_over old ≡ true → is_over new ≡ true
  before : is_over new ≡ true → has_begun old ≡ true

follows_same : (o : Option BridgedRequest) → Follows o o
follows_same o = record { begun = λ b. b; over = λ b. b; before = done_begun o }

-- its number and its message stay; it has begun, and is done, where it had and was
record IsStill (old new : BridgedRequest) : Type 0 where
  number : new.flight.number ≡ old.flight.number
  message : new.message ≡ old.message
  begun : has_begun (Some old) ≡ true → has_begun (Some new) ≡ true
  done : old.flight.done ≡ true → new.flight.done ≡ true

still_settled : (request : BridgedRequest) → IsStill request (settled request)
still_settled request = cond_both (is_settled request.flight) _ _ (IsStill request)
    (λ all. cond_both (not request.flight.writing && is_some (value_found request)) _ _ (λ (flight : LiveRequest). IsStill request (record request { flight = flight }))
    (λ found. record { number = refl; message = refl; begun = λ b. b; done = λ d. d })
    (λ ends. record { number = refl; message = refl; begun = λ b. refl; done = λ d. refl }))
    (λ more. record { number = refl; message = refl; begun = λ b. b; done = λ d. d })

-- where it holds an ID as it is answered
follows_answered : (old middle new : BridgedRequest) (id : ℕ) → IsStill middle new → middle.flight.id ≡ old.flight.id → middle.flight.done ≡ old.flight.done → holds id old ≡ true → Follows (Some old) (Some new)
follows_answered old middle new id still same done held = record {
  begun = λ was. still.begun (rw (same, held_some old.flight.id held) refl);
  over = λ was. still.done (done ∙ was);
  before = λ over. rw (held_some old.flight.id held) refl;
}
  where
    held_some : (own : Option ℕ) → is_id id own ≡ true → is_some own ≡ true
    held_some own held = grind (arith, held)

over_begun : (table : RequestTable) (j : ℕ) → is_finished table j ≡ true → started table j ≡ true
over_begun table j over = rw (and_parts (nat_lt j table.accepted) (is_over (find (is_numbered j) table.live)) over).0 (done_begun (find (is_numbered j) table.live) (and_parts (nat_lt j table.accepted) (is_over (find (is_numbered j) table.live)) over).1)

or_none : {X : Type 0} (o : Option X) → option_or o None ≡ o
or_none o = grind arith

-- ---- one number

given_twice : (order : Order) (old new : RequestTable) (j : ℕ) → new.accepted ≡ old.accepted → Follows (find (is_numbered j) old.live) (find (is_numbered j) new.live) → Goes order old new j
given_twice order old new j same follows = record {
  begun = λ was. rw same (both (nat_lt j old.accepted) _ _ follows.begun was);
  over = λ was. rw same (both (nat_lt j old.accepted) _ _ follows.over was);
  before = λ over. inl (both (nat_lt j old.accepted) _ _ follows.before (sym (ap (λ (n : ℕ). nat_lt j n && is_over (find (is_numbered j) new.live)) same) ∙ over));
}
  where
    both : (a b c : Bool) → (b ≡ true → c ≡ true) → (a && b) ≡ true → (a && c) ≡ true
    both a b c goes was = grind (arith, goes)

moves_same : (order : Order) (table : RequestTable) → AreAsked order table.live → MovesOn order table table
moves_same order table all = record { regions = refl; asked = all; goes = λ j. given_twice order table table j refl (follows_same (find (is_numbered j) table.live)) }

-- one live request goes on
changes : (order : Order) (table : RequestTable) (test : BridgedRequest → Bool) (change : BridgedRequest → BridgedRequest) → AreAsked order table.live
    → ((r : BridgedRequest) → (change r).flight.number ≡ r.flight.number) → ((r : BridgedRequest) → (change r).message ≡ r.message)
    → ((j : ℕ) (r : BridgedRequest) → find test table.live ≡ Some r → find (is_numbered j) (change_first test change table.live) ≡ Some (change r) → Follows (Some r) (Some (change r)))
    → MovesOn order table (record table { live = change_first test change table.live })
changes order table test change all number message follows = record {
  regions = refl;
  asked = all-change_first (λ r. asked order r.flight.number ≡ Some (request_of r.message)) test change table.live
      (λ r passes is. rw (number r, message r) is) all;
  goes = λ j. given_twice order table _ j refl (at j);
}
  where
    at : (j : ℕ) → Follows (find (is_numbered j) table.live) (find (is_numbered j) (change_first test change table.live))
    at j = elim (search_changed (is_numbered j) test change table.live (λ r. ap (λ (n : ℕ). n == j) (number r))) [
      | inl same ↦ rw same (follows_same (find (is_numbered j) table.live))
      | inr (r, was, first, now) ↦ rw (was, now) (follows j r first now)
    ]

-- ---- one event

sends_on : (order : Order) (table : RequestTable) (number id : ℕ) → AreAsked order table.live → MovesOn order table (with_sent_burst number id table)
sends_on order table number id all =
    changes order table (is_numbered number) (after_sending id) all (λ r. refl) (λ r. refl)
    (λ j r first now. record {
      begun = λ was. refl;
      over = λ was. was;
      before = λ over. done_begun (Some r) over;
    })

-- what the laws say of a request that is found
sound_found : (table : RequestTable) (j : ℕ) (r : BridgedRequest) → IsSoundRequestTable table → find (is_numbered j) table.live ≡ Some r
    → IsSoundRequest (table_limits_of table.config) table.accepted r.flight
sound_found table j r sound found =
    all-find (λ (q : BridgedRequest). IsSoundRequest (table_limits_of table.config) table.accepted q.flight) (is_numbered j) table.live r
    (all-mapped (IsSoundRequest (table_limits_of table.config) table.accepted) (λ (q : BridgedRequest). q.flight) table.live sound.flights.requests) found

responds_on : (order : Order) (table : RequestTable) (id : ℕ) (resp : Resp) → AreAsked order table.live → MovesOn order table (with_response id resp table)
responds_on order table id resp all =
    changes order table (holds id) (after_response resp) all (λ r. (still_settled (middle r)).number) (λ r. (still_settled (middle r)).message)
    (λ j r first now. follows_answered r (middle r) (after_response resp r) id (still_settled (middle r)) refl refl (find-passes (holds id) table.live r first))
  where
    middle : BridgedRequest → BridgedRequest
    middle r = record r { flight = with_answered r.flight; gathering = after_b resp r.gathering }

reads_on : (order : Order) (table : RequestTable) (beat : RBeat) → AreAsked order table.live → MovesOn order table (with_read beat table)
reads_on order table beat all =
    changes order table (holds beat.id) (after_read table.config.axi_bytes beat) all (λ r. (still_settled (middle r)).number ∙ (same r.flight beat.last).0) (λ r. (still_settled (middle r)).message)
    (λ j r first now. follows_answered r (middle r) (after_read table.config.axi_bytes beat r) beat.id (still_settled (middle r)) (same r.flight beat.last).1 (same r.flight beat.last).2 (find-passes (holds beat.id) table.live r first))
  where
    middle : BridgedRequest → BridgedRequest
    middle r = record r {
      flight = if beat.last then with_answered r.flight else r.flight;
      gathering = after_r table.config.axi_bytes (outline_in r) beat r.gathering.came r.gathering;
    }

    same : (flight : LiveRequest) (last : Bool) → let new = if last then with_answered flight else flight in (new.number ≡ flight.number) × (new.id ≡ flight.id) × (new.done ≡ flight.done)
    same flight last = grind arith

takes_on : (order : Order) (table : RequestTable) (client : ℕ) → AreAsked order table.live → IsSoundRequestTable table → MovesOn order table (without_done client table)
takes_on order table client all sound = record {
  regions = refl;
  asked = all-without_first (λ r. asked order r.flight.number ≡ Some (request_of r.message)) (is_done_for client) table.live all;
  goes = λ j. given_twice order table (without_done client table) j refl (at j);
}
  where
    at : (j : ℕ) → Follows (find (is_numbered j) table.live) (find (is_numbered j) (without_first (is_done_for client) table.live))
    at j = elim (found_without (is_done_for client) j table.live sound.flights.rising) [
      | inl same ↦ rw same (follows_same (find (is_numbered j) table.live))
      | inr (r, was, done, now) ↦ rw (was, now) (record {
        begun = λ b. refl;
        over = λ o. refl;
        before = λ o. done_begun (Some r) ((and_parts (r.flight.client == client) r.flight.done done).1);
      })
    ]

-- a number that no live request has yet
none_given : (table : RequestTable) → IsSoundRequestTable table → find (is_numbered table.accepted) table.live ≡ None
none_given table sound = given (find (is_numbered table.accepted) table.live) refl
  where
    given : (o : Option BridgedRequest) → find (is_numbered table.accepted) table.live ≡ o → o ≡ None
    given None is = refl
    given (Some r) is =
        let same : r.flight.number ≡ table.accepted = eqb-true r.flight.number table.accepted (find-passes (is_numbered table.accepted) table.live r is) in
        let below = (sound_found table table.accepted r sound is).number in
        absurd (omega (arith, same, below))

accepts_on : (order : Order) (table : RequestTable) (message : HeldMessage) → AreAsked order table.live → IsSoundRequestTable table → table.regions ≡ order.regions
    → asked order table.accepted ≡ Some (request_of message) → MovesOn order table (with_request message table)
accepts_on order table message all sound regions foreseen = record {
  regions = refl;
  asked = all-append (λ r. asked order r.flight.number ≡ Some (request_of r.message)) table.live (newly_live table message) all foreseen;
  goes = λ j. elim (cases_eq j table.accepted) [
    | inl same ↦ subst (λ (k : ℕ). Goes order table (with_request message table) k) (sym same) own
    | inr differs ↦ other j differs
  ];
}
  where
    new : BridgedRequest
    new = newly_live table message

    own_found : find (is_numbered table.accepted) (table.live ++ new ∷ []) ≡ Some new
    own_found =
        find-append (is_numbered table.accepted) table.live (new ∷ [])
        ∙ rw (none_given table sound, eq-eqb table.accepted table.accepted refl) refl

    -- who is done at once touches nothing
    idle : is_none new.flight.plan ≡ true → IsIdle order table.accepted
    idle none x = (untouched, unwritten)
      where
        no_byte : (plan : Option PlannedRange) → is_none plan ≡ true → HasByte plan x → ⊥
        no_byte None is there = there
        no_byte (Some range) is there = absurd (cc)

        nothing : touches order table.accepted x ≡ true → ⊥
        nothing there =
            no_byte new.flight.plan none
            (subst (λ (map : List Region). HasByte (plan_for message.operation (range_of table.config map (request_of message))) x) (sym regions)
            (message_planned order table.config message table.accepted x foreseen there))

        untouched : touches order table.accepted x ≡ false
        untouched = elim (cases_Bool (touches order table.accepted x)) [ inl there ↦ absurd (nothing there) | inr is ↦ is ]

        unwritten : writes order table.accepted x ≡ false
        unwritten = elim (cases_Bool (writes order table.accepted x)) [ inl there ↦ absurd (nothing (message_touches order table.accepted x message foreseen there)) | inr is ↦ is ]

    own : Goes order table (with_request message table) table.accepted
    own = record {
      begun = λ was. (let none = unaccepted table table.accepted (omega arith) in absurd (cc));
      over = λ was. (let none = unaccepted table table.accepted (omega arith) in let begun = over_begun table table.accepted was in absurd (cc));
      before = λ over. inr (idle (
          sym (ap (λ (o : Option BridgedRequest). is_over o) own_found)
          ∙ (and_parts (nat_lt table.accepted (table.accepted + 1)) (is_over (find (is_numbered table.accepted) (table.live ++ new ∷ []))) over).1));
    }

    other : (j : ℕ) → j ≢ table.accepted → Goes order table (with_request message table) j
    other j differs = record {
      begun = λ was. same has_begun ∙ was;
      over = λ was. same is_over ∙ was;
      before = λ over. inl (over_begun table j (sym (same is_over) ∙ over));
    }
      where
        found : find (is_numbered j) (table.live ++ new ∷ []) ≡ find (is_numbered j) table.live
        found =
            find-append (is_numbered j) table.live (new ∷ [])
            ∙ rw (ne_eqb table.accepted j (λ e. differs (sym e))) (or_none (find (is_numbered j) table.live))

        counted : nat_lt j (table.accepted + 1) ≡ nat_lt j table.accepted
        counted = grind (arith, nat_tests)

        same : (test : Option BridgedRequest → Bool)
            → (nat_lt j (table.accepted + 1) && test (find (is_numbered j) (table.live ++ new ∷ []))) ≡ (nat_lt j table.accepted && test (find (is_numbered j) table.live))
        same test = rw (counted, found) refl

-- ---- all events

pub are_asked : (order : Order) (state : WorldState) → KeepsOrder order state → AreAsked order state.bridge.requests.live
are_asked order state keeps =
    all-map (IsInItsTurn order state.memory.bus_bytes keeps.wrote) (λ r. asked order r.flight.number ≡ Some (request_of r.message)) state.bridge.requests.live (λ r is. is.asked) keeps.live

module _ (order : Order) (state : WorldState) (sound : IsSoundWorld state) (regions : state.bridge.requests.regions ≡ order.regions) (all : AreAsked order state.bridge.requests.live) where
  abbrev Moves : Step → Outcome → Type 0
  Moves step outcome = IsSoundWorld outcome.state → IsForeseenBy order state.bridge step outcome.answer → MovesOn order state.bridge.requests outcome.state.bridge.requests

  -- an event lets the requests go on
  pub moves_on : (step : Step) → IsSoundWorld (next state step).state → IsForeseen order state step → MovesOn order state.bridge.requests (next state step).state.bridge.requests
  moves_on step new foreseen = each_way Moves state
      (record {
        quiet = λ step answer still new foreseen. moves_same order state.bridge.requests all;
        begins = λ client beat taken new foreseen. moves_same order state.bridge.requests all;
        accepts = λ client beat accepted new foreseen. accepts_on order state.bridge.requests (message_with state.bridge client beat) all sound.bridge_laws.requests regions foreseen;
        sends = λ sending is new foreseen. sends_on order state.bridge.requests sending.request.flight.number sending.id all;
        performs = λ serial beat memory done new foreseen. moves_same order state.bridge.requests all;
        gives_b = λ id b given new foreseen. responds_on order state.bridge.requests b.id b.resp all;
        gives_r = λ id r given new foreseen. reads_on order state.bridge.requests r all;
        hands_out = λ client request known first new foreseen. takes_on order state.bridge.requests client all sound.bridge_laws.requests;
      })
      step new foreseen

-- so the later ones still wait
pub held_kept : (order : Order) (state : WorldState) (step : Step) → IsSoundWorld state → IsSoundWorld (next state step).state → IsForeseen order state step → KeepsOrder order state
    → HoldsBack (writes order) (touches order) (started (next state step).state.bridge.requests) (is_finished (next state step).state.bridge.requests)
held_kept order state step sound new foreseen keeps =
    held_next order state.bridge.requests (next state step).state.bridge.requests new.bridge_laws.requests keeps.regions
    (moves_on order state sound keeps.regions (are_asked order state keeps) step new foreseen) keeps.held

-- before the first event none has started
pub held_opening : (order : Order) (setup : SetupLists)
    → HoldsBack (writes order) (touches order) (started (opening_world setup).bridge.requests) (is_finished (opening_world setup).bridge.requests)
held_opening order setup = record {
  earlier = λ i j x before begun writes_it touches_it. (let none = unaccepted (opening_world setup).bridge.requests j (omega arith) in absurd (cc));
  later = λ i j x before begun touches_it writes_it. (let none = unaccepted (opening_world setup).bridge.requests j (omega arith) in absurd (cc));
}

-- ---- in a table

-- of two of its requests that touch a byte which one of them writes, the later waits for the earlier
abbrev pub HoldsBackIn : Order → RequestTable → Type 0
HoldsBackIn order table = HoldsBack (writes order) (touches order) (started table) (is_finished table)

-- ---- a number names one

-- the numbers of live requests rise, so no two are the same
abbrev pub HaveNumbers : List BridgedRequest → Type 0
HaveNumbers live = AreRising (map (λ (flight : LiveRequest). flight.number) (flights_of live))

pub numbered_once : (test : BridgedRequest → Bool) (live : List BridgedRequest) (request : BridgedRequest) → HaveNumbers live → find test live ≡ Some request
    → AllByRecursion (λ (r : BridgedRequest). r.flight.number ≡ request.flight.number → r ≡ request) live
numbered_once test [] request rising found = tt
numbered_once test (first ∷ live) request rising found = by_test (test first) found (λ later. numbered_once test live request rising.1 later)
  where
    above : AllByRecursion (λ (r : BridgedRequest). first.flight.number < r.flight.number) live
    above = numbers (λ m. first.flight.number < m) live rising.0

    by_test : (b : Bool) → (if b then Some first else find test live) ≡ Some request
        → (find test live ≡ Some request → AllByRecursion (λ (r : BridgedRequest). r.flight.number ≡ request.flight.number → r ≡ request) live)
        → AllByRecursion (λ (r : BridgedRequest). r.flight.number ≡ request.flight.number → r ≡ request) (first ∷ live)
    by_test true here rest =
        let same : first ≡ request = same_Some first request here in
        let number : first.flight.number ≡ request.flight.number = ap (λ (r : BridgedRequest). r.flight.number) same in
        (λ its. same, all-map (λ (r : BridgedRequest). first.flight.number < r.flight.number) _ live (λ r below its. absurd (omega (arith, below, its, number))) above)
    by_test false later rest =
        let below = all-find (λ (r : BridgedRequest). first.flight.number < r.flight.number) test live request above later in
        (λ its. absurd (omega (arith, below, its)), rest later)

-- ---- one changes

-- the changed request is found by its number, and the others are as before
pub found_changed : (live : List BridgedRequest) (test : BridgedRequest → Bool) (change : BridgedRequest → BridgedRequest) (request : BridgedRequest) → HaveNumbers live → find test live ≡ Some request
    → (change request).flight.number ≡ request.flight.number → find (is_numbered request.flight.number) (change_first test change live) ≡ Some (change request)
found_changed live test change request rising found same = grind (arith, nat_tests, find-changed-found, eq-eqb, found_by_number, rising, found, same)

pub found_others : (live : List BridgedRequest) (test : BridgedRequest → Bool) (change : BridgedRequest → BridgedRequest) (request : BridgedRequest) (n : ℕ) → find test live ≡ Some request
    → (change request).flight.number ≡ request.flight.number → request.flight.number ≢ n → find (is_numbered n) (change_first test change live) ≡ find (is_numbered n) live
found_others live test change request n found same other = grind (arith, nat_tests, find-changed-unseen, ne_eqb, found, same, other)

abbrev pub changed_table : (BridgedRequest → Bool) → (BridgedRequest → BridgedRequest) → RequestTable → RequestTable
changed_table test change table = record table { live = change_first test change table.live }

-- a test of the request of a number
with_found : (accepted n : ℕ) (test : Option BridgedRequest → Bool) (o p : Option BridgedRequest) → o ≡ p → (nat_lt n accepted && test o) ≡ (nat_lt n accepted && test p)
with_found accepted n test o p same = ap (λ (found : Option BridgedRequest). nat_lt n accepted && test found) same

pub ends_changed : (table : RequestTable) (test : BridgedRequest → Bool) (change : BridgedRequest → BridgedRequest) (request : BridgedRequest) → HaveNumbers table.live → find test table.live ≡ Some request
    → (change request).flight.number ≡ request.flight.number
    → (n : ℕ) → is_finished (changed_table test change table) n ≡ true → (is_finished table n ≡ true) ⊎ ((request.flight.number ≡ n) × ((change request).flight.done ≡ true))
ends_changed table test change request rising found same n now =
    elim (cases_eq request.flight.number n) [
      | inl its ↦ inr (its, own (subst (λ k. is_finished (changed_table test change table) k ≡ true) (sym its) now))
      | inr other ↦ inl (with_found table.accepted n is_over _ _ (sym (found_others table.live test change request n found same other)) ∙ now)
    ]
  where
    own : is_finished (changed_table test change table) request.flight.number ≡ true → (change request).flight.done ≡ true
    own now = grind (arith, nat_tests, and_parts, with_found, found_changed, now)

-- the history goes on where one live request changes
pub history_changed : (writing : ℕ → ℕ → Bool) (before : ℕ → Bytes) (wrote : ℕ → ℕ → Bool) (bytes : Bytes) (table : RequestTable) (test : BridgedRequest → Bool) (change : BridgedRequest → BridgedRequest) (request : BridgedRequest)
    → HaveNumbers table.live → find test table.live ≡ Some request → (change request).flight.number ≡ request.flight.number
    → ((n : ℕ) → started table n ≡ true → started (changed_table test change table) n ≡ true)
    → ((change request).flight.done ≡ true → (x : ℕ) → writing request.flight.number x ≡ true → wrote request.flight.number x ≡ true)
    → IsHistory writing before (started table) (is_finished table) wrote bytes
    → IsHistory writing before (started (changed_table test change table)) (is_finished (changed_table test change table)) wrote bytes
history_changed writing before wrote bytes table test change request rising found same starts all history =
    history_moves writing before (started table) (is_finished table) (started (changed_table test change table)) (is_finished (changed_table test change table)) wrote bytes history
    starts
    (λ n over.
    elim (ends_changed table test change request rising found same n over) [
      | inl old ↦ inl old
      | inr new ↦ inr (subst (λ k. (x : ℕ) → writing k x ≡ true → wrote k x ≡ true) new.0 (all new.1))
    ])
