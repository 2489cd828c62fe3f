-- The last beat of a request that had begun: it is whole, and has ended if its reply came before; the board, its shadow and an order go on together.
use Rattle.std.proofs.Common.{◌≡◌, ℕ, Bool, true, false, List, [], ◌∷◌, ◌++◌, map, set, Option, Some, None, if◌then◌else◌, ◌&&◌, ◌||◌, ◌==◌, ◌⊎◌, inl, inr, refl, sym, ◌∙◌, ap, ap₂, subst, subst₂, arith}
use Rattle.std.specs.Prelude.{is_some, slice_get}
use Rattle.std.specs.List.{AllByRecursion, list_any}
use Rattle.std.proofs.Math.Path.{fun_ext}
use Rattle.std.proofs.lemmas.Bool.{cases_eq, false_from_ne_true}
use Rattle.std.proofs.lemmas.Bool.Decides.{nat_tests}
use Rattle.std.proofs.lemmas.List.{set-set}
use Rattle.std.proofs.lemmas.Simd.{map-map}
use Rattle.bus_words.proofs.MappedPlaces.{map_same}
use Rattle.bus_words.proofs.StoredPlaces.{get_set}
use Rattle.std.proofs.lemmas.Option.{slice_get_within}
use Rattle.tl_messages.specs.Requests.{WholeRequest}
use Rattle.meaning.specs.Meaning.{Bytes}
use Rattle.scoreboard.specs.Boards.{Board, ClientBoard, coming_on, flight_for, given_on, has_replied, is_spoiled, with_accepted, with_whole}
use Rattle.scoreboard.specs.Flights.{Flights, Footprint, InFlight, no_footprint, due_to, is_of_source}
use Rattle.scoreboard.specs.Orders.{Entry, Order, has_ended, reply_beats}
use Rattle.scoreboard.specs.RealTime.{MayBecome}
use Rattle.serial_memory.specs.SerialMemory.{carried_out}
use Rattle.scoreboard.specs.declared.Errors.TheVariants.{Any}
use Rattle.scoreboard.specs.Races.{after_given}
use Rattle.bus_words.specs.Places.{without_first}
use Rattle.scoreboard.specs.declared.Errors.{Errors}
use Rattle.scoreboard.proofs.MappedLists.{any_map}
use Rattle.scoreboard.proofs.real_time.Ahead.{Shadow, comes, fates_other, fates_own, fates_with, front_in, shadow_of}
use Rattle.scoreboard.proofs.real_time.Comings.{comes_same, early_at, early_same}
use Rattle.scoreboard.proofs.real_time.Entries.{AreDistinct, Differ, place_of}
use Rattle.scoreboard.proofs.real_time.Explained.{Explains}
use Rattle.scoreboard.proofs.real_time.Failures.{FatedOf, failed_any, failed_at, fails_as}
use Rattle.scoreboard.proofs.real_time.FlightLists.{none_found}
use Rattle.scoreboard.proofs.real_time.Follows.{ActsAs, Follows, IsFailing, IsFated, IsFollowed, acts_as, IsMarked, IsOpen, all_both, all_mapped, replied_by, settle, settled, some_passes}
use Rattle.scoreboard.proofs.real_time.FollowsChanges as changes
use Rattle.scoreboard.proofs.real_time.FollowsChanges.{coming_parts}
use Rattle.scoreboard.proofs.real_time.FollowsEnded.{removed_follows}
use Rattle.scoreboard.proofs.real_time.Removed.{ended, without}
use Rattle.scoreboard.proofs.real_time.Lengths.{some_beats}
use Rattle.scoreboard.proofs.real_time.GivenAhead as gives
use Rattle.scoreboard.proofs.real_time.Places.{Place, cases_place, coming_at, coming_in, due_at, flight_at, flights_in}
use Rattle.burst_plan.specs.declared.Region.{Region}
use Rattle.subordinate.specs.Faults.{Faults}
use Rattle.scoreboard.proofs.real_time.StepOrders.{HasFate, fated_of, first_of, finished, is_coming}
use Rattle.scoreboard.proofs.real_time.RequestActs.{IsWell}

-- ---- an entry that is whole with its last beat

-- it is whole with its last beat, whether or not its reply came before
abbrev pub made_whole : Errors → ℕ → WholeRequest → Entry → Entry
made_whole errors client q entry = if is_coming client entry then record entry { whole = true; spoiled = entry.spoiled || is_spoiled errors q; early = false } else entry

made_is : (errors : Errors) (client : ℕ) (q : WholeRequest) (entry : Entry) → is_coming client entry ≡ true
    → made_whole errors client q entry ≡ record entry { whole = true; spoiled = entry.spoiled || is_spoiled errors q; early = false }
made_is errors client q entry is = rw is refl

made_not : (errors : Errors) (client : ℕ) (q : WholeRequest) (entry : Entry) → is_coming client entry ≡ false → made_whole errors client q entry ≡ entry
made_not errors client q entry is = rw is refl

-- on the shadow it is whole already
settled_made : (errors : Errors) (client : ℕ) (q : WholeRequest) (entry : Entry) → settled (made_whole errors client q entry) ≡ settled entry
settled_made errors client q entry = grind arith

settle_made : (errors : Errors) (client : ℕ) (q : WholeRequest) (order : Order) → settle (map (made_whole errors client q) order) ≡ settle order
settle_made errors client q order =
    map-map settled (made_whole errors client q) order
    ∙ map_same (λ entry. settled (made_whole errors client q entry)) settled order (settled_made errors client q)

-- others' are what they were
coming_made : (errors : Errors) (client other : ℕ) (q : WholeRequest) (entry : Entry) → (other ≡ client → ⊥)
    → is_coming other (made_whole errors client q entry) ≡ is_coming other entry
coming_made errors client other q entry differ = grind (arith, nat_tests, differ)

-- it has failed if it had before, or fails as it is whole
both_failed : (errors : Errors) (faults : Faults) (regions : List Region) (one : Entry) (q : WholeRequest) (client number : ℕ)
    → (failed_at errors faults regions one || failed_at errors faults regions (record (first_of errors client q true number) { request = one.request }))
    ≡ failed_at errors faults regions (record one { whole = true; spoiled = one.spoiled || is_spoiled errors q; early = false })
both_failed errors faults regions one q client number = grind arith

-- where an entry isn't whole, in the place of all such, it is the only one
one_more : (number : ℕ) (place : Place) (entry : Entry) (order : Order) → AllByRecursion (Differ (settled entry)) (settle order)
    → (is_coming number entry ≡ true → (has_ended entry ≡ false) × (place_of entry ≡ place))
    → AllByRecursion (λ other. is_coming number other ≡ true → (has_ended other ≡ false) × (place_of other ≡ place)) order
    → ((n : ℕ) × AllByRecursion (λ other. is_coming number other ≡ true → other.number ≡ n) order)
    → (b : Bool) → is_coming number entry ≡ b
    → (n : ℕ) × (((is_coming number entry ≡ true) → entry.number ≡ n) × AllByRecursion (λ other. is_coming number other ≡ true → other.number ≡ n) order)
one_more number place entry order distinct own at rest false none = (rest.0, ((λ its. absurd (cc (sym none ∙ its))), rest.1))
one_more number place entry order distinct own at rest true is = (entry.number, ((λ its. refl), none_behind order distinct at))
  where
    none_behind : (some_order : Order) → AllByRecursion (Differ (settled entry)) (settle some_order)
        → AllByRecursion (λ other. is_coming number other ≡ true → (has_ended other ≡ false) × (place_of other ≡ place)) some_order
        → AllByRecursion (λ other. is_coming number other ≡ true → other.number ≡ entry.number) some_order
    none_behind [] differ at_it = tt
    none_behind (other ∷ rest_order) differ at_it = (
      λ its. absurd (differ.0 (own is).0 (at_it.0 its).0 ((own is).1 ∙ sym (at_it.0 its).1)),
      none_behind rest_order differ.1 at_it.1,
    )

-- of a client's entries that aren't whole, which are in one place, there is one
one_number : (number : ℕ) (place : Place) (order : Order) → AreDistinct (settle order)
    → AllByRecursion (λ entry. is_coming number entry ≡ true → (has_ended entry ≡ false) × (place_of entry ≡ place)) order
    → (n : ℕ) × AllByRecursion (λ entry. is_coming number entry ≡ true → entry.number ≡ n) order
one_number number place [] distinct at = (0, tt)
one_number number place (entry ∷ order) distinct at = one_more number place entry order distinct.0 at.0 at.1 (one_number number place order distinct.1 at.1) (is_coming number entry) refl

-- a client's entry that isn't whole has failed in flight once it is
abbrev HasFailed : ℕ → ℕ → InFlight → Entry → Type 0
HasFailed client number flight entry = is_coming client entry ≡ true → entry.number ≡ number → flight.footprint.failed ≡ true

-- one more at the end, of which no other is
without_last : (source : ℕ) (due : List InFlight) (flight : InFlight) → list_any (is_of_source source) due ≡ false → flight.source ≡ source
    → without_first (is_of_source source) (due ++ flight ∷ []) ≡ due
without_last source [] flight none is = let own : (flight.source == source) ≡ true = grind (arith, nat_tests, is) in rw own refl
without_last source (first ∷ due) flight none is = grind (arith, none, without_last source due flight)

module _ {start : Bytes} (board : Board) (shadow : Shadow) (order : Order) (follows : Follows start board shadow order) (number : ℕ) (client : ClientBoard)
    (there : slice_get board.clients number ≡ Some client) where
  -- the same client on the shadow
  there_too : (other : ClientBoard) × (slice_get shadow.clients number ≡ Some other)
  there_too = changes.there_too board shadow order follows number client there

  -- ---- a request that had begun is whole

  module _ (q : WholeRequest) (some : is_some client.front ≡ true) (free : list_any (is_of_source q.source) client.flights.due ≡ false)
      (well : IsWell q)
      (becomes : AllByRecursion (λ entry. is_coming number entry ≡ true → MayBecome (fated_of shadow.fate board.errors number q true entry.number) entry.request) order)
      (ends : AllByRecursion (HasFate shadow.fate) (map (finished board.errors number q) order)) where
    -- it is in flight, whether or not its reply came before
    abbrev given_now : Board
    given_now =
        record board {
          clients = set board.clients number (with_accepted (flight_for board.memory (coming_on board q client.coming) q) client);
          memory = carried_out board.memory q;
          indeterminate = after_given board.indeterminate (coming_on board q client.coming) q.bytes;
        }

    comes_it : comes board.clients number ≡ true
    comes_it = ap (λ (o : Option ClientBoard). is_some (front_in o)) there ∙ some

    -- the request that the message has become, whole
    abbrev final : WholeRequest
    final = shadow.finals number

    -- where one in the order is that isn't whole
    coming_there : (entry : Entry) → (entry.whole ≡ false → IsOpen board shadow entry)
        → (is_coming number entry ≡ true → MayBecome (fated_of shadow.fate board.errors number q true entry.number) entry.request) → is_coming number entry ≡ true
        → (has_ended entry ≡ false) × (place_of entry ≡ due_at number q.source)
    coming_there entry opened becoming is = grind (arith, opened, becoming, is)

    -- there is one, and no other
    numbers : (n : ℕ) × AllByRecursion (λ entry. is_coming number entry ≡ true → entry.number ≡ n) order
    numbers =
        one_number number (due_at number q.source) order follows.explains.distinct
        (all_both (λ entry. entry.whole ≡ false → IsOpen board shadow entry) (λ entry. is_coming number entry ≡ true → MayBecome (fated_of shadow.fate board.errors number q true entry.number) entry.request)
        (λ entry. is_coming number entry ≡ true → (has_ended entry ≡ false) × (place_of entry ≡ due_at number q.source)) order coming_there follows.open_ones becomes)

    record IsIt (entry : Entry) : Type 0 where
      is_open : entry.whole ≡ false → IsOpen board shadow entry
      may_become : is_coming number entry ≡ true → MayBecome (fated_of shadow.fate board.errors number q true entry.number) entry.request
      numbered : is_coming number entry ≡ true → entry.number ≡ numbers.0

    all_it : (some_order : Order) → AllByRecursion (λ entry. entry.whole ≡ false → IsOpen board shadow entry) some_order
        → AllByRecursion (λ entry. is_coming number entry ≡ true → MayBecome (fated_of shadow.fate board.errors number q true entry.number) entry.request) some_order
        → AllByRecursion (λ entry. is_coming number entry ≡ true → entry.number ≡ numbers.0) some_order → AllByRecursion IsIt some_order
    all_it [] opened becoming ones = tt
    all_it (entry ∷ rest) opened becoming ones =
        (record { is_open = opened.0; may_become = becoming.0; numbered = ones.0 }, all_it rest opened.1 becoming.1 ones.1)

    found : (entry : Entry) × IsIt entry × (is_coming number entry ≡ true)
    found = some_passes IsIt (is_coming number) order (all_it order follows.open_ones becomes numbers.1) (follows.known number comes_it)

    abbrev n : ℕ
    n = numbers.0

    fated_any : shadow.fate numbers.0 ≡ true → board.errors ≡ Any
    fated_any = follows.any_fated numbers.0

    may : MayBecome (FatedOf board.errors number q numbers.0 (shadow.fate numbers.0)) final
    may =
        let parts = coming_parts number found.0 found.2 in
        subst (λ (k : ℕ). MayBecome (fated_of shadow.fate board.errors number q true k) final) (found.1.numbered found.2)
        (subst (MayBecome (fated_of shadow.fate board.errors number q true found.0.number)) ((found.1.is_open parts.1).final ∙ ap shadow.finals parts.0)
        (found.1.may_become found.2))

    -- the shadow knows then whether it is fated
    abbrev given_shadow : Shadow
    given_shadow = record shadow { fates = fates_with shadow.fates (due_at number q.source) (shadow.fate numbers.0) }

    given_own : flight_at given_now.clients (due_at number q.source) ≡ Some (gives.flight board shadow follows.ahead number client q final numbers.0 (shadow.fate numbers.0) there comes_it refl may fated_any well free)
    given_own = gives.own_here board shadow follows.ahead number client q final numbers.0 (shadow.fate numbers.0) there comes_it refl may fated_any well free

    given_others : (i : Place) → (i ≡ due_at number q.source → ⊥) → flight_at given_now.clients i ≡ flight_at board.clients i
    given_others = gives.others_here board shadow follows.ahead number client q final numbers.0 (shadow.fate numbers.0) there comes_it refl may fated_any well free

    given_apart : (c : ℕ) → comes given_now.clients c ≡ true → c ≡ number → ⊥
    given_apart = gives.apart_now board shadow follows.ahead number client q final numbers.0 (shadow.fate numbers.0) there comes_it refl may fated_any well free

    given_comes : (c : ℕ) → (c ≡ number → ⊥) → comes given_now.clients c ≡ comes board.clients c
    given_comes = gives.comes_others board shadow follows.ahead number client q final numbers.0 (shadow.fate numbers.0) there comes_it refl may fated_any well free

    given_early : (c : ℕ) → (c ≡ number → ⊥) → early_at given_now.clients c ≡ early_at board.clients c
    given_early = gives.early_others board shadow follows.ahead number client q final numbers.0 (shadow.fate numbers.0) there comes_it refl may fated_any well free

    given_coming : (c : ℕ) → (c ≡ number → ⊥) → coming_at given_now.clients c ≡ coming_at board.clients c
    given_coming = gives.coming_others board shadow follows.ahead number client q final numbers.0 (shadow.fate numbers.0) there comes_it refl may fated_any well free

    none_due : flight_at board.clients (due_at number q.source) ≡ None
    none_due = ap (λ (f : Flights). due_to f q.source) (ap flights_in there) ∙ none_found q.source client.flights.due free

    given_marked : (entry : Entry) → IsMarked board.clients entry → (entry.whole ≡ false → IsOpen board shadow entry) → (is_coming number entry ≡ true → MayBecome (fated_of shadow.fate board.errors number q true entry.number) entry.request)
        → IsMarked given_now.clients (made_whole board.errors number q entry)
    given_marked entry was open_one becoming = by_coming (is_coming number entry) refl
      where
        its_place : is_coming number entry ≡ true → place_of entry ≡ due_at number q.source
        its_place is = grind (arith, is)

        by_place : is_coming number entry ≡ false → has_ended entry ≡ false
            → (place_of entry ≡ due_at number q.source) ⊎ (place_of entry ≡ due_at number q.source → ⊥)
            → entry.whole ≡ is_some (flight_at given_now.clients (place_of entry))
        by_place none alive (inr differ) = was alive ∙ ap (λ (o : Option InFlight). is_some o) (sym (given_others (place_of entry) differ))
        by_place none alive (inl same) =
            let unwhole : entry.whole ≡ false =
            was alive ∙ ap (λ (p : Place). is_some (flight_at board.clients p)) same ∙ ap (λ (o : Option InFlight). is_some o) none_due in
            let client_is : entry.client ≡ number = ap (λ (p : Place). p.client) same in
            absurd (grind (arith, nat_tests, none, unwhole, client_is))

        by_coming : (b : Bool) → is_coming number entry ≡ b → IsMarked given_now.clients (made_whole board.errors number q entry)
        by_coming true is =
            subst (IsMarked given_now.clients) (sym (made_is board.errors number q entry is))
            (λ alive. sym (ap (λ (p : Place). is_some (flight_at given_now.clients p)) (its_place is) ∙ ap (λ (o : Option InFlight). is_some o) given_own))
        by_coming false is =
            subst (IsMarked given_now.clients) (sym (made_not board.errors number q entry is)) (λ alive. by_place is alive (cases_place (place_of entry) (due_at number q.source)))

    given_failing : (entry : Entry) → IsFailing board entry → IsMarked board.clients entry → (entry.whole ≡ false → IsOpen board shadow entry)
        → (is_coming number entry ≡ true → MayBecome (fated_of shadow.fate board.errors number q true entry.number) entry.request) → IsFailing given_now (made_whole board.errors number q entry)
    given_failing entry was marked opened becoming = by_coming (is_coming number entry) refl
      where
        by_place : is_coming number entry ≡ false → entry.whole ≡ true → has_ended entry ≡ false → (flight : InFlight)
            → flight_at given_now.clients (place_of entry) ≡ Some flight
            → (place_of entry ≡ due_at number q.source) ⊎ (place_of entry ≡ due_at number q.source → ⊥)
            → (flight.footprint.failed ≡ failed_at board.errors board.memory.faults board.memory.regions entry) × ActsAs board entry.request flight.footprint
        by_place none whole alive flight there_now (inr differ) = was whole alive flight (sym (given_others (place_of entry) differ) ∙ there_now)
        by_place none whole alive flight there_now (inl same) =
            let unwhole : entry.whole ≡ false =
            marked alive ∙ ap (λ (p : Place). is_some (flight_at board.clients p)) same ∙ ap (λ (o : Option InFlight). is_some o) none_due in
            absurd (cc (sym whole ∙ unwhole))

        by_coming : (b : Bool) → is_coming number entry ≡ b → IsFailing given_now (made_whole board.errors number q entry)
        by_coming false is =
            subst (IsFailing given_now) (sym (made_not board.errors number q entry is))
            (λ whole alive flight there_now. by_place is whole alive flight there_now (cases_place (place_of entry) (due_at number q.source)))
        by_coming true is =
            subst (IsFailing given_now) (sym (made_is board.errors number q entry is))
            (λ whole alive flight there_now.
            let parts = coming_parts number entry is in
            let came = (opened parts.1).none_came in
            let source = ap (λ (x : WholeRequest). x.source) (becoming is).fields in
            let its_place : place_of entry ≡ due_at number q.source = grind (arith, nat_tests, parts.0, came, source) in
            let one : Some (gives.flight board shadow follows.ahead number client q final numbers.0 (shadow.fate numbers.0) there comes_it refl may fated_any well free) ≡ Some flight =
            sym given_own ∙ ap (flight_at given_now.clients) (sym its_place) ∙ there_now in
            let it : gives.flight board shadow follows.ahead number client q final numbers.0 (shadow.fate numbers.0) there comes_it refl may fated_any well free ≡ flight = cc (one) in
            let opens = opened parts.1 in
            let own_coming : client.coming.failed ≡ failed_at board.errors board.memory.faults board.memory.regions entry =
            sym (ap (λ (o : Option ClientBoard). (coming_in o).failed) there) ∙ sym (ap (λ c. (coming_at board.clients c).failed) parts.0) ∙ opens.failed in
            subst (λ (f : InFlight). (f.footprint.failed ≡ failed_at board.errors board.memory.faults board.memory.regions
            (record entry { whole = true; spoiled = entry.spoiled || is_spoiled board.errors q; early = false })) × ActsAs board entry.request f.footprint) it (
              gives.kept_failed board shadow follows.ahead number client q final numbers.0 (shadow.fate numbers.0) there comes_it refl may fated_any well free
                  ∙ ap₂ (λ (a b : Bool). a || b) own_coming (fails_as board.errors number board.memory q entry.request true n (becoming is).fields)
                  ∙ both_failed board.errors board.memory.faults board.memory.regions entry q number n,
              acts_as board q entry.request (coming_on board q client.coming) (becoming is).fields (gives.kept_acts board shadow follows.ahead number client q final numbers.0 (shadow.fate numbers.0) there comes_it refl may fated_any well free),
            ))

    given_open : (entry : Entry) → (entry.whole ≡ false → IsOpen board shadow entry) → (made_whole board.errors number q entry).whole ≡ false
        → IsOpen given_now given_shadow (made_whole board.errors number q entry)
    given_open entry was unwhole = by_coming (is_coming number entry) refl
      where
        by_coming : (b : Bool) → is_coming number entry ≡ b → IsOpen given_now given_shadow (made_whole board.errors number q entry)
        by_coming true is = absurd (cc (sym (ap (λ (e : Entry). e.whole) (made_is board.errors number q entry is)) ∙ unwhole))
        by_coming false is =
            let still = made_not board.errors number q entry is in
            let not_whole = sym (ap (λ (e : Entry). e.whole) still) ∙ unwhole in
            let it = was not_whole in
            let differ : entry.client ≡ number → ⊥ = λ same. grind (arith, nat_tests, is, same, not_whole) in
            subst (IsOpen given_now given_shadow) (sym still)
            (record {
              begun = given_comes entry.client differ ∙ it.begun;
              final = it.final;
              none_came = it.none_came;
              any = it.any;
              early = given_early entry.client differ ∙ it.early;
              replied = it.replied ∙ ap (replied_by board.errors) (sym (given_early entry.client differ));
              failed = ap (λ (r : Footprint). r.failed) (given_coming entry.client differ) ∙ it.failed;
              acts = subst (ActsAs board entry.request) (sym (given_coming entry.client differ)) it.acts;
            })

    given_fated : (entry : Entry) → IsFated shadow entry → IsMarked board.clients entry → (entry.whole ≡ false → IsOpen board shadow entry)
        → (is_coming number entry ≡ true → MayBecome (fated_of shadow.fate board.errors number q true entry.number) entry.request)
        → (is_coming number entry ≡ true → entry.number ≡ numbers.0) → IsFated given_shadow (made_whole board.errors number q entry)
    given_fated entry was marked opened becoming one = by_coming (is_coming number entry) refl
      where
        by_coming : (b : Bool) → is_coming number entry ≡ b → IsFated given_shadow (made_whole board.errors number q entry)
        by_coming true is =
            subst (IsFated given_shadow) (sym (made_is board.errors number q entry is))
            (λ whole alive. ap given_shadow.fates (coming_there entry opened becoming is).1
            ∙ fates_own shadow.fates (due_at number q.source) (shadow.fate numbers.0) ∙ ap shadow.fate (sym (one is)))
        by_coming false is =
            subst (IsFated given_shadow) (sym (made_not board.errors number q entry is))
            (λ whole alive. elim (cases_place (place_of entry) (due_at number q.source)) [
              | inl same ↦
                  let unwhole : entry.whole ≡ false =
                  marked alive ∙ ap (λ (p : Place). is_some (flight_at board.clients p)) same ∙ ap (λ (o : Option InFlight). is_some o) none_due in
                  absurd (cc (sym whole ∙ unwhole))
              | inr differ ↦ fates_other shadow.fates (due_at number q.source) (shadow.fate numbers.0) (place_of entry) differ ∙ was whole alive
            ])

    whole_follows : Follows start given_now given_shadow (map (made_whole board.errors number q) order)
    whole_follows =
        record {
          explains = subst (Explains start (shadow_of board shadow)) (sym (settle_made board.errors number q order)) follows.explains;
          ahead = gives.given_ahead board shadow follows.ahead number client q final numbers.0 (shadow.fate numbers.0) there comes_it refl may fated_any well free;
          marked = given_marks order follows.marked follows.open_ones becomes;
          failing = given_fails order follows.failing follows.marked follows.open_ones becomes;
          fated = given_fates order follows.fated follows.marked follows.open_ones becomes numbers.1;
          any_fated = follows.any_fated;
          open_ones =
              all_mapped (λ entry. entry.whole ≡ false → IsOpen board shadow entry) (λ entry. entry.whole ≡ false → IsOpen given_now given_shadow entry) (made_whole board.errors number q) order
              given_open follows.open_ones;
          known = λ c comes_now.
              let differ = given_apart c comes_now in
              any_map (is_coming c) (made_whole board.errors number q) order
              ∙ ap (λ (test : Entry → Bool). list_any test order) (fun_ext (λ entry. coming_made board.errors number c q entry differ))
              ∙ follows.known c (sym (given_comes c differ) ∙ comes_now);
          early = λ c due is. elim (cases_eq c number) [
            | inl same ↦
                absurd (cc (sym (ap (early_at given_now.clients) same ∙ early_same board.clients number client (with_accepted (flight_for board.memory (coming_on board q client.coming) q) client) there) ∙ is))
            | inr differ ↦ given_comes c differ ∙ follows.early c due (sym (given_early c differ) ∙ is)
          ];
        }
      where
        given_marks : (some_order : Order) → AllByRecursion (IsMarked board.clients) some_order → AllByRecursion (λ entry. entry.whole ≡ false → IsOpen board shadow entry) some_order
            → AllByRecursion (λ entry. is_coming number entry ≡ true → MayBecome (fated_of shadow.fate board.errors number q true entry.number) entry.request) some_order
            → AllByRecursion (IsMarked given_now.clients) (map (made_whole board.errors number q) some_order)
        given_marks [] marked opened becoming = tt
        given_marks (entry ∷ rest) marked opened becoming =
            (given_marked entry marked.0 opened.0 becoming.0, given_marks rest marked.1 opened.1 becoming.1)

        given_fates : (some_order : Order) → AllByRecursion (IsFated shadow) some_order → AllByRecursion (IsMarked board.clients) some_order
            → AllByRecursion (λ entry. entry.whole ≡ false → IsOpen board shadow entry) some_order
            → AllByRecursion (λ entry. is_coming number entry ≡ true → MayBecome (fated_of shadow.fate board.errors number q true entry.number) entry.request) some_order
            → AllByRecursion (λ entry. is_coming number entry ≡ true → entry.number ≡ numbers.0) some_order
            → AllByRecursion (IsFated given_shadow) (map (made_whole board.errors number q) some_order)
        given_fates [] fates marked opened becoming ones = tt
        given_fates (entry ∷ rest) fates marked opened becoming ones =
            (given_fated entry fates.0 marked.0 opened.0 becoming.0 ones.0, given_fates rest fates.1 marked.1 opened.1 becoming.1 ones.1)

        given_fails : (some_order : Order) → AllByRecursion (IsFailing board) some_order → AllByRecursion (IsMarked board.clients) some_order
            → AllByRecursion (λ entry. entry.whole ≡ false → IsOpen board shadow entry) some_order
            → AllByRecursion (λ entry. is_coming number entry ≡ true → MayBecome (fated_of shadow.fate board.errors number q true entry.number) entry.request) some_order
            → AllByRecursion (IsFailing given_now) (map (made_whole board.errors number q) some_order)
        given_fails [] failing marked opened becoming = tt
        given_fails (entry ∷ rest) failing marked opened becoming =
            (given_failing entry failing.0 marked.0 opened.0 becoming.0, given_fails rest failing.1 marked.1 opened.1 becoming.1)

    -- ---- it has ended, where its reply came before

    replied_as : has_replied board.errors client ≡ replied_by board.errors client.early
    replied_as = grind arith

    -- whether it came before the order tells too
    own_replied : (entry : Entry) → (entry.whole ≡ false → IsOpen board shadow entry) → is_coming number entry ≡ true → entry.replied ≡ has_replied board.errors client
    own_replied entry opened is = grind (arith, opened, is, there)

    abbrev flight_now : InFlight
    flight_now = flight_for board.memory (coming_on board q client.coming) q

    -- where it didn't come before
    finished_same : has_replied board.errors client ≡ false → (some_order : Order) → AllByRecursion (λ entry. entry.whole ≡ false → IsOpen board shadow entry) some_order
        → map (made_whole board.errors number q) some_order ≡ map (finished board.errors number q) some_order
    finished_same none [] opened = refl
    finished_same none (entry ∷ rest) opened =
        let first = one (is_coming number entry) refl in
        let last = finished_same none rest opened.1 in
        cc (first, last)
      where
        one : (b : Bool) → is_coming number entry ≡ b → made_whole board.errors number q entry ≡ finished board.errors number q entry
        one false is = rw is refl
        one true is = let came : entry.replied ≡ false = own_replied entry opened.0 is ∙ none in rw (is, came) refl

    -- where it did
    finished_ended : has_replied board.errors client ≡ true → (some_order : Order) → AllByRecursion (IsMarked board.clients) some_order
        → AllByRecursion (λ entry. entry.whole ≡ false → IsOpen board shadow entry) some_order
        → AllByRecursion (λ entry. is_coming number entry ≡ true → MayBecome (fated_of shadow.fate board.errors number q true entry.number) entry.request) some_order
        → map (ended number (Some q.source)) (map (made_whole board.errors number q) some_order) ≡ map (finished board.errors number q) some_order
    finished_ended some_reply [] marked opened becoming = refl
    finished_ended some_reply (entry ∷ rest) marked opened becoming =
        let first = one (is_coming number entry) refl in
        let last = finished_ended some_reply rest marked.1 opened.1 becoming.1 in
        cc (first, last)
      where
        waits : Entry → Bool
        waits some_entry = some_entry.client == number && some_entry.request.source == q.source && some_entry.came == 0

        one : (b : Bool) → is_coming number entry ≡ b → ended number (Some q.source) (made_whole board.errors number q entry) ≡ finished board.errors number q entry
        one true is =
            let parts = coming_parts number entry is in
            let came : entry.replied ≡ true = own_replied entry opened.0 is ∙ some_reply in
            let none_came = (opened.0 parts.1).none_came in
            let source = ap (λ (x : WholeRequest). x.source) (becoming.0 is).fields in
            let waiting : waits entry ≡ true = grind (arith, nat_tests, parts.0, none_came, source) in
            ap (ended number (Some q.source)) (made_is board.errors number q entry is) ∙ rw (waiting, is, came) refl
        one false is =
            let not_waiting : waits entry ≡ false =
            false_from_ne_true (waits entry) (λ waiting.
            let live : has_ended entry ≡ false = grind (arith, nat_tests, waiting, some_beats entry.request) in
            let its_place : place_of entry ≡ due_at number q.source = grind (arith, nat_tests, waiting) in
            let unwhole : entry.whole ≡ false =
            marked.0 live ∙ ap (λ (p : Place). is_some (flight_at board.clients p)) its_place ∙ ap (λ (o : Option InFlight). is_some o) none_due in
            grind (arith, is, unwhole, waiting)) in
            ap (ended number (Some q.source)) (made_not board.errors number q entry is) ∙ rw (not_waiting, is) refl

    -- the client with it and without it again
    without_it : without (Some q.source) (with_accepted flight_now client) ≡ with_whole true flight_now client
    without_it =
        ap (λ (due : List InFlight). record client { front = None; flights = record client.flights { due = due }; coming = no_footprint; early = None })
        (without_last q.source client.flights.due flight_now free refl)

    -- ---- the board with it

    -- where its reply came before, the order tells that it is spoiled, if it is fated
    spent : has_replied board.errors client ≡ true → (flight : InFlight) → flight_at given_now.clients (due_at number q.source) ≡ Some flight
        → given_shadow.fates (due_at number q.source) ≡ true → flight.footprint.failed ≡ true
    spent some_reply flight there_now fates =
        by_failing (all_ended order whole_follows.failing becomes follows.open_ones ends) (follows.known number comes_it)
      where
        fate_is : shadow.fate numbers.0 ≡ true
        fate_is = sym (fates_own shadow.fates (due_at number q.source) (shadow.fate numbers.0)) ∙ fates

        one : (entry : Entry) → IsFailing given_now (made_whole board.errors number q entry)
            → (is_coming number entry ≡ true → MayBecome (fated_of shadow.fate board.errors number q true entry.number) entry.request)
            → (entry.whole ≡ false → IsOpen board shadow entry) → HasFate shadow.fate (finished board.errors number q entry) → HasFailed number numbers.0 flight entry
        one entry failing becoming opened fated is number_is =
            let at = coming_there entry opened becoming is in
            let made = made_is board.errors number q entry is in
            let came : entry.replied ≡ true = own_replied entry opened is ∙ some_reply in
            let over : finished board.errors number q entry
            ≡ record entry { whole = true; spoiled = entry.spoiled || is_spoiled board.errors q; early = false; came = reply_beats entry.request } = rw (is, came) refl in
            let spoiled : (entry.spoiled || is_spoiled board.errors q) ≡ true =
            subst (HasFate shadow.fate) over fated (grind (arith, nat_tests)) (ap shadow.fate number_is ∙ fate_is) in
            let known = subst (IsFailing given_now) made failing refl at.0 flight (ap (flight_at given_now.clients) at.1 ∙ there_now) in
            known.0 ∙ failed_any board.errors board.memory.faults board.memory.regions
            (record entry { whole = true; spoiled = entry.spoiled || is_spoiled board.errors q; early = false }) (fated_any fate_is) spoiled

        all_ended : (some_order : Order) → AllByRecursion (IsFailing given_now) (map (made_whole board.errors number q) some_order)
            → AllByRecursion (λ entry. is_coming number entry ≡ true → MayBecome (fated_of shadow.fate board.errors number q true entry.number) entry.request) some_order
            → AllByRecursion (λ entry. entry.whole ≡ false → IsOpen board shadow entry) some_order
            → AllByRecursion (HasFate shadow.fate) (map (finished board.errors number q) some_order) → AllByRecursion (HasFailed number numbers.0 flight) some_order
        all_ended [] failing becoming opened fated = tt
        all_ended (entry ∷ rest) failing becoming opened fated =
            (one entry failing.0 becoming.0 opened.0 fated.0, all_ended rest failing.1 becoming.1 opened.1 fated.1)

        by_failing : AllByRecursion (HasFailed number numbers.0 flight) order → list_any (is_coming number) order ≡ true → flight.footprint.failed ≡ true
        by_failing all some_one =
            let its = some_passes (λ entry. HasFailed number numbers.0 flight entry × (is_coming number entry ≡ true → entry.number ≡ numbers.0)) (is_coming number) order
            (all_both (HasFailed number numbers.0 flight) (λ entry. is_coming number entry ≡ true → entry.number ≡ numbers.0)
            (λ entry. HasFailed number numbers.0 flight entry × (is_coming number entry ≡ true → entry.number ≡ numbers.0)) order (λ entry first second. (first, second)) all numbers.1) some_one in
            its.1.0 its.2 (its.1.1 its.2)

    pub given_follows : IsFollowed start shadow.fate (given_on board number client q (coming_on board q client.coming)) (map (finished board.errors number q) order)
    given_follows = by_replied (has_replied board.errors client) refl
      where
        given_by : Bool → Board
        given_by replied =
            record board {
              clients = set board.clients number (with_whole replied flight_now client);
              memory = carried_out board.memory q;
              indeterminate = after_given board.indeterminate (coming_on board q client.coming) q.bytes;
            }

        accepted_there : slice_get given_now.clients number ≡ Some (with_accepted flight_now client)
        accepted_there = get_set board.clients number (with_accepted flight_now client) (slice_get_within board.clients number client there)

        by_replied : (b : Bool) → has_replied board.errors client ≡ b → IsFollowed start shadow.fate (given_on board number client q (coming_on board q client.coming)) (map (finished board.errors number q) order)
        by_replied false none =
            subst₂ (IsFollowed start shadow.fate) (ap given_by (sym none)) (finished_same none order follows.open_ones) (given_shadow, whole_follows, refl)
        by_replied true some_reply =
            let after = removed_follows given_now given_shadow (map (made_whole board.errors number q) order) whole_follows number (Some q.source)
            (with_accepted flight_now client) accepted_there (λ c some same. absurd (cc (
            sym (comes_same board.clients number client (with_accepted flight_now client) there) ∙ ap (comes given_now.clients) (sym (ap (λ (p : Place). p.client) same)) ∙ some)))
            (spent some_reply) in
            subst₂ (IsFollowed start shadow.fate)
            (ap {B = Board} (λ (clients : List ClientBoard). record given_now { clients = clients })
            (set-set board.clients number (with_accepted flight_now client) (without (Some q.source) (with_accepted flight_now client)) ∙ ap (set board.clients number) without_it)
            ∙ ap given_by (sym some_reply))
            (finished_ended some_reply order follows.marked follows.open_ones becomes) after
