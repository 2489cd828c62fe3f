-- A board and its history still match where a request that has begun goes on, and where it is whole.
use Rattle.std.proofs.Common.{◌≡◌, ℕ, ◌<◌, ◌==◌, Bool, true, false, ◌||◌, not, List, map, length, drop, Option, Some, None, if◌then◌else◌, inl, inr, refl, sym, ◌∙◌, ap, ap₂, subst, arith}
use Rattle.std.proofs.lemmas.Bool.{and_parts, both_ways, cases_Bool, cases_eq, eq-eqb, eqb-true, le-leb, lt-leb, ne_eqb, not-true}
use Rattle.std.proofs.lemmas.List.{length-map}
use Rattle.meaning.specs.Meaning.{Bytes}
use Rattle.responses.specs.Shown.{shown}
use Rattle.setups.specs.Setups.{SetupLists, faults_of}
use Rattle.tl_messages.specs.Requests.{HeldMessage, WholeRequest, bytes_given, request_of}
use Rattle.scoreboard.specs.Boards.{Board, ClientBoard, coming_on, fails, is_spoiled, place_on}
use Rattle.scoreboard.specs.Flights.{Footprint, InFlight}
use Rattle.scoreboard.specs.Orders.{Entry, Order, access_fails, has_ended, has_failed, meaning_on, reply_beats}
use Rattle.scoreboard.specs.Races.{alone, unless_failed}
use Rattle.scoreboard.specs.RealTime.{completed, heard, is_open, numbered}
use Rattle.scoreboard.specs.declared.Errors.{Errors}
use Rattle.scoreboard.specs.declared.Errors.TheVariants.{Any, Strict}
use Rattle.scoreboard.proofs.real_time.Becoming.{numbered_map}
use Rattle.scoreboard.proofs.real_time.Comings.{early_at}
use Rattle.scoreboard.proofs.real_time.Entries.{place_of}
use Rattle.scoreboard.proofs.real_time.Failures.{fails_flag, fails_keeps}
use Rattle.scoreboard.proofs.real_time.FlightLists.{HaveAllSources}
use Rattle.scoreboard.proofs.real_time.Fronts.{front_at}
use Rattle.scoreboard.proofs.real_time.Lengths.{some_beats}
use Rattle.scoreboard.proofs.real_time.Places.{Place, cases_place, coming_at, due_at, flight_at}
use Rattle.value_orders.specs.Places.{acts_at}
use Rattle.value_orders.proofs.Matches.{Fits, HasOne, IsBegun, IsFlying, IsOpenOf, IsThere, IsWholeAt, acting_as, apart_map, each_map_at, has_come, one_map}
use Rattle.value_orders.proofs.MatchesBegin.{begun_as, fails_is, first_entry, flying_as, place_is}
use Rattle.value_orders.proofs.MatchesKept.{KeepsSpots, begun_live, fits_spots}

-- ---- one that goes on

-- whether it has failed
failed_more : (setup : SetupLists) (errors : Errors) (q : WholeRequest) (entry : Entry)
    → has_failed errors setup (record entry { spoiled = entry.spoiled || is_spoiled errors q }) ≡ (is_spoiled errors q || has_failed errors setup entry)
failed_more setup Strict q entry = refl
failed_more setup Any q entry = grind arith

acts_more : (setup : SetupLists) (errors : Errors) (q : WholeRequest) (entry : Entry) (footprint : Footprint) → footprint ≡ acting_as setup errors entry footprint.determined
    → unless_failed (is_spoiled errors q) footprint
    ≡ acting_as setup errors (record entry { spoiled = entry.spoiled || is_spoiled errors q }) (unless_failed (is_spoiled errors q) footprint).determined
acts_more setup errors q entry footprint is =
    by_spoiled (is_spoiled errors q)
    ∙ ap (λ (b : Bool). record (alone (λ x. false) (acts_at setup errors entry.request) entry.request)
    { failed = b; determined = (unless_failed (is_spoiled errors q) footprint).determined }) (sym (failed_more setup errors q entry))
  where
    by_spoiled : (b : Bool) → unless_failed b footprint
        ≡ record (alone (λ x. false) (acts_at setup errors entry.request) entry.request)
        { failed = b || has_failed errors setup entry; determined = (unless_failed b footprint).determined }
    by_spoiled true = ap (λ (f : Footprint). record f { failed = true; determined = λ x. false }) is
    by_spoiled false = is

heard_spots : (errors : Errors) (client : ℕ) (q : WholeRequest) → KeepsSpots (heard errors client q)
heard_spots errors client q entry = by_test (is_open client entry)
  where
    by_test : (b : Bool) → (if b then record entry { spoiled = entry.spoiled || is_spoiled errors q } else entry)
        ≡ record entry { spoiled = (if b then record entry { spoiled = entry.spoiled || is_spoiled errors q } else entry).spoiled }
    by_test true = refl
    by_test false = refl

-- one that isn't a client's that isn't whole
not_open : (client : ℕ) (entry : Entry) → is_open client entry ≡ false → entry.whole ≡ false → entry.client ≡ client → ⊥
not_open client entry test unwhole same = let is = eq-eqb entry.client client same in grind (arith, test, unwhole, is)

-- one that is whole, and is this request
abbrev pub as_whole : Errors → WholeRequest → Entry → Entry
as_whole errors q entry =
    record entry {
      request = q;
      whole = true;
      spoiled = entry.spoiled || is_spoiled errors q;
      early = false;
      came = if entry.replied then reply_beats q else entry.came;
    }

-- whether the access fails is known from the first beat on
same_fails : (setup : SetupLists) (first q : WholeRequest) → q ≡ record first { bytes = q.bytes; corrupt = q.corrupt } → access_fails setup first ≡ access_fails setup q
same_fails setup first q fields = grind (arith, fields)

-- whether it has failed, by what was known of it before, and what it is now
failed_whole : (setup : SetupLists) (errors : Errors) (client number : ℕ) (q : WholeRequest) (entry : Entry) → q ≡ record entry.request { bytes = q.bytes; corrupt = q.corrupt }
    → (has_failed errors setup entry || has_failed errors setup (first_entry errors client q true number)) ≡ has_failed errors setup (as_whole errors q entry)
failed_whole setup Strict client number q entry fields = refl
failed_whole setup Any client number q entry fields = let same = same_fails setup entry.request q fields in by_three entry.spoiled q.corrupt same
  where
    by_three : (s c : Bool) → access_fails setup entry.request ≡ access_fails setup q
        → ((s || access_fails setup entry.request) || (c || access_fails setup q)) ≡ ((s || c) || access_fails setup q)
    by_three true c same = refl
    by_three false true same = rw same (by_test (access_fails setup q))
      where
        by_test : (b : Bool) → (b || true) ≡ true
        by_test true = refl
        by_test false = refl
    by_three false false same = rw same (by_test (access_fails setup q))
      where
        by_test : (b : Bool) → (b || b) ≡ b
        by_test true = refl
        by_test false = refl

-- the footprint of one that is whole, and had begun
pub coming_acts : (setup : SetupLists) (errors : Errors) (board : Board) (client number : ℕ) (q : WholeRequest) (entry : Entry) (coming : Footprint) → board.errors ≡ errors
    → board.memory.faults ≡ faults_of setup → board.memory.regions ≡ setup.regions → q ≡ record entry.request { bytes = q.bytes; corrupt = q.corrupt }
    → coming ≡ acting_as setup errors entry coming.determined
    → coming_on board q coming ≡ acting_as setup errors (as_whole errors q entry) (coming_on board q coming).determined
coming_acts setup errors board client number q entry coming same faults regions fields is =
    let lone = alone board.indeterminate (place_on board q) q in
    let fails_now = fails_flag (fails board.errors board.memory q) lone refl ∙ fails_is setup errors board q true client number same faults regions in
    let failed : (coming.failed || (unless_failed (fails board.errors board.memory q) lone).failed) ≡ has_failed errors setup (as_whole errors q entry) =
    ap₂ (λ (b c : Bool). b || c) (ap (λ (f : Footprint). f.failed) is) fails_now ∙ failed_whole setup errors client number q entry fields in
    ap (λ (f : Footprint). record f { failed = (coming_on board q coming).failed; determined = (coming_on board q coming).determined })
    (fails_keeps (fails board.errors board.memory q) lone)
    ∙ ap (λ (b : Bool). record (alone (λ x. false) (place_on board q) q) { failed = b; determined = (coming_on board q coming).determined }) failed
    ∙ ap (λ (place : Option ℕ). record (alone (λ x. false) place q)
    { failed = has_failed errors setup (as_whole errors q entry); determined = (coming_on board q coming).determined })
    (place_is setup errors board q same faults regions)

module _ (setup : SetupLists) (errors : Errors) (clients next : List ClientBoard) (now : Order) (client : ℕ) (q : WholeRequest) (fits : Fits setup errors clients now)
    (sources : HaveAllSources next)
    (front_other : (other : ℕ) → (other ≡ client → ⊥) → front_at next other ≡ front_at clients other)
    (early_other : (other : ℕ) → (other ≡ client → ⊥) → early_at next other ≡ early_at clients other)
    (coming_other : (other : ℕ) → (other ≡ client → ⊥) → coming_at next other ≡ coming_at clients other)
    (held : HeldMessage) (front_was : front_at clients client ≡ Some held)
    (fields : (first : WholeRequest) → request_of held ≡ record first { bytes = bytes_given held; corrupt = held.corrupt } → q ≡ record first { bytes = q.bytes; corrupt = q.corrupt }) where
  still_others : (entry : Entry) → (entry.client ≡ client → ⊥) → IsBegun setup errors clients entry → IsBegun setup errors next entry
  still_others entry other is =
      begun_as setup errors clients next entry (front_other entry.client other) (early_other entry.client other) (coming_other entry.client other) is

  -- what the client's front holds is this one's
  its_fields : (entry : Entry) → entry.client ≡ client → IsBegun setup errors clients entry → q ≡ record entry.request { bytes = q.bytes; corrupt = q.corrupt }
  its_fields entry own is =
      let one : Some is.held ≡ Some held = sym is.front ∙ ap (front_at clients) own ∙ front_was in
      let same : is.held ≡ held = cc (one) in
      fields entry.request (subst (λ (h : HeldMessage). request_of h ≡ record entry.request { bytes = bytes_given h; corrupt = h.corrupt }) same is.fields)

  module _ (flights : (place : Place) → flight_at next place ≡ flight_at clients place) (more : HeldMessage) (is_more : q ≡ request_of more) (front_own : front_at next client ≡ Some more)
      (early_own : early_at next client ≡ early_at clients client) (coming_own : coming_at next client ≡ unless_failed (is_spoiled errors q) (coming_at clients client)) where
    heard_begun : (entry : Entry) → entry.whole ≡ false → IsBegun setup errors clients entry → IsBegun setup errors next (heard errors client q entry)
    heard_begun entry unwhole is = by_test (is_open client entry) refl
      where
        its : entry.client ≡ client → IsBegun setup errors next (record entry { spoiled = entry.spoiled || is_spoiled errors q })
        its own =
            record {
              held = more;
              front = ap (front_at next) own ∙ front_own;
              fields = sym is_more ∙ its_fields entry own is ∙ ap (λ (m : WholeRequest). record entry.request { bytes = m.bytes; corrupt = m.corrupt }) is_more;
              none_came = is.none_came;
              any = is.any;
              early = ap (early_at next) own ∙ early_own ∙ sym (ap (early_at clients) own) ∙ is.early;
              replied = is.replied ∙ ap (has_come errors) (ap (early_at clients) own ∙ sym early_own ∙ sym (ap (early_at next) own));
              acts = subst (λ (f : Footprint). f ≡ acting_as setup errors (record entry { spoiled = entry.spoiled || is_spoiled errors q }) f.determined)
                  (sym (ap (coming_at next) own ∙ coming_own))
                  (acts_more setup errors q entry (coming_at clients client)
                  (subst (λ (f : Footprint). f ≡ acting_as setup errors entry f.determined) (ap (coming_at clients) own) is.acts));
            }

        by_test : (b : Bool) → is_open client entry ≡ b → IsBegun setup errors next (heard errors client q entry)
        by_test true test = rw test (its (eqb-true entry.client client (and_parts (entry.client == client) (not entry.whole) test).0))
        by_test false test = rw test (still_others entry (not_open client entry test unwhole) is)

    heard_flies : (entry : Entry) → IsFlying setup errors clients entry → has_ended entry ≡ false → entry.whole ≡ true → IsFlying setup errors next (heard errors client q entry)
    heard_flies entry is live whole =
        let closed : is_open client entry ≡ false = grind (arith, whole) in
        rw closed (flying_as setup errors clients next entry (flights (place_of entry)) is)

    pub fits_heard : Fits setup errors next (map (heard errors client q) now)
    fits_heard =
        fits_spots setup errors clients next now (heard errors client q) (heard_spots errors client q) fits sources
        (λ k small whole live is. heard_flies (numbered now k) is live whole) (λ k small unwhole is. heard_begun (numbered now k) unwhole is)
        (λ place flight is. (flight, sym (flights place) ∙ is))
        (λ other its is.
        elim (cases_eq other client) [
          | inl same ↦ (held, ap (front_at clients) same ∙ front_was)
          | inr differ ↦ (its, sym (front_other other differ) ∙ is)
        ])
        (λ other none.
        elim (cases_eq other client) [
          | inl same ↦ absurd (cc (sym none ∙ ap (front_at next) same ∙ front_own))
          | inr differ ↦ early_other other differ ∙ fits.early other (sym (front_other other differ) ∙ none)
        ])

  -- ---- one that is whole

  module _ (came_before : Bool) (has : has_come errors (early_at clients client) ≡ came_before)
      (front_none : front_at next client ≡ None) (early_none : early_at next client ≡ None)
      (flight_other : (place : Place) → (came_before ≡ false → place ≡ due_at client q.source → ⊥) → flight_at next place ≡ flight_at clients place)
      (made : InFlight) (flight_own : came_before ≡ false → flight_at next (due_at client q.source) ≡ Some made)
      (source_own : made.source ≡ q.source)
      (acts_own : (entry : Entry) → entry.client ≡ client → IsBegun setup errors clients entry
      → made.footprint ≡ acting_as setup errors (as_whole errors q entry) made.footprint.determined)
      (made_of : Bytes) (left_own : made.beats ≡ shown q (meaning_on setup q made_of).reply) where
    abbrev done : Entry → Entry
    done entry = as_whole errors q entry

    -- one that was this client's, and not whole
    record WasBegun (entry : Entry) : Type 0 where
      own : entry.client ≡ client
      unwhole : entry.whole ≡ false
      is : IsBegun setup errors clients entry
      live : has_ended entry ≡ false
      replied : entry.replied ≡ came_before
      source : q.source ≡ entry.request.source
      changed : completed errors client q entry ≡ done entry

    was_begun : (entry : Entry) → IsThere setup errors clients entry → is_open client entry ≡ true → WasBegun entry
    was_begun entry there test =
        let parts = and_parts (entry.client == client) (not entry.whole) test in
        let own = eqb-true entry.client client parts.0 in
        let unwhole = not-true entry.whole parts.1 in
        let is = there.begun unwhole in
        record {
          own = own;
          unwhole = unwhole;
          is = is;
          live = begun_live setup errors clients entry is;
          replied = is.replied ∙ ap (λ c. has_come errors (early_at clients c)) own ∙ has;
          source = ap (λ (r : WholeRequest). r.source) (its_fields entry own is);
          changed = rw test refl;
        }

    same_closed : (entry : Entry) → is_open client entry ≡ false → completed errors client q entry ≡ entry
    same_closed entry test = rw test refl

    -- one that hasn't ended then
    record IsAlive (entry : Entry) : Type 0 where
      was : has_ended entry ≡ false
      there : place_of (completed errors client q entry) ≡ place_of entry

    -- it is at its place
    done_at : (entry : Entry) → WasBegun entry → came_before ≡ false → place_of (done entry) ≡ due_at client q.source
    done_at entry was fresh = grind (arith, was.replied, fresh, was.is.none_came, was.own)

    begun_at_place : (entry : Entry) → WasBegun entry → place_of entry ≡ due_at client q.source
    begun_at_place entry was = grind (arith, was.is.none_came, was.own, was.source)

    done_ended : (entry : Entry) → WasBegun entry → came_before ≡ true → has_ended (done entry) ≡ true
    done_ended entry was came = rw (was.replied, came) (le-leb (reply_beats q) (reply_beats q) (omega (arith)))

    done_live : (entry : Entry) → WasBegun entry → came_before ≡ false → has_ended (done entry) ≡ false
    done_live entry was fresh = rw (was.replied, fresh, was.is.none_came) (lt-leb (reply_beats q) 0 (some_beats q))

    is_alive : (entry : Entry) → IsThere setup errors clients entry → has_ended (completed errors client q entry) ≡ false → IsAlive entry
    is_alive entry there live =
        elim (cases_Bool (is_open client entry)) [
          | inl test ↦
              let was = was_begun entry there test in
              elim (cases_Bool came_before) [
                | inl came ↦ absurd (cc (sym live ∙ ap has_ended was.changed ∙ done_ended entry was came))
                | inr fresh ↦ record { was = was.live; there = ap place_of was.changed ∙ done_at entry was fresh ∙ sym (begun_at_place entry was) }
              ]
          | inr test ↦ record { was = sym (ap has_ended (same_closed entry test)) ∙ live; there = ap place_of (same_closed entry test) }
        ]

    -- the one that this client had begun
    open_one : HasOne (IsOpenOf client) now
    open_one = fits.fronts client held front_was

    open_was : WasBegun (numbered now open_one.number)
    open_was =
        was_begun (numbered now open_one.number) (fits.each open_one.number open_one.small)
        (let own = eq-eqb (numbered now open_one.number).client client open_one.holds.1 in let unwhole = open_one.holds.0 in grind (arith, own, unwhole))

    -- no whole one was at its place
    flight_still : (k : ℕ) → k < length now → (numbered now k).whole ≡ true → has_ended (numbered now k) ≡ false
        → flight_at next (place_of (numbered now k)) ≡ flight_at clients (place_of (numbered now k))
    flight_still k small whole live =
        flight_other (place_of (numbered now k)) (λ fresh at.
        let same = fits.apart k open_one.number small open_one.small live open_was.live (at ∙ sym (begun_at_place (numbered now open_one.number) open_was)) in
        both_ways (numbered now k).whole (ap (λ i. (numbered now i).whole) same ∙ open_was.unwhole) whole)

    done_flies : (entry : Entry) → WasBegun entry → came_before ≡ false → IsFlying setup errors next (done entry)
    done_flies entry was fresh =
        let none : (done entry).came ≡ 0 = rw (was.replied, fresh) was.is.none_came in
        record {
          flight = made;
          there = ap (flight_at next) (done_at entry was fresh) ∙ flight_own fresh;
          source = source_own;
          acts = acts_own entry was.own was.is;
          made_of = made_of;
          left = left_own ∙ sym (ap (λ n. drop n (shown q (meaning_on setup q made_of).reply)) none);
        }

    done_there : (k : ℕ) → k < length now → IsThere setup errors next (completed errors client q (numbered now k))
    done_there k small = by_test (is_open client entry) refl
      where
        entry : Entry
        entry = numbered now k

        there : IsThere setup errors clients entry
        there = fits.each k small

        whole_one : WasBegun entry → IsThere setup errors next (done entry)
        whole_one was =
            record {
              flies = λ whole live.
                  elim (cases_Bool came_before) [
                    | inl came ↦ absurd (both_ways (has_ended (done entry)) live (done_ended entry was came))
                    | inr fresh ↦ done_flies entry was fresh
                  ];
              begun = λ unwhole. absurd (cc (unwhole));
            }

        by_test : (b : Bool) → is_open client entry ≡ b → IsThere setup errors next (completed errors client q entry)
        by_test true test = let was = was_begun entry there test in subst (IsThere setup errors next) (sym was.changed) (whole_one was)
        by_test false test =
            subst (IsThere setup errors next) (sym (same_closed entry test))
            (record {
              flies = λ whole live. flying_as setup errors clients next entry (flight_still k small whole live) (there.flies whole live);
              begun = λ unwhole. still_others entry (not_open client entry test unwhole) (there.begun unwhole);
            })

    -- a whole one stays as it is
    whole_stays : (entry : Entry) → entry.whole ≡ true → completed errors client q entry ≡ entry
    whole_stays entry whole = same_closed entry (grind (arith, whole))

    pub fits_completed : Fits setup errors next (map (completed errors client q) now)
    fits_completed =
        record {
          sources = sources;
          each = each_map_at (IsThere setup errors next) (completed errors client q) now done_there;
          apart = apart_map (completed errors client q) now (λ i j first other live alive same.
              let one = is_alive (numbered now i) (fits.each i first) live in
              let two = is_alive (numbered now j) (fits.each j other) alive in
              fits.apart i j first other one.was two.was (sym one.there ∙ same ∙ two.there));
          flights = flights_done;
          fronts = λ other its is.
              elim (cases_eq other client) [
                | inl same ↦ absurd (cc (sym front_none ∙ ap (front_at next) (sym same) ∙ is))
                | inr differ ↦
                    one_map (IsOpenOf other) (IsOpenOf other) (completed errors client q) now
                    (λ k small at.
                    subst (IsOpenOf other) (sym (same_closed (numbered now k) (not_its (numbered now k) (λ own. differ (sym at.1 ∙ own))))) at)
                    (fits.fronts other its (sym (front_other other differ) ∙ is))
              ];
          early = λ other none.
              elim (cases_eq other client) [
                | inl same ↦ ap (early_at next) same ∙ early_none
                | inr differ ↦ early_other other differ ∙ fits.early other (sym (front_other other differ) ∙ none)
              ];
        }
      where
        not_its : (entry : Entry) → (entry.client ≡ client → ⊥) → is_open client entry ≡ false
        not_its entry other = let test = ne_eqb entry.client client other in grind (arith, test)

        old_one : (place : Place) (flight : InFlight) → (came_before ≡ false → place ≡ due_at client q.source → ⊥) → flight_at next place ≡ Some flight
            → HasOne (IsWholeAt place) (map (completed errors client q) now)
        old_one place flight away is =
            one_map (IsWholeAt place) (IsWholeAt place) (completed errors client q) now
            (λ k small at. subst (IsWholeAt place) (sym (whole_stays (numbered now k) at.0)) at) (fits.flights place flight (sym (flight_other place away) ∙ is))

        new_one : (place : Place) → came_before ≡ false → place ≡ due_at client q.source → HasOne (IsWholeAt place) (map (completed errors client q) now)
        new_one place fresh at =
            record {
              number = open_one.number;
              small = omega (arith, open_one.small, length-map now (completed errors client q));
              holds = subst (IsWholeAt place) (sym (numbered_map (completed errors client q) now open_one.number open_one.small ∙ open_was.changed)) (
                refl,
                record {
                  live = done_live (numbered now open_one.number) open_was fresh;
                  there = done_at (numbered now open_one.number) open_was fresh ∙ sym at;
                },
              );
            }

        flights_done : (place : Place) (flight : InFlight) → flight_at next place ≡ Some flight → HasOne (IsWholeAt place) (map (completed errors client q) now)
        flights_done place flight is =
            elim (cases_Bool came_before) [
              | inl came ↦ old_one place flight (λ fresh. absurd (both_ways came_before fresh came)) is
              | inr fresh ↦
                  elim (cases_place place (due_at client q.source)) [
                    | inl same ↦ new_one place fresh same
                    | inr differ ↦ old_one place flight (λ again. differ) is
                  ]
            ]
