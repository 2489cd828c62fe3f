-- A board and its history still match where a beat on channel D is counted.
use Rattle.std.proofs.Common.{◌≡◌, ℕ, ◌+◌, ◌<◌, ◌==◌, Bool, true, false, ◌&&◌, List, drop, map, set, length, Option, Some, None, IfSome, if◌then◌else◌, inl, inr, refl, sym, ◌∙◌, ap, subst, arith}
use Rattle.std.specs.Prelude.{is_some, slice_get}
use Rattle.std.specs.List.{list_any}
use Rattle.std.proofs.lemmas.Bool.{and_parts, both_ways, cases_Bool, cases_eq, eq-eqb, eqb-true, false_from_ne_true}
use Rattle.std.proofs.lemmas.Bool.Decides.{nat_tests}
use Rattle.std.proofs.lemmas.List.{drop-drop}
use Rattle.meaning.specs.Meaning.{acknowledged}
use Rattle.responses.specs.Shown.{Reply, beat_without_data, shown}
use Rattle.setups.specs.Setups.{SetupLists}
use Rattle.tl_messages.specs.Requests.{HeldMessage, WholeRequest}
use Rattle.tl_messages.specs.declared.DBeat.{DBeat}
use Rattle.scoreboard.specs.Boards.{ClientBoard, early_after}
use Rattle.scoreboard.specs.Flights.{Footprint, InFlight, begun_after, flights_after, is_of_source, next_reply, with_left}
use Rattle.scoreboard.specs.Orders.{Entry, Order, begun_to, has_ended, is_due, meaning_on, with_beat}
use Rattle.scoreboard.specs.RealTime.{numbered}
use Rattle.scoreboard.specs.declared.Errors.{Errors}
use Rattle.scoreboard.proofs.real_time.Comings.{early_at, early_in}
use Rattle.scoreboard.proofs.real_time.Entries.{place_of}
use Rattle.scoreboard.proofs.real_time.FlightLists.{none_found}
use Rattle.scoreboard.proofs.real_time.Fronts.{AreFronts, front_at, front_of}
use Rattle.scoreboard.proofs.real_time.Lengths.{left_some, live_left, next_live, some_left}
use Rattle.scoreboard.proofs.real_time.Places.{HaveSources, Place, begun_at, cases_place, coming_at, coming_in, flight_at, flight_in, flights_in}
use Rattle.scoreboard.proofs.real_time.ReplyMoves.{AreMoved, counts, goes_on, place_next, stays}
use Rattle.scoreboard.proofs.real_time.ReplySeen.{are_moved, next_is, sources_after}
use Rattle.scoreboard.proofs.real_time.ReplySteps.{IsAt, due_place, next_at, place_due}
use Rattle.value_orders.proofs.Matches.{Fits, HasOne, IsBegun, IsFlying, IsOpenOf, IsThere, IsWholeAt, acting_as, apart_map, each_map_at, has_come, one_map}
use Rattle.value_orders.proofs.MatchesBegin.{begun_as, flying_as}
use Rattle.value_orders.proofs.MatchesTests.{acts_counted, any_one, begun_board, whole_begun}
use Rattle.value_orders.proofs.MatchesRequests.{IsSet, coming_set, early_set, flights_set, front_set, is_set, sources_set}

module _ (setup : SetupLists) (errors : Errors) (clients : List ClientBoard) (now : Order) (fits : Fits setup errors clients now) (number : ℕ) where
  module _ (source : ℕ) (client changed : ClientBoard) (next : List ClientBoard) (fronts : AreFronts clients) (there : slice_get clients number ≡ Some client)
      (is : IsSet clients next number changed) (flights_now : changed.flights ≡ flights_after client.flights source) (front_now : changed.front ≡ client.front)
      (coming_now : changed.coming ≡ client.coming) (early_now : changed.early ≡ early_after client source) where
    abbrev begun : Bool
    begun = list_any (begun_to number) now

    abbrev from : Place
    from = next_at begun number source

    abbrev moved : List ClientBoard
    moved = set clients number (record client { flights = flights_after client.flights source })

    same_flights : (place : Place) → flight_at next place ≡ flight_at moved place
    same_flights place =
        let its = is_set clients number client (record client { flights = flights_after client.flights source }) there in
        flights_set moved next number changed (record { own = is.own; other = λ other differ. is.other other differ ∙ sym (its.other other differ) })
        (record client { flights = flights_after client.flights source }) its.own flights_now place

    are : AreMoved number source from (flight_at clients) (flight_at next)
    are =
        let old = are_moved clients number source client there begun (begun_board setup errors clients now fits number) (fits.sources number client there) in
        record {
          home = old.home;
          next = same_flights (begun_at number) ∙ old.next;
          gone = λ away. same_flights from ∙ old.gone away;
          others = λ place away apart. same_flights place ∙ old.others place away apart;
        }

    next_there : flight_at clients from ≡ next_reply client.flights source
    next_there = next_is clients number source client there begun (begun_board setup errors clients now fits number)

    -- ---- one for which the beat doesn't count

    begins_there : (entry : Entry) (b : Bool) → place_of entry ≡ next_at b number source → (entry.request.source == source) ≡ false → place_of entry ≡ begun_at number
    begins_there entry true at other = at
    begins_there entry false at other = absurd (grind (arith, nat_tests, at, other))

    flight_still : (k : ℕ) → k < length now → counts begun number source (numbered now k) ≡ false → (numbered now k).whole ≡ true → has_ended (numbered now k) ≡ false
        → flight_at next (place_of (numbered now k)) ≡ flight_at clients (place_of (numbered now k))
    flight_still k small none whole live =
        elim (cases_place (place_of entry) from) [
          | inl same ↦
              let flies = (fits.each k small).flies whole live in
              let due = place_due begun number source entry whole (record { live = live; there = same }) in
              let other : (entry.request.source == source) ≡ false = sym (ap (λ (b : Bool). b && entry.request.source == source) due) ∙ none in
              let begins = begins_there entry begun same other in
              let its : (flies.flight.source == source) ≡ false = ap (λ n. n == source) flies.source ∙ other in
              ap (flight_at next) begins ∙ are.next ∙ ap (λ (o : Option InFlight). begun_after o source) (sym (ap (flight_at clients) same) ∙ flies.there)
              ∙ rw its (sym flies.there)
          | inr differ ↦
              elim (cases_place (place_of entry) (begun_at number)) [
                | inl begins ↦
                    let has = any_one (begun_to number) now (record { number = k; small = small; holds = whole_begun setup errors clients now fits number entry (whole, record { live = live; there = begins }) }) in
                    absurd (differ (begins ∙ sym (ap (λ (b : Bool). next_at b number source) has)))
                | inr apart ↦ are.others (place_of entry) differ apart
              ]
        ]
      where
        entry : Entry
        entry = numbered now k

    front_still : (other : ℕ) → front_at next other ≡ front_at clients other
    front_still other =
        elim (cases_eq other number) [
          | inl same ↦ ap (front_at next) same ∙ ap front_of is.own ∙ front_now ∙ sym (ap front_of there) ∙ sym (ap (front_at clients) same)
          | inr differ ↦ front_set clients next number changed is other differ
        ]

    coming_still : (other : ℕ) → coming_at next other ≡ coming_at clients other
    coming_still other =
        elim (cases_eq other number) [
          | inl same ↦ ap (coming_at next) same ∙ ap coming_in is.own ∙ coming_now ∙ sym (ap coming_in there) ∙ sym (ap (coming_at clients) same)
          | inr differ ↦ coming_set clients next number changed is other differ
        ]

    early_own : early_at next number ≡ early_after client source
    early_own = ap early_in is.own ∙ early_now

    -- the reply to one that isn't whole may still come
    early_still : (entry : Entry) → IsBegun setup errors clients entry → counts begun number source entry ≡ false → early_at next entry.client ≡ early_at clients entry.client
    early_still entry at none =
        elim (cases_eq entry.client number) [
          | inl same ↦
              let here : client.early ≡ (if entry.early then Some (beat_without_data entry.request acknowledged) else None) =
              sym (ap early_in there) ∙ sym (ap (early_at clients) same) ∙ at.early in
              ap (early_at next) same ∙ early_own ∙ by_next (next_reply client.flights source) refl entry.early refl here same ∙ sym (ap early_in there)
              ∙ sym (ap (early_at clients) same)
          | inr differ ↦ early_set clients next number changed is entry.client differ
        ]
      where
        by_next : (o : Option InFlight) → next_reply client.flights source ≡ o → (may : Bool) → entry.early ≡ may
            → client.early ≡ (if may then Some (beat_without_data entry.request acknowledged) else None) → entry.client ≡ number → early_after client source ≡ client.early
        by_next (Some flight) found may early here same = rw found refl
        by_next None found false early here same = rw (found, here) refl
        by_next None found true early here same = by_source (entry.request.source == source) refl
          where
            not_begun : begun ≡ false
            not_begun = begun_board setup errors clients now fits number ∙ ap (λ (o : Option ClientBoard). is_some (flights_in o).begun) there ∙ grind (arith, found)

            by_source : (b : Bool) → (entry.request.source == source) ≡ b → early_after client source ≡ client.early
            by_source false other = rw (found, here, other) refl
            by_source true own =
                let client_test = eq-eqb entry.client number same in
                let no_beat = at.none_came in
                absurd (grind (arith, none, not_begun, own, client_test, no_beat, early))

    -- ---- one for which it counts

    flying_next : (entry : Entry) → IsFlying setup errors clients entry → entry.whole ≡ true → counts begun number source entry ≡ true
        → has_ended (record entry { came = entry.came + 1 }) ≡ false → IsFlying setup errors next (record entry { came = entry.came + 1 })
    flying_next entry was whole counted live =
        record {
          flight = record was.flight { beats = drop 1 was.flight.beats };
          there = ap (flight_at next) (ap place_of (sym (goes_on begun number source entry whole counted)) ∙ place_next begun number source entry whole counted) ∙ are.next
              ∙ ap (λ (o : Option InFlight). begun_after o source) (sym (ap (flight_at clients) at.there) ∙ was.there) ∙ rw own refl
              ∙ some_left was.flight (drop 1 was.flight.beats)
              (subst (λ (beats : List DBeat). 0 < length beats) (sym left) (live_left (record entry { came = entry.came + 1 }) reply live));
          source = was.source;
          acts = was.acts ∙ sym (acts_counted setup errors entry entry.early entry.replied (entry.came + 1) was.flight.footprint.determined);
          made_of = was.made_of;
          left = left;
        }
      where
        at : IsAt from entry
        at = due_place begun number source entry (and_parts (is_due begun number source entry) (entry.request.source == source) counted).0

        own : (was.flight.source == source) ≡ true
        own = ap (λ n. n == source) was.source ∙ (and_parts (is_due begun number source entry) (entry.request.source == source) counted).1

        reply : Reply
        reply = (meaning_on setup entry.request was.made_of).reply

        left : drop 1 was.flight.beats ≡ drop (entry.came + 1) (shown entry.request reply)
        left = ap (λ (beats : List DBeat). drop 1 beats) was.left ∙ drop-drop 1 entry.came (shown entry.request reply)

    -- one whose reply comes before it is whole
    begun_next : (entry : Entry) → IsBegun setup errors clients entry → entry.whole ≡ false → counts begun number source entry ≡ true
        → IsBegun setup errors next (record entry { early = false; replied = true })
    begun_next entry at unwhole counted =
        let none = gone early_here found in
        record {
          held = at.held;
          front = front_still entry.client ∙ at.front;
          fields = at.fields;
          none_came = at.none_came;
          any = λ may. absurd (cc (may));
          early = none;
          replied = sym (ap (has_come errors) none ∙ ap (λ (e : Errors). has_come e None) (at.any early_here));
          acts = subst (λ (f : Footprint). f ≡ acting_as setup errors (record entry { early = false; replied = true }) f.determined) (sym (coming_still entry.client))
              (at.acts ∙ sym (acts_counted setup errors entry false true entry.came (coming_at clients entry.client).determined));
        }
      where
        parts : (is_due begun number source entry ≡ true) × ((entry.request.source == source) ≡ true)
        parts = and_parts (is_due begun number source entry) (entry.request.source == source) counted

        own : entry.client ≡ number
        own = eqb-true entry.client number (and_parts (entry.client == number) _ parts.0).0

        not_begun : begun ≡ false
        not_begun = false_from_ne_true begun (λ has. let none = at.none_came in let due = parts.0 in grind (arith, has, none, due))

        early_here : entry.early ≡ true
        early_here = let due = parts.0 in let none = not_begun in grind (arith, due, none, unwhole)

        -- nothing in flight is of its source
        found : next_reply client.flights source ≡ None
        found = by_front client.front refl (fronts number client there).free
          where
            by_front : (o : Option HeldMessage) → client.front ≡ o → IfSome o (λ held. list_any (is_of_source held.source) client.flights.due ≡ false)
                → next_reply client.flights source ≡ None
            by_front None none free = absurd (cc (sym none ∙ sym (ap front_of there) ∙ sym (ap (front_at clients) own) ∙ at.front))
            by_front (Some held) some free =
                let one : Some at.held ≡ Some held = sym at.front ∙ ap (front_at clients) own ∙ ap front_of there ∙ some in
                let same : at.held ≡ held = cc (one) in
                let its : held.source ≡ source =
                ap (λ (h : HeldMessage). h.source) (sym same) ∙ ap (λ (r : WholeRequest). r.source) at.fields ∙ eqb-true entry.request.source source parts.1 in
                let nothing = none_found source client.flights.due (subst (λ n. list_any (is_of_source n) client.flights.due ≡ false) its free) in
                sym next_there ∙ ap (λ (b : Bool). flight_at clients (next_at b number source)) not_begun
                ∙ ap (λ (o : Option ClientBoard). flight_in (flights_in o) (Some source)) there ∙ nothing

        gone : entry.early ≡ true → next_reply client.flights source ≡ None → early_at next entry.client ≡ None
        gone may nothing =
            let here : client.early ≡ Some (beat_without_data entry.request acknowledged) =
            sym (ap early_in there) ∙ sym (ap (early_at clients) own) ∙ at.early ∙ rw may refl in
            let same = parts.1 in
            ap (early_at next) own ∙ early_own ∙ rw (nothing, here, same) refl

    -- ---- each entry

    abbrev step : Entry → Entry
    step entry = with_beat begun number source entry

    replies : (entry : Entry) → entry.whole ≡ false → counts begun number source entry ≡ true → step entry ≡ record entry { early = false; replied = true }
    replies entry unwhole counted = rw (counted, unwhole) refl

    step_there : (k : ℕ) → k < length now → IsThere setup errors next (with_beat begun number source (numbered now k))
    step_there k small =
        elim (cases_Bool (counts begun number source entry)) [
          | inl counted ↦
              elim (cases_Bool entry.whole) [
                | inl whole ↦
                    subst (IsThere setup errors next) (sym (goes_on begun number source entry whole counted))
                    (record {
                      flies = λ again live.
                          flying_next entry (at.flies whole (due_place begun number source entry (and_parts (is_due begun number source entry) (entry.request.source == source) counted).0).live)
                          whole counted live;
                      begun = λ unwhole. absurd (both_ways entry.whole unwhole whole);
                    })
                | inr unwhole ↦
                    subst (IsThere setup errors next) (sym (replies entry unwhole counted))
                    (record {
                      flies = λ whole. absurd (both_ways entry.whole unwhole whole);
                      begun = λ again. begun_next entry (at.begun unwhole) unwhole counted;
                    })
              ]
          | inr none ↦
              subst (IsThere setup errors next) (sym (stays begun number source entry none))
              (record {
                flies = λ whole live. flying_as setup errors clients next entry (flight_still k small none whole live) (at.flies whole live);
                begun = λ unwhole.
                    begun_as setup errors clients next entry (front_still entry.client) (early_still entry (at.begun unwhole) none) (coming_still entry.client) (at.begun unwhole);
              })
        ]
      where
        entry : Entry
        entry = numbered now k

        at : IsThere setup errors clients entry
        at = fits.each k small

    -- what becomes of one: its reply goes on, or it is where it was
    data Moves (entry : Entry) : Type 0 where
      Goes : entry.whole ≡ true → counts begun number source entry ≡ true → IsAt from entry → place_of (step entry) ≡ begun_at number → Moves entry
      Stays : has_ended (step entry) ≡ has_ended entry → place_of (step entry) ≡ place_of entry → Moves entry

    moves : (entry : Entry) → Moves entry
    moves entry =
        elim (cases_Bool (counts begun number source entry)) [
          | inl counted ↦
              elim (cases_Bool entry.whole) [
                | inl whole ↦
                    Goes whole counted (due_place begun number source entry (and_parts (is_due begun number source entry) (entry.request.source == source) counted).0)
                    (place_next begun number source entry whole counted)
                | inr unwhole ↦ let same = replies entry unwhole counted in Stays (ap has_ended same) (ap place_of same)
              ]
          | inr none ↦ let same = stays begun number source entry none in Stays (ap has_ended same) (ap place_of same)
        ]

    -- one that has begun is the one to which the beat is due
    at_from : (k : ℕ) → k < length now → has_ended (numbered now k) ≡ false → place_of (numbered now k) ≡ begun_at number → place_of (numbered now k) ≡ from
    at_from k small live at =
        let entry = numbered now k in
        elim (cases_Bool entry.whole) [
          | inl whole ↦
              let has = any_one (begun_to number) now (record { number = k; small = small; holds = whole_begun setup errors clients now fits number entry (whole, record { live = live; there = at }) }) in
              at ∙ sym (ap (λ (b : Bool). next_at b number source) has)
          | inr unwhole ↦ let none = ((fits.each k small).begun unwhole).none_came in absurd (grind (arith, at, none))
        ]

    apart_step : (i j : ℕ) → i < length now → j < length now → has_ended (step (numbered now i)) ≡ false → has_ended (step (numbered now j)) ≡ false
        → place_of (step (numbered now i)) ≡ place_of (step (numbered now j)) → i ≡ j
    apart_step i j first other live alive same = by_moves (moves (numbered now i)) (moves (numbered now j))
      where
        by_moves : Moves (numbered now i) → Moves (numbered now j) → i ≡ j
        by_moves (Goes whole counted at to) (Goes its_whole its_counted its_at its_to) =
            fits.apart i j first other at.live its_at.live (at.there ∙ sym its_at.there)
        by_moves (Goes whole counted at to) (Stays ends stands) =
            let was = sym ends ∙ alive in
            fits.apart i j first other at.live was (at.there ∙ sym (at_from j other was (sym stands ∙ sym same ∙ to)))
        by_moves (Stays ends stands) (Goes whole counted at to) =
            let was = sym ends ∙ live in
            fits.apart i j first other was at.live (at_from i first was (sym stands ∙ same ∙ to) ∙ sym at.there)
        by_moves (Stays ends stands) (Stays its_ends its_stands) =
            fits.apart i j first other (sym ends ∙ live) (sym its_ends ∙ alive) (sym stands ∙ same ∙ its_stands)

    -- ---- what is in flight then

    -- one more beat came of it, and some are left
    still_left : (k : ℕ) → k < length now → (numbered now k).whole ≡ true → counts begun number source (numbered now k) ≡ true → (flight : InFlight)
        → flight_at next (begun_at number) ≡ Some flight → IsWholeAt (begun_at number) (step (numbered now k))
    still_left k small whole counted flight is =
        let entry = numbered now k in
        let parts = and_parts (is_due begun number source entry) (entry.request.source == source) counted in
        let at = due_place begun number source entry parts.0 in
        let was = (fits.each k small).flies whole at.live in
        let own : (was.flight.source == source) ≡ true = ap (λ n. n == source) was.source ∙ parts.1 in
        let after : with_left was.flight (drop 1 was.flight.beats) ≡ Some flight =
        sym (are.next ∙ ap (λ (o : Option InFlight). begun_after o source) (sym (ap (flight_at clients) at.there) ∙ was.there) ∙ rw own refl) ∙ is in
        let more = left_some was.flight (drop 1 was.flight.beats) (ap (λ (o : Option InFlight). is_some o) after) in
        let live = next_live entry (meaning_on setup entry.request was.made_of).reply (subst (λ (beats : List DBeat). 0 < length (drop 1 beats)) was.left more) in
        subst (IsWholeAt (begun_at number)) (sym (goes_on begun number source entry whole counted)) (
          whole,
          record { live = live; there = ap place_of (sym (goes_on begun number source entry whole counted)) ∙ place_next begun number source entry whole counted },
        )

    old_step : (place : Place) (k : ℕ) → counts begun number source (numbered now k) ≡ false → IsWholeAt place (numbered now k) → IsWholeAt place (step (numbered now k))
    old_step place k none at = subst (IsWholeAt place) (sym (stays begun number source (numbered now k) none)) at

    own_flight : (flight : InFlight) → flight_at next (begun_at number) ≡ Some flight → HasOne (IsWholeAt (begun_at number)) (map (with_beat begun number source) now)
    own_flight flight is = by_due (flight_at clients from) refl
      where
        by_due : (o : Option InFlight) → flight_at clients from ≡ o → HasOne (IsWholeAt (begun_at number)) (map (with_beat begun number source) now)
        by_due None nothing = absurd (cc (sym (are.next ∙ ap (λ (o : Option InFlight). begun_after o source) nothing) ∙ is))
        by_due (Some due) here =
            one_map (IsWholeAt from) (IsWholeAt (begun_at number)) (with_beat begun number source) now
            (λ k small at.
            elim (cases_Bool (counts begun number source (numbered now k))) [
              | inl counted ↦ still_left k small at.0 counted flight is
              | inr none ↦
                  let counts_due = place_due begun number source (numbered now k) at.0 at.1 in
                  let other : ((numbered now k).request.source == source) ≡ false =
                  sym (ap (λ (b : Bool). b && (numbered now k).request.source == source) counts_due) ∙ none in
                  old_step (begun_at number) k none (at.0, record { live = at.1.live; there = begins_there (numbered now k) begun at.1.there other })
            ]) (fits.flights from due here)

    all_flights : (place : Place) (flight : InFlight) → flight_at next place ≡ Some flight → HasOne (IsWholeAt place) (map (with_beat begun number source) now)
    all_flights place flight is =
        elim (cases_place place (begun_at number)) [
          | inl same ↦
              subst (λ p. HasOne (IsWholeAt p) (map (with_beat begun number source) now)) (sym same) (own_flight flight (sym (ap (flight_at next) same) ∙ is))
          | inr apart ↦
              elim (cases_place place from) [
                | inl same ↦ absurd (cc (sym (are.gone (λ its. apart (same ∙ its))) ∙ sym (ap (flight_at next) same) ∙ is))
                | inr away ↦
                    one_map (IsWholeAt place) (IsWholeAt place) (with_beat begun number source) now
                    (λ k small at.
                    old_step place k
                    (false_from_ne_true (counts begun number source (numbered now k)) (λ counted.
                    away (sym at.1.there
                    ∙ (due_place begun number source (numbered now k)
                    (and_parts (is_due begun number source (numbered now k)) ((numbered now k).request.source == source) counted).0).there))) at)
                    (fits.flights place flight (sym (are.others place away apart) ∙ is))
              ]
        ]

    pub fits_counted : Fits setup errors next (map (with_beat (list_any (begun_to number) now) number source) now)
    fits_counted =
        record {
          sources = sources_set clients next number changed is fits.sources
              (subst HaveSources (sym flights_now) (sources_after source client.flights (fits.sources number client there)));
          each = each_map_at (IsThere setup errors next) (with_beat begun number source) now step_there;
          apart = apart_map (with_beat begun number source) now apart_step;
          flights = all_flights;
          fronts = λ other held its.
              one_map (IsOpenOf other) (IsOpenOf other) (with_beat begun number source) now (λ k small at. open_step other (numbered now k) at)
              (fits.fronts other held (sym (front_still other) ∙ its));
          early = λ other none.
              let was = fits.early other (sym (front_still other) ∙ none) in
              elim (cases_eq other number) [
                | inl same ↦
                    let here : client.early ≡ None = sym (ap early_in there) ∙ sym (ap (early_at clients) same) ∙ was in
                    ap (early_at next) same ∙ early_own ∙ never (next_reply client.flights source) refl here
                | inr differ ↦ early_set clients next number changed is other differ ∙ was
              ];
        }
      where
        open_step : (other : ℕ) (entry : Entry) → IsOpenOf other entry → IsOpenOf other (step entry)
        open_step other entry at =
            elim (cases_Bool (counts begun number source entry)) [
              | inl counted ↦ subst (IsOpenOf other) (sym (replies entry at.0 counted)) at
              | inr none ↦ subst (IsOpenOf other) (sym (stays begun number source entry none)) at
            ]

        never : (o : Option InFlight) → next_reply client.flights source ≡ o → client.early ≡ None → early_after client source ≡ None
        never None found none = rw (found, none) refl
        never (Some flight) found none = rw (found, none) refl
