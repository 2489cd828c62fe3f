-- A board and its history still match where a reply that ended early is over, and with any beat on channel D.
use Rattle.std.proofs.Common.{◌≡◌, ℕ, ◌<◌, ◌==◌, suc, Bool, true, false, ◌&&◌, not, List, [], ◌∷◌, map, set, length, Option, Some, None, inl, inr, refl, sym, ◌∙◌, ap, ap₂, subst, arith}
use Rattle.std.specs.Prelude.{is_some, slice_get}
use Rattle.std.specs.List.{find, list_any}
use Rattle.std.proofs.lemmas.Bool.{and_parts, both_ways, cases_Bool, cases_eq, false_from_ne_true, le-leb}
use Rattle.std.proofs.lemmas.Bool.Decides.{nat_tests}
use Rattle.bus_words.proofs.StoredPlaces.{set_back}
use Rattle.setups.specs.Setups.{SetupLists}
use Rattle.tl_messages.specs.declared.DBeat.{DBeat}
use Rattle.scoreboard.specs.Boards.{Board, ClientBoard, after_d, client_after, client_cut}
use Rattle.scoreboard.specs.Flights.{InFlight, begun_is_other, is_of_source, is_over}
use Rattle.scoreboard.specs.Orders as orders
use Rattle.scoreboard.specs.Orders.{Entry, Order, after_beat, awaits, begun_to, begun_to_other, cut_short, ended_early, has_ended, is_due, reply_beats, with_beat}
use Rattle.scoreboard.specs.RealTime.{numbered}
use Rattle.scoreboard.specs.declared.Errors.{Errors}
use Rattle.scoreboard.proofs.acceptance_order.DueLists.{any_found}
use Rattle.scoreboard.proofs.real_time.CheckedRequests.{IsFrontRight}
use Rattle.scoreboard.proofs.real_time.Entries.{place_of}
use Rattle.scoreboard.proofs.real_time.Explained.{each_client}
use Rattle.scoreboard.proofs.real_time.Fronts.{AreFronts, front_at, front_of}
use Rattle.scoreboard.proofs.real_time.Comings.{early_at, early_in}
use Rattle.scoreboard.proofs.real_time.Lengths.{some_beats}
use Rattle.scoreboard.proofs.real_time.Places.{Place, begun_at, cases_place, coming_at, coming_in, due_at, flight_at, flight_in, flights_at, flights_in, none_in}
use Rattle.scoreboard.proofs.real_time.ReplyMoves.{counts, stays}
use Rattle.scoreboard.proofs.real_time.ReplySteps.{IsAt, due_place, next_at, next_client}
use Rattle.value_orders.proofs.Matches.{Fits, IsOpenOf, IsThere, IsWholeAt, apart_map, each_map_at, one_map}
use Rattle.value_orders.proofs.MatchesBegin.{begun_as, flying_as}
use Rattle.value_orders.proofs.MatchesReplies.{fits_counted}
use Rattle.value_orders.proofs.MatchesTests.{any_one, begun_whole, one_any, same_tests, whole_begun}
use Rattle.value_orders.proofs.MatchesRequests.{IsSet, coming_set, early_set, front_set, is_set, sources_set}

none_cut : (number : ℕ) (now : Order) → map (ended_early false number) now ≡ now
none_cut number [] = refl
none_cut number (entry ∷ now) = ap (λ (rest : Order). entry ∷ rest) (none_cut number now)

module _ (setup : SetupLists) (errors : Errors) (clients : List ClientBoard) (now : Order) (fits : Fits setup errors clients now) (number source : ℕ) (client : ClientBoard)
    (there : slice_get clients number ≡ Some client) where
  -- ---- whether it is over, as the board has it

  -- the request whose reply has begun
  begun_is : flight_at clients (begun_at number) ≡ client.flights.begun
  begun_is = ap (λ (o : Option ClientBoard). (flights_in o).begun) there

  other_is : (k : ℕ) → k < length now → IsWholeAt (begun_at number) (numbered now k) → (flight : InFlight) → client.flights.begun ≡ Some flight
      → flight.source ≡ (numbered now k).request.source
  other_is k small at flight is =
      let flies = (fits.each k small).flies at.0 at.1.live in
      let one : Some flight ≡ Some flies.flight = sym is ∙ sym begun_is ∙ sym (ap (flight_at clients) at.1.there) ∙ flies.there in
      let same : flight ≡ flies.flight = cc (one) in
      ap (λ (f : InFlight). f.source) same ∙ flies.source

  other_same : list_any (begun_to_other number source) now ≡ begun_is_other source client.flights.begun
  other_same = by_begun client.flights.begun refl
    where
      by_begun : (o : Option InFlight) → client.flights.begun ≡ o → list_any (begun_to_other number source) now ≡ begun_is_other source o
      by_begun None nothing =
          false_from_ne_true (list_any (begun_to_other number source) now) (λ some.
          let one = one_any (begun_to_other number source) now some in
          let entry = numbered now one.number in
          let at = begun_whole setup errors clients now fits number entry (fits.each one.number one.small) (and_parts (begun_to number entry) (not (entry.request.source == source)) one.holds).0 in
          let flies = (fits.each one.number one.small).flies at.0 at.1.live in
          absurd (cc (sym nothing ∙ sym begun_is ∙ sym (ap (flight_at clients) at.1.there) ∙ flies.there)))
      by_begun (Some flight) is =
          same_tests (list_any (begun_to_other number source) now) (not (flight.source == source))
          (λ some.
          let one = one_any (begun_to_other number source) now some in
          let entry = numbered now one.number in
          let parts = and_parts (begun_to number entry) (not (entry.request.source == source)) one.holds in
          let at = begun_whole setup errors clients now fits number entry (fits.each one.number one.small) parts.0 in
          ap (λ n. not (n == source)) (other_is one.number one.small at flight is) ∙ parts.1)
          (λ other.
          let one = fits.flights (begun_at number) flight (begun_is ∙ is) in
          let entry = numbered now one.number in
          let has = whole_begun setup errors clients now fits number entry one.holds in
          any_one (begun_to_other number source) now (record {
            number = one.number;
            small = one.small;
            holds = rw has (sym (ap (λ n. not (n == source)) (other_is one.number one.small one.holds flight is)) ∙ other);
          }))

  due_is : flight_at clients (due_at number source) ≡ find (is_of_source source) client.flights.due
  due_is = ap (λ (o : Option ClientBoard). flight_in (flights_in o) (Some source)) there

  -- one that waits for the first beat of its reply
  waits_at : (entry : Entry) → awaits number source entry ≡ true → IsWholeAt (due_at number source) entry
  waits_at entry waits =
      (grind (arith, waits), record { live = grind (arith, nat_tests, waits, some_beats entry.request); there = grind (arith, nat_tests, waits) })

  at_waits : (entry : Entry) → IsWholeAt (due_at number source) entry → awaits number source entry ≡ true
  at_waits entry at = let whole = at.0 in let place = at.1.there in grind (arith, nat_tests, whole, place)

  waits_same : list_any (awaits number source) now ≡ list_any (is_of_source source) client.flights.due
  waits_same =
      same_tests (list_any (awaits number source) now) (list_any (is_of_source source) client.flights.due)
      (λ some.
      let one = one_any (awaits number source) now some in
      let at = waits_at (numbered now one.number) one.holds in
      let flies = (fits.each one.number one.small).flies at.0 at.1.live in
      any_found (is_of_source source) client.flights.due ∙ ap (λ (o : Option InFlight). is_some o) (sym due_is ∙ sym (ap (flight_at clients) at.1.there) ∙ flies.there))
      (λ some. by_found (find (is_of_source source) client.flights.due) refl (sym (any_found (is_of_source source) client.flights.due) ∙ some))
    where
      by_found : (o : Option InFlight) → find (is_of_source source) client.flights.due ≡ o → is_some (find (is_of_source source) client.flights.due) ≡ true
          → list_any (awaits number source) now ≡ true
      by_found None is some = absurd (cc (sym (ap (λ (o : Option InFlight). is_some o) is) ∙ some))
      by_found (Some flight) is some =
          let one = fits.flights (due_at number source) flight (due_is ∙ is) in
          any_one (awaits number source) now (record { number = one.number; small = one.small; holds = at_waits (numbered now one.number) one.holds })

  over_same : orders.is_over now number source ≡ is_over client.flights source
  over_same = ap₂ (λ (b c : Bool). b && c) other_same waits_same

  -- ---- what is in flight then

  abbrev ended : ClientBoard
  ended = record client { flights = record client.flights { begun = None } }

  abbrev next : List ClientBoard
  next = set clients number ended

  changes : IsSet clients next number ended
  changes = is_set clients number client ended there

  -- all but the reply that is over
  flight_other : (place : Place) → (place ≡ begun_at number → ⊥) → flight_at next place ≡ flight_at clients place
  flight_other place away =
      elim (cases_eq place.client number) [
        | inl same ↦ by_source place.source refl same
        | inr differ ↦ ap (λ (o : Option ClientBoard). flight_in (flights_in o) place.source) (changes.other place.client differ)
      ]
    where
      by_source : (o : Option ℕ) → place.source ≡ o → place.client ≡ number → flight_at next place ≡ flight_at clients place
      by_source None is same = absurd (away (ap₂ (λ (c : ℕ) (s : Option ℕ). record { client = c; source = s }) same is))
      by_source (Some s) is same =
          let at : place ≡ due_at number s = ap₂ (λ (c : ℕ) (t : Option ℕ). record { client = c; source = t }) same is in
          ap (flight_at next) at ∙ ap (λ (o : Option ClientBoard). flight_in (flights_in o) (Some s)) changes.own
          ∙ sym (ap (λ (o : Option ClientBoard). flight_in (flights_in o) (Some s)) there) ∙ sym (ap (flight_at clients) at)

  front_still : (other : ℕ) → front_at next other ≡ front_at clients other
  front_still other =
      elim (cases_eq other number) [
        | inl same ↦ ap (front_at next) same ∙ ap front_of changes.own ∙ sym (ap front_of there) ∙ sym (ap (front_at clients) same)
        | inr differ ↦ front_set clients next number ended changes other differ
      ]

  early_still : (other : ℕ) → early_at next other ≡ early_at clients other
  early_still other =
      elim (cases_eq other number) [
        | inl same ↦ ap (early_at next) same ∙ ap early_in changes.own ∙ sym (ap early_in there) ∙ sym (ap (early_at clients) same)
        | inr differ ↦ early_set clients next number ended changes other differ
      ]

  coming_still : (other : ℕ) → coming_at next other ≡ coming_at clients other
  coming_still other =
      elim (cases_eq other number) [
        | inl same ↦ ap (coming_at next) same ∙ ap coming_in changes.own ∙ sym (ap coming_in there) ∙ sym (ap (coming_at clients) same)
        | inr differ ↦ coming_set clients next number ended changes other differ
      ]

  -- ---- each entry

  abbrev cut : Entry → Entry
  cut entry = ended_early true number entry

  cut_same : (entry : Entry) → begun_to number entry ≡ false → ended_early true number entry ≡ entry
  cut_same entry none = rw none refl

  cut_ended : (entry : Entry) → begun_to number entry ≡ true → has_ended (ended_early true number entry) ≡ true
  cut_ended entry has = rw has (le-leb (reply_beats entry.request) (reply_beats entry.request) (omega (arith)))

  live_other : (entry : Entry) → has_ended (ended_early true number entry) ≡ false → begun_to number entry ≡ false
  live_other entry live = false_from_ne_true (begun_to number entry) (λ has. both_ways (has_ended (ended_early true number entry)) live (cut_ended entry has))

  cut_there : (k : ℕ) → k < length now → IsThere setup errors next (ended_early true number (numbered now k))
  cut_there k small =
      elim (cases_Bool (begun_to number entry)) [
        | inl has ↦
            record {
              flies = λ whole live. absurd (both_ways (has_ended (ended_early true number entry)) live (cut_ended entry has));
              begun = λ unwhole.
                  absurd (both_ways entry.whole (sym (grind arith) ∙ unwhole) (begun_whole setup errors clients now fits number entry at has).0);
            }
        | inr none ↦
            subst (IsThere setup errors next) (sym (cut_same entry none))
            (record {
              flies = λ whole live.
                  flying_as setup errors clients next entry
                  (flight_other (place_of entry) (λ same.
                  both_ways (begun_to number entry) none (whole_begun setup errors clients now fits number entry (whole, record { live = live; there = same })))) (at.flies whole live);
              begun = λ unwhole.
                  begun_as setup errors clients next entry (front_still entry.client) (early_still entry.client) (coming_still entry.client) (at.begun unwhole);
            })
      ]
    where
      entry : Entry
      entry = numbered now k

      at : IsThere setup errors clients entry
      at = fits.each k small

  fits_ended : Fits setup errors (set clients number (record client { flights = record client.flights { begun = None } })) (map (ended_early true number) now)
  fits_ended =
      record {
        sources = sources_set clients next number ended changes fits.sources (fits.sources number client there);
        each = each_map_at (IsThere setup errors next) (ended_early true number) now cut_there;
        apart = apart_map (ended_early true number) now (λ i j first other live alive same.
            let one = cut_same (numbered now i) (live_other (numbered now i) live) in
            let two = cut_same (numbered now j) (live_other (numbered now j) alive) in
            fits.apart i j first other (sym (ap has_ended one) ∙ live) (sym (ap has_ended two) ∙ alive) (sym (ap place_of one) ∙ same ∙ ap place_of two));
        flights = λ place flight is.
            elim (cases_place place (begun_at number)) [
              | inl same ↦
                  absurd (cc (sym (ap (flight_at next) same ∙ ap (λ (o : Option ClientBoard). (flights_in o).begun) changes.own) ∙ is))
              | inr away ↦
                  one_map (IsWholeAt place) (IsWholeAt place) (ended_early true number) now
                  (λ k small at.
                  subst (IsWholeAt place)
                  (sym (cut_same (numbered now k) (false_from_ne_true (begun_to number (numbered now k)) (λ has. away (sym at.1.there ∙ (due_place true number 0 (numbered now k) has).there)))))
                  at) (fits.flights place flight (sym (flight_other place away) ∙ is))
            ];
        fronts = λ other held is.
            one_map (IsOpenOf other) (IsOpenOf other) (ended_early true number) now
            (λ k small at.
            subst (IsOpenOf other)
            (sym (cut_same (numbered now k) (false_from_ne_true (begun_to number (numbered now k)) (λ has.
            both_ways (numbered now k).whole at.0 (begun_whole setup errors clients now fits number (numbered now k) (fits.each k small) has).0)))) at)
            (fits.fronts other held (sym (front_still other) ∙ is));
        early = λ other none. early_still other ∙ fits.early other (sym (front_still other) ∙ none);
      }

  fits_cut : Fits setup errors (set clients number (client_cut source client)) (cut_short now number source)
  fits_cut = by_over (is_over client.flights source) refl
    where
      by_over : (over : Bool) → is_over client.flights source ≡ over → Fits setup errors (set clients number (client_cut source client)) (cut_short now number source)
      by_over true is = rw (is, over_same ∙ is) fits_ended
      by_over false is =
          rw (is, over_same ∙ is)
          (subst (Fits setup errors (set clients number client)) (sym (none_cut number now))
          (subst (λ (rest : List ClientBoard). Fits setup errors rest now) (sym (set_back clients number client there)) fits))

-- ---- with any beat on channel D

-- entries that stay as they are
map_stays : (change : Entry → Entry) (now : Order) → ((k : ℕ) → k < length now → change (numbered now k) ≡ numbered now k) → map change now ≡ now
map_stays change [] stay = refl
map_stays change (entry ∷ now) stay =
    let first : change entry ≡ entry = stay 0 (omega (arith)) in
    let rest : map change now ≡ now = map_stays change now (λ k small. stay (suc k) (omega (arith, small))) in
    cc (first, rest)

module _ (setup : SetupLists) (errors : Errors) (clients : List ClientBoard) (now : Order) (fits : Fits setup errors clients now) (number : ℕ) where
  -- nothing is due to a client that isn't there
  module _ (nobody : slice_get clients number ≡ None) where
    not_at : (k : ℕ) → k < length now → (place : Place) → place.client ≡ number → IsAt place (numbered now k) → ⊥
    not_at k small place own at =
        let entry = numbered now k in
        let client : entry.client ≡ number = ap (λ (p : Place). p.client) at.there ∙ own in
        elim (cases_Bool entry.whole) [
          | inl whole ↦
              let flies = (fits.each k small).flies whole at.live in
              let none : flight_at clients (place_of entry) ≡ None =
              none_in clients (place_of entry) (ap (flights_at clients) client ∙ ap flights_in nobody) in
              absurd (cc (sym none ∙ flies.there))
          | inr unwhole ↦
              let begun = (fits.each k small).begun unwhole in
              absurd (cc (sym (ap (front_at clients) client ∙ ap front_of nobody) ∙ begun.front))
        ]

    none_begun : (over : Bool) (k : ℕ) → k < length now → ended_early over number (numbered now k) ≡ numbered now k
    none_begun over k small =
        let none = false_from_ne_true (begun_to number (numbered now k)) (λ has. not_at k small (begun_at number) refl (due_place true number 0 (numbered now k) has)) in
        by_over over none
      where
        by_over : (b : Bool) → begun_to number (numbered now k) ≡ false → ended_early b number (numbered now k) ≡ numbered now k
        by_over true none = rw none refl
        by_over false none = refl

    none_due : (begun : Bool) (source k : ℕ) → k < length now → with_beat begun number source (numbered now k) ≡ numbered now k
    none_due begun source k small =
        let entry = numbered now k in
        stays begun number source entry
        (false_from_ne_true (counts begun number source entry) (λ counted.
        not_at k small (next_at begun number source) (next_client begun number source)
        (due_place begun number source entry (and_parts (is_due begun number source entry) (entry.request.source == source) counted).0)))

    same_after : (source : ℕ) → after_beat now number source ≡ now
    same_after source =
        let cut = map_stays (ended_early (orders.is_over now number source) number) now (none_begun (orders.is_over now number source)) in
        ap (λ (o : Order). map (with_beat (list_any (begun_to number) o) number source) o) cut
        ∙ map_stays (with_beat (list_any (begun_to number) now) number source) now (none_due (list_any (begun_to number) now) source)

  pub fits_reply : (board : Board) (beat : DBeat) → board.clients ≡ clients → AreFronts clients
      → Fits setup errors (after_d board number (slice_get board.clients number) beat).clients (after_beat now number beat.source)
  fits_reply board beat same fronts = by_client (slice_get board.clients number) (ap (λ (c : List ClientBoard). slice_get c number) (sym same))
    where
      by_client : (found : Option ClientBoard) → slice_get clients number ≡ found → Fits setup errors (after_d board number found beat).clients (after_beat now number beat.source)
      by_client None nobody =
          subst (Fits setup errors board.clients) (sym (same_after nobody beat.source)) (subst (λ (c : List ClientBoard). Fits setup errors c now) (sym same) fits)
      by_client (Some client) there =
          let source = beat.source in
          let short = client_cut source client in
          let once = is_set clients number client short there in
          let changed = client_after beat short in
          let twice = is_set clients number client changed there in
          let right = fronts number client there in
          subst (λ (c : List ClientBoard). Fits setup errors (set c number changed) (after_beat now number source)) (sym same)
          (fits_counted setup errors (set clients number short) (cut_short now number source) (fits_cut setup errors clients now fits number source client there) number source
          short changed (set clients number changed)
          (each_client IsFrontRight clients number client short there fronts (record { heard = right.heard; free = right.free })) once.own
          (record { own = twice.own; other = λ other differ. twice.other other differ ∙ sym (once.other other differ) }) refl refl refl refl)
