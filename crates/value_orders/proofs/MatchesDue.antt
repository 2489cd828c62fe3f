-- The one request to which a beat on channel D is due: it is the one that its board has in flight at its place, or that has begun.
use Rattle.std.proofs.Common.{◌≡◌, ℕ, ◌<◌, ◌==◌, Bool, true, false, List, [], ◌∷◌, length, Option, Some, None, if◌then◌else◌, refl, sym, ◌∙◌, ap, ap₂, subst, arith}
use Rattle.std.specs.Prelude.{is_some, slice_get}
use Rattle.std.specs.Option.{option_or}
use Rattle.std.proofs.lemmas.Bool.{eq-eqb}
use Rattle.meaning.specs.Meaning.{acknowledged}
use Rattle.responses.specs.Shown.{beat_without_data}
use Rattle.setups.specs.Setups.{SetupLists}
use Rattle.tl_messages.specs.Requests.{HeldMessage}
use Rattle.tl_messages.specs.declared.DBeat.{DBeat}
use Rattle.scoreboard.specs.Boards.{ClientBoard, early_flight, next_to}
use Rattle.scoreboard.specs.Flights.{InFlight, next_reply}
use Rattle.scoreboard.specs.Orders.{Entry, Order, begun_to, is_due, is_due_in}
use Rattle.std.specs.List.{list_any}
use Rattle.scoreboard.specs.RealTime.{numbered}
use Rattle.scoreboard.specs.declared.Errors.{Errors}
use Rattle.scoreboard.specs.declared.Policy.TheVariants.{RealTime}
use Rattle.scoreboard.proofs.real_time.Comings.{early_at, early_in}
use Rattle.scoreboard.proofs.real_time.Fronts.{front_at}
use Rattle.scoreboard.proofs.real_time.Places.{coming_at, coming_in, flight_at, flights_in}
use Rattle.scoreboard.proofs.real_time.ReplySeen.{next_is}
use Rattle.scoreboard.proofs.real_time.ReplySteps.{due_place, next_at, place_due}
use Rattle.value_orders.proofs.Matches.{Fits, IsBegun, IsFlying}
use Rattle.value_orders.proofs.MatchesTests.{begun_board}

-- how the board has the request that a beat is due to: in flight at its place, or begun
pub data IsHad (setup : SetupLists) (errors : Errors) (clients : List ClientBoard) (entry : Entry) (flight : InFlight) : Type 0 where
  InFlightAt : entry.whole ≡ true → (is : IsFlying setup errors clients entry) → is.flight ≡ flight → IsHad setup errors clients entry flight
  HasBegunThere : entry.whole ≡ false → IsBegun setup errors clients entry → entry.early ≡ true
      → flight.beats ≡ beat_without_data entry.request acknowledged ∷ [] → flight.footprint ≡ coming_at clients entry.client → IsHad setup errors clients entry flight

-- one entry is due, and no other
pub record IsOnlyDue (setup : SetupLists) (errors : Errors) (clients : List ClientBoard) (now : Order) (client source : ℕ) (flight : InFlight) : Type 0 where
  pub number : ℕ
  pub small : number < length now
  pub due : is_due_in now client source (numbered now number) ≡ true
  pub only : (other : ℕ) → other < length now → is_due_in now client source (numbered now other) ≡ true → other ≡ number
  pub had : IsHad setup errors clients (numbered now number) flight

module _ (setup : SetupLists) (errors : Errors) (clients : List ClientBoard) (now : Order) (fits : Fits setup errors clients now) (number source : ℕ) where
  abbrev begun : Bool
  begun = list_any (begun_to number) now

  -- a beat is due to one at most
  pub one_due : (i j : ℕ) → i < length now → j < length now → is_due_in now number source (numbered now i) ≡ true → is_due_in now number source (numbered now j) ≡ true → i ≡ j
  one_due i j first other due its_due =
      let at = due_place begun number source (numbered now i) due in
      let its = due_place begun number source (numbered now j) its_due in
      fits.apart i j first other at.live its.live (at.there ∙ sym its.there)

  module _ (client : ClientBoard) (there : slice_get clients number ≡ Some client) where
    next_there : flight_at clients (next_at begun number source) ≡ next_reply client.flights source
    next_there = next_is clients number source client there begun (begun_board setup errors clients now fits number)

    -- in flight
    flight_due : (flight : InFlight) → next_reply client.flights source ≡ Some flight → IsOnlyDue setup errors clients now number source flight
    flight_due flight is =
        let place = next_at begun number source in
        let one = fits.flights place flight (next_there ∙ is) in
        let due = place_due begun number source (numbered now one.number) one.holds.0 one.holds.1 in
        let flies = (fits.each one.number one.small).flies one.holds.0 one.holds.1.live in
        let both : Some flies.flight ≡ Some flight = sym flies.there ∙ ap (flight_at clients) one.holds.1.there ∙ next_there ∙ is in
        let same : flies.flight ≡ flight = cc (both) in
        record {
          number = one.number;
          small = one.small;
          due = due;
          only = λ other small its. one_due other one.number small one.small its due;
          had = InFlightAt one.holds.0 flies same;
        }

    -- or it has begun, and its reply may come early
    early_due : (due : DBeat) → next_reply client.flights source ≡ None → client.early ≡ Some due → (due.source == source) ≡ true
        → IsOnlyDue setup errors clients now number source (record { source = source; beats = due ∷ []; footprint = client.coming })
    early_due due nothing early own = by_front (front_at clients number) refl
      where
        early_here : early_at clients number ≡ Some due
        early_here = ap early_in there ∙ early

        not_begun : begun ≡ false
        not_begun = begun_board setup errors clients now fits number ∙ ap (λ (o : Option ClientBoard). is_some (flights_in o).begun) there ∙ grind (arith, nothing)

        by_front : (o : Option HeldMessage) → front_at clients number ≡ o
            → IsOnlyDue setup errors clients now number source (record { source = source; beats = due ∷ []; footprint = client.coming })
        by_front None none = absurd (cc (sym (fits.early number none) ∙ early_here))
        by_front (Some held) some =
            let one = fits.fronts number held some in
            let entry = numbered now one.number in
            let at = (fits.each one.number one.small).begun one.holds.0 in
            let here : Some due ≡ (if entry.early then Some (beat_without_data entry.request acknowledged) else None) =
            sym early_here ∙ sym (ap (early_at clients) one.holds.1) ∙ at.early in
            by_early one.number one.small one.holds.0 one.holds.1 at entry.early refl here
          where
            by_early : (k : ℕ) → k < length now → (numbered now k).whole ≡ false → (numbered now k).client ≡ number → IsBegun setup errors clients (numbered now k)
                → (may : Bool) → (numbered now k).early ≡ may → Some due ≡ (if may then Some (beat_without_data (numbered now k).request acknowledged) else None)
                → IsOnlyDue setup errors clients now number source (record { source = source; beats = due ∷ []; footprint = client.coming })
            by_early k small unwhole client_is at false may here = absurd (cc (here))
            by_early k small unwhole client_is at true may here =
                let same : due ≡ beat_without_data (numbered now k).request acknowledged = cc (here) in
                let its_source : ((numbered now k).request.source == source) ≡ true = sym (ap (λ (d : DBeat). d.source == source) same) ∙ own in
                let client_test = eq-eqb (numbered now k).client number client_is in
                let none_came = at.none_came in
                let is_due_there : is_due_in now number source (numbered now k) ≡ true = rw not_begun (grind (arith, its_source, client_test, none_came, may)) in
                record {
                  number = k;
                  small = small;
                  due = is_due_there;
                  only = λ other below its. one_due other k below small its is_due_there;
                  had = HasBegunThere unwhole at may (ap (λ (d : DBeat). d ∷ []) same) (sym (ap (coming_at clients) client_is ∙ ap coming_in there));
                }

    -- what the board expects next is due to one request alone, which it has
    pub due_one : (flight : InFlight) → next_to RealTime client source ≡ Some flight → IsOnlyDue setup errors clients now number source flight
    due_one flight is = by_flight (next_reply client.flights source) refl
      where
        -- what is next, by what is in flight and may come early
        next : (o : Option InFlight) (early : Option DBeat) → next_reply client.flights source ≡ o → client.early ≡ early
            → option_or o (early_flight client early source) ≡ Some flight
        next o early found some = sym (ap₂ (λ (f : Option InFlight) (e : Option DBeat). option_or f (early_flight client e source)) found some) ∙ is

        by_source : (due : DBeat) (b : Bool) → (due.source == source) ≡ b → next_reply client.flights source ≡ None → client.early ≡ Some due
            → (if b then Some (record { source = source; beats = due ∷ []; footprint = client.coming }) else None) ≡ Some flight
            → IsOnlyDue setup errors clients now number source flight
        by_source due true own nothing some one =
            let same : record { source = source; beats = due ∷ []; footprint = client.coming } ≡ flight = cc (one) in
            subst (IsOnlyDue setup errors clients now number source) same (early_due due nothing some own)
        by_source due false other nothing some one = absurd (cc (one))

        by_early : (o : Option DBeat) → next_reply client.flights source ≡ None → client.early ≡ o → IsOnlyDue setup errors clients now number source flight
        by_early None nothing none = absurd (cc (next None None nothing none))
        by_early (Some due) nothing some =
            let one = next None (Some due) nothing some in
            by_source due (due.source == source) refl nothing some one

        by_flight : (o : Option InFlight) → next_reply client.flights source ≡ o → IsOnlyDue setup errors clients now number source flight
        by_flight (Some first) found = flight_due flight (found ∙ next (Some first) client.early found refl)
        by_flight None nothing = by_early client.early nothing refl
