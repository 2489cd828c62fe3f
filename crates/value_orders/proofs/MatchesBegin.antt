-- A board and its history still match where one more request has begun.
use Rattle.std.proofs.Common.{◌≡◌, ℕ, Bool, true, false, List, [], ◌∷◌, ◌++◌, length, Option, Some, None, inl, inr, refl, sym, ◌∙◌, ap, subst, arith}
use Rattle.std.proofs.lemmas.Bool.{cases_Bool, cases_eq}
use Rattle.setups.specs.Setups.{SetupLists, faults_of}
use Rattle.tl_messages.specs.Requests.{HeldMessage, WholeRequest}
use Rattle.scoreboard.specs.Boards.{Board, ClientBoard, fails, footprints_of, joining_on, place_on}
use Rattle.scoreboard.specs.Flights.{Footprint}
use Rattle.scoreboard.specs.Orders.{Entry, Order, has_ended, has_failed}
use Rattle.scoreboard.specs.Races.{alone, joining}
use Rattle.scoreboard.specs.RealTime.{entry_of, numbered}
use Rattle.scoreboard.specs.declared.Errors.{Errors}
use Rattle.scoreboard.proofs.real_time.Becoming.{each_last}
use Rattle.scoreboard.proofs.real_time.Comings.{early_at}
use Rattle.scoreboard.proofs.real_time.Entries.{place_of}
use Rattle.scoreboard.proofs.real_time.Failures.{failed_at, fails_as, fails_flag, fails_keeps}
use Rattle.scoreboard.proofs.real_time.FlightLists.{HaveAllSources}
use Rattle.scoreboard.proofs.real_time.Fronts.{front_at}
use Rattle.scoreboard.proofs.real_time.Lengths.{some_beats}
use Rattle.scoreboard.proofs.real_time.Places.{Place, cases_place, coming_at, due_at, flight_at}
use Rattle.value_orders.specs.Places.{acts_at}
use Rattle.value_orders.proofs.Matches.{Fits, IsBegun, IsFlying, IsOpenOf, IsThere, IsWholeAt, acting_as, apart_last, has_come, one_first, one_last}

-- one that has just begun, with its number
abbrev pub first_entry : Errors → ℕ → WholeRequest → Bool → ℕ → Entry
first_entry errors client q whole number = record (entry_of errors client q whole) { number = number }

-- ---- its footprint

failed_is : (errors : Errors) (setup : SetupLists) (entry : Entry) → failed_at errors (faults_of setup) setup.regions entry ≡ has_failed errors setup entry
failed_is errors setup entry = grind arith

-- whether a request fails
pub fails_is : (setup : SetupLists) (errors : Errors) (board : Board) (q : WholeRequest) (whole : Bool) (client number : ℕ) → board.errors ≡ errors
    → board.memory.faults ≡ faults_of setup → board.memory.regions ≡ setup.regions
    → fails board.errors board.memory q ≡ has_failed errors setup (first_entry errors client q whole number)
fails_is setup errors board q whole client number same faults regions =
    rw same (fails_as errors client board.memory q q whole number refl ∙ rw (faults, regions) (failed_is errors setup (first_entry errors client q whole number)))

pub place_is : (setup : SetupLists) (errors : Errors) (board : Board) (q : WholeRequest) → board.errors ≡ errors
    → board.memory.faults ≡ faults_of setup → board.memory.regions ≡ setup.regions → place_on board q ≡ acts_at setup errors q
place_is setup errors board q same faults regions = rw (same, faults, regions) refl

pub joining_acts : (setup : SetupLists) (errors : Errors) (board : Board) (q : WholeRequest) (whole : Bool) (client number : ℕ) → board.errors ≡ errors
    → board.memory.faults ≡ faults_of setup → board.memory.regions ≡ setup.regions
    → joining_on board q ≡ acting_as setup errors (first_entry errors client q whole number) (joining_on board q).determined
joining_acts setup errors board q whole client number same faults regions =
    fails_keeps (fails board.errors board.memory q) joins
    ∙ ap (λ (b : Bool). record (alone (λ x. false) (place_on board q) q) { failed = b; determined = (joining_on board q).determined })
    (fails_flag (fails board.errors board.memory q) joins refl ∙ fails_is setup errors board q whole client number same faults regions)
    ∙ ap (λ (place : Option ℕ). record (alone (λ x. false) place q)
    { failed = has_failed errors setup (first_entry errors client q whole number); determined = (joining_on board q).determined })
    (place_is setup errors board q same faults regions)
  where
    joins : Footprint
    joins = joining board.indeterminate (footprints_of board.clients) (place_on board q) q

-- ---- what is in flight, and has begun, where that stays

pub flying_as : (setup : SetupLists) (errors : Errors) (clients next : List ClientBoard) (entry : Entry)
    → flight_at next (place_of entry) ≡ flight_at clients (place_of entry) → IsFlying setup errors clients entry → IsFlying setup errors next entry
flying_as setup errors clients next entry same is =
    record { flight = is.flight; there = same ∙ is.there; source = is.source; acts = is.acts; made_of = is.made_of; left = is.left }

pub begun_as : (setup : SetupLists) (errors : Errors) (clients next : List ClientBoard) (entry : Entry) → front_at next entry.client ≡ front_at clients entry.client
    → early_at next entry.client ≡ early_at clients entry.client → coming_at next entry.client ≡ coming_at clients entry.client
    → IsBegun setup errors clients entry → IsBegun setup errors next entry
begun_as setup errors clients next entry front early coming is =
    record {
      held = is.held;
      front = front ∙ is.front;
      fields = is.fields;
      none_came = is.none_came;
      any = is.any;
      early = early ∙ is.early;
      replied = is.replied ∙ ap (has_come errors) (sym early);
      acts = subst (λ (f : Footprint). f ≡ acting_as setup errors entry f.determined) (sym coming) is.acts;
    }

-- ---- one that begins

module _ (setup : SetupLists) (errors : Errors) (clients next : List ClientBoard) (now : Order) (client : ℕ) (q : WholeRequest) (fits : Fits setup errors clients now)
    (none : front_at clients client ≡ None) (free : flight_at clients (due_at client q.source) ≡ None) (sources : HaveAllSources next)
    (front_other : (other : ℕ) → (other ≡ client → ⊥) → front_at next other ≡ front_at clients other)
    (early_other : (other : ℕ) → (other ≡ client → ⊥) → early_at next other ≡ early_at clients other)
    (coming_other : (other : ℕ) → (other ≡ client → ⊥) → coming_at next other ≡ coming_at clients other) where
  -- what isn't whole is another client's
  others_begun : (entry : Entry) → IsBegun setup errors clients entry → entry.client ≡ client → ⊥
  others_begun entry is same = absurd (cc (sym none ∙ ap (front_at clients) (sym same) ∙ is.front))

  still_begun : (entry : Entry) → IsBegun setup errors clients entry → IsBegun setup errors next entry
  still_begun entry is =
      let other : entry.client ≡ client → ⊥ = others_begun entry is in
      begun_as setup errors clients next entry (front_other entry.client other) (early_other entry.client other) (coming_other entry.client other) is

  -- none is where the new one is
  not_there : (entry : Entry) → IsThere setup errors clients entry → has_ended entry ≡ false → place_of entry ≡ due_at client q.source → ⊥
  not_there entry there live same =
      elim (cases_Bool entry.whole) [
        | inl whole ↦ let flies = there.flies whole live in absurd (cc (sym free ∙ ap (flight_at clients) (sym same) ∙ flies.there))
        | inr unwhole ↦ others_begun entry (there.begun unwhole) (ap (λ (p : Place). p.client) same)
      ]

  module _ (whole : Bool) (here : IsThere setup errors next (first_entry errors client q whole (length now)))
      (flight_other : (place : Place) → (whole ≡ true → place ≡ due_at client q.source → ⊥) → flight_at next place ≡ flight_at clients place)
      (front_own : whole ≡ true → front_at next client ≡ None)
      (early_own : whole ≡ true → early_at next client ≡ None) (own : whole ≡ false → (held : HeldMessage) × (front_at next client ≡ Some held)) where
    abbrev new : Entry
    new = first_entry errors client q whole (length now)

    starts : has_ended (first_entry errors client q whole (length now)) ≡ false
    starts = grind (arith, some_beats q)

    still_there : (entry : Entry) → IsThere setup errors clients entry → IsThere setup errors next entry
    still_there entry there =
        record {
          flies = λ its_whole live.
              flying_as setup errors clients next entry (flight_other (place_of entry) (λ is same. not_there entry there live same)) (there.flies its_whole live);
          begun = λ unwhole. still_begun entry (there.begun unwhole);
        }

    pub fits_first : Fits setup errors next (now ++ first_entry errors client q whole (length now) ∷ [])
    fits_first =
        record {
          sources = sources;
          each = each_last (IsThere setup errors next) now new (λ k small. still_there (numbered now k) (fits.each k small)) here;
          apart = apart_last now new (λ k small live same. not_there (numbered now k) (fits.each k small) live same) fits.apart;
          flights = λ place flight is.
              elim (cases_place place (due_at client q.source)) [
                | inl same ↦
                    elim (cases_Bool whole) [
                      | inl all ↦ one_last (IsWholeAt place) now new (all, record { live = starts; there = sym same })
                      | inr some ↦
                          absurd (cc (sym free ∙ ap (flight_at clients) (sym same) ∙ sym (flight_other place (λ all. absurd (cc (sym some ∙ all)))) ∙ is))
                    ]
                | inr differ ↦ one_first (IsWholeAt place) now new (fits.flights place flight (sym (flight_other place (λ all. differ)) ∙ is))
              ];
          fronts = λ other held is.
              elim (cases_eq other client) [
                | inl same ↦
                    elim (cases_Bool whole) [
                      | inl all ↦ absurd (cc (sym (front_own all) ∙ ap (front_at next) (sym same) ∙ is))
                      | inr some ↦ one_last (IsOpenOf other) now new (some, sym same)
                    ]
                | inr differ ↦ one_first (IsOpenOf other) now new (fits.fronts other held (sym (front_other other differ) ∙ is))
              ];
          early = λ other nothing.
              elim (cases_eq other client) [
                | inl same ↦
                    elim (cases_Bool whole) [
                      | inl all ↦ ap (early_at next) same ∙ early_own all
                      | inr some ↦ let its = own some in absurd (cc (sym nothing ∙ ap (front_at next) same ∙ its.1))
                    ]
                | inr differ ↦ early_other other differ ∙ fits.early other (sym (front_other other differ) ∙ nothing)
              ];
        }
