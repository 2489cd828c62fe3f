-- A board and what has begun since the last reset match: each request that is whole and hasn't ended is in flight at its place, each that isn't whole is what its
-- client has begun, and nothing else is in flight or has begun. Which bytes are determined plays no part, nor what the memory holds.
use Rattle.std.proofs.Common.{◌≡◌, ℕ, ◌<◌, Bool, true, false, List, [], ◌∷◌, ◌++◌, map, length, drop, Option, Some, None, if◌then◌else◌, inl, inr, refl, sym, ◌∙◌, ap, subst, arith}
use Rattle.std.specs.Prelude.{slice_get}
use Rattle.std.proofs.lemmas.Bool.{cases_eq}
use Rattle.std.proofs.lemmas.List.{length-append, length-map}
use Rattle.meaning.specs.Meaning.{Bytes, acknowledged}
use Rattle.responses.specs.Shown.{beat_without_data, shown}
use Rattle.setups.specs.Setups.{SetupLists, faults_of}
use Rattle.tl_messages.specs.Requests.{HeldMessage, bytes_given, request_of}
use Rattle.tl_messages.specs.declared.DBeat.{DBeat}
use Rattle.scoreboard.specs.Boards.{Beginning, Board, ClientBoard, opening_board, opening_from}
use Rattle.scoreboard.specs.Flights.{Footprint, InFlight}
use Rattle.scoreboard.specs.Orders.{Entry, Order, has_ended, has_failed, meaning_on}
use Rattle.scoreboard.specs.Races.{alone}
use Rattle.scoreboard.specs.RealTime.{numbered}
use Rattle.scoreboard.specs.declared.Errors.{Errors}
use Rattle.scoreboard.specs.declared.Errors.TheVariants.{Any, Strict}
use Rattle.scoreboard.proofs.real_time.Becoming.{EachIn, numbered_first, numbered_last, numbered_map}
use Rattle.scoreboard.proofs.real_time.Comings.{early_at, early_in}
use Rattle.scoreboard.proofs.real_time.Entries.{place_of}
use Rattle.scoreboard.proofs.real_time.Explained.{opening_at, opening_flights}
use Rattle.scoreboard.proofs.real_time.FlightLists.{HaveAllSources}
use Rattle.scoreboard.proofs.real_time.Fronts.{front_at, front_of}
use Rattle.scoreboard.proofs.real_time.Places.{HaveSources, Place, coming_at, flight_at, none_in}
use Rattle.scoreboard.proofs.real_time.ReplySteps.{IsAt}
use Rattle.value_orders.specs.Places.{acts_at}

-- ---- one entry

-- the footprint of a request: where it acts, as if it were alone, and whether it has failed; these bytes are determined
abbrev pub acting_as : SetupLists → Errors → Entry → (ℕ → Bool) → Footprint
acting_as setup errors entry determined =
    record (alone (λ x. false) (acts_at setup errors entry.request) entry.request) { failed = has_failed errors setup entry; determined = determined }

-- one that is whole is in flight at its place: what is left of its reply was made of some bytes
pub record IsFlying (setup : SetupLists) (errors : Errors) (clients : List ClientBoard) (entry : Entry) : Type 0 where
  pub flight : InFlight
  pub there : flight_at clients (place_of entry) ≡ Some flight
  pub source : flight.source ≡ entry.request.source
  pub acts : flight.footprint ≡ acting_as setup errors entry flight.footprint.determined
  pub made_of : Bytes
  pub left : flight.beats ≡ drop entry.came (shown entry.request (meaning_on setup entry.request made_of).reply)

-- whether the reply to what a client has begun came, by whether it may come
abbrev pub has_come : Errors → Option DBeat → Bool
has_come Strict early = false
has_come Any None = true
has_come Any (Some due) = false

-- one that isn't whole is what its client has begun
pub record IsBegun (setup : SetupLists) (errors : Errors) (clients : List ClientBoard) (entry : Entry) : Type 0 where
  pub held : HeldMessage
  pub front : front_at clients entry.client ≡ Some held
  pub fields : request_of held ≡ record entry.request { bytes = bytes_given held; corrupt = held.corrupt }
  pub none_came : entry.came ≡ 0
  pub any : entry.early ≡ true → errors ≡ Any
  pub early : early_at clients entry.client ≡ (if entry.early then Some (beat_without_data entry.request acknowledged) else None)
  pub replied : entry.replied ≡ has_come errors (early_at clients entry.client)
  pub acts : coming_at clients entry.client ≡ acting_as setup errors entry (coming_at clients entry.client).determined

pub record IsThere (setup : SetupLists) (errors : Errors) (clients : List ClientBoard) (entry : Entry) : Type 0 where
  pub flies : entry.whole ≡ true → has_ended entry ≡ false → IsFlying setup errors clients entry
  pub begun : entry.whole ≡ false → IsBegun setup errors clients entry

-- ---- all entries

-- one of some entries, by its number
pub record HasOne (P : Entry → Type 0) (now : Order) : Type 0 where
  pub number : ℕ
  pub small : number < length now
  pub holds : P (numbered now number)

-- no two that haven't ended are at one place
abbrev pub StandApart : Order → Type 0
StandApart now =
    (i j : ℕ) → i < length now → j < length now → has_ended (numbered now i) ≡ false → has_ended (numbered now j) ≡ false
    → place_of (numbered now i) ≡ place_of (numbered now j) → i ≡ j

-- a whole one is at a place
abbrev pub IsWholeAt : Place → Entry → Type 0
IsWholeAt place entry = (entry.whole ≡ true) × IsAt place entry

-- one of a client isn't whole
abbrev pub IsOpenOf : ℕ → Entry → Type 0
IsOpenOf client entry = (entry.whole ≡ false) × (entry.client ≡ client)

pub record Fits (setup : SetupLists) (errors : Errors) (clients : List ClientBoard) (now : Order) : Type 0 where
  pub sources : HaveAllSources clients
  pub each : EachIn (IsThere setup errors clients) now
  pub apart : StandApart now
  pub flights : (place : Place) (flight : InFlight) → flight_at clients place ≡ Some flight → HasOne (IsWholeAt place) now
  pub fronts : (client : ℕ) (held : HeldMessage) → front_at clients client ≡ Some held → HasOne (IsOpenOf client) now
  pub early : (client : ℕ) → front_at clients client ≡ None → early_at clients client ≡ None

pub record Matches (setup : SetupLists) (errors : Errors) (board : Board) (now : Order) : Type 0 where
  pub errors_are : board.errors ≡ errors
  pub faults : board.memory.faults ≡ faults_of setup
  pub regions : board.memory.regions ≡ setup.regions
  pub fits : Fits setup errors board.clients now

-- ---- where entries change, and one more begins

pub one_map : (P Q : Entry → Type 0) (change : Entry → Entry) (now : Order) → ((k : ℕ) → k < length now → P (numbered now k) → Q (change (numbered now k)))
    → HasOne P now → HasOne Q (map change now)
one_map P Q change now goes one =
    record {
      number = one.number;
      small = omega (arith, one.small, length-map now change);
      holds = subst Q (sym (numbered_map change now one.number one.small)) (goes one.number one.small one.holds);
    }

pub one_first : (P : Entry → Type 0) (now : Order) (entry : Entry) → HasOne P now → HasOne P (now ++ entry ∷ [])
one_first P now entry one =
    record {
      number = one.number;
      small = omega (arith, one.small, length-append now (entry ∷ []));
      holds = subst P (sym (numbered_first now entry one.number one.small)) one.holds;
    }

pub one_last : (P : Entry → Type 0) (now : Order) (entry : Entry) → P entry → HasOne P (now ++ entry ∷ [])
one_last P now entry holds =
    record {
      number = length now;
      small = omega (arith, length-append now (entry ∷ []));
      holds = subst P (sym (numbered_last now entry)) holds;
    }

pub each_map_at : (P : Entry → Type 0) (change : Entry → Entry) (now : Order) → ((k : ℕ) → k < length now → P (change (numbered now k))) → EachIn P (map change now)
each_map_at P change now goes number small =
    let within : number < length now = omega (arith, small, length-map now change) in
    subst P (sym (numbered_map change now number within)) (goes number within)

-- two that haven't ended with a change hadn't, and were at one place
pub apart_map : (change : Entry → Entry) (now : Order)
    → ((i j : ℕ) → i < length now → j < length now → has_ended (change (numbered now i)) ≡ false → has_ended (change (numbered now j)) ≡ false
    → place_of (change (numbered now i)) ≡ place_of (change (numbered now j)) → i ≡ j)
    → StandApart (map change now)
apart_map change now were i j first other live alive same =
    let one : i < length now = omega (arith, first, length-map now change) in
    let two : j < length now = omega (arith, other, length-map now change) in
    let own = numbered_map change now i one in
    let its = numbered_map change now j two in
    were i j one two (sym (ap has_ended own) ∙ live) (sym (ap has_ended its) ∙ alive) (sym (ap place_of own) ∙ same ∙ ap place_of its)

pub apart_last : (now : Order) (entry : Entry) → ((k : ℕ) → k < length now → has_ended (numbered now k) ≡ false → place_of (numbered now k) ≡ place_of entry → ⊥)
    → StandApart now → StandApart (now ++ entry ∷ [])
apart_last now entry other were i j first second live alive same =
    elim (cases_eq i (length now)) [
      | inl last ↦
          elim (cases_eq j (length now)) [
            | inl its ↦ last ∙ sym its
            | inr before ↦
                let below : j < length now = omega (arith, second, before, length-append now (entry ∷ [])) in
                let at = numbered_first now entry j below in
                absurd (other j below (sym (ap has_ended at) ∙ alive)
                (sym (ap place_of at) ∙ sym same ∙ ap (λ k. place_of (numbered (now ++ entry ∷ []) k)) last ∙ ap place_of (numbered_last now entry)))
          ]
      | inr before ↦
          let below : i < length now = omega (arith, first, before, length-append now (entry ∷ [])) in
          let at = numbered_first now entry i below in
          elim (cases_eq j (length now)) [
            | inl its ↦
                absurd (other i below (sym (ap has_ended at) ∙ live)
                (sym (ap place_of at) ∙ same ∙ ap (λ k. place_of (numbered (now ++ entry ∷ []) k)) its ∙ ap place_of (numbered_last now entry)))
            | inr earlier ↦
                let within : j < length now = omega (arith, second, earlier, length-append now (entry ∷ [])) in
                let next = numbered_first now entry j within in
                were i j below within (sym (ap has_ended at) ∙ live) (sym (ap has_ended next) ∙ alive) (sym (ap place_of at) ∙ same ∙ ap place_of next)
          ]
    ]

-- ---- at the start, and after a reset

-- nothing has begun to any of some clients, and nothing is in flight
pub fits_nothing : (setup : SetupLists) (errors : Errors) (clients : List ClientBoard) → HaveAllSources clients
    → ((place : Place) → flight_at clients place ≡ None) → ((client : ℕ) → front_at clients client ≡ None) → ((client : ℕ) → early_at clients client ≡ None)
    → Fits setup errors clients []
fits_nothing setup errors clients sources nothing none_begun none_early =
    record {
      sources = sources;
      each = λ k small. absurd (omega (arith, small));
      apart = λ i j first other live alive same. absurd (omega (arith, first));
      flights = λ place flight is. absurd (cc (sym (nothing place) ∙ is));
      fronts = λ client held is. absurd (cc (sym (none_begun client) ∙ is));
      early = λ client none. none_early client;
    }

pub matches_opening : (errors : Errors) (beginning : Beginning) → Matches beginning.lists errors (opening_from errors beginning) []
matches_opening errors beginning =
    record {
      errors_are = refl;
      faults = refl;
      regions = refl;
      fits = fits_nothing beginning.lists errors clients sources
          (λ place. none_in clients place (opening_flights beginning.lists.config 0 beginning.lists.config.clients place.client)) none_begun none_early;
    }
  where
    clients : List ClientBoard
    clients = (opening_board beginning.lists).clients

    sources : HaveAllSources clients
    sources number client is =
        let found = opening_at beginning.lists.config 0 beginning.lists.config.clients number client is in
        subst HaveSources (sym (ap (λ (c : ClientBoard). c.flights) found.1)) tt

    none_begun : (client : ℕ) → front_at clients client ≡ None
    none_begun client = by_found (slice_get clients client) refl
      where
        by_found : (o : Option ClientBoard) → slice_get clients client ≡ o → front_of o ≡ None
        by_found None is = refl
        by_found (Some found) is = ap (λ (c : ClientBoard). c.front) (opening_at beginning.lists.config 0 beginning.lists.config.clients client found is).1

    none_early : (client : ℕ) → early_at clients client ≡ None
    none_early client = by_found (slice_get clients client) refl
      where
        by_found : (o : Option ClientBoard) → slice_get clients client ≡ o → early_in o ≡ None
        by_found None is = refl
        by_found (Some found) is = ap (λ (c : ClientBoard). c.early) (opening_at beginning.lists.config 0 beginning.lists.config.clients client found is).1
