-- A board beside its shadow, on which each request is carried out with its first beat, as what it becomes. The board knows less: a request that has begun
-- there is in flight on the shadow. What the board holds to be determined is so on the shadow, as far as it is read, and tells the same.
use Rattle.std.proofs.Common.{◌≡◌, ℕ, ◌<◌, Bool, true, false, ◌&&◌, ◌||◌, ◌==◌, List, map, length, drop, Option, Some, None, if◌then◌else◌, inl, inr, refl, sym, ◌∙◌, ap, arith}
use Rattle.std.specs.Prelude.{is_some, slice_get}
use Rattle.std.specs.List.{list_any}
use Rattle.std.proofs.lemmas.Bool.{cases_Bool}
use Rattle.tl_messages.specs.Requests.{HeldMessage, WholeRequest}
use Rattle.burst_plan.specs.declared.Region.{Region}
use Rattle.responses.specs.Shown.{shown}
use Rattle.subordinate.specs.Faults.{Faults}
use Rattle.meaning.specs.Meaning.{Bytes, meaning}
use Rattle.scoreboard.specs.Boards.{Board, ClientBoard, footprints_of}
use Rattle.scoreboard.specs.Flights.{Footprint, InFlight, no_footprint}
use Rattle.scoreboard.specs.Races.{covers, depends_on, may_read, may_write}
use Rattle.scoreboard.proofs.real_time.AlikeBeats.{LeftAlike}
use Rattle.scoreboard.specs.declared.Errors.TheVariants.{Strict}
use Rattle.scoreboard.proofs.real_time.Entries.{carry}
use Rattle.scoreboard.proofs.real_time.Failures.{shape_of}
use Rattle.scoreboard.proofs.real_time.FlightLists.{HaveAllSources, each_coming, each_of}
use Rattle.scoreboard.proofs.real_time.Places.{Place, coming_at, due_at, flight_at, footprint_at, footprint_in}
use Rattle.scoreboard.proofs.real_time.RequestActs.{AreBytes, IsWell, acts, gives, own}

-- ---- one request

-- a request in flight beside the same one on the shadow, where it acts as it does here, if it does; its reply's beats have the same shape. If it isn't fated
-- to fail before its reply ends what it reads is determined there too; and if it hasn't failed either it acts on the shadow as it does here, and its reply's
-- beats are alike
pub record IsBehind (fated : Bool) (mine theirs : InFlight) : Type 0 where
  pub source : mine.source ≡ theirs.source
  pub acts : (theirs.footprint.reads || theirs.footprint.writes) ≡ true
      → mine.footprint ≡ record theirs.footprint { failed = mine.footprint.failed; determined = mine.footprint.determined }
  pub sound : fated ≡ false → mine.footprint.failed ≡ false → mine.footprint ≡ record theirs.footprint { determined = mine.footprint.determined }
  pub less : fated ≡ false → (x : ℕ) → mine.footprint.reads ≡ true → mine.footprint.determined x ≡ true → theirs.footprint.determined x ≡ true
  pub long : length mine.beats ≡ length theirs.beats
  pub shapes : map shape_of mine.beats ≡ map shape_of theirs.beats
  pub alike : fated ≡ false → mine.footprint.failed ≡ false → (n : ℕ) → n < length theirs.beats → LeftAlike mine.footprint (drop n mine.beats) (drop n theirs.beats)

-- the footprint of what has begun beside the request that it becomes, which is in flight on the shadow: one that reads nothing, and that may write no
-- more than was said with the first beat. Where it has failed nothing of it is determined
pub record IsComing (faults : Faults) (regions : List Region) (coming : Footprint) (q : WholeRequest) (theirs : InFlight) : Type 0 where
  pub source : theirs.source ≡ q.source
  pub well : IsWell q
  pub silent : may_read q.operation ≡ false
  pub same : (own faults regions q).writes ≡ true → coming ≡ record (own faults regions q) { failed = coming.failed; determined = coming.determined }
  pub acts : theirs.footprint ≡ record (own faults regions q) { determined = theirs.footprint.determined }
  pub less : (x : ℕ) → (own faults regions q).writes ≡ true → coming.determined x ≡ true → theirs.footprint.determined x ≡ true
  pub beats : (m : Bytes) → theirs.beats ≡ shown q (meaning faults regions q m).reply
  pub broken : (x : ℕ) → coming.failed ≡ true → coming.determined x ≡ false

-- ---- the board

-- a shadow: its clients, bytes and indeterminate bytes; what becomes of each client's message that has begun; which requests are fated to fail before their
-- replies end, by their numbers, and by the places of those that are in flight on the board. All else is the board's, but that errors are told there as this
-- project's bridge tells them, of what the requests become
pub record Shadow : Type 0 where
  pub clients : List ClientBoard
  pub bytes : Bytes
  pub indeterminate : ℕ → Bool
  pub finals : ℕ → WholeRequest
  pub fate : ℕ → Bool
  pub fates : Place → Bool

-- ---- what is fated to fail

abbrev is_source : Option ℕ → Option ℕ → Bool
is_source None None = true
is_source None (Some other) = false
is_source (Some source) None = false
is_source (Some source) (Some other) = source == other

-- whether two places are one
abbrev pub is_at : Place → Place → Bool
is_at place other = place.client == other.client && is_source place.source other.source

-- where the one at a place is fated, or isn't
abbrev pub fates_with : (Place → Bool) → Place → Bool → Place → Bool
fates_with fates place fated other = if is_at other place then fated else fates other

pub fates_own : (fates : Place → Bool) (place : Place) (fated : Bool) → fates_with fates place fated place ≡ fated
fates_own fates place fated = grind arith

pub fates_other : (fates : Place → Bool) (place : Place) (fated : Bool) (other : Place) → (other ≡ place → ⊥) → fates_with fates place fated other ≡ fates other
fates_other fates place fated other differ = grind (arith, differ)

-- no request in flight may write a byte that is fated to fail and hasn't
abbrev pub NoneFated : List ClientBoard → (Place → Bool) → ℕ → Type 0
NoneFated clients fates x =
    (place : Place) (flight : InFlight) → flight_at clients place ≡ Some flight → fates place ≡ true → flight.footprint.failed ≡ false
    → may_write flight.footprint x ≡ false

abbrev pub shadow_of : Board → Shadow → Board
shadow_of board shadow =
    record board { clients = shadow.clients; memory = record board.memory { bytes = shadow.bytes }; indeterminate = shadow.indeterminate; errors = Strict }

abbrev pub front_in : Option ClientBoard → Option HeldMessage
front_in None = None
front_in (Some client) = client.front

-- whether a client's message has begun
abbrev pub comes : List ClientBoard → ℕ → Bool
comes clients client = is_some (front_in (slice_get clients client))

-- whether a request gives a byte
abbrev pub will_give : Faults → List Region → WholeRequest → ℕ → Bool
will_give faults regions q x = gives (own faults regions q) q.bytes x

-- one in flight on the shadow alone is what a message becomes
pub record IsFinal (board : Board) (shadow : Shadow) (place : Place) : Type 0 where
  pub begun : comes board.clients place.client ≡ true
  pub there : place ≡ due_at place.client (shadow.finals place.client).source

-- a request in flight on the board has one beside it on the shadow
pub record HasBeside (shadow : Shadow) (place : Place) (flight : InFlight) : Type 0 where
  pub other : InFlight
  pub there : flight_at shadow.clients place ≡ Some other
  pub behind : IsBehind (shadow.fates place) flight other

-- and so has a message that has begun, as what it becomes
pub record HasBecome (faults : Faults) (regions : List Region) (clients : List ClientBoard) (coming : Footprint) (client : ℕ) (q : WholeRequest) : Type 0 where
  pub other : InFlight
  pub there : flight_at clients (due_at client q.source) ≡ Some other
  pub becomes : IsComing faults regions coming q other

-- what both know of a byte: it is the same, and not indeterminate on the shadow
pub record IsSame (board : Board) (shadow : Shadow) (x : ℕ) : Type 0 where
  pub byte : shadow.bytes x ≡ board.memory.bytes x
  pub certain : shadow.indeterminate x ≡ false

-- what is known of a byte that a request gives which has begun: it stands on the shadow already
pub record IsGiven (faults : Faults) (regions : List Region) (bytes : Bytes) (indeterminate : ℕ → Bool) (q : WholeRequest) (x : ℕ) : Type 0 where
  pub byte : (m : Bytes) → bytes x ≡ carry faults regions q m x
  pub certain : indeterminate x ≡ false

pub record IsAhead (board : Board) (shadow : Shadow) : Type 0 where
  pub sources : HaveAllSources board.clients
  pub small : AreBytes board.memory.bytes
  pub many : length shadow.clients ≡ length board.clients
  pub placed : (place : Place) (flight : InFlight) → flight_at board.clients place ≡ Some flight → HasBeside shadow place flight
  pub begun : (client : ℕ) → comes board.clients client ≡ true
      → HasBecome board.memory.faults board.memory.regions shadow.clients (coming_at board.clients client) client (shadow.finals client)
  pub others : (place : Place) (other : InFlight) → flight_at shadow.clients place ≡ Some other → flight_at board.clients place ≡ None
      → IsFinal board shadow place
  pub waits : (client : ℕ) → comes board.clients client ≡ true → flight_at board.clients (due_at client (shadow.finals client).source) ≡ None
  pub known : (x : ℕ) → board.indeterminate x ≡ false
      → ((client : ℕ) → comes board.clients client ≡ true → will_give board.memory.faults board.memory.regions (shadow.finals client) x ≡ false)
      → NoneFated board.clients shadow.fates x
      → IsSame board shadow x
  pub given : (client x : ℕ) → comes board.clients client ≡ true → (coming_at board.clients client).determined x ≡ true
      → will_give board.memory.faults board.memory.regions (shadow.finals client) x ≡ true
      → IsGiven board.memory.faults board.memory.regions shadow.bytes shadow.indeterminate (shadow.finals client) x

-- ---- what the requests on the shadow may do

-- one writes no more than another
pub record IsWithin (theirs mine : Footprint) : Type 0 where
  pub writes : theirs.writes ≡ true → mine.writes ≡ true
  pub address : theirs.writes ≡ true → mine.address ≡ theirs.address
  pub size : theirs.writes ≡ true → mine.size ≡ theirs.size

pub within_writes : (theirs mine : Footprint) (x : ℕ) → IsWithin theirs mine → may_write mine x ≡ false → may_write theirs x ≡ false
within_writes theirs mine x within none = grind (arith, within, none)

-- whether one depends on another that writes, and has a byte
abbrev pub touches : Footprint → ℕ → Footprint → Bool
touches other x footprint = depends_on footprint other && covers footprint x

touches_less : (theirs mine footprint : Footprint) (x : ℕ) → IsWithin theirs mine → touches mine x footprint ≡ false → touches theirs x footprint ≡ false
touches_less theirs mine footprint x within none = grind (arith, within, none)

-- what has begun reads nothing
pub reads_nothing : (faults : Faults) (regions : List Region) (coming : Footprint) (q : WholeRequest) (theirs : InFlight) → IsComing faults regions coming q theirs
    → theirs.footprint.reads ≡ false
reads_nothing faults regions coming q theirs is = ap (λ (r : Footprint). r.reads) is.acts ∙ grind (arith, is.silent)

-- and writes no more than it may
pub becomes_within : (faults : Faults) (regions : List Region) (coming : Footprint) (q : WholeRequest) (theirs : InFlight) → IsComing faults regions coming q theirs
    → IsWithin theirs.footprint coming
becomes_within faults regions coming q theirs is = grind (arith, is)

-- what has begun gives nothing where it may not write
pub none_given : (faults : Faults) (regions : List Region) (coming : Footprint) (q : WholeRequest) (theirs : InFlight) (x : ℕ) → IsComing faults regions coming q theirs
    → may_write coming x ≡ false → will_give faults regions q x ≡ false
none_given faults regions coming q theirs x is none =
    let own_none : may_write (own faults regions q) x ≡ false =
    sym (ap (λ (r : Footprint). may_write r x) is.acts) ∙ within_writes theirs.footprint coming x (becomes_within faults regions coming q theirs is) none in
    grind (arith, own_none, (acts faults regions q is.well).within x)

module _ (board : Board) (shadow : Shadow) (ahead : IsAhead board shadow) where
  -- a test that passes nothing on the board passes nothing on the shadow, if it asks the same of those that act the same, and passes none of those that
  -- have begun
  at_shadow : (test : Footprint → Bool) → test no_footprint ≡ false
      → ((footprint : Footprint) → (footprint.reads || footprint.writes) ≡ false → test footprint ≡ false)
      → ((mine theirs : Footprint) → mine ≡ record theirs { failed = mine.failed; determined = mine.determined } → test mine ≡ test theirs)
      → ((client : ℕ) (other : InFlight) → IsComing board.memory.faults board.memory.regions (coming_at board.clients client) (shadow.finals client) other
      → test (coming_at board.clients client) ≡ false → test other.footprint ≡ false)
      → list_any test (footprints_of board.clients) ≡ false → (i : Place) → test (footprint_at shadow.clients i) ≡ false
  at_shadow test nobody idle same becomes none i = by_shadow (flight_at shadow.clients i) refl
    where
      own_or_coming : (other : InFlight) (o : Option InFlight) → flight_at shadow.clients i ≡ Some other → flight_at board.clients i ≡ o → test other.footprint ≡ false
      own_or_coming other (Some flight) there is =
          let beside = ahead.placed i flight is in
          let one : Some other ≡ Some beside.other = sym there ∙ beside.there in
          let it : other ≡ beside.other = cc (one) in
          ap (λ (f : InFlight). test f.footprint) it
          ∙ elim (cases_Bool (beside.other.footprint.reads || beside.other.footprint.writes)) [
            | inl does ↦
                sym (same flight.footprint beside.other.footprint (beside.behind.acts does))
                ∙ ap (λ (o : Option InFlight). test (footprint_in o)) (sym is) ∙ each_of test nobody board.clients none i.client i.source
            | inr does_nothing ↦ idle beside.other.footprint does_nothing
          ]
      own_or_coming other None there is =
          let final = ahead.others i other there is in
          let become = ahead.begun i.client final.begun in
          let one : Some other ≡ Some become.other = sym there ∙ ap (flight_at shadow.clients) final.there ∙ become.there in
          let it : other ≡ become.other = cc (one) in
          ap (λ (f : InFlight). test f.footprint) it ∙ becomes i.client become.other become.becomes (each_coming test nobody board.clients none i.client)

      by_shadow : (o : Option InFlight) → flight_at shadow.clients i ≡ o → test (footprint_in (flight_at shadow.clients i)) ≡ false
      by_shadow None is = ap (λ (o : Option InFlight). test (footprint_in o)) is ∙ nobody
      by_shadow (Some other) is = grind (arith, is, own_or_coming other (flight_at board.clients i) is refl)

  -- what nobody may write
  pub shadow_writes : (x : ℕ) → list_any (λ r. may_write r x) (footprints_of board.clients) ≡ false → (i : Place) → may_write (footprint_at shadow.clients i) x ≡ false
  shadow_writes x =
      at_shadow (λ r. may_write r x) refl (λ r nothing. grind (arith, nothing)) (λ mine theirs is. ap (λ (r : Footprint). may_write r x) is)
      (λ client other coming none. within_writes other.footprint (coming_at board.clients client) x
      (becomes_within board.memory.faults board.memory.regions (coming_at board.clients client) (shadow.finals client) other coming) none)

  -- what depends on one that writes no more
  pub shadow_touches : (theirs mine : Footprint) (x : ℕ) → IsWithin theirs mine → list_any (touches mine x) (footprints_of board.clients) ≡ false
      → (i : Place) → touches theirs x (footprint_at shadow.clients i) ≡ false
  shadow_touches theirs mine x within none i =
      touches_less theirs mine (footprint_at shadow.clients i) x within
      (at_shadow (touches mine x) (grind arith) (λ r nothing. grind (arith, nothing)) (λ one other is. ap (touches mine x) is)
      (λ client other coming nothing. grind (arith, reads_nothing board.memory.faults board.memory.regions (coming_at board.clients client) (shadow.finals client) other coming)) none i)
