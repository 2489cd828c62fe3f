-- The entries of an order: the places of those whose replies haven't ended, and what holds of each with the bytes before it.
use Rattle.std.proofs.Common.{◌≡◌, ℕ, ◌==◌, Bool, true, false, List, [], ◌∷◌, ◌++◌, drop, Option, Some, None, if◌then◌else◌, refl, sym, arith}
use Rattle.std.specs.List.{AllByRecursion, list_any}
use Rattle.std.proofs.lemmas.Bool.{or_parts}
use Rattle.std.proofs.lemmas.List.Folds.{list_any-append}
use Rattle.bus_words.proofs.PlaceChanges.{all-map}
use Rattle.tl_messages.specs.Requests.{WholeRequest}
use Rattle.burst_plan.specs.declared.Region.{Region}
use Rattle.responses.specs.Shown.{shown}
use Rattle.subordinate.specs.Faults.{Faults}
use Rattle.meaning.specs.Meaning.{Bytes, meaning}
use Rattle.scoreboard.specs.Orders.{Entry, Order, has_ended}
use Rattle.scoreboard.specs.Flights.{InFlight}
use Rattle.scoreboard.proofs.real_time.Places.{Place}
use Rattle.scoreboard.proofs.real_time.RequestActs.{AreBytes, IsWell, own}

-- the place of a request: of its source until the first beat of its reply, and then of the reply that has begun
abbrev pub place_of : Entry → Place
place_of entry = record { client = entry.client; source = if entry.came == 0 then Some entry.request.source else None }

-- two entries whose replies haven't ended are in different places
abbrev pub Differ : Entry → Entry → Type 0
Differ entry other = has_ended entry ≡ false → has_ended other ≡ false → place_of entry ≡ place_of other → ⊥

abbrev pub AreDistinct : Order → Type 0
AreDistinct [] = Unit {0}
AreDistinct (entry ∷ order) = AllByRecursion (Differ entry) order × AreDistinct order

-- an entry is in no place, or in another one
abbrev pub IsElsewhere : Place → Entry → Type 0
IsElsewhere place entry = has_ended entry ≡ false → place_of entry ≡ place → ⊥

module _ (faults : Faults) (regions : List Region) where
  -- the bytes after an entry, and after all of an order
  abbrev pub carry : WholeRequest → Bytes → Bytes
  carry q m = (meaning faults regions q m).after

  abbrev pub run : Bytes → Order → Bytes
  run m [] = m
  run m (entry ∷ order) = run (carry entry.request m) order

  -- what holds of each entry, with the bytes before it
  abbrev pub Each : (Entry → Bytes → Type 0) → Bytes → Order → Type 0
  Each P m [] = Unit {0}
  Each P m (entry ∷ order) = P entry m × Each P (carry entry.request m) order

  -- an entry whose reply hasn't ended: it is in flight at its place, acts as its footprint says, and what is left of its reply was made of bytes that are
  -- the same, where they are determined, as those before it
  pub record IsLive (flights : Place → Option InFlight) (entry : Entry) (m : Bytes) : Type 0 where
    pub flight : InFlight
    pub there : flights (place_of entry) ≡ Some flight
    pub source : flight.source ≡ entry.request.source
    pub acting : flight.footprint ≡ record (own faults regions entry.request) { determined = flight.footprint.determined }
    pub made_of : Bytes
    pub bytes : AreBytes made_of
    pub left : flight.beats ≡ drop entry.came (shown entry.request (meaning faults regions entry.request made_of).reply)
    pub same : (x : ℕ) → (own faults regions entry.request).reads ≡ true → flight.footprint.determined x ≡ true → made_of x ≡ m x

  pub record Stands (flights : Place → Option InFlight) (entry : Entry) (m : Bytes) : Type 0 where
    pub well : IsWell entry.request
    pub whole : entry.whole ≡ true
    pub live : has_ended entry ≡ false → IsLive flights entry m

  pub run-append : (m : Bytes) (before after : Order) → run m (before ++ after) ≡ run (run m before) after
  run-append m [] after = refl
  run-append m (entry ∷ before) after = run-append (carry entry.request m) before after

  pub each_parts : (P : Entry → Bytes → Type 0) (m : Bytes) (before after : Order) → Each P m (before ++ after) → Each P m before × Each P (run m before) after
  each_parts P m [] after each = (tt, each)
  each_parts P m (entry ∷ before) after each = let rest = each_parts P (carry entry.request m) before after each.1 in ((each.0, rest.0), rest.1)

  pub each_joined : (P : Entry → Bytes → Type 0) (m : Bytes) (before after : Order) → Each P m before → Each P (run m before) after
      → Each P m (before ++ after)
  each_joined P m [] after first last = last
  each_joined P m (entry ∷ before) after first last = (first.0, each_joined P (carry entry.request m) before after first.1 last)

-- ---- of all entries

-- one more in an order
pub all_with : (P : Entry → Type 0) (before after : Order) (entry : Entry) → AllByRecursion P (before ++ after) → P entry
    → AllByRecursion P (before ++ entry ∷ after)
all_with P [] after entry all own = (own, all)
all_with P (first ∷ before) after entry all own = (all.0, all_with P before after entry all.1 own)

pub any_with : (test : Entry → Bool) (before after : Order) (entry : Entry) → list_any test (before ++ after) ≡ true → list_any test (before ++ entry ∷ after) ≡ true
any_with test before after entry some = grind (arith, list_any-append test before after, list_any-append test before (entry ∷ after), some)

pub any_here : (test : Entry → Bool) (before after : Order) (entry : Entry) → test entry ≡ true → list_any test (before ++ entry ∷ after) ≡ true
any_here test before after entry is = grind (arith, list_any-append test before (entry ∷ after), is)

pub distinct_after : (before after : Order) → AreDistinct (before ++ after) → AreDistinct after
distinct_after [] after distinct = distinct
distinct_after (entry ∷ before) after distinct = distinct_after before after distinct.1

-- one more, in a place of its own
pub distinct_with : (before after : Order) (entry : Entry) → AreDistinct (before ++ after) → AllByRecursion (IsElsewhere (place_of entry)) (before ++ after)
    → AreDistinct (before ++ entry ∷ after)
distinct_with [] after entry distinct elsewhere =
    (all-map (IsElsewhere (place_of entry)) (Differ entry) after (λ other away live alive same. away alive (sym same)) elsewhere, distinct)
distinct_with (first ∷ before) after entry distinct elsewhere = (
  all_with (Differ first) before after entry distinct.0 (λ live alive same. elsewhere.0 live same),
  distinct_with before after entry distinct.1 elsewhere.1,
)

-- none has ended
pub none_ended : (order : Order) → list_any has_ended order ≡ false → AllByRecursion (λ entry. has_ended entry ≡ false) order
none_ended [] none = tt
none_ended (entry ∷ order) none = let parts = or_parts (has_ended entry) (list_any has_ended order) none in (parts.0, none_ended order parts.1)
