-- A request that is put into an order behind all that have ended: what was known of bytes and entries is known still.
use Rattle.std.proofs.Common.{◌≡◌, ℕ, Bool, true, false, ◌&&◌, ◌||◌, not, List, [], ◌∷◌, ◌++◌, drop, Option, Some, ◌⊎◌, inl, inr, refl, sym, ◌∙◌, ap, arith}
use Rattle.std.specs.Prelude.{is_some, option_map}
use Rattle.std.specs.List.{AllByRecursion, list_any}
use Rattle.std.proofs.lemmas.Bool.{and_parts, both_ways, cases_Bool, or_from, or_parts}
use Rattle.bus_words.proofs.PlaceChanges.{all-map}
use Rattle.bus_words.specs.Lanes.{given_at}
use Rattle.tl_messages.specs.Requests.{WholeRequest}
use Rattle.burst_plan.specs.declared.Region.{Region}
use Rattle.responses.specs.Shown.{shown}
use Rattle.subordinate.specs.Faults.{Faults}
use Rattle.meaning.specs.Meaning.{Bytes, meaning}
use Rattle.scoreboard.specs.Orders.{Entry, Order, has_ended}
use Rattle.scoreboard.specs.Flights.{Footprint, InFlight}
use Rattle.scoreboard.specs.Races.{after_given, after_joining, covers, depends_on, flight_beside, is_fixed, may_write}
use Rattle.scoreboard.proofs.real_time.Entries.{AreDistinct, Differ, Each, IsElsewhere, Stands, carry, distinct_after, each_joined, each_parts, none_ended, place_of, run, run-append}
use Rattle.scoreboard.proofs.real_time.Places.{Place, footprint_in}
use Rattle.scoreboard.proofs.real_time.RequestActs.{Acts, AreBytes, IsWell, acts, gives, own}
use Rattle.scoreboard.specs.Resets.{AreUnended, left_in}
use Rattle.scoreboard.proofs.MappedLists.{all_parts}
use Rattle.scoreboard.proofs.real_time.Spared.{AreSpared, Leave, all_left, all_old, all_own, leaves_unwritten, left_append}
use Rattle.scoreboard.proofs.real_time.Apart.{AreAll, AreApart, AreEither, AreJoined, IsJoining, fixed_determined, joined_apart, joined_either}

module _ (faults : Faults) (regions : List Region) where
  -- a request that may not write a byte keeps it
  unwritten_kept : (q : WholeRequest) (m : Bytes) (x : ℕ) → IsWell q → may_write (own faults regions q) x ≡ false → carry faults regions q m x ≡ m x
  unwritten_kept q m x well none = (acts faults regions q well).keeps m x (grind (arith, none, (acts faults regions q well).within x))

  -- a byte that none of an order may write
  abbrev Leaves : ℕ → Entry → Type 0
  Leaves x entry = IsWell entry.request × (may_write (own faults regions entry.request) x ≡ false)

  untouched : (order : Order) (m : Bytes) (x : ℕ) → AllByRecursion (Leaves x) order → run faults regions m order x ≡ m x
  untouched [] m x all = refl
  untouched (entry ∷ order) m x all = untouched order (carry faults regions entry.request m) x all.1 ∙ unwritten_kept entry.request m x all.0.0 all.0.1

-- a request joins those in flight, and stands before some of them that haven't ended
module _ (faults : Faults) (regions : List Region) (flights new_flights : Place → Option InFlight) (listed : List Footprint) (indeterminate : ℕ → Bool)
    (bytes : Bytes) (entry : Entry) (flight : InFlight)
    (well : IsWell entry.request) (whole : entry.whole ≡ true)
    (acting : flight.footprint ≡ record (own faults regions entry.request) { determined = flight.footprint.determined })
    (joining : IsJoining indeterminate (λ i. footprint_in (flights i)) flight.footprint entry.request.bytes)
    (are : AreAll (λ i. footprint_in (flights i)) listed) (apart : AreApart (λ i. footprint_in (flights i))) (either : AreEither indeterminate (λ i. footprint_in (flights i)))
    (there : new_flights (place_of entry) ≡ Some flight)
    (others : (i : Place) → (i ≡ place_of entry → ⊥) → new_flights i ≡ option_map (flight_beside flight.footprint) (flights i)) where
  abbrev footprint : Footprint
  footprint = flight.footprint

  abbrev footprints : Place → Footprint
  footprints i = footprint_in (flights i)

  abbrev now_footprints : Place → Footprint
  now_footprints i = footprint_in (new_flights i)

  abbrev now_indeterminate : ℕ → Bool
  now_indeterminate = after_joining indeterminate listed footprint entry.request.bytes

  abbrev Held : Entry → Bytes → Type 0
  Held = Stands faults regions flights

  abbrev HeldNow : Entry → Bytes → Type 0
  HeldNow = Stands faults regions new_flights

  with_it : AreJoined footprints now_footprints (place_of entry) footprint
  with_it = record { own = ap footprint_in there; others = λ i differ. grind (arith, others i differ) }

  now_apart : AreApart now_footprints
  now_apart = joined_apart footprints now_footprints (place_of entry) footprint indeterminate entry.request.bytes with_it apart joining

  now_either : AreEither now_indeterminate now_footprints
  now_either = joined_either indeterminate footprints listed footprint entry.request.bytes are joining now_footprints (place_of entry) with_it apart either

  -- ---- the request that joins

  same_gives : (x : ℕ) → gives (own faults regions entry.request) entry.request.bytes x ≡ gives footprint entry.request.bytes x
  same_gives x = ap (λ (r : Footprint). gives r entry.request.bytes x) (sym acting)

  not_written : (x : ℕ) → may_write footprint x ≡ false → gives footprint entry.request.bytes x ≡ false
  not_written x none = grind (arith, none, joining.within x)

  kept : (m : Bytes) (x : ℕ) → gives footprint entry.request.bytes x ≡ false → carry faults regions entry.request m x ≡ m x
  kept m x none = (acts faults regions entry.request well).keeps m x (same_gives x ∙ none)

  -- ---- those behind it

  -- one in flight, at a place of its own
  record IsInFlight (other : Entry) : Type 0 where
    pub live : has_ended other ≡ false
    pub fits : IsWell other.request
    pub acts_so : now_footprints (place_of other) ≡ record (own faults regions other.request) { determined = (now_footprints (place_of other)).determined }
    pub elsewhere : place_of other ≡ place_of entry → ⊥

  in_flight : (m : Bytes) (order : Order) → Each faults regions Held m order → AllByRecursion (λ other. has_ended other ≡ false) order
      → AllByRecursion (IsElsewhere (place_of entry)) order
      → AllByRecursion IsInFlight order
  in_flight m [] each live elsewhere = tt
  in_flight m (other ∷ order) each live elsewhere =
      grind (arith, each, live, elsewhere, place_of other, place_of entry, in_flight (carry faults regions other.request m) order each.1 live.1 elsewhere.1)

  -- what is determined of it the one that joins may not write
  unwritten : (other : Entry) (x : ℕ) → (place_of other ≡ place_of entry → ⊥) → (now_footprints (place_of other)).determined x ≡ true
      → may_write footprint x ≡ false
  unwritten other x away determined = grind (arith, away, determined)

  -- what is determined of the one that joins they leave
  leaves_determined : (order : Order) (x : ℕ) → AllByRecursion IsInFlight order → footprint.determined x ≡ true → AllByRecursion (Leaves faults regions x) order
  leaves_determined order x all determined =
      all-map IsInFlight (Leaves faults regions x) order (λ other is. (
        is.fits,
        sym (ap (λ (r : Footprint). may_write r x) is.acts_so)
            ∙ ap (λ (r : Footprint). may_write r x) (with_it.others (place_of other) is.elsewhere) ∙ joining.alone (place_of other) x determined,
      )) all

  -- the bytes that may not be what they were
  abbrev touched : ℕ → Bool
  touched x = gives footprint entry.request.bytes x || now_indeterminate x

  run_outside : (order : Order) (m n : Bytes) → AllByRecursion IsInFlight order → ((x : ℕ) → touched x ≡ false → m x ≡ n x) → (x : ℕ) → touched x ≡ false
      → run faults regions m order x ≡ run faults regions n order x
  run_outside [] m n all agree x out = agree x out
  run_outside (other ∷ order) m n all agree x out =
      run_outside order (carry faults regions other.request m) (carry faults regions other.request n) all.1
      (λ y outside. one y outside (cases_Bool (gives its other.request.bytes y))) x out
    where
      its : Footprint
      its = own faults regions other.request

      its_acts : Acts (carry faults regions other.request) its other.request.bytes
      its_acts = acts faults regions other.request all.0.fits

      one : (y : ℕ) → touched y ≡ false → (gives its other.request.bytes y ≡ true) ⊎ (gives its other.request.bytes y ≡ false)
          → carry faults regions other.request m y ≡ carry faults regions other.request n y
      one y outside (inr given) = its_acts.keeps m y given ∙ agree y outside ∙ sym (its_acts.keeps n y given)
      one y outside (inl given) = its_acts.same m n y given reading
        where
          parts : (its.writes ≡ true) × (is_some (given_at other.request.bytes its.address y) ≡ true)
          parts = and_parts its.writes (is_some (given_at other.request.bytes its.address y)) given

          covered : covers (now_footprints (place_of other)) y ≡ true
          covered = ap (λ (r : Footprint). covers r y) all.0.acts_so ∙ its_acts.within y parts.1

          reading : its.reads ≡ true → (z : ℕ) → covers its z ≡ true → m z ≡ n z
          reading reads z there =
              elim (now_either.either (place_of other) (ap (λ (r : Footprint). r.reads) all.0.acts_so ∙ reads) (ap (λ (r : Footprint). r.writes) all.0.acts_so ∙ parts.0)) [
                | inl doubted ↦ absurd (both_ways (now_indeterminate y) (or_parts (gives footprint entry.request.bytes y) (now_indeterminate y) outside).1 (doubted y covered))
                | inr determined ↦
                    let has = determined z (ap (λ (r : Footprint). covers r z) all.0.acts_so ∙ there) in
                    let none = not_written z (unwritten other z all.0.elsewhere has.0) in
                    agree z (or_from (gives footprint entry.request.bytes z) (now_indeterminate z) none has.1)
              ]

  -- ---- the entries

  -- one that stood, with bytes that are the same where it is determined now
  stands_still : (other : Entry) (m n : Bytes) → IsElsewhere (place_of entry) other → Held other m
      → (has_ended other ≡ false → (x : ℕ) → (now_footprints (place_of other)).determined x ≡ true → m x ≡ n x) → HeldNow other n
  stands_still other m n elsewhere held agree = grind (arith, elsewhere, held, agree, well, whole, there, acting, place_of other, place_of entry)

  each_stands : (order : Order) (m : Bytes) → AllByRecursion (IsElsewhere (place_of entry)) order → Each faults regions Held m order
      → Each faults regions HeldNow m order
  each_stands [] m elsewhere each = tt
  each_stands (other ∷ order) m elsewhere each =
      (stands_still other m m elsewhere.0 each.0 (λ alive x determined. refl), each_stands order (carry faults regions other.request m) elsewhere.1 each.1)

  -- bytes that are the same where one of those behind is determined
  abbrev Agree : Bytes → Bytes → Entry → Type 0
  Agree m n other = (x : ℕ) → (now_footprints (place_of other)).determined x ≡ true → m x ≡ n x

  agree_next : (first : Entry) (order : Order) (m n : Bytes) → IsInFlight first → AllByRecursion IsInFlight order → AllByRecursion (Differ first) order
      → AllByRecursion (Agree m n) order
      → AllByRecursion (Agree (carry faults regions first.request m) (carry faults regions first.request n)) order
  agree_next first [] m n mine all distinct agree = tt
  agree_next first (other ∷ order) m n mine all distinct agree = (
    (λ x determined.
        let leaves = sym (ap (λ (r : Footprint). may_write r x) mine.acts_so)
        ∙ now_apart.apart (place_of other) (place_of first) x (λ same. distinct.0 mine.live all.0.live (sym same)) determined in
        unwritten_kept faults regions first.request m x mine.fits leaves ∙ agree.0 x determined
        ∙ sym (unwritten_kept faults regions first.request n x mine.fits leaves)),
    agree_next first order m n mine all.1 distinct.1 agree.1,
  )

  each_behind : (order : Order) (m n : Bytes) → AllByRecursion IsInFlight order → AreDistinct order → AllByRecursion (Agree m n) order
      → Each faults regions Held m order → Each faults regions HeldNow n order
  each_behind [] m n all distinct agree each = tt
  each_behind (other ∷ order) m n all distinct agree each = (
    stands_still other m n (λ alive. all.0.elsewhere) each.0 (λ alive. agree.0),
    each_behind order (carry faults regions other.request m) (carry faults regions other.request n) all.1 distinct.1
        (agree_next other order m n all.0 all.1 distinct.0 agree.1) each.1,
  )

  agree_first : (order : Order) (m : Bytes) → AllByRecursion IsInFlight order → AllByRecursion (Agree m (carry faults regions entry.request m)) order
  agree_first order m all =
      all-map IsInFlight (Agree m (carry faults regions entry.request m)) order
      (λ other is x determined. sym (kept m x (not_written x (unwritten other x is.elsewhere determined)))) all

  -- all that is known of the order with the request
  pub record IsInserted (before after : Order) (m : Bytes) : Type 0 where
    pub apart_now : AreApart now_footprints
    pub either_now : AreEither now_indeterminate now_footprints
    pub entries : Each faults regions HeldNow m (before ++ entry ∷ after)
    pub known : (x : ℕ) → now_indeterminate x ≡ false → run faults regions m (before ++ entry ∷ after) x ≡ carry faults regions entry.request bytes x
    pub spared_now : AreSpared faults regions now_indeterminate m (before ++ entry ∷ after)

  pub inserted : (before after : Order) (m : Bytes) → Each faults regions Held m (before ++ after) → list_any has_ended after ≡ false
      → AllByRecursion (IsElsewhere (place_of entry)) (before ++ after) → AreDistinct (before ++ after)
      → ((x : ℕ) → indeterminate x ≡ false → run faults regions m (before ++ after) x ≡ bytes x)
      → flight.source ≡ entry.request.source → AreBytes bytes
      → flight.beats ≡ drop entry.came (shown entry.request (meaning faults regions entry.request bytes).reply)
      → AreSpared faults regions indeterminate m (before ++ after)
      → IsInserted before after m
  inserted before after m each live elsewhere distinct known source are_bytes left spared =
      record {
        apart_now = now_apart;
        either_now = now_either;
        entries = each_joined faults regions HeldNow m before (entry ∷ after)
            (each_stands before m away.0 held.0) (
              record {
                well = well;
                whole = whole;
                live = λ alive. record {
                  flight = flight;
                  there = there;
                  source = source;
                  acting = acting;
                  made_of = bytes;
                  bytes = are_bytes;
                  left = left;
                  same = λ x reads determined. sym (reads_known x reads determined);
                };
              },
              each_behind after mid (carry faults regions entry.request mid) behind (distinct_after before after distinct) (agree_first after mid behind) held.1,
            );
        known = λ x certain. ap (λ (f : Bytes). f x) (run-append faults regions m before (entry ∷ after)) ∙ known_now x certain (gives footprint entry.request.bytes x) refl;
        spared_now = λ gone unended x certain leave.
            ap (λ (some : Order). run faults regions m some x) (left_append gone before (entry ∷ after))
            ∙ ap (λ (f : Bytes). f x) (run-append faults regions m (left_in gone before) (left_in gone (entry ∷ after)))
            ∙ by_gone gone unended x certain leave (gone entry.number) refl
            ∙ sym (ap (λ (f : Bytes). f x) (run-append faults regions m before (entry ∷ after)));
      }
    where
      mid : Bytes
      mid = run faults regions m before

      held : Each faults regions Held m before × Each faults regions Held mid after
      held = each_parts faults regions Held m before after each

      away : AllByRecursion (IsElsewhere (place_of entry)) before × AllByRecursion (IsElsewhere (place_of entry)) after
      away = all_parts (IsElsewhere (place_of entry)) before after elsewhere

      behind : AllByRecursion IsInFlight after
      behind = in_flight mid after held.1 (none_ended after live) away.1

      -- the bytes where it stands: what is known behind it is known there, where it is determined
      known_mid : (x : ℕ) → indeterminate x ≡ false → run faults regions mid after x ≡ bytes x
      known_mid x is = sym (ap (λ (f : Bytes). f x) (run-append faults regions m before after)) ∙ known x is

      reads_known : (x : ℕ) → (own faults regions entry.request).reads ≡ true → footprint.determined x ≡ true → mid x ≡ bytes x
      reads_known x reads determined =
          sym (untouched faults regions after mid x (leaves_determined after x behind determined))
          ∙ known_mid x (joining.known x (ap (λ (r : Footprint). r.reads) acting ∙ reads) determined)

      given_now : (x : ℕ) → now_indeterminate x ≡ false → after_given indeterminate footprint entry.request.bytes x ≡ false
      given_now x certain = (or_parts (after_given indeterminate footprint entry.request.bytes x) (list_any (λ r. depends_on r footprint && covers r x) listed) certain).0

      known_now : (x : ℕ) → now_indeterminate x ≡ false → (g : Bool) → gives footprint entry.request.bytes x ≡ g
          → run faults regions (carry faults regions entry.request mid) after x ≡ carry faults regions entry.request bytes x
      known_now x certain false given =
          run_outside after (carry faults regions entry.request mid) mid behind
          (λ y out. kept mid y (or_parts (gives footprint entry.request.bytes y) (now_indeterminate y) out).0) x (or_from (gives footprint entry.request.bytes x) (now_indeterminate x) given certain)
          ∙ known_mid x (rw given at (given_now x certain))
          ∙ sym (kept bytes x given)
      known_now x certain true given =
          let doubt : not (footprint.determined x && is_fixed footprint) ≡ false = rw given at (given_now x certain) in
          let both = and_parts (footprint.determined x) (is_fixed footprint) (grind (arith, doubt)) in
          untouched faults regions after (carry faults regions entry.request mid) x (leaves_determined after x behind both.0)
          ∙ (acts faults regions entry.request well).same mid bytes x (same_gives x ∙ given)
          (λ reads y covered. reads_known y reads (fixed_determined footprint y both.1 (ap (λ (r : Footprint). r.reads) acting ∙ reads)
          (ap (λ (r : Footprint). covers r y) acting ∙ covered)))

      -- ---- where some of those that haven't ended never take effect

      mid_left : (ℕ → Bool) → Bytes
      mid_left gone = run faults regions m (left_in gone before)

      behind_left : (gone : ℕ → Bool) → AllByRecursion IsInFlight (left_in gone after)
      behind_left gone = all_left IsInFlight gone after behind

      unended_old : (gone : ℕ → Bool) → AreUnended gone (before ++ entry ∷ after) → AreUnended gone (before ++ after)
      unended_old gone unended = all_old (λ other. gone other.number ≡ true → has_ended other ≡ false) before after entry unended

      -- what was known of them without it
      spared_mid : (gone : ℕ → Bool) → AreUnended gone (before ++ entry ∷ after) → (x : ℕ) → indeterminate x ≡ false
          → Leave faults regions gone x (before ++ after) → run faults regions (mid_left gone) (left_in gone after) x ≡ run faults regions mid after x
      spared_mid gone unended x is leave =
          sym (ap (λ (f : Bytes). f x) (run-append faults regions m (left_in gone before) (left_in gone after)))
          ∙ sym (ap (λ (some : Order). run faults regions m some x) (left_append gone before after))
          ∙ spared gone (unended_old gone unended) x is leave
          ∙ ap (λ (f : Bytes). f x) (run-append faults regions m before after)

      -- what it reads and is determined is the same
      reads_left : (gone : ℕ → Bool) → AreUnended gone (before ++ entry ∷ after) → (x : ℕ) → (own faults regions entry.request).reads ≡ true
          → footprint.determined x ≡ true → mid_left gone x ≡ mid x
      reads_left gone unended x reads determined =
          sym (untouched faults regions (left_in gone after) (mid_left gone) x (leaves_determined (left_in gone after) x (behind_left gone) determined))
          ∙ spared_mid gone unended x (joining.known x (ap (λ (r : Footprint). r.reads) acting ∙ reads) determined)
          (leaves_unwritten faults regions flights gone x (λ i. joining.alone i x determined) (before ++ after) m each (unended_old gone unended))
          ∙ untouched faults regions after mid x (leaves_determined after x behind determined)

      -- what it doesn't give is the same without it
      beside_it : (n : Bytes) (order : Order) → AllByRecursion IsInFlight order → (x : ℕ) → now_indeterminate x ≡ false
          → gives footprint entry.request.bytes x ≡ false
          → run faults regions (carry faults regions entry.request n) order x ≡ run faults regions n order x
      beside_it n order flying x certain given =
          run_outside order (carry faults regions entry.request n) n flying
          (λ y away. kept n y (or_parts (gives footprint entry.request.bytes y) (now_indeterminate y) away).0) x
          (or_from (gives footprint entry.request.bytes x) (now_indeterminate x) given certain)

      not_gone : (gone : ℕ → Bool) → AreUnended gone (before ++ entry ∷ after) → (x : ℕ) → now_indeterminate x ≡ false
          → Leave faults regions gone x (before ++ after) → (g : Bool) → gives footprint entry.request.bytes x ≡ g
          → run faults regions (carry faults regions entry.request (mid_left gone)) (left_in gone after) x ≡ run faults regions (carry faults regions entry.request mid) after x
      not_gone gone unended x certain leave false given =
          beside_it (mid_left gone) (left_in gone after) (behind_left gone) x certain given
          ∙ spared_mid gone unended x (rw given at (given_now x certain)) leave
          ∙ sym (beside_it mid after behind x certain given)
      not_gone gone unended x certain leave true given =
          let doubt : not (footprint.determined x && is_fixed footprint) ≡ false = rw given at (given_now x certain) in
          let both = and_parts (footprint.determined x) (is_fixed footprint) (grind (arith, doubt)) in
          untouched faults regions (left_in gone after) (carry faults regions entry.request (mid_left gone)) x (leaves_determined (left_in gone after) x (behind_left gone) both.0)
          ∙ (acts faults regions entry.request well).same (mid_left gone) mid x (same_gives x ∙ given)
          (λ reads y covered. reads_left gone unended y reads (fixed_determined footprint y both.1 (ap (λ (r : Footprint). r.reads) acting ∙ reads)
          (ap (λ (r : Footprint). covers r y) acting ∙ covered)))
          ∙ sym (untouched faults regions after (carry faults regions entry.request mid) x (leaves_determined after x behind both.0))

      by_gone : (gone : ℕ → Bool) → AreUnended gone (before ++ entry ∷ after) → (x : ℕ) → now_indeterminate x ≡ false
          → Leave faults regions gone x (before ++ entry ∷ after) → (g : Bool) → gone entry.number ≡ g
          → run faults regions (mid_left gone) (left_in gone (entry ∷ after)) x ≡ run faults regions mid (entry ∷ after) x
      by_gone gone unended x certain leave false stays =
          let old = all_old (λ other. gone other.number ≡ true → may_write (own faults regions other.request) x ≡ false) before after entry leave in
          rw stays (not_gone gone unended x certain old (gives footprint entry.request.bytes x) refl)
      by_gone gone unended x certain leave true goes =
          let old = all_old (λ other. gone other.number ≡ true → may_write (own faults regions other.request) x ≡ false) before after entry leave in
          let own_none = all_own (λ other. gone other.number ≡ true → may_write (own faults regions other.request) x ≡ false) before after entry leave goes in
          let given : gives footprint entry.request.bytes x ≡ false = not_written x (ap (λ (r : Footprint). may_write r x) acting ∙ own_none) in
          rw goes (spared_mid gone unended x (rw given at (given_now x certain)) old ∙ sym (beside_it mid after behind x certain given))
