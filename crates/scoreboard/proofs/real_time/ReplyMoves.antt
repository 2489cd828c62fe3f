-- An order in which one more beat of a reply came: what was in flight at each place is there still, or has begun, or is in flight no more.
use Rattle.std.proofs.Common.{◌≡◌, ℕ, ◌+◌, ◌<◌, ◌==◌, Bool, true, false, ◌&&◌, List, [], ◌∷◌, drop, length, map, Option, Some, None, ◌⊎◌, inl, inr, refl, sym, ◌∙◌, ap, subst, subst₂, arith}
use Rattle.std.specs.Prelude.{is_some}
use Rattle.std.specs.List.{AllByRecursion, list_any}
use Rattle.std.proofs.lemmas.Bool.{both_ways, cases_eq, or_cases}
use Rattle.std.proofs.lemmas.Bool.Decides.{nat_tests}
use Rattle.std.proofs.lemmas.List.{drop-drop}
use Rattle.tl_messages.specs.declared.DBeat.{DBeat}
use Rattle.burst_plan.specs.declared.Region.{Region}
use Rattle.responses.specs.Shown.{shown}
use Rattle.subordinate.specs.Faults.{Faults}
use Rattle.meaning.specs.Meaning.{Bytes, meaning}
use Rattle.scoreboard.specs.Flights.{InFlight, begun_after, with_left}
use Rattle.scoreboard.specs.Orders.{Entry, Order, begun_to, has_ended, is_due, with_beat}
use Rattle.scoreboard.proofs.MappedLists.{any_map}
use Rattle.scoreboard.proofs.real_time.Entries.{AreDistinct, Differ, Each, IsElsewhere, IsLive, Stands, carry, place_of, run}
use Rattle.scoreboard.proofs.real_time.Lengths.{left_some, live_left, next_live, some_left}
use Rattle.scoreboard.proofs.real_time.Places.{Place, begun_at, cases_place, due_at}
use Rattle.scoreboard.proofs.real_time.Spared.{KeepsEnds}

-- whether a client's request waits for the first beat of its reply, by its source
abbrev pub waits_for : ℕ → ℕ → Entry → Bool
waits_for client source entry = entry.client == client && entry.request.source == source && entry.came == 0

-- what is in flight at the places, when a beat of a source came on a client's channel D, where it is due to the request at a place
pub record AreMoved (number source : ℕ) (from : Place) (flights new_flights : Place → Option InFlight) : Type 0 where
  pub home : from.client ≡ number
  pub next : new_flights (begun_at number) ≡ begun_after (flights from) source
  pub gone : (from ≡ begun_at number → ⊥) → new_flights from ≡ None
  pub others : (place : Place) → (place ≡ from → ⊥) → (place ≡ begun_at number → ⊥) → new_flights place ≡ flights place

module _ (faults : Faults) (regions : List Region) (P : Entry → Bytes → Type 0) where
  -- an entry that passes a test, with the bytes before it
  pub some_each : (test : Entry → Bool) (order : Order) (m : Bytes) → Each faults regions P m order → list_any test order ≡ true
      → (entry : Entry) × (n : Bytes) × P entry n × (test entry ≡ true)
  some_each test [] m each some = absurd (cc (some))
  some_each test (entry ∷ order) m each some =
      elim (or_cases (test entry) (list_any test order) some) [
        | inl here ↦ (entry, m, each.0, here)
        | inr there ↦ some_each test order (carry faults regions entry.request m) each.1 there
      ]

  -- what holds of one holds of some
  pub any_each : (test test' : Entry → Bool) (order : Order) (m : Bytes) → ((entry : Entry) (n : Bytes) → P entry n → test entry ≡ true → test' entry ≡ true)
      → Each faults regions P m order → list_any test order ≡ true → list_any test' order ≡ true
  any_each test test' [] m one each some = some
  any_each test test' (entry ∷ order) m one each some =
      grind (arith, some, one entry m each.0, any_each test test' order (carry faults regions entry.request m) one each.1)

module _ (begun : Bool) (number source : ℕ) where
  -- whether a beat counts for an entry
  abbrev pub counts : Entry → Bool
  counts entry = is_due begun number source entry && entry.request.source == source

  abbrev pub step : Entry → Entry
  step entry = with_beat begun number source entry

  pub goes_on : (entry : Entry) → entry.whole ≡ true
      → (is_due begun number source entry && entry.request.source == source) ≡ true → with_beat begun number source entry ≡ record entry { came = entry.came + 1 }
  goes_on entry whole is = rw (is, whole) refl

  pub stays : (entry : Entry) → counts entry ≡ false → step entry ≡ entry
  stays entry is = rw is refl

  -- where the beat counts for none
  pub stays_all : (faults : Faults) (regions : List Region) (flights : Place → Option InFlight) (order : Order) (m : Bytes)
      → ((entry : Entry) (n : Bytes) → Stands faults regions flights entry n → counts entry ≡ false) → Each faults regions (Stands faults regions flights) m order
      → map step order ≡ order
  stays_all faults regions flights [] m none each = refl
  stays_all faults regions flights (entry ∷ order) m none each =
      let first = stays entry (none entry m each.0) in
      let rest = stays_all faults regions flights order (carry faults regions entry.request m) none each.1 in
      cc (first, rest)

  -- what becomes of an entry, where the beat is due to the request at a place: the beat counts for it; or it has ended before, or is elsewhere
  pub data Moves (from : Place) (entry : Entry) : Type 0 where
    Goes : entry.whole ≡ true → has_ended entry ≡ false → counts entry ≡ true → place_of entry ≡ from → Moves from entry
    Stays : counts entry ≡ false → IsElsewhere from entry → IsElsewhere (begun_at number) entry → Moves from entry

  same_request : (entry : Entry) → (step entry).request ≡ entry.request
  same_request entry = grind arith

  -- the bytes are what they were
  pub run_moved : (faults : Faults) (regions : List Region) (order : Order) (m : Bytes) → run faults regions m (map step order) ≡ run faults regions m order
  run_moved faults regions [] m = refl
  run_moved faults regions (entry ∷ order) m = rw (run, same_request entry) (run_moved faults regions order (carry faults regions entry.request m))

  -- one that hasn't ended hadn't
  pub moved_keeps : KeepsEnds (with_beat begun number source)
  moved_keeps = record { number = λ entry. grind arith; request = same_request; ends = λ entry live. grind (arith, nat_tests, live) }

  -- one for which the beat counts is the one that has begun
  own_client : (entry : Entry) → counts entry ≡ true → entry.client ≡ number
  own_client entry counted = grind (arith, nat_tests, counted)

  pub place_next : (entry : Entry) → entry.whole ≡ true → (is_due begun number source entry && entry.request.source == source) ≡ true
      → place_of (with_beat begun number source entry) ≡ begun_at number
  place_next entry whole counted = rw (goes_on entry whole counted) (grind (arith, nat_tests, own_client entry counted))

  -- ---- what is in flight at the places

  module _ (faults : Faults) (regions : List Region) (from : Place) (flights new_flights : Place → Option InFlight)
      (are : AreMoved number source from flights new_flights)
      (moves : (entry : Entry) (m : Bytes) → Stands faults regions flights entry m → Moves from entry) where
    abbrev Held : Entry → Bytes → Type 0
    Held = Stands faults regions flights

    abbrev HeldNow : Entry → Bytes → Type 0
    HeldNow = Stands faults regions new_flights

    -- the one for which the beat counts has one beat fewer left
    flight_next : (entry : Entry) (m : Bytes) → counts entry ≡ true → place_of entry ≡ from → (was : IsLive faults regions flights entry m)
        → new_flights (begun_at number) ≡ with_left was.flight (drop 1 was.flight.beats)
    flight_next entry m counted place was = grind (arith, counted, place, was, are.next)

    -- one that is in flight at its place, with these beats left
    live_now : (entry : Entry) (m : Bytes) (was : IsLive faults regions flights entry m) (came : ℕ) (beats : List DBeat)
        → new_flights (place_of (record entry { came = came })) ≡ Some (record was.flight { beats = beats })
        → beats ≡ drop came (shown entry.request (meaning faults regions entry.request was.made_of).reply)
        → IsLive faults regions new_flights (record entry { came = came }) m
    live_now entry m was came beats there left = grind (arith, was, there, left)

    stands_next : (entry : Entry) (m : Bytes) → Held entry m → Moves from entry → HeldNow (step entry) m
    stands_next entry m held (Stays none away apart) = grind (arith, held, are.others)
    stands_next entry m held (Goes whole live counted place) =
        subst (λ e. HeldNow e m) (sym (goes_on entry whole counted))
        (record {
          well = held.well;
          whole = held.whole;
          live = λ alive.
              let was = held.live live in
              let reply = (meaning faults regions entry.request was.made_of).reply in
              let left = ap (λ (beats : List DBeat). drop 1 beats) was.left ∙ drop-drop 1 entry.came (shown entry.request reply) in
              live_now entry m was (entry.came + 1) (drop 1 was.flight.beats)
              (ap new_flights (ap place_of (sym (goes_on entry whole counted)) ∙ place_next entry whole counted) ∙ flight_next entry m counted place was
              ∙ some_left was.flight (drop 1 was.flight.beats)
              (subst (λ (beats : List DBeat). 0 < length beats) (sym left) (live_left (record entry { came = entry.came + 1 }) reply alive))) left;
        })

    pub each_next : (order : Order) (m : Bytes) → Each faults regions Held m order → Each faults regions HeldNow m (map step order)
    each_next [] m each = tt
    each_next (entry ∷ order) m each = (
      stands_next entry m each.0 (moves entry m each.0),
      rw (same_request entry) (each_next order (carry faults regions entry.request m) each.1),
    )

    -- ---- the places

    differ_next : (entry other : Entry) → Moves from entry → Moves from other → Differ entry other → Differ (step entry) (step other)
    differ_next entry other (Goes whole was counted place) (Goes whole_too is counts_too its_place) differ alive live same = differ was is (place ∙ sym its_place)
    differ_next entry other (Goes whole was counted place) (Stays none away apart) differ alive live same =
        let still = stays other none in apart (cc (still, live)) (cc (still, same, place_next entry whole counted))
    differ_next entry other (Stays none away apart) (Goes whole is counted place) differ alive live same =
        let still = stays entry none in apart (cc (still, alive)) (cc (still, same, place_next other whole counted))
    differ_next entry other (Stays none away apart) (Stays nor_it its_away its_apart) differ alive live same =
        subst₂ Differ (sym (stays entry none)) (sym (stays other nor_it)) differ alive live same

    differ_all : (entry : Entry) (order : Order) (m : Bytes) → Moves from entry → Each faults regions Held m order → AllByRecursion (Differ entry) order
        → AllByRecursion (Differ (step entry)) (map step order)
    differ_all entry [] m own each differ = tt
    differ_all entry (other ∷ order) m own each differ = (
      differ_next entry other own (moves other m each.0) differ.0,
      differ_all entry order (carry faults regions other.request m) own each.1 differ.1,
    )

    pub distinct_next : (order : Order) (m : Bytes) → Each faults regions Held m order → AreDistinct order → AreDistinct (map step order)
    distinct_next [] m each distinct = tt
    distinct_next (entry ∷ order) m each distinct = (
      differ_all entry order (carry faults regions entry.request m) (moves entry m each.0) each.1 distinct.0,
      distinct_next order (carry faults regions entry.request m) each.1 distinct.1,
    )

    -- ---- for each reply that is due there is a request

    -- one that waits still does, but for that for which the beat counts
    pub waiting_next : (client place : ℕ) (order : Order) (m : Bytes) → Each faults regions Held m order
        → (is_some (flights (due_at client place)) ≡ true → list_any (waits_for client place) order ≡ true)
        → is_some (new_flights (due_at client place)) ≡ true → list_any (waits_for client place) (map step order) ≡ true
    waiting_next client place order m each old some = by_place (cases_place (due_at client place) from)
      where
        waits_next : (due_at client place ≡ from → ⊥) → (entry : Entry) → Moves from entry → waits_for client place entry ≡ true
            → waits_for client place (step entry) ≡ true
        waits_next differ entry is waits = grind (arith, differ, is, waits)

        by_place : (due_at client place ≡ from) ⊎ (due_at client place ≡ from → ⊥) → list_any (waits_for client place) (map step order) ≡ true
        by_place (inl same) = absurd (grind (arith, same, some, are.gone))
        by_place (inr differ) =
            any_map (waits_for client place) step order
            ∙ any_each faults regions Held (waits_for client place) (λ entry. waits_for client place (step entry)) order m
            (λ entry n held. waits_next differ entry (moves entry n held)) each
            (old (grind (arith, some, are.others (due_at client place) differ)))

    -- one for which the beat counts has begun, where some of its reply is left; and another client's still has
    pub begun_next : (client : ℕ) (order : Order) (m : Bytes) → Each faults regions Held m order
        → (is_some (flights from) ≡ true → list_any counts order ≡ true)
        → (is_some (flights (begun_at client)) ≡ true → list_any (begun_to client) order ≡ true)
        → is_some (new_flights (begun_at client)) ≡ true → list_any (begun_to client) (map step order) ≡ true
    begun_next client order m each counted old some = by_client (cases_eq client number)
      where
        begins : is_some (new_flights (begun_at number)) ≡ true → (entry : Entry) (n : Bytes) → Held entry n → Moves from entry → counts entry ≡ true
            → begun_to number (step entry) ≡ true
        begins left entry n held (Stays none away apart) is = absurd (both_ways (counts entry) none is)
        begins left entry n held (Goes whole live is place) counts_too =
            let was = held.live live in
            let more = left_some was.flight (drop 1 was.flight.beats) (grind (arith, flight_next entry n is place was, left)) in
            let alive = next_live entry (meaning faults regions entry.request was.made_of).reply
            (subst (λ (beats : List DBeat). 0 < length (drop 1 beats)) was.left more) in
            ap (begun_to number) (goes_on entry whole is) ∙ grind (arith, nat_tests, own_client entry is, alive)

        begun_still : (client ≡ number → ⊥) → (entry : Entry) → Moves from entry → begun_to client entry ≡ true → begun_to client (step entry) ≡ true
        begun_still differ entry is has = grind (arith, differ, is, has)

        by_client : (client ≡ number) ⊎ (client ≡ number → ⊥) → list_any (begun_to client) (map step order) ≡ true
        by_client (inl same) =
            let left : is_some (new_flights (begun_at number)) ≡ true = ap (λ c. is_some (new_flights (begun_at c))) (sym same) ∙ some in
            ap (λ c. list_any (begun_to c) (map step order)) same
            ∙ any_map (begun_to number) step order
            ∙ any_each faults regions Held counts (λ entry. begun_to number (step entry)) order m (λ entry n held. begins left entry n held (moves entry n held)) each
            (counted (grind (arith, are.next, left)))
        by_client (inr differ) = grind (arith, are.home, are.others, any_map (begun_to client) step order, any_each faults regions)
