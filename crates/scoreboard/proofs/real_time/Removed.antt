-- A request that has ended though beats of its reply are missing, or came before it was whole: on a board and on its shadow it is in flight no more, at
-- whichever of its client's places it was.
use Rattle.std.proofs.Common.{◌≡◌, ℕ, ◌==◌, Bool, true, false, List, [], ◌∷◌, map, set, Option, Some, None, ◌⊎◌, inl, inr, if◌then◌else◌, refl, sym, ◌∙◌, ap, subst, arith}
use Rattle.std.specs.Prelude.{is_some, slice_get}
use Rattle.std.specs.List.{AllByRecursion, list_any}
use Rattle.std.proofs.Math.Path.{fun_ext}
use Rattle.std.proofs.lemmas.Bool.{cases_eq}
use Rattle.std.proofs.lemmas.List.{length-set}
use Rattle.bus_words.specs.Places.{AreDistinct, without_first}
use Rattle.bus_words.proofs.DistinctPlaces.{distinct-without_first}
use Rattle.burst_plan.specs.declared.Region.{Region}
use Rattle.subordinate.specs.Faults.{Faults}
use Rattle.meaning.specs.Meaning.{Bytes}
use Rattle.scoreboard.specs.Boards.{Board, ClientBoard, with_client}
use Rattle.scoreboard.specs.Flights.{Flights, Footprint, InFlight, is_of_source, no_footprint}
use Rattle.scoreboard.specs.Orders.{Entry, Order, begun_to, has_ended, reply_beats}
use Rattle.scoreboard.specs.Races.{may_write}
use Rattle.scoreboard.proofs.MappedLists.{any_map, find_other, without_first_map}
use Rattle.scoreboard.proofs.real_time.Ahead.{HasBecome, IsAhead, Shadow, comes, front_in}
use Rattle.scoreboard.proofs.real_time.Apart.{AreApart, AreEither, IsEither}
use Rattle.scoreboard.proofs.real_time.Comings.{comes_other, comes_same, early_at, early_in, early_other, early_same}
use Rattle.scoreboard.proofs.real_time.Entries.{AreDistinct as AreApartEntries, Differ, Each, IsLive, Stands, carry, place_of, run}
use Rattle.scoreboard.proofs.real_time.Explained.{Explains, nothing_with, sources_with}
use Rattle.scoreboard.proofs.real_time.FlightPlaces.{coming_other, coming_same}
use Rattle.scoreboard.proofs.real_time.Places.{HaveSources, Place, begun_at, cases_place, coming_at, coming_in, due_at, flight_at, flight_in, flights_in, flights_other, flights_same, footprint_in}
use Rattle.scoreboard.proofs.real_time.ReplyMoves.{waits_for}
use Rattle.scoreboard.proofs.real_time.RequestActs.{IsWell}
use Rattle.scoreboard.proofs.real_time.ReplySeen.{found_gone}
use Rattle.scoreboard.proofs.real_time.Spared.{KeepsEnds, spared_changed}

-- what a client has in flight without the one at a place: without the one that is due to a source, or the one whose reply has begun
abbrev pub less_at : Option ℕ → Flights → Flights
less_at None flights = record flights { begun = None }
less_at (Some source) flights = record flights { due = without_first (is_of_source source) flights.due }

-- a client without it
abbrev pub without : Option ℕ → ClientBoard → ClientBoard
without source client = record client { flights = less_at source client.flights }

-- a client's place
abbrev pub place_at : ℕ → Option ℕ → Place
place_at number source = record { client = number; source = source }

-- whether a request is in flight there: one that waits for the reply to a source, or one whose reply has begun
abbrev pub stands_at : ℕ → Option ℕ → Entry → Bool
stands_at number None entry = begun_to number entry
stands_at number (Some source) entry = waits_for number source entry

-- where it is there it has ended
abbrev pub ended : ℕ → Option ℕ → Entry → Entry
ended number source entry = if stands_at number source entry then record entry { came = reply_beats entry.request } else entry

-- ---- what is in flight at the places

gone_in : (source : Option ℕ) (flights : Flights) → HaveSources flights → flight_in (less_at source flights) source ≡ None
gone_in None flights sources = refl
gone_in (Some source) flights sources = found_gone source flights.due sources

kept_in : (source : Option ℕ) (flights : Flights) (other : Option ℕ) → (other ≡ source → ⊥) → flight_in (less_at source flights) other ≡ flight_in flights other
kept_in None flights None away = absurd (away refl)
kept_in None flights (Some other) away = refl
kept_in (Some source) flights None away = refl
kept_in (Some source) flights (Some other) away = find_other source other flights.due (λ same. away (ap Some same))

sources_in : (source : Option ℕ) (flights : Flights) → HaveSources flights → HaveSources (less_at source flights)
sources_in None flights sources = sources
sources_in (Some source) flights sources =
    subst AreDistinct (sym (without_first_map (λ n. n == source) (λ (flight : InFlight). flight.source) flights.due))
    (distinct-without_first (λ n. n == source) (map (λ (flight : InFlight). flight.source) flights.due) sources)

module _ (clients : List ClientBoard) (number : ℕ) (source : Option ℕ) (client : ClientBoard) (there : slice_get clients number ≡ Some client)
    (sources : HaveSources client.flights) where
  abbrev less : List ClientBoard
  less = set clients number (without source client)

  pub gone_at : flight_at (set clients number (without source client)) (place_at number source) ≡ None
  gone_at = ap (λ (f : Flights). flight_in f source) (flights_same clients number client (without source client) there) ∙ gone_in source client.flights sources

  pub kept_at : (place : Place) → (place ≡ place_at number source → ⊥) → flight_at (set clients number (without source client)) place ≡ flight_at clients place
  kept_at place away = by_client (cases_eq place.client number)
    where
      by_client : (place.client ≡ number) ⊎ (place.client ≡ number → ⊥) → flight_at less place ≡ flight_at clients place
      by_client (inr differ) = ap (λ (f : Flights). flight_in f place.source) (flights_other clients number place.client (without source client) differ)
      by_client (inl same) =
          let is : place ≡ place_at number place.source = ap (λ c. record { client = c; source = place.source }) same in
          ap (flight_at less) is
          ∙ ap (λ (f : Flights). flight_in f place.source) (flights_same clients number client (without source client) there)
          ∙ kept_in source client.flights place.source (λ other. away (is ∙ ap (place_at number) other))
          ∙ sym (ap (flight_at clients) is ∙ ap (λ (f : Flights). flight_in f place.source) (ap flights_in there))

  pub sources_less : HaveSources (without source client).flights
  sources_less = sources_in source client.flights sources

  -- the footprint at a place is none, or what it was
  footprint_less : (place : Place) → (footprint_in (flight_at less place) ≡ no_footprint) ⊎ (footprint_in (flight_at less place) ≡ footprint_in (flight_at clients place))
  footprint_less place =
      elim (cases_place place (place_at number source)) [
        | inl same ↦ inl (ap footprint_in (ap (flight_at less) same ∙ gone_at))
        | inr away ↦ inr (ap footprint_in (kept_at place away))
      ]

  pub apart_less : AreApart (λ place. footprint_in (flight_at clients place)) → AreApart (λ place. footprint_in (flight_at (set clients number (without source client)) place))
  apart_less old = record { apart = λ i j x differ determined. by_both i j x (footprint_less i) (footprint_less j) differ determined }
    where
      by_both : (i j : Place) (x : ℕ) → (footprint_in (flight_at less i) ≡ no_footprint) ⊎ (footprint_in (flight_at less i) ≡ footprint_in (flight_at clients i))
          → (footprint_in (flight_at less j) ≡ no_footprint) ⊎ (footprint_in (flight_at less j) ≡ footprint_in (flight_at clients j))
          → (i ≡ j → ⊥) → (footprint_in (flight_at less i)).determined x ≡ true → may_write (footprint_in (flight_at less j)) x ≡ false
      by_both i j x first other differ determined = grind (arith, first, other, differ, determined)

  pub either_less : (indeterminate : ℕ → Bool) → AreEither indeterminate (λ place. footprint_in (flight_at clients place))
      → AreEither indeterminate (λ place. footprint_in (flight_at (set clients number (without source client)) place))
  either_less indeterminate old =
      record {
        either = λ place. elim (footprint_less place) [
          | inl none ↦ subst (IsEither indeterminate) (sym none) (λ reads. absurd (cc (reads)))
          | inr is ↦ subst (IsEither indeterminate) (sym is) (old.either place)
        ];
      }

-- ---- the entries

module _ (number : ℕ) (source : Option ℕ) where
  abbrev step : Entry → Entry
  step entry = ended number source entry

  pub stands_there : (entry : Entry) → stands_at number source entry ≡ true → place_of entry ≡ place_at number source
  stands_there entry is = grind (arith, is)

  -- one that is there has ended, another is as it was
  pub data Ends (entry : Entry) : Type 0 where
    Over : stands_at number source entry ≡ true → ended number source entry ≡ record entry { came = reply_beats entry.request } → Ends entry
    Still : stands_at number source entry ≡ false → ended number source entry ≡ entry → Ends entry

  pub ends : (entry : Entry) → Ends entry
  ends entry = grind arith

  -- one that is live still is elsewhere
  pub away_from : (entry : Entry) → has_ended (ended number source entry) ≡ false → Ends entry
      → (ended number source entry ≡ entry) × (place_of entry ≡ place_at number source → ⊥)
  away_from entry live is = grind (arith, live, is)

  same_request : (entry : Entry) → (step entry).request ≡ entry.request
  same_request entry = grind arith

  run_ended : (faults : Faults) (regions : List Region) (order : Order) (m : Bytes) → run faults regions m (map step order) ≡ run faults regions m order
  run_ended faults regions [] m = refl
  run_ended faults regions (entry ∷ order) m = rw (run, same_request entry) (run_ended faults regions order (carry faults regions entry.request m))

  pub ended_keeps : KeepsEnds (ended number source)
  ended_keeps = grind arith

  differ_ended : (entry other : Entry) → Differ entry other → Differ (step entry) (step other)
  differ_ended entry other differ live its_live same =
      let mine = away_from entry live (ends entry) in
      let theirs = away_from other its_live (ends other) in
      differ (sym (ap (λ (e : Entry). has_ended e) mine.0) ∙ live) (sym (ap (λ (e : Entry). has_ended e) theirs.0) ∙ its_live)
      (sym (ap place_of mine.0) ∙ same ∙ ap place_of theirs.0)

  differ_all : (entry : Entry) (order : Order) → AllByRecursion (Differ entry) order → AllByRecursion (Differ (step entry)) (map step order)
  differ_all entry [] all = tt
  differ_all entry (other ∷ order) all = (differ_ended entry other all.0, differ_all entry order all.1)

  distinct_ended : (order : Order) → AreApartEntries order → AreApartEntries (map step order)
  distinct_ended [] distinct = tt
  distinct_ended (entry ∷ order) distinct = (differ_all entry order distinct.0, distinct_ended order distinct.1)

  -- one that waits elsewhere still does, and one that has begun there too
  waits_still : (c s : ℕ) → (due_at c s ≡ place_at number source → ⊥) → (entry : Entry) → waits_for c s (step entry) ≡ waits_for c s entry
  waits_still c s differ entry = grind (arith, differ)

  begun_still : (c : ℕ) → (begun_at c ≡ place_at number source → ⊥) → (entry : Entry) → begun_to c entry ≡ true → begun_to c (step entry) ≡ true
  begun_still c differ entry has = grind (arith, differ, has)

  any_begun : (c : ℕ) → (begun_at c ≡ place_at number source → ⊥) → (order : Order) → list_any (begun_to c) order ≡ true → list_any (begun_to c) (map step order) ≡ true
  any_begun c differ [] some = some
  any_begun c differ (entry ∷ order) some = grind (arith, some, begun_still c differ entry, any_begun c differ order)

-- ---- on a board that explains an order

module _ {start : Bytes} (board : Board) (order : Order) (explains : Explains start board order) (number : ℕ) (source : Option ℕ) (client : ClientBoard)
    (there : slice_get board.clients number ≡ Some client) where
  abbrev faults : Faults
  faults = board.memory.faults

  abbrev regions : List Region
  regions = board.memory.regions

  abbrev now : List ClientBoard
  now = set board.clients number (without source client)

  sources : HaveSources client.flights
  sources = explains.sources number client there

  stands_ended : (entry : Entry) (m : Bytes) → Stands faults regions (flight_at board.clients) entry m → Stands faults regions (flight_at now) (ended number source entry) m
  stands_ended entry m held =
      record {
        well = subst IsWell (sym (same_request number source entry)) held.well;
        whole = by_whole (ends number source entry);
        live = λ live. by_live live (away_from number source entry live (ends number source entry));
      }
    where
      by_whole : Ends number source entry → (ended number source entry).whole ≡ true
      by_whole is = grind (arith, is)

      by_live : has_ended (ended number source entry) ≡ false → (ended number source entry ≡ entry) × (place_of entry ≡ place_at number source → ⊥)
          → IsLive faults regions (flight_at now) (ended number source entry) m
      by_live live (same, away) =
          let was = held.live (sym (ap (λ (e : Entry). has_ended e) same) ∙ live) in
          subst (λ (e : Entry). IsLive faults regions (flight_at now) e m) (sym same)
          (record {
            flight = was.flight;
            there = kept_at board.clients number source client there sources (place_of entry) away ∙ was.there;
            source = was.source;
            acting = was.acting;
            made_of = was.made_of;
            bytes = was.bytes;
            left = was.left;
            same = was.same;
          })

  each_ended : (some_order : Order) (m : Bytes) → Each faults regions (Stands faults regions (flight_at board.clients)) m some_order
      → Each faults regions (Stands faults regions (flight_at now)) m (map (ended number source) some_order)
  each_ended [] m each = tt
  each_ended (entry ∷ some_order) m each = (
    stands_ended entry m each.0,
    rw (same_request number source entry) (each_ended some_order (carry faults regions entry.request m) each.1),
  )

  pub explains_ended : Explains start (with_client number (without source client) board) (map (ended number source) order)
  explains_ended =
      record {
        sources = sources_with board.clients number client (without source client) there explains.sources (sources_less board.clients number source client there sources);
        nothing = nothing_with board.clients number client (without source client) there explains.nothing (explains.nothing number client there);
        small = explains.small;
        apart = apart_less board.clients number source client there sources explains.apart;
        either = either_less board.clients number source client there sources board.indeterminate explains.either;
        distinct = distinct_ended number source order explains.distinct;
        entries = each_ended order start explains.entries;
        known = λ x certain. ap (λ (f : Bytes). f x) (run_ended number source faults regions order start) ∙ explains.known x certain;
        waiting = λ c s some. by_place c s some (cases_place (due_at c s) (place_at number source));
        begun = λ c some. by_begun c some (cases_place (begun_at c) (place_at number source));
        spared = spared_changed faults regions (ended number source) board.indeterminate start order (ended_keeps number source) explains.spared;
      }
    where
      by_begun : (c : ℕ) → is_some (flight_at now (begun_at c)) ≡ true → (begun_at c ≡ place_at number source) ⊎ (begun_at c ≡ place_at number source → ⊥)
          → list_any (begun_to c) (map (ended number source) order) ≡ true
      by_begun c some (inl same) =
          absurd (cc (sym (ap (λ (o : Option InFlight). is_some o) (ap (flight_at now) same ∙ gone_at board.clients number source client there sources)) ∙ some))
      by_begun c some (inr away) =
          any_begun number source c away order
          (explains.begun c (sym (ap (λ (o : Option InFlight). is_some o) (kept_at board.clients number source client there sources (begun_at c) away)) ∙ some))

      by_place : (c s : ℕ) → is_some (flight_at now (due_at c s)) ≡ true → (due_at c s ≡ place_at number source) ⊎ (due_at c s ≡ place_at number source → ⊥)
          → list_any (waits_for c s) (map (ended number source) order) ≡ true
      by_place c s some (inl same) =
          absurd (cc (sym (ap (λ (o : Option InFlight). is_some o) (ap (flight_at now) same ∙ gone_at board.clients number source client there sources)) ∙ some))
      by_place c s some (inr away) =
          any_map (waits_for c s) (ended number source) order
          ∙ ap (λ (test : Entry → Bool). list_any test order) (fun_ext (λ entry. waits_still number source c s away entry))
          ∙ explains.waiting c s (sym (ap (λ (o : Option InFlight). is_some o) (kept_at board.clients number source client there sources (due_at c s) away)) ∙ some)

-- ---- a board and its shadow

module _ (board : Board) (shadow : Shadow) (ahead : IsAhead board shadow) (number : ℕ) (source : Option ℕ) (client other : ClientBoard)
    (there : slice_get board.clients number ≡ Some client) (there_too : slice_get shadow.clients number ≡ Some other)
    (sources_too : HaveSources other.flights)
    (free : (c : ℕ) → comes board.clients c ≡ true → due_at c (shadow.finals c).source ≡ place_at number source → ⊥) where
  abbrev mine : List ClientBoard
  mine = set board.clients number (without source client)

  abbrev theirs : List ClientBoard
  theirs = set shadow.clients number (without source other)

  own_sources : HaveSources client.flights
  own_sources = ahead.sources number client there

  kept_mine : (place : Place) → (place ≡ place_at number source → ⊥) → flight_at mine place ≡ flight_at board.clients place
  kept_mine place away = kept_at board.clients number source client there own_sources place away

  kept_theirs : (place : Place) → (place ≡ place_at number source → ⊥) → flight_at theirs place ≡ flight_at shadow.clients place
  kept_theirs place away = kept_at shadow.clients number source other there_too sources_too place away

  pub comes_less : (c : ℕ) → comes (set board.clients number (without source client)) c ≡ comes board.clients c
  comes_less c =
      elim (cases_eq c number) [
        | inl same ↦
            ap (comes mine) same ∙ comes_same board.clients number client (without source client) there
            ∙ sym (ap (λ (o : Option ClientBoard). is_some (front_in o)) there) ∙ ap (comes board.clients) (sym same)
        | inr differ ↦ comes_other board.clients number c (without source client) differ
      ]

  pub early_less : (c : ℕ) → early_at (set board.clients number (without source client)) c ≡ early_at board.clients c
  early_less c =
      elim (cases_eq c number) [
        | inl same ↦
            ap (early_at mine) same ∙ early_same board.clients number client (without source client) there ∙ sym (ap early_in there)
            ∙ ap (early_at board.clients) (sym same)
        | inr differ ↦ early_other board.clients number c (without source client) differ
      ]

  pub coming_less : (c : ℕ) → coming_at (set board.clients number (without source client)) c ≡ coming_at board.clients c
  coming_less c =
      elim (cases_eq c number) [
        | inl same ↦
            ap (coming_at mine) same ∙ coming_same board.clients number client (without source client) there ∙ sym (ap coming_in there)
            ∙ ap (coming_at board.clients) (sym same)
        | inr differ ↦ coming_other board.clients number c (without source client) differ
      ]

  pub ended_ahead : (spent : (flight : InFlight) → flight_at board.clients (place_at number source) ≡ Some flight → shadow.fates (place_at number source) ≡ true
      → flight.footprint.failed ≡ true)
      → IsAhead (with_client number (without source client) board) (record shadow { clients = set shadow.clients number (without source other) })
  ended_ahead spent =
      record {
        sources = sources_with board.clients number client (without source client) there ahead.sources (sources_less board.clients number source client there own_sources);
        small = ahead.small;
        many = length-set shadow.clients number (without source other) ∙ ahead.many ∙ sym (length-set board.clients number (without source client));
        placed = λ place flight is. elim (cases_place place (place_at number source)) [
          | inl same ↦ absurd (cc (sym (ap (flight_at mine) same ∙ gone_at board.clients number source client there own_sources) ∙ is))
          | inr away ↦
              let old = ahead.placed place flight (sym (kept_mine place away) ∙ is) in
              record { other = old.other; there = kept_theirs place away ∙ old.there; behind = old.behind }
        ];
        begun = λ c some.
            let before = sym (comes_less c) ∙ some in
            let old = ahead.begun c before in
            subst (λ coming. HasBecome board.memory.faults board.memory.regions theirs coming c (shadow.finals c)) (sym (coming_less c))
            (record {
              other = old.other;
              there = kept_theirs (due_at c (shadow.finals c).source) (free c before) ∙ old.there;
              becomes = old.becomes;
            });
        others = λ place its is nothing. elim (cases_place place (place_at number source)) [
          | inl same ↦ absurd (cc (sym (ap (flight_at theirs) same ∙ gone_at shadow.clients number source other there_too sources_too) ∙ is))
          | inr away ↦
              let old = ahead.others place its (sym (kept_theirs place away) ∙ is) (sym (kept_mine place away) ∙ nothing) in
              record { begun = comes_less place.client ∙ old.begun; there = old.there }
        ];
        waits = λ c some.
            let before = sym (comes_less c) ∙ some in
            kept_mine (due_at c (shadow.finals c).source) (free c before) ∙ ahead.waits c before;
        known = λ x certain nothing unfated.
            let same = ahead.known x certain (λ c some. nothing c (comes_less c ∙ some)) (λ place flight is. elim (cases_place place (place_at number source)) [
              | inl same ↦ λ fated sound.
                  absurd (cc (sym sound ∙ spent flight (ap (flight_at board.clients) (sym same) ∙ is) (ap shadow.fates (sym same) ∙ fated)))
              | inr away ↦ unfated place flight (kept_mine place away ∙ is)
            ]) in
            record { byte = same.byte; certain = same.certain };
        given = λ c x some determined gives_it.
            ahead.given c x (sym (comes_less c) ∙ some) (sym (ap (λ (r : Footprint). r.determined x) (coming_less c)) ∙ determined) gives_it;
      }
