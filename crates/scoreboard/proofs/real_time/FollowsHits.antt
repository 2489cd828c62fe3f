-- An error response on the AXI4 port: the requests that share a byte with its burst have failed on the board, and in the order; the shadow knew it.
use Rattle.std.proofs.Common.{◌≡◌, ℕ, zero, suc, Bool, true, false, ◌&&◌, not, List, [], ◌∷◌, map, Option, Some, None, refl, sym, ◌∙◌, ap, subst, arith}
use Rattle.std.specs.Prelude.{is_some}
use Rattle.std.specs.List.{list_any}
use Rattle.std.specs.Option.{option_map}
use Rattle.std.proofs.Math.Path.{fun_ext}
use Rattle.std.proofs.lemmas.Bool.{or_parts}
use Rattle.std.proofs.lemmas.List.{length-map}
use Rattle.std.proofs.lemmas.Simd.{map-map}
use Rattle.bus_words.specs.Places.{AreDistinct}
use Rattle.bus_words.proofs.MappedPlaces.{map_same}
use Rattle.tl_messages.specs.Requests.{WholeRequest}
use Rattle.axi_checker.specs.declared.AxiBeat.{AxiBeat}
use Rattle.meaning.specs.Meaning.{Bytes}
use Rattle.scoreboard.specs.AxiPorts.{PortBoard}
use Rattle.scoreboard.specs.Boards.{Board, ClientBoard, footprints_of, hit_client, hit_on}
use Rattle.scoreboard.specs.FailedBursts.{Span, failed_span, hit, hit_flight, shares}
use Rattle.scoreboard.specs.Flights.{Flights, Footprint, InFlight, each_flight, is_of_source}
use Rattle.scoreboard.specs.Orders.{Entry, Order, has_ended}
use Rattle.scoreboard.specs.Races.{may_write, unless_failed}
use Rattle.scoreboard.specs.RealTime.{acting_footprint, struck, with_failed}
use Rattle.scoreboard.specs.declared.Errors.TheVariants.{Any}
use Rattle.scoreboard.proofs.MappedLists.{any_map, find_map}
use Rattle.scoreboard.proofs.real_time.Ahead.{HasBeside, IsAhead, IsBehind, IsComing, NoneFated, Shadow, comes, shadow_of}
use Rattle.scoreboard.proofs.real_time.Comings.{early_at}
use Rattle.scoreboard.proofs.real_time.Entries.{place_of}
use Rattle.scoreboard.proofs.real_time.Explained.{Explains}
use Rattle.scoreboard.proofs.real_time.Fates.{told_any}
use Rattle.scoreboard.proofs.real_time.FlightLists.{each_of}
use Rattle.scoreboard.proofs.real_time.Follows.{ActsAs, Follows, IsFailing, IsFated, IsFollowed, IsMarked, IsOpen, Knows, all_mapped, replied_by, settle, settled}
use Rattle.scoreboard.proofs.real_time.Fronts.{changed_from}
use Rattle.scoreboard.proofs.real_time.Lengths.{some_beats}
use Rattle.scoreboard.proofs.real_time.Places.{HaveSources, Place, coming_at, due_at, flight_at, flight_in, flights_at, footprint_in}
use Rattle.scoreboard.proofs.real_time.StepOrders.{is_coming}

-- ---- what is in flight, and coming

flights_hit : (span : Span) (clients : List ClientBoard) (number : ℕ)
    → flights_at (map (hit_client span) clients) number ≡ each_flight (hit_flight span) (flights_at clients number)
flights_hit span [] number = refl
flights_hit span (client ∷ clients) zero = refl
flights_hit span (client ∷ clients) (suc number) = flights_hit span clients number

flight_in_hit : (span : Span) (flights : Flights) (source : Option ℕ)
    → flight_in (each_flight (hit_flight span) flights) source ≡ option_map (hit_flight span) (flight_in flights source)
flight_in_hit span flights None = refl
flight_in_hit span flights (Some source) = find_map (is_of_source source) (hit_flight span) flights.due

flight_hit : (span : Span) (clients : List ClientBoard) (place : Place)
    → flight_at (map (hit_client span) clients) place ≡ option_map (hit_flight span) (flight_at clients place)
flight_hit span clients place =
    ap (λ (f : Flights). flight_in f place.source) (flights_hit span clients place.client) ∙ flight_in_hit span (flights_at clients place.client) place.source

comes_hit : (span : Span) (clients : List ClientBoard) (number : ℕ) → comes (map (hit_client span) clients) number ≡ comes clients number
comes_hit span [] number = refl
comes_hit span (client ∷ clients) zero = refl
comes_hit span (client ∷ clients) (suc number) = comes_hit span clients number

early_hit : (span : Span) (clients : List ClientBoard) (number : ℕ) → early_at (map (hit_client span) clients) number ≡ early_at clients number
early_hit span [] number = refl
early_hit span (client ∷ clients) zero = refl
early_hit span (client ∷ clients) (suc number) = early_hit span clients number

coming_hit : (span : Span) (clients : List ClientBoard) (number : ℕ) → coming_at (map (hit_client span) clients) number ≡ hit span (coming_at clients number)
coming_hit span [] number = refl
coming_hit span (client ∷ clients) zero = refl
coming_hit span (client ∷ clients) (suc number) = coming_hit span clients number

-- what was hit, if it is in flight then
record WasHit (span : Span) (before : Option InFlight) (flight : InFlight) : Type 0 where
  was : InFlight
  there : before ≡ Some was
  is : hit_flight span was ≡ flight

was_hit : (span : Span) (before : Option InFlight) (flight : InFlight) → option_map (hit_flight span) before ≡ Some flight → WasHit span before flight
was_hit span None flight is = absurd (cc (is))
was_hit span (Some was) flight is = record { was = was; there = refl; is = cc (is) }

none_hit : (span : Span) (before : Option InFlight) → option_map (hit_flight span) before ≡ None → before ≡ None
none_hit span before is = grind (arith, is)

-- ---- a footprint

-- whether one shares a byte is known from where it acts
shares_same : (span : Span) (one other : Footprint) → one ≡ record other { failed = one.failed; determined = one.determined } → shares span one ≡ shares span other
shares_same span one other same = ap (shares span) same

-- one that is hit isn't determined
hit_less : (span : Span) (footprint : Footprint) (x : ℕ) → (hit span footprint).determined x ≡ true → (footprint.determined x ≡ true) × (shares span footprint ≡ false)
hit_less span footprint x determined = grind (arith, determined)

-- a request in flight that is hit is behind as before
behind_hit : (span : Span) (fated : Bool) (mine theirs : InFlight) → IsBehind fated mine theirs → IsBehind fated (hit_flight span mine) theirs
behind_hit span fated mine theirs is = by_shares (shares span mine.footprint) refl
  where
    by_shares : (b : Bool) → shares span mine.footprint ≡ b → IsBehind fated (hit_flight span mine) theirs
    by_shares false none =
        subst (λ (b : Bool). IsBehind fated (record mine { footprint = unless_failed b mine.footprint }) theirs) (sym none) is
    by_shares true shared =
        subst (λ (b : Bool). IsBehind fated (record mine { footprint = unless_failed b mine.footprint }) theirs) (sym shared)
        (record {
          source = is.source;
          acts = λ does. ap (λ (r : Footprint). record r { failed = true; determined = λ x. false }) (is.acts does);
          sound = λ unfated sound. absurd (cc (sound));
          less = λ unfated x reads determined. absurd (cc (determined));
          long = is.long;
          shapes = is.shapes;
          alike = λ unfated sound. absurd (cc (sound));
        })

module _ {start : Bytes} (board : Board) (shadow : Shadow) (order : Order) (follows : Follows start board shadow order) (span : Span) (any : board.errors ≡ Any) where
  abbrev clients : List ClientBoard
  clients = map (hit_client span) board.clients

  abbrev now : Board
  now = hit_on (Some span) board

  -- ---- the shadow is ahead

  coming_it : (c : ℕ) (q : WholeRequest) (other : InFlight) → IsComing board.memory.faults board.memory.regions (coming_at board.clients c) q other
      → IsComing board.memory.faults board.memory.regions (coming_at (map (hit_client span) board.clients) c) q other
  coming_it c q other is =
      subst (λ r. IsComing board.memory.faults board.memory.regions r q other) (sym (coming_hit span board.clients c)) (by_shares (shares span (coming_at board.clients c)) refl)
    where
      by_shares : (b : Bool) → shares span (coming_at board.clients c) ≡ b → IsComing board.memory.faults board.memory.regions (hit span (coming_at board.clients c)) q other
      by_shares false none =
          subst (λ (b : Bool). IsComing board.memory.faults board.memory.regions (unless_failed b (coming_at board.clients c)) q other) (sym none) is
      by_shares true shared =
          subst (λ (b : Bool). IsComing board.memory.faults board.memory.regions (unless_failed b (coming_at board.clients c)) q other) (sym shared)
          (record {
            source = is.source;
            well = is.well;
            silent = is.silent;
            same = λ writes. ap (λ (r : Footprint). record r { failed = true; determined = λ x. false }) (is.same writes);
            acts = is.acts;
            less = λ x writes determined. absurd (cc (determined));
            beats = is.beats;
            broken = λ x failed. refl;
          })

  placed : (place : Place) (flight : InFlight) → flight_at clients place ≡ Some flight → HasBeside shadow place flight
  placed place flight is =
      let it = was_hit span (flight_at board.clients place) flight (sym (flight_hit span board.clients place) ∙ is) in
      let old = follows.ahead.placed place it.was it.there in
      record { other = old.other; there = old.there; behind = subst (λ (f : InFlight). IsBehind (shadow.fates place) f old.other) it.is (behind_hit span (shadow.fates place) it.was old.other old.behind) }

  -- where nothing is fated now and may write a byte that isn't indeterminate, nothing was
  none_fated : (x : ℕ) → list_any (λ footprint. shares span footprint && may_write footprint x) (footprints_of board.clients) ≡ false → NoneFated clients shadow.fates x
      → NoneFated board.clients shadow.fates x
  none_fated x none unfated place flight is fated sound = by_shares (shares span flight.footprint) refl
    where
      by_shares : (b : Bool) → shares span flight.footprint ≡ b → may_write flight.footprint x ≡ false
      by_shares true shared =
          let of_it = each_of (λ footprint. shares span footprint && may_write footprint x) refl board.clients none place.client place.source in
          let it : (shares span flight.footprint && may_write flight.footprint x) ≡ false =
          sym (ap (λ (o : Option InFlight). shares span (footprint_in o) && may_write (footprint_in o) x) is) ∙ of_it in
          sym (ap (λ (b : Bool). b && may_write flight.footprint x) shared) ∙ it
      by_shares false apart =
          let still : hit_flight span flight ≡ flight = ap (λ (b : Bool). record flight { footprint = unless_failed b flight.footprint }) apart in
          unfated place flight (flight_hit span board.clients place ∙ ap (option_map (hit_flight span)) is ∙ ap Some still) fated sound

  ahead : IsAhead (hit_on (Some span) board) shadow
  ahead =
      record {
        sources = λ number client is.
            let was = changed_from (hit_client span) board.clients number client is in
            subst (λ (c : ClientBoard). HaveSources c.flights) was.2
            (subst AreDistinct (sym (map-map (λ (flight : InFlight). flight.source) (hit_flight span) was.0.flights.due)) (follows.ahead.sources number was.0 was.1));
        small = follows.ahead.small;
        many = follows.ahead.many ∙ sym (length-map board.clients (hit_client span));
        placed = placed;
        begun = λ c some.
            let old = follows.ahead.begun c (sym (comes_hit span board.clients c) ∙ some) in
            record { other = old.other; there = old.there; becomes = coming_it c (shadow.finals c) old.other old.becomes };
        others = λ place other is none.
            let old = follows.ahead.others place other is (none_hit span (flight_at board.clients place) (sym (flight_hit span board.clients place) ∙ none)) in
            record { begun = comes_hit span board.clients place.client ∙ old.begun; there = old.there };
        waits = λ c some.
            flight_hit span board.clients (due_at c (shadow.finals c).source)
            ∙ ap (option_map (hit_flight span)) (follows.ahead.waits c (sym (comes_hit span board.clients c) ∙ some));
        known = λ x certain none unfated.
            let parts = or_parts (board.indeterminate x) (list_any (λ footprint. shares span footprint && may_write footprint x) (footprints_of board.clients)) certain in
            let old = follows.ahead.known x parts.0 (λ c some. none c (comes_hit span board.clients c ∙ some)) (none_fated x parts.1 unfated) in
            record { byte = old.byte; certain = old.certain };
        given = λ c x some determined gives_it.
            follows.ahead.given c x (sym (comes_hit span board.clients c) ∙ some)
            (hit_less span (coming_at board.clients c) x (sym (ap (λ (r : Footprint). r.determined x) (coming_hit span board.clients c)) ∙ determined)).0 gives_it;
      }

  -- ---- the order

  abbrev strike : Entry → Entry
  strike entry = struck board.memory span entry

  abbrev is_struck : Entry → Bool
  is_struck entry = not (has_ended entry) && shares span (acting_footprint board.memory entry.request)

  -- an entry is spoiled, or what it was
  pub data Strikes (entry : Entry) : Type 0 where
    Spoils : is_struck entry ≡ true → strike entry ≡ record entry { spoiled = true } → Strikes entry
    Spares : is_struck entry ≡ false → strike entry ≡ entry → Strikes entry

  strikes : (entry : Entry) → Strikes entry
  strikes entry = grind arith

  settled_struck : (entry : Entry) → settled (strike entry) ≡ settled entry
  settled_struck entry = elim (strikes entry) [ Spoils is same ↦ ap settled same | Spares is same ↦ ap settled same ]

  settle_struck : settle (map (struck board.memory span) order) ≡ settle order
  settle_struck = map-map settled strike order ∙ map_same (λ entry. settled (strike entry)) settled order settled_struck

  -- what doesn't ask whether it is spoiled stays
  marked : (entry : Entry) → IsMarked board.clients entry → IsMarked clients (strike entry)
  marked entry was =
      elim (strikes entry) [
        | Spoils is same ↦ subst (IsMarked clients) (sym same) (λ alive. was alive ∙ still)
        | Spares is same ↦ subst (IsMarked clients) (sym same) (λ alive. was alive ∙ still)
      ]
    where
      by_flight : (o : Option InFlight) → is_some o ≡ is_some (option_map (hit_flight span) o)
      by_flight o = grind arith

      still : is_some (flight_at board.clients (place_of entry)) ≡ is_some (flight_at clients (place_of entry))
      still = by_flight (flight_at board.clients (place_of entry)) ∙ sym (ap (λ (o : Option InFlight). is_some o) (flight_hit span board.clients (place_of entry)))

  fated : (entry : Entry) → IsFated shadow entry → IsFated shadow (strike entry)
  fated entry was = grind (arith, was)

  coming_struck : (c : ℕ) (entry : Entry) → is_coming c (strike entry) ≡ is_coming c entry
  coming_struck c entry = elim (strikes entry) [ Spoils is same ↦ ap (is_coming c) same | Spares is same ↦ ap (is_coming c) same ]

  -- whether a footprint is hit is what the order says of its entry
  hit_knows : (entry : Entry) (footprint : Footprint) → has_ended entry ≡ false → Knows board entry footprint → Knows now (strike entry) (hit span footprint)
  hit_knows entry footprint alive knows = by_test (shares span footprint) refl (strikes entry)
    where
      same_place : shares span footprint ≡ shares span (acting_footprint board.memory entry.request)
      same_place = shares_same span footprint (acting_footprint board.memory entry.request) (knows.1 any)

      its_test : is_struck entry ≡ shares span footprint
      its_test = ap (λ (b : Bool). not b && shares span (acting_footprint board.memory entry.request)) alive ∙ sym same_place

      by_test : (b : Bool) → shares span footprint ≡ b → Strikes entry → Knows now (strike entry) (hit span footprint)
      by_test true shared (Spoils is same) = grind (arith, shared, any)
      by_test false apart (Spares is same) = grind (arith, apart)
      by_test true shared (Spares is same) = absurd (cc (sym is ∙ its_test ∙ shared))
      by_test false apart (Spoils is same) = absurd (cc (sym is ∙ its_test ∙ apart))

  failing : (entry : Entry) → IsFailing board entry → IsFailing now (strike entry)
  failing entry was whole alive flight there =
      let same = alike entry in
      let it = was_hit span (flight_at board.clients (place_of entry)) flight
      (sym (flight_hit span board.clients (place_of entry)) ∙ ap (flight_at clients) (sym same.1) ∙ there) in
      subst (λ (f : InFlight). Knows now (strike entry) f.footprint) it.is
      (hit_knows entry it.was.footprint (sym same.2 ∙ alive) (was (sym same.0 ∙ whole) (sym same.2 ∙ alive) it.was it.there))
    where
      alike : (one : Entry) → ((strike one).whole ≡ one.whole) × (place_of (strike one) ≡ place_of one) × (has_ended (strike one) ≡ has_ended one)
      alike one = grind arith

  opened : (entry : Entry) → (entry.whole ≡ false → IsOpen board shadow entry) → (strike entry).whole ≡ false → IsOpen now shadow (strike entry)
  opened entry was unwhole = by_strikes (strikes entry)
    where
      it : entry.whole ≡ false → IsOpen now shadow (record entry { spoiled = (strike entry).spoiled })
      it not_whole =
          let old = was not_whole in
          let alive : has_ended entry ≡ false = grind (arith, old.none_came, some_beats entry.request) in
          let knows = hit_knows entry (coming_at board.clients entry.client) alive (old.failed, old.acts) in
          let still = spoiled_alone in
          let known = subst (λ (e : Entry). Knows now e (hit span (coming_at board.clients entry.client))) still knows in
          record {
            begun = comes_hit span board.clients entry.client ∙ old.begun;
            final = old.final;
            none_came = old.none_came;
            any = old.any;
            early = early_hit span board.clients entry.client ∙ old.early;
            replied = old.replied ∙ ap (replied_by board.errors) (sym (early_hit span board.clients entry.client));
            failed = ap (λ (r : Footprint). r.failed) (coming_hit span board.clients entry.client) ∙ known.0;
            acts = subst (ActsAs board entry.request) (sym (coming_hit span board.clients entry.client)) known.1;
          }
        where
          spoiled_alone : strike entry ≡ record entry { spoiled = (strike entry).spoiled }
          spoiled_alone = grind arith

      by_strikes : Strikes entry → IsOpen now shadow (strike entry)
      by_strikes (Spoils is same) =
          subst (IsOpen now shadow) (sym same)
          (subst (λ (b : Bool). IsOpen now shadow (record entry { spoiled = b })) (ap (λ (e : Entry). e.spoiled) same) (it (sym (ap (λ (e : Entry). e.whole) same) ∙ unwhole)))
      by_strikes (Spares is same) =
          subst (IsOpen now shadow) (sym same)
          (subst (λ (b : Bool). IsOpen now shadow (record entry { spoiled = b })) (ap (λ (e : Entry). e.spoiled) same) (it (sym (ap (λ (e : Entry). e.whole) same) ∙ unwhole)))

  pub hit_follows : IsFollowed start shadow.fate (hit_on (Some span) board) (map (struck board.memory span) order)
  hit_follows = (
    shadow,
    record {
      explains = subst (Explains start (shadow_of board shadow)) (sym settle_struck) follows.explains;
      ahead = ahead;
      marked = all_mapped (IsMarked board.clients) (IsMarked clients) strike order marked follows.marked;
      failing = all_mapped (IsFailing board) (IsFailing now) strike order failing follows.failing;
      fated = all_mapped (IsFated shadow) (IsFated shadow) strike order fated follows.fated;
      any_fated = follows.any_fated;
      open_ones =
          all_mapped (λ entry. entry.whole ≡ false → IsOpen board shadow entry) (λ entry. entry.whole ≡ false → IsOpen now shadow entry) strike order opened
          follows.open_ones;
      known = λ c some.
          any_map (is_coming c) strike order ∙ ap (λ (test : Entry → Bool). list_any test order) (fun_ext (λ entry. coming_struck c entry))
          ∙ follows.known c (sym (comes_hit span board.clients c) ∙ some);
      early = λ c due is. comes_hit span board.clients c ∙ follows.early c due (sym (early_hit span board.clients c) ∙ is);
    },
    refl,
  )

-- ---- any response

pub follows_failed : {start : Bytes} (fate : ℕ → Bool) (board : Board) (port : PortBoard) (order : Order) (beat : AxiBeat) → IsFollowed start fate (record board { axi = port }) order
    → IsFollowed start fate (hit_on (failed_span board.errors board.axi beat) (record board { axi = port })) (with_failed board.memory (failed_span board.errors board.axi beat) order)
follows_failed {start} fate board port order beat followed = by_span (failed_span board.errors board.axi beat) refl
  where
    by_span : (span : Option Span) → failed_span board.errors board.axi beat ≡ span
        → IsFollowed start fate (hit_on span (record board { axi = port })) (with_failed board.memory span order)
    by_span None is = followed
    by_span (Some span) is = grind (arith, is, hit_follows (record board { axi = port }) followed.0 order followed.1 span (told_any board.errors board.axi beat span is))
