-- A message begins on a board, and on its shadow the request that it becomes is carried out: the shadow is still ahead.
use Rattle.std.proofs.Common.{◌≡◌, ℕ, Bool, true, false, ◌||◌, not, List, [], map, set, Option, Some, None, ◌⊎◌, inl, inr, refl, sym, ◌∙◌, ap, subst, arith}
use Rattle.std.specs.Prelude.{option_map, slice_get}
use Rattle.std.specs.List.{list_any}
use Rattle.std.proofs.lemmas.Bool.{and_parts, cases_eq, or_parts, or_right}
use Rattle.std.proofs.lemmas.List.{length-map, length-set}
use Rattle.std.proofs.lemmas.Option.{slice_get-map, slice_get_within}
use Rattle.bus_words.proofs.StoredPlaces.{get_set}
use Rattle.tl_messages.specs.Requests.{HeldMessage, WholeRequest, request_of}
use Rattle.burst_plan.specs.declared.Region.{Region}
use Rattle.responses.specs.Shown.{shown}
use Rattle.subordinate.specs.Faults.{Faults}
use Rattle.meaning.specs.Meaning.{Bytes}
use Rattle.scoreboard.specs.Boards.{Board, ClientBoard, begun_on, client_beside, early_due, fails, flight_for, footprints_of, is_spoiled, joining_on, place_on, with_accepted, with_client}
use Rattle.scoreboard.specs.Flights.{Flights, Footprint, InFlight, is_of_source}
use Rattle.scoreboard.specs.Orders.{Order}
use Rattle.scoreboard.specs.Races.{after_given, after_joining, alone, beside, flight_beside, joining, may_read, may_write}
use Rattle.scoreboard.specs.RealTime.{MayBecome}
use Rattle.scoreboard.specs.declared.Errors.TheVariants.{Any}
use Rattle.scoreboard.proofs.real_time.Acceptance.{other_flight, own_flight, sources_beside}
use Rattle.scoreboard.proofs.real_time.Ahead.{HasBecome, HasBeside, IsAhead, IsBehind, IsComing, IsFinal, IsGiven, IsSame, IsWithin, NoneFated, Shadow, comes, shadow_of, shadow_touches, shadow_writes, touches, will_give, within_writes}
use Rattle.scoreboard.proofs.real_time.AheadBeside.{behind_beside, coming_beside_it, none_beside, was_beside}
use Rattle.scoreboard.proofs.real_time.Apart.{AreAll}
use Rattle.scoreboard.proofs.real_time.Comings.{comes_beside, comes_other, comes_same, early_at, early_beside, early_other, early_same, footprints_front}
use Rattle.scoreboard.proofs.real_time.Entries.{carry}
use Rattle.scoreboard.proofs.real_time.Explained.{Explains, sources_with}
use Rattle.scoreboard.proofs.real_time.Failures.{corrupt_as, fails_flag, fails_keeps, fails_less, same_place}
use Rattle.scoreboard.proofs.real_time.FirstBeats.{no_data_back}
use Rattle.scoreboard.proofs.real_time.FlightLists.{HaveAllSources, are_all, sources_kept}
use Rattle.scoreboard.proofs.real_time.FlightPlaces.{at_beside, coming_beside, coming_other, coming_same}
use Rattle.scoreboard.proofs.real_time.Places.{Place, cases_place, coming_at, due_at, flight_at, flight_in, flights_kept, footprint_at}
use Rattle.scoreboard.proofs.real_time.RequestActs.{IsWell, acts, own}
use Rattle.scoreboard.proofs.real_time.ShadowJoins.{bytes_kept, certain_there, given_kept, given_there, still_certain, untouched_there}
use Rattle.scoreboard.proofs.real_time.ShadowPlaces.{finals_other, finals_own, finals_with, free_there, none_here, none_there, reply_same}
use Rattle.scoreboard.proofs.real_time.StepOrders.{first_of}

module _ {start : Bytes} (board : Board) (shadow : Shadow) (order : Order) (explains : Explains start (shadow_of board shadow) order) (ahead : IsAhead board shadow)
    (number : ℕ) (client other_client : ClientBoard) (message : HeldMessage) (bytes : List (Option ℕ)) (spoiled : Bool) (n : ℕ) (fated : Bool)
    (there : slice_get board.clients number ≡ Some client) (there_too : slice_get shadow.clients number ≡ Some other_client) (front : client.front ≡ None)
    (free : list_any (is_of_source message.source) client.flights.due ≡ false)
    (may : MayBecome (record (first_of board.errors number (request_of message) false n) { spoiled = is_spoiled board.errors (request_of message) || fated })
    (record (request_of message) { bytes = bytes; corrupt = spoiled }))
    (any : fated ≡ true → board.errors ≡ Any)
    (silent : may_read message.operation ≡ false) (well : IsWell (record (request_of message) { bytes = bytes; corrupt = spoiled })) where
  abbrev pub faults : Faults
  faults = board.memory.faults

  abbrev pub regions : List Region
  regions = board.memory.regions

  abbrev pub heard : ClientBoard
  heard = record client { front = Some message }

  abbrev pub hearing : Board
  hearing = with_client number heard board

  -- what came, and what becomes of it
  abbrev pub first : WholeRequest
  first = request_of message

  abbrev pub q : WholeRequest
  q = record (request_of message) { bytes = bytes; corrupt = spoiled }

  abbrev pub mine : Footprint
  mine = joining_on hearing first

  abbrev pub theirs : Footprint
  theirs = joining_on (shadow_of board shadow) q

  abbrev pub now : Board
  now = begun_on hearing number (record heard { early = early_due board.errors first }) mine

  abbrev pub flight : InFlight
  flight = flight_for (shadow_of board shadow).memory theirs q

  abbrev pub now_shadow : Shadow
  now_shadow =
      record {
        clients = set (map (client_beside theirs) shadow.clients) number (with_accepted flight (client_beside theirs other_client));
        bytes = carry faults regions q shadow.bytes;
        indeterminate = after_joining shadow.indeterminate (footprints_of shadow.clients) theirs q.bytes;
        finals = finals_with shadow.finals number q;
        fate = shadow.fate;
        fates = shadow.fates;
      }

  abbrev pub own_place : Place
  own_place = due_at number message.source

  -- ---- the footprints of both

  abbrev failed : Bool
  failed = fails board.errors board.memory first

  -- the request's, beside all
  abbrev beginning : Footprint
  beginning = joining board.indeterminate (footprints_of hearing.clients) (place_on board first) first

  pub mine_acts : mine ≡ record (alone (λ x. false) (place_on board first) first) { failed = mine.failed; determined = mine.determined }
  mine_acts = fails_keeps failed beginning

  pub mine_failed : (joining_on (with_client number (record client { front = Some message }) board) (request_of message)).failed ≡ fails board.errors board.memory (request_of message)
  mine_failed = fails_flag failed beginning refl

  corrupt : is_spoiled board.errors first ≡ false → first.corrupt ≡ true → q.corrupt ≡ true
  corrupt = corrupt_as board.errors first q fated any may.corrupt

  acts_there : (own faults regions q).writes ≡ true → mine ≡ record (own faults regions q) { failed = mine.failed; determined = mine.determined }
  acts_there does = grind (arith, does)

  within : IsWithin theirs mine
  within = grind arith

  same_footprints : footprints_of hearing.clients ≡ footprints_of board.clients
  same_footprints = footprints_front board.clients number client (Some message) there

  are : AreAll (footprint_at shadow.clients) (footprints_of shadow.clients)
  are = are_all shadow.clients explains.sources explains.nothing

  -- where it is determined nobody may write
  nobody : (x : ℕ) → mine.determined x ≡ true → list_any (λ r. may_write r x) (footprints_of board.clients) ≡ false
  nobody x determined =
      let beside_all = (fails_less failed beginning x determined).0 in
      ap (list_any (λ r. may_write r x)) (sym same_footprints) ∙ grind (arith, beside_all)

  nobody_there : (x : ℕ) → mine.determined x ≡ true → (i : Place) → may_write (footprint_at shadow.clients i) x ≡ false
  nobody_there x determined = shadow_writes board shadow ahead x (nobody x determined)

  less : (x : ℕ) → (own faults regions q).writes ≡ true → mine.determined x ≡ true → theirs.determined x ≡ true
  less x writes determined =
      let none : list_any (λ r. may_write r x) (footprints_of shadow.clients) ≡ false = are.none (λ r. may_write r x) (nobody_there x determined) in
      let beside_all = (fails_less failed beginning x determined).0 in
      let place = same_place faults regions board.errors first q may.fields corrupt (or_right (own faults regions q).reads (own faults regions q).writes writes) in
      grind (arith, beside_all, none, place, silent)

  -- where it has failed nothing of it is determined
  broken : (x : ℕ) → mine.failed ≡ true → mine.determined x ≡ false
  broken x has = grind (arith, has)

  becomes : IsComing faults regions mine q flight
  becomes =
      record {
        source = refl;
        well = well;
        silent = silent;
        same = acts_there;
        acts = refl;
        less = less;
        beats = λ m. ap (shown q) (reply_same faults regions q shadow.bytes m (no_data_back q.operation silent));
        broken = broken;
      }

  -- ---- what is in flight, and coming

  there_heard : slice_get hearing.clients number ≡ Some heard
  there_heard = get_set board.clients number heard (slice_get_within board.clients number client there)

  there_given : slice_get (map (client_beside mine) hearing.clients) number ≡ Some (client_beside mine heard)
  there_given = slice_get-map (client_beside mine) hearing.clients number ∙ ap (option_map (client_beside mine)) there_heard

  abbrev pub changed : ClientBoard
  changed = record (client_beside mine (record heard { early = early_due board.errors first })) { coming = mine }

  pub now_flight : (i : Place) → flight_at now.clients i ≡ option_map (flight_beside mine) (flight_at board.clients i)
  now_flight i =
      ap (λ (f : Flights). flight_in f i.source)
      (flights_kept (map (client_beside mine) hearing.clients) number (client_beside mine heard) changed there_given refl i.client)
      ∙ at_beside mine hearing.clients i
      ∙ ap (λ (f : Flights). option_map (flight_beside mine) (flight_in f i.source)) (flights_kept board.clients number client heard there refl i.client)

  pub coming_own : coming_at now.clients number ≡ mine
  coming_own = coming_same (map (client_beside mine) hearing.clients) number (client_beside mine heard) changed there_given

  pub coming_others : (c : ℕ) → (c ≡ number → ⊥) → coming_at now.clients c ≡ beside (coming_at board.clients c) mine
  coming_others c differ =
      coming_other (map (client_beside mine) hearing.clients) number c changed differ ∙ coming_beside mine hearing.clients c
      ∙ ap (λ (r : Footprint). beside r mine) (coming_other board.clients number c heard differ)

  pub early_own : early_at now.clients number ≡ early_due board.errors first
  early_own = early_same (map (client_beside mine) hearing.clients) number (client_beside mine heard) changed there_given

  pub early_others : (c : ℕ) → (c ≡ number → ⊥) → early_at now.clients c ≡ early_at board.clients c
  early_others c differ =
      early_other (map (client_beside mine) hearing.clients) number c changed differ ∙ early_beside mine hearing.clients c
      ∙ early_other board.clients number c heard differ

  pub comes_own : comes now.clients number ≡ true
  comes_own = comes_same (map (client_beside mine) hearing.clients) number (client_beside mine heard) changed there_given

  pub comes_others : (c : ℕ) → (c ≡ number → ⊥) → comes now.clients c ≡ comes board.clients c
  comes_others c differ =
      comes_other (map (client_beside mine) hearing.clients) number c changed differ ∙ comes_beside mine hearing.clients c
      ∙ comes_other board.clients number c heard differ

  -- one that came before is another's
  pub came_before : (c : ℕ) → comes board.clients c ≡ true → c ≡ number → ⊥
  came_before c begun same = grind (arith, begun, same, ahead, there, front, free)

  none_yet : flight_at shadow.clients own_place ≡ None
  none_yet = none_there board shadow ahead number message.source client there front free

  free_too : list_any (is_of_source message.source) other_client.flights.due ≡ false
  free_too = free_there board shadow ahead number message.source client there front free other_client there_too

  own_there : flight_at now_shadow.clients own_place ≡ Some flight
  own_there = own_flight (shadow_of board shadow) number other_client q theirs there_too free_too

  others_there : (i : Place) → (i ≡ own_place → ⊥) → flight_at now_shadow.clients i ≡ option_map (flight_beside theirs) (flight_at shadow.clients i)
  others_there i differ = other_flight (shadow_of board shadow) number other_client q theirs there_too free_too i differ

  elsewhere : (i : Place) (other : InFlight) → flight_at shadow.clients i ≡ Some other → i ≡ own_place → ⊥
  elsewhere i other is same = absurd (cc (sym none_yet ∙ ap (flight_at shadow.clients) (sym same) ∙ is))

  -- ---- the shadow is ahead

  placed : (place : Place) (after : InFlight) → flight_at now.clients place ≡ Some after → HasBeside now_shadow place after
  placed place after is =
      let was = was_beside mine (flight_at board.clients place) after (sym (now_flight place) ∙ is) in
      let old = ahead.placed place was.0 was.1 in
      record {
        other = flight_beside theirs old.other;
        there = others_there place (elsewhere place old.other old.there) ∙ ap (option_map (flight_beside theirs)) old.there;
        behind =
            subst (λ (f : InFlight). IsBehind (shadow.fates place) f (flight_beside theirs old.other)) was.2
            (behind_beside mine theirs within (shadow.fates place) was.0 old.other old.behind);
      }

  abbrev pub Become : Footprint → ℕ → WholeRequest → Type 0
  Become coming c final = HasBecome faults regions now_shadow.clients coming c final

  begun : (c : ℕ) → comes now.clients c ≡ true → HasBecome faults regions now_shadow.clients (coming_at now.clients c) c (now_shadow.finals c)
  begun c some = by_client (cases_eq c number)
    where
      by_client : (c ≡ number) ⊎ (c ≡ number → ⊥) → Become (coming_at now.clients c) c (now_shadow.finals c)
      by_client (inl same) =
          subst (λ k. Become (coming_at now.clients k) k (now_shadow.finals k)) (sym same)
          (subst (λ final. Become (coming_at now.clients number) number final) (sym (finals_own shadow.finals number q))
          (subst (λ coming. Become coming number q) (sym coming_own) (record { other = flight; there = own_there; becomes = becomes })))
      by_client (inr differ) =
          let old = ahead.begun c (sym (comes_others c differ) ∙ some) in
          subst (λ final. Become (coming_at now.clients c) c final) (sym (finals_other shadow.finals number c q differ))
          (subst (λ coming. Become coming c (shadow.finals c)) (sym (coming_others c differ))
          (record {
            other = flight_beside theirs old.other;
            there = others_there (due_at c (shadow.finals c).source) (λ same. differ (ap (λ (p : Place). p.client) same))
                ∙ ap (option_map (flight_beside theirs)) old.there;
            becomes = coming_beside_it mine theirs within faults regions (coming_at board.clients c) (shadow.finals c) old.other old.becomes;
          }))

  others : (place : Place) (other : InFlight) → flight_at now_shadow.clients place ≡ Some other → flight_at now.clients place ≡ None → IsFinal now now_shadow place
  others place other is none = by_place (cases_place place own_place)
    where
      by_place : (place ≡ own_place) ⊎ (place ≡ own_place → ⊥) → IsFinal now now_shadow place
      by_place (inl same) =
          subst (IsFinal now now_shadow) (sym same)
          (record { begun = comes_own; there = ap (λ (final : WholeRequest). due_at number final.source) (sym (finals_own shadow.finals number q)) })
      by_place (inr differ) =
          let was = was_beside theirs (flight_at shadow.clients place) other (sym (others_there place differ) ∙ is) in
          let old = ahead.others place was.0 was.1 (none_beside mine (flight_at board.clients place) (sym (now_flight place) ∙ none)) in
          let apart = came_before place.client old.begun in
          record {
            begun = comes_others place.client apart ∙ old.begun;
            there = old.there ∙ ap (λ (final : WholeRequest). due_at place.client final.source) (sym (finals_other shadow.finals number place.client q apart));
          }

  -- what it doesn't give, and isn't indeterminate, was so before
  nothing_given : (x : ℕ) → after_given board.indeterminate mine [] x ≡ board.indeterminate x
  nothing_given x = grind arith

  known : (x : ℕ) → now.indeterminate x ≡ false → ((c : ℕ) → comes now.clients c ≡ true → will_give faults regions (now_shadow.finals c) x ≡ false)
      → NoneFated now.clients shadow.fates x → IsSame now now_shadow x
  known x certain none unfated =
      let parts = or_parts (after_given board.indeterminate mine [] x) (list_any (touches mine x) (footprints_of hearing.clients)) certain in
      let own_none : will_give faults regions q x ≡ false =
      sym (ap (λ (final : WholeRequest). will_give faults regions final x) (finals_own shadow.finals number q)) ∙ none number comes_own in
      let same = ahead.known x (sym (nothing_given x) ∙ parts.0) (λ c begun.
      let apart = came_before c begun in
      sym (ap (λ (final : WholeRequest). will_give faults regions final x) (finals_other shadow.finals number c q apart)) ∙ none c (comes_others c apart ∙ begun)) unfated_before in
      record {
        byte = bytes_kept board shadow order explains q well x own_none ∙ same.byte;
        certain =
            certain_there board shadow order explains q well x (still_certain board shadow order explains q well x own_none same.certain)
            (shadow_touches board shadow ahead theirs mine x within (sym (ap (list_any (touches mine x)) same_footprints) ∙ parts.1));
      }
    where
      unfated_before : NoneFated board.clients shadow.fates x
      unfated_before place old is = unfated place (flight_beside mine old) (now_flight place ∙ ap (option_map (flight_beside mine)) is)

  -- ---- what has begun stands there

  abbrev pub Given : ℕ → WholeRequest → Type 0
  Given x final = IsGiven faults regions now_shadow.bytes now_shadow.indeterminate final x

  own_given : (x : ℕ) → mine.determined x ≡ true → will_give faults regions q x ≡ true
      → IsGiven faults regions now_shadow.bytes now_shadow.indeterminate q x
  own_given x determined gives_it =
      record {
        byte = λ m. (acts faults regions q well).same shadow.bytes m x gives_it (λ reads. absurd (grind (arith, reads, silent)));
        certain = certain_there board shadow order explains q well x certain (λ i. untouched_there board shadow order explains q well (footprint_at shadow.clients i) x (nobody_there x determined i));
      }
    where
      its : theirs.determined x ≡ true
      its = given_there board shadow order explains q well x gives_it (λ reads. absurd (grind (arith, reads, silent))) (nobody_there x determined)

      certain : after_given shadow.indeterminate theirs q.bytes x ≡ false
      certain = grind (arith, its, gives_it, silent)

  given : (c x : ℕ) → comes now.clients c ≡ true → (coming_at now.clients c).determined x ≡ true → will_give faults regions (now_shadow.finals c) x ≡ true
      → IsGiven faults regions now_shadow.bytes now_shadow.indeterminate (now_shadow.finals c) x
  given c x some determined gives_it = by_client (cases_eq c number)
    where
      by_client : (c ≡ number) ⊎ (c ≡ number → ⊥) → Given x (now_shadow.finals c)
      by_client (inl same) =
          let final : now_shadow.finals c ≡ q = ap now_shadow.finals same ∙ finals_own shadow.finals number q in
          subst (Given x) (sym final)
          (own_given x (sym (ap (λ (r : Footprint). r.determined x) (ap (coming_at now.clients) same ∙ coming_own)) ∙ determined)
          (sym (ap (λ (r : WholeRequest). will_give faults regions r x) final) ∙ gives_it))
      by_client (inr differ) =
          let final = finals_other shadow.finals number c q differ in
          let both = and_parts ((coming_at board.clients c).determined x) (not (may_write mine x))
          (sym (ap (λ (r : Footprint). r.determined x) (coming_others c differ)) ∙ determined) in
          let before = sym (comes_others c differ) ∙ some in
          let gives_so = sym (ap (λ (r : WholeRequest). will_give faults regions r x) final) ∙ gives_it in
          subst (Given x) (sym final)
          (given_kept board shadow order explains q well (coming_at board.clients c) c (shadow.finals c) x (ahead.begun c before) both.0 gives_so
          (ahead.given c x before both.0 gives_so) (within_writes theirs mine x within (grind (arith, both.1))))

  -- ---- what waits

  sources : HaveAllSources now.clients
  sources =
      sources_with (map (client_beside mine) hearing.clients) number (client_beside mine heard) changed there_given
      (sources_beside mine hearing.clients (sources_with board.clients number client heard there ahead.sources (ahead.sources number client there)))
      (sources_kept mine client.flights (ahead.sources number client there))

  waits : (c : ℕ) → comes now.clients c ≡ true → flight_at now.clients (due_at c (now_shadow.finals c).source) ≡ None
  waits c some = by_client (cases_eq c number)
    where
      by_client : (c ≡ number) ⊎ (c ≡ number → ⊥) → flight_at now.clients (due_at c (now_shadow.finals c).source) ≡ None
      by_client (inl same) =
          ap (λ k. flight_at now.clients (due_at k (now_shadow.finals k).source)) same
          ∙ ap (λ (r : WholeRequest). flight_at now.clients (due_at number r.source)) (finals_own shadow.finals number q)
          ∙ now_flight own_place
          ∙ ap (option_map (flight_beside mine)) (none_here board shadow ahead number message.source client there front free)
      by_client (inr differ) =
          ap (λ (r : WholeRequest). flight_at now.clients (due_at c r.source)) (finals_other shadow.finals number c q differ)
          ∙ now_flight (due_at c (shadow.finals c).source)
          ∙ ap (option_map (flight_beside mine)) (ahead.waits c (sym (comes_others c differ) ∙ some))

  pub begun_ahead : IsAhead
      (begun_on (with_client number (record client { front = Some message }) board) number
      (record client { front = Some message; early = early_due board.errors (request_of message) })
      (joining_on (with_client number (record client { front = Some message }) board) (request_of message))) now_shadow
  begun_ahead =
      record {
        sources = sources;
        small = ahead.small;
        waits = waits;
        many = length-set (map (client_beside theirs) shadow.clients) number (with_accepted flight (client_beside theirs other_client))
            ∙ length-map shadow.clients (client_beside theirs) ∙ ahead.many ∙ sym (length-set board.clients number heard)
            ∙ sym (length-map hearing.clients (client_beside mine))
            ∙ sym (length-set (map (client_beside mine) hearing.clients) number changed);
        placed = placed;
        begun = begun;
        others = others;
        known = known;
        given = given;
      }
