-- A request of one beat is accepted on a board, and on its shadow: the shadow is still ahead.
use Rattle.std.proofs.Common.{◌≡◌, ℕ, ◌<◌, ◌+◌, ◌^◌, Bool, nat_le, nat_lt, true, false, ◌&&◌, ◌||◌, not, List, drop, map, set, length, Option, Some, None, ◌⊎◌, inl, inr, refl, sym, ◌∙◌, ap, subst}
use Rattle.std.specs.Prelude.{is_some, option_map, slice_get}
use Rattle.std.specs.List.{list_all, list_any, range_with_len}
use Rattle.std.proofs.lemmas.Bool.{and_parts, both_ways, cases_Bool, false_from_ne_true, not-false, not-true, or_parts, or_right}
use Rattle.std.proofs.lemmas.List.{length-map, length-set}
use Rattle.std.proofs.lemmas.Option.{slice_get-map}
use Rattle.bus_words.specs.Lanes.{given_at}
use Rattle.tl_messages.specs.Requests.{WholeRequest}
use Rattle.burst_plan.specs.declared.Region.{Region}
use Rattle.responses.specs.Shown.{shown}
use Rattle.subordinate.specs.Faults.{Faults}
use Rattle.meaning.specs.Meaning.{Bytes, meaning}
use Rattle.scoreboard.specs.Boards.{Board, ClientBoard, client_beside, fails, flight_for, footprints_of, is_spoiled, joined_on, joining_on, place_on, with_accepted}
use Rattle.scoreboard.specs.Flights.{Footprint, InFlight, is_of_source}
use Rattle.scoreboard.specs.Orders.{Order}
use Rattle.scoreboard.specs.Races.{after_given, after_joining, alone as alone_of, beside, covers, flight_beside, is_fixed, joining, may_read, may_write}
use Rattle.scoreboard.specs.RealTime.{MayBecome}
use Rattle.serial_memory.specs.SerialMemory.{place_in}
use Rattle.scoreboard.specs.declared.Errors.TheVariants.{Any}
use Rattle.scoreboard.proofs.MappedLists.{any_map}
use Rattle.scoreboard.proofs.real_time.Acceptance.{other_flight, own_flight, sources_beside}
use Rattle.scoreboard.proofs.real_time.Ahead.{HasBecome, HasBeside, IsAhead, IsBehind, IsFinal, IsGiven, IsSame, IsWithin, NoneFated, Shadow, comes, fates_other, fates_own, fates_with, none_given, shadow_of, shadow_touches, shadow_writes, touches, will_give, within_writes}
use Rattle.scoreboard.proofs.real_time.AheadBeside.{behind_beside, coming_beside_it, none_beside, was_beside}
use Rattle.scoreboard.proofs.real_time.AlikeBeats.{LeftAlike, left_alike}
use Rattle.scoreboard.proofs.real_time.Apart.{AreAll, determined_fixed, fixed_determined}
use Rattle.scoreboard.proofs.real_time.Comings.{comes_beside, comes_other, comes_same, early_at, early_beside, early_other, early_same}
use Rattle.scoreboard.proofs.real_time.Entries.{carry}
use Rattle.scoreboard.proofs.real_time.Explained.{Explains, sources_with}
use Rattle.scoreboard.proofs.real_time.Failures.{FatedOf, acting_same, corrupt_as, fails_flag, fails_keeps, fails_less, gives_less, gives_there, same_acting, same_as, same_shapes, shape_of, sound_spoils, well_as}
use Rattle.scoreboard.proofs.real_time.FlightLists.{HaveAllSources, are_all, each_coming, each_of, sources_kept}
use Rattle.scoreboard.proofs.real_time.FlightPlaces.{coming_beside, coming_other, sources_more}
use Rattle.scoreboard.proofs.real_time.Lengths.{length-shown}
use Rattle.scoreboard.proofs.real_time.Places.{Place, cases_place, coming_at, due_at, flight_at, footprint_at, footprint_in}
use Rattle.scoreboard.proofs.real_time.RequestActs.{IsWell, acts, gives, own}
use Rattle.scoreboard.proofs.real_time.ShadowJoins.{bytes_kept, certain_there, given_kept, still_certain}
use Rattle.scoreboard.proofs.real_time.ShadowPlaces.{free_there, none_here, none_there, nothing_begun}

-- ---- whether a byte is determined, by what may be its doubt

was_certain : (after before acts shows doubt others : Bool) → (acts && shows) ≡ true → ((after && before && not (acts && shows && doubt)) && not others) ≡ true → doubt ≡ false
was_certain true true true true false others reads determined = refl
was_certain true true true true true others reads determined = absurd (cc (determined))
was_certain true true true false doubt others reads determined = absurd (cc (reads))
was_certain true true false shows doubt others reads determined = absurd (cc (reads))
was_certain true false acts shows doubt others reads determined = absurd (cc (determined))
was_certain false before acts shows doubt others reads determined = absurd (cc (determined))

still_determined : (after before acts shows doubt doubt_there others others_there : Bool) → ((after && before && not (acts && shows && doubt)) && not others) ≡ true
    → ((acts && shows) ≡ true → doubt_there ≡ false) → others_there ≡ false → ((after && before && not (acts && shows && doubt_there)) && not others_there) ≡ true
still_determined true true true true doubt doubt_there others others_there determined certain none = rw (certain refl, none) refl
still_determined true true true false doubt doubt_there others others_there determined certain none = rw none refl
still_determined true true false shows doubt doubt_there others others_there determined certain none = rw none refl
still_determined true false acts shows doubt doubt_there others others_there determined certain none = absurd (cc (determined))
still_determined false before acts shows doubt doubt_there others others_there determined certain none = absurd (cc (determined))

module _ {start : Bytes} (board : Board) (shadow : Shadow) (order : Order) (explains : Explains start (shadow_of board shadow) order) (ahead : IsAhead board shadow)
    (number : ℕ) (client other_client : ClientBoard) (q r : WholeRequest) (n : ℕ) (fated : Bool)
    (there : slice_get board.clients number ≡ Some client) (there_too : slice_get shadow.clients number ≡ Some other_client) (front : client.front ≡ None)
    (free : list_any (is_of_source q.source) client.flights.due ≡ false) (well : IsWell q) (may : MayBecome (FatedOf board.errors number q n fated) r)
    (any : fated ≡ true → board.errors ≡ Any) where
  abbrev pub faults : Faults
  faults = board.memory.faults

  abbrev pub regions : List Region
  regions = board.memory.regions

  abbrev pub mine : Footprint
  mine = joining_on board q

  abbrev pub theirs : Footprint
  theirs = joining_on (shadow_of board shadow) r

  abbrev pub now : Board
  now = joined_on board number client q mine

  abbrev pub flight : InFlight
  flight = flight_for board.memory mine q

  abbrev pub other_flight_for : InFlight
  other_flight_for = flight_for (shadow_of board shadow).memory theirs r

  abbrev pub own_place : Place
  own_place = due_at number q.source

  abbrev pub now_shadow : Shadow
  now_shadow =
      record {
        clients = set (map (client_beside theirs) shadow.clients) number (with_accepted other_flight_for (client_beside theirs other_client));
        bytes = carry faults regions r shadow.bytes;
        indeterminate = after_joining shadow.indeterminate (footprints_of shadow.clients) theirs r.bytes;
        finals = shadow.finals;
        fate = shadow.fate;
        fates = fates_with shadow.fates own_place fated;
      }

  -- ---- the footprints of both

  abbrev failed : Bool
  failed = fails board.errors board.memory q

  -- the request's, beside all
  abbrev beginning : Footprint
  beginning = joining board.indeterminate (footprints_of board.clients) (place_on board q) q

  well_there : IsWell r
  well_there = well_as board.errors number q r n fated may well

  pub mine_acts : mine ≡ record (alone_of (λ x. false) (place_on board q) q) { failed = mine.failed; determined = mine.determined }
  mine_acts = fails_keeps failed beginning

  pub mine_failed : (joining_on board q).failed ≡ fails board.errors board.memory q
  mine_failed = fails_flag failed beginning refl

  -- where it isn't fated and hasn't failed it becomes what it is
  is_same : fated ≡ false → failed ≡ false → r ≡ q
  is_same unfated sound = same_as board.errors number q r n fated may unfated (sound_spoils board.errors board.memory q sound)

  corrupt : is_spoiled board.errors q ≡ false → q.corrupt ≡ true → r.corrupt ≡ true
  corrupt = corrupt_as board.errors q r fated any may.corrupt

  its_place : failed ≡ false → place_on board q ≡ place_in board.memory q
  its_place sound = ap (place_in board.memory) (acting_same board.errors q (sound_spoils board.errors board.memory q sound))

  same_source : q.source ≡ r.source
  same_source = sym (ap (λ (x : WholeRequest). x.source) may.fields)

  acts_there : (theirs.reads || theirs.writes) ≡ true → mine ≡ record theirs { failed = mine.failed; determined = mine.determined }
  acts_there does = mine_acts ∙ same_acting faults regions board.errors q r may.fields corrupt mine.failed mine.determined does

  within : IsWithin theirs mine
  within =
      record {
        writes = λ does. ap (λ (f : Footprint). f.writes) (acts_there (writes_acts does)) ∙ does;
        address = λ does. ap (λ (f : Footprint). f.address) (acts_there (writes_acts does));
        size = λ does. ap (λ (f : Footprint). f.size) (acts_there (writes_acts does));
      }
    where
      writes_acts : theirs.writes ≡ true → (theirs.reads || theirs.writes) ≡ true
      writes_acts does = or_right theirs.reads theirs.writes does

  are : AreAll (footprint_at shadow.clients) (footprints_of shadow.clients)
  are = are_all shadow.clients explains.sources explains.nothing

  alone : (x : ℕ) → mine.determined x ≡ true → list_any (λ r. may_write r x) (footprints_of board.clients) ≡ false
  alone x determined =
      not-true (list_any (λ f. may_write f x) (footprints_of board.clients))
      (and_parts ((alone_of board.indeterminate (place_on board q) q).determined x) (not (list_any (λ f. may_write f x) (footprints_of board.clients)))
      (fails_less failed beginning x determined).0).1

  -- what has begun gives nothing where nobody may write
  nothing_coming : (x : ℕ) → list_any (λ r. may_write r x) (footprints_of board.clients) ≡ false → (c : ℕ) → comes board.clients c ≡ true
      → will_give faults regions (shadow.finals c) x ≡ false
  nothing_coming x nobody c some =
      let become = ahead.begun c some in
      none_given faults regions (coming_at board.clients c) (shadow.finals c) become.other x become.becomes (each_coming (λ r. may_write r x) refl board.clients nobody c)

  -- nor may one write there that is fated
  none_fated : (x : ℕ) → list_any (λ r. may_write r x) (footprints_of board.clients) ≡ false → NoneFated board.clients shadow.fates x
  none_fated x nobody place old is fated_it sound =
      ap (λ (o : Option InFlight). may_write (footprint_in o) x) (sym is) ∙ each_of (λ r. may_write r x) refl board.clients nobody place.client place.source

  -- what it reads and is determined both know
  read_same : (x : ℕ) → mine.reads ≡ true → mine.determined x ≡ true → IsSame board shadow x
  read_same x reads determined =
      ahead.known x (was_certain (nat_le beginning.address x) (nat_lt x (beginning.address + 2 ^ q.size)) (is_some (place_on board q)) (may_read q.operation)
      (board.indeterminate x) (list_any (λ f. may_write f x) (footprints_of board.clients)) (sym (ap (λ (f : Footprint). f.reads) mine_acts) ∙ reads)
      (fails_less failed beginning x determined).0) (nothing_coming x (alone x determined)) (none_fated x (alone x determined))

  -- what is determined of it is among its bytes
  its_bytes : (x : ℕ) → mine.determined x ≡ true → covers mine x ≡ true
  its_bytes x determined =
      ap (λ (f : Footprint). covers f x) mine_acts
      ∙ covered (nat_le beginning.address x) (nat_lt x (beginning.address + 2 ^ q.size))
      (not (is_some (place_on board q) && may_read q.operation && board.indeterminate x))
      (not (list_any (λ f. may_write f x) (footprints_of board.clients))) (fails_less failed beginning x determined).0
    where
      covered : (after before certain apart : Bool) → ((after && before && certain) && apart) ≡ true → (after && before) ≡ true
      covered true true certain apart is = refl
      covered true false certain apart is = absurd (cc (is))
      covered false before certain apart is = absurd (cc (is))

  less : fated ≡ false → (x : ℕ) → mine.determined x ≡ true → theirs.determined x ≡ true
  less unfated x determined =
      let parts = fails_less failed beginning x determined in
      subst (λ (y : WholeRequest). (joining_on (shadow_of board shadow) y).determined x ≡ true) (sym (is_same unfated parts.1))
      (subst (λ (place : Option ℕ). (joining shadow.indeterminate (footprints_of shadow.clients) place q).determined x ≡ true) (its_place parts.1)
      (still_determined (nat_le beginning.address x) (nat_lt x (beginning.address + 2 ^ q.size)) (is_some (place_on board q)) (may_read q.operation)
      (board.indeterminate x) (shadow.indeterminate x) (list_any (λ f. may_write f x) (footprints_of board.clients)) (list_any (λ f. may_write f x) (footprints_of shadow.clients))
      parts.0 (λ reads. (read_same x (ap (λ (f : Footprint). f.reads) mine_acts ∙ reads) determined).certain)
      (are.none (λ f. may_write f x) (shadow_writes board shadow ahead x (alone x determined)))))

  -- it acts as it is, where it hasn't failed
  mine_sound : mine.failed ≡ false → mine ≡ record (own faults regions q) { determined = mine.determined }
  mine_sound sound =
      mine_acts
      ∙ ap (λ (b : Bool). record (alone_of (λ x. false) (place_on board q) q) { failed = b; determined = mine.determined }) sound
      ∙ ap (λ (place : Option ℕ). record (alone_of (λ x. false) place q) { determined = mine.determined }) (its_place (sym mine_failed ∙ sound))

  shapes : map shape_of flight.beats ≡ map shape_of other_flight_for.beats
  shapes = same_shapes q r (meaning faults regions q board.memory.bytes).reply (meaning faults regions r shadow.bytes).reply may.fields

  behind : IsBehind fated flight other_flight_for
  behind =
      record {
        source = same_source;
        acts = acts_there;
        sound = λ unfated sound.
            mine_sound sound
            ∙ ap (λ (y : WholeRequest). record (own faults regions y) { determined = mine.determined }) (sym (is_same unfated (sym mine_failed ∙ sound)));
        less = λ unfated x reads. less unfated x;
        long = sym (length-map flight.beats shape_of) ∙ ap length shapes ∙ length-map other_flight_for.beats shape_of;
        shapes = shapes;
        alike = alike;
      }
    where
      -- of the request as it is
      as_it_is : mine.failed ≡ false → (k : ℕ) → k < length (shown q (meaning faults regions q shadow.bytes).reply)
          → LeftAlike mine (drop k flight.beats) (drop k (shown q (meaning faults regions q shadow.bytes).reply))
      as_it_is sound k below =
          left_alike faults regions q mine k board.memory.bytes shadow.bytes
          (subst (λ (l : ℕ). k < l) (length-shown q (meaning faults regions q shadow.bytes).reply) below) (mine_sound sound) ahead.small explains.small
          (λ x reads determined. sym (read_same x (ap (λ (f : Footprint). f.reads) (mine_sound sound) ∙ reads) determined).byte)

      alike : fated ≡ false → mine.failed ≡ false → (k : ℕ) → k < length other_flight_for.beats → LeftAlike mine (drop k flight.beats) (drop k other_flight_for.beats)
      alike unfated sound =
          subst (λ (y : WholeRequest). (k : ℕ) → k < length (shown y (meaning faults regions y shadow.bytes).reply)
          → LeftAlike mine (drop k flight.beats) (drop k (shown y (meaning faults regions y shadow.bytes).reply)))
          (sym (is_same unfated (sym mine_failed ∙ sound))) (as_it_is sound)

  -- ---- what is in flight, and coming

  there_given : slice_get (map (client_beside mine) board.clients) number ≡ Some (client_beside mine client)
  there_given = slice_get-map (client_beside mine) board.clients number ∙ ap (option_map (client_beside mine)) there

  abbrev pub changed : ClientBoard
  changed = with_accepted flight (client_beside mine client)

  pub own_here : flight_at now.clients own_place ≡ Some flight
  own_here = own_flight board number client q mine there free

  pub others_here : (i : Place) → (i ≡ own_place → ⊥) → flight_at now.clients i ≡ option_map (flight_beside mine) (flight_at board.clients i)
  others_here i differ = other_flight board number client q mine there free i differ

  pub none_before : comes board.clients number ≡ false
  none_before = nothing_begun board shadow ahead number q.source client there front free

  none_now : comes now.clients number ≡ false
  none_now = comes_same (map (client_beside mine) board.clients) number (client_beside mine client) changed there_given

  -- one that comes is another's
  pub apart_now : (c : ℕ) → comes now.clients c ≡ true → c ≡ number → ⊥
  apart_now c some same = absurd (cc (sym none_now ∙ ap (comes now.clients) (sym same) ∙ some))

  pub apart_before : (c : ℕ) → comes board.clients c ≡ true → c ≡ number → ⊥
  apart_before c some same = absurd (cc (sym none_before ∙ ap (comes board.clients) (sym same) ∙ some))

  pub comes_others : (c : ℕ) → (c ≡ number → ⊥) → comes now.clients c ≡ comes board.clients c
  comes_others c differ = comes_other (map (client_beside mine) board.clients) number c changed differ ∙ comes_beside mine board.clients c

  pub early_own : early_at now.clients number ≡ None
  early_own = early_same (map (client_beside mine) board.clients) number (client_beside mine client) changed there_given

  pub early_others : (c : ℕ) → (c ≡ number → ⊥) → early_at now.clients c ≡ early_at board.clients c
  early_others c differ = early_other (map (client_beside mine) board.clients) number c changed differ ∙ early_beside mine board.clients c

  pub coming_others : (c : ℕ) → (c ≡ number → ⊥) → coming_at now.clients c ≡ beside (coming_at board.clients c) mine
  coming_others c differ = coming_other (map (client_beside mine) board.clients) number c changed differ ∙ coming_beside mine board.clients c

  none_yet : flight_at shadow.clients own_place ≡ None
  none_yet = none_there board shadow ahead number q.source client there front free

  free_too : list_any (is_of_source r.source) other_client.flights.due ≡ false
  free_too =
      subst (λ source. list_any (is_of_source source) other_client.flights.due ≡ false) same_source
      (free_there board shadow ahead number q.source client there front free other_client there_too)

  own_is : own_place ≡ due_at number r.source
  own_is = ap (due_at number) same_source

  own_there : flight_at now_shadow.clients own_place ≡ Some other_flight_for
  own_there = ap (flight_at now_shadow.clients) own_is ∙ own_flight (shadow_of board shadow) number other_client r theirs there_too free_too

  others_there : (i : Place) → (i ≡ own_place → ⊥) → flight_at now_shadow.clients i ≡ option_map (flight_beside theirs) (flight_at shadow.clients i)
  others_there i differ =
      other_flight (shadow_of board shadow) number other_client r theirs there_too free_too i (λ same. differ (same ∙ sym own_is))

  -- ---- the shadow is ahead

  placed : (place : Place) (after : InFlight) → flight_at now.clients place ≡ Some after → HasBeside now_shadow place after
  placed place after is = by_place (cases_place place own_place)
    where
      by_place : (place ≡ own_place) ⊎ (place ≡ own_place → ⊥) → HasBeside now_shadow place after
      by_place (inl same) =
          let one : Some flight ≡ Some after = sym own_here ∙ ap (flight_at now.clients) (sym same) ∙ is in
          let it : flight ≡ after = cc (one) in
          let fate : now_shadow.fates place ≡ fated = ap now_shadow.fates same ∙ fates_own shadow.fates own_place fated in
          record {
            other = other_flight_for;
            there = ap (flight_at now_shadow.clients) same ∙ own_there;
            behind = subst (λ (b : Bool). IsBehind b after other_flight_for) (sym fate) (subst (λ (f : InFlight). IsBehind fated f other_flight_for) it behind);
          }
      by_place (inr differ) =
          let was = was_beside mine (flight_at board.clients place) after (sym (others_here place differ) ∙ is) in
          let old = ahead.placed place was.0 was.1 in
          record {
            other = flight_beside theirs old.other;
            there = others_there place differ ∙ ap (option_map (flight_beside theirs)) old.there;
            behind =
                subst (λ (b : Bool). IsBehind b after (flight_beside theirs old.other)) (sym (fates_other shadow.fates own_place fated place differ))
                (subst (λ (f : InFlight). IsBehind (shadow.fates place) f (flight_beside theirs old.other)) was.2
                (behind_beside mine theirs within (shadow.fates place) was.0 old.other old.behind));
          }

  begun : (c : ℕ) → comes now.clients c ≡ true → HasBecome faults regions now_shadow.clients (coming_at now.clients c) c (shadow.finals c)
  begun c some =
      let differ = apart_now c some in
      let old = ahead.begun c (sym (comes_others c differ) ∙ some) in
      subst (λ coming. HasBecome faults regions now_shadow.clients coming c (shadow.finals c)) (sym (coming_others c differ))
      (record {
        other = flight_beside theirs old.other;
        there = others_there (due_at c (shadow.finals c).source) (λ same. differ (ap (λ (p : Place). p.client) same))
            ∙ ap (option_map (flight_beside theirs)) old.there;
        becomes = coming_beside_it mine theirs within faults regions (coming_at board.clients c) (shadow.finals c) old.other old.becomes;
      })

  others : (place : Place) (other : InFlight) → flight_at now_shadow.clients place ≡ Some other → flight_at now.clients place ≡ None → IsFinal now now_shadow place
  others place other is none = by_place (cases_place place own_place)
    where
      by_place : (place ≡ own_place) ⊎ (place ≡ own_place → ⊥) → IsFinal now now_shadow place
      by_place (inl same) = absurd (cc (sym none ∙ ap (flight_at now.clients) same ∙ own_here))
      by_place (inr differ) =
          let was = was_beside theirs (flight_at shadow.clients place) other (sym (others_there place differ) ∙ is) in
          let old = ahead.others place was.0 was.1 (none_beside mine (flight_at board.clients place) (sym (others_here place differ) ∙ none)) in
          record { begun = comes_others place.client (apart_before place.client old.begun) ∙ old.begun; there = old.there }

  known : (x : ℕ) → now.indeterminate x ≡ false → ((c : ℕ) → comes now.clients c ≡ true → will_give faults regions (shadow.finals c) x ≡ false)
      → NoneFated now.clients now_shadow.fates x → IsSame now now_shadow x
  known x certain none unfated = by_given (gives mine q.bytes x) refl
    where
      -- no other that is fated may write it
      unfated_before : NoneFated board.clients shadow.fates x
      unfated_before place old is fated_it sound =
          unfated place (flight_beside mine old) (others_here place differ ∙ ap (option_map (flight_beside mine)) is)
          (fates_other shadow.fates own_place fated place differ ∙ fated_it) sound
        where
          differ : place ≡ own_place → ⊥
          differ same =
              absurd (cc (sym (none_here board shadow ahead number q.source client there front free) ∙ ap (flight_at board.clients) (sym same) ∙ is))

      -- what isn't given is given neither here nor there
      given_none : gives mine q.bytes x ≡ false → will_give faults regions r x ≡ false
      given_none not_given =
          false_from_ne_true (will_give faults regions r x) (λ gives_it.
          both_ways (gives mine q.bytes x) not_given
          (gives_there faults regions board.errors q r may.fields corrupt mine mine_acts (gives_less board.errors number q r n fated may) x gives_it))

      own_none : gives mine q.bytes x ≡ false → will_give faults regions q x ≡ false
      own_none not_given =
          false_from_ne_true (will_give faults regions q x) (λ gives_it.
          both_ways (gives mine q.bytes x) not_given
          (gives_there faults regions board.errors q q refl (λ sound is. is) mine mine_acts (λ a y given. given) x gives_it))

      parts : (after_given board.indeterminate mine q.bytes x ≡ false) × (list_any (touches mine x) (footprints_of board.clients) ≡ false)
      parts = or_parts (after_given board.indeterminate mine q.bytes x) (list_any (touches mine x) (footprints_of board.clients)) certain

      none_before_it : (c : ℕ) → comes board.clients c ≡ true → will_give faults regions (shadow.finals c) x ≡ false
      none_before_it c begun = none c (comes_others c (apart_before c begun) ∙ begun)

      same_with : carry faults regions r shadow.bytes x ≡ carry faults regions q board.memory.bytes x
          → after_given shadow.indeterminate theirs r.bytes x ≡ false → IsSame now now_shadow x
      same_with byte own_certain =
          record {
            byte = byte;
            certain = certain_there board shadow order explains r well_there x own_certain (shadow_touches board shadow ahead theirs mine x within parts.1);
          }

      -- one that is fated may not write it, so it doesn't give it
      not_fated : fated ≡ true → failed ≡ false → mine.determined x ≡ true → gives mine q.bytes x ≡ true → ⊥
      not_fated is_fated sound determined gives_it =
          let none = unfated own_place flight own_here (fates_own shadow.fates own_place fated ∙ is_fated) (mine_failed ∙ sound) in
          let covered : covers mine x ≡ true = its_bytes x determined in
          let writes = (and_parts mine.writes (is_some (given_at q.bytes mine.address x)) gives_it).0 in
          let may_it : may_write mine x ≡ true = rw (writes, covered) refl in
          absurd (cc (sym none ∙ may_it))

      as_given : fated ≡ false → gives mine q.bytes x ≡ true → failed ≡ false → (mine.determined x ≡ true) × (is_fixed mine ≡ true) → IsSame now now_shadow x
      as_given is_unfated gives_it sound both =
          let as_own = mine_sound (mine_failed ∙ sound) in
          let gives_so : will_give faults regions q x ≡ true = sym (ap (λ (f : Footprint). gives f q.bytes x) as_own) ∙ gives_it in
          let gives_too : will_give faults regions r x ≡ true = ap (λ (y : WholeRequest). will_give faults regions y x) (is_same is_unfated sound) ∙ gives_so in
          let all_read : mine.reads ≡ true → (y : ℕ) → covers mine y ≡ true → mine.determined y ≡ true =
          λ reads y covered. fixed_determined mine y both.1 reads covered in
          same_with
          (ap (λ (y : WholeRequest). carry faults regions y shadow.bytes x) (is_same is_unfated sound)
          ∙ (acts faults regions q well).same shadow.bytes board.memory.bytes x gives_so (λ reads y covered.
          let does = ap (λ (f : Footprint). f.reads) as_own ∙ reads in
          (read_same y does (all_read does y (ap (λ (f : Footprint). covers f y) as_own ∙ covered))).byte))
          (rw gives_too (ap not (fixed_there (less is_unfated x both.0) (fixed_less (behind.sound is_unfated (mine_failed ∙ sound)) all_read))))
        where
          fixed_less : mine ≡ record theirs { determined = mine.determined } → (mine.reads ≡ true → (y : ℕ) → covers mine y ≡ true → mine.determined y ≡ true)
              → is_fixed theirs ≡ true
          fixed_less same all_read = by_reads mine.reads refl
            where
              by_reads : (b : Bool) → mine.reads ≡ b → is_fixed theirs ≡ true
              by_reads false reads =
                  let none : theirs.reads ≡ false = sym (ap (λ (f : Footprint). f.reads) same) ∙ reads in
                  ap (λ (b : Bool). not b || list_all (λ i. theirs.determined (theirs.address + i)) (range_with_len 0 (2 ^ theirs.size))) none
              by_reads true reads = determined_fixed theirs (λ y covered. less is_unfated y (all_read reads y (ap (λ (f : Footprint). covers f y) same ∙ covered)))

          fixed_there : theirs.determined x ≡ true → is_fixed theirs ≡ true → (theirs.determined x && is_fixed theirs) ≡ true
          fixed_there here fixed = rw (here, fixed) refl

      by_given : (b : Bool) → gives mine q.bytes x ≡ b → IsSame now now_shadow x
      by_given false not_given =
          let same = ahead.known x (rw not_given at parts.0) none_before_it unfated_before in
          same_with
          (bytes_kept board shadow order explains r well_there x (given_none not_given) ∙ same.byte
          ∙ sym ((acts faults regions q well).keeps board.memory.bytes x (own_none not_given)))
          (still_certain board shadow order explains r well_there x (given_none not_given) same.certain)
      by_given true gives_it =
          let doubt : not (mine.determined x && is_fixed mine) ≡ false = rw gives_it at parts.0 in
          let both = and_parts (mine.determined x) (is_fixed mine) (not-false (mine.determined x && is_fixed mine) doubt) in
          let sound = (fails_less failed beginning x both.0).1 in
          elim (cases_Bool fated) [
            | inl is_fated ↦ absurd (not_fated is_fated sound both.0 gives_it)
            | inr is_unfated ↦ as_given is_unfated gives_it sound both
          ]

  given : (c x : ℕ) → comes now.clients c ≡ true → (coming_at now.clients c).determined x ≡ true → will_give faults regions (shadow.finals c) x ≡ true
      → IsGiven faults regions now_shadow.bytes now_shadow.indeterminate (shadow.finals c) x
  given c x some determined gives_it =
      let differ = apart_now c some in
      let before = sym (comes_others c differ) ∙ some in
      let both = and_parts ((coming_at board.clients c).determined x) (not (may_write mine x))
      (sym (ap (λ (r : Footprint). r.determined x) (coming_others c differ)) ∙ determined) in
      given_kept board shadow order explains r well_there (coming_at board.clients c) c (shadow.finals c) x (ahead.begun c before) both.0 gives_it
      (ahead.given c x before both.0 gives_it) (within_writes theirs mine x within (not-true (may_write mine x) both.1))

  sources : HaveAllSources now.clients
  sources =
      sources_with (map (client_beside mine) board.clients) number (client_beside mine client) changed there_given
      (sources_beside mine board.clients ahead.sources)
      (sources_more flight (client_beside mine client).flights (any_map (is_of_source q.source) (flight_beside mine) client.flights.due ∙ free)
      (sources_kept mine client.flights (ahead.sources number client there)))

  waits : (c : ℕ) → comes now.clients c ≡ true → flight_at now.clients (due_at c (shadow.finals c).source) ≡ None
  waits c some =
      let differ = apart_now c some in
      others_here (due_at c (shadow.finals c).source) (λ same. differ (ap (λ (p : Place). p.client) same))
      ∙ ap (option_map (flight_beside mine)) (ahead.waits c (sym (comes_others c differ) ∙ some))

  pub once_ahead : IsAhead (joined_on board number client q (joining_on board q)) now_shadow
  once_ahead =
      record {
        sources = sources;
        small = (acts faults regions q well).small board.memory.bytes ahead.small;
        waits = waits;
        many = length-set (map (client_beside theirs) shadow.clients) number (with_accepted other_flight_for (client_beside theirs other_client))
            ∙ length-map shadow.clients (client_beside theirs) ∙ ahead.many
            ∙ sym (length-map board.clients (client_beside mine))
            ∙ sym (length-set (map (client_beside mine) board.clients) number changed);
        placed = placed;
        begun = begun;
        others = others;
        known = known;
        given = given;
      }
