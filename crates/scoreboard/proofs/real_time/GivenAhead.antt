-- A request that had begun on a board is whole: on its shadow it was carried out before, and the shadow is still ahead.
use Rattle.std.proofs.Common.{◌≡◌, ℕ, ◌+◌, ◌^◌, Bool, nat_le, nat_lt, true, false, ◌&&◌, ◌||◌, not, List, length, drop, map, set, Option, Some, None, ◌⊎◌, inl, inr, refl, sym, ◌∙◌, ap, subst}
use Rattle.std.specs.Prelude.{is_some, slice_get}
use Rattle.std.specs.List.{list_any}
use Rattle.std.proofs.lemmas.Bool.{and_parts, and_right, both_ways, cases_Bool, cases_eq, false_from_ne_true, not-false, or_from, or_parts}
use Rattle.std.proofs.lemmas.List.{length-map, length-set}
use Rattle.bus_words.specs.Lanes.{given_at}
use Rattle.tl_messages.specs.Requests.{WholeRequest}
use Rattle.burst_plan.specs.declared.Region.{Region}
use Rattle.responses.specs.Shown.{shown}
use Rattle.subordinate.specs.Faults.{Faults}
use Rattle.meaning.specs.Meaning.{meaning}
use Rattle.scoreboard.specs.Boards.{Board, ClientBoard, coming_on, fails, flight_for, is_spoiled, place_on, with_accepted}
use Rattle.scoreboard.specs.Flights.{Flights, Footprint, InFlight, due_to, is_of_source}
use Rattle.scoreboard.specs.Races.{after_given, alone, covers, is_fixed, may_read, may_write, unless_failed}
use Rattle.scoreboard.specs.RealTime.{MayBecome}
use Rattle.serial_memory.specs.SerialMemory.{carried_out, place_in}
use Rattle.scoreboard.specs.declared.Errors.TheVariants.{Any}
use Rattle.scoreboard.proofs.real_time.Ahead.{HasBecome, HasBeside, IsAhead, IsBehind, IsFinal, IsGiven, IsSame, NoneFated, Shadow, comes, fates_other, fates_own, fates_with, will_give}
use Rattle.scoreboard.proofs.real_time.AlikeBeats.{Same}
use Rattle.scoreboard.proofs.real_time.Comings.{comes_other, comes_same, early_at, early_other}
use Rattle.scoreboard.proofs.real_time.Entries.{carry}
use Rattle.scoreboard.proofs.real_time.Explained.{sources_with}
use Rattle.scoreboard.proofs.real_time.Failures.{FatedOf, acting_same, corrupt_as, fails_flag, fails_keeps, fails_less, gives_less, gives_there, same_acting, same_as, same_shapes, shape_of, sound_spoils}
use Rattle.scoreboard.proofs.real_time.FlightLists.{HaveAllSources, none_found}
use Rattle.scoreboard.proofs.real_time.FlightPlaces.{coming_other, other_taken, own_taken, sources_more}
use Rattle.scoreboard.proofs.real_time.Places.{Place, cases_place, coming_at, coming_in, due_at, flight_at, flights_in}
use Rattle.scoreboard.proofs.real_time.RequestActs.{IsWell, acts, gives, own}

module _ (board : Board) (shadow : Shadow) (ahead : IsAhead board shadow) (number : ℕ) (client : ClientBoard) (q r : WholeRequest) (n : ℕ) (fated : Bool)
    (there : slice_get board.clients number ≡ Some client) (some : comes board.clients number ≡ true) (final : shadow.finals number ≡ r)
    (may : MayBecome (FatedOf board.errors number q n fated) r) (any : fated ≡ true → board.errors ≡ Any) (well : IsWell q)
    (free : list_any (is_of_source q.source) client.flights.due ≡ false) where
  abbrev pub faults : Faults
  faults = board.memory.faults

  abbrev pub regions : List Region
  regions = board.memory.regions

  abbrev pub kept : Footprint
  kept = coming_on board q client.coming

  abbrev pub now : Board
  now =
      record board {
        clients = set board.clients number (with_accepted (flight_for board.memory kept q) client);
        memory = carried_out board.memory q;
        indeterminate = after_given board.indeterminate kept q.bytes;
      }

  abbrev pub flight : InFlight
  flight = flight_for board.memory kept q

  abbrev pub own_place : Place
  own_place = due_at number q.source

  abbrev pub now_shadow : Shadow
  now_shadow = record shadow { fates = fates_with shadow.fates own_place fated }

  abbrev pub changed : ClientBoard
  changed = with_accepted flight client

  become : HasBecome faults regions shadow.clients client.coming number r
  become =
      subst (λ coming. HasBecome faults regions shadow.clients coming number r) (ap coming_in there)
      (subst (λ x. HasBecome faults regions shadow.clients (coming_at board.clients number) number x) final (ahead.begun number some))

  -- ---- the footprint

  abbrev failed : Bool
  failed = fails board.errors board.memory q

  -- the request's, alone
  abbrev own_alone : Footprint
  own_alone = alone board.indeterminate (place_on board q) q

  pub kept_acts : kept ≡ record (alone (λ x. false) (place_on board q) q) { failed = kept.failed; determined = kept.determined }
  kept_acts = ap (λ (f : Footprint). record f { failed = kept.failed; determined = kept.determined }) (fails_keeps failed own_alone)

  pub kept_failed : (coming_on board q client.coming).failed ≡ (client.coming.failed || fails board.errors board.memory q)
  kept_failed = ap (λ (b : Bool). client.coming.failed || b) (fails_flag failed own_alone refl)

  -- where it has not failed before, and doesn't, it hasn't
  kept_sound : kept.failed ≡ false → failed ≡ false
  kept_sound sound = (or_parts client.coming.failed failed (sym kept_failed ∙ sound)).1

  -- where it isn't fated and hasn't failed it became what it is
  is_same : fated ≡ false → failed ≡ false → r ≡ q
  is_same unfated sound = same_as board.errors number q r n fated may unfated (sound_spoils board.errors board.memory q sound)

  corrupt : is_spoiled board.errors q ≡ false → q.corrupt ≡ true → r.corrupt ≡ true
  corrupt = corrupt_as board.errors q r fated any may.corrupt

  its_place : failed ≡ false → place_on board q ≡ place_in board.memory q
  its_place sound = ap (place_in board.memory) (acting_same board.errors q (sound_spoils board.errors board.memory q sound))

  same_source : q.source ≡ r.source
  same_source = sym (ap (λ (x : WholeRequest). x.source) may.fields)

  silent : may_read q.operation ≡ false
  silent = sym (ap (λ (x : WholeRequest). may_read x.operation) may.fields) ∙ become.becomes.silent

  reads_none : kept.reads ≡ false
  reads_none = ap (λ (f : Footprint). f.reads) kept_acts ∙ and_right (is_some (place_on board q)) (may_read q.operation) silent

  shapes : map shape_of flight.beats ≡ map shape_of become.other.beats
  shapes =
      same_shapes q r (meaning faults regions q board.memory.bytes).reply (meaning faults regions r board.memory.bytes).reply may.fields
      ∙ ap (map shape_of) (sym (become.becomes.beats board.memory.bytes))

  behind : IsBehind fated flight become.other
  behind =
      record {
        source = same_source ∙ sym become.becomes.source;
        acts = λ does.
            let own_does = sym (ap (λ (f : Footprint). f.reads || f.writes) become.becomes.acts) ∙ does in
            kept_acts ∙ same_acting faults regions board.errors q r may.fields corrupt kept.failed kept.determined own_does
            ∙ ap (λ (f : Footprint). record f { failed = kept.failed; determined = kept.determined }) (sym become.becomes.acts);
        sound = λ unfated sound.
            let not_failed = kept_sound sound in
            kept_acts
            ∙ ap (λ (b : Bool). record (alone (λ x. false) (place_on board q) q) { failed = b; determined = kept.determined }) sound
            ∙ ap (λ (place : Option ℕ). record (alone (λ x. false) place q) { determined = kept.determined }) (its_place not_failed)
            ∙ ap (λ (x : WholeRequest). record (own faults regions x) { determined = kept.determined }) (sym (is_same unfated not_failed))
            ∙ ap (λ (f : Footprint). record f { determined = kept.determined }) (sym become.becomes.acts);
        less = λ unfated x reads. absurd (cc (sym reads_none ∙ reads));
        long = sym (length-map flight.beats shape_of) ∙ ap length shapes ∙ length-map become.other.beats shape_of;
        shapes = shapes;
        alike = λ unfated sound k below. Same (ap (drop k)
            (sym (ap (λ (x : WholeRequest). shown x (meaning faults regions x board.memory.bytes).reply) (is_same unfated (kept_sound sound)))
            ∙ sym (become.becomes.beats board.memory.bytes)));
      }

  -- ---- what is in flight, and coming

  pub own_here : flight_at now.clients own_place ≡ Some flight
  own_here = own_taken board.clients number client flight there free

  pub others_here : (i : Place) → (i ≡ own_place → ⊥) → flight_at now.clients i ≡ flight_at board.clients i
  others_here i differ = other_taken board.clients number client flight there free i differ

  none_now : comes now.clients number ≡ false
  none_now = comes_same board.clients number client changed there

  pub apart_now : (c : ℕ) → comes now.clients c ≡ true → c ≡ number → ⊥
  apart_now c comes_it same = absurd (cc (sym none_now ∙ ap (comes now.clients) (sym same) ∙ comes_it))

  pub comes_others : (c : ℕ) → (c ≡ number → ⊥) → comes now.clients c ≡ comes board.clients c
  comes_others c differ = comes_other board.clients number c changed differ

  pub early_others : (c : ℕ) → (c ≡ number → ⊥) → early_at now.clients c ≡ early_at board.clients c
  early_others c differ = early_other board.clients number c changed differ

  pub coming_others : (c : ℕ) → (c ≡ number → ⊥) → coming_at now.clients c ≡ coming_at board.clients c
  coming_others c differ = coming_other board.clients number c changed differ

  -- ---- the shadow is ahead

  placed : (place : Place) (after : InFlight) → flight_at now.clients place ≡ Some after → HasBeside now_shadow place after
  placed place after is = by_place (cases_place place own_place)
    where
      by_place : (place ≡ own_place) ⊎ (place ≡ own_place → ⊥) → HasBeside now_shadow place after
      by_place (inl same) =
          let one : Some flight ≡ Some after = sym own_here ∙ ap (flight_at now.clients) (sym same) ∙ is in
          let it : flight ≡ after = cc (one) in
          let fate : now_shadow.fates place ≡ fated = ap now_shadow.fates same ∙ fates_own shadow.fates own_place fated in
          record {
            other = become.other;
            there = ap (flight_at shadow.clients) (same ∙ ap (due_at number) same_source) ∙ become.there;
            behind = subst (λ (b : Bool). IsBehind b after become.other) (sym fate) (subst (λ (f : InFlight). IsBehind fated f become.other) it behind);
          }
      by_place (inr differ) =
          let old = ahead.placed place after (sym (others_here place differ) ∙ is) in
          record {
            other = old.other;
            there = old.there;
            behind = subst (λ (b : Bool). IsBehind b after old.other) (sym (fates_other shadow.fates own_place fated place differ)) old.behind;
          }

  begun : (c : ℕ) → comes now.clients c ≡ true → HasBecome faults regions shadow.clients (coming_at now.clients c) c (shadow.finals c)
  begun c comes_it =
      let differ = apart_now c comes_it in
      subst (λ coming. HasBecome faults regions shadow.clients coming c (shadow.finals c)) (sym (coming_others c differ))
      (ahead.begun c (sym (comes_others c differ) ∙ comes_it))

  others : (place : Place) (other : InFlight) → flight_at shadow.clients place ≡ Some other → flight_at now.clients place ≡ None → IsFinal now now_shadow place
  others place other is none = by_place (cases_place place own_place)
    where
      by_place : (place ≡ own_place) ⊎ (place ≡ own_place → ⊥) → IsFinal now now_shadow place
      by_place (inl same) = absurd (cc (sym none ∙ ap (flight_at now.clients) same ∙ own_here))
      by_place (inr differ) =
          let old = ahead.others place other is (sym (others_here place differ) ∙ none) in
          let apart : place.client ≡ number → ⊥ = λ same. differ (old.there ∙ ap (λ c. due_at c (shadow.finals c).source) same
          ∙ ap (λ (x : WholeRequest). due_at number x.source) final ∙ ap (due_at number) (sym same_source)) in
          record { begun = comes_others place.client apart ∙ old.begun; there = old.there }

  known : (x : ℕ) → now.indeterminate x ≡ false → ((c : ℕ) → comes now.clients c ≡ true → will_give faults regions (shadow.finals c) x ≡ false)
      → NoneFated now.clients now_shadow.fates x → IsSame now now_shadow x
  known x certain none unfated = by_given (gives kept q.bytes x) refl
    where
      -- no other that is fated may write it
      unfated_before : NoneFated board.clients shadow.fates x
      unfated_before place old is fated_it sound =
          unfated place old (others_here place differ ∙ is) (fates_other shadow.fates own_place fated place differ ∙ fated_it) sound
        where
          differ : place ≡ own_place → ⊥
          differ same =
              absurd (cc (sym (ap (λ (f : Flights). due_to f q.source) (ap flights_in there) ∙ none_found q.source client.flights.due free)
              ∙ ap (flight_at board.clients) (sym same) ∙ is))

      -- what isn't given is given neither here nor there
      none_there : gives kept q.bytes x ≡ false → will_give faults regions r x ≡ false
      none_there not_given =
          false_from_ne_true (will_give faults regions r x) (λ gives_it.
          both_ways (gives kept q.bytes x) not_given
          (gives_there faults regions board.errors q r may.fields corrupt kept kept_acts (gives_less board.errors number q r n fated may) x gives_it))

      none_own : gives kept q.bytes x ≡ false → will_give faults regions q x ≡ false
      none_own not_given =
          false_from_ne_true (will_give faults regions q x) (λ gives_it.
          both_ways (gives kept q.bytes x) not_given
          (gives_there faults regions board.errors q q refl (λ sound is. is) kept kept_acts (λ a y given. given) x gives_it))

      none_before : will_give faults regions r x ≡ false → (c : ℕ) → comes board.clients c ≡ true → will_give faults regions (shadow.finals c) x ≡ false
      none_before not_given c comes_it =
          elim (cases_eq c number) [
            | inl same ↦ ap (λ (y : WholeRequest). will_give faults regions y x) (ap shadow.finals same ∙ final) ∙ not_given
            | inr differ ↦ none c (comes_others c differ ∙ comes_it)
          ]

      -- what is determined of it is among its bytes
      its_bytes : own_alone.determined x ≡ true → covers kept x ≡ true
      its_bytes determined =
          ap (λ (f : Footprint). covers f x) kept_acts
          ∙ covered (nat_le own_alone.address x) (nat_lt x (own_alone.address + 2 ^ q.size))
          (not (is_some (place_on board q) && may_read q.operation && board.indeterminate x)) determined
        where
          covered : (after before certain : Bool) → (after && before && certain) ≡ true → (after && before) ≡ true
          covered true true certain is = refl
          covered true false certain is = absurd (cc (is))
          covered false before certain is = absurd (cc (is))

      -- one that is fated may not write it, so it doesn't give it
      not_fated : fated ≡ true → failed ≡ false → client.coming.determined x ≡ true → own_alone.determined x ≡ true → gives kept q.bytes x ≡ true → ⊥
      not_fated is_fated sound came determined gives_it =
          let not_broken : client.coming.failed ≡ false =
          false_from_ne_true client.coming.failed (λ has. absurd (cc (sym (become.becomes.broken x has) ∙ came))) in
          let kept_not : kept.failed ≡ false = kept_failed ∙ or_from client.coming.failed failed not_broken sound in
          let none = unfated own_place flight own_here (fates_own shadow.fates own_place fated ∙ is_fated) kept_not in
          let covered = its_bytes determined in
          let writes = (and_parts kept.writes (is_some (given_at q.bytes kept.address x)) gives_it).0 in
          let may_it : may_write kept x ≡ true = rw (writes, covered) refl in
          absurd (cc (sym none ∙ may_it))

      as_given : fated ≡ false → failed ≡ false → client.coming.determined x ≡ true → gives kept q.bytes x ≡ true → IsSame now now_shadow x
      as_given is_unfated sound came gives_it =
          let same = is_same is_unfated sound in
          let determined : (coming_at board.clients number).determined x ≡ true = ap (λ (o : Option ClientBoard). (coming_in o).determined x) there ∙ came in
          let gives_so : will_give faults regions q x ≡ true =
          ap (λ (place : Option ℕ). gives (alone (λ y. false) place q) q.bytes x) (sym (its_place sound))
          ∙ sym (ap (λ (f : Footprint). gives f q.bytes x) kept_acts) ∙ gives_it in
          let given = ahead.given number x some determined (ap (λ (y : WholeRequest). will_give faults regions y x) (final ∙ same) ∙ gives_so) in
          record { byte = given.byte board.memory.bytes ∙ ap (λ (y : WholeRequest). carry faults regions y board.memory.bytes x) (final ∙ same); certain = given.certain }

      by_given : (b : Bool) → gives kept q.bytes x ≡ b → IsSame now now_shadow x
      by_given false not_given =
          let same = ahead.known x (rw not_given at certain) (none_before (none_there not_given)) unfated_before in
          record { byte = same.byte ∙ sym ((acts faults regions q well).keeps board.memory.bytes x (none_own not_given)); certain = same.certain }
      by_given true gives_it =
          let doubt : not (kept.determined x && is_fixed kept) ≡ false = rw gives_it at certain in
          let both = and_parts (kept.determined x) (is_fixed kept) (not-false (kept.determined x && is_fixed kept) doubt) in
          let parts = and_parts ((unless_failed failed own_alone).determined x) (client.coming.determined x) both.0 in
          let mine = fails_less failed own_alone x parts.0 in
          elim (cases_Bool fated) [
            | inl is_fated ↦ absurd (not_fated is_fated mine.1 parts.1 mine.0 gives_it)
            | inr is_unfated ↦ as_given is_unfated mine.1 parts.1 gives_it
          ]

  given : (c x : ℕ) → comes now.clients c ≡ true → (coming_at now.clients c).determined x ≡ true → will_give faults regions (shadow.finals c) x ≡ true
      → IsGiven faults regions shadow.bytes shadow.indeterminate (shadow.finals c) x
  given c x comes_it determined gives_it =
      let differ = apart_now c comes_it in
      ahead.given c x (sym (comes_others c differ) ∙ comes_it) (sym (ap (λ (r : Footprint). r.determined x) (coming_others c differ)) ∙ determined) gives_it

  sources : HaveAllSources now.clients
  sources =
      sources_with board.clients number client changed there ahead.sources (sources_more flight client.flights free (ahead.sources number client there))

  waits : (c : ℕ) → comes now.clients c ≡ true → flight_at now.clients (due_at c (shadow.finals c).source) ≡ None
  waits c comes_it =
      let differ = apart_now c comes_it in
      others_here (due_at c (shadow.finals c).source) (λ same. differ (ap (λ (p : Place). p.client) same))
      ∙ ahead.waits c (sym (comes_others c differ) ∙ comes_it)

  pub given_ahead : IsAhead
      (record board {
        clients = set board.clients number (with_accepted (flight_for board.memory (coming_on board q client.coming) q) client);
        memory = carried_out board.memory q;
        indeterminate = after_given board.indeterminate (coming_on board q client.coming) q.bytes;
      }) now_shadow
  given_ahead =
      record {
        sources = sources;
        small = (acts faults regions q well).small board.memory.bytes ahead.small;
        waits = waits;
        many = ahead.many ∙ sym (length-set board.clients number changed);
        placed = placed;
        begun = begun;
        others = others;
        known = known;
        given = given;
      }
