-- A board blames rightly: a beat on channel D that it blames is wrong in every order of what was accepted.
use Rattle.std.proofs.Common.{◌≡◌, ℕ, zero, suc, ◌<◌, ◌==◌, Bool, true, false, List, [], ◌∷◌, drop, length, map, Option, Some, None, ◌⊎◌, inl, inr, refl, sym, ◌∙◌, ap, ap₂, subst, subst₂, arith}
use Rattle.std.specs.Prelude.{is_some, option_map, slice_get}
use Rattle.std.specs.Option.{option_flatten, option_or}
use Rattle.std.proofs.lemmas.List.{drop-map}
use Rattle.std.specs.List.{AllByRecursion, list_any}
use Rattle.std.proofs.lemmas.Bool.Decides.{nat_tests}
use Rattle.std.proofs.lemmas.Bool.{both_ways, false_from_ne_true, leb-false}
use Rattle.bus_words.proofs.PlaceChanges.{all-map}
use Rattle.tl_messages.specs.Requests.{WholeRequest, no_message, request_of}
use Rattle.tl_messages.specs.declared.DBeat.{DBeat}
use Rattle.burst_plan.specs.declared.Region.{Region}
use Rattle.responses.specs.Shown.{Reply as ReplyTold, beat_without_data, shown}
use Rattle.tl_messages.specs.Operations.{reply_has_data}
use Rattle.subordinate.specs.Faults.{Faults}
use Rattle.meaning.specs.Meaning.{Bytes, acknowledged, bytes_after_all, meaning}
use Rattle.setups.specs.Setups.{SetupLists, faults_of}
use Rattle.scoreboard.specs.AxiPorts.{PortBoard, port_after}
use Rattle.scoreboard.specs.Boards.{Beginning, Board, ClientBoard, IsReached, MayBegin, after_all, after_seen, d_wrong, due_beat, early_flight, failed_beat, hit_on, next_to, opening_board, opening_from, told_to, wrong_at, wrong_beat, wrong_by, wrong_reply, wrong_told}
use Rattle.scoreboard.specs.FailedBursts.{Span, failed_span}
use Rattle.scoreboard.specs.Flights.{Footprint, InFlight, next_reply}
use Rattle.scoreboard.specs.Orders.{Asked, Entry, IsWrongAs, IsWrongIn, Order, begun_to, board_after, due_beats, has_ended, has_failed, is_due, is_due_in, known_request, left_of, meaning_on, reply_beats, shown_to}
use Rattle.scoreboard.specs.RealTime.{asked_on}
use Rattle.scoreboard.specs.declared.Errors.{Errors}
use Rattle.scoreboard.specs.declared.Errors.TheVariants.{Any, Strict}
use Rattle.scoreboard.specs.Races.{may_read, may_write}
use Rattle.scoreboard.specs.declared.Policy.TheVariants.{RealTime}
use Rattle.scoreboard.specs.declared.ReplyRule.{ReplyRule}
use Rattle.scoreboard.specs.declared.ReplyRule.TheVariants.{Unasked}
use Rattle.scoreboard.specs.declared.ObservedBeat.{ObservedBeat}
use Rattle.scoreboard.specs.declared.ObservedBeat.TheVariants.{A, D, Axi as OnAxi, Drained}
use Rattle.scoreboard.specs.declared.Wrong.{Wrong}
use Rattle.scoreboard.specs.declared.Wrong.TheVariants.{Axi, NoClient, Place as WrongPlace, Reply, Request, UnknownAxi, UnknownRequest}
use Rattle.scoreboard.proofs.real_time.Ahead.{HasBeside, NoneFated, Shadow, comes, front_in, none_given, shadow_of}
use Rattle.scoreboard.proofs.real_time.AlikeBeats.{left_alike}
use Rattle.scoreboard.proofs.real_time.Entries.{Each, IsLive, Stands, carry, run, place_of}
use Rattle.scoreboard.proofs.real_time.Explained.{explains_as, explains_opening, opening_at, opening_flights}
use Rattle.scoreboard.proofs.real_time.Failures.{failed_at, fails_at, same_shapes, shape_of, silent_known, silent_shown}
use Rattle.scoreboard.proofs.real_time.FirstBeats.{no_data_back}
use Rattle.scoreboard.proofs.MappedLists.{any_map}
use Rattle.scoreboard.proofs.real_time.Lengths.{some_beats}
use Rattle.scoreboard.proofs.real_time.ReplyMoves.{waits_for}
use Rattle.scoreboard.proofs.real_time.Follows.{Follows, IsFailing, IsFated, IsFollowed, IsMarked, IsOpen, begun_here, begun_settled, follows_as, run_settled, settle, settled, some_passes}
use Rattle.scoreboard.proofs.real_time.FollowsCut.{follows_reply}
use Rattle.scoreboard.proofs.real_time.FollowsHits.{follows_failed}
use Rattle.scoreboard.proofs.real_time.FollowsReplies.{EarlyDue, WholeDue, due_cases, due_settled, due_whole, early_due_in, early_there, nobody_due}
use Rattle.scoreboard.proofs.real_time.Comings.{early_at, early_in}
use Rattle.scoreboard.proofs.real_time.FollowsRequests.{follows_request}
use Rattle.scoreboard.proofs.real_time.Fronts.{AreFronts, fronts_next, fronts_opening}
use Rattle.scoreboard.proofs.real_time.Places.{Place, begun_at, coming_at, coming_in, due_at, flight_at, none_in}
use Rattle.scoreboard.proofs.real_time.ReplySeen.{next_is}
use Rattle.scoreboard.proofs.real_time.ReplySteps.{IsAt, due_known, due_place, next_at, none_due}
use Rattle.scoreboard.proofs.real_time.RequestActs.{AreBytes, acts, own}
use Rattle.scoreboard.proofs.real_time.StepOrders.{BlamesByRule, HasFate, GoesOn, IsOrderFrom, IsOrderOf, KnowsBytes}
use Rattle.scoreboard.proofs.real_time.Verdicts.{IsBroken, failed_broken, first_blamed, left_broken, left_told, sure_shown, sure_told, wrong_sure}

-- ---- the reply that is due in an order

-- the entry to which it is due, with the bytes before it
pub record Found (setup : SetupLists) (asked : Asked) (flights : Place → Option InFlight) (P : Entry → Type 0) (test : Entry → Bool) (left : List DBeat) : Type 0 where
  pub entry : Entry
  pub before : Bytes
  pub bytes : AreBytes before
  pub stands : Stands (faults_of setup) setup.regions flights (settled entry) before
  pub holds : P entry
  pub passes : test entry ≡ true
  pub is : left ≡ shown_to setup asked entry before

-- or there is none
abbrev pub Looked : SetupLists → Asked → (Place → Option InFlight) → (Entry → Type 0) → (Entry → Bool) → Order → List DBeat → Type 0
Looked setup asked flights P test order left = ((list_any test order ≡ false) × (left ≡ [])) ⊎ Found setup asked flights P test left

looked : (setup : SetupLists) (asked : Asked) (flights : Place → Option InFlight) (P : Entry → Type 0) (test : Entry → Bool) (order : Order) (m : Bytes) → AreBytes m
    → Each (faults_of setup) setup.regions (Stands (faults_of setup) setup.regions flights) m (settle order) → AllByRecursion P order
    → Looked setup asked flights P test order (left_of setup asked test m order)
looked setup asked flights P test [] m bytes each all = inl (refl, refl)
looked setup asked flights P test (entry ∷ order) m bytes each all =
    by_test (test entry) refl
    (looked setup asked flights P test order next ((acts (faults_of setup) setup.regions entry.request each.0.well).small m bytes) each.1 all.1)
  where
    next : Bytes
    next = carry (faults_of setup) setup.regions entry.request m

    by_test : (b : Bool) → test entry ≡ b → Looked setup asked flights P test order (left_of setup asked test next order)
        → Looked setup asked flights P test (entry ∷ order) (left_of setup asked test m (entry ∷ order))
    by_test true is later = inr (record { entry = entry; before = m; bytes = bytes; stands = each.0; holds = all.0; passes = is; is = rw is refl })
    by_test false is later = rw (is) later

-- ---- what is blamed

-- a beat that is blamed breaks a rule on replies
blamed_reply : (before : Option Bool) (next : Option InFlight) (beat : DBeat) (wrong : Wrong) → wrong_reply RealTime before next beat ≡ Some wrong
    → (broken : ReplyRule) × (told : Option DBeat) × (wrong ≡ Reply broken told)
blamed_reply before None beat wrong is = (Unasked, None, cc (is))
blamed_reply before (Some flight) beat wrong is = by_beats flight.beats is
  where
    by_rule : (due : DBeat) (o : Option ReplyRule) → wrong_by due o ≡ Some wrong → (broken : ReplyRule) × (told : Option DBeat) × (wrong ≡ Reply broken told)
    by_rule due None none = absurd (cc (none))
    by_rule due (Some broken) is = (broken, Some due, cc (is))

    by_beats : (beats : List DBeat) → wrong_told flight.footprint before beats beat ≡ Some wrong → (broken : ReplyRule) × (told : Option DBeat) × (wrong ≡ Reply broken told)
    by_beats [] none = (Unasked, None, cc (none))
    by_beats (due ∷ rest) some = by_rule (due_beat flight.footprint.failed before due beat) _ some

none_of_length : (beats others : List DBeat) → others ≡ [] → length beats ≡ length others → beats ≡ others
none_of_length [] others none long = sym none
none_of_length (beat ∷ beats) others none long = absurd (cc (long ∙ ap length none))

-- ---- the beats that are due in an order, and as the shadow has it

left_none : (setup : SetupLists) (asked : Asked) (test : Entry → Bool) (order : Order) (m : Bytes) → AllByRecursion (λ entry. test entry ≡ false) order
    → left_of setup asked test m order ≡ []
left_none setup asked test [] m none = refl
left_none setup asked test (entry ∷ order) m none = rw none.0 (left_none setup asked test order (meaning_on setup entry.request m).after none.1)

any_settled : (test : Entry → Bool) (order : Order) → AllByRecursion (λ entry. test (settled entry) ≡ test entry) order → list_any test (settle order) ≡ list_any test order
any_settled test [] same = refl
any_settled test (entry ∷ order) same = rw (same.0, any_settled test order same.1) refl

-- whether an entry has failed, as the order has it
failed_as : (errors : Errors) (setup : SetupLists) (entry : Entry) → failed_at errors (faults_of setup) setup.regions entry ≡ has_failed errors setup entry
failed_as errors setup entry = grind arith

-- ---- a board that is followed, when all beats have come

-- what is known of an entry
record Known (board : Board) (shadow : Shadow) (entry : Entry) : Type 0 where
  marked : IsMarked board.clients entry
  failing : IsFailing board entry
  opened : entry.whole ≡ false → IsOpen board shadow entry
  fated : IsFated shadow entry
  spoiled : shadow.fate entry.number ≡ true → entry.spoiled ≡ true

module _ {start : Bytes} (board : Board) (shadow : Shadow) (order : Order) (follows : Follows start board shadow order) where
  known_all : AllByRecursion (λ entry. shadow.fate entry.number ≡ true → entry.spoiled ≡ true) order → AllByRecursion (Known board shadow) order
  known_all = known_in order follows.marked follows.failing follows.open_ones follows.fated
    where
      known_in : (some_order : Order) → AllByRecursion (IsMarked board.clients) some_order → AllByRecursion (IsFailing board) some_order
          → AllByRecursion (λ entry. entry.whole ≡ false → IsOpen board shadow entry) some_order → AllByRecursion (IsFated shadow) some_order
          → AllByRecursion (λ entry. shadow.fate entry.number ≡ true → entry.spoiled ≡ true) some_order → AllByRecursion (Known board shadow) some_order
      known_in [] marked failing opened fated spoiled = tt
      known_in (entry ∷ rest) marked failing opened fated spoiled = (
        record { marked = marked.0; failing = failing.0; opened = opened.0; fated = fated.0; spoiled = spoiled.0 },
        known_in rest marked.1 failing.1 opened.1 fated.1 spoiled.1,
      )

  -- one in flight that is fated has failed
  fated_fails : (entry : Entry) → Known board shadow entry → entry.whole ≡ true → has_ended entry ≡ false → (flight : InFlight)
      → flight_at board.clients (place_of entry) ≡ Some flight → shadow.fates (place_of entry) ≡ true → flight.footprint.failed ≡ true
  fated_fails entry known whole alive flight there fated =
      grind (arith, known, whole, alive, there, fated, board.errors, board.memory.faults, board.memory.regions, follows.any_fated)

  -- each in flight is in the order
  in_order : AllByRecursion (Known board shadow) order → (place : Place) (flight : InFlight) → flight_at board.clients place ≡ Some flight
      → (entry : Entry) × Known board shadow entry × (has_ended entry ≡ false) × (place_of entry ≡ place)
  in_order all place flight is = by_source place.source refl
    where
      there : is_some (flight_at shadow.clients place) ≡ true
      there = ap (λ (o : Option InFlight). is_some o) (follows.ahead.placed place flight is).there

      by_source : (source : Option ℕ) → place.source ≡ source → (entry : Entry) × Known board shadow entry × (has_ended entry ≡ false) × (place_of entry ≡ place)
      by_source (Some source) own =
          let at : place ≡ due_at place.client source = ap (λ (o : Option ℕ). record place { source = o }) own in
          let waits = follows.explains.waiting place.client source (ap (λ (p : Place). is_some (flight_at shadow.clients p)) (sym at) ∙ there) in
          let found = some_passes (Known board shadow) (λ entry. waits_for place.client source (settled entry)) order all
          (sym (any_map (waits_for place.client source) settled order) ∙ waits) in
          (found.0, found.1, grind (arith, nat_tests, found.2, some_beats found.0.request), grind (arith, nat_tests, found.2) ∙ sym at)
      by_source None own =
          let at : place ≡ begun_at place.client = ap (λ (o : Option ℕ). record place { source = o }) own in
          let begins = follows.explains.begun place.client (ap (λ (p : Place). is_some (flight_at shadow.clients p)) (sym at) ∙ there) in
          let found = some_passes (Known board shadow) (λ entry. begun_to place.client (settled entry)) order all
          (sym (any_map (begun_to place.client) settled order) ∙ begins) in
          (found.0, found.1, grind (arith, nat_tests, found.2), grind (arith, nat_tests, found.2) ∙ sym at)

  -- so none is fated that hasn't failed
  none_fated : AllByRecursion (λ entry. shadow.fate entry.number ≡ true → entry.spoiled ≡ true) order → (x : ℕ) → NoneFated board.clients shadow.fates x
  none_fated ends x place flight is fated sound =
      let (entry, known, alive, at) = in_order (known_all ends) place flight is in
      let there = ap (flight_at board.clients) at ∙ is in
      let whole = known.marked alive ∙ ap (λ (o : Option InFlight). is_some o) there in
      absurd (both_ways flight.footprint.failed sound (fated_fails entry known whole alive flight there (ap shadow.fates at ∙ fated)))

-- ---- a beat that is blamed, on a board that is followed

module _ {start : Bytes} (start_small : AreBytes start) (setup : SetupLists) (board : Board) (shadow : Shadow) (order : Order) (number : ℕ) (beat : DBeat) (follows : Follows start board shadow order)
    (ends : AllByRecursion (λ entry. shadow.fate entry.number ≡ true → entry.spoiled ≡ true) order)
    (faults : board.memory.faults ≡ faults_of setup) (regions : board.memory.regions ≡ setup.regions) where
  abbrev begun : Bool
  begun = list_any (begun_to number) order

  abbrev place : Place
  place = next_at (list_any (begun_to number) order) number beat.source

  abbrev asked : Asked
  asked = asked_on board number beat

  abbrev test : Entry → Bool
  test = is_due_in order number beat.source

  abbrev flights : Place → Option InFlight
  flights = flight_at shadow.clients

  all_known : AllByRecursion (Known board shadow) order
  all_known = known_all board shadow order follows ends

  abbrev Searched : Type 0
  Searched = Looked setup asked flights (Known board shadow) test order (due_beats setup start order asked)

  search_order : Searched
  search_order =
      looked setup asked flights (Known board shadow) test order start start_small
      (subst₂ (λ (f : Faults) (r : List Region). Each f r (Stands f r flights) start (settle order)) faults regions follows.explains.entries) all_known

  -- where nothing is due on the board, nor early
  nothing_left : flight_at board.clients place ≡ None → ((due : DBeat) → early_at board.clients number ≡ Some due → (due.source == beat.source) ≡ false)
      → due_beats setup start order asked ≡ []
  nothing_left nothing no_early = left_none setup asked test order start (nobody_due board shadow order follows number beat.source nothing no_early)

  -- where something is due
  module _ (due : InFlight) (here : flight_at board.clients place ≡ Some due) where
    beside : HasBeside shadow place due
    beside = follows.ahead.placed place due here

    -- it is due in the order
    some_due : list_any test order ≡ true
    some_due =
        sym (any_settled test order (all-map (Known board shadow) (λ entry. test (settled entry) ≡ test entry) order
        (λ entry known. due_settled board shadow order follows number beat.source due here entry known.marked known.opened) all_known))
        ∙ ap (λ (b : Bool). list_any (is_due b number beat.source) (settle order)) (sym (begun_settled board shadow order follows number))
        ∙ due_known (shadow_of board shadow) (settle order) follows.explains number beat.source
        (ap (λ (b : Bool). is_some (flight_at shadow.clients (next_at b number beat.source))) (begun_settled board shadow order follows number)
        ∙ ap (λ (o : Option InFlight). is_some o) beside.there)

    module _ (found : Found setup asked flights (Known board shadow) test (due_beats setup start order asked)) where
      at : IsAt place found.entry
      at = due_place begun number beat.source found.entry found.passes

      whole : found.entry.whole ≡ true
      whole = due_whole board shadow order follows number beat.source due here found.entry found.holds.marked found.holds.opened found.passes

      live : IsLive (faults_of setup) setup.regions flights (settled found.entry) found.before
      live = found.stands.live at.live

      same : live.flight ≡ beside.other
      same = let one : Some live.flight ≡ Some beside.other = sym live.there ∙ ap flights at.there ∙ beside.there in cc (one)

      failed : due.footprint.failed ≡ has_failed board.errors setup found.entry
      failed =
          (found.holds.failing whole at.live due (ap (flight_at board.clients) at.there ∙ here)).0
          ∙ ap₂ (λ (f : Faults) (r : List Region). failed_at board.errors f r found.entry) faults regions ∙ failed_as board.errors setup found.entry

      -- one that hasn't failed isn't fated to
      unfated : due.footprint.failed ≡ false → shadow.fates place ≡ false
      unfated sound =
          false_from_ne_true (shadow.fates place) (λ fated. both_ways due.footprint.failed sound
          (fated_fails board shadow order follows found.entry found.holds whole at.live due (ap (flight_at board.clients) at.there ∙ here)
          (ap shadow.fates at.there ∙ fated)))

      -- the beats that are left there
      abbrev raw : List DBeat
      raw = drop found.entry.came (shown found.entry.request (meaning_on setup found.entry.request found.before).reply)

      -- as the order has it
      shown_whole : shown_to setup asked found.entry found.before ≡ map (λ d. due_beat (has_failed board.errors setup found.entry) asked.told d beat) raw
      shown_whole =
          ap (λ (b : Bool). map (λ d. due_beat (has_failed board.errors setup found.entry) asked.told d beat)
          (drop found.entry.came (shown found.entry.request (meaning_on setup (known_request b found.entry.request) found.before).reply))) whole

      abbrev left_there : List DBeat
      left_there = drop found.entry.came (shown found.entry.request (meaning (faults_of setup) setup.regions found.entry.request live.made_of).reply)

      their_beats : beside.other.beats ≡ left_there
      their_beats = ap (λ (f : InFlight). f.beats) (sym same) ∙ live.left

      shapes : map shape_of due.beats ≡ map shape_of raw
      shapes =
          beside.behind.shapes ∙ ap (map shape_of) their_beats
          ∙ sym (drop-map shape_of found.entry.came (shown found.entry.request (meaning (faults_of setup) setup.regions found.entry.request live.made_of).reply))
          ∙ ap (drop found.entry.came) (same_shapes found.entry.request found.entry.request
          (meaning (faults_of setup) setup.regions found.entry.request live.made_of).reply (meaning_on setup found.entry.request found.before).reply refl)
          ∙ drop-map shape_of found.entry.came (shown found.entry.request (meaning_on setup found.entry.request found.before).reply)

      -- of one that hasn't failed, blamed as the shadow has it
      raw_broken : due.footprint.failed ≡ false → (broken : ReplyRule) (told : Option DBeat) → wrong_sure due.footprint beside.other.beats beat ≡ Some (Reply broken told)
          → IsBroken raw beat broken
      raw_broken sound broken told is =
          let acting : due.footprint ≡ record (own (faults_of setup) setup.regions found.entry.request) { determined = due.footprint.determined } =
          beside.behind.sound (unfated sound) sound ∙ ap (λ (f : InFlight). record f.footprint { determined = due.footprint.determined }) (sym same)
          ∙ ap (λ (r : Footprint). record r { determined = due.footprint.determined }) live.acting in
          let determined : (x : ℕ) → (own (faults_of setup) setup.regions found.entry.request).reads ≡ true → due.footprint.determined x ≡ true → live.made_of x ≡ found.before x =
          λ x reads certain. live.same x reads (ap (λ (f : InFlight). f.footprint.determined x) same
          ∙ beside.behind.less (unfated sound) x (ap (λ (r : Footprint). r.reads) acting ∙ reads) certain) in
          let alike = left_alike (faults_of setup) setup.regions found.entry.request due.footprint found.entry.came live.made_of found.before
          (leb-false (reply_beats found.entry.request) found.entry.came at.live) acting live.bytes found.bytes determined in
          left_broken due.footprint left_there raw beat broken told alike (sym (ap (λ (left : List DBeat). wrong_sure due.footprint left beat) their_beats) ∙ is)

      -- and as the board has it
      due_broken : due.footprint.failed ≡ false → (broken : ReplyRule) (told : Option DBeat) → wrong_sure due.footprint due.beats beat ≡ Some (Reply broken told)
          → IsBroken raw beat broken
      due_broken sound broken told is = by_beats beside.other.beats refl
        where
          by_beats : (beats : List DBeat) → beside.other.beats ≡ beats → IsBroken raw beat broken
          by_beats [] none =
              let nothing : due.beats ≡ beside.other.beats = none_of_length due.beats beside.other.beats none beside.behind.long in
              raw_broken sound broken told (sym (ap (λ (beats : List DBeat). wrong_sure due.footprint beats beat) nothing) ∙ is)
          by_beats (first ∷ rest) some =
              let there = left_told due.footprint due.beats beside.other.beats beat broken told
              (beside.behind.alike (unfated sound) sound 0 (subst (λ (beats : List DBeat). 0 < length beats) (sym some) (omega arith))) beside.behind.long is in
              raw_broken sound broken there.0 there.1

      found_broken : (broken : ReplyRule) (told : Option DBeat) → wrong_told due.footprint asked.told due.beats beat ≡ Some (Reply broken told)
          → IsBroken (due_beats setup start order asked) beat broken
      found_broken broken told is = subst (λ left. IsBroken left beat broken) (sym (found.is ∙ shown_whole)) (by_failed due.footprint.failed refl)
        where
          by_failed : (b : Bool) → due.footprint.failed ≡ b
              → IsBroken (map (λ d. due_beat (has_failed board.errors setup found.entry) asked.told d beat) raw) beat broken
          by_failed true has =
              failed_broken due.footprint (has_failed board.errors setup found.entry) asked.told due.beats raw beat broken told has (sym failed ∙ has) shapes is
          by_failed false sound =
              let there = due_broken sound broken told (sym (sure_told due.footprint asked.told due.beats beat sound) ∙ is) in
              (there.0, sure_shown (has_failed board.errors setup found.entry) asked.told raw beat (sym failed ∙ sound) ∙ there.1)

    -- blamed of a request that is due
    broken_due : (broken : ReplyRule) (told : Option DBeat) → wrong_told due.footprint asked.told due.beats beat ≡ Some (Reply broken told)
        → IsBroken (due_beats setup start order asked) beat broken
    broken_due broken told is = by_look search_order
      where
        by_look : Searched → IsBroken (due_beats setup start order asked) beat broken
        by_look (inl nowhere) = absurd (both_ways (list_any test order) nowhere.0 some_due)
        by_look (inr found) = found_broken found broken told is

  -- ---- the message that has begun has it, before it is whole

  module _ (client : ClientBoard) (there : slice_get board.clients number ≡ Some client) (nothing : flight_at board.clients place ≡ None) (due : DBeat)
      (early : client.early ≡ Some due) (own_source : (due.source == beat.source) ≡ true) where
    early_is : early_at board.clients number ≡ Some due
    early_is = ap early_in there ∙ early

    -- one that may be told in the order is that message
    module _ (found : Found setup asked flights (Known board shadow) test (due_beats setup start order asked)) where
      record IsEarly : Type 0 where
        unwhole : found.entry.whole ≡ false
        may_come : found.entry.early ≡ true
        client_is : found.entry.client ≡ number

      is_early : IsEarly
      is_early =
          elim (due_cases board shadow order follows number beat.source found.entry found.holds.marked found.holds.opened found.passes) [
            | WholeDue whole some ↦ absurd (cc (sym (ap (λ (o : Option InFlight). is_some o) nothing) ∙ some))
            | EarlyDue unwhole may_come has client_is its_source ↦ record { unwhole = unwhole; may_come = may_come; client_is = client_is }
          ]

      it : IsOpen board shadow found.entry
      it = found.holds.opened is_early.unwhole

      due_is : due ≡ beat_without_data found.entry.request acknowledged
      due_is =
          let one : Some due ≡ Some (beat_without_data found.entry.request acknowledged) =
          sym early_is ∙ early_there board shadow order follows number beat.source found.entry it is_early.may_come is_early.client_is in
          cc (one)

      silent : reply_has_data found.entry.request.operation ≡ false
      silent =
          no_data_back found.entry.request.operation
          (ap (λ (x : WholeRequest). may_read x.operation) it.final ∙ (follows.ahead.begun found.entry.client it.begun).becomes.silent)

      failed_early : client.coming.failed ≡ has_failed board.errors setup found.entry
      failed_early =
          sym (ap (λ (o : Option ClientBoard). (coming_in o).failed) there)
          ∙ ap (λ c. (coming_at board.clients c).failed) (sym is_early.client_is) ∙ it.failed
          ∙ ap₂ (λ (f : Faults) (r : List Region). failed_at board.errors f r found.entry) faults regions ∙ failed_as board.errors setup found.entry

      abbrev raw_early : List DBeat
      raw_early = shown found.entry.request (meaning_on setup (record found.entry.request { corrupt = false }) found.before).reply

      shown_early : shown_to setup asked found.entry found.before ≡ map (λ d. due_beat (has_failed board.errors setup found.entry) asked.told d beat) raw_early
      shown_early =
          ap (λ (b : Bool). map (λ d. due_beat (has_failed board.errors setup found.entry) asked.told d beat)
          (drop found.entry.came (shown found.entry.request (meaning_on setup (known_request b found.entry.request) found.before).reply))) is_early.unwhole
          ∙ ap (λ n. map (λ d. due_beat (has_failed board.errors setup found.entry) asked.told d beat) (drop n raw_early)) it.none_came

      -- the beat that is due there, as it may show it
      same_due : due_beat client.coming.failed asked.told due beat ∷ [] ≡ map (λ d. due_beat (has_failed board.errors setup found.entry) asked.told d beat) raw_early
      same_due = by_failed (has_failed board.errors setup found.entry) refl
        where
          reply : ReplyTold
          reply = (meaning_on setup (record found.entry.request { corrupt = false }) found.before).reply

          one_beat : raw_early ≡ beat_without_data found.entry.request reply ∷ []
          one_beat = silent_shown found.entry.request reply silent

          by_failed : (b : Bool) → has_failed board.errors setup found.entry ≡ b
              → due_beat client.coming.failed asked.told due beat ∷ [] ≡ map (λ d. due_beat (has_failed board.errors setup found.entry) asked.told d beat) raw_early
          by_failed true has =
              ap (λ (b : Bool). due_beat b asked.told due beat ∷ []) (failed_early ∙ has)
              ∙ ap (λ (d : DBeat). failed_beat asked.told d beat ∷ []) due_is
              ∙ ap (λ (b : Bool). due_beat b asked.told (beat_without_data found.entry.request reply) beat ∷ []) (sym has)
              ∙ ap (map (λ d. due_beat (has_failed board.errors setup found.entry) asked.told d beat)) (sym one_beat)
          by_failed false none =
              ap (λ (b : Bool). due_beat b asked.told due beat ∷ []) (failed_early ∙ none)
              ∙ ap (λ (d : DBeat). d ∷ []) due_is
              ∙ ap (λ (b : Bool). due_beat b asked.told (beat_without_data found.entry.request acknowledged) beat ∷ []) (sym none)
              ∙ ap (map (λ d. due_beat (has_failed board.errors setup found.entry) asked.told d beat))
              (sym (silent_known (faults_of setup) setup.regions found.entry.request found.before silent (sound_early (early_any is_early.may_come) none)))
            where
              early_any : found.entry.early ≡ true → board.errors ≡ Any
              early_any = it.any

              sound_early : board.errors ≡ Any → has_failed board.errors setup found.entry ≡ false → fails_at (faults_of setup) setup.regions found.entry.request ≡ false
              sound_early any sound = grind (arith, any, sound, found.entry.spoiled, found.entry.request, found.entry)

      early_broken : (broken : ReplyRule) (told : Option DBeat) → wrong_told client.coming asked.told (due ∷ []) beat ≡ Some (Reply broken told)
          → IsBroken (due_beats setup start order asked) beat broken
      early_broken broken told is =
          subst (λ left. IsBroken left beat broken) (same_due ∙ sym (found.is ∙ shown_early)) (first_blamed client.coming asked.told due [] beat broken told is)

    some_early : list_any test order ≡ true
    some_early = early_due_in board shadow order follows number beat.source nothing due early_is own_source

    broken_early : (broken : ReplyRule) (told : Option DBeat) → wrong_told client.coming asked.told (due ∷ []) beat ≡ Some (Reply broken told)
        → IsBroken (due_beats setup start order asked) beat broken
    broken_early broken told is = by_look search_order
      where
        by_look : Searched → IsBroken (due_beats setup start order asked) beat broken
        by_look (inl nowhere) = absurd (both_ways (list_any test order) nowhere.0 some_early)
        by_look (inr found) = early_broken found broken told is

  blamed_of : (client : ClientBoard) → slice_get board.clients number ≡ Some client → (broken : ReplyRule) (told : Option DBeat)
      → wrong_reply RealTime (told_to client) (next_to RealTime client beat.source) beat ≡ Some (Reply broken told) → IsBroken (due_beats setup start order asked) beat broken
  blamed_of client there broken told is = by_flight (next_reply client.flights beat.source) refl
    where
      next : flight_at board.clients place ≡ next_reply client.flights beat.source
      next = next_is board.clients number beat.source client there begun (begun_here board shadow order follows number)

      told_is : told_to client ≡ asked.told
      told_is = sym (ap (λ (o : Option ClientBoard). option_flatten (option_map told_to o)) there)

      blamed_as_next : (o : Option InFlight) → next_to RealTime client beat.source ≡ o → wrong_reply RealTime asked.told o beat ≡ Some (Reply broken told)
      blamed_as_next o same = ap₂ (λ (t : Option Bool) (f : Option InFlight). wrong_reply RealTime t f beat) (sym told_is) (sym same) ∙ is

      nothing_due : flight_at board.clients place ≡ None → ((due : DBeat) → early_at board.clients number ≡ Some due → (due.source == beat.source) ≡ false)
          → next_to RealTime client beat.source ≡ None → IsBroken (due_beats setup start order asked) beat broken
      nothing_due nothing no_early none =
          let unasked : Some (Reply Unasked None) ≡ Some (Reply broken told) = blamed_as_next None none in
          (None, rw (nothing_left nothing no_early) (grind (arith, unasked)))

      by_early : next_reply client.flights beat.source ≡ None → (o : Option DBeat) → client.early ≡ o → IsBroken (due_beats setup start order asked) beat broken
      by_early nothing None none =
          nothing_due (next ∙ nothing) (λ due its. absurd (cc (sym none ∙ sym (ap early_in there) ∙ its)))
          (ap₂ (λ (f : Option InFlight) (e : Option DBeat). option_or f (early_flight client e beat.source)) nothing none)
      by_early nothing (Some due) early = by_source (due.source == beat.source) refl
        where
          by_source : (b : Bool) → (due.source == beat.source) ≡ b → IsBroken (due_beats setup start order asked) beat broken
          by_source true own_source =
              let flight : next_to RealTime client beat.source ≡ Some (record { source = beat.source; beats = due ∷ []; footprint = client.coming }) =
              ap₂ (λ (f : Option InFlight) (e : Option DBeat). option_or f (early_flight client e beat.source)) nothing early ∙ rw own_source refl in
              broken_early client there (next ∙ nothing) due early own_source broken told (blamed_as_next (Some (record { source = beat.source; beats = due ∷ []; footprint = client.coming })) flight)
          by_source false other =
              let none : next_to RealTime client beat.source ≡ None =
              ap₂ (λ (f : Option InFlight) (e : Option DBeat). option_or f (early_flight client e beat.source)) nothing early ∙ rw other refl in
              nothing_due (next ∙ nothing)
              (λ its its_is. let one : Some due ≡ Some its = sym early ∙ sym (ap early_in there) ∙ its_is in
              let same : due ≡ its = cc (one) in sym (ap (λ (d : DBeat). d.source == beat.source) same) ∙ other) none

      by_flight : (o : Option InFlight) → next_reply client.flights beat.source ≡ o → IsBroken (due_beats setup start order asked) beat broken
      by_flight None nothing = by_early nothing client.early refl
      by_flight (Some due) here =
          broken_due due (next ∙ here) broken told
          (blamed_as_next (Some due) (ap (λ (f : Option InFlight). option_or f (early_flight client client.early beat.source)) here))

  pub blamed_as : (wrong : Wrong) → wrong_at RealTime board (D number beat) ≡ Some wrong → IsWrongAs setup start order (asked_on board number beat) wrong
  blamed_as wrong is = by_client (slice_get board.clients number) refl
    where
      by_client : (o : Option ClientBoard) → slice_get board.clients number ≡ o → IsWrongAs setup start order asked wrong
      by_client None none =
          let same : NoClient ≡ wrong = grind (arith, none, is) in
          subst (IsWrongAs setup start order asked) same (nothing_left (none_due board.clients begun number beat.source none) (λ due its. absurd (cc (sym (ap early_in none) ∙ its))))
      by_client (Some client) there =
          let blamed = sym (ap (λ (o : Option ClientBoard). d_wrong RealTime o beat) there) ∙ is in
          let reply = blamed_reply (told_to client) (next_to RealTime client beat.source) beat wrong blamed in
          subst (IsWrongAs setup start order asked) (sym reply.2)
          (blamed_of client there reply.0 reply.1 (blamed ∙ ap (λ (w : Wrong). Some w) reply.2))

-- ---- along lists of beats

-- the port alone
follows_port : {start : Bytes} (fate : ℕ → Bool) (board : Board) (port : PortBoard) (order : Order) → IsFollowed start fate board order → IsFollowed start fate (record board { axi = port }) order
follows_port {start} fate board port order (shadow, follows, is) = (
  shadow,
  follows_as board shadow board.clients port follows.ahead.sources refl (λ place. refl) (λ client. refl) (λ client. refl) (λ client. refl) order
      (explains_as (shadow_of board shadow) (settle order) shadow.clients port refl follows.explains.sources follows.explains.nothing follows.explains) follows,
  is,
)

follows_next : {start : Bytes} (fate : ℕ → Bool) (board : Board) (seen : ObservedBeat) (old new : Order) → GoesOn fate board seen old new → AllByRecursion (HasFate fate) new
    → AreFronts board.clients → IsFollowed start fate board old → IsFollowed start fate (after_seen RealTime board seen) new
follows_next {start} fate board (A client beat) old new goes ends fronts followed = follows_request fate board old new fronts followed client beat ends goes
follows_next {start} fate board (D client beat) old new goes ends fronts followed =
    subst (IsFollowed start fate (after_seen RealTime board (D client beat))) (sym goes)
    (follows_reply fate board old client beat followed (subst (AllByRecursion (HasFate fate)) goes ends))
follows_next {start} fate board (OnAxi beat) old new goes ends fronts followed =
    subst (IsFollowed start fate (after_seen RealTime board (OnAxi beat))) (sym goes)
    (follows_failed fate board (port_after RealTime board.axi beat) old beat (follows_port fate board (port_after RealTime board.axi beat) old followed))
follows_next {start} fate board Drained old new goes ends fronts followed =
    subst (IsFollowed start fate (after_seen RealTime board Drained)) (sym goes) (follows_port fate board (after_seen RealTime board Drained).axi old followed)

pub follows_all : {start : Bytes} (fate : ℕ → Bool) (beats : List ObservedBeat) (board : Board) (now order : Order) → IsOrderFrom fate board now beats order
    → AreFronts board.clients → IsFollowed start fate board now → IsFollowed start fate (after_all RealTime board beats) order
follows_all {start} fate [] board now order goes fronts followed = subst (IsFollowed start fate board) (sym goes) followed
follows_all {start} fate (seen ∷ beats) board now order goes fronts followed =
    follows_all fate beats (after_seen RealTime board seen) goes.0 order goes.3 (fronts_next board seen fronts)
    (follows_next fate board seen now goes.0 goes.1 goes.2 fronts followed)

-- nothing has begun at the start
follows_opening : (start : Bytes) (fate : ℕ → Bool) (errors : Errors) (setup : Beginning) → MayBegin setup start → ((number : ℕ) → fate number ≡ true → errors ≡ Any)
    → IsFollowed start fate (opening_from errors setup) []
follows_opening start fate errors setup begins any = (
  record {
    clients = (opening_board setup.lists).clients;
    bytes = setup.bytes;
    indeterminate = setup.unknown;
    finals = λ client. request_of no_message;
    fate = fate;
    fates = λ place. false;
  },
  record {
    explains = explains_opening start Strict setup begins;
    ahead = record {
      sources = (explains_opening start Strict setup begins).sources;
      small = (explains_opening start Strict setup begins).small;
      many = refl;
      placed = λ place flight is. absurd (cc (sym (nothing place) ∙ is));
      begun = λ client some. absurd (cc (sym (none_begun client) ∙ some));
      others = λ place other is none. absurd (cc (sym (nothing place) ∙ is));
      waits = λ client some. absurd (cc (sym (none_begun client) ∙ some));
      known = λ x certain none unfated. record { byte = refl; certain = certain };
      given = λ client x some determined gives_it. absurd (cc (sym (none_begun client) ∙ some));
    };
    marked = tt;
    failing = tt;
    fated = tt;
    any_fated = any;
    open_ones = tt;
    known = λ client some. absurd (cc (sym (none_begun client) ∙ some));
    early = λ client due is. absurd (cc (sym (none_early client) ∙ is));
  },
  refl,
)
  where
    nothing : (place : Place) → flight_at (opening_board setup.lists).clients place ≡ None
    nothing place = none_in (opening_board setup.lists).clients place (opening_flights setup.lists.config 0 setup.lists.config.clients place.client)

    none_early : (client : ℕ) → early_at (opening_board setup.lists).clients client ≡ None
    none_early client = by_found (slice_get (opening_board setup.lists).clients client) refl
      where
        by_found : (o : Option ClientBoard) → slice_get (opening_board setup.lists).clients client ≡ o → early_in o ≡ None
        by_found None is = refl
        by_found (Some found) is = ap (λ (c : ClientBoard). c.early) (opening_at setup.lists.config 0 setup.lists.config.clients client found is).1

    none_begun : (client : ℕ) → comes (opening_board setup.lists).clients client ≡ false
    none_begun client = by_client (slice_get (opening_board setup.lists).clients client) refl
      where
        by_client : (o : Option ClientBoard) → slice_get (opening_board setup.lists).clients client ≡ o → is_some (front_in o) ≡ false
        by_client None is = refl
        by_client (Some found) is =
            let opened = opening_at setup.lists.config 0 setup.lists.config.clients client found is in
            ap (λ (c : ClientBoard). is_some c.front) opened.1

-- where addresses lead stays
pub record SameSetup (old new : Board) : Type 0 where
  pub faults : new.memory.faults ≡ old.memory.faults
  pub regions : new.memory.regions ≡ old.memory.regions

next_setup : (board : Board) (seen : ObservedBeat) → SameSetup board (after_seen RealTime board seen)
next_setup board (A number beat) = record { faults = grind arith; regions = grind arith }
next_setup board (D number beat) = record { faults = grind arith; regions = grind arith }
next_setup board (OnAxi beat) =
    let hit_setup = by_span (failed_span board.errors board.axi beat) (record board { axi = port_after RealTime board.axi beat }) in
    record { faults = hit_setup.faults; regions = hit_setup.regions }
  where
    by_span : (span : Option Span) (old : Board) → SameSetup old (hit_on span old)
    by_span None old = record { faults = refl; regions = refl }
    by_span (Some span) old = record { faults = refl; regions = refl }
next_setup board Drained = record { faults = refl; regions = refl }

pub all_setup : (beats : List ObservedBeat) (board : Board) → SameSetup board (after_all RealTime board beats)
all_setup [] board = record { faults = refl; regions = refl }
all_setup (seen ∷ beats) board =
    let first = next_setup board seen in
    let rest = all_setup beats (after_seen RealTime board seen) in
    record { faults = rest.faults ∙ first.faults; regions = rest.regions ∙ first.regions }

-- ---- the laws

pub followed : (start : Bytes) (errors : Errors) (setup : Beginning) (before : List ObservedBeat) (order : Order) → MayBegin setup start → IsOrderOf errors setup before order
    → (shadow : Shadow) × Follows start (board_after errors setup before) shadow order × AllByRecursion (λ entry. shadow.fate entry.number ≡ true → entry.spoiled ≡ true) order
followed start errors setup before order begins orders =
    let (shadow, follows, is) =
    follows_all orders.fate before (opening_from errors setup) [] order orders.from (fronts_opening setup.lists) (follows_opening start orders.fate errors setup begins orders.any) in
    (shadow, follows, subst (λ (f : ℕ → Bool). AllByRecursion (λ entry. f entry.number ≡ true → entry.spoiled ≡ true) order) (sym is) orders.ends)

pub blames_by_rule : BlamesByRule
blames_by_rule errors setup start before order client beat wrong begins orders blamed =
    let same = all_setup before (opening_from errors setup) in
    let (shadow, follows, ends) = followed start errors setup before order begins orders in
    blamed_as (record { at = begins.small }) setup.lists (board_after errors setup before) shadow order client beat follows ends same.faults same.regions wrong blamed

-- what is wrong by a rule is wrong
pub wrong_as_in : (setup : SetupLists) (start : Bytes) (order : Order) (asked : Asked) (wrong : Wrong) → IsWrongAs setup start order asked wrong → IsWrongIn setup start order asked
wrong_as_in setup start order asked NoClient is none = absurd (cc (sym (ap (λ (beats : List DBeat). wrong_beat beats asked.beat) is) ∙ none))
wrong_as_in setup start order asked (Request broken) is none = absurd is
wrong_as_in setup start order asked (Reply broken due) is none = absurd (cc (sym is.1 ∙ none))
wrong_as_in setup start order asked (Axi broken) is none = absurd is
wrong_as_in setup start order asked WrongPlace is none = absurd is
wrong_as_in setup start order asked UnknownRequest is none = absurd is
wrong_as_in setup start order asked UnknownAxi is none = absurd is

pub run_all : (setup : SetupLists) (order : Order) (m : Bytes)
    → bytes_after_all (faults_of setup) setup.regions (map (λ entry. entry.request) order) m ≡ run (faults_of setup) setup.regions m order
run_all setup [] m = refl
run_all setup (entry ∷ order) m = run_all setup order (carry (faults_of setup) setup.regions entry.request m)

-- a client's message that has begun may not write a byte that none of them may
not_awaited : (x : ℕ) (clients : List ClientBoard) → list_any (λ client. may_write client.coming x) clients ≡ false → (number : ℕ)
    → may_write (coming_at clients number) x ≡ false
not_awaited x [] none number = refl
not_awaited x (client ∷ clients) none zero = grind (arith, none)
not_awaited x (client ∷ clients) none (suc number) = not_awaited x clients (grind (arith, none)) number

pub knows_bytes : KnowsBytes
knows_bytes errors setup start before order x begins orders certain awaited =
    let board = board_after errors setup before in
    let same = all_setup before (opening_from errors setup) in
    let (shadow, follows, ends) = followed start errors setup before order begins orders in
    let both = follows.ahead.known x certain (λ client some.
    let become = follows.ahead.begun client some in
    none_given board.memory.faults board.memory.regions (coming_at board.clients client) (shadow.finals client) become.other x become.becomes
    (not_awaited x board.clients awaited client)) (none_fated board shadow order follows ends x) in
    ap (λ (f : Bytes). f x) (run_all setup.lists order start)
    ∙ sym (ap₂ (λ (f : Faults) (r : List Region). run f r start order x) same.faults same.regions)
    ∙ sym (ap (λ (f : Bytes). f x) (run_settled board.memory.faults board.memory.regions start order))
    ∙ follows.explains.known x both.certain ∙ both.byte

-- the board after beats none of which is wrong
pub reached_after : (start : Board) (beats : List ObservedBeat) (board : Board) → IsReached RealTime start beats board → board ≡ after_all RealTime start beats
reached_after start [] board is = is
reached_after start (seen ∷ beats) board is = reached_after (after_seen RealTime start seen) beats board is.1
