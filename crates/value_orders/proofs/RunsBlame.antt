-- A beat that tells a byte that is blamed is wrong in every order of the requests of a run, in which each atomic finds what it was told.
use Rattle.std.proofs.Common.{◌≡◌, ℕ, ◌<◌, ◌≤◌, ◌%◌, ◌==◌, Bool, true, false, ◌&&◌, ◌||◌, not, List, map, drop, Option, Some, None, if◌then◌else◌, refl, sym, ◌∙◌, ap, subst, arith}
use Rattle.std.specs.Prelude.{is_none, slice_get}
use Rattle.std.proofs.lemmas.Bool.{both_ways}
use Rattle.std.proofs.lemmas.Bool.Decides.{nat_tests}
use Rattle.bus_words.specs.Lanes.{has_lane, lane_byte}
use Rattle.burst_plan.specs.PageMap.{address_of, translated_address}
use Rattle.burst_plan.specs.declared.Region.{Region}
use Rattle.byte_orders.specs.Holdings.{Holding, NoOrderExplains, may_be_told}
use Rattle.byte_orders.specs.Runs.{AllMayCome, Event, IsInFlight, first_run, run_after}
use Rattle.byte_orders.proofs.RunsRightly.{runs_rightly}
use Rattle.meaning.specs.Meaning.{Bytes, denied, effect, effect_at, meaning, zeros}
use Rattle.responses.specs.Shown.{Reply, shown}
use Rattle.serial_memory.specs.SerialMemory.{on_good_page}
use Rattle.setups.specs.Setups.{SetupLists, faults_of}
use Rattle.subordinate.specs.Faults.{Faults, Standing, IsAbsent, IsGood, IsSlaveError, is_bad, standing_at}
use Rattle.tl_messages.specs.Requests.{WholeRequest}
use Rattle.tl_messages.specs.declared.DBeat.{DBeat}
use Rattle.tl_messages.specs.declared.Operation.{Operation}
use Rattle.tl_messages.specs.declared.Operation.TheVariants.{Atomic, Get, Intent, PutFull, PutPartial}
use Rattle.scoreboard.specs.Boards.{Beginning, ClientBoard, next_to, tells_error, wrong_beat}
use Rattle.scoreboard.specs.Flights.{InFlight}
use Rattle.scoreboard.specs.Orders.{Asked, Entry, IsWrongIn, access_fails, has_ended, has_failed, known_request, meaning_on, shown_to}
use Rattle.scoreboard.specs.RealTime.{asked_on}
use Rattle.scoreboard.specs.declared.Errors.{Errors}
use Rattle.scoreboard.specs.declared.Errors.TheVariants.{Any, Strict}
use Rattle.scoreboard.specs.declared.Policy.TheVariants.{RealTime}
use Rattle.scoreboard.proofs.acceptance_order.Owed.{right_next}
use Rattle.scoreboard.proofs.real_time.RequestActs.{AreBytes}
use Rattle.scoreboard.proofs.real_time.Verdicts.{sure_shown}
use Rattle.value_orders.specs.Blames.{IsAsKnown, IsBlamedByte, IsDueTo, MayHaveBeen, TellsBlamed, standing, standing_in}
use Rattle.value_orders.specs.Bytes.{NoneTells, access_of, accesses_in, byte_at_start, untold}
use Rattle.value_orders.specs.Histories.{Happening, History, Past, begun_by, board_in, history_in, tells}
use Rattle.value_orders.specs.Places.{acts_at, acts_on, covers_from, is_in_word}
use Rattle.value_orders.specs.RunOrders.{MayBe, bytes_before, past_of}
use Rattle.value_orders.proofs.AccessOrders.{is_there}
use Rattle.value_orders.proofs.Effects.{IsWellPast, never_spoiled, q_fields, same_size}
use Rattle.value_orders.proofs.MatchesHistories.{matches_in}
use Rattle.value_orders.proofs.RunsBlameLive.{AreLive, live_in}
use Rattle.value_orders.proofs.RunsBlameOrders.{HasNumber, due_found, in_order, live_number, next_number, small_before, stands_since}
use Rattle.value_orders.proofs.RunsBlameShown.{left_tells}
use Rattle.value_orders.proofs.RunsBlameUntold.{blames_untold}
use Rattle.value_orders.proofs.RunsTell.{runs_tell}
use Rattle.value_orders.proofs.WellHistories.{IsKept, all_well, kept_in}

-- ---- which bytes a request gives plays no part in whether its access fails

reply_same : (faults : Faults) (q : WholeRequest) (bytes : List (Option ℕ)) (m : Bytes) (a : ℕ) (op : Operation) (standing : Standing) (bad : Bool)
    → (effect faults (record q { bytes = bytes }) m a op standing bad).reply ≡ (effect faults q m a op standing bad).reply
reply_same faults q bytes m a (Intent write) standing bad = refl
reply_same faults q bytes m a PutFull IsAbsent bad = refl
reply_same faults q bytes m a PutFull IsSlaveError bad = refl
reply_same faults q bytes m a PutFull IsGood bad = refl
reply_same faults q bytes m a PutPartial IsAbsent bad = refl
reply_same faults q bytes m a PutPartial IsSlaveError bad = refl
reply_same faults q bytes m a PutPartial IsGood bad = refl
reply_same faults q bytes m a Get IsAbsent bad = refl
reply_same faults q bytes m a Get IsSlaveError bad = refl
reply_same faults q bytes m a Get IsGood bad = refl
reply_same faults q bytes m a (Atomic op) IsAbsent bad = refl
reply_same faults q bytes m a (Atomic op) IsSlaveError bad = refl
reply_same faults q bytes m a (Atomic op) IsGood true = refl
reply_same faults q bytes m a (Atomic op) IsGood false = refl

pub means_same : (faults : Faults) (regions : List Region) (q : WholeRequest) (bytes : List (Option ℕ)) (m : Bytes)
    → (meaning faults regions (record q { bytes = bytes }) m).reply ≡ (meaning faults regions q m).reply
means_same faults regions q bytes m = by_corrupt q.corrupt
  where
    by_address : (at : Option ℕ)
        → (effect_at faults (record q { bytes = bytes }) m at).reply ≡ (effect_at faults q m at).reply
    by_address None = refl
    by_address (Some a) = reply_same faults q bytes m a q.operation (standing_at faults a) (is_bad faults a)

    by_corrupt : (b : Bool)
        → (if b then record { reply = denied; after = m } else effect_at faults (record q { bytes = bytes }) m (translated_address regions q)).reply
        ≡ (if b then record { reply = denied; after = m } else effect_at faults q m (translated_address regions q)).reply
    by_corrupt true = refl
    by_corrupt false = by_address (translated_address regions q)

fails_same : (setup : SetupLists) (q : WholeRequest) (bytes : List (Option ℕ)) (corrupt : Bool)
    → access_fails setup (record q { bytes = bytes; corrupt = corrupt }) ≡ access_fails setup q
fails_same setup q bytes corrupt =
    ap (λ (reply : Reply). is_none (on_good_page (faults_of setup) (address_of setup.regions (record q { corrupt = false })))
    || tells_error (shown (record q { corrupt = false }) reply))
    (means_same (faults_of setup) setup.regions (record q { corrupt = false }) bytes zeros)

failed_same : (setup : SetupLists) (errors : Errors) (entry : Entry) (bytes : List (Option ℕ)) (corrupt : Bool)
    → has_failed errors setup (record entry { request = record entry.request { bytes = bytes; corrupt = corrupt } }) ≡ has_failed errors setup entry
failed_same setup Strict entry bytes corrupt = refl
failed_same setup Any entry bytes corrupt = ap (λ (b : Bool). entry.spoiled || b) (fails_same setup entry.request bytes corrupt)

-- ---- what is told

pub record IsTelling (setup : SetupLists) (errors : Errors) (entry : Entry) (beat : DBeat) (lanes x : ℕ) : Type 0 where
  pub opcode : beat.opcode ≡ 1
  pub sound : beat.corrupt ≡ false
  pub unfailed : has_failed errors setup entry ≡ false
  pub on : acts_on setup errors entry.request x ≡ true
  pub in_word : is_in_word (acts_at setup errors entry.request) entry.came x ≡ true
  pub known : has_lane lanes (x % 8) ≡ false

pub is_telling : (setup : SetupLists) (errors : Errors) (entry : Entry) (beat : DBeat) (lanes x : ℕ) → tells setup errors entry beat lanes x ≡ true
    → IsTelling setup errors entry beat lanes x
is_telling setup errors entry beat lanes x is =
    by_all (beat.opcode == 1) beat.corrupt (has_failed errors setup entry) (acts_on setup errors entry.request x)
    (is_in_word (acts_at setup errors entry.request) entry.came x) (has_lane lanes (x % 8)) refl refl refl refl refl refl is
  where
    by_all : (carries corrupt failed acting here unknown : Bool) → (beat.opcode == 1) ≡ carries → beat.corrupt ≡ corrupt → has_failed errors setup entry ≡ failed
        → acts_on setup errors entry.request x ≡ acting → is_in_word (acts_at setup errors entry.request) entry.came x ≡ here → has_lane lanes (x % 8) ≡ unknown
        → (carries && not corrupt && not failed && acting && here && not unknown) ≡ true → IsTelling setup errors entry beat lanes x
    by_all carries corrupt failed acting here unknown carries_is corrupt_is failed_is acting_is here_is unknown_is all =
        record {
          opcode = grind (arith, nat_tests, carries_is, all);
          sound = grind (arith, corrupt_is, all);
          unfailed = grind (arith, failed_is, all);
          on = grind (arith, acting_is, all);
          in_word = grind (arith, here_is, all);
          known = grind (arith, unknown_is, all);
        }

-- ---- what the request finds

module _ (setup : SetupLists) (errors : Errors) (past : Past) (q : WholeRequest) (well : IsWellPast errors past) (may : MayBe past q)
    (unfailed : has_failed errors setup past.entry ≡ false) where
  pub same_failed : has_failed errors setup (record past.entry { request = q }) ≡ false
  same_failed =
      ap (λ (r : WholeRequest). has_failed errors setup (record past.entry { request = r })) (q_fields setup errors past q well may)
      ∙ failed_same setup errors past.entry q.bytes q.corrupt ∙ unfailed

  pub not_spoiled : past.entry.spoiled ≡ false
  not_spoiled = by_errors errors refl
    where
      by_errors : (e : Errors) → errors ≡ e → past.entry.spoiled ≡ false
      by_errors Strict strict = never_spoiled setup errors past q well may past.entry.spoiled refl strict
      by_errors Any any = grind (arith, any, unfailed)

  -- it isn't corrupt, where it acts
  not_corrupt : (a : ℕ) → acts_at setup errors past.entry.request ≡ Some a → past.entry.request.corrupt ≡ false
  not_corrupt a at = by_errors errors refl
    where
      by_strict : (b : Bool) → past.entry.request.corrupt ≡ b → errors ≡ Strict → past.entry.request.corrupt ≡ false
      by_strict false is strict = is
      by_strict true is strict = absurd (cc (sym nowhere ∙ at))
        where
          nowhere : acts_at setup errors past.entry.request ≡ None
          nowhere = rw (strict, is) refl

      by_errors : (e : Errors) → errors ≡ e → past.entry.request.corrupt ≡ false
      by_errors Any any = well.sound any not_spoiled
      by_errors Strict strict = by_strict past.entry.request.corrupt refl strict

  -- as it is known, it isn't corrupt
  known_is : (a : ℕ) → acts_at setup errors past.entry.request ≡ Some a → known_request past.entry.whole q ≡ record q { corrupt = false }
  known_is a at = by_whole past.entry.whole refl
    where
      by_whole : (b : Bool) → past.entry.whole ≡ b → known_request b q ≡ record q { corrupt = false }
      by_whole false is = refl
      by_whole true is =
          ap (λ (c : Bool). record q { corrupt = c })
          (ap (λ (r : WholeRequest). r.corrupt) may.fields ∙ ap (λ (r : WholeRequest). r.corrupt) (may.becomes.same is not_spoiled) ∙ not_corrupt a at)

  acts_same : (a : ℕ) → acts_at setup errors past.entry.request ≡ Some a
      → on_good_page (faults_of setup) (address_of setup.regions (record q { corrupt = false })) ≡ Some a
  acts_same a at =
      ap (λ (r : WholeRequest). on_good_page (faults_of setup) (translated_address setup.regions r)) (q_fields setup errors past q well may)
      ∙ by_errors errors refl
    where
      by_errors : (e : Errors) → errors ≡ e → on_good_page (faults_of setup) (translated_address setup.regions past.entry.request) ≡ Some a
      by_errors Any any = sym place_any ∙ at
        where
          place_any : acts_at setup errors past.entry.request ≡ on_good_page (faults_of setup) (translated_address setup.regions past.entry.request)
          place_any = rw any refl
      by_errors Strict strict = sym place_strict ∙ at
        where
          place_strict : acts_at setup errors past.entry.request ≡ on_good_page (faults_of setup) (translated_address setup.regions past.entry.request)
          place_strict = rw (strict, not_corrupt a at) refl

  -- where nothing is wrong with a beat, as the next of its reply, it tells the byte that the request found
  pub finds_told : (asked : Asked) (m : Bytes) (lanes x : ℕ) → asked.errors ≡ errors → IsTelling setup errors past.entry asked.beat lanes x → AreBytes m
      → wrong_beat (shown_to setup asked (record past.entry { request = q }) m) asked.beat ≡ None
      → m x ≡ lane_byte asked.beat.payload (x % 8)
  finds_told asked m lanes x own telling bytes none = by_place (acts_at setup errors past.entry.request) refl
    where
      failed : has_failed asked.errors setup (record past.entry { request = q }) ≡ false
      failed = ap (λ e. has_failed e setup (record past.entry { request = q })) own ∙ same_failed

      left_with : WholeRequest → List DBeat
      left_with r = drop past.entry.came (shown q (meaning_on setup r m).reply)

      covered : (a : ℕ) → acts_at setup errors past.entry.request ≡ Some a → covers_from (Some a) q.size x ≡ true
      covered a at =
          ap (λ n. covers_from (Some a) n x) (same_size setup errors past q well may)
          ∙ ap (λ o. covers_from o past.entry.request.size x) (sym at) ∙ telling.on

      in_word : (a : ℕ) → acts_at setup errors past.entry.request ≡ Some a → is_in_word (Some a) past.entry.came x ≡ true
      in_word a at = ap (λ o. is_in_word o past.entry.came x) (sym at) ∙ telling.in_word

      by_left : (a : ℕ) → acts_at setup errors past.entry.request ≡ Some a → wrong_beat (left_with (record q { corrupt = false })) asked.beat ≡ None
          → m x ≡ lane_byte asked.beat.payload (x % 8)
      by_left a at not_wrong =
          let next = right_next (left_with (record q { corrupt = false })) asked.beat not_wrong in
          sym (left_tells setup (record q { corrupt = false }) a m past.entry.came x asked.beat next.0 (acts_same a at) bytes (covered a at) (in_word a at) next.1
          telling.opcode telling.sound)

      by_place : (at : Option ℕ) → acts_at setup errors past.entry.request ≡ at → m x ≡ lane_byte asked.beat.payload (x % 8)
      by_place None at = absurd (cc (ap (λ o. covers_from o past.entry.request.size x) (sym at) ∙ telling.on))
      by_place (Some a) at =
          by_left a at
          (ap (λ (r : WholeRequest). wrong_beat (left_with r) asked.beat) (sym (known_is a at))
          ∙ sym (sure_shown (has_failed asked.errors setup (record past.entry { request = q })) asked.told (left_with (known_request past.entry.whole q)) asked.beat failed)
          ∙ none)

-- ---- the law

module _ (errors : Errors) (beginning : Beginning) (happenings : List Happening) where
  abbrev pub history : History
  history = history_in errors beginning happenings

  pub kept : IsKept errors (board_in errors beginning happenings).board history
  kept = kept_in errors beginning happenings

  pub well : (number : ℕ) → 0 < number → number ≤ begun_by history → IsWellPast errors (past_of history number)
  well = all_well errors (board_in errors beginning happenings).board history kept

  -- one to which a beat is due is in flight
  flies : (client : ℕ) (beat : DBeat) (number x : ℕ) → IsDueTo history client beat number → IsInFlight number (accesses_in beginning.lists errors history x)
  flies client beat number x is =
      record {
        one = access_of beginning.lists errors x number (past_of history number);
        there = is_there beginning.lists errors history x number (omega (arith, is.since)) is.begun;
        begun = refl;
        live = by_end (past_of history number).ended refl;
      }
    where
      going : has_ended (past_of history number).entry ≡ false
      going = grind (arith, nat_tests, is.due)

      by_end : (ended : Option ℕ) → (past_of history number).ended ≡ ended → ended ≡ None
      by_end None at = refl
      by_end (Some time) at =
          absurd (both_ways (has_ended (past_of history number).entry) going ((live_number history (live_in errors beginning happenings) number is.since is.begun).ends time at))

  -- no order of the accesses tells a byte that is blamed
  pub none_tells : (client : ℕ) (beat : DBeat) (x number byte : ℕ) → IsDueTo history client beat number → IsBlamedByte errors beginning happenings x number byte
      → NoneTells beginning errors history x number byte
  none_tells client beat x number byte is blames =
      subst (λ accesses. NoOrderExplains (byte_at_start beginning x) (map untold accesses) number byte) blames.accesses
      (blames_untold blames.held number byte blames.blamed (byte_at_start beginning x) blames.events blames.may_come blames.is_held
      (subst (λ accesses. IsInFlight number accesses) (sym blames.accesses) (flies client beat number x is)))

  pub wrong_in : (client : ℕ) (beat : DBeat) (lanes : ℕ) → TellsBlamed errors beginning happenings client beat lanes
      → (requests : ℕ → WholeRequest) (numbers : List ℕ) (start : Bytes) (seen : DBeat)
      → MayHaveBeen errors beginning happenings requests numbers start → IsAsKnown lanes beat seen
      → IsWrongIn beginning.lists start (standing_in history requests numbers) (asked_on (board_in errors beginning happenings).board client seen)
  wrong_in client beat lanes blamed requests numbers start seen been as_known none =
      runs_tell errors beginning happenings requests numbers start blamed.x number (lane_byte beat.payload (blamed.x % 8))
      been.order (in_order beginning.lists errors history requests well been.requests_may live numbers been.order number is_due.since is_due.begun)
      been.requests_may been.begins been.find (none_tells client beat blamed.x number (lane_byte beat.payload (blamed.x % 8)) is_due blamed.blames_it)
      (finds_told beginning.lists errors (past_of history number) (requests number) (well number (omega (arith, is_due.since)) is_due.begun)
      (been.requests_may number (omega (arith, is_due.since)) is_due.begun) telling.unfailed asked before lanes blamed.x kept.errors_are seen_tells small not_wrong
      ∙ as_known.known (blamed.x % 8) (omega (arith)) telling.known)
    where
      number : ℕ
      number = blamed.number

      is_due : IsDueTo history client beat blamed.number
      is_due = blamed.is_due

      live : AreLive history.since
      live = live_in errors beginning happenings

      asked : Asked
      asked = asked_on (board_in errors beginning happenings).board client seen

      before : Bytes
      before = bytes_before beginning.lists requests start numbers blamed.number

      telling : IsTelling beginning.lists errors (past_of history blamed.number).entry beat lanes blamed.x
      telling = is_telling beginning.lists errors (past_of history blamed.number).entry beat lanes blamed.x blamed.tells_it

      seen_tells : IsTelling beginning.lists errors (past_of history blamed.number).entry seen lanes blamed.x
      seen_tells =
          record {
            opcode = ap (λ (b : DBeat). b.opcode) as_known.rest ∙ telling.opcode;
            sound = ap (λ (b : DBeat). b.corrupt) as_known.rest ∙ telling.sound;
            unfailed = telling.unfailed;
            on = telling.on;
            in_word = telling.in_word;
            known = telling.known;
          }

      small : AreBytes before
      small =
          small_before beginning.lists errors history requests well been.requests_may numbers start blamed.number been.order.some
          (record { at = been.begins.small })

      not_wrong : wrong_beat (shown_to beginning.lists asked (record (past_of history blamed.number).entry { request = requests blamed.number }) before) seen ≡ None
      not_wrong =
          ap (λ (entry : Entry). wrong_beat (shown_to beginning.lists asked entry before) seen)
          (sym (stands_since beginning.lists errors history requests well been.requests_may blamed.number is_due.since))
          ∙ ap (λ beats. wrong_beat beats seen)
          (sym (due_found beginning.lists errors history requests well been.requests_may live numbers been.order
          (board_in errors beginning happenings).board.clients (matches_in errors beginning happenings).fits client beat blamed.number is_due asked start refl
          (ap (λ (b : DBeat). b.source) as_known.rest)))
          ∙ none

-- what the board has next of a client's source is due to one request, by its number
pub next_in : (errors : Errors) (beginning : Beginning) (happenings : List Happening) (client : ℕ) (beat : DBeat) (found : ClientBoard) (flight : InFlight)
    → slice_get (board_in errors beginning happenings).board.clients client ≡ Some found → next_to RealTime found beat.source ≡ Some flight
    → HasNumber (history_in errors beginning happenings) client beat
next_in errors beginning happenings client beat found flight there next =
    next_number beginning.lists errors (history_in errors beginning happenings) (board_in errors beginning happenings).board.clients
    (matches_in errors beginning happenings).fits client beat found flight there next

-- a byte is blamed that a list doesn't let its request be told
pub blamed_by : (errors : Errors) (beginning : Beginning) (happenings : List Happening) (x number byte : ℕ) (held : List Holding) (events : List Event)
    → AllMayCome (first_run (byte_at_start beginning x)) events → held ≡ (run_after (first_run (byte_at_start beginning x)) events).held
    → (run_after (first_run (byte_at_start beginning x)) events).accesses ≡ accesses_in beginning.lists errors (history_in errors beginning happenings) x
    → may_be_told held number byte ≡ false → IsBlamedByte errors beginning happenings x number byte
blamed_by errors beginning happenings x number byte held events may same accesses none =
    record { held = held; events = events; may_come = may; is_held = same; accesses = accesses; blamed = runs_rightly held number byte none }
