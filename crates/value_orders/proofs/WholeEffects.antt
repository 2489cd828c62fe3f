-- What a request does to a byte is what its access says.
use Rattle.std.proofs.Common.{◌≡◌, ℕ, ◌<◌, ◌+◌, ◌-◌, ◌^◌, Bool, true, false, ◌||◌, List, map, length, Option, Some, None, if◌then◌else◌, ⊎_elim, refl, sym, ◌∙◌, ap, subst, is_some, arith}
use Rattle.std.specs.Prelude.{◌%◌, is_none, nat_le, option_map, slice_get}
use Rattle.std.specs.Option.{option_flatten}
use Rattle.std.proofs.lemmas.Bool.Decides.{nat_tests}
use Rattle.std.proofs.lemmas.Bool.{both_ways, false_from_ne_true, or_parts}
use Rattle.bus_words.specs.Lanes.{given_at}
use Rattle.burst_plan.specs.PageMap.{address_of}
use Rattle.meaning.specs.Meaning.{Bytes, Effect, atomic_bytes, effect, with_bytes}
use Rattle.serial_memory.specs.SerialMemory.{on_good_page}
use Rattle.setups.specs.Setups.{SetupLists, faults_of}
use Rattle.subordinate.specs.Faults.{Faults, Standing, IsAbsent, IsGood, IsSlaveError, is_bad, is_good, standing_at}
use Rattle.tl_messages.specs.Operations.{has_data}
use Rattle.tl_messages.specs.Requests.{WholeRequest}
use Rattle.tl_messages.specs.declared.AtomicOp.{AtomicOp}
use Rattle.tl_messages.specs.declared.Operation.{Operation}
use Rattle.tl_messages.specs.declared.Operation.TheVariants.{Atomic, Get, Intent, PutFull, PutPartial}
use Rattle.scoreboard.specs.Orders.{meaning_on}
use Rattle.scoreboard.specs.RealTime.{gives_byte}
use Rattle.scoreboard.specs.declared.Errors.{Errors}
use Rattle.scoreboard.specs.declared.Errors.TheVariants.{Any, Strict}
use Rattle.scoreboard.proofs.acceptance_order.Meanings.{meaning_some}
use Rattle.value_orders.specs.Bytes.{is_in_doubt, made_by, made_of, gives_as, gives_at, gives_from, is_failed, is_hidden_at, is_hidden_byte, left_by}
use Rattle.value_orders.specs.Histories.{Past}
use Rattle.value_orders.specs.Places.{acts_at, acts_on, covers_from}
use Rattle.value_orders.specs.RunOrders.{FindsAsTold, MayBe, MayBeByte}
use Rattle.data_unit.specs.Atomics.{atomic_result, operand_of}
use Rattle.data_unit.specs.Words.{bytes_of, value}
use Rattle.scoreboard.specs.Unknown.{is_unknown_given}
use Rattle.std.proofs.lemmas.Option.{slice_get-map}
use Rattle.value_orders.proofs.Agreement.{Does}
use Rattle.value_orders.proofs.Ranges.{none_of_range, read_as_told, same_lists}
use Rattle.scoreboard.proofs.real_time.RequestActs.{gives, own}
use Rattle.value_orders.proofs.Effects.{IsWellPast, given_same, given_there, kept, never_spoiled, q_acts, q_well, same_operation, same_size, sound_acts, without_data, without_place}

-- ---- on a good page

record IsAtGood (faults : Faults) (at : Option ℕ) (a : ℕ) : Type 0 where
  there : at ≡ Some a
  good : standing_at faults a ≡ IsGood

is_good_page : (standing : Standing) → is_good standing ≡ true → standing ≡ IsGood
is_good_page IsGood is = refl
is_good_page IsSlaveError is = absurd (cc (is))
is_good_page IsAbsent is = absurd (cc (is))

at_good : (faults : Faults) (at : Option ℕ) (a : ℕ) → on_good_page faults at ≡ Some a → IsAtGood faults at a
at_good faults None a is = absurd (cc (is))
at_good faults (Some b) a is = by_good (is_good (standing_at faults b)) refl
  where
    by_good : (g : Bool) → is_good (standing_at faults b) ≡ g → IsAtGood faults (Some b) a
    by_good false bad = absurd (cc (sym (none bad) ∙ is))
      where
        none : is_good (standing_at faults b) ≡ false → on_good_page faults (Some b) ≡ None
        none not_good = rw not_good refl
    by_good true good = let same : Some b ≡ Some a = sym (some good) ∙ is in
        record { there = same; good = subst (λ k. standing_at faults k ≡ IsGood) (cc (same)) (is_good_page (standing_at faults b) good) }
      where
        some : is_good (standing_at faults b) ≡ true → on_good_page faults (Some b) ≡ Some b
        some is_so = rw is_so refl

module _ (setup : SetupLists) (errors : Errors) (past : Past) (q : WholeRequest) (well : IsWellPast errors past) (may : MayBe past q) where
  abbrev acts_here : Option ℕ
  acts_here = acts_at setup errors past.entry.request

  abbrev after : Bytes → Bytes
  after m = (meaning_on setup q m).after

  abbrev gives_it : ℕ → Bool
  gives_it x = gives (own (faults_of setup) setup.regions q) q.bytes x

  does_kept : (m : Bytes) (x : ℕ) → gives_it x ≡ false → Does None (m x) (after m x)
  does_kept m x none = kept setup errors past q well may m x none

  -- ---- what isn't given

  -- what a whole one leaves out it leaves out
  known_leaves : (i : ℕ) → past.entry.whole ≡ true → gives_byte past.entry.request i ≡ false → gives_byte may.known i ≡ false
  known_leaves i whole none = by_spoiled past.entry.spoiled refl
    where
      by_spoiled : (b : Bool) → past.entry.spoiled ≡ b → gives_byte may.known i ≡ false
      by_spoiled false sound = ap (λ (r : WholeRequest). gives_byte r i) (may.becomes.same whole sound) ∙ none
      by_spoiled true spoiled =
          false_from_ne_true (gives_byte may.known i)
          (λ some. both_ways (gives_byte past.entry.request i) none ((may.becomes.left whole spoiled).within i some))

  q_leaves : (i : ℕ) → past.entry.whole ≡ true → gives_byte past.entry.request i ≡ false → gives_byte q i ≡ false
  q_leaves i whole none =
      given_same setup errors past q well may (is_hidden_byte past.hidden may.known.address i) (slice_get may.known.bytes i) (slice_get q.bytes i) (may.bytes i)
      ∙ known_leaves i whole none

  not_given : (a x : ℕ) → past.entry.whole ≡ true → given_at past.entry.request.bytes a x ≡ None → is_some (given_at q.bytes a x) ≡ false
  not_given a x whole none = by_side (nat_le a x) refl
    where
      by_side : (b : Bool) → nat_le a x ≡ b → is_some (given_at q.bytes a x) ≡ false
      by_side false before = rw before refl
      by_side true behind =
          rw behind
          (q_leaves (x - a) whole
          (ap (λ (o : Option ℕ). is_some o) (sym (rw behind refl) ∙ none)))

  left_out : (a x : ℕ) → past.entry.whole ≡ true → acts_here ≡ Some a → given_at past.entry.request.bytes a x ≡ None → gives_it x ≡ false
  left_out a x whole at none =
      ⊎_elim (λ nowhere. given_there setup errors past q well may None x nowhere)
      (λ there. given_there setup errors past q well may (Some a) x (there ∙ at) ∙ rw (not_given a x whole none) (grind arith))
      (q_acts setup errors past q well may)

  -- ---- where it acts

  -- what it does on a good page
  on_good : (a : ℕ) (m : Bytes) → on_good_page (faults_of setup) (address_of setup.regions q) ≡ Some a
      → meaning_on setup q m ≡ effect (faults_of setup) q m a q.operation IsGood (is_bad (faults_of setup) a)
  on_good a m at =
      let found = at_good (faults_of setup) (address_of setup.regions q) a at in
      meaning_some (faults_of setup) setup.regions q m a found.there
      ∙ ap (λ (standing : Standing). effect (faults_of setup) q m a q.operation standing (is_bad (faults_of setup) a)) found.good

  -- where its word is bad an atomic changes nothing
  bad_kept : (a x : ℕ) (op : AtomicOp) (m : Bytes) → acts_here ≡ Some a → past.entry.request.operation ≡ Atomic op → is_bad (faults_of setup) a ≡ true
      → after m x ≡ m x
  bad_kept a x op m at atomic bad =
      ⊎_elim (λ nowhere. kept setup errors past q well may m x (given_there setup errors past q well may None x nowhere)) (λ there. changes_nothing (there ∙ at))
      (q_acts setup errors past q well may)
    where
      changes_nothing : on_good_page (faults_of setup) (address_of setup.regions q) ≡ Some a → after m x ≡ m x
      changes_nothing there =
          ap (λ (e : Effect). e.after x)
          (on_good a m there
          ∙ ap (λ (o : Operation). effect (faults_of setup) q m a o IsGood (is_bad (faults_of setup) a)) (same_operation setup errors past q well may ∙ atomic)
          ∙ ap (λ (b : Bool). effect (faults_of setup) q m a (Atomic op) IsGood b) bad)

  -- one that carries no data changes nothing
  no_data : (m : Bytes) (x : ℕ) (op : Operation) → past.entry.request.operation ≡ op → has_data op ≡ false → Does None (m x) (after m x)
  no_data m x op is none = does_kept m x (without_data setup errors past q well may x (ap has_data is ∙ none))

  -- ---- one that has failed

  put_failed : (a x : ℕ) (m : Bytes) (given : Option ℕ) → past.entry.whole ≡ true → acts_here ≡ Some a → given_at past.entry.request.bytes a x ≡ given
      → Does (option_map (λ byte. None) (option_map (λ byte. if is_hidden_at past a x then None else Some byte) given)) (m x) (after m x)
  put_failed a x m None whole at none = does_kept m x (left_out a x whole at none)
  put_failed a x m (Some byte) whole at some = tt

  does_failed : (a x : ℕ) (m : Bytes) (op : Operation) → past.entry.whole ≡ true → acts_here ≡ Some a → past.entry.request.operation ≡ op
      → Does (option_map (λ byte. None) (left_by setup op past a x)) (m x) (after m x)
  does_failed a x m PutFull whole at is = put_failed a x m (given_at past.entry.request.bytes a x) whole at refl
  does_failed a x m PutPartial whole at is = put_failed a x m (given_at past.entry.request.bytes a x) whole at refl
  does_failed a x m Get whole at is = no_data m x Get is refl
  does_failed a x m (Intent write) whole at is = no_data m x (Intent write) is refl
  does_failed a x m (Atomic op) whole at is = by_bad (is_bad (faults_of setup) a) refl
    where
      by_bad : (b : Bool) → is_bad (faults_of setup) a ≡ b
          → Does (option_map (λ byte. None) (if b then None else Some (if is_in_doubt past a then None else slice_get (made_of op past.entry.request a past.told) (x - a))))
          (m x) (after m x)
      by_bad true bad = bad_kept a x op m at is bad
      by_bad false sound = tt

  -- ---- one that hasn't

  -- it is what came of it, and wasn't corrupt
  not_spoiled : is_failed setup errors past ≡ false → past.entry.spoiled ≡ false
  not_spoiled sound = by_errors errors refl
    where
      by_errors : (e : Errors) → errors ≡ e → past.entry.spoiled ≡ false
      by_errors Strict strict = never_spoiled setup errors past q well may past.entry.spoiled refl strict
      by_errors Any any = grind (arith, any, sound)

  is_known : past.entry.whole ≡ true → is_failed setup errors past ≡ false → may.known ≡ past.entry.request
  is_known whole sound = may.becomes.same whole (not_spoiled sound)

  not_corrupt : (a : ℕ) → is_failed setup errors past ≡ false → acts_here ≡ Some a → past.entry.request.corrupt ≡ false
  not_corrupt a sound at = by_errors errors refl
    where
      by_strict : (b : Bool) → past.entry.request.corrupt ≡ b → errors ≡ Strict → past.entry.request.corrupt ≡ false
      by_strict false is strict = is
      by_strict true is strict = absurd (cc (sym nowhere ∙ at))
        where
          nowhere : acts_here ≡ None
          nowhere = rw (strict, is) refl

      by_errors : (e : Errors) → errors ≡ e → past.entry.request.corrupt ≡ false
      by_errors Any any = well.sound any (not_spoiled sound)
      by_errors Strict strict = by_strict past.entry.request.corrupt refl strict

  acts_there : (a : ℕ) → past.entry.whole ≡ true → is_failed setup errors past ≡ false → acts_here ≡ Some a
      → on_good_page (faults_of setup) (address_of setup.regions q) ≡ Some a
  acts_there a whole sound at =
      sound_acts setup errors past q well may
      (ap (λ (r : WholeRequest). r.corrupt) may.fields ∙ ap (λ (r : WholeRequest). r.corrupt) (is_known whole sound) ∙ not_corrupt a sound at)
      ∙ at

  -- its bytes lie in the lanes of its address
  same_lane : (a : ℕ) → on_good_page (faults_of setup) (address_of setup.regions q) ≡ Some a → a % 8 ≡ may.known.address % 8
  same_lane a there = in_lanes (at_good (faults_of setup) (address_of setup.regions q) a there).there ∙ ap (λ (r : WholeRequest). r.address % 8) may.fields
    where
      in_lanes : address_of setup.regions q ≡ Some a → a % 8 ≡ q.address % 8
      in_lanes is = grind (arith, is)

  -- a byte that is known
  unhidden : (hidden : Bool) (given byte : Option (Option ℕ)) → hidden ≡ false → MayBeByte hidden given byte → byte ≡ given
  unhidden true given byte shown may_be = absurd (cc (shown))
  unhidden false given byte shown may_be = may_be

  shown_byte : (a i : ℕ) → past.entry.whole ≡ true → is_failed setup errors past ≡ false → acts_here ≡ Some a → is_hidden_byte past.hidden a i ≡ false
      → slice_get q.bytes i ≡ slice_get past.entry.request.bytes i
  shown_byte a i whole sound at shown =
      unhidden (is_hidden_byte past.hidden may.known.address i) (slice_get may.known.bytes i) (slice_get q.bytes i)
      (sym (ap (λ (lane : ℕ). is_unknown_given past.hidden lane (lane + i)) (same_lane a (acts_there a whole sound at))) ∙ shown) (may.bytes i)
      ∙ ap (λ (r : WholeRequest). slice_get r.bytes i) (is_known whole sound)

  -- a byte of a Put that is known
  put_given : (a x : ℕ) (m : Bytes) (byte : ℕ) → past.entry.whole ≡ true → is_failed setup errors past ≡ false → acts_here ≡ Some a
      → is_hidden_at past a x ≡ false → given_at past.entry.request.bytes a x ≡ Some byte
      → given_at q.bytes a x ≡ Some byte
  put_given a x m byte whole sound at shown some = by_side (nat_le a x) refl
    where
      by_side : (b : Bool) → nat_le a x ≡ b → given_at q.bytes a x ≡ Some byte
      by_side false before = absurd (cc (sym (none before) ∙ some))
        where
          none : nat_le a x ≡ false → given_at past.entry.request.bytes a x ≡ None
          none is = rw is refl
      by_side true behind =
          rw behind (ap (λ (o : Option (Option ℕ)). option_flatten o) (shown_byte a (x - a) whole sound at shown) ∙ there behind)
        where
          there : nat_le a x ≡ true → option_flatten (slice_get past.entry.request.bytes (x - a)) ≡ Some byte
          there is = sym (rw is refl) ∙ some

  put_leaves : (a x : ℕ) (m : Bytes) (op : Operation) (byte : ℕ) → past.entry.whole ≡ true → is_failed setup errors past ≡ false → acts_here ≡ Some a
      → past.entry.request.operation ≡ op → ((m : Bytes) → (effect (faults_of setup) q m a op IsGood (is_bad (faults_of setup) a)).after ≡ with_bytes m a q.bytes)
      → given_at q.bytes a x ≡ Some byte → after m x ≡ byte
  put_leaves a x m op byte whole sound at is puts some =
      ap (λ (e : Effect). e.after x)
      (on_good a m (acts_there a whole sound at)
      ∙ ap (λ (o : Operation). effect (faults_of setup) q m a o IsGood (is_bad (faults_of setup) a)) (same_operation setup errors past q well may ∙ is))
      ∙ ap (λ (f : Bytes). f x) (puts m)
      ∙ rw some refl

  put_whole : (a x : ℕ) (m : Bytes) (op : Operation) (given : Option ℕ) → past.entry.whole ≡ true → is_failed setup errors past ≡ false → acts_here ≡ Some a
      → past.entry.request.operation ≡ op → ((m : Bytes) → (effect (faults_of setup) q m a op IsGood (is_bad (faults_of setup) a)).after ≡ with_bytes m a q.bytes)
      → given_at past.entry.request.bytes a x ≡ given
      → Does (option_map (λ byte. if is_hidden_at past a x then None else Some byte) given) (m x) (after m x)
  put_whole a x m op None whole sound at is puts none = does_kept m x (left_out a x whole at none)
  put_whole a x m op (Some byte) whole sound at is puts some = by_hidden (is_hidden_at past a x) refl
    where
      by_hidden : (b : Bool) → is_hidden_at past a x ≡ b → Does (Some (if b then None else Some byte)) (m x) (after m x)
      by_hidden true hidden = tt
      by_hidden false shown = put_leaves a x m op byte whole sound at is puts (put_given a x m byte whole sound at shown some)

  atomic_whole : (a x : ℕ) (m : Bytes) (op : AtomicOp) → FindsAsTold past m → past.entry.whole ≡ true → is_failed setup errors past ≡ false → acts_here ≡ Some a
      → covers_from (Some a) past.entry.request.size x ≡ true → past.entry.request.operation ≡ Atomic op
      → Does (made_by setup op past a x) (m x) (after m x)
  atomic_whole a x m op finds whole sound at covered is = by_tests (is_bad (faults_of setup) a) (is_in_doubt past a) refl refl
    where
      n : ℕ
      n = 2 ^ past.entry.request.size

      made : List ℕ
      made = made_of op past.entry.request a past.told

      -- where each of its bytes was told, and is known
      puts_made : is_in_doubt past a ≡ false → atomic_bytes op m a (2 ^ q.size) q.bytes ≡ map (λ (b : ℕ). Some b) made
      puts_made sure =
          let read = read_as_told m past.told (λ y. is_hidden_at past a y) a n sure (λ y byte told. finds op y byte is told) in
          let same = same_lists q.bytes past.entry.request.bytes
          (may.count ∙ ap (λ (r : WholeRequest). length r.bytes) (is_known whole sound))
          (λ i below. shown_byte a i whole sound at (unhidden_at i below sure)) in
          ap (λ (size : ℕ). atomic_bytes op m a (2 ^ size) q.bytes) (same_size setup errors past q well may)
          ∙ ap (λ (bytes : List (Option ℕ)). atomic_bytes op m a n bytes) same
          ∙ ap (λ (reads : List ℕ). map (λ (b : ℕ). Some b) (bytes_of n (atomic_result op n (value reads) (operand_of past.entry.request)))) read
        where
          unhidden_at : (i : ℕ) → i < length q.bytes → is_in_doubt past a ≡ false → is_hidden_byte past.hidden a i ≡ false
          unhidden_at i below sure_of =
              subst (λ k. is_hidden_byte past.hidden a k ≡ false) (omega (arith))
              (or_parts (is_none (past.told (a + i))) (is_hidden_at past a (a + i))
              (none_of_range (λ y. is_none (past.told y) || is_hidden_at past a y) a n i sure_of
              (subst (λ k. i < k) ((q_well setup errors past q well may).count ∙ ap (λ k. 2 ^ k) (same_size setup errors past q well may)) below))).1

      -- a byte of it
      by_byte : (byte : Option ℕ) → is_bad (faults_of setup) a ≡ false → is_in_doubt past a ≡ false → slice_get made (x - a) ≡ byte → Does (Some byte) (m x) (after m x)
      by_byte None good sure there = tt
      by_byte (Some byte) good sure there =
          ap (λ (e : Effect). e.after x)
          (on_good a m (acts_there a whole sound at)
          ∙ ap (λ (o : Operation). effect (faults_of setup) q m a o IsGood (is_bad (faults_of setup) a)) (same_operation setup errors past q well may ∙ is)
          ∙ ap (λ (b : Bool). effect (faults_of setup) q m a (Atomic op) IsGood b) good)
          ∙ ap (λ (bytes : List (Option ℕ)). with_bytes m a bytes x) (puts_made sure)
          ∙ put_here
        where
          put_here : with_bytes m a (map (λ (b : ℕ). Some b) made) x ≡ byte
          put_here = grind (arith, nat_tests, covered, there, slice_get-map (λ (b : ℕ). Some b) made (x - a))

      by_tests : (bad doubt : Bool) → is_bad (faults_of setup) a ≡ bad → is_in_doubt past a ≡ doubt
          → Does (if bad then None else Some (if doubt then None else slice_get made (x - a))) (m x) (after m x)
      by_tests true doubt bad so = bad_kept a x op m at is bad
      by_tests false true good doubt = tt
      by_tests false false good sure = by_byte (slice_get made (x - a)) good sure refl

  does_whole : (a x : ℕ) (m : Bytes) (op : Operation) → FindsAsTold past m → past.entry.whole ≡ true → is_failed setup errors past ≡ false → acts_here ≡ Some a
      → covers_from (Some a) past.entry.request.size x ≡ true → past.entry.request.operation ≡ op
      → Does (left_by setup op past a x) (m x) (after m x)
  does_whole a x m PutFull finds whole sound at covered is =
      put_whole a x m PutFull (given_at past.entry.request.bytes a x) whole sound at is (λ n. refl) refl
  does_whole a x m PutPartial finds whole sound at covered is =
      put_whole a x m PutPartial (given_at past.entry.request.bytes a x) whole sound at is (λ n. refl) refl
  does_whole a x m Get finds whole sound at covered is = no_data m x Get is refl
  does_whole a x m (Intent write) finds whole sound at covered is = no_data m x (Intent write) is refl
  does_whole a x m (Atomic op) finds whole sound at covered is = atomic_whole a x m op finds whole sound at covered is

  -- ---- any

  gives_none : (x : ℕ) → has_data past.entry.request.operation ≡ false → gives_at setup errors past x ≡ None
  gives_none x none = rw none refl

  gives_nowhere : (x : ℕ) → has_data past.entry.request.operation ≡ true → acts_on setup errors past.entry.request x ≡ false → gives_at setup errors past x ≡ None
  gives_nowhere x carries none = rw (carries, none) refl

  gives_here : (x : ℕ) → has_data past.entry.request.operation ≡ true → acts_on setup errors past.entry.request x ≡ true
      → gives_at setup errors past x ≡ gives_from setup errors past acts_here x
  gives_here x carries on = rw (carries, on) refl

  pub does : (m : Bytes) (x : ℕ) → FindsAsTold past m → Does (gives_at setup errors past x) (m x) (after m x)
  does m x finds = by_tests (has_data past.entry.request.operation) (acts_on setup errors past.entry.request x) refl refl
    where
      by_whole : (a : ℕ) (whole failed : Bool) → past.entry.whole ≡ whole → is_failed setup errors past ≡ failed → acts_here ≡ Some a
          → covers_from (Some a) past.entry.request.size x ≡ true
          → Does (gives_as setup whole failed past a x) (m x) (after m x)
      by_whole a false failed is so at covered = tt
      by_whole a true true is so at covered = does_failed a x m past.entry.request.operation is at refl
      by_whole a true false is so at covered = does_whole a x m past.entry.request.operation finds is so at covered refl

      by_place : (at : Option ℕ) → acts_here ≡ at → covers_from at past.entry.request.size x ≡ true → Does (gives_from setup errors past at x) (m x) (after m x)
      by_place None is covered = absurd (cc (covered))
      by_place (Some a) is covered = by_whole a past.entry.whole (is_failed setup errors past) refl refl is covered

      by_tests : (carries on : Bool) → has_data past.entry.request.operation ≡ carries → acts_on setup errors past.entry.request x ≡ on
          → Does (gives_at setup errors past x) (m x) (after m x)
      by_tests false on none so = subst (λ (g : Option (Option ℕ)). Does g (m x) (after m x)) (sym (gives_none x none)) (does_kept m x (without_data setup errors past q well may x none))
      by_tests true false is none =
          subst (λ (g : Option (Option ℕ)). Does g (m x) (after m x)) (sym (gives_nowhere x is none)) (does_kept m x (without_place setup errors past q well may x none))
      by_tests true true is so = subst (λ (g : Option (Option ℕ)). Does g (m x) (after m x)) (sym (gives_here x is so)) (by_place acts_here refl so)
