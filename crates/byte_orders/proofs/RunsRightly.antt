-- Each run blames rightly: its list is kept short of all that was given, whatever the events are.
use Rattle.std.proofs.Common.{◌≡◌, ℕ, ◌+◌, ◌<◌, ◌≤◌, ◌==◌, Bool, true, false, ◌&&◌, not, List, [], ◌∷◌, ◌++◌, map, Option, Some, None, is_none, if◌then◌else◌, append-nil, ◌⊎◌, inl, inr, ⊎_elim, refl, sym, ◌∙◌, ap, subst, arith}
use Rattle.std.specs.Prelude.{filter, filter_map, option_map}
use Rattle.std.specs.List.{AllByRecursion, cons_option}
use Rattle.std.proofs.lemmas.Bool.{and_right, eqb-false, ne_eqb}
use Rattle.byte_orders.specs.Accesses.{Access, AreDistinct, AreTimed, IsOneOf}
use Rattle.byte_orders.specs.Exact.{AnswersAsWhole, HasRoom, IsExact, NeverCrowds}
use Rattle.byte_orders.specs.Holdings.{Holding, NoOrderExplains, all_holdings, anew, beginning, changed, cut_off, holding_of, is_open_of, may_be_told, settled_as, with_begun, with_change, with_reset, without}
use Rattle.byte_orders.specs.Keeping.{IsShortOf, NoneOlder}
use Rattle.byte_orders.specs.Runs.{AllMayCome, Event, IsBlamedInRuns, IsInFlight, MayCome, NoneBefore, Reads, Writes, Others, Tells, Gives, LeavesOut, TakesEffect, Fails, Ends, Resets, NoneOlderThan, Settles, Crowds, Run, changed_of, cut_short, first_run, ending, failing, giving, giving_nothing, reading, run_after, run_next, taking_effect, telling, with_changed, writing}
use Rattle.byte_orders.proofs.AsWhole.{told_as_whole}
use Rattle.byte_orders.proofs.Changes.{IsOwnChange, by_change, own_change, own_ended, own_failed, own_sure, own_value, reset_change, short_reset}
use Rattle.byte_orders.proofs.KeptExact.{exact_begun, exact_changed, exact_first, exact_pruned_at, exact_settled_as, exact_without}
use Rattle.byte_orders.proofs.KeptShort.{short_begun, short_first, short_later}
use Rattle.byte_orders.proofs.LastGivers.{holding_parts}
use Rattle.byte_orders.proofs.Members.{HasOne, all_of, from_append, from_filter_map, from_map}
use Rattle.byte_orders.proofs.ShorterLists.{same_tests, short_crowd, short_pruned_at, short_settled_as, short_without}
use Rattle.byte_orders.proofs.ShortLists.{short_rightly, still_told}

-- ---- the holdings of accesses that change

-- holdings of accesses that change, where each changes as its access does
mapped : (f : Access → Access) (g : Holding → Holding) → ((a : Access) → holding_of (f a) ≡ option_map g (holding_of a)) → (accesses : List Access)
    → filter_map holding_of (map f accesses) ≡ map g (filter_map holding_of accesses)
mapped f g same [] = refl
mapped f g same (a ∷ accesses) =
    ap (λ o. cons_option o (filter_map holding_of (map f accesses))) (same a) ∙ by_option_of (holding_of a) (mapped f g same accesses)
  where
    by_option_of : (o : Option Holding) → filter_map holding_of (map f accesses) ≡ map g (filter_map holding_of accesses)
        → cons_option (option_map g o) (filter_map holding_of (map f accesses)) ≡ map g (cons_option o (filter_map holding_of accesses))
    by_option_of None rest = rest
    by_option_of (Some h) rest = ap (λ hs. g h ∷ hs) rest

left_out : (f : Access → Access) (p : Holding → Bool)
    → ((a : Access) → (holding_of (f a) ≡ None) ⊎ (holding_of (f a) ≡ holding_of a))
    → ((a : Access) → holding_of (f a) ≡ None → (h : Holding) → holding_of a ≡ Some h → p h ≡ false)
    → ((a : Access) (h : Holding) → holding_of (f a) ≡ Some h → p h ≡ true)
    → (accesses : List Access) → filter_map holding_of (map f accesses) ≡ filter p (filter_map holding_of accesses)
left_out f p either gone kept [] = refl
left_out f p either gone kept (a ∷ accesses) =
    by_two (holding_of (f a)) (holding_of a) refl refl (either a) (left_out f p either gone kept accesses)
  where
    by_two : (new old : Option Holding) → holding_of (f a) ≡ new → holding_of a ≡ old → (holding_of (f a) ≡ None) ⊎ (holding_of (f a) ≡ holding_of a)
        → filter_map holding_of (map f accesses) ≡ filter p (filter_map holding_of accesses)
        → cons_option new (filter_map holding_of (map f accesses)) ≡ filter p (cons_option old (filter_map holding_of accesses))
    by_two None None is was case rest = rest
    by_two None (Some h) is was case rest = rw (gone a is h was) rest
    by_two (Some h) None is was case rest = absurd (⊎_elim (λ none. let bad : Some h ≡ None = sym is ∙ none in cc) (λ same. let bad : Some h ≡ None = sym is ∙ (same ∙ was) in cc) case)
    by_two (Some h) (Some o) is was case rest =
        let same : h ≡ o = ⊎_elim (λ none. let bad : Some h ≡ None = sym is ∙ none in absurd (cc)) (λ equal. let both : Some h ≡ Some o = sym is ∙ (equal ∙ was) in cc) case in
        let stays : p o ≡ true = ap p (sym same) ∙ kept a h is in
        rw (same, stays) (ap (λ hs. o ∷ hs) rest)

appended : (accesses : List Access) (a : Access) → filter_map holding_of (accesses ++ a ∷ []) ≡ filter_map holding_of accesses ++ cons_option (holding_of a) []
appended [] a = refl
appended (b ∷ accesses) a = by_option_of (holding_of b) (appended accesses a)
  where
    by_option_of : (o : Option Holding) → filter_map holding_of (accesses ++ a ∷ []) ≡ filter_map holding_of accesses ++ cons_option (holding_of a) []
        → cons_option o (filter_map holding_of (accesses ++ a ∷ [])) ≡ cons_option o (filter_map holding_of accesses) ++ cons_option (holding_of a) []
    by_option_of None rest = rest
    by_option_of (Some h) rest = ap (λ hs. h ∷ hs) rest

-- an access and its holding change alike, where what is changed of them is
changed_alike : (number : ℕ) (f : Access → Access) (g : Holding → Holding) → ((a : Access) → holding_of (f a) ≡ option_map g (holding_of a)) → (a : Access)
    → holding_of (changed_of number f a) ≡ option_map (changed number g) (holding_of a)
changed_alike number f g same a = by_gives a.gives refl
  where
    by_test : (b : Bool) → (a.begun == number && is_none a.ended) ≡ b → (h : Holding) → holding_of a ≡ Some h
        → holding_of (if b then f a else a) ≡ Some (changed number g h)
    by_test true passes h is =
        let parts = holding_parts a h is in
        let there : is_open_of number h ≡ true = rw (parts.alone, parts.begun, parts.over) passes in
        rw there (same a ∙ ap (option_map g) is)
    by_test false fails h is =
        let parts = holding_parts a h is in
        let there : is_open_of number h ≡ false = rw (parts.alone, parts.begun, parts.over) fails in
        rw there is

    none_stays : (b : Bool) → holding_of a ≡ None → holding_of (if b then f a else a) ≡ None
    none_stays true none = same a ∙ ap (option_map g) none
    none_stays false none = none

    by_gives : (o : Option (Option ℕ)) → a.gives ≡ o → holding_of (changed_of number f a) ≡ option_map (changed number g) (holding_of a)
    by_gives None none =
        let was : holding_of a ≡ None = rw none refl in
        rw was (none_stays (a.begun == number && is_none a.ended) was)
    by_gives (Some value) some =
        let was : holding_of a ≡ Some (record { value = value; begun = a.begun; over = a.ended; sure = a.sure; many = false }) = rw some refl in
        rw was (by_test (a.begun == number && is_none a.ended) refl (record { value = value; begun = a.begun; over = a.ended; sure = a.sure; many = false }) was)

-- ---- accesses that change

-- how an access may change when so many have begun: it keeps its beginning, and if it ends, it does so now
record IsStep (now : ℕ) (f : Access → Access) : Type 0 where
  pub begun : (a : Access) → (f a).begun ≡ a.begun
  pub ended : (a : Access) (time : ℕ) → (f a).ended ≡ Some time → (a.ended ≡ Some time) ⊎ (time ≡ now)
  pub live : (a : Access) → (f a).ended ≡ None → a.ended ≡ None

step_of : (now number : ℕ) (f : Access → Access) → IsStep now f → IsStep now (changed_of number f)
step_of now number f is =
    record {
      begun = λ a. begun a (a.begun == number && is_none a.ended);
      ended = λ a time. ended a time (a.begun == number && is_none a.ended);
      live = λ a. live a (a.begun == number && is_none a.ended);
    }
  where
    begun : (a : Access) (b : Bool) → (if b then f a else a).begun ≡ a.begun
    begun a true = is.begun a
    begun a false = refl

    ended : (a : Access) (time : ℕ) (b : Bool) → (if b then f a else a).ended ≡ Some time → (a.ended ≡ Some time) ⊎ (time ≡ now)
    ended a time true some = is.ended a time some
    ended a time false some = inl some

    live : (a : Access) (b : Bool) → (if b then f a else a).ended ≡ None → a.ended ≡ None
    live a true none = is.live a none
    live a false none = none

-- a step that keeps all of the times
kept_step : (now : ℕ) (f : Access → Access) → ((a : Access) → (f a).begun ≡ a.begun) → ((a : Access) → (f a).ended ≡ a.ended) → IsStep now f
kept_step now f begun ended = record {
  begun = begun;
  ended = λ a time some. inl (sym (ended a) ∙ some);
  live = λ a none. sym (ended a) ∙ none;
}

-- what is true of each run; and if its list never became a crowd it's exact
pub record Holds (room : Type 0) (start : Option ℕ) (run : Run) : Type 0 where
  pub timed : AreTimed run.accesses
  pub begun : (a : Access) → IsOneOf a run.accesses → a.begun ≤ run.now
  pub live : NoneBefore run.oldest run.accesses
  pub coming : run.oldest ≤ run.now + 1
  pub settled : ℕ
  pub short : IsShortOf run.oldest run.now settled (all_holdings start run.accesses) run.held
  pub exact : room → IsExact settled (all_holdings start run.accesses) run.held

module _ (now : ℕ) (f : Access → Access) (is : IsStep now f) where
  apart_from : (a : Access) (accesses : List Access) → AllByRecursion (λ b. (b.begun == a.begun) ≡ false) accesses
      → AllByRecursion (λ b. (b.begun == (f a).begun) ≡ false) (map f accesses)
  apart_from a [] all = tt
  apart_from a (b ∷ accesses) all = (rw (is.begun a, is.begun b) all.0, apart_from a accesses all.1)

  still_distinct : (accesses : List Access) → AreDistinct accesses → AreDistinct (map f accesses)
  still_distinct [] apart = tt
  still_distinct (a ∷ accesses) apart = (apart_from a accesses apart.0, still_distinct accesses apart.1)

  mapped_begun : (accesses : List Access) → ((a : Access) → IsOneOf a accesses → a.begun ≤ now) → (a : Access) → IsOneOf a (map f accesses) → a.begun ≤ now
  mapped_begun accesses begun a at =
      let from = from_map f a accesses at in
      subst (λ n. n ≤ now) (sym (ap (λ (b : Access). b.begun) from.holds ∙ is.begun from.one)) (begun from.one from.there)

  mapped_timed : (accesses : List Access) → ((a : Access) → IsOneOf a accesses → a.begun ≤ now) → AreTimed accesses → AreTimed (map f accesses)
  mapped_timed accesses begun timed = record {
    after_start = λ a at.
        let from = from_map f a accesses at in
        subst (λ n. 0 < n) (sym (ap (λ (b : Access). b.begun) from.holds ∙ is.begun from.one)) (timed.after_start from.one from.there);
    ends_later = λ a time at some.
        let from = from_map f a accesses at in
        let own : a.begun ≡ from.one.begun = ap (λ (b : Access). b.begun) from.holds ∙ is.begun from.one in
        subst (λ n. n ≤ time) (sym own)
        (⊎_elim (λ old. timed.ends_later from.one time from.there old) (λ new. subst (λ t. from.one.begun ≤ t) (sym new) (begun from.one from.there))
        (is.ended from.one time (ap (λ (b : Access). b.ended) (sym from.holds) ∙ some)));
    apart = still_distinct accesses timed.apart;
  }

  mapped_live : (oldest : ℕ) (accesses : List Access) → NoneBefore oldest accesses → NoneBefore oldest (map f accesses)
  mapped_live oldest accesses live a at none =
      let from = from_map f a accesses at in
      subst (λ n. oldest ≤ n) (sym (ap (λ (b : Access). b.begun) from.holds ∙ is.begun from.one))
      (live from.one from.there (is.live from.one (ap (λ (b : Access). b.ended) (sym from.holds) ∙ none)))

-- a run whose accesses have changed, and its list as they did
mapped_holds : (room : Type 0) (start : Option ℕ) (run : Run) (f : Access → Access) (held whole : List Holding) → IsStep run.now f
    → (holds : Holds room start run) → all_holdings start (map f run.accesses) ≡ whole → IsShortOf run.oldest run.now holds.settled whole held
    → (room → IsExact holds.settled whole held)
    → Holds room start (record run { accesses = map f run.accesses; held = held })
mapped_holds room start run f held whole is holds same short exact = record {
  timed = mapped_timed run.now f is run.accesses holds.begun holds.timed;
  begun = mapped_begun run.now f is run.accesses holds.begun;
  live = mapped_live run.now f is run.oldest run.accesses holds.live;
  coming = holds.coming;
  settled = holds.settled;
  short = subst (λ hs. IsShortOf run.oldest run.now holds.settled hs held) (sym same) short;
  exact = λ has. subst (λ hs. IsExact holds.settled hs held) (sym same) (exact has);
}

-- the beginning never changes
beginning_kept : (number : ℕ) (g : Holding → Holding) (start : Option ℕ) → changed number g (beginning start) ≡ beginning start
beginning_kept number g start =
    let closed : is_open_of number (beginning start) ≡ false = and_right (not false && 0 == number) false refl in
    rw closed refl

whole_changed : (number : ℕ) (f : Access → Access) (g : Holding → Holding) → ((a : Access) → holding_of (f a) ≡ option_map g (holding_of a))
    → (start : Option ℕ) (accesses : List Access) → all_holdings start (with_changed number f accesses) ≡ with_change number g (all_holdings start accesses)
whole_changed number f g same start accesses =
    ap (λ h. h ∷ filter_map holding_of (with_changed number f accesses)) (sym (beginning_kept number g start))
    ∙ ap (λ hs. changed number g (beginning start) ∷ hs) (mapped (changed_of number f) (changed number g) (changed_alike number f g same) accesses)

-- ---- each event

-- what an access gives changes, or what is said of it, and its holding with it
pub by_gives : (f : Access → Access) (g : Holding → Holding)
    → ((a : Access) → a.gives ≡ None → holding_of (f a) ≡ None)
    → ((a : Access) (value : Option ℕ) → a.gives ≡ Some value
    → holding_of (f a) ≡ Some (g (record { value = value; begun = a.begun; over = a.ended; sure = a.sure; many = false })))
    → (a : Access) → holding_of (f a) ≡ option_map g (holding_of a)
by_gives f g none some a = by_is a.gives refl
  where
    by_is : (o : Option (Option ℕ)) → a.gives ≡ o → holding_of (f a) ≡ option_map g (holding_of a)
    by_is None is = let was : holding_of a ≡ None = rw is refl in rw was (none a is)
    by_is (Some value) is =
        let was : holding_of a ≡ Some (record { value = value; begun = a.begun; over = a.ended; sure = a.sure; many = false }) = rw is refl in
        rw was (some a value is)

module _ (room : Type 0) (start : Option ℕ) (run : Run) (holds : Holds room start run) where
  abbrev whole : List Holding
  whole = all_holdings start run.accesses

  told_holds : (number byte : ℕ) → Holds room start (run_next run (Tells number byte))
  told_holds number byte =
      mapped_holds room start run (changed_of number (telling byte)) run.held whole
      (step_of run.now number (telling byte) (kept_step run.now (telling byte) (λ a. refl) (λ a. refl))) holds
      (ap (λ hs. beginning start ∷ hs) (mapped_same run.accesses)) holds.short holds.exact
    where
      same : (a : Access) (b : Bool) → holding_of (if b then telling byte a else a) ≡ holding_of a
      same a true = refl
      same a false = refl

      mapped_same : (accesses : List Access) → filter_map holding_of (with_changed number (telling byte) accesses) ≡ filter_map holding_of accesses
      mapped_same [] = refl
      mapped_same (a ∷ accesses) =
          ap (λ o. cons_option o (filter_map holding_of (with_changed number (telling byte) accesses))) (same a (a.begun == number && is_none a.ended))
          ∙ ap (λ hs. cons_option (holding_of a) hs) (mapped_same accesses)

  changed_holds : (number : ℕ) (f : Access → Access) (g : Holding → Holding) → IsStep run.now f
      → ((a : Access) → holding_of (f a) ≡ option_map g (holding_of a)) → IsOwnChange run.now g
      → Holds room start (record run { accesses = with_changed number f run.accesses; held = with_change number g run.held })
  changed_holds number f g is same own =
      mapped_holds room start run (changed_of number f) (with_change number g run.held) (with_change number g whole) (step_of run.now number f is) holds
      (whole_changed number f g same start run.accesses)
      (by_change run.oldest run.now holds.settled number whole run.held holds.short g own)
      (λ has. exact_changed run.now holds.settled whole run.held (changed number g) (own_change number run.now g own whole) (holds.exact has))

  gives_holds : (number : ℕ) (value : Option ℕ) → Holds room start (run_next run (Gives number value))
  gives_holds number value =
      changed_holds number (giving value) (λ h. record h { value = value }) (kept_step run.now (giving value) (λ a. refl) (λ a. refl))
      (by_gives (giving value) (λ h. record h { value = value }) (λ a is. rw is refl) (λ a old is. rw is refl)) (own_value run.now value)

  sure_holds : (number : ℕ) → Holds room start (run_next run (TakesEffect number))
  sure_holds number =
      changed_holds number taking_effect (λ h. record h { sure = true }) (kept_step run.now taking_effect (λ a. refl) (λ a. refl))
      (by_gives taking_effect (λ h. record h { sure = true }) (λ a is. rw is refl) (λ a old is. rw is refl)) (own_sure run.now)

  fails_holds : (number : ℕ) → Holds room start (run_next run (Fails number))
  fails_holds number =
      changed_holds number failing (λ h. record h { value = None; sure = false }) (kept_step run.now failing (λ a. refl) (λ a. refl))
      (by_gives failing (λ h. record h { value = None; sure = false }) (λ a is. rw is refl) (λ a old is. rw is refl)) (own_failed run.now)

  ends_holds : (number : ℕ) → Holds room start (run_next run (Ends number))
  ends_holds number =
      changed_holds number (ending run.now) (λ h. record h { over = Some run.now })
      (record { begun = λ a. refl; ended = λ a time some. inr (sym (let same : run.now ≡ time = cc in same)); live = λ a none. absurd (cc) })
      (by_gives (ending run.now) (λ h. record h { over = Some run.now }) (λ a is. rw is refl) (λ a old is. rw is refl)) (own_ended run.now)

  -- one that gives nothing more has no holding more
  out_holds : (number : ℕ) → Holds room start (run_next run (LeavesOut number))
  out_holds number =
      mapped_holds room start run (changed_of number giving_nothing) (without number run.held) (without number whole)
      (step_of run.now number giving_nothing (kept_step run.now giving_nothing (λ a. refl) (λ a. refl))) holds
      same_whole (short_without run.oldest run.now holds.settled number whole run.held holds.short)
      (λ has. exact_without run.oldest run.now holds.settled number whole run.held holds.short (holds.exact has))
    where
      either : (a : Access) (b : Bool) → (holding_of (if b then giving_nothing a else a) ≡ None) ⊎ (holding_of (if b then giving_nothing a else a) ≡ holding_of a)
      either a true = inl refl
      either a false = inr refl

      open_now : (a : Access) (h : Holding) → holding_of a ≡ Some h → is_open_of number h ≡ (a.begun == number && is_none a.ended)
      open_now a h is =
          let parts = holding_parts a h is in
          rw (parts.alone, parts.begun, parts.over) refl

      gone : (a : Access) (b : Bool) → (a.begun == number && is_none a.ended) ≡ b → holding_of (if b then giving_nothing a else a) ≡ None
          → (h : Holding) → holding_of a ≡ Some h → not (is_open_of number h) ≡ false
      gone a true is none h at = ap not (open_now a h at ∙ is)
      gone a false is none h at = let bad : Some h ≡ None = sym at ∙ none in absurd (cc)

      kept : (a : Access) (b : Bool) → (a.begun == number && is_none a.ended) ≡ b → (h : Holding)
          → holding_of (if b then giving_nothing a else a) ≡ Some h → not (is_open_of number h) ≡ true
      kept a true is h at = let bad : None ≡ Some h = at in absurd (cc)
      kept a false is h at = ap not (open_now a h at ∙ is)

      rest_left : filter_map holding_of (with_changed number giving_nothing run.accesses) ≡ filter (λ h. not (is_open_of number h)) (filter_map holding_of run.accesses)
      rest_left =
          left_out (changed_of number giving_nothing) (λ h. not (is_open_of number h)) (λ a. either a (a.begun == number && is_none a.ended))
          (λ a none h at. gone a (a.begun == number && is_none a.ended) refl none h at)
          (λ a h at. kept a (a.begun == number && is_none a.ended) refl h at) run.accesses

      same_whole : all_holdings start (with_changed number giving_nothing run.accesses) ≡ without number whole
      same_whole =
          let closed : is_open_of number (beginning start) ≡ false = and_right (not false && 0 == number) false refl in
          let stays : not (is_open_of number (beginning start)) ≡ true = ap not closed in
          rw stays (ap (λ hs. beginning start ∷ hs) rest_left)

  resets_holds : Holds room start (run_next run Resets)
  resets_holds =
      mapped_holds room start run (cut_short run.now) (with_reset run.now run.held) (with_reset run.now whole) step holds
      (ap (λ hs. beginning start ∷ hs) (mapped (cut_short run.now) (cut_off run.now) alike run.accesses))
      (short_reset run.oldest run.now holds.settled whole run.held holds.short)
      (λ has. exact_changed run.now holds.settled whole run.held (cut_off run.now) (reset_change run.now whole) (holds.exact has))
    where
      begun : (a : Access) (b : Bool) → (if b then record a { ended = Some run.now; sure = false } else a).begun ≡ a.begun
      begun a true = refl
      begun a false = refl

      ended : (a : Access) (time : ℕ) (b : Bool) → (if b then record a { ended = Some run.now; sure = false } else a).ended ≡ Some time
          → (a.ended ≡ Some time) ⊎ (time ≡ run.now)
      ended a time true some = inr (sym (let same : run.now ≡ time = cc in same))
      ended a time false some = inl some

      live : (a : Access) (b : Bool) → (if b then record a { ended = Some run.now; sure = false } else a).ended ≡ None → a.ended ≡ None
      live a true none = absurd (cc)
      live a false none = none

      step : IsStep run.now (cut_short run.now)
      step = record {
        begun = λ a. begun a (is_none a.ended);
        ended = λ a time. ended a time (is_none a.ended);
        live = λ a. live a (is_none a.ended);
      }

      by_test : (a : Access) (value : Option ℕ) (b : Bool) → a.gives ≡ Some value
          → holding_of (if b then record a { ended = Some run.now; sure = false } else a)
          ≡ Some (if b then record { value = value; begun = a.begun; over = Some run.now; sure = false; many = false }
          else record { value = value; begun = a.begun; over = a.ended; sure = a.sure; many = false })
      by_test a value true is = rw is refl
      by_test a value false is = rw is refl

      no_test : (a : Access) (b : Bool) → a.gives ≡ None → holding_of (if b then record a { ended = Some run.now; sure = false } else a) ≡ None
      no_test a true is = rw is refl
      no_test a false is = rw is refl

      alike : (a : Access) → holding_of (cut_short run.now a) ≡ option_map (cut_off run.now) (holding_of a)
      alike =
          by_gives (cut_short run.now) (cut_off run.now) (λ a is. no_test a (is_none a.ended) is) (λ a value is. by_test a value (is_none a.ended) is)

  -- ---- requests begin

  distinct_with : (number : ℕ) (accesses : List Access) (a : Access) → a.begun ≡ number → ((b : Access) → IsOneOf b accesses → b.begun < number)
      → AreDistinct accesses → AreDistinct (accesses ++ a ∷ [])
  distinct_with number [] a own below apart = (tt, tt)
  distinct_with number (b ∷ accesses) a own below apart =
      (all_with accesses apart.0, distinct_with number accesses a own (λ x at. below x (inr at)) apart.1)
    where
      all_with : (xs : List Access) → AllByRecursion (λ x. (x.begun == b.begun) ≡ false) xs → AllByRecursion (λ x. (x.begun == b.begun) ≡ false) (xs ++ a ∷ [])
      all_with [] all = (ne_eqb a.begun b.begun (λ same. omega (arith, same, own, below b (inl refl))), tt)
      all_with (x ∷ xs) all = (all.0, all_with xs all.1)

  begun_holds : (number : ℕ) (a : Access) (held : List Holding) → run.now < number → a.begun ≡ number → a.ended ≡ None
      → IsShortOf run.oldest number holds.settled (all_holdings start (run.accesses ++ a ∷ [])) held
      → (room → IsExact holds.settled (all_holdings start (run.accesses ++ a ∷ [])) held)
      → Holds room start (record run { now = number; accesses = run.accesses ++ a ∷ []; held = held })
  begun_holds number a held comes own live short exact =
      record {
        timed = record {
          after_start = λ b at. ⊎_elim (λ old. holds.timed.after_start b old) (λ last. subst (λ x. 0 < x.begun) (sym (is_last b last)) (omega (arith, comes, own))) (parts b at);
          ends_later = λ b time at some. ⊎_elim (λ old. holds.timed.ends_later b time old some)
              (λ last. let bad : None ≡ Some time = sym live ∙ (ap (λ (x : Access). x.ended) (sym (is_last b last)) ∙ some) in absurd (cc)) (parts b at);
          apart = distinct_with number run.accesses a own (λ b at. omega (arith, comes, holds.begun b at)) holds.timed.apart;
        };
        begun = λ b at. ⊎_elim (λ old. omega (arith, comes, holds.begun b old)) (λ last. subst (λ x. x.begun ≤ number) (sym (is_last b last)) (omega (arith, own))) (parts b at);
        live = λ b at none. ⊎_elim (λ old. holds.live b old none)
            (λ last. subst (λ x. run.oldest ≤ x.begun) (sym (is_last b last)) (omega (arith, comes, own, holds.coming))) (parts b at);
        coming = omega (arith, comes, holds.coming);
        settled = holds.settled;
        short = short;
        exact = exact;
      }
    where
      parts : (b : Access) → IsOneOf b (run.accesses ++ a ∷ []) → IsOneOf b run.accesses ⊎ IsOneOf b (a ∷ [])
      parts b at = from_append b run.accesses (a ∷ []) at

      is_last : (b : Access) → IsOneOf b (a ∷ []) → b ≡ a
      is_last b at = ⊎_elim (λ same. same) (λ none. absurd none) at

  reads_holds : (number : ℕ) → run.now < number → Holds room start (run_next run (Reads number))
  reads_holds number comes =
      let same : all_holdings start (run.accesses ++ reading number ∷ []) ≡ whole =
      ap (λ hs. beginning start ∷ hs) (appended run.accesses (reading number) ∙ append-nil (filter_map holding_of run.accesses)) in
      begun_holds number (reading number) run.held comes refl refl
      (subst (λ hs. IsShortOf run.oldest number holds.settled hs run.held) (sym same)
      (short_later run.oldest run.now number holds.settled whole run.held (omega (arith, comes)) holds.short))
      (λ has. subst (λ hs. IsExact holds.settled hs run.held) (sym same) (holds.exact has))

  writes_holds : (number : ℕ) → run.now < number → Holds room start (run_next run (Writes number))
  writes_holds number comes =
      let same : all_holdings start (run.accesses ++ writing number ∷ []) ≡ with_begun number whole =
      ap (λ hs. beginning start ∷ hs) (appended run.accesses (writing number)) in
      begun_holds number (writing number) (with_begun number run.held) comes refl refl
      (subst (λ hs. IsShortOf run.oldest number holds.settled hs (with_begun number run.held)) (sym same)
      (short_begun run.oldest run.now number holds.settled whole run.held comes holds.short))
      (λ has. subst (λ hs. IsExact holds.settled hs (with_begun number run.held)) (sym same)
      (exact_begun holds.settled number whole run.held (omega (arith, comes, holds.short.settled_past)) (holds.exact has)))

  others_holds : (number : ℕ) → run.now < number → Holds room start (run_next run (Others number))
  others_holds number comes = record {
    timed = holds.timed;
    begun = λ a at. omega (arith, comes, holds.begun a at);
    live = holds.live;
    coming = omega (arith, comes, holds.coming);
    settled = holds.settled;
    short = short_later run.oldest run.now number holds.settled whole run.held (omega (arith, comes)) holds.short;
    exact = holds.exact;
  }

  none_older : (number : ℕ) → NoneBefore number run.accesses → NoneOlder number whole
  none_older number none w at over =
      ⊎_elim (λ same. let bad : Some 0 ≡ None = ap (λ (x : Holding). x.over) (sym same) ∙ over in absurd (cc)) (λ later. by_access (from_filter_map holding_of w run.accesses later)) at
    where
      by_access : HasOne (λ a. holding_of a ≡ Some w) run.accesses → number ≤ w.begun
      by_access found =
          let parts = holding_parts found.one w found.holds in
          subst (λ n. number ≤ n) (sym parts.begun) (none found.one found.there (sym parts.over ∙ over))

  oldest_holds : (number : ℕ) → (run.oldest ≤ number) × (number ≤ run.now + 1) × NoneBefore number run.accesses → Holds room start (run_next run (NoneOlderThan number))
  oldest_holds number given = record {
    timed = holds.timed;
    begun = holds.begun;
    live = given.2;
    coming = given.1;
    settled = holds.settled;
    short = short_pruned_at run.oldest number run.now holds.settled whole run.held given.0 (none_older number given.2) holds.short;
    exact = λ has. exact_pruned_at run.oldest number run.now holds.settled whole run.held holds.short (holds.exact has);
  }

  settles_holds : Holds room start (run_next run Settles)
  settles_holds = by_value (settled_as run.held) refl
    where
      by_value : (value : Option (Option ℕ)) → settled_as run.held ≡ value → Holds room start (record run { held = anew value run.held })
      by_value None none = holds
      by_value (Some value) is = record {
        timed = holds.timed;
        begun = holds.begun;
        live = holds.live;
        coming = holds.coming;
        settled = run.now;
        short = short_settled_as run.oldest run.now holds.settled whole run.held value is holds.short;
        exact = λ has. exact_settled_as run.oldest run.now holds.settled whole run.held value is holds.short (holds.exact has);
      }

  crowds_holds : (room → ⊥) → Holds room start (run_next run Crowds)
  crowds_holds none = record {
    timed = holds.timed;
    begun = holds.begun;
    live = holds.live;
    coming = holds.coming;
    settled = holds.settled;
    short = short_crowd run.oldest run.now holds.settled whole run.held holds.short;
    exact = λ has. absurd (none has);
  }

  pub next_holds : (event : Event) → MayCome run event → (room → HasRoom event) → Holds room start (run_next run event)
  next_holds (Reads number) may has = reads_holds number may
  next_holds (Writes number) may has = writes_holds number may
  next_holds (Others number) may has = others_holds number may
  next_holds (Tells number byte) may has = told_holds number byte
  next_holds (Gives number value) may has = gives_holds number value
  next_holds (LeavesOut number) may has = out_holds number
  next_holds (TakesEffect number) may has = sure_holds number
  next_holds (Fails number) may has = fails_holds number
  next_holds (Ends number) may has = ends_holds number
  next_holds Resets may has = resets_holds
  next_holds (NoneOlderThan number) may has = oldest_holds number may
  next_holds Settles may has = settles_holds
  next_holds Crowds may has = crowds_holds has

  blames_rightly : (number byte : ℕ) → IsInFlight number run.accesses → may_be_told run.held number byte ≡ false
      → NoOrderExplains start run.accesses number byte
  blames_rightly number byte flight none =
      short_rightly run.held number byte none run.oldest run.now holds.settled start run.accesses holds.timed (flight.one, flight.there, flight.begun)
      (subst (λ n. run.oldest ≤ n) flight.begun (holds.live flight.one flight.there flight.live)) holds.short

pub first_holds : (room : Type 0) (start : Option ℕ) → Holds room start (first_run start)
first_holds room start = record {
  timed = record { after_start = λ a at. absurd at; ends_later = λ a time at. absurd at; apart = tt };
  begun = λ a at. absurd at;
  live = λ a at. absurd at;
  coming = omega arith;
  settled = 0;
  short = short_first start;
  exact = λ has. exact_first start;
}

pub after_holds : (room : Type 0) (start : Option ℕ) (run : Run) (events : List Event) → AllMayCome run events → (room → NeverCrowds events)
    → Holds room start run → Holds room start (run_after run events)
after_holds room start run [] may has holds = holds
after_holds room start run (event ∷ events) may has holds =
    after_holds room start (run_next run event) events may.1 (λ never. (has never).1)
    (next_holds room start run holds event may.0 (λ never. (has never).0))

-- each run blames rightly, whatever was seen
pub runs_rightly : (held : List Holding) (number byte : ℕ) → may_be_told held number byte ≡ false → IsBlamedInRuns held number byte
runs_rightly held number byte none start events may same flight =
    let run = run_after (first_run start) events in
    blames_rightly ⊥ start run (after_holds ⊥ start (first_run start) events may (λ never. absurd never) (first_holds ⊥ start)) number byte flight
    (ap (λ hs. may_be_told hs number byte) (sym same) ∙ none)

-- ---- and where its list never became a crowd it tells just what all that was given does

-- two accesses that began at one number are one
same_access : (accesses : List Access) (a b : Access) → AreDistinct accesses → IsOneOf a accesses → IsOneOf b accesses → a.begun ≡ b.begun → a ≡ b
same_access [] a b apart first second same = absurd first
same_access (x ∷ accesses) a b apart first second same =
    by_both first second (λ here there. same_access accesses a b apart.1 here there same)
  where
    never : (y z : Access) → y ≡ x → IsOneOf z accesses → y.begun ≡ z.begun → ⊥
    never y z own there equal =
        eqb-false z.begun x.begun (all_of (λ o. (o.begun == x.begun) ≡ false) z accesses apart.0 there) (sym equal ∙ ap (λ (o : Access). o.begun) own)

    by_both : (a ≡ x) ⊎ IsOneOf a accesses → (b ≡ x) ⊎ IsOneOf b accesses → (IsOneOf a accesses → IsOneOf b accesses → a ≡ b) → a ≡ b
    by_both one two deeper =
        ⊎_elim (λ mine. ⊎_elim (λ other. mine ∙ sym other) (λ later. absurd (never a b mine later same)) two)
        (λ here. ⊎_elim (λ other. absurd (never b a other here (sym same))) (λ later. deeper here later) two) one

module _ (start : Option ℕ) (events : List Event) (may : AllMayCome (first_run start) events) (has : NeverCrowds events)
    (number byte : ℕ) (flight : IsInFlight number (run_after (first_run start) events).accesses) where
  abbrev final : Run
  final = run_after (first_run start) events

  abbrev all : List Holding
  all = all_holdings start final.accesses

  final_holds : Holds (NeverCrowds events) start final
  final_holds = after_holds (NeverCrowds events) start (first_run start) events may (λ never. never) (first_holds (NeverCrowds events) start)

  late : final.oldest ≤ number
  late = subst (λ n. final.oldest ≤ n) flight.begun (final_holds.live flight.one flight.there flight.live)

  positive : 0 < number
  positive = subst (λ n. 0 < n) flight.begun (final_holds.timed.after_start flight.one flight.there)

  -- its own holding isn't over
  own_live : (w : Holding) → IsOneOf w all → w.begun ≡ number → w.over ≡ None
  own_live w at own =
      ⊎_elim (λ first. let zero_first : w.begun ≡ 0 = ap (λ (x : Holding). x.begun) first in absurd (omega (arith, zero_first, own, positive)))
      (λ later. by_access (from_filter_map holding_of w final.accesses later)) at
    where
      by_access : HasOne (λ a. holding_of a ≡ Some w) final.accesses → w.over ≡ None
      by_access found =
          let parts = holding_parts found.one w found.holds in
          let same = same_access final.accesses found.one flight.one final_holds.timed.apart found.there flight.there (sym parts.begun ∙ (own ∙ sym flight.begun)) in
          parts.over ∙ (ap (λ (a : Access). a.ended) same ∙ flight.live)

  one_as_whole : may_be_told final.held number byte ≡ may_be_told all number byte
  one_as_whole =
      same_tests (may_be_told final.held number byte) (may_be_told all number byte)
      (told_as_whole final.oldest final.now final_holds.settled all final.held final_holds.short (final_holds.exact has) number byte late own_live)
      (still_told final.oldest final.now final_holds.settled all final.held final_holds.short number byte positive late)

pub as_whole : (held : List Holding) (number byte : ℕ) → AnswersAsWhole held number byte
as_whole held number byte start events may has same flight = ap (λ hs. may_be_told hs number byte) same ∙ one_as_whole start events may has number byte flight
