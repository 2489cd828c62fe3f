-- Events of one request: how they change its access, and that they leave the list as it is where they leave what its access gives as that is. So where a request
-- gives nothing to a byte, or is no access of it, what becomes of it changes nothing there.
use Rattle.std.proofs.Common.{◌≡◌, ℕ, ◌==◌, Bool, true, false, ◌&&◌, not, List, [], ◌∷◌, map, Option, Some, None, is_none, if◌then◌else◌, inl, inr, ⊎_elim, refl, sym, ◌∙◌, ap, subst}
use Rattle.std.specs.Prelude.{⊤, option_map}
use Rattle.std.specs.List.{AllByRecursion}
use Rattle.std.proofs.lemmas.Bool.{and_parts, both_ways, eqb-true}
use Rattle.byte_orders.specs.Accesses.{Access, IsOneOf}
use Rattle.byte_orders.specs.Exact.{HasRoom}
use Rattle.byte_orders.specs.Holdings.{Holding, all_holdings, beginning, changed, holding_of, is_open_of, with_change, without}
use Rattle.byte_orders.specs.Keeping.{IsCrowd, IsKept}
use Rattle.byte_orders.specs.Runs.{AllMayCome, Event, MayCome, Tells, Gives, LeavesOut, TakesEffect, Fails, Ends, Run, changed_of, ending, failing, first_run, giving, giving_nothing, run_after, run_next, taking_effect, telling, with_changed}
use Rattle.byte_orders.proofs.LastGivers.{holding_parts}
use Rattle.byte_orders.proofs.Members.{HasOne, from_filter_map, from_map}
use Rattle.byte_orders.proofs.RunsRightly.{Holds, after_holds, by_gives, first_holds, next_holds}

-- ---- the change of an access

-- that an event is of the request that began at a number
abbrev pub IsOf : ℕ → Event → Type 0
IsOf number (Tells other byte) = other ≡ number
IsOf number (Gives other value) = other ≡ number
IsOf number (LeavesOut other) = other ≡ number
IsOf number (TakesEffect other) = other ≡ number
IsOf number (Fails other) = other ≡ number
IsOf number (Ends other) = other ≡ number
IsOf number event = ⊥

-- how it changes the access of that, when so many have begun
abbrev pub change_by : ℕ → Event → Access → Access
change_by now (Tells number byte) a = telling byte a
change_by now (Gives number value) a = giving value a
change_by now (LeavesOut number) a = giving_nothing a
change_by now (TakesEffect number) a = taking_effect a
change_by now (Fails number) a = failing a
change_by now (Ends number) a = ending now a
change_by now event a = a

pub accesses_next : (number : ℕ) (run : Run) (event : Event) → IsOf number event
    → (run_next run event).accesses ≡ with_changed number (change_by run.now event) run.accesses
accesses_next number run (Tells other byte) of = ap (λ n. with_changed n (telling byte) run.accesses) of
accesses_next number run (Gives other value) of = ap (λ n. with_changed n (giving value) run.accesses) of
accesses_next number run (LeavesOut other) of = ap (λ n. with_changed n giving_nothing run.accesses) of
accesses_next number run (TakesEffect other) of = ap (λ n. with_changed n taking_effect run.accesses) of
accesses_next number run (Fails other) of = ap (λ n. with_changed n failing run.accesses) of
accesses_next number run (Ends other) of = ap (λ n. with_changed n (ending run.now) run.accesses) of
accesses_next number run event of = absurd of

-- no request begins with it, and it may come at any time
pub now_next : (number : ℕ) (run : Run) (event : Event) → IsOf number event → (run_next run event).now ≡ run.now
now_next number run (Tells other byte) of = refl
now_next number run (Gives other value) of = refl
now_next number run (LeavesOut other) of = refl
now_next number run (TakesEffect other) of = refl
now_next number run (Fails other) of = refl
now_next number run (Ends other) of = refl
now_next number run event of = absurd of

pub oldest_next : (number : ℕ) (run : Run) (event : Event) → IsOf number event → (run_next run event).oldest ≡ run.oldest
oldest_next number run (Tells other byte) of = refl
oldest_next number run (Gives other value) of = refl
oldest_next number run (LeavesOut other) of = refl
oldest_next number run (TakesEffect other) of = refl
oldest_next number run (Fails other) of = refl
oldest_next number run (Ends other) of = refl
oldest_next number run event of = absurd of

pub may_next : (number : ℕ) (run : Run) (event : Event) → IsOf number event → MayCome run event
may_next number run (Tells other byte) of = tt
may_next number run (Gives other value) of = tt
may_next number run (LeavesOut other) of = tt
may_next number run (TakesEffect other) of = tt
may_next number run (Fails other) of = tt
may_next number run (Ends other) of = tt
may_next number run event of = absurd of

-- ---- an access and its holding change alike

alike_value : (value : Option ℕ) (a : Access) → holding_of (giving value a) ≡ option_map (λ (h : Holding). record h { value = value }) (holding_of a)
alike_value value = by_gives (giving value) (λ h. record h { value = value }) (λ a is. rw is refl) (λ a old is. rw is refl)

alike_sure : (a : Access) → holding_of (taking_effect a) ≡ option_map (λ (h : Holding). record h { sure = true }) (holding_of a)
alike_sure = by_gives taking_effect (λ h. record h { sure = true }) (λ a is. rw is refl) (λ a old is. rw is refl)

alike_failed : (a : Access) → holding_of (failing a) ≡ option_map (λ (h : Holding). record h { value = None; sure = false }) (holding_of a)
alike_failed = by_gives failing (λ h. record h { value = None; sure = false }) (λ a is. rw is refl) (λ a old is. rw is refl)

alike_ended : (now : ℕ) (a : Access) → holding_of (ending now a) ≡ option_map (λ (h : Holding). record h { over = Some now }) (holding_of a)
alike_ended now = by_gives (ending now) (λ h. record h { over = Some now }) (λ a is. rw is refl) (λ a old is. rw is refl)

-- ---- what is held of a request that hasn't ended

-- an access that hasn't ended, of a request by its number
pub record IsOpenAt (number : ℕ) (a : Access) : Type 0 where
  pub begun : a.begun ≡ number
  pub live : a.ended ≡ None

-- one of a list so
abbrev pub IsOpenIn : ℕ → List Access → Access → Type 0
IsOpenIn number accesses a = IsOneOf a accesses × IsOpenAt number a

-- what is held of one that hasn't ended is what its access gives
record IsHoldingThere (number : ℕ) (accesses : List Access) (h : Holding) : Type 0 where
  one : Access
  there : IsOpenIn number accesses one
  holds : holding_of one ≡ Some h

-- the holding of one that hasn't ended
record IsOpenHolding (number : ℕ) (h : Holding) : Type 0 where
  alone : not h.many ≡ true
  begun : h.begun ≡ number
  over : is_none h.over ≡ true

open_parts : (number : ℕ) (h : Holding) → is_open_of number h ≡ true → IsOpenHolding number h
open_parts number h is =
    let both = and_parts (not h.many && h.begun == number) (is_none h.over) is in
    let own = and_parts (not h.many) (h.begun == number) both.0 in
    record { alone = own.0; begun = eqb-true h.begun number own.1; over = both.1 }

none_over : (o : Option ℕ) → is_none o ≡ true → o ≡ None
none_over None is = refl
none_over (Some time) is = absurd (cc (is))

module _ (room : Type 0) (start : Option ℕ) (run : Run) (holds : Holds room start run) (number : ℕ) where
  held_open : (h : Holding) → IsOneOf h run.held → is_open_of number h ≡ true → IsHoldingThere number run.accesses h
  held_open h at is =
      ⊎_elim (λ first. absurd (not_first (beginning h.value) first refl))
      (λ other. ⊎_elim (λ (kept : IsKept holds.settled (all_holdings start run.accesses) h). by_kept kept.there)
      (λ (crowd : IsCrowd run.now h). absurd (both_ways (not h.many) (ap not crowd.many) own.alone)) other) (holds.short.from h at)
    where
      own : IsOpenHolding number h
      own = open_parts number h is

      not_first : (o : Holding) → h ≡ o → is_none o.over ≡ false → ⊥
      not_first o first over = both_ways (is_none h.over) (ap (λ (x : Holding). is_none x.over) first ∙ over) own.over

      by_access : HasOne (λ a. holding_of a ≡ Some h) run.accesses → IsHoldingThere number run.accesses h
      by_access found =
          let parts = holding_parts found.one h found.holds in
          record {
            one = found.one;
            there = (found.there, record { begun = sym parts.begun ∙ own.begun; live = sym parts.over ∙ none_over h.over own.over });
            holds = found.holds;
          }

      by_kept : IsOneOf h (all_holdings start run.accesses) → IsHoldingThere number run.accesses h
      by_kept there = ⊎_elim (λ first. absurd (not_first (beginning start) first refl)) (λ later. by_access (from_filter_map holding_of h run.accesses later)) there

  -- ---- an event that leaves what its access gives as it is

  -- a change leaves what is given by one that hasn't ended as it is
  abbrev pub LeavesGiven : (Access → Access) → Type 0
  LeavesGiven f = (a : Access) → IsOpenIn number run.accesses a → holding_of (f a) ≡ holding_of a

  same_open : (f : Access → Access) (g : Holding → Holding) → ((a : Access) → holding_of (f a) ≡ option_map g (holding_of a)) → LeavesGiven f
      → (h : Holding) → IsOneOf h run.held → changed number g h ≡ h
  same_open f g alike leaves h at = by_test (is_open_of number h) refl
    where
      by_test : (b : Bool) → is_open_of number h ≡ b → (if b then g h else h) ≡ h
      by_test false is = refl
      by_test true is =
          let found = held_open h at is in
          let own : option_map g (holding_of found.one) ≡ Some (g h) = ap (option_map g) found.holds in
          let both : Some (g h) ≡ Some h = sym own ∙ (sym (alike found.one) ∙ (leaves found.one found.there ∙ found.holds)) in
          cc (both)

  same_map : (g : Holding → Holding) (hs : List Holding) → ((h : Holding) → IsOneOf h hs → changed number g h ≡ h) → with_change number g hs ≡ hs
  same_map g [] same = refl
  same_map g (h ∷ hs) same = cc (same h (inl refl), same_map g hs (λ o at. same o (inr at)))

  same_change : (f : Access → Access) (g : Holding → Holding) → ((a : Access) → holding_of (f a) ≡ option_map g (holding_of a)) → LeavesGiven f
      → with_change number g run.held ≡ run.held
  same_change f g alike leaves = same_map g run.held (same_open f g alike leaves)

  none_open : LeavesGiven giving_nothing → (h : Holding) → IsOneOf h run.held → is_open_of number h ≡ false
  none_open leaves h at = by_test (is_open_of number h) refl
    where
      by_test : (b : Bool) → is_open_of number h ≡ b → b ≡ false
      by_test false is = refl
      by_test true is =
          let found = held_open h at is in
          let bad : Some h ≡ None = sym found.holds ∙ sym (leaves found.one found.there) in
          absurd (cc (bad))

  all_stay : (hs : List Holding) → ((h : Holding) → IsOneOf h hs → is_open_of number h ≡ false) → without number hs ≡ hs
  all_stay [] none = refl
  all_stay (h ∷ hs) none =
      let stays : not (is_open_of number h) ≡ true = ap not (none h (inl refl)) in
      rw stays (ap (λ (rest : List Holding). h ∷ rest) (all_stay hs (λ o at. none o (inr at))))

  -- the list stays with each event that leaves what its access gives as it is; and with one that tells a byte
  pub same_held : (event : Event) → IsOf number event → LeavesGiven (change_by run.now event) → (run_next run event).held ≡ run.held
  same_held (Tells other byte) of leaves = refl
  same_held (Gives other value) of leaves =
      ap (λ n. with_change n (λ h. record h { value = value }) run.held) of ∙ same_change (giving value) (λ h. record h { value = value }) (alike_value value) leaves
  same_held (LeavesOut other) of leaves = ap (λ n. without n run.held) of ∙ all_stay run.held (none_open leaves)
  same_held (TakesEffect other) of leaves =
      ap (λ n. with_change n (λ h. record h { sure = true }) run.held) of ∙ same_change taking_effect (λ h. record h { sure = true }) alike_sure leaves
  same_held (Fails other) of leaves =
      ap (λ n. with_change n (λ h. record h { value = None; sure = false }) run.held) of ∙ same_change failing (λ h. record h { value = None; sure = false }) alike_failed leaves
  same_held (Ends other) of leaves =
      ap (λ n. with_change n (λ h. record h { over = Some run.now }) run.held) of ∙ same_change (ending run.now) (λ h. record h { over = Some run.now }) (alike_ended run.now) leaves
  same_held event of leaves = absurd of

-- ---- a request that gives nothing to the byte

-- what hasn't ended of it gives nothing, or there is nothing of it
abbrev pub IsSilent : ℕ → List Access → Type 0
IsSilent number accesses = (a : Access) → IsOpenIn number accesses a → a.gives ≡ None

-- an event that leaves the list as it is: one that tells a byte, or one of such a request
abbrev pub IsQuiet : List Access → Event → Type 0
IsQuiet accesses (Tells number byte) = ⊤
IsQuiet accesses (Gives number value) = IsSilent number accesses
IsQuiet accesses (LeavesOut number) = IsSilent number accesses
IsQuiet accesses (TakesEffect number) = IsSilent number accesses
IsQuiet accesses (Fails number) = IsSilent number accesses
IsQuiet accesses (Ends number) = IsSilent number accesses
IsQuiet accesses event = ⊥

-- how an access changes with an event: it gives nothing where it gave nothing
record IsMild (f : Access → Access) : Type 0 where
  begun : (a : Access) → (f a).begun ≡ a.begun
  live : (a : Access) → (f a).ended ≡ None → a.ended ≡ None
  gives : (a : Access) → a.gives ≡ None → (f a).gives ≡ None

mild_by : (now : ℕ) (event : Event) → IsMild (change_by now event)
mild_by now (Tells number byte) = record { begun = λ a. refl; live = λ a none. none; gives = λ a none. none }
mild_by now (Gives number value) = record { begun = λ a. refl; live = λ a none. none; gives = λ a none. rw none refl }
mild_by now (LeavesOut number) = record { begun = λ a. refl; live = λ a none. none; gives = λ a none. refl }
mild_by now (TakesEffect number) = record { begun = λ a. refl; live = λ a none. none; gives = λ a none. none }
mild_by now (Fails number) = record { begun = λ a. refl; live = λ a none. none; gives = λ a none. rw none refl }
mild_by now (Ends number) = record { begun = λ a. refl; live = λ a none. let bad : Some now ≡ None = none in absurd (cc (bad)); gives = λ a none. none }
mild_by now event = record { begun = λ a. refl; live = λ a none. none; gives = λ a none. none }

mild_of : (number : ℕ) (f : Access → Access) → IsMild f → IsMild (changed_of number f)
mild_of number f is =
    record {
      begun = λ a. by_begun a (a.begun == number && is_none a.ended);
      live = λ a. by_live a (a.begun == number && is_none a.ended);
      gives = λ a. by_gives_test a (a.begun == number && is_none a.ended);
    }
  where
    by_begun : (a : Access) (b : Bool) → (if b then f a else a).begun ≡ a.begun
    by_begun a true = is.begun a
    by_begun a false = refl

    by_live : (a : Access) (b : Bool) → (if b then f a else a).ended ≡ None → a.ended ≡ None
    by_live a true none = is.live a none
    by_live a false none = none

    by_gives_test : (a : Access) (b : Bool) → a.gives ≡ None → (if b then f a else a).gives ≡ None
    by_gives_test a true none = is.gives a none
    by_gives_test a false none = none

silent_map : (number : ℕ) (f : Access → Access) (accesses : List Access) → IsMild f → IsSilent number accesses → IsSilent number (map f accesses)
silent_map number f accesses is silent a at =
    let from = from_map f a accesses at.0 in
    let begun : from.one.begun ≡ number = sym (ap (λ (b : Access). b.begun) from.holds ∙ is.begun from.one) ∙ at.1.begun in
    let live : from.one.ended ≡ None = is.live from.one (sym (ap (λ (b : Access). b.ended) from.holds) ∙ at.1.live) in
    ap (λ (b : Access). b.gives) from.holds ∙ is.gives from.one (silent from.one (from.there, record { begun = begun; live = live }))

-- with any event of a request one that gives nothing goes on so
pub silent_next : (number other : ℕ) (run : Run) (event : Event) → IsOf other event → IsSilent number run.accesses → IsSilent number (run_next run event).accesses
silent_next number other run event of silent =
    subst (IsSilent number) (sym (accesses_next other run event of))
    (silent_map number (changed_of other (change_by run.now event)) run.accesses (mild_of other (change_by run.now event) (mild_by run.now event)) silent)

-- ---- one quiet event, and many

-- the request that a quiet one is of
pub quiet_of : (accesses : List Access) (event : Event) → IsQuiet accesses event → (number : ℕ) × IsOf number event
quiet_of accesses (Tells number byte) quiet = (number, refl)
quiet_of accesses (Gives number value) quiet = (number, refl)
quiet_of accesses (LeavesOut number) quiet = (number, refl)
quiet_of accesses (TakesEffect number) quiet = (number, refl)
quiet_of accesses (Fails number) quiet = (number, refl)
quiet_of accesses (Ends number) quiet = (number, refl)
quiet_of accesses event quiet = absurd quiet

-- there always is room for it
quiet_room : (event : Event) (accesses : List Access) → IsQuiet accesses event → HasRoom event
quiet_room (Tells number byte) accesses quiet = tt
quiet_room (Gives number value) accesses quiet = tt
quiet_room (LeavesOut number) accesses quiet = tt
quiet_room (TakesEffect number) accesses quiet = tt
quiet_room (Fails number) accesses quiet = tt
quiet_room (Ends number) accesses quiet = tt
quiet_room event accesses quiet = absurd quiet

given_none : (now : ℕ) (event : Event) (a : Access) → a.gives ≡ None → holding_of (change_by now event a) ≡ holding_of a
given_none now event a none =
    let after = (mild_by now event).gives a none in
    let own : holding_of a ≡ None = rw none refl in
    let next : holding_of (change_by now event a) ≡ None = rw after refl in
    next ∙ sym own

-- a run that goes on by some events has the list that it had
pub record IsStill (old : Run) (events : List Event) : Type 0 where
  pub may_come : AllMayCome old events
  pub held : (run_after old events).held ≡ old.held
  pub now : (run_after old events).now ≡ old.now
  pub oldest : (run_after old events).oldest ≡ old.oldest

module _ (room : Type 0) (start : Option ℕ) where
  quiet_held : (run : Run) → Holds room start run → (event : Event) → IsQuiet run.accesses event → (run_next run event).held ≡ run.held
  quiet_held run holds (Tells number byte) quiet = refl
  quiet_held run holds (Gives number value) quiet =
      same_held room start run holds number (Gives number value) refl (λ a at. given_none run.now (Gives number value) a (quiet a at))
  quiet_held run holds (LeavesOut number) quiet =
      same_held room start run holds number (LeavesOut number) refl (λ a at. given_none run.now (LeavesOut number) a (quiet a at))
  quiet_held run holds (TakesEffect number) quiet =
      same_held room start run holds number (TakesEffect number) refl (λ a at. given_none run.now (TakesEffect number) a (quiet a at))
  quiet_held run holds (Fails number) quiet =
      same_held room start run holds number (Fails number) refl (λ a at. given_none run.now (Fails number) a (quiet a at))
  quiet_held run holds (Ends number) quiet =
      same_held room start run holds number (Ends number) refl (λ a at. given_none run.now (Ends number) a (quiet a at))
  quiet_held run holds event quiet = absurd quiet

  -- what is quiet stays so with another event of a request
  pub quiet_next : (run : Run) (other : ℕ) (first event : Event) → IsOf other first → IsQuiet run.accesses event → IsQuiet (run_next run first).accesses event
  quiet_next run other first (Tells number byte) of quiet = tt
  quiet_next run other first (Gives number value) of quiet = silent_next number other run first of quiet
  quiet_next run other first (LeavesOut number) of quiet = silent_next number other run first of quiet
  quiet_next run other first (TakesEffect number) of quiet = silent_next number other run first of quiet
  quiet_next run other first (Fails number) of quiet = silent_next number other run first of quiet
  quiet_next run other first (Ends number) of quiet = silent_next number other run first of quiet
  quiet_next run other first event of quiet = absurd quiet

  pub all_quiet_next : (run : Run) (other : ℕ) (first : Event) (events : List Event) → IsOf other first → AllByRecursion (IsQuiet run.accesses) events
      → AllByRecursion (IsQuiet (run_next run first).accesses) events
  all_quiet_next run other first [] of quiet = tt
  all_quiet_next run other first (event ∷ events) of quiet = (quiet_next run other first event of quiet.0, all_quiet_next run other first events of quiet.1)

  pub quiet_after : (run : Run) (events : List Event) → Holds room start run → AllByRecursion (IsQuiet run.accesses) events → IsStill run events
  quiet_after run [] holds quiet = record { may_come = tt; held = refl; now = refl; oldest = refl }
  quiet_after run (event ∷ events) holds quiet =
      let of = quiet_of run.accesses event quiet.0 in
      let may = may_next of.0 run event of.1 in
      let next = next_holds room start run holds event may (λ has. quiet_room event run.accesses quiet.0) in
      let rest = quiet_after (run_next run event) events next (all_quiet_next run of.0 event events of.1 quiet.1) in
      record {
        may_come = (may, rest.may_come);
        held = rest.held ∙ quiet_held run holds event quiet.0;
        now = rest.now ∙ now_next of.0 run event of.1;
        oldest = rest.oldest ∙ oldest_next of.0 run event of.1;
      }

-- what holds of each run
pub holds_in : (start : Option ℕ) (before : List Event) → AllMayCome (first_run start) before → Holds ⊥ start (run_after (first_run start) before)
holds_in start before may = after_holds ⊥ start (first_run start) before may (λ never. absurd never) (first_holds ⊥ start)

-- along any run: what tells bytes, and what becomes of requests that give nothing to the byte, leaves its list as it is
pub quiet_in : (start : Option ℕ) (before events : List Event) → AllMayCome (first_run start) before
    → AllByRecursion (IsQuiet (run_after (first_run start) before).accesses) events → IsStill (run_after (first_run start) before) events
quiet_in start before events may quiet =
    quiet_after ⊥ start (run_after (first_run start) before) events (holds_in start before may) quiet
