-- What a memory is told of one request beside what became of it: the same, where the byte is one that it may give; else any events of it, and its end with that. So a
-- request begins, and is whole, with beats on channel A; and what a reply tells, makes and ends, with one on channel D.
use Rattle.std.proofs.Common.{◌≡◌, ℕ, ◌+◌, ◌==◌, Bool, true, false, ◌&&◌, List, [], ◌∷◌, ◌++◌, Option, Some, None, is_none, if◌then◌else◌, append-nil, refl, sym, ◌∙◌, ap, subst}
use Rattle.std.specs.Prelude.{option_map}
use Rattle.std.specs.List.{AllByRecursion}
use Rattle.byte_orders.specs.Accesses.{Access}
use Rattle.byte_orders.specs.Runs.{Event, Reads, Writes, Tells, LeavesOut, Ends, changed_of, telling}
use Rattle.byte_orders.proofs.Leading.{AllOf}
use Rattle.byte_orders.proofs.Members.{from_map}
use Rattle.byte_orders.proofs.QuietEvents.{IsSilent}
use Rattle.setups.specs.Setups.{SetupLists}
use Rattle.scoreboard.specs.declared.Errors.{Errors}
use Rattle.value_memory.specs.ValueMemory.{begins_reading, may_give}
use Rattle.value_memory.specs.declared.ByteRange.{ByteRange}
use Rattle.value_orders.specs.Bytes.{accesses_in, gives_at, may_write_at}
use Rattle.value_orders.specs.Events.{begins_as, begun_as, ends_as, known_as, told_as, whole_as}
use Rattle.value_orders.specs.Histories.{History, Past, begun_by}
use Rattle.value_orders.specs.RunOrders.{past_of}
use Rattle.value_orders.proofs.EventFlights.{silent_at}
use Rattle.value_orders.proofs.EventSteps.{of_whole}
use Rattle.value_laws.specs.Kept.{Work, work_after, work_next}
use Rattle.value_laws.proofs.Beside.{GivesAlready}
use Rattle.value_laws.proofs.Buts.{already_at, but_both, but_gives, but_none, but_same, but_tells, new_silent, silent_any, silent_ends, silent_seen, silent_then}
use Rattle.value_laws.proofs.Open.{EndsNone}
use Rattle.value_laws.proofs.Turns.{IsBut}

-- ---- one that gives the byte nothing

-- events of it that don't end it
pub record AreOwn (number : ℕ) (events : List Event) : Type 0 where
  pub of : AllOf number events
  pub none : AllByRecursion EndsNone events

-- it ends with both, or with neither; a byte whose word isn't one of its range is told nothing
pub silent_words : (number : ℕ) (work : Work) (there ends : Bool) (told seen : List Event) → IsSilent number work.accesses → AreOwn number told → AllOf number seen
    → IsBut work (if there then told ++ ends_as number ends else []) (seen ++ ends_as number ends)
silent_words number work true true told seen silent own its = silent_ends number work told seen silent own.of own.none its
silent_words number work true false told seen silent own its =
    subst (λ (es : List Event). IsBut work (told ++ []) es) (sym (append-nil seen))
    (subst (λ (es : List Event). IsBut work es seen) (sym (append-nil told)) (silent_any number work told seen silent own.of own.none its))
silent_words number work false true told seen silent own its = silent_seen number work (seen ++ Ends number ∷ []) silent (with_end seen its)
  where
    with_end : (events : List Event) → AllOf number events → AllOf number (events ++ Ends number ∷ [])
    with_end [] of = (refl, tt)
    with_end (event ∷ events) of = (of.0, with_end events of.1)
silent_words number work false false told seen silent own its =
    subst (λ (es : List Event). IsBut work [] es) (sym (append-nil seen)) (silent_seen number work seen silent its)

-- it ends, where a byte of its words is told
pub ends_but : (number : ℕ) (work : Work) (there : Bool) → (there ≡ false → IsSilent number work.accesses)
    → IsBut work (if there then Ends number ∷ [] else []) (Ends number ∷ [])
ends_but number work true silent = but_same work (Ends number ∷ [])
ends_but number work false silent = silent_seen number work (Ends number ∷ []) (silent refl) (refl, tt)

-- ---- a byte that is told

pub told_but : (number byte : ℕ) (work : Work) (told : Bool) → IsBut work [] (told_as number told byte)
told_but number byte work true = but_tells work number byte
told_but number byte work false = but_none work

-- what a request gives it already stays
pub already_told : (number other byte : ℕ) (value : Option ℕ) (work : Work) → GivesAlready number value work.accesses
    → GivesAlready number value (work_next work (Tells other byte)).accesses
already_told number other byte value work already a at =
    let from = from_map (changed_of other (telling byte)) a work.accesses at.0 in
    let same : changed_of other (telling byte) from.one ≡ record from.one { told = (changed_of other (telling byte) from.one).told } = by_test from.one (from.one.begun == other && is_none from.one.ended) in
    let whole : a ≡ record from.one { told = (changed_of other (telling byte) from.one).told } = from.holds ∙ same in
    let gives : a.gives ≡ from.one.gives = ap (λ (b : Access). b.gives) whole in
    let begun : from.one.begun ≡ number = sym (ap (λ (b : Access). b.begun) whole) ∙ at.1.begun in
    let live : from.one.ended ≡ None = sym (ap (λ (b : Access). b.ended) whole) ∙ at.1.live in
    ap (option_map (λ (old : Option ℕ). value)) gives ∙ already from.one (from.there, record { begun = begun; live = live }) ∙ sym gives
  where
    by_test : (a : Access) (b : Bool) → (if b then telling byte a else a) ≡ record a { told = (if b then telling byte a else a).told }
    by_test a true = refl
    by_test a false = refl

pub already_told_as : (number other byte : ℕ) (value : Option ℕ) (work : Work) (told : Bool) → GivesAlready number value work.accesses
    → GivesAlready number value (work_after work (told_as other told byte)).accesses
already_told_as number other byte value work true already = already_told number other byte value work already
already_told_as number other byte value work false already = already

pub silent_told_as : (number other byte : ℕ) (work : Work) (told : Bool) → IsSilent number work.accesses
    → IsSilent number (work_after work (told_as other told byte)).accesses
silent_told_as number other byte work true silent = silent_then number work (Tells other byte) tt silent
silent_told_as number other byte work false silent = silent

module _ (setup : SetupLists) (errors : Errors) (x : ℕ) (history : History) where
  abbrev work : Work
  work = record { now = begun_by history; accesses = accesses_in setup errors history x }

  -- ---- a request begins

  abbrev next : ℕ
  next = begun_by history + 1

  -- a memory is told which bytes it may give
  pub begins_same : (number : ℕ) (reach : Option ByteRange) (may : Bool) → may_give reach x ≡ may → begins_reading number reach x ≡ begins_as number may
  begins_same number reach true is = rw is refl
  begins_same number reach false is = rw is refl

  -- and is whole with its first beat: what it gives is told to a byte that it may give, and any events of it to another
  pub begun_but : (past : Past) (may : Bool) (given : List Event) → may_write_at setup errors past x ≡ may → (may ≡ true → given ≡ whole_as setup errors x next past)
      → (may ≡ false → AreOwn next given) → IsBut work (begins_as next may ++ given) (begun_as setup errors x next past true)
  begun_but past true given is exact own =
      subst (λ (b : Bool). IsBut work (Writes next ∷ given) (begins_as next b ++ whole_as setup errors x next past)) (sym is)
      (subst (λ (es : List Event). IsBut work (Writes next ∷ es) (Writes next ∷ whole_as setup errors x next past)) (sym (exact refl))
      (but_same work (Writes next ∷ whole_as setup errors x next past)))
  begun_but past false given is exact own =
      subst (λ (b : Bool). IsBut work (Reads next ∷ given) (begins_as next b ++ whole_as setup errors x next past)) (sym is)
      (but_both work (Reads next ∷ []) (Reads next ∷ []) given (whole_as setup errors x next past) (but_same work (Reads next ∷ []))
      (silent_any next (work_next work (Reads next)) given (whole_as setup errors x next past)
      (silent_then next work (Reads next) tt (new_silent setup errors x history)) (own refl).of (own refl).none (of_whole setup errors x next past)))

  -- ---- one that had begun is whole: it may end with that

  pub completed_but : (number : ℕ) (past : Past) (there ends : Bool) (given : List Event) → gives_at setup errors (past_of history number) x ≡ None → AreOwn number given
      → IsBut work (if there then given ++ ends_as number ends else []) (whole_as setup errors x number past ++ ends_as number ends)
  completed_but number past there ends given none own =
      silent_words number work there ends given (whole_as setup errors x number past) (silent_at setup errors x history number none) own
      (of_whole setup errors x number past)

  -- ---- a reply tells a byte, and what an atomic makes is known

  -- told as it is, or not at all, where it gave that already
  pub known_but : (number other byte : ℕ) (told : Bool) (gives : Option (Option ℕ)) → gives_at setup errors (past_of history number) x ≡ gives
      → IsBut work [] (told_as other told byte ++ known_as number gives)
  known_but number other byte told gives is =
      but_both work [] (told_as other told byte) [] (known_as number gives) (told_but other byte work told) (by_gives gives is)
    where
      after : Work
      after = work_after work (told_as other told byte)

      by_gives : (g : Option (Option ℕ)) → gives_at setup errors (past_of history number) x ≡ g → IsBut (work_after work (told_as other told byte)) [] (known_as number g)
      by_gives None none =
          silent_seen number (work_after work (told_as other told byte)) (LeavesOut number ∷ [])
          (silent_told_as number other byte work told (silent_at setup errors x history number none)) (refl, tt)
      by_gives (Some value) some =
          but_gives (work_after work (told_as other told byte)) number value
          (already_told_as number other byte value work told (already_at setup errors x history number value some))

  -- else it is told so
  pub made_but : (number other byte : ℕ) (told : Bool) (made : List Event) → IsBut work made (told_as other told byte ++ made)
  made_but number other byte told made =
      but_both work [] (told_as other told byte) made made (told_but other byte work told) (but_same (work_after work (told_as other told byte)) made)
