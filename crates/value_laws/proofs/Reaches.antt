-- A memory on its way, told of a request by the range of bytes that this may give: to each other byte it gives nothing, so that whatever is told there of it leaves
-- what is held as it is.
use Rattle.std.proofs.Common.{◌≡◌, ℕ, ◌+◌, ◌/◌, ◌<◌, Bool, true, false, List, [], ◌∷◌, ◌++◌, Option, Some, None, if◌then◌else◌, refl, sym, ◌∙◌, subst, arith, append-nil}
use Rattle.std.specs.Prelude.{IfSome, nat_le, nat_lt}
use Rattle.std.proofs.lemmas.Bool.{and_from, both_ways, le-leb}
use Rattle.std.proofs.lemmas.Bool.Decides.{nat_tests}
use Rattle.byte_orders.specs.Runs.{Ends, Event, Reads}
use Rattle.byte_orders.proofs.QuietEvents.{IsSilent}
use Rattle.scoreboard.specs.Boards.{Beginning}
use Rattle.scoreboard.specs.declared.Errors.{Errors}
use Rattle.value_memory.specs.ValueMemory.{AllGo, IsByteRange, ValueState, begins_reading, is_in, may_give, shares_word, to_all, word_count}
use Rattle.value_memory.specs.declared.ByteRange.{ByteRange}
use Rattle.value_memory.proofs.RangeWords.{words_share}
use Rattle.value_orders.specs.Bytes.{gives_at, may_write_at}
use Rattle.value_orders.specs.Events.{begins_as, begun_as, ends_as, whole_as}
use Rattle.value_orders.specs.Histories.{Happening, Past, begun_by, history_in}
use Rattle.value_orders.specs.RunOrders.{past_of}
use Rattle.value_orders.proofs.EventFlights.{silent_at}
use Rattle.value_orders.proofs.EventSteps.{of_whole}
use Rattle.value_laws.specs.Kept.{AllAreOnWay, AllGoAlong, NoneIsOlder, work_after, work_in}
use Rattle.value_laws.proofs.Buts.{but_same, new_silent, silent_any, silent_then}
use Rattle.value_laws.proofs.Parts.{AllOfSome, some_silent}
use Rattle.value_laws.proofs.Requests.{AreOwn, begins_same, ends_but}
use Rattle.value_laws.proofs.Turns.{IsBut}
use Rattle.value_laws.proofs.Ways.{way_along, way_as, way_goes, way_still, work_on}

-- whether a byte is in a word of those that a request may give
abbrev pub shares_reach : Option ByteRange → ℕ → Bool
shares_reach None x = false
shares_reach (Some range) x = shares_word range x

-- the end of a request is told to these
abbrev pub ends_told : ℕ → Option ByteRange → ℕ → List Event
ends_told number reach x = if shares_reach reach x then Ends number ∷ [] else []

-- each byte of a range is in such a word
pub share_in : (range : ByteRange) (x : ℕ) → IsByteRange range → is_in range x ≡ true → shares_word range x ≡ true
share_in range x is within =
    let both = words_share range x is within in
    and_from (nat_le (range.address / 8) (x / 8)) (nat_lt (x / 8) (range.address / 8 + word_count range)) (le-leb (range.address / 8) (x / 8) both.0)
    (less (x / 8) (range.address / 8 + word_count range) both.1)
  where
    less : (a b : ℕ) → a < b → nat_lt a b ≡ true
    less a b is = grind (arith, nat_tests, is)

pub outside : (reach : Option ByteRange) (x : ℕ) → IfSome reach IsByteRange → shares_reach reach x ≡ false → may_give reach x ≡ false
outside None x is none = refl
outside (Some range) x is none = by_test (is_in range x) refl
  where
    by_test : (b : Bool) → is_in range x ≡ b → b ≡ false
    by_test false within = refl
    by_test true within = absurd (both_ways (shares_word range x) none (share_in range x is within))

module _ (errors : Errors) (beginning : Beginning) (happenings : List Happening) where
  -- a request gives nothing but to some bytes
  abbrev pub GivesWithin : ℕ → Option ByteRange → Type 0
  GivesWithin number reach =
      (x : ℕ) → may_give reach x ≡ false → gives_at beginning.lists errors (past_of (history_in errors beginning happenings) number) x ≡ None

  abbrev next : ℕ
  next = begun_by (history_in errors beginning happenings) + 1

  -- so it is silent at each other one, as events of requests come
  pub within_silent : (number : ℕ) (reach : Option ByteRange) (events : ℕ → List Event) (x : ℕ) → GivesWithin number reach → AllOfSome (events x)
      → may_give reach x ≡ false → IsSilent number (work_on errors beginning happenings events x).accesses
  within_silent number reach events x within some none =
      some_silent number (work_in errors beginning happenings x) (events x) some
      (silent_at beginning.lists errors x (history_in errors beginning happenings) number (within x none))

  -- ---- it ends

  pub way_ends : (events : ℕ → List Event) (number oldest : ℕ) (reach : Option ByteRange) (old new : ValueState)
      → AllAreOnWay errors beginning happenings events old → AllGo oldest false old new (ends_told number reach) → NoneIsOlder errors beginning happenings events oldest
      → ((x : ℕ) → AllOfSome (events x)) → GivesWithin number reach → IfSome reach IsByteRange
      → AllAreOnWay errors beginning happenings (λ x. events x ++ Ends number ∷ []) new
  way_ends events number oldest reach old new way goes none some within is =
      way_goes errors beginning happenings events oldest false old new (ends_told number reach) (λ x. Ends number ∷ []) way goes none
      (λ x. ends_but number (work_on errors beginning happenings events x) (shares_reach reach x)
      (λ outside_it. within_silent number reach events x within (some x) (outside reach x is outside_it)))

  -- and then the oldest one in flight is known
  pub way_over : (events : ℕ → List Event) (number before oldest : ℕ) (reach : Option ByteRange) (old between new : ValueState)
      → AllAreOnWay errors beginning happenings events old → AllGo before false old between (ends_told number reach) → NoneIsOlder errors beginning happenings events before
      → ((x : ℕ) → AllOfSome (events x)) → GivesWithin number reach → IfSome reach IsByteRange
      → AllGo oldest false between new (to_all []) → NoneIsOlder errors beginning happenings (λ x. events x ++ Ends number ∷ []) oldest
      → AllAreOnWay errors beginning happenings (λ x. events x ++ Ends number ∷ []) new
  way_over events number before oldest reach old between new way goes none some within is knows older =
      way_still errors beginning happenings (λ x. events x ++ Ends number ∷ []) oldest false between new
      (way_ends events number before reach old between way goes none some within is) knows older

  -- if it ends: else the memory is what it was
  pub way_over_if : (ends : Bool) (events : ℕ → List Event) (number : ℕ) (old new : ValueState) → AllAreOnWay errors beginning happenings events old
      → (ends ≡ true → AllAreOnWay errors beginning happenings (λ x. events x ++ Ends number ∷ []) new) → (ends ≡ false → new ≡ old)
      → AllAreOnWay errors beginning happenings (λ x. events x ++ ends_as number ends) new
  way_over_if true events number old new way over same = over refl
  way_over_if false events number old new way over same =
      way_as errors beginning happenings events (λ x. events x ++ []) new (λ x. sym (append-nil (events x)))
      (subst (λ (memory : ValueState). AllAreOnWay errors beginning happenings events memory) (sym (same refl)) way)

  -- ---- one that had begun is whole

  pub way_whole : (events : ℕ → List Event) (number oldest : ℕ) (crowded : Bool) (reach : Option ByteRange) (past : Past) (given : ℕ → List Event) (old new : ValueState)
      → AllAreOnWay errors beginning happenings events old → AllGoAlong oldest crowded old new given → NoneIsOlder errors beginning happenings events oldest
      → ((x : ℕ) → AllOfSome (events x)) → GivesWithin number reach
      → ((x : ℕ) → may_give reach x ≡ true → given x ≡ whole_as beginning.lists errors x number past) → ((x : ℕ) → may_give reach x ≡ false → AreOwn number (given x))
      → AllAreOnWay errors beginning happenings (λ x. events x ++ whole_as beginning.lists errors x number past) new
  way_whole events number oldest crowded reach past given old new way goes none some within exact own =
      way_along errors beginning happenings events oldest crowded old new given (λ x. whole_as beginning.lists errors x number past) way goes none
      (λ x. by_reach x (may_give reach x) refl)
    where
      by_reach : (x : ℕ) (b : Bool) → may_give reach x ≡ b → IsBut (work_on errors beginning happenings events x) (given x) (whole_as beginning.lists errors x number past)
      by_reach x true is =
          subst (λ (es : List Event). IsBut (work_on errors beginning happenings events x) es (whole_as beginning.lists errors x number past)) (sym (exact x is))
          (but_same (work_on errors beginning happenings events x) (whole_as beginning.lists errors x number past))
      by_reach x false is =
          silent_any number (work_on errors beginning happenings events x) (given x) (whole_as beginning.lists errors x number past)
          (within_silent number reach events x within (some x) is) (own x is).of (own x is).none (of_whole beginning.lists errors x number past)

  -- ---- one begins

  -- it may give what its access may write
  abbrev pub MayGiveAs : Option ByteRange → Past → Type 0
  MayGiveAs reach past = (x : ℕ) → may_give reach x ≡ may_write_at beginning.lists errors past x

  pub way_begins : (oldest : ℕ) (crowded : Bool) (reach : Option ByteRange) (past : Past) (old new : ValueState)
      → AllAreOnWay errors beginning happenings (λ x. []) old → AllGo oldest crowded old new (begins_reading next reach) → NoneIsOlder errors beginning happenings (λ x. []) oldest
      → MayGiveAs reach past → AllAreOnWay errors beginning happenings (λ x. begun_as beginning.lists errors x next past false) new
  way_begins oldest crowded reach past old new way goes none may =
      way_goes errors beginning happenings (λ x. []) oldest crowded old new (begins_reading next reach) (λ x. begins_as next (may_write_at beginning.lists errors past x)) way goes
      none (λ x. subst (λ (es : List Event). IsBut (work_in errors beginning happenings x) es (begins_as next (may_write_at beginning.lists errors past x)))
      (sym (begins_same beginning.lists errors x (history_in errors beginning happenings) next reach (may_write_at beginning.lists errors past x) (may x)))
      (but_same (work_in errors beginning happenings x) (begins_as next (may_write_at beginning.lists errors past x))))

  -- and is whole with that
  pub way_begun : (oldest : ℕ) (crowded : Bool) (reach : Option ByteRange) (past : Past) (given : ℕ → List Event) (old new : ValueState)
      → AllAreOnWay errors beginning happenings (λ x. begun_as beginning.lists errors x next past false) old → AllGoAlong oldest crowded old new given
      → NoneIsOlder errors beginning happenings (λ x. begun_as beginning.lists errors x next past false) oldest → MayGiveAs reach past
      → ((x : ℕ) → may_give reach x ≡ true → given x ≡ whole_as beginning.lists errors x next past) → ((x : ℕ) → may_give reach x ≡ false → AreOwn next (given x))
      → AllAreOnWay errors beginning happenings (λ x. begun_as beginning.lists errors x next past true) new
  way_begun oldest crowded reach past given old new way goes none may exact own =
      way_along errors beginning happenings (λ x. begun_as beginning.lists errors x next past false) oldest crowded old new given
      (λ x. whole_as beginning.lists errors x next past) way goes none (λ x. by_reach x (may_write_at beginning.lists errors past x) refl)
    where
      by_reach : (x : ℕ) (b : Bool) → may_write_at beginning.lists errors past x ≡ b
          → IsBut (work_after (work_in errors beginning happenings x) (begins_as next b)) (given x) (whole_as beginning.lists errors x next past)
      by_reach x true is =
          subst (λ (es : List Event). IsBut (work_after (work_in errors beginning happenings x) (begins_as next true)) es (whole_as beginning.lists errors x next past))
          (sym (exact x (may x ∙ is)))
          (but_same (work_after (work_in errors beginning happenings x) (begins_as next true)) (whole_as beginning.lists errors x next past))
      by_reach x false is =
          silent_any next (work_after (work_in errors beginning happenings x) (begins_as next false)) (given x) (whole_as beginning.lists errors x next past)
          (silent_then next (work_in errors beginning happenings x) (Reads next) tt (new_silent beginning.lists errors x (history_in errors beginning happenings)))
          (own x (may x ∙ is)).of (own x (may x ∙ is)).none (of_whole beginning.lists errors x next past)
