-- What is told of one request, word by word of the range of bytes that it may give: to each byte of a word once what it gives there, and whether it takes effect.
use Rattle.std.proofs.Common.{◌≡◌, ℕ, ◌+◌, ◌-◌, ◌*◌, ◌/◌, ◌%◌, ◌<◌, ◌≤◌, ◌==◌, Bool, true, false, ◌&&◌, List, [], ◌∷◌, ◌++◌, Option, Some, None, if◌then◌else◌, refl, sym, ◌∙◌, subst, arith}
use Rattle.std.specs.Prelude.{nat_le, nat_lt, option_map}
use Rattle.std.specs.List.{AllByRecursion}
use Rattle.std.proofs.lemmas.Bool.{and_parts, both_ways, eq-eqb, ne_eqb}
use Rattle.std.proofs.lemmas.Bool.Decides.{nat_tests}
use Rattle.bus_words.specs.Lanes.{has_lane}
use Rattle.byte_orders.specs.Runs.{Event, Gives, LeavesOut, TakesEffect}
use Rattle.byte_orders.proofs.Leading.{of_both}
use Rattle.byte_values.specs.Words.{known_byte}
use Rattle.byte_values.specs.declared.known.KnownBytes.{KnownBytes}
use Rattle.setups.specs.Setups.{SetupLists}
use Rattle.tl_messages.specs.Operations.{has_data}
use Rattle.tl_messages.specs.Requests.{WholeRequest}
use Rattle.scoreboard.specs.Boards.{Beginning}
use Rattle.scoreboard.specs.declared.Errors.{Errors}
use Rattle.value_memory.specs.ValueMemory.{gives_at as gives_to, given_to, may_give, shares_word, to_words, word_count}
use Rattle.value_memory.specs.declared.ByteRange.{ByteRange}
use Rattle.value_orders.specs.Bytes.{may_write_at}
use Rattle.value_orders.specs.Events.{effects_as, known_as}
use Rattle.value_orders.specs.Histories.{Happening, Past, history_in}
use Rattle.value_orders.specs.Places.{acts_at, acts_on, covers_from}
use Rattle.value_orders.specs.RunOrders.{past_of}
use Rattle.value_orders.proofs.EventFlights.{none_given}
use Rattle.value_orders.proofs.EventSteps.{of_effects, of_known}
use Rattle.value_laws.proofs.Along.{each_place, none_there, one_there}
use Rattle.value_laws.proofs.Open.{EndsNone}
use Rattle.value_laws.proofs.Reaches.{GivesWithin}
use Rattle.value_laws.proofs.Requests.{AreOwn}

-- ---- to a lane

-- what is given there, which is nothing where the lane isn't given
abbrev pub given_there : ℕ → KnownBytes → ℕ → Option (Option ℕ)
given_there lanes known lane = if has_lane lanes lane then Some (known_byte lane known) else None

pub given_known : (number lanes : ℕ) (known : KnownBytes) (lane : ℕ) → given_to number lanes known lane ≡ known_as number (given_there lanes known lane)
given_known number lanes known lane = by_lane (has_lane lanes lane)
  where
    by_lane : (b : Bool) → (if b then Gives number (known_byte lane known) ∷ [] else LeavesOut number ∷ [])
        ≡ known_as number (if b then Some (known_byte lane known) else None)
    by_lane true = refl
    by_lane false = refl

-- ---- to the words of a range

module _ (number : ℕ) (range : ByteRange) (lanes : ℕ → ℕ) (known : ℕ → KnownBytes) where
  -- what is told word by word
  abbrev pub words_given : ℕ → ℕ → List Event
  words_given k x = gives_to number (range.address + k * 8) (lanes k) (known k) x

  word_of : (k : ℕ) → (range.address + k * 8) / 8 ≡ range.address / 8 + k
  word_of k = omega arith

  other_word : (k x : ℕ) → (x / 8 ≡ range.address / 8 + k → ⊥) → words_given k x ≡ []
  other_word k x other =
      let none : (x / 8 == (range.address + k * 8) / 8) ≡ false = ne_eqb (x / 8) ((range.address + k * 8) / 8) (λ same. other (same ∙ word_of k)) in
      rw none refl

  own_word : (k x : ℕ) → x / 8 ≡ range.address / 8 + k → words_given k x ≡ known_as number (given_there (lanes k) (known k) (x % 8))
  own_word k x same =
      let is : (x / 8 == (range.address + k * 8) / 8) ≡ true = eq-eqb (x / 8) ((range.address + k * 8) / 8) (same ∙ sym (word_of k)) in
      rw is (given_known number (lanes k) (known k) (x % 8))

  -- a byte of one is told what is given to its lane, and each other one nothing
  pub words_there : (x : ℕ) → shares_word range x ≡ true
      → each_place words_given (word_count range) x
      ≡ known_as number (given_there (lanes (x / 8 - range.address / 8)) (known (x / 8 - range.address / 8)) (x % 8))
  words_there x shares =
      let both = and_parts (nat_le (range.address / 8) (x / 8)) (nat_lt (x / 8) (range.address / 8 + word_count range)) shares in
      let from : range.address / 8 ≤ x / 8 = grind (arith, nat_tests, both.0) in
      let to : x / 8 < range.address / 8 + word_count range = grind (arith, nat_tests, both.1) in
      one_there words_given (word_count range) (x / 8 - range.address / 8) x (omega (arith, from, to))
      (λ j below other. other_word j x (λ same. other (omega (arith, same, from))))
      ∙ own_word (x / 8 - range.address / 8) x (omega (arith, from))

  pub words_elsewhere : (x : ℕ) → shares_word range x ≡ false → each_place words_given (word_count range) x ≡ []
  words_elsewhere x none =
      none_there words_given (word_count range) x (λ k below. other_word k x (λ same. outside_it k below same))
    where
      outside_it : (k : ℕ) → k < word_count range → x / 8 ≡ range.address / 8 + k → ⊥
      outside_it k below same = both_ways (shares_word range x) none (shares_at (range.address / 8) (x / 8) (word_count range) (omega (arith, same)) (omega (arith, same, below)))
        where
          shares_at : (a w count : ℕ) → a ≤ w → w < a + count → (nat_le a w && nat_lt w (a + count)) ≡ true
          shares_at a w count from to = grind (arith, nat_tests, from, to)

-- ---- they are its own

none_known : (number : ℕ) (gives : Option (Option ℕ)) → AllByRecursion EndsNone (known_as number gives)
none_known number None = (tt, tt)
none_known number (Some value) = (tt, tt)

none_effects : (number : ℕ) (sure : Bool) → AllByRecursion EndsNone (effects_as number sure)
none_effects number true = (tt, tt)
none_effects number false = tt

pub own_known : (number : ℕ) (gives : Option (Option ℕ)) → AreOwn number (known_as number gives)
own_known number gives = record { of = of_known number gives; none = none_known number gives }

pub own_effects : (number : ℕ) (sure : Bool) → AreOwn number (effects_as number sure)
own_effects number sure = record { of = of_effects number sure; none = none_effects number sure }

pub own_nothing : (number : ℕ) → AreOwn number []
own_nothing number = record { of = tt; none = tt }

pub own_both : (number : ℕ) (xs ys : List Event) → AreOwn number xs → AreOwn number ys → AreOwn number (xs ++ ys)
own_both number xs ys one two = record { of = of_both number xs ys one.of two.of; none = both xs one.none }
  where
    both : (some : List Event) → AllByRecursion EndsNone some → AllByRecursion EndsNone (some ++ ys)
    both [] all = two.none
    both (event ∷ some) all = (all.0, both some all.1)

pub own_words : (number : ℕ) (range : ByteRange) (lanes : ℕ → ℕ) (known : ℕ → KnownBytes) (x : ℕ)
    → AreOwn number (each_place (words_given number range lanes known) (word_count range) x)
own_words number range lanes known x = by_share (shares_word range x) refl
  where
    by_share : (b : Bool) → shares_word range x ≡ b → AreOwn number (each_place (words_given number range lanes known) (word_count range) x)
    by_share true is =
        subst (λ (es : List Event). AreOwn number es) (sym (words_there number range lanes known x is))
        (own_known number (given_there (lanes (x / 8 - range.address / 8)) (known (x / 8 - range.address / 8)) (x % 8)))
    by_share false is = subst (λ (es : List Event). AreOwn number es) (sym (words_elsewhere number range lanes known x is)) (own_nothing number)

-- that it takes effect
pub sure_there : (number : ℕ) (range : ByteRange) (x : ℕ) → shares_word range x ≡ true → to_words range (TakesEffect number) x ≡ effects_as number true
sure_there number range x is = rw is refl

pub own_sure : (number : ℕ) (range : ByteRange) (x : ℕ) → AreOwn number (to_words range (TakesEffect number) x)
own_sure number range x = by_share (shares_word range x)
  where
    by_share : (b : Bool) → AreOwn number (if b then TakesEffect number ∷ [] else [])
    by_share true = own_effects number true
    by_share false = own_effects number false

-- ---- the bytes that a request may give

-- those on which it acts, where it has data
abbrev pub reach_of : SetupLists → Errors → WholeRequest → Option ByteRange
reach_of setup errors q =
    if has_data q.operation then option_map (λ address. record { address = address; size = q.size }) (acts_at setup errors q) else None

pub reach_writes : (setup : SetupLists) (errors : Errors) (past : Past) (x : ℕ) → may_give (reach_of setup errors past.entry.request) x ≡ may_write_at setup errors past x
reach_writes setup errors past x = by_data (has_data past.entry.request.operation)
  where
    by_place : (place : Option ℕ)
        → may_give (option_map (λ address. record { address = address; size = past.entry.request.size }) place) x ≡ covers_from place past.entry.request.size x
    by_place None = refl
    by_place (Some address) = refl

    by_data : (b : Bool)
        → may_give (if b then option_map (λ address. record { address = address; size = past.entry.request.size }) (acts_at setup errors past.entry.request) else None) x
        ≡ (b && acts_on setup errors past.entry.request x)
    by_data true = by_place (acts_at setup errors past.entry.request)
    by_data false = refl

-- to a byte that it may not write it gives nothing
pub gives_within : (errors : Errors) (beginning : Beginning) (happenings : List Happening) (number : ℕ) (reach : Option ByteRange)
    → ((x : ℕ) → may_give reach x ≡ false → may_write_at beginning.lists errors (past_of (history_in errors beginning happenings) number) x ≡ false)
    → GivesWithin errors beginning happenings number reach
gives_within errors beginning happenings number reach never x none =
    none_given beginning.lists errors x (past_of (history_in errors beginning happenings) number) (never x none)
