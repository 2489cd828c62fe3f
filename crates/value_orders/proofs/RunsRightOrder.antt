-- Where requests took effect in the order in which they came whole, that order, with those behind it that aren't whole, is one in which they may have taken
-- effect, and in which each atomic finds what it was told: so what a request is told that finds it there, some order tells.
use Rattle.std.proofs.Common.{◌≡◌, ℕ, zero, suc, ◌<◌, ◌≤◌, ◌+◌, ◌==◌, Bool, true, false, not, List, [], ◌∷◌, ◌++◌, Option, Some, None, cond, inl, inr, refl, sym, ◌∙◌, ap, subst, arith}
use Rattle.std.specs.Prelude.{filter, slice_get}
use Rattle.std.specs.List.{AllByRecursion, range_with_len}
use Rattle.std.proofs.lemmas.Bool.{both_ways, cases_eq, eq-eqb, ne_eqb, not-true, not_from_false}
use Rattle.byte_orders.specs.Accesses.{IsOneOf}
use Rattle.byte_orders.proofs.Members.{all_of, from_filter, in_append_left, in_append_right, in_filter}
use Rattle.meaning.specs.Meaning.{Bytes, zeros}
use Rattle.setups.specs.Setups.{SetupLists}
use Rattle.tl_messages.specs.Requests.{WholeRequest}
use Rattle.scoreboard.specs.Boards.{MayBegin, from_zeros}
use Rattle.scoreboard.specs.Orders.{Entry, meaning_on}
use Rattle.scoreboard.specs.RealTime.{MayBecome}
use Rattle.scoreboard.specs.declared.Errors.{Errors}
use Rattle.scoreboard.proofs.real_time.RequestActs.{IsWell, well_bytes}
use Rattle.value_orders.specs.Bytes.{is_hidden_byte}
use Rattle.value_orders.specs.Histories.{History, Past, begun_by}
use Rattle.value_orders.specs.RunOrders.{AreOnce, AtomicsFind, HadEnded, IsRunOrder, KeepsTime, MayBe, MayBeAll, MayBeByte, bytes_along, bytes_before, past_of}
use Rattle.value_orders.proofs.Effects.{IsWellPast}

-- the requests of a history as they came
abbrev pub as_came : History → ℕ → WholeRequest
as_came history number = (past_of history number).entry.request

-- ---- each is one that it may have been

may_become : (entry : Entry) → IsWell entry.request → MayBecome entry entry.request
may_become entry well =
    record {
      same = λ whole sound. refl;
      fields = refl;
      corrupt = λ sound is. is;
      bytes = λ unwhole. well_bytes entry.request well;
      left = λ whole spoiled. record { bytes = well_bytes entry.request well; within = λ i gives. gives; full = λ op atomic i below. well.full op atomic i below };
    }

same_byte : (hidden : Bool) (given : Option (Option ℕ)) → ((byte : ℕ) → given ≡ Some (Some byte) → byte < 256) → MayBeByte hidden given given
same_byte true (Some (Some byte)) small = (byte, refl, small byte refl)
same_byte true (Some None) small = refl
same_byte true None small = refl
same_byte false given small = refl

pub may_be : (past : Past) → IsWell past.entry.request → MayBe past past.entry.request
may_be past well =
    record {
      known = past.entry.request;
      becomes = may_become past.entry well;
      fields = refl;
      count = refl;
      bytes = λ i. same_byte (is_hidden_byte past.hidden past.entry.request.address i) (slice_get past.entry.request.bytes i) (well.small i);
    }

-- ---- numbers

in_range : (first count number : ℕ) → first ≤ number → number < first + count → IsOneOf number (range_with_len first count)
in_range first zero number from below = absurd (omega (arith, from, below))
in_range first (suc count) number from below =
    elim (cases_eq first number) [
      | inl same ↦ inl (sym same)
      | inr other ↦ inr (in_range (first + 1) count number (omega (arith, from, other)) (omega (arith, below)))
    ]

-- those of a range begin no lower
range_bounds : (first count : ℕ) → AllByRecursion (λ number. (first ≤ number) × (number < first + count)) (range_with_len first count)
range_bounds first zero = tt
range_bounds first (suc count) = ((omega (arith), omega (arith)), wider (range_with_len (first + 1) count) (range_bounds (first + 1) count))
  where
    wider : (numbers : List ℕ) → AllByRecursion (λ number. (first + 1 ≤ number) × (number < first + 1 + count)) numbers
        → AllByRecursion (λ number. (first ≤ number) × (number < first + suc count)) numbers
    wider [] all = tt
    wider (number ∷ numbers) all = ((omega (arith, all.0.0), omega (arith, all.0.1)), wider numbers all.1)

all_others : (first : ℕ) (numbers : List ℕ) → AllByRecursion (λ number. first < number) numbers → AllByRecursion (λ other. other ≡ first → ⊥) numbers
all_others first [] all = tt
all_others first (number ∷ numbers) all = (λ same. omega (arith, same, all.0), all_others first numbers all.1)

range_later : (first limit count : ℕ) → limit < first → AllByRecursion (λ number. limit < number) (range_with_len first count)
range_later first limit zero later = tt
range_later first limit (suc count) later = (later, range_later (first + 1) limit count (omega (arith, later)))

range_once : (first count : ℕ) → AreOnce (range_with_len first count)
range_once first zero = tt
range_once first (suc count) = (all_others first (range_with_len (first + 1) count) (range_later (first + 1) first count (omega (arith))), range_once (first + 1) count)

all_filter : (P : ℕ → Type 0) (test : ℕ → Bool) (numbers : List ℕ) → AllByRecursion P numbers → AllByRecursion P (filter test numbers)
all_filter P test [] all = tt
all_filter P test (number ∷ numbers) all = by_test (test number) (all_filter P test numbers all.1)
  where
    by_test : (b : Bool) → AllByRecursion P (filter test numbers) → AllByRecursion P (cond b (number ∷ filter test numbers) (filter test numbers))
    by_test true rest = (all.0, rest)
    by_test false rest = rest

once_filter : (test : ℕ → Bool) (numbers : List ℕ) → AreOnce numbers → AreOnce (filter test numbers)
once_filter test [] once = tt
once_filter test (number ∷ numbers) once = by_test (test number) (once_filter test numbers once.1)
  where
    by_test : (b : Bool) → AreOnce (filter test numbers) → AreOnce (cond b (number ∷ filter test numbers) (filter test numbers))
    by_test true rest = (all_filter (λ other. other ≡ number → ⊥) test numbers once.0, rest)
    by_test false rest = rest

pub all_append : (P : ℕ → Type 0) (front back : List ℕ) → AllByRecursion P front → AllByRecursion P back → AllByRecursion P (front ++ back)
all_append P [] back one other = other
all_append P (number ∷ front) back one other = (one.0, all_append P front back one.1 other)

pub all_from : (P : ℕ → Type 0) (numbers : List ℕ) → ((number : ℕ) → IsOneOf number numbers → P number) → AllByRecursion P numbers
all_from P [] each = tt
all_from P (number ∷ numbers) each = (each number (inl refl), all_from P numbers (λ other at. each other (inr at)))

pub once_append : (front back : List ℕ) → AreOnce front → AreOnce back → ((number : ℕ) → IsOneOf number front → IsOneOf number back → ⊥) → AreOnce (front ++ back)
once_append [] back one other apart = other
once_append (number ∷ front) back one other apart = (
  all_append (λ k. k ≡ number → ⊥) front back one.0 (all_from (λ k. k ≡ number → ⊥) back (λ k at same. apart number (inl refl) (subst (λ n. IsOneOf n back) same at))),
  once_append front back one.1 other (λ k at there. apart k (inr at) there),
)

pub keeps_append : (history : History) (front back : List ℕ) → KeepsTime history front → KeepsTime history back
    → ((first later : ℕ) → IsOneOf first front → IsOneOf later back → HadEnded history later first → ⊥) → KeepsTime history (front ++ back)
keeps_append history [] back one other apart = other
keeps_append history (number ∷ front) back one other apart = (
  all_append (λ later. HadEnded history later number → ⊥) front back one.0 (all_from (λ later. HadEnded history later number → ⊥) back (λ later at. apart number later (inl refl) at)),
  keeps_append history front back one.1 other (λ first later at there. apart first later (inr at) there),
)

-- ---- in the order in which they came whole

-- so they took effect, those that are whole
pub record IsInTurn (setup : SetupLists) (history : History) (accepted : List ℕ) : Type 0 where
  pub some : AllByRecursion (λ number. (0 < number) × (number ≤ begun_by history)) accepted
  pub once : AreOnce accepted
  pub whole : (number : ℕ) → IsOneOf number accepted → (past_of history number).entry.whole ≡ true
  pub all : (number : ℕ) → 0 < number → number ≤ begun_by history → (past_of history number).entry.whole ≡ true → IsOneOf number accepted
  pub keeps : KeepsTime history accepted
  pub find : AtomicsFind setup history (as_came history) zeros accepted

module _ (setup : SetupLists) (errors : Errors) (history : History) (accepted : List ℕ) (in_turn : IsInTurn setup history accepted)
    (well : (number : ℕ) → 0 < number → number ≤ begun_by history → IsWell (as_came history number))
    (fine : (number : ℕ) → 0 < number → number ≤ begun_by history → IsWellPast errors (past_of history number))
    (open_ones : (number : ℕ) → 0 < number → number ≤ begun_by history → (past_of history number).entry.whole ≡ false → (past_of history number).ended ≡ None) where
  pub may_be_all : MayBeAll history (as_came history)
  may_be_all number from_one some = may_be (past_of history number) (well number from_one some)

  abbrev pub is_open : ℕ → Bool
  is_open number = not (past_of history number).entry.whole

  -- those that aren't whole
  abbrev pub opened : List ℕ
  opened = filter is_open (range_with_len 1 (begun_by history))

  abbrev pub numbers : List ℕ
  numbers = accepted ++ opened

  record IsOpened (number : ℕ) : Type 0 where
    from_one : 0 < number
    some : number ≤ begun_by history
    unwhole : (past_of history number).entry.whole ≡ false

  is_opened : (number : ℕ) → IsOneOf number opened → IsOpened number
  is_opened number at =
      let found = from_filter is_open number (range_with_len 1 (begun_by history)) at in
      let bounds = all_of (λ k. (1 ≤ k) × (k < 1 + begun_by history)) number (range_with_len 1 (begun_by history)) (range_bounds 1 (begun_by history)) found.there in
      record { from_one = omega (arith, bounds.0); some = omega (arith, bounds.1); unwhole = not-true (past_of history number).entry.whole found.passes }

  opened_there : (number : ℕ) → 0 < number → number ≤ begun_by history → (past_of history number).entry.whole ≡ false → IsOneOf number opened
  opened_there number from_one some unwhole =
      in_filter is_open number (range_with_len 1 (begun_by history)) (in_range 1 (begun_by history) number (omega (arith, from_one)) (omega (arith, some)))
      (not_from_false (past_of history number).entry.whole unwhole)

  never_ended : (number first : ℕ) → IsOneOf number opened → HadEnded history number first → ⊥
  never_ended number first at had =
      let is = is_opened number at in
      let none = open_ones number is.from_one is.some is.unwhole in
      let both : None ≡ Some had.0 = sym none ∙ had.1 in
      cc (both)

  keeps_opened : (rest : List ℕ) → ((number : ℕ) → IsOneOf number rest → IsOneOf number opened) → KeepsTime history rest
  keeps_opened [] within = tt
  keeps_opened (first ∷ rest) within = (
    all_from (λ number. HadEnded history number first → ⊥) rest (λ number at. never_ended number first (within number (inr at))),
    keeps_opened rest (λ number at. within number (inr at)),
  )

  pub run_order : IsRunOrder history numbers
  run_order =
      record {
        some = all_append (λ number. (0 < number) × (number ≤ begun_by history)) accepted opened in_turn.some
            (all_from (λ number. (0 < number) × (number ≤ begun_by history)) opened (λ number at. ((is_opened number at).from_one, (is_opened number at).some)));
        once = once_append accepted opened in_turn.once (once_filter is_open (range_with_len 1 (begun_by history)) (range_once 1 (begun_by history)))
            (λ number at there. both_ways (past_of history number).entry.whole (is_opened number there).unwhole (in_turn.whole number at));
        all = λ number from_one some uncut. by_whole number from_one some (past_of history number).entry.whole refl;
        keeps = keeps_append history accepted opened in_turn.keeps (keeps_opened opened (λ number at. at)) (λ first later at there had. never_ended later first there had);
      }
    where
      by_whole : (number : ℕ) → 0 < number → number ≤ begun_by history → (b : Bool) → (past_of history number).entry.whole ≡ b → IsOneOf number (accepted ++ opened)
      by_whole number from_one some true is = in_append_left number accepted opened (in_turn.all number from_one some is)
      by_whole number from_one some false is = in_append_right number accepted opened (opened_there number from_one some is)

  finds_opened : (rest : List ℕ) (m : Bytes) → ((number : ℕ) → IsOneOf number rest → IsOneOf number opened) → AtomicsFind setup history (as_came history) m rest
  finds_opened [] m within = tt
  finds_opened (number ∷ rest) m within = (
    (λ op x byte atomic told. let is = is_opened number (within number (inl refl)) in absurd ((fine number is.from_one is.some).no_atomic is.unwhole op atomic)),
    finds_opened rest (meaning_on setup (as_came history number) m).after (λ other at. within other (inr at)),
  )

  finds_along : (front : List ℕ) (m : Bytes) → AtomicsFind setup history (as_came history) m front → AtomicsFind setup history (as_came history) m (front ++ opened)
  finds_along [] m find = finds_opened opened m (λ number at. at)
  finds_along (number ∷ front) m find = (find.0, finds_along front (meaning_on setup (as_came history number) m).after find.1)

  pub all_find : AtomicsFind setup history (as_came history) zeros numbers
  all_find = finds_along accepted zeros in_turn.find

  -- what one finds, behind those ahead of it
  before_along : (front back : List ℕ) (m : Bytes) (number : ℕ) → AreOnce (front ++ number ∷ back)
      → bytes_before setup (as_came history) m ((front ++ number ∷ back) ++ opened) number ≡ bytes_along setup (as_came history) m front
  before_along [] back m number once = rw (eq-eqb number number refl) refl
  before_along (first ∷ front) back m number once =
      let other : (first == number) ≡ false = ne_eqb first number (λ same. all_of (λ k. k ≡ first → ⊥) number (front ++ number ∷ back) once.0 (in_append_right number front (number ∷ back) (inl refl)) (sym same)) in
      rw other (before_along front back (meaning_on setup (as_came history first) m).after number once.1)

  pub found_before : (front back : List ℕ) (number : ℕ) → accepted ≡ front ++ number ∷ back
      → bytes_before setup (as_came history) zeros numbers number ≡ bytes_along setup (as_came history) zeros front
  found_before front back number is =
      ap (λ all. bytes_before setup (as_came history) zeros (all ++ opened) number) is ∙ before_along front back zeros number (subst AreOnce is in_turn.once)

pub zeros_begin : (setup : SetupLists) → MayBegin (from_zeros setup) zeros
zeros_begin setup = record { said = λ x. omega (arith); small = λ x. omega (arith); known = λ x known. refl }
