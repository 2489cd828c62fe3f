-- One thing more that is seen, in order of acceptance: what holds of the requests that came whole goes on, and one more may come whole.
use Rattle.std.proofs.Common.{◌≡◌, ℕ, ◌<◌, ◌≤◌, true, false, List, [], ◌∷◌, ◌++◌, map, Some, ◌⊎◌, inl, inr, ⊎_elim, refl, sym, ◌∙◌, ap, subst, arith}
use Rattle.std.specs.List.{AllByRecursion}
use Rattle.std.proofs.lemmas.List.{append_assoc}
use Rattle.byte_orders.specs.Accesses.{IsOneOf}
use Rattle.byte_orders.proofs.Members.{all_of, from_append, in_append_left, in_append_right}
use Rattle.meaning.specs.Meaning.{Bytes, zeros}
use Rattle.setups.specs.Setups.{SetupLists}
use Rattle.tl_messages.specs.Requests.{WholeRequest}
use Rattle.scoreboard.specs.Orders.{has_ended, meaning_on}
use Rattle.value_orders.specs.Histories.{History, Past, begun_by}
use Rattle.value_orders.specs.RunOrders.{AtomicsFind, FindsAsTold, HadEnded, KeepsTime, bytes_along, past_of}
use Rattle.value_orders.proofs.RunsRightOrder.{IsInTurn, all_append, all_from, as_came, keeps_append, once_append}

-- two requests are at one place
abbrev pub AreAtOne : History → ℕ → ℕ → Type 0
AreAtOne history number other =
    ((past_of history other).entry.client ≡ (past_of history number).entry.client)
    × ((past_of history other).entry.request.source ≡ (past_of history number).entry.request.source)

-- behind one that hasn't ended none is at its place
abbrev pub AreLast : History → List ℕ → Type 0
AreLast history [] = Unit {0}
AreLast history (number ∷ numbers) =
    (has_ended (past_of history number).entry ≡ false → AllByRecursion (λ other. AreAtOne history number other → ⊥) numbers) × AreLast history numbers

-- how what was seen of a request goes on, when so many have begun
pub record GoesOn (count : ℕ) (old new : Past) : Type 0 where
  pub whole : old.entry.whole ≡ true → (new.entry.whole ≡ true) × (new.entry.request ≡ old.entry.request)
  pub client : new.entry.client ≡ old.entry.client
  pub ended : (time : ℕ) → new.ended ≡ Some time → (old.ended ≡ Some time) ⊎ (time ≡ count)
  pub live : has_ended new.entry ≡ false → has_ended old.entry ≡ false

pub along_append : (setup : SetupLists) (requests : ℕ → WholeRequest) (m : Bytes) (front : List ℕ) (number : ℕ)
    → bytes_along setup requests m (front ++ number ∷ []) ≡ (meaning_on setup (requests number) (bytes_along setup requests m front)).after
along_append setup requests m [] number = refl
along_append setup requests m (first ∷ front) number = along_append setup requests (meaning_on setup (requests first) m).after front number

pub map_same : {X : Type 0} (f g : ℕ → X) (numbers : List ℕ) → ((number : ℕ) → IsOneOf number numbers → f number ≡ g number) → map f numbers ≡ map g numbers
map_same f g [] same = refl
map_same f g (number ∷ numbers) same = let rest = map_same f g numbers (λ other at. same other (inr at)) in let here = same number (inl refl) in cc (here, rest)

module _ (setup : SetupLists) (old new : History) (accepted : List ℕ) (in_turn : IsInTurn setup old accepted)
    (longer : begun_by old ≤ begun_by new)
    (goes : (number : ℕ) → 0 < number → number ≤ begun_by old → GoesOn (begun_by new) (past_of old number) (past_of new number))
    (finds : (number : ℕ) (front back : List ℕ) → accepted ≡ front ++ number ∷ back → FindsAsTold (past_of old number) (bytes_along setup (as_came old) zeros front)
    → FindsAsTold (past_of new number) (bytes_along setup (as_came old) zeros front)) where
  bounds : (number : ℕ) → IsOneOf number accepted → (0 < number) × (number ≤ begun_by old)
  bounds number at = all_of (λ k. (0 < k) × (k ≤ begun_by old)) number accepted in_turn.some at

  here : (number : ℕ) → IsOneOf number accepted → GoesOn (begun_by new) (past_of old number) (past_of new number)
  here number at = goes number (bounds number at).0 (bounds number at).1

  pub whole_still : (number : ℕ) → IsOneOf number accepted → ((past_of new number).entry.whole ≡ true) × (as_came new number ≡ as_came old number)
  whole_still number at = (here number at).whole (in_turn.whole number at)

  pub still_some : AllByRecursion (λ number. (0 < number) × (number ≤ begun_by new)) accepted
  still_some =
      all_from (λ number. (0 < number) × (number ≤ begun_by new)) accepted
      (λ number at. ((bounds number at).0, omega (arith, longer, (bounds number at).1)))

  -- one that had ended before another began had so before
  had_before : (number later : ℕ) → IsOneOf number accepted → IsOneOf later accepted → HadEnded new number later → HadEnded old number later
  had_before number later at there had =
      ⊎_elim (λ was. (had.0, was, had.2)) (λ now. absurd (omega (arith, now, had.2, longer, (bounds later there).1)))
      ((here number at).ended had.0 had.1)

  keeps_next : (numbers : List ℕ) → ((number : ℕ) → IsOneOf number numbers → IsOneOf number accepted) → KeepsTime old numbers → KeepsTime new numbers
  keeps_next [] within keeps = tt
  keeps_next (later ∷ numbers) within keeps = (
    all_from (λ number. HadEnded new number later → ⊥) numbers
        (λ number at had. all_of (λ k. HadEnded old k later → ⊥) number numbers keeps.0 at (had_before number later (within number (inr at)) (within later (inl refl)) had)),
    keeps_next numbers (λ number at. within number (inr at)) keeps.1,
  )

  pub still_keeps : KeepsTime new accepted
  still_keeps = keeps_next accepted (λ number at. at) in_turn.keeps

  finds_next : (front rest : List ℕ) → accepted ≡ front ++ rest → AtomicsFind setup old (as_came old) (bytes_along setup (as_came old) zeros front) rest
      → AtomicsFind setup new (as_came new) (bytes_along setup (as_came old) zeros front) rest
  finds_next front [] is find = tt
  finds_next front (number ∷ rest) is find = (
    finds number front rest is find.0,
    subst (λ (q : WholeRequest). AtomicsFind setup new (as_came new) (meaning_on setup q (bytes_along setup (as_came old) zeros front)).after rest)
        (sym (whole_still number (subst (λ all. IsOneOf number all) (sym is) (in_append_right number front (number ∷ rest) (inl refl)))).1)
        (subst (λ m. AtomicsFind setup new (as_came new) m rest) (along_append setup (as_came old) zeros front number)
        (finds_next (front ++ number ∷ []) rest (is ∙ sym (append_assoc front (number ∷ []) rest))
        (subst (λ m. AtomicsFind setup old (as_came old) m rest) (sym (along_append setup (as_came old) zeros front number)) find.1))),
  )

  pub still_find : AtomicsFind setup new (as_came new) zeros accepted
  still_find = finds_next [] accepted refl in_turn.find

  -- no more came whole
  pub still_in_turn : ((number : ℕ) → 0 < number → number ≤ begun_by new → (past_of new number).entry.whole ≡ true
      → (number ≤ begun_by old) × ((past_of old number).entry.whole ≡ true)) → IsInTurn setup new accepted
  still_in_turn none_more =
      record {
        some = still_some;
        once = in_turn.once;
        whole = λ number at. (whole_still number at).0;
        all = λ number from_one some whole. let was = none_more number from_one some whole in in_turn.all number from_one was.0 was.1;
        keeps = still_keeps;
        find = still_find;
      }

  pub still_came : map (as_came new) accepted ≡ map (as_came old) accepted
  still_came = map_same (as_came new) (as_came old) accepted (λ number at. (whole_still number at).1)

  at_one_before : (number other : ℕ) → IsOneOf number accepted → IsOneOf other accepted → AreAtOne new number other → AreAtOne old number other
  at_one_before number other at there same = (
    sym (here other there).client ∙ same.0 ∙ (here number at).client,
    ap (λ (q : WholeRequest). q.source) (sym (whole_still other there).1) ∙ same.1 ∙ ap (λ (q : WholeRequest). q.source) (whole_still number at).1,
  )

  last_next : (numbers : List ℕ) → ((number : ℕ) → IsOneOf number numbers → IsOneOf number accepted) → AreLast old numbers → AreLast new numbers
  last_next [] within last = tt
  last_next (number ∷ numbers) within last = (
    (λ live. all_from (λ other. AreAtOne new number other → ⊥) numbers
        (λ other at same. all_of (λ k. AreAtOne old number k → ⊥) other numbers (last.0 ((here number (within number (inl refl))).live live)) at
        (at_one_before number other (within number (inl refl)) (within other (inr at)) same))),
    last_next numbers (λ other at. within other (inr at)) last.1,
  )

  pub still_last : AreLast old accepted → AreLast new accepted
  still_last last = last_next accepted (λ number at. at) last

  -- one more came whole
  module _ (number : ℕ) (from_one : 0 < number) (some : number ≤ begun_by new) (is_whole : (past_of new number).entry.whole ≡ true)
      (was_not : IsOneOf number accepted → ⊥)
      (ends_now : (time : ℕ) → (past_of new number).ended ≡ Some time → time ≡ begun_by new)
      (only : (other : ℕ) → 0 < other → other ≤ begun_by new → (past_of new other).entry.whole ≡ true
      → (other ≡ number) ⊎ ((other ≤ begun_by old) × ((past_of old other).entry.whole ≡ true)))
      (told_none : (m : Bytes) → FindsAsTold (past_of new number) m) where
    find_append : (front : List ℕ) (m : Bytes) → AtomicsFind setup new (as_came new) m front → AtomicsFind setup new (as_came new) m (front ++ number ∷ [])
    find_append [] m find = (told_none m, tt)
    find_append (first ∷ front) m find = (find.0, find_append front (meaning_on setup (as_came new first) m).after find.1)

    pub one_more : IsInTurn setup new (accepted ++ number ∷ [])
    one_more =
        record {
          some = all_append (λ k. (0 < k) × (k ≤ begun_by new)) accepted (number ∷ []) still_some ((from_one, some), tt);
          once = once_append accepted (number ∷ []) in_turn.once (tt, tt)
              (λ k at there. ⊎_elim (λ same. was_not (subst (λ n. IsOneOf n accepted) same at)) (λ none. none) there);
          whole = λ k at. ⊎_elim (λ old_one. (whole_still k old_one).0)
              (λ last. ⊎_elim (λ same. subst (λ n. (past_of new n).entry.whole ≡ true) (sym same) is_whole) (λ none. absurd none) last)
              (from_append k accepted (number ∷ []) at);
          all = λ k positive below whole. ⊎_elim (λ same. in_append_right k accepted (number ∷ []) (inl same))
              (λ was. in_append_left k accepted (number ∷ []) (in_turn.all k positive was.0 was.1)) (only k positive below whole);
          keeps = keeps_append new accepted (number ∷ []) still_keeps (tt, tt)
              (λ first later at there had. ⊎_elim (λ same. never first at (subst (λ n. HadEnded new n first) same had)) (λ none. none) there);
          find = find_append accepted zeros still_find;
        }
      where
        never : (first : ℕ) → IsOneOf first accepted → HadEnded new number first → ⊥
        never first at had = omega (arith, ends_now had.0 had.1, had.2, longer, (bounds first at).1)

    last_append : (front : List ℕ) → ((first : ℕ) → IsOneOf first front → IsOneOf first accepted)
        → ((first : ℕ) → IsOneOf first accepted → has_ended (past_of new first).entry ≡ false → AreAtOne new first number → ⊥)
        → AreLast new front → AreLast new (front ++ number ∷ [])
    last_append [] within apart last = ((λ live. tt), tt)
    last_append (first ∷ front) within apart last = (
      (λ live. all_append (λ other. AreAtOne new first other → ⊥) front (number ∷ []) (last.0 live) ((λ same. apart first (within first (inl refl)) live same), tt)),
      last_append front (λ other at. within other (inr at)) apart last.1,
    )

    pub one_last : ((first : ℕ) → IsOneOf first accepted → has_ended (past_of new first).entry ≡ false → AreAtOne new first number → ⊥) → AreLast old accepted
        → AreLast new (accepted ++ number ∷ [])
    one_last apart last = last_append accepted (λ first at. at) apart (still_last last)
