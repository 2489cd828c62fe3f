-- A short list without a crowd stays exact, with each event on both lists, and where it alone is made shorter.
use Rattle.std.proofs.Common.{◌≡◌, ℕ, ◌<◌, ◌≤◌, Bool, true, false, not, List, [], ◌∷◌, ◌++◌, map, Option, Some, None, is_some, if◌then◌else◌, ◌⊎◌, inl, inr, ⊎_elim, refl, sym, ◌∙◌, ap, subst, arith}
use Rattle.std.proofs.lemmas.Bool.{both_ways, cases_Bool, cases_lt, false_from_ne_true}
use Rattle.byte_orders.specs.Accesses.{IsOneOf, is_before}
use Rattle.byte_orders.specs.Exact.{IsAnew, IsExact}
use Rattle.byte_orders.specs.Holdings.{Holding, beginning, closed, comes_before, is_hidden, is_open_of, just_begun, pruned_at, settled_as, with_begun, with_closed, without}
use Rattle.byte_orders.specs.Keeping.{HasFor, IsCrowdOf, IsKept, IsSettledOf, IsShortOf, StandsFor}
use Rattle.byte_orders.proofs.AsWhole.{HidesAtLast, hidden_at_last, no_crowd}
use Rattle.byte_orders.proofs.Changes.{by_option}
use Rattle.byte_orders.proofs.KeptShort.{IsChange}
use Rattle.byte_orders.proofs.Members.{from_append, from_filter, from_map, in_append_left, in_append_right, in_filter, in_map}
use Rattle.byte_orders.proofs.ShortLists.{CameAt, came_at}
use Rattle.byte_orders.proofs.ShorterLists.{closed_alone, map_same, over_stays}
use Rattle.byte_orders.proofs.ToldRightly.{never_before_start}

pub exact_first : (value : Option ℕ) → IsExact 0 (beginning value ∷ []) (beginning value ∷ [])
exact_first value =
    record {
      each = λ h at. ⊎_elim (λ same. inl (anew h same)) (λ none. absurd none) at;
      over = λ o at early none. ⊎_elim (λ same. let bad : Some 0 ≡ None = ap (λ (x : Holding). x.over) (sym same) ∙ none in absurd (cc)) (λ none. absurd none) at;
    }
  where
    anew : (h : Holding) → h ≡ beginning value → IsAnew 0 (beginning value ∷ []) h
    anew h same = record {
      is = same ∙ ap (λ (x : Holding). beginning x.value) (sym same);
      one = h;
      there = inl same;
      value = refl;
      time = 0;
      over = ap (λ (x : Holding). x.over) same;
      past = omega arith;
      last = λ o at early sure. ⊎_elim (λ own. ap (λ n. is_before h.over n) (ap (λ (x : Holding). x.begun) own) ∙ never_before_start h.over) (λ none. absurd none) at;
    }

pub exact_begun : (settled number : ℕ) (whole hs : List Holding) → settled < number → IsExact settled whole hs
    → IsExact settled (with_begun number whole) (with_begun number hs)
exact_begun settled number whole hs comes exact =
    record {
      each = λ h at. ⊎_elim (λ old. by_old h (exact.each h old))
          (λ last. ⊎_elim (λ same. inr (by_new h same)) (λ none. absurd none) last) (from_append h hs (just_begun number ∷ []) at);
      over = λ o at early none. ⊎_elim (λ old. exact.over o old early none)
          (λ last. ⊎_elim (λ same. not_early o same early) (λ none. absurd none) last) (from_append o whole (just_begun number ∷ []) at);
    }
  where
    not_early : (o : Holding) → o ≡ just_begun number → o.begun ≤ settled → ⊥
    not_early o same early = let own : o.begun ≡ number = ap (λ (x : Holding). x.begun) same in omega (arith, own, early, comes)

    by_new : (h : Holding) → h ≡ just_begun number → IsKept settled (whole ++ just_begun number ∷ []) h
    by_new h same = record {
      there = in_append_right h whole (just_begun number ∷ []) (inl same);
      since = subst (λ (x : Holding). settled < x.begun) (sym same) comes;
    }

    by_old : (h : Holding) → IsAnew settled whole h ⊎ IsKept settled whole h
        → IsAnew settled (whole ++ just_begun number ∷ []) h ⊎ IsKept settled (whole ++ just_begun number ∷ []) h
    by_old h origin =
        ⊎_elim
        (λ (is : IsAnew settled whole h). inl (record {
          is = is.is;
          one = is.one;
          there = in_append_left is.one whole (just_begun number ∷ []) is.there;
          value = is.value;
          time = is.time;
          over = is.over;
          past = is.past;
          last = λ o at early sure. ⊎_elim (λ old. is.last o old early sure)
              (λ new. ⊎_elim (λ same. absurd (not_early o same early)) (λ none. absurd none) new) (from_append o whole (just_begun number ∷ []) at);
        }))
        (λ (kept : IsKept settled whole h). inr (record { there = in_append_left h whole (just_begun number ∷ []) kept.there; since = kept.since }))
        origin

-- none that had begun when it was settled changes
module _ (now settled : ℕ) (whole hs : List Holding) (change : Holding → Holding) (is : IsChange now whole change) (exact : IsExact settled whole hs) where
  early_kept : (o : Holding) → IsOneOf o whole → o.begun ≤ settled → change o ≡ o
  early_kept o at early = by_option o.over (change o ≡ o) (λ none. absurd (exact.over o at early none)) (λ time over. is.ended o time over)

  pub exact_changed : IsExact settled (map change whole) (map change hs)
  exact_changed =
      record {
        each = λ h at.
            let from = from_map change h hs at in
            subst (λ x. IsAnew settled (map change whole) x ⊎ IsKept settled (map change whole) x) (sym from.holds) (by_one from.one (exact.each from.one from.there));
        over = λ o at early none. over_one o early none (from_map change o whole at).one (from_map change o whole at).there (from_map change o whole at).holds;
      }
    where
      over_one : (o : Holding) → o.begun ≤ settled → o.over ≡ None → (x : Holding) → IsOneOf x whole → o ≡ change x → ⊥
      over_one o early none x there same =
          let began : x.begun ≡ o.begun = sym (is.begun x) ∙ ap (λ (y : Holding). y.begun) (sym same) in
          let first : x.begun ≤ settled = omega (arith, began, early) in
          let own : o ≡ x = same ∙ early_kept x there first in
          exact.over x there first (ap (λ (y : Holding). y.over) (sym own) ∙ none)

      last_one : (h : Holding) → (anew : IsAnew settled whole h) → (o : Holding) → o.begun ≤ settled → o.sure ≡ true → (x : Holding) → IsOneOf x whole → o ≡ change x
          → comes_before anew.one o ≡ false
      last_one h anew o early sure x there same =
          let began : x.begun ≡ o.begun = sym (is.begun x) ∙ ap (λ (y : Holding). y.begun) (sym same) in
          let first : x.begun ≤ settled = omega (arith, began, early) in
          let own : o ≡ x = same ∙ early_kept x there first in
          subst (λ y. comes_before anew.one y ≡ false) (sym own) (anew.last x there first (ap (λ (y : Holding). y.sure) (sym own) ∙ sure))

      still_anew : (h : Holding) → IsAnew settled whole h → IsAnew settled (map change whole) (change h)
      still_anew h anew =
          subst (λ x. IsAnew settled (map change whole) x) (sym (is.ended h 0 (ap (λ (x : Holding). x.over) anew.is)))
          (record {
            is = anew.is;
            one = anew.one;
            there = subst (λ x. IsOneOf x (map change whole)) (is.ended anew.one anew.time anew.over) (in_map change anew.one whole anew.there);
            value = anew.value;
            time = anew.time;
            over = anew.over;
            past = anew.past;
            last = λ o at early sure. last_one h anew o early sure (from_map change o whole at).one (from_map change o whole at).there (from_map change o whole at).holds;
          })

      by_one : (h : Holding) → IsAnew settled whole h ⊎ IsKept settled whole h → IsAnew settled (map change whole) (change h) ⊎ IsKept settled (map change whole) (change h)
      by_one h origin =
          ⊎_elim (λ (anew : IsAnew settled whole h). inl (still_anew h anew))
          (λ (kept : IsKept settled whole h). inr (record { there = in_map change h whole kept.there; since = subst (λ n. settled < n) (sym (is.begun h)) kept.since })) origin

pub exact_without : (oldest now settled number : ℕ) (whole hs : List Holding) → IsShortOf oldest now settled whole hs → IsExact settled whole hs
    → IsExact settled (without number whole) (without number hs)
exact_without oldest now settled number whole hs short exact =
    record {
      each = λ h at. let from = from_filter stays h hs at in by_one h from.passes (exact.each h from.there);
      over = λ o at early none. exact.over o (from_filter stays o whole at).there early none;
    }
  where
    stays : Holding → Bool
    stays h = not (is_open_of number h)

    by_one : (h : Holding) → not (is_open_of number h) ≡ true → IsAnew settled whole h ⊎ IsKept settled whole h
        → IsAnew settled (without number whole) h ⊎ IsKept settled (without number whole) h
    by_one h passes origin =
        ⊎_elim
        (λ (anew : IsAnew settled whole h). inl (record {
          is = anew.is;
          one = anew.one;
          there = in_filter (λ x. not (is_open_of number x)) anew.one whole anew.there (over_stays oldest now settled number whole hs short anew.one anew.time anew.over);
          value = anew.value;
          time = anew.time;
          over = anew.over;
          past = anew.past;
          last = λ o at early sure. anew.last o (from_filter (λ x. not (is_open_of number x)) o whole at).there early sure;
        }))
        (λ (kept : IsKept settled whole h). inr (record { there = in_filter (λ x. not (is_open_of number x)) h whole kept.there passes; since = kept.since })) origin

-- pruned, and with no crowd to be over
pub exact_pruned_at : (oldest late now settled : ℕ) (whole hs : List Holding) → IsShortOf oldest now settled whole hs → IsExact settled whole hs
    → IsExact settled whole (pruned_at late now hs)
exact_pruned_at oldest late now settled whole hs short exact =
    let same : with_closed late now hs ≡ hs =
    map_same (closed late now) hs (λ h at. closed_alone late now h (no_crowd oldest now settled whole hs short exact h at)) in
    record {
      each = λ h at.
          exact.each h (subst (λ xs. IsOneOf h xs) same (from_filter (λ x. not (is_hidden (with_closed late now hs) late x)) h (with_closed late now hs) at).there);
      over = exact.over;
    }

-- one that is left alone stands for the last of all that have begun, which are over
module _ (oldest now settled : ℕ) (whole : List Holding) (h : Holding) (time : ℕ) (over : h.over ≡ Some time)
    (short : IsShortOf oldest now settled whole (h ∷ [])) (exact : IsExact settled whole (h ∷ [])) where
  -- what it has for one that isn't hidden is itself, or a beginning
  only : (o : Holding) → HasFor settled (h ∷ []) o → (h ≡ o) ⊎ IsSettledOf settled h o
  only o has = by_stands (⊎_elim (λ same. subst (λ x. StandsFor settled x o) same has.stands) (λ none. absurd none) has.there)
    where
      by_stands : StandsFor settled h o → (h ≡ o) ⊎ IsSettledOf settled h o
      by_stands stands =
          ⊎_elim (λ same. inl same)
          (λ rest. ⊎_elim (λ old. inr old)
          (λ (one : IsCrowdOf h o). absurd (both_ways h.many (no_crowd oldest now settled whole (h ∷ []) short exact h (inl refl)) one.many)) rest) stands

  all_over : (o : Holding) → IsOneOf o whole → o.over ≡ None → ⊥
  all_over o at none = by_test (cases_Bool (is_hidden whole oldest o))
    where
      by_only : (h ≡ o) ⊎ IsSettledOf settled h o → ⊥
      by_only which =
          ⊎_elim (λ same. let bad : Some time ≡ None = sym over ∙ (ap (λ (x : Holding). x.over) same ∙ none) in absurd (cc))
          (λ (old : IsSettledOf settled h o). let bad : Some old.time ≡ None = sym old.over ∙ none in absurd (cc)) which

      by_last : HidesAtLast oldest now settled whole (h ∷ []) short oldest o → ⊥
      by_last last =
          let mine = came_at o.over last.one.begun last.hides_it.before in
          let bad : Some mine.at ≡ None = sym mine.is ∙ none in absurd (cc)

      by_test : (is_hidden whole oldest o ≡ true) ⊎ (is_hidden whole oldest o ≡ false) → ⊥
      by_test test =
          ⊎_elim (λ hidden. by_last (hidden_at_last oldest now settled whole (h ∷ []) short oldest o (omega arith) hidden))
          (λ seen. by_only (only o (short.kept o at seen))) test

  -- one that began after all that it stands for isn't there
  behind_none : (o : Holding) → IsOneOf o whole
      → ((x : Holding) → IsOneOf x whole → o.begun ≤ x.begun → (h ≡ x) ⊎ IsSettledOf settled h x → ⊥) → ⊥
  behind_none o at never = by_test (cases_Bool (is_hidden whole oldest o))
    where
      by_last : HidesAtLast oldest now settled whole (h ∷ []) short oldest o → ⊥
      by_last last =
          let mine = came_at o.over last.one.begun last.hides_it.before in
          let order : o.begun ≤ mine.at = (short.timed o at).ends_later mine.at mine.is in
          never last.one last.there (omega (arith, order, mine.before)) (only last.one (short.kept last.one last.there last.seen))

      by_test : (is_hidden whole oldest o ≡ true) ⊎ (is_hidden whole oldest o ≡ false) → ⊥
      by_test test =
          ⊎_elim (λ hidden. by_last (hidden_at_last oldest now settled whole (h ∷ []) short oldest o (omega arith) hidden))
          (λ seen. never o at (omega arith) (only o (short.kept o at seen))) test

  exact_settled : IsExact now whole (beginning h.value ∷ [])
  exact_settled =
      record {
        each = λ x at. ⊎_elim (λ same. inl (subst (λ y. IsAnew now whole y) (sym same) (⊎_elim anew kept (exact.each h (inl refl))))) (λ none. absurd none) at;
        over = λ o at early none. all_over o at none;
      }
    where
      anew : IsAnew settled whole h → IsAnew now whole (beginning h.value)
      anew is = record {
        is = refl;
        one = is.one;
        there = is.there;
        value = is.value;
        time = is.time;
        over = is.over;
        past = omega (arith, is.past, short.settled_past);
        last = λ o at early sure. false_from_ne_true (comes_before is.one o) (λ before. behind_none o at (never o at (later o at sure before)));
      }
        where
          later : (o : Holding) → IsOneOf o whole → o.sure ≡ true → comes_before is.one o ≡ true → settled < o.begun
          later o at sure before =
              ⊎_elim (λ above. above) (λ below. absurd (both_ways (comes_before is.one o) (is.last o at below sure) before)) (cases_lt settled o.begun)

          never : (o : Holding) → IsOneOf o whole → settled < o.begun → (x : Holding) → IsOneOf x whole → o.begun ≤ x.begun → (h ≡ x) ⊎ IsSettledOf settled h x → ⊥
          never o at since x there above which =
              ⊎_elim
              (λ same. let first : x.begun ≡ 0 = ap (λ (y : Holding). y.begun) (sym same ∙ is.is) in omega (arith, first, above, since))
              (λ (old : IsSettledOf settled h x). omega (arith, (short.timed x there).ends_later old.time old.over, old.past, above, since)) which

      kept : IsKept settled whole h → IsAnew now whole (beginning h.value)
      kept is = record {
        is = refl;
        one = h;
        there = is.there;
        value = refl;
        time = time;
        over = over;
        past = (short.timed h is.there).past time over;
        last = λ o at early sure. false_from_ne_true (comes_before h o) (λ before. behind_none o at (never o (came_at h.over o.begun before)));
      }
        where
          never : (o : Holding) → CameAt h.over o.begun → (x : Holding) → IsOneOf x whole → o.begun ≤ x.begun → (h ≡ x) ⊎ IsSettledOf settled h x → ⊥
          never o mine x there above which =
              ⊎_elim
              (λ same.
              let own : h.begun ≡ x.begun = ap (λ (y : Holding). y.begun) same in
              omega (arith, (short.timed h is.there).ends_later mine.at mine.is, mine.before, above, own))
              (λ (old : IsSettledOf settled h x).
              let first : h.begun ≡ 0 = ap (λ (y : Holding). y.begun) old.is in omega (arith, first, is.since)) which

-- where a list has settled
pub exact_settled_as : (oldest now settled : ℕ) (whole hs : List Holding) (value : Option ℕ) → settled_as hs ≡ Some value
    → IsShortOf oldest now settled whole hs → IsExact settled whole hs
    → IsExact now whole (beginning value ∷ [])
exact_settled_as oldest now settled whole [] value is short exact = absurd (cc)
exact_settled_as oldest now settled whole (h ∷ []) value is short exact = by_over h.over refl is
  where
    by_over : (over : Option ℕ) → h.over ≡ over → (if is_some over then Some h.value else None) ≡ Some value → IsExact now whole (beginning value ∷ [])
    by_over None none same = absurd (cc)
    by_over (Some time) at same =
        let own : h.value ≡ value = cc in
        subst (λ v. IsExact now whole (beginning v ∷ [])) own (exact_settled oldest now settled whole h time at short exact)
exact_settled_as oldest now settled whole (h ∷ other ∷ rest) value is short exact = absurd (cc)
