-- A short list stays one beside the whole one, with each event on both, and where it alone is made shorter.
use Rattle.std.proofs.Common.{◌≡◌, ℕ, ◌<◌, ◌≤◌, true, false, List, [], ◌∷◌, ◌++◌, map, Option, Some, None, ◌⊎◌, inl, inr, ⊎_elim, refl, sym, ◌∙◌, ap, subst, arith}
use Rattle.std.proofs.lemmas.Bool.{both_ways, false_from_ne_true}
use Rattle.byte_orders.specs.Accesses.{IsOneOf}
use Rattle.byte_orders.specs.Holdings.{Holding, beginning, hides, is_hidden, just_begun, with_begun}
use Rattle.byte_orders.specs.Keeping.{HasFor, IsCrowd, IsCrowdOf, IsFrom, IsKept, IsSettledOf, IsShortOf, IsTimed, StandsFor}
use Rattle.byte_orders.proofs.Members.{HasOne, any_from, any_to, from_append, from_map, in_append_left, in_append_right, in_map}
use Rattle.byte_orders.proofs.ShortLists.{came_at, hides_parts}

-- ---- at first, and as time passes

pub short_first : (value : Option ℕ) → IsShortOf 0 0 0 (beginning value ∷ []) (beginning value ∷ [])
short_first value =
    record {
      settled_past = omega arith;
      timed = λ w at. ⊎_elim (λ same. subst (IsTimed 0) (sym same) timed_first) (λ none. absurd none) at;
      kept = λ w at seen. record { one = w; there = at; stands = inl refl };
      from = λ h at. ⊎_elim (λ same. inl (same ∙ ap (λ (x : Holding). beginning x.value) (sym same))) (λ none. absurd none) at;
    }
  where
    timed_first : IsTimed 0 (beginning value)
    timed_first = record {
      alone = refl;
      begun = omega arith;
      ends_later = λ time is. omega arith;
      past = λ time is. let same : 0 ≡ time = cc in omega (arith, same);
    }

timed_later : (now later : ℕ) (w : Holding) → now ≤ later → IsTimed now w → IsTimed later w
timed_later now later w grows timed = record {
  alone = timed.alone;
  begun = omega (arith, grows, timed.begun);
  ends_later = timed.ends_later;
  past = λ time is. omega (arith, grows, timed.past time is);
}

from_later : (now later settled : ℕ) (whole : List Holding) (h : Holding) → now ≤ later → IsFrom now settled whole h → IsFrom later settled whole h
from_later now later settled whole h grows origin =
    ⊎_elim (λ same. inl same)
    (λ other. inr (⊎_elim (λ kept. inl kept)
    (λ (crowd : IsCrowd now h). inr (record { many = crowd.many; unsure = crowd.unsure; begun = omega (arith, grows, crowd.begun) })) other)) origin

-- other requests begin
pub short_later : (oldest now later settled : ℕ) (whole hs : List Holding) → now ≤ later → IsShortOf oldest now settled whole hs
    → IsShortOf oldest later settled whole hs
short_later oldest now later settled whole hs grows short = record {
  settled_past = omega (arith, grows, short.settled_past);
  timed = λ w at. timed_later now later w grows (short.timed w at);
  kept = short.kept;
  from = λ h at. from_later now later settled whole h grows (short.from h at);
}

-- ---- a writer begins

more_hidden : (whole : List Holding) (reader : ℕ) (w x : Holding) → is_hidden whole reader w ≡ true → is_hidden (whole ++ x ∷ []) reader w ≡ true
more_hidden whole reader w x hidden =
    let found = any_to (hides reader w) whole hidden in
    any_from (hides reader w) found.one (whole ++ x ∷ []) (in_append_left found.one whole (x ∷ []) found.there) found.holds

pub short_begun : (oldest now number settled : ℕ) (whole hs : List Holding) → now < number → IsShortOf oldest now settled whole hs
    → IsShortOf oldest number settled (with_begun number whole) (with_begun number hs)
short_begun oldest now number settled whole hs comes short =
    record {
      settled_past = omega (arith, comes, short.settled_past);
      timed = λ w at.
          ⊎_elim (λ old. timed_later now number w (omega (arith, comes)) (short.timed w old))
          (λ last. ⊎_elim (λ same. subst (IsTimed number) (sym same) timed_new) (λ none. absurd none) last) (from_append w whole (just_begun number ∷ []) at);
      kept = λ w at seen.
          ⊎_elim (λ old. kept_old w old seen)
          (λ last. ⊎_elim (λ same. record { one = just_begun number; there = in_append_right (just_begun number) hs (just_begun number ∷ []) (inl refl); stands = inl (sym same) }) (λ none. absurd none) last)
          (from_append w whole (just_begun number ∷ []) at);
      from = λ h at.
          ⊎_elim (λ old. from_old h (short.from h old))
          (λ last. ⊎_elim (λ same. from_new h same) (λ none. absurd none) last) (from_append h hs (just_begun number ∷ []) at);
    }
  where
    timed_new : IsTimed number (just_begun number)
    timed_new = record { alone = refl; begun = omega arith; ends_later = λ time is. absurd (cc); past = λ time is. absurd (cc) }

    kept_old : (w : Holding) → IsOneOf w whole → is_hidden (whole ++ just_begun number ∷ []) oldest w ≡ false → HasFor settled (hs ++ just_begun number ∷ []) w
    kept_old w old seen =
        let has = short.kept w old
        (false_from_ne_true (is_hidden whole oldest w) (λ hidden. both_ways (is_hidden (whole ++ just_begun number ∷ []) oldest w) seen (more_hidden whole oldest w (just_begun number) hidden))) in
        record { one = has.one; there = in_append_left has.one hs (just_begun number ∷ []) has.there; stands = has.stands }

    from_old : (h : Holding) → IsFrom now settled whole h → IsFrom number settled (whole ++ just_begun number ∷ []) h
    from_old h origin =
        ⊎_elim (λ same. inl same)
        (λ other. inr (⊎_elim (λ (kept : IsKept settled whole h). inl (record { there = in_append_left h whole (just_begun number ∷ []) kept.there; since = kept.since }))
        (λ (crowd : IsCrowd now h). inr (record { many = crowd.many; unsure = crowd.unsure; begun = omega (arith, comes, crowd.begun) })) other)) origin

    from_new : (h : Holding) → h ≡ just_begun number → IsFrom number settled (whole ++ just_begun number ∷ []) h
    from_new h same =
        inr (inl (record {
          there = in_append_right h whole (just_begun number ∷ []) (inl same);
          since = subst (λ (x : Holding). settled < x.begun) (sym same) (omega (arith, comes, short.settled_past));
        }))

-- ---- holdings change

-- a change of each holding, when so many requests have begun: none that is over changes, each keeps its writer, what is over then is over now, and a crowd
-- stays one
pub record IsChange (now : ℕ) (whole : List Holding) (change : Holding → Holding) : Type 0 where
  pub ended : (h : Holding) (time : ℕ) → h.over ≡ Some time → change h ≡ h
  pub begun : (h : Holding) → (change h).begun ≡ h.begun
  pub many : (h : Holding) → (change h).many ≡ h.many
  pub over : (h : Holding) (time : ℕ) → h.over ≡ None → (change h).over ≡ Some time → time ≡ now
  pub unsure : (h : Holding) → h.many ≡ true → h.sure ≡ false → (change h).sure ≡ false
  pub crowds : (h w : Holding) → IsOneOf w whole → IsTimed now w → IsCrowdOf h w → IsCrowdOf (change h) (change w)

module _ (oldest now settled : ℕ) (whole hs : List Holding) (change : Holding → Holding) (is : IsChange now whole change)
    (short : IsShortOf oldest now settled whole hs) where
  abbrev by_over : (h : Holding) (P : Type 0) → (h.over ≡ None → P) → ((time : ℕ) → h.over ≡ Some time → P) → P
  by_over h P none some = by_option h.over refl
    where
      by_option : (o : Option ℕ) → h.over ≡ o → P
      by_option None at = none at
      by_option (Some time) at = some time at

  changed_timed : (w : Holding) → IsTimed now w → IsTimed now (change w)
  changed_timed w timed =
      by_over w (IsTimed now (change w)) now_over (λ time over. subst (IsTimed now) (sym (is.ended w time over)) timed)
    where
      now_over : w.over ≡ None → IsTimed now (change w)
      now_over none = record {
        alone = is.many w ∙ timed.alone;
        begun = subst (λ n. n ≤ now) (sym (is.begun w)) timed.begun;
        ends_later = λ time over. subst (λ n. n ≤ time) (sym (is.begun w)) (omega (arith, is.over w time none over, timed.begun));
        past = λ time over. omega (arith, is.over w time none over);
      }

  still_hidden : (w : Holding) → is_hidden whole oldest w ≡ true → is_hidden (map change whole) oldest (change w) ≡ true
  still_hidden w hidden =
      let found = any_to (hides oldest w) whole hidden in
      let parts = hides_parts oldest w found.one found.holds in
      let mine = came_at w.over found.one.begun parts.before in
      let other = came_at found.one.over oldest parts.passed in
      any_from (hides oldest (change w)) found.one (map change whole)
      (subst (λ x. IsOneOf x (map change whole)) (is.ended found.one other.at other.is) (in_map change found.one whole found.there))
      (ap (λ x. hides oldest x found.one) (is.ended w mine.at mine.is) ∙ found.holds)

  changed_stands : (h w : Holding) → IsOneOf w whole → StandsFor settled h w → StandsFor settled (change h) (change w)
  changed_stands h w at stands =
      ⊎_elim (λ same. inl (ap change same)) (λ rest. inr (⊎_elim (λ old. inl (by_settled old)) (λ one. inr (is.crowds h w at (short.timed w at) one)) rest)) stands
    where
      by_settled : IsSettledOf settled h w → IsSettledOf settled (change h) (change w)
      by_settled old =
          let mine : change h ≡ h = is.ended h 0 (ap (λ (x : Holding). x.over) old.is) in
          let other : change w ≡ w = is.ended w old.time old.over in
          subst (λ x. IsSettledOf settled x (change w)) (sym mine) (subst (λ x. IsSettledOf settled h x) (sym other) old)

  changed_from : (h : Holding) → IsFrom now settled whole h → IsFrom now settled (map change whole) (change h)
  changed_from h origin = ⊎_elim first (λ other. inr (⊎_elim second third other)) origin
    where
      first : h ≡ beginning h.value → IsFrom now settled (map change whole) (change h)
      first same =
          let mine : change h ≡ h = is.ended h 0 (ap (λ (x : Holding). x.over) same) in
          inl (mine ∙ same ∙ ap (λ (x : Holding). beginning x.value) (sym mine))

      second : IsKept settled whole h → IsKept settled (map change whole) (change h) ⊎ IsCrowd now (change h)
      second kept = inl (record { there = in_map change h whole kept.there; since = subst (λ n. settled < n) (sym (is.begun h)) kept.since })

      third : IsCrowd now h → IsKept settled (map change whole) (change h) ⊎ IsCrowd now (change h)
      third one = inr (record {
        many = is.many h ∙ one.many;
        unsure = is.unsure h one.many one.unsure;
        begun = subst (λ n. n ≤ now) (sym (is.begun h)) one.begun;
      })

  pub short_changed : IsShortOf oldest now settled (map change whole) (map change hs)
  short_changed =
      record {
        settled_past = short.settled_past;
        timed = λ w at.
            let found = from_map change w whole at in
            subst (IsTimed now) (sym found.holds) (changed_timed found.one (short.timed found.one found.there));
        kept = λ w at seen. kept_one w (from_map change w whole at) seen;
        from = λ h at.
            let found = from_map change h hs at in
            subst (λ x. IsFrom now settled (map change whole) x) (sym found.holds) (changed_from found.one (short.from found.one found.there));
      }
    where
      kept_one : (w : Holding) → HasOne (λ x. w ≡ change x) whole → is_hidden (map change whole) oldest w ≡ false → HasFor settled (map change hs) w
      kept_one w found seen =
          let x = found.one in
          let has = short.kept x found.there
          (false_from_ne_true (is_hidden whole oldest x)
          (λ hidden. both_ways (is_hidden (map change whole) oldest w) seen
          (ap (λ y. is_hidden (map change whole) oldest y) found.holds ∙ still_hidden x hidden))) in
          record {
            one = change has.one;
            there = in_map change has.one hs has.there;
            stands = subst (λ y. StandsFor settled (change has.one) y) (sym found.holds) (changed_stands has.one x found.there has.stands);
          }
