-- A short list without a crowd lets pass no more than the whole one.
use Rattle.std.proofs.Common.{◌≡◌, ℕ, zero, suc, ◌+◌, ◌<◌, ◌≤◌, ◌==◌, Bool, true, false, ◌&&◌, not, List, Some, None, ◌⊎◌, ⊎_elim, refl, sym, ◌∙◌, ap, subst, arith}
use Rattle.std.proofs.lemmas.Bool.{and_from, and_parts, both_ways, cases_Bool, cases_lt, eqb-true, false_from_ne_true, lt-ltb, not-true, not_from_false}
use Rattle.byte_orders.specs.Accesses.{IsOneOf, is_before, may_show}
use Rattle.byte_orders.specs.Exact.{IsAnew, IsExact}
use Rattle.byte_orders.specs.Holdings.{Holding, comes_before, hides, is_hidden, is_own, may_be_told, may_find}
use Rattle.byte_orders.specs.Keeping.{HasFor, IsCrowdOf, IsKept, IsSettledOf, IsShortOf}
use Rattle.byte_orders.proofs.Members.{HasOne, any_from, any_to}
use Rattle.byte_orders.proofs.ShortLists.{HidesIt, before_from, came_at, hides_from, hides_parts}

module _ (oldest now settled : ℕ) (whole hs : List Holding) (short : IsShortOf oldest now settled whole hs) where
  -- one that hides another, and isn't hidden itself from the oldest
  pub record HidesAtLast (reader : ℕ) (w : Holding) : Type 0 where
    pub one : Holding
    pub there : IsOneOf one whole
    pub hides_it : HidesIt reader w one
    pub seen : is_hidden whole oldest one ≡ false

  -- what is hidden is hidden by such a one: what hides the one that hides it began later
  at_last : (fuel reader : ℕ) (w o : Holding) → oldest ≤ reader → IsOneOf o whole → now < o.begun + fuel → HidesIt reader w o → HidesAtLast reader w
  at_last zero reader w o late at few hiding = absurd (omega (arith, few, (short.timed o at).begun))
  at_last (suc fuel) reader w o late at few hiding = by_test (is_hidden whole oldest o) refl
      (λ x there next more. at_last fuel reader w x late there more next)
    where
      -- what hides it from the oldest hides from the reader what it hides
      further : HasOne (λ x. hides oldest o x ≡ true) whole
          → ((x : Holding) → IsOneOf x whole → HidesIt reader w x → now < x.begun + fuel → HidesAtLast reader w) → HidesAtLast reader w
      further found deeper =
          let x = found.one in
          let next = hides_parts oldest o x found.holds in
          let mine = came_at w.over o.begun hiding.before in
          let other = came_at o.over x.begun next.before in
          let passed = came_at x.over oldest next.passed in
          let order : o.begun ≤ other.at = (short.timed o at).ends_later other.at other.is in
          deeper x found.there
          (record {
            before = before_from w.over mine.at x.begun mine.is (omega (arith, mine.before, order, other.before));
            sure = next.sure;
            passed = before_from x.over passed.at reader passed.is (omega (arith, passed.before, late));
          })
          (omega (arith, few, order, other.before))

      by_test : (b : Bool) → is_hidden whole oldest o ≡ b
          → ((x : Holding) → IsOneOf x whole → HidesIt reader w x → now < x.begun + fuel → HidesAtLast reader w) → HidesAtLast reader w
      by_test true hidden deeper = further (any_to (hides oldest o) whole hidden) deeper
      by_test false seen deeper = record { one = o; there = at; hides_it = hiding; seen = seen }

  pub hidden_at_last : (reader : ℕ) (w : Holding) → oldest ≤ reader → is_hidden whole reader w ≡ true → HidesAtLast reader w
  hidden_at_last reader w late hidden =
      let found = any_to (hides reader w) whole hidden in
      at_last (now + 1) reader w found.one late found.there (omega arith) (hides_parts reader w found.one found.holds)

  -- what a list without a crowd has for one that isn't hidden from the oldest
  module _ (exact : IsExact settled whole hs) where
    pub no_crowd : (h : Holding) → IsOneOf h hs → h.many ≡ false
    no_crowd h at = ⊎_elim (λ (anew : IsAnew settled whole h). ap (λ (x : Holding). x.many) anew.is) (λ (kept : IsKept settled whole h). (short.timed h kept.there).alone) (exact.each h at)

    has_itself : (o : Holding) → IsOneOf o whole → is_hidden whole oldest o ≡ false → settled < o.begun → IsOneOf o hs
    has_itself o at seen since = by_has (short.kept o at seen)
      where
        by_has : HasFor settled hs o → IsOneOf o hs
        by_has has =
            ⊎_elim (λ same. subst (λ x. IsOneOf x hs) same has.there)
            (λ rest.
            ⊎_elim
            (λ (old : IsSettledOf settled has.one o). absurd (omega (arith, (short.timed o at).ends_later old.time old.over, old.past, since)))
            (λ (one : IsCrowdOf has.one o). absurd (both_ways has.one.many (no_crowd has.one has.there) one.many)) rest) has.stands

    -- one of a short list, that is found there, is found on the whole one, by what it stands for
    record FoundAs (number : ℕ) (h : Holding) : Type 0 where
      pub one : Holding
      pub there : IsOneOf one whole
      pub value : one.value ≡ h.value
      pub own : is_own number one ≡ false
      pub seen : is_hidden whole number one ≡ false

    -- what hides one from a reader is on the short list too, where it began since that was settled
    hidden_there : (number : ℕ) (w h : Holding) → oldest ≤ number → is_hidden whole number w ≡ true
        → ((o : Holding) → IsOneOf o whole → HidesIt number w o → (settled < o.begun) × (is_before h.over o.begun ≡ true))
        → is_hidden hs number h ≡ true
    hidden_there number w h late hidden since = by_last (hidden_at_last number w late hidden)
      where
        by_last : HidesAtLast number w → is_hidden hs number h ≡ true
        by_last last =
            let o = last.one in
            let later = since o last.there last.hides_it in
            any_from (hides number h) o hs (has_itself o last.there last.seen later.0)
            (hides_from number h o (record { before = later.1; sure = last.hides_it.sure; passed = last.hides_it.passed }))

    found_as : (number : ℕ) (h : Holding) → oldest ≤ number → ((w : Holding) → IsOneOf w whole → w.begun ≡ number → w.over ≡ None)
        → IsOneOf h hs → is_own number h ≡ false → is_hidden hs number h ≡ false → FoundAs number h
    found_as number h late open_own at own seen = ⊎_elim anew kept (exact.each h at)
      where
        kept : IsKept settled whole h → FoundAs number h
        kept is = record {
          one = h;
          there = is.there;
          value = refl;
          own = own;
          seen = false_from_ne_true (is_hidden whole number h)
              (λ hidden. both_ways (is_hidden hs number h) seen
              (hidden_there number h h late hidden
              (λ o there hiding.
              let mine = came_at h.over o.begun hiding.before in
              (omega (arith, is.since, (short.timed h is.there).ends_later mine.at mine.is, mine.before), hiding.before))));
        }

        anew : IsAnew settled whole h → FoundAs number h
        anew is = record {
          one = is.one;
          there = is.there;
          value = is.value;
          own = other_own (cases_Bool (is_own number is.one));
          seen = false_from_ne_true (is_hidden whole number is.one)
              (λ hidden. both_ways (is_hidden hs number h) seen (hidden_there number is.one h late hidden (λ o there hiding. since o there hiding)));
        }
          where
            other_own : (is_own number is.one ≡ true) ⊎ (is_own number is.one ≡ false) → is_own number is.one ≡ false
            other_own test =
                ⊎_elim
                (λ mine.
                let parts = and_parts (not is.one.many) (is.one.begun == number) mine in
                let none = open_own is.one is.there (eqb-true is.one.begun number parts.1) in
                let bad : Some is.time ≡ None = sym is.over ∙ none in absurd (cc))
                (λ other. other) test

            since : (o : Holding) → IsOneOf o whole → HidesIt number is.one o → (settled < o.begun) × (is_before h.over o.begun ≡ true)
            since o there hiding =
                let later : settled < o.begun =
                ⊎_elim (λ above. above)
                (λ below. absurd (both_ways (comes_before is.one o) (is.last o there below hiding.sure) hiding.before)) (cases_lt settled o.begun) in
                (later, ap (λ (x : Holding). is_before x.over o.begun) is.is ∙ lt-ltb 0 o.begun (omega (arith, later)))

    -- so it lets pass no more
    pub told_as_whole : (number byte : ℕ) → oldest ≤ number → ((w : Holding) → IsOneOf w whole → w.begun ≡ number → w.over ≡ None)
        → may_be_told hs number byte ≡ true → may_be_told whole number byte ≡ true
    told_as_whole number byte late open_own told = by_found (any_to (λ h. may_find hs number h && may_show h.value byte) hs told)
      where
        by_as : (h : Holding) → may_show h.value byte ≡ true → FoundAs number h → may_be_told whole number byte ≡ true
        by_as h shows as_one =
            let w = as_one.one in
            any_from (λ x. may_find whole number x && may_show x.value byte) w whole as_one.there
            (and_from (may_find whole number w) (may_show w.value byte)
            (and_from (not (is_own number w)) (not (is_hidden whole number w)) (not_from_false (is_own number w) as_one.own)
            (not_from_false (is_hidden whole number w) as_one.seen))
            (ap (λ v. may_show v byte) as_one.value ∙ shows))

        by_found : HasOne (λ h. (may_find hs number h && may_show h.value byte) ≡ true) hs → may_be_told whole number byte ≡ true
        by_found found =
            let h = found.one in
            let parts = and_parts (may_find hs number h) (may_show h.value byte) found.holds in
            let finds = and_parts (not (is_own number h)) (not (is_hidden hs number h)) parts.0 in
            by_as h parts.1
            (found_as number h late open_own found.there (not-true (is_own number h) finds.0) (not-true (is_hidden hs number h) finds.1))
