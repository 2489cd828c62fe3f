-- What makes a short list shorter, and what one becomes for which there is no room: none of it blames what wasn't blamed before.
use Rattle.std.proofs.Common.{◌≡◌, ℕ, ◌<◌, ◌≤◌, ◌==◌, Bool, true, false, ◌&&◌, not, List, [], ◌∷◌, map, filter, Option, Some, None, is_none, is_some, if◌then◌else◌, ◌⊎◌, inl, inr, ⊎_elim, refl, sym, ◌∙◌, ap, subst, arith}
use Rattle.std.specs.Prelude.{nat_lt}
use Rattle.std.specs.List.{list_any}
use Rattle.std.proofs.lemmas.Bool.{and_left, and_parts, and_right, both_ways, false_from_ne_true, ltb-true, not-true, not_from_false}
use Rattle.byte_orders.specs.Accesses.{IsOneOf, may_show}
use Rattle.byte_orders.specs.Holdings.{Holding, beginning, closed, crowd, hides, is_hidden, is_open_of, is_own, may_be_told, may_find, pruned, pruned_at, settled_as, with_closed, without}
use Rattle.byte_orders.specs.Keeping.{HasFor, IsCrowdOf, IsFrom, IsKept, IsSettledOf, IsShortOf, IsTimed, NoneOlder, StandsFor}
use Rattle.byte_orders.proofs.Changes.{by_option, not_none}
use Rattle.byte_orders.proofs.KeptShort.{IsChange, short_changed}
use Rattle.byte_orders.proofs.Members.{HasOne, any_from, any_to, from_filter, in_filter}
use Rattle.byte_orders.proofs.ShortLists.{before_from, came_at, hidden_later, hidden_too, hides_from, hides_parts}

-- ---- a writer gives nothing

module _ (oldest now settled number : ℕ) (whole hs : List Holding) (short : IsShortOf oldest now settled whole hs) where
  abbrev stays : Holding → Bool
  stays h = not (is_open_of number h)

  pub over_stays : (h : Holding) (time : ℕ) → h.over ≡ Some time → stays h ≡ true
  over_stays h time over =
      not_from_false (is_open_of number h) (and_right (is_own number h) (is_none h.over) (not_none h time over))

  crowd_stays : (h : Holding) → h.many ≡ true → stays h ≡ true
  crowd_stays h many =
      not_from_false (is_open_of number h)
      (and_left (is_own number h) (is_none h.over) (and_left (not h.many) (h.begun == number) (ap not many)))

  left_hidden : (w : Holding) → is_hidden whole oldest w ≡ true → is_hidden (filter stays whole) oldest w ≡ true
  left_hidden w hidden =
      let found = any_to (hides oldest w) whole hidden in
      let parts = hides_parts oldest w found.one found.holds in
      let other = came_at found.one.over oldest parts.passed in
      any_from (hides oldest w) found.one (filter stays whole) (in_filter stays found.one whole found.there (over_stays found.one other.at other.is)) found.holds

  pub short_without : IsShortOf oldest now settled (without number whole) (without number hs)
  short_without =
      record {
        settled_past = short.settled_past;
        timed = λ w at. short.timed w (from_filter stays w whole at).there;
        kept = λ w at seen. kept_one w (from_filter stays w whole at).there (from_filter stays w whole at).passes seen;
        from = λ h at. from_one h (from_filter stays h hs at).passes (short.from h (from_filter stays h hs at).there);
      }
    where
      kept_one : (w : Holding) → IsOneOf w whole → stays w ≡ true → is_hidden (filter stays whole) oldest w ≡ false → HasFor settled (filter stays hs) w
      kept_one w at passes seen =
          let has = short.kept w at
          (false_from_ne_true (is_hidden whole oldest w) (λ hidden. both_ways (is_hidden (filter stays whole) oldest w) seen (left_hidden w hidden))) in
          let left : stays has.one ≡ true =
          ⊎_elim (λ same. ap stays same ∙ passes)
          (λ rest. ⊎_elim (λ (old : IsSettledOf settled has.one w). over_stays has.one 0 (ap (λ (x : Holding). x.over) old.is))
          (λ (one : IsCrowdOf has.one w). crowd_stays has.one one.many) rest) has.stands in
          record { one = has.one; there = in_filter stays has.one hs has.there left; stands = has.stands }

      from_one : (h : Holding) → stays h ≡ true → IsFrom now settled whole h → IsFrom now settled (filter stays whole) h
      from_one h passes origin =
          ⊎_elim (λ same. inl same)
          (λ other. inr (⊎_elim (λ (kept : IsKept settled whole h). inl (record { there = in_filter stays h whole kept.there passes; since = kept.since }))
          (λ one. inr one) other)) origin

-- ---- pruned by the oldest in flight

module _ (oldest late now settled : ℕ) (whole hs : List Holding) (short : IsShortOf oldest now settled whole hs) (grows : oldest ≤ late) where
  pub short_pruned : IsShortOf late now settled whole (pruned late hs)
  short_pruned =
      record {
        settled_past = short.settled_past;
        timed = short.timed;
        kept = λ w at seen. kept_one w at seen;
        from = λ h at. short.from h (from_filter (λ x. not (is_hidden hs late x)) h hs at).there;
      }
    where
      kept_one : (w : Holding) → IsOneOf w whole → is_hidden whole late w ≡ false → HasFor settled (pruned late hs) w
      kept_one w at seen =
          let has = short.kept w at
          (false_from_ne_true (is_hidden whole oldest w) (λ hidden. both_ways (is_hidden whole late w) seen (hidden_later whole oldest late w grows hidden))) in
          let left : is_hidden hs late has.one ≡ false =
          false_from_ne_true (is_hidden hs late has.one)
          (λ hidden. both_ways (is_hidden whole late w) seen
          (hidden_too oldest now settled whole hs short late has.one w has.stands hidden)) in
          record {
            one = has.one;
            there = in_filter (λ x. not (is_hidden hs late x)) has.one hs has.there (not_from_false (is_hidden hs late has.one) left);
            stands = has.stands;
          }

-- ---- crowds

-- all of it becomes one that stands for all writers that have begun
pub short_crowd : (oldest now settled : ℕ) (whole hs : List Holding) → IsShortOf oldest now settled whole hs
    → IsShortOf oldest now settled whole (crowd now ∷ [])
short_crowd oldest now settled whole hs short =
    record {
      settled_past = short.settled_past;
      timed = short.timed;
      kept = λ w at seen. record { one = crowd now; there = inl refl; stands = inr (inr (stands_for w (short.timed w at))) };
      from = λ h at. ⊎_elim (λ same. subst (λ x. IsFrom now settled whole x) (sym same) origin) (λ none. absurd none) at;
    }
  where
    stands_for : (w : Holding) → IsTimed now w → IsCrowdOf (crowd now) w
    stands_for w timed = record { many = refl; value = refl; begun = timed.begun; ended = λ time over. absurd (cc) }

    origin : IsFrom now settled whole (crowd now)
    origin = inr (inr (record { many = refl; unsure = refl; begun = omega arith }))

-- and it allows any byte
pub crowd_tells : (now number byte : ℕ) → may_be_told (crowd now ∷ []) number byte ≡ true
crowd_tells now number byte = refl

-- ---- crowds that are over

closed_kept : (oldest now : ℕ) (h : Holding) (time : ℕ) → h.over ≡ Some time → closed oldest now h ≡ h
closed_kept oldest now h time over =
    let still : (h.many && is_none h.over && nat_lt h.begun oldest) ≡ false =
    and_left (h.many && is_none h.over) (nat_lt h.begun oldest) (and_right h.many (is_none h.over) (not_none h time over)) in
    rw still refl

pub closed_alone : (oldest now : ℕ) (h : Holding) → h.many ≡ false → closed oldest now h ≡ h
closed_alone oldest now h alone =
    let still : (h.many && is_none h.over && nat_lt h.begun oldest) ≡ false =
    and_left (h.many && is_none h.over) (nat_lt h.begun oldest) (and_left h.many (is_none h.over) alone) in
    rw still refl

pub map_same : (f : Holding → Holding) (hs : List Holding) → ((h : Holding) → IsOneOf h hs → f h ≡ h) → map f hs ≡ hs
map_same f [] same = refl
map_same f (h ∷ hs) same = ap (λ x. x ∷ map f hs) (same h (inl refl)) ∙ ap (λ xs. h ∷ xs) (map_same f hs (λ x at. same x (inr at)))

module _ (late now : ℕ) (whole : List Holding) (none_older : NoneOlder late whole) where
  by_test : (h : Holding) (P : Holding → Type 0) → ((h.many && is_none h.over && nat_lt h.begun late) ≡ true → P (record h { over = Some now })) → P h
      → P (closed late now h)
  by_test h P passes fails = by_is (h.many && is_none h.over && nat_lt h.begun late) refl
    where
      by_is : (is : Bool) → (h.many && is_none h.over && nat_lt h.begun late) ≡ is → P (if is then record h { over = Some now } else h)
      by_is true holds = passes holds
      by_is false holds = fails

  close_change : IsChange now whole (closed late now)
  close_change =
      record {
        ended = λ h time over. closed_kept late now h time over;
        begun = λ h. by_test h (λ x. x.begun ≡ h.begun) (λ holds. refl) refl;
        many = λ h. by_test h (λ x. x.many ≡ h.many) (λ holds. refl) refl;
        over = λ h time none. by_test h (λ x. x.over ≡ Some time → time ≡ now) (λ holds some. cc) (λ some. absurd (cc));
        unsure = λ h many unsure. by_test h (λ x. x.sure ≡ false) (λ holds. unsure) unsure;
        crowds = λ h w at timed one.
            subst (λ x. IsCrowdOf (closed late now h) x) (sym (closed_alone late now w timed.alone))
            (by_test h (λ x. IsCrowdOf x w) (λ holds. over_now h w at timed one holds) one);
      }
    where
      over_now : (h w : Holding) → IsOneOf w whole → IsTimed now w → IsCrowdOf h w → (h.many && is_none h.over && nat_lt h.begun late) ≡ true
          → IsCrowdOf (record h { over = Some now }) w
      over_now h w at timed one holds =
          let parts = and_parts (h.many && is_none h.over) (nat_lt h.begun late) holds in
          let early : h.begun < late = ltb-true h.begun late parts.1 in
          record {
            many = one.many;
            value = one.value;
            begun = one.begun;
            ended = λ time over.
                let same : now ≡ time = cc in
                by_option w.over ((end : ℕ) × (w.over ≡ Some end) × (end ≤ time))
                (λ none. absurd (omega (arith, none_older w at none, early, one.begun)))
                (λ end is. (end, is, omega (arith, same, timed.past end is)));
          }

-- a crowd is over once none that it stands for is in flight
pub short_closed : (oldest late now settled : ℕ) (whole hs : List Holding) → NoneOlder late whole → IsShortOf oldest now settled whole hs
    → IsShortOf oldest now settled whole (with_closed late now hs)
short_closed oldest late now settled whole hs none_older short =
    let same : map (closed late now) whole ≡ whole =
    map_same (closed late now) whole (λ w at. closed_alone late now w (short.timed w at).alone) in
    subst (λ ws. IsShortOf oldest now settled ws (with_closed late now hs)) same
    (short_changed oldest now settled whole hs (closed late now) (close_change late now whole none_older) short)

-- ---- one that is left alone

-- one that is left alone, and is over, is a beginning from now on
pub short_settled : (oldest now settled : ℕ) (whole : List Holding) (h : Holding) (time : ℕ) → h.over ≡ Some time
    → IsShortOf oldest now settled whole (h ∷ [])
    → IsShortOf oldest now now whole (beginning h.value ∷ [])
short_settled oldest now settled whole h time over short =
    record {
      settled_past = omega arith;
      timed = short.timed;
      kept = λ w at seen. kept_one w (short.timed w at) (short.kept w at seen);
      from = λ x at. ⊎_elim (λ same. inl (same ∙ ap (λ (y : Holding). beginning y.value) (sym same))) (λ none. absurd none) at;
    }
  where
    by_end : (w : Holding) (end : ℕ) → w.over ≡ Some end → IsTimed now w → (h.value ≡ None) ⊎ (h.value ≡ w.value) → HasFor now (beginning h.value ∷ []) w
    by_end w end is timed value =
        record {
          one = beginning h.value;
          there = inl refl;
          stands = inr (inl (record { is = refl; value = value; time = end; over = is; past = timed.past end is }));
        }

    by_stands : (w : Holding) → IsTimed now w → StandsFor settled h w → HasFor now (beginning h.value ∷ []) w
    by_stands w timed stands =
        ⊎_elim (λ same. by_end w time (ap (λ (x : Holding). x.over) (sym same) ∙ over) timed (inr (ap (λ (x : Holding). x.value) same)))
        (λ rest. ⊎_elim (λ (old : IsSettledOf settled h w). by_end w old.time old.over timed old.value)
        (λ (one : IsCrowdOf h w). let end = one.ended time over in by_end w end.0 end.1 timed (inl one.value)) rest) stands

    kept_one : (w : Holding) → IsTimed now w → HasFor settled (h ∷ []) w → HasFor now (beginning h.value ∷ []) w
    kept_one w timed has =
        by_stands w timed (⊎_elim (λ same. subst (λ x. StandsFor settled x w) same has.stands) (λ none. absurd none) has.there)

-- ---- pruning changes no answer

-- two tests are one where each follows from the other
pub same_tests : (a b : Bool) → (a ≡ true → b ≡ true) → (b ≡ true → a ≡ true) → a ≡ b
same_tests true b there back = sym (there refl)
same_tests false true there back = back refl
same_tests false false there back = refl

-- one begins before it ends
abbrev pub OverLater : Holding → Type 0
OverLater h = (time : ℕ) → h.over ≡ Some time → h.begun ≤ time

module _ (hs : List Holding) (timed : (h : Holding) → IsOneOf h hs → OverLater h) (oldest number : ℕ) (late : oldest ≤ number) where
  abbrev left : Holding → Bool
  left h = not (is_hidden hs oldest h)

  -- one that hides another from a reader is left where that is: else what hides it hides the other too
  hiding_left : (h o : Holding) → IsOneOf o hs → is_hidden hs oldest h ≡ false → hides number h o ≡ true → left o ≡ true
  hiding_left h o at seen hiding =
      not_from_false (is_hidden hs oldest o) (false_from_ne_true (is_hidden hs oldest o) (λ hidden. by_found (any_to (hides oldest o) hs hidden)))
    where
      by_found : HasOne (λ x. hides oldest o x ≡ true) hs → ⊥
      by_found found =
          let mine = hides_parts number h o hiding in
          let other = hides_parts oldest o found.one found.holds in
          let one = came_at h.over o.begun mine.before in
          let next = came_at o.over found.one.begun other.before in
          both_ways (is_hidden hs oldest h) seen
          (any_from (hides oldest h) found.one hs found.there
          (hides_from oldest h found.one
          (record {
            before = before_from h.over one.at found.one.begun one.is (omega (arith, one.before, next.before, timed o at next.at next.is));
            sure = other.sure;
            passed = other.passed;
          })))

  same_hidden : (h : Holding) → left h ≡ true → is_hidden (pruned oldest hs) number h ≡ is_hidden hs number h
  same_hidden h passes = same_tests (is_hidden (pruned oldest hs) number h) (is_hidden hs number h) forward backward
    where
      forward : is_hidden (pruned oldest hs) number h ≡ true → is_hidden hs number h ≡ true
      forward hidden =
          let found = any_to (hides number h) (pruned oldest hs) hidden in
          any_from (hides number h) found.one hs (from_filter left found.one hs found.there).there found.holds

      backward : is_hidden hs number h ≡ true → is_hidden (pruned oldest hs) number h ≡ true
      backward hidden =
          let found = any_to (hides number h) hs hidden in
          any_from (hides number h) found.one (pruned oldest hs)
          (in_filter left found.one hs found.there
          (hiding_left h found.one found.there (not-true (is_hidden hs oldest h) passes) found.holds))
          found.holds

  -- what a reader may be told of a holding that passes a test
  abbrev tells : List Holding → (Holding → Bool) → Bool
  tells xs test = list_any (λ h. may_find xs number h && test h) xs

  pub same_told : (test : Holding → Bool) → tells (pruned oldest hs) test ≡ tells hs test
  same_told test = same_tests (tells (pruned oldest hs) test) (tells hs test) forward backward
    where
      forward : tells (pruned oldest hs) test ≡ true → tells hs test ≡ true
      forward some =
          let found = any_to (λ h. may_find (pruned oldest hs) number h && test h) (pruned oldest hs) some in
          let at = from_filter left found.one hs found.there in
          any_from (λ h. may_find hs number h && test h) found.one hs at.there
          (ap (λ b. not (is_own number found.one) && not b && test found.one) (sym (same_hidden found.one at.passes)) ∙ found.holds)

      backward : tells hs test ≡ true → tells (pruned oldest hs) test ≡ true
      backward some =
          let found = any_to (λ h. may_find hs number h && test h) hs some in
          let h = found.one in
          let finds = and_parts (may_find hs number h) (test h) found.holds in
          let seen = not-true (is_hidden hs number h) (and_parts (not (is_own number h)) (not (is_hidden hs number h)) finds.0).1 in
          let passes : left h ≡ true =
          not_from_false (is_hidden hs oldest h)
          (false_from_ne_true (is_hidden hs oldest h)
          (λ hidden. both_ways (is_hidden hs number h) seen (hidden_later hs oldest number h late hidden))) in
          any_from (λ x. may_find (pruned oldest hs) number x && test x) h (pruned oldest hs) (in_filter left h hs found.there passes)
          (ap (λ b. not (is_own number h) && not b && test h) (same_hidden h passes) ∙ found.holds)

  -- pruning changes no answer to a reader that is no older
  pub pruned_tells : (byte : ℕ) → may_be_told (pruned oldest hs) number byte ≡ may_be_told hs number byte
  pruned_tells byte = same_told (λ h. may_show h.value byte)

-- ---- as the calls of a list have it

-- a request has ended, and none in flight is older than one
pub short_pruned_at : (oldest late now settled : ℕ) (whole hs : List Holding) → oldest ≤ late → NoneOlder late whole → IsShortOf oldest now settled whole hs
    → IsShortOf late now settled whole (pruned_at late now hs)
short_pruned_at oldest late now settled whole hs grows none_older short =
    short_pruned oldest late now settled whole (with_closed late now hs) (short_closed oldest late now settled whole hs none_older short) grows

-- one that is left alone is settled
pub short_settled_as : (oldest now settled : ℕ) (whole hs : List Holding) (value : Option ℕ) → settled_as hs ≡ Some value → IsShortOf oldest now settled whole hs
    → IsShortOf oldest now now whole (beginning value ∷ [])
short_settled_as oldest now settled whole [] value is short = absurd (cc)
short_settled_as oldest now settled whole (h ∷ []) value is short = by_over h.over refl is
  where
    by_over : (over : Option ℕ) → h.over ≡ over → (if is_some over then Some h.value else None) ≡ Some value
        → IsShortOf oldest now now whole (beginning value ∷ [])
    by_over None none same = absurd (cc)
    by_over (Some time) at same =
        let own : h.value ≡ value = cc in
        subst (λ v. IsShortOf oldest now now whole (beginning v ∷ [])) own (short_settled oldest now settled whole h time at short)
short_settled_as oldest now settled whole (h ∷ other ∷ rest) value is short = absurd (cc)
