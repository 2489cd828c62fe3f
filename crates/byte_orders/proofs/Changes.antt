-- Each event is a change by which a short list stays one: of the holding of one request, a reset, and crowds that are over.
use Rattle.std.proofs.Common.{◌≡◌, ℕ, ◌≤◌, ◌==◌, Bool, true, false, not, List, Option, Some, None, is_none, if◌then◌else◌, refl, sym, ◌∙◌, ap, subst, arith}
use Rattle.std.proofs.lemmas.Bool.{and_left, and_right}
use Rattle.byte_orders.specs.Holdings.{Holding, changed, cut_off, is_open_of, is_own, with_change, with_reset}
use Rattle.byte_orders.specs.Keeping.{IsCrowdOf, IsShortOf, IsTimed}
use Rattle.byte_orders.proofs.KeptShort.{IsChange, short_changed}

-- one that is over isn't without an end
pub not_none : (h : Holding) (time : ℕ) → h.over ≡ Some time → is_none h.over ≡ false
not_none h time over = ap is_none over

-- a crowd beside one that keeps its beginning, and is as before where it is over
pub crowd_beside : (h w v : Holding) → v.begun ≡ w.begun → ((time : ℕ) → w.over ≡ Some time → v ≡ w) → IsCrowdOf h w → IsCrowdOf h v
crowd_beside h w v begun kept crowd = record {
  many = crowd.many;
  value = crowd.value;
  begun = subst (λ n. n ≤ h.begun) (sym begun) crowd.begun;
  ended = λ time over.
      let end = crowd.ended time over in
      (end.0, ap (λ (x : Holding). x.over) (kept end.0 end.1) ∙ end.1, end.2);
}

-- ---- the holding of one request changes, which hasn't ended

-- what may change of it: not its writer; and if it ends, it does so now
pub record IsOwnChange (now : ℕ) (change : Holding → Holding) : Type 0 where
  pub begun : (h : Holding) → (change h).begun ≡ h.begun
  pub many : (h : Holding) → (change h).many ≡ h.many
  pub over : (h : Holding) (time : ℕ) → h.over ≡ None → (change h).over ≡ Some time → time ≡ now

module _ (number now : ℕ) (change : Holding → Holding) (own : IsOwnChange now change) (whole : List Holding) where
  abbrev by_test : (h : Holding) (P : Holding → Type 0) → P (change h) → P h → (is : Bool) → P (if is then change h else h)
  by_test h P passes fails true = passes
  by_test h P passes fails false = fails

  changed_ended : (h : Holding) (time : ℕ) → h.over ≡ Some time → changed number change h ≡ h
  changed_ended h time over =
      let closed : is_open_of number h ≡ false = and_right (is_own number h) (is_none h.over) (not_none h time over) in
      rw closed refl

  changed_crowd : (h : Holding) → h.many ≡ true → changed number change h ≡ h
  changed_crowd h many =
      let other : is_own number h ≡ false = and_left (not h.many) (h.begun == number) (ap not many) in
      let closed : is_open_of number h ≡ false = and_left (is_own number h) (is_none h.over) other in
      rw closed refl

  changed_begun : (h : Holding) → (changed number change h).begun ≡ h.begun
  changed_begun h = by_test h (λ x. x.begun ≡ h.begun) (own.begun h) refl (is_open_of number h)

  pub own_change : IsChange now whole (changed number change)
  own_change = record {
    ended = changed_ended;
    begun = changed_begun;
    many = λ h. by_test h (λ x. x.many ≡ h.many) (own.many h) refl (is_open_of number h);
    over = λ h time none. by_test h (λ x. x.over ≡ Some time → time ≡ now) (own.over h time none) (λ some. absurd (cc)) (is_open_of number h);
    unsure = λ h many unsure. ap (λ (x : Holding). x.sure) (changed_crowd h many) ∙ unsure;
    crowds = λ h w at timed crowd.
        subst (λ x. IsCrowdOf x (changed number change w)) (sym (changed_crowd h crowd.many))
        (crowd_beside h w (changed number change w) (changed_begun w) (λ time over. changed_ended w time over) crowd);
  }

module _ (oldest now settled number : ℕ) (whole hs : List Holding) (short : IsShortOf oldest now settled whole hs) where
  pub by_change : (change : Holding → Holding) → IsOwnChange now change
      → IsShortOf oldest now settled (with_change number change whole) (with_change number change hs)
  by_change change own = short_changed oldest now settled whole hs (changed number change) (own_change number now change own whole) short

-- what becomes of the holding of one request
pub own_value : (now : ℕ) (value : Option ℕ) → IsOwnChange now (λ h. record h { value = value })
own_value now value = record { begun = λ h. refl; many = λ h. refl; over = λ h time none some. absurd (cc) }

pub own_sure : (now : ℕ) → IsOwnChange now (λ h. record h { sure = true })
own_sure now = record { begun = λ h. refl; many = λ h. refl; over = λ h time none some. absurd (cc) }

pub own_failed : (now : ℕ) → IsOwnChange now (λ h. record h { value = None; sure = false })
own_failed now = record { begun = λ h. refl; many = λ h. refl; over = λ h time none some. absurd (cc) }

pub own_ended : (now : ℕ) → IsOwnChange now (λ h. record h { over = Some now })
own_ended now = record { begun = λ h. refl; many = λ h. refl; over = λ h time none some. cc }

-- ---- a reset, and crowds that are over

abbrev pub by_option : (o : Option ℕ) (P : Type 0) → (o ≡ None → P) → ((time : ℕ) → o ≡ Some time → P) → P
by_option o P none some = by_is o refl
  where
    by_is : (is : Option ℕ) → o ≡ is → P
    by_is None at = none at
    by_is (Some time) at = some time at

cut_kept : (now : ℕ) (h : Holding) (time : ℕ) → h.over ≡ Some time → cut_off now h ≡ h
cut_kept now h time over = rw (not_none h time over) refl

cut_now : (now : ℕ) (h : Holding) → h.over ≡ None → cut_off now h ≡ record h { over = Some now; sure = false }
cut_now now h none =
    let cut : is_none h.over ≡ true = ap is_none none in
    rw cut refl

pub reset_change : (now : ℕ) (whole : List Holding) → IsChange now whole (cut_off now)
reset_change now whole =
    record {
      ended = λ h time over. cut_kept now h time over;
      begun = begun;
      many = λ h. by_option h.over ((cut_off now h).many ≡ h.many) (λ none. ap (λ (x : Holding). x.many) (cut_now now h none))
          (λ time over. ap (λ (x : Holding). x.many) (cut_kept now h time over));
      over = λ h time none over.
          let same : Some now ≡ Some time = sym (ap (λ (x : Holding). x.over) (cut_now now h none)) ∙ over in
          cc;
      unsure = λ h many unsure. by_option h.over ((cut_off now h).sure ≡ false) (λ none. ap (λ (x : Holding). x.sure) (cut_now now h none))
          (λ time over. ap (λ (x : Holding). x.sure) (cut_kept now h time over) ∙ unsure);
      crowds = λ h w at timed crowd. by_option h.over (IsCrowdOf (cut_off now h) (cut_off now w)) (λ none. cut_crowd h w timed crowd none)
          (λ time over. subst (λ x. IsCrowdOf x (cut_off now w)) (sym (cut_kept now h time over))
          (crowd_beside h w (cut_off now w) (begun w) (λ end is. cut_kept now w end is) crowd));
    }
  where
    begun : (h : Holding) → (cut_off now h).begun ≡ h.begun
    begun h = by_option h.over ((cut_off now h).begun ≡ h.begun) (λ none. ap (λ (x : Holding). x.begun) (cut_now now h none))
        (λ time over. ap (λ (x : Holding). x.begun) (cut_kept now h time over))

    over_by_now : (w : Holding) (time : ℕ) → IsTimed now w → now ≡ time → (end : ℕ) × ((cut_off now w).over ≡ Some end) × (end ≤ time)
    over_by_now w time timed same =
        by_option w.over ((end : ℕ) × ((cut_off now w).over ≡ Some end) × (end ≤ time))
        (λ none. (now, ap (λ (x : Holding). x.over) (cut_now now w none), omega (arith, same)))
        (λ end over. (end, ap (λ (x : Holding). x.over) (cut_kept now w end over) ∙ over, omega (arith, same, timed.past end over)))

    cut_crowd : (h w : Holding) → IsTimed now w → IsCrowdOf h w → h.over ≡ None → IsCrowdOf (cut_off now h) (cut_off now w)
    cut_crowd h w timed crowd none =
        subst (λ x. IsCrowdOf x (cut_off now w)) (sym (cut_now now h none))
        (record {
          many = crowd.many;
          value = crowd.value;
          begun = subst (λ n. n ≤ h.begun) (sym (begun w)) crowd.begun;
          ended = λ time over. let same : now ≡ time = cc in over_by_now w time timed same;
        })

pub short_reset : (oldest now settled : ℕ) (whole hs : List Holding) → IsShortOf oldest now settled whole hs
    → IsShortOf oldest now settled (with_reset now whole) (with_reset now hs)
short_reset oldest now settled whole hs short = short_changed oldest now settled whole hs (cut_off now) (reset_change now whole) short
