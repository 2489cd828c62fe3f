-- The last one ahead of a reader that gives something: what the reader finds is what it gives, and in an order that keeps real time nothing hides it.
use Rattle.std.proofs.Common.{◌≡◌, ℕ, ◌≤◌, ◌==◌, Bool, true, false, [], ◌∷◌, Option, Some, None, if◌then◌else◌, inl, inr, ⊎_elim, refl, sym, ◌∙◌, ap, arith}
use Rattle.std.specs.Prelude.{option_map, unwrap_or}
use Rattle.std.proofs.lemmas.Bool.{both_ways, eqb-true, eqb-false}
use Rattle.byte_orders.specs.Accesses.{Access, AreDistinct, IsOneOf, KeepsRealTime, Order, ended_before, is_before, value_at, with_given}
use Rattle.byte_orders.specs.Holdings.{Holding, comes_before, holding_of}
use Rattle.byte_orders.proofs.Members.{all_of}

-- what the holding of an access says of it
pub record IsHoldingOf (a : Access) (g : Holding) : Type 0 where
  pub gives : a.gives ≡ Some g.value
  pub begun : g.begun ≡ a.begun
  pub over : g.over ≡ a.ended
  pub sure : g.sure ≡ a.sure
  pub alone : g.many ≡ false

pub holding_parts : (a : Access) (g : Holding) → holding_of a ≡ Some g → IsHoldingOf a g
holding_parts a g is = by_gives a.gives refl is
  where
    by_gives : (gives : Option (Option ℕ)) → a.gives ≡ gives
        → option_map (λ value. record { value = value; begun = a.begun; over = a.ended; sure = a.sure; many = false }) gives ≡ Some g → IsHoldingOf a g
    by_gives None none same = absurd (cc)
    by_gives (Some value) some same =
        let own : record { value = value; begun = a.begun; over = a.ended; sure = a.sure; many = false } ≡ g = cc in
        record {
          gives = some ∙ ap (λ (h : Holding). Some h.value) own;
          begun = ap (λ (h : Holding). h.begun) (sym own);
          over = ap (λ (h : Holding). h.over) (sym own);
          sure = ap (λ (h : Holding). h.sure) (sym own);
          alone = ap (λ (h : Holding). h.many) (sym own);
        }

-- the holding of the last that gave something, with one more access
abbrev pub after : Holding → Access → Holding
after h a = unwrap_or (holding_of a) h

-- that of the last one ahead of the access that began at a number
abbrev pub last_at : Holding → Order → ℕ → Holding
last_at h [] number = h
last_at h (a ∷ later) number = if a.begun == number then h else last_at (after h a) later number

given_value : (h : Holding) (a : Access) → with_given h.value a.gives ≡ (after h a).value
given_value h a = by_gives a.gives
  where
    by_gives : (gives : Option (Option ℕ)) → with_given h.value gives
        ≡ (unwrap_or (option_map (λ value. record { value = value; begun = a.begun; over = a.ended; sure = a.sure; many = false }) gives) h).value
    by_gives None = refl
    by_gives (Some value) = refl

-- what a reader finds is what the last one gives
pub last_value : (h : Holding) (order : Order) (number : ℕ) → value_at h.value order number ≡ (last_at h order number).value
last_value h [] number = refl
last_value h (a ∷ later) number = by_test (a.begun == number) (ap (λ v. value_at v later number) (given_value h a) ∙ last_value (after h a) later number)
  where
    by_test : (here : Bool) → value_at (with_given h.value a.gives) later number ≡ (last_at (after h a) later number).value
        → (if here then h.value else value_at (with_given h.value a.gives) later number) ≡ (if here then h else last_at (after h a) later number).value
    by_test true rest = refl
    by_test false rest = rest

-- what holds of the first, and of each that an order gives, holds of the last
after_holds : (P : Holding → Type 0) (h : Holding) (a : Access) → P h → ((g : Holding) → holding_of a ≡ Some g → P g) → P (after h a)
after_holds P h a first each = by_holding (holding_of a) refl
  where
    by_holding : (o : Option Holding) → holding_of a ≡ o → P (unwrap_or o h)
    by_holding None none = first
    by_holding (Some g) some = each g some

pub last_holds : (P : Holding → Type 0) (h : Holding) (order : Order) (number : ℕ) → P h
    → ((a : Access) (g : Holding) → IsOneOf a order → holding_of a ≡ Some g → P g)
    → P (last_at h order number)
last_holds P h [] number first each = first
last_holds P h (a ∷ later) number first each =
    by_test (a.begun == number) (last_holds P (after h a) later number (after_holds P h a first (λ g is. each a g (inl refl) is)) (λ b g at is. each b g (inr at) is))
  where
    by_test : (here : Bool) → P (last_at (after h a) later number) → P (if here then h else last_at (after h a) later number)
    by_test true rest = first
    by_test false rest = rest

-- it isn't the reader's own
pub last_other : (h : Holding) (order : Order) (number : ℕ) → (h.begun ≡ number → ⊥) → (last_at h order number).begun ≡ number → ⊥
last_other h [] number first = first
last_other h (a ∷ later) number first = by_test (a.begun == number) refl (λ fails. last_other (after h a) later number (next fails))
  where
    next : (a.begun == number) ≡ false → (after h a).begun ≡ number → ⊥
    next fails =
        after_holds (λ g. g.begun ≡ number → ⊥) h a first
        (λ g is same. eqb-false a.begun number fails (sym (holding_parts a g is).begun ∙ same))

    by_test : (here : Bool) → (a.begun == number) ≡ here → ((a.begun == number) ≡ false → (last_at (after h a) later number).begun ≡ number → ⊥)
        → (if here then h else last_at (after h a) later number).begun ≡ number → ⊥
    by_test true passes rest = first
    by_test false fails rest = rest fails

-- ---- in an order that keeps real time

abbrev pub EndsLater : Access → Type 0
EndsLater a = (time : ℕ) → a.ended ≡ Some time → a.begun ≤ time

-- none had ended before it began itself
pub never_before_itself : (a : Access) → EndsLater a → is_before a.ended a.begun ≡ false
never_before_itself a later = by_end a.ended refl
  where
    by_end : (ended : Option ℕ) → a.ended ≡ ended → is_before ended a.begun ≡ false
    by_end None none = refl
    by_end (Some time) some = grind (arith, later time some)

-- comes_before, said of the accesses
pub before_of : (a b : Access) (g h : Holding) → holding_of a ≡ Some g → holding_of b ≡ Some h → comes_before g h ≡ ended_before a b
before_of a b g h first second =
    let mine = holding_parts a g first in
    let other = holding_parts b h second in
    rw (mine.over, other.begun) refl

-- where one that gives something had ended before the reader began, the last one isn't over before that began
pub last_behind : (h : Holding) (order : Order) (number : ℕ) (b q : Access) (g : Holding)
    → IsOneOf b order → holding_of b ≡ Some g → IsOneOf q order → q.begun ≡ number → ended_before b q ≡ true
    → KeepsRealTime order → AreDistinct order → ((a : Access) → IsOneOf a order → EndsLater a)
    → comes_before (last_at h order number) g ≡ false
last_behind h [] number b q g at is there own ended keeps once timed = absurd at
last_behind h (a ∷ later) number b q g at is there own ended keeps once timed =
    by_test (a.begun == number) refl
    (λ elsewhere behind. last_behind (after h a) later number b q g behind is elsewhere own ended keeps.1 once.1 (λ c place. timed c (inr place)))
  where
    ends_first : b ≡ q → ⊥
    ends_first same =
        both_ways (is_before q.ended q.begun) (never_before_itself q (timed q there)) (ap (λ (c : Access). is_before c.ended q.begun) (sym same) ∙ ended)

    -- the reader stands first, so that none is behind it that had ended before it began
    here : a.begun ≡ number → ⊥
    here first =
        let reader : q ≡ a = ⊎_elim (λ same. same)
        (λ behind. absurd (eqb-false q.begun a.begun (all_of (λ c. (c.begun == a.begun) ≡ false) q later once.0 behind) (own ∙ sym first))) there in
        ⊎_elim (λ same. ends_first (same ∙ sym reader))
        (λ behind. both_ways (ended_before b a) (all_of (λ c. ended_before c a ≡ false) b later keeps.0 behind)
        (ap (λ (c : Access). is_before b.ended c.begun) (sym reader) ∙ ended)) at

    -- it is the first itself: all behind it hadn't ended before it began
    from_here : b ≡ a → comes_before (last_at (after h a) later number) g ≡ false
    from_here same =
        let mine : holding_of a ≡ Some g = ap holding_of (sym same) ∙ is in
        let own_first : after h a ≡ g = rw mine refl in
        last_holds (λ x. comes_before x g ≡ false) (after h a) later number
        (ap (λ x. comes_before x g) own_first ∙ before_of a a g g mine mine ∙ never_before_itself a (timed a (inl refl)))
        (λ c f place other. before_of c a f g other mine ∙ all_of (λ d. ended_before d a ≡ false) c later keeps.0 place)

    by_test : (first : Bool) → (a.begun == number) ≡ first
        → (IsOneOf q later → IsOneOf b later → comes_before (last_at (after h a) later number) g ≡ false)
        → comes_before (if first then h else last_at (after h a) later number) g ≡ false
    by_test true passes deeper = absurd (here (eqb-true a.begun number passes))
    by_test false fails deeper =
        let elsewhere : IsOneOf q later = ⊎_elim (λ same. absurd (eqb-false a.begun number fails (ap (λ (c : Access). c.begun) (sym same) ∙ own))) (λ place. place) there in
        ⊎_elim from_here (λ behind. deeper elsewhere behind) at
