-- What the whole list lets a reader be told a short one does, and what is hidden stays hidden as numbers grow.
use Rattle.std.proofs.Common.{◌≡◌, ℕ, ◌<◌, ◌≤◌, ◌==◌, true, false, ◌&&◌, not, List, Option, Some, None, ⊎_elim, refl, sym, ◌∙◌, ap, subst, true≢false, arith}
use Rattle.std.proofs.lemmas.Bool.{and_from, and_parts, and_left, both_ways, false_from_ne_true, lt-ltb, ltb-true, ne_eqb, not-true, not_from_false}
use Rattle.byte_orders.specs.Accesses.{IsOneOf, is_before, may_show}
use Rattle.byte_orders.specs.Holdings.{Holding, all_holdings, comes_before, has_passed, hides, is_hidden, is_own, may_be_told, may_find}
use Rattle.byte_orders.specs.Keeping.{HasFor, IsCrowdOf, IsFrom, IsRightlyBlamed, IsShortOf, StandsFor}
use Rattle.byte_orders.proofs.Members.{HasOne, any_from, any_to}
use Rattle.byte_orders.proofs.ToldRightly.{blamed_rightly, never_before_start}

-- ---- times

-- when it came, if it came before a time
pub record CameAt (came : Option ℕ) (time : ℕ) : Type 0 where
  pub at : ℕ
  pub is : came ≡ Some at
  pub before : at < time

pub came_at : (came : Option ℕ) (time : ℕ) → is_before came time ≡ true → CameAt came time
came_at None time before = absurd (true≢false (sym before))
came_at (Some at) time before = record { at = at; is = refl; before = ltb-true at time before }

pub before_from : (came : Option ℕ) (at time : ℕ) → came ≡ Some at → at < time → is_before came time ≡ true
before_from came at time is before = rw is (lt-ltb at time before)

pub before_later : (came : Option ℕ) (early late : ℕ) → early ≤ late → is_before came early ≡ true → is_before came late ≡ true
before_later came early late grows before =
    let one = came_at came early before in
    before_from came one.at late one.is (omega (arith, grows, one.before))

-- ---- hidden ones

-- one that hides another, by its parts
pub record HidesIt (reader : ℕ) (h o : Holding) : Type 0 where
  pub before : is_before h.over o.begun ≡ true
  pub sure : o.sure ≡ true
  pub passed : is_before o.over reader ≡ true

pub hides_parts : (reader : ℕ) (h o : Holding) → hides reader h o ≡ true → HidesIt reader h o
hides_parts reader h o is =
    let parts = and_parts (comes_before h o) (has_passed reader o) is in
    let passed = and_parts o.sure (is_before o.over reader) parts.1 in
    record { before = parts.0; sure = passed.0; passed = passed.1 }

pub hides_from : (reader : ℕ) (h o : Holding) → HidesIt reader h o → hides reader h o ≡ true
hides_from reader h o parts = and_from (comes_before h o) (has_passed reader o) parts.before (and_from o.sure (is_before o.over reader) parts.sure parts.passed)

-- what is hidden from a reader is so from each that began later
pub hidden_later : (hs : List Holding) (early late : ℕ) (h : Holding) → early ≤ late → is_hidden hs early h ≡ true → is_hidden hs late h ≡ true
hidden_later hs early late h grows hidden =
    let found = any_to (hides early h) hs hidden in
    let parts = hides_parts early h found.one found.holds in
    any_from (hides late h) found.one hs found.there
    (hides_from late h found.one
    (record { before = parts.before; sure = parts.sure; passed = before_later found.one.over early late grows parts.passed }))

-- ---- a short list beside the whole

module _ (oldest now settled : ℕ) (whole hs : List Holding) (short : IsShortOf oldest now settled whole hs) where
  -- one that stands for another comes before what began since, where that does
  before_too : (h w o : Holding) → StandsFor settled h w → settled < o.begun → is_before h.over o.begun ≡ true → is_before w.over o.begun ≡ true
  before_too h w o stands since before =
      ⊎_elim (λ same. ap (λ (x : Holding). is_before x.over o.begun) (sym same) ∙ before)
      (λ other. ⊎_elim (λ old. before_from w.over old.time o.begun old.over (omega (arith, old.past, since))) (λ crowd. by_crowd crowd) other) stands
    where
      by_crowd : IsCrowdOf h w → is_before w.over o.begun ≡ true
      by_crowd crowd =
          let one = came_at h.over o.begun before in
          let end = crowd.ended one.at one.is in
          before_from w.over end.0 o.begun end.1 (omega (arith, end.2, one.before))

  -- where one is hidden on the short list, what it stands for is hidden on the whole one
  pub hidden_too : (reader : ℕ) (h w : Holding) → StandsFor settled h w → is_hidden hs reader h ≡ true → is_hidden whole reader w ≡ true
  hidden_too reader h w stands hidden = by_origin (any_to (hides reader h) hs hidden)
    where
      by_parts : (o : Holding) → HidesIt reader h o → IsFrom now settled whole o → is_hidden whole reader w ≡ true
      by_parts o parts origin =
          ⊎_elim
          (λ same. absurd (both_ways (is_before h.over 0) (never_before_start h.over) (ap (λ (x : Holding). is_before h.over x.begun) (sym same) ∙ parts.before)))
          (λ other.
          ⊎_elim
          (λ kept. any_from (hides reader w) o whole kept.there
          (hides_from reader w o (record { before = before_too h w o stands kept.since parts.before; sure = parts.sure; passed = parts.passed })))
          (λ crowd. absurd (both_ways o.sure crowd.unsure parts.sure)) other) origin

      by_origin : HasOne (λ o. hides reader h o ≡ true) hs → is_hidden whole reader w ≡ true
      by_origin found = by_parts found.one (hides_parts reader h found.one found.holds) (short.from found.one found.there)

  -- one that stands for another is no request's own where that isn't
  own_too : (number : ℕ) (h w : Holding) → 0 < number → StandsFor settled h w → is_own number w ≡ false → is_own number h ≡ false
  own_too number h w positive stands other =
      ⊎_elim (λ same. ap (λ (x : Holding). is_own number x) same ∙ other)
      (λ rest. ⊎_elim (λ old. ap (λ (x : Holding). is_own number x) old.is ∙ ne_eqb 0 number (λ same. omega (arith, positive, same)))
      (λ crowd. and_left (not h.many) (h.begun == number) (ap not crowd.many)) rest) stands

  show_too : (byte : ℕ) (h w : Holding) → StandsFor settled h w → may_show w.value byte ≡ true → may_show h.value byte ≡ true
  show_too byte h w stands shows =
      ⊎_elim (λ same. ap (λ (x : Holding). may_show x.value byte) same ∙ shows)
      (λ rest.
      ⊎_elim (λ old. ⊎_elim (λ none. ap (λ v. may_show v byte) none) (λ same. ap (λ v. may_show v byte) same ∙ shows) old.value)
      (λ crowd. ap (λ v. may_show v byte) crowd.value) rest) stands

  -- what the whole list lets a reader be told the short one does
  pub still_told : (number byte : ℕ) → 0 < number → oldest ≤ number → may_be_told whole number byte ≡ true → may_be_told hs number byte ≡ true
  still_told number byte positive late told = by_found (any_to (λ w. may_find whole number w && may_show w.value byte) whole told)
    where
      by_one : (w : Holding) → IsOneOf w whole → is_own number w ≡ false → is_hidden whole number w ≡ false → may_show w.value byte ≡ true → HasFor settled hs w
          → may_be_told hs number byte ≡ true
      by_one w there other seen shows has =
          let h = has.one in
          let unhidden : is_hidden hs number h ≡ false =
          false_from_ne_true (is_hidden hs number h)
          (λ hidden. both_ways (is_hidden whole number w) seen (hidden_too number h w has.stands hidden)) in
          any_from (λ x. may_find hs number x && may_show x.value byte) h hs has.there
          (and_from (may_find hs number h) (may_show h.value byte)
          (and_from (not (is_own number h)) (not (is_hidden hs number h))
          (not_from_false (is_own number h) (own_too number h w positive has.stands other))
          (not_from_false (is_hidden hs number h) unhidden))
          (show_too byte h w has.stands shows))

      by_found : HasOne (λ w. (may_find whole number w && may_show w.value byte) ≡ true) whole → may_be_told hs number byte ≡ true
      by_found found =
          let w = found.one in
          let parts = and_parts (may_find whole number w) (may_show w.value byte) found.holds in
          let finds = and_parts (not (is_own number w)) (not (is_hidden whole number w)) parts.0 in
          let seen = not-true (is_hidden whole number w) finds.1 in
          let early : is_hidden whole oldest w ≡ false =
          false_from_ne_true (is_hidden whole oldest w)
          (λ hidden. both_ways (is_hidden whole number w) seen (hidden_later whole oldest number w late hidden)) in
          by_one w found.there (not-true (is_own number w) finds.0) seen parts.1 (short.kept w found.there early)

-- what a short list doesn't let a reader be told no order explains
pub short_rightly : (hs : List Holding) (number byte : ℕ) → may_be_told hs number byte ≡ false → IsRightlyBlamed hs number byte
short_rightly hs number byte none oldest now settled start accesses timed begun late short =
    let positive : 0 < number = subst (λ n. 0 < n) begun.2 (timed.after_start begun.0 begun.1) in
    blamed_rightly start accesses number byte timed begun
    (false_from_ne_true (may_be_told (all_holdings start accesses) number byte)
    (λ told. both_ways (may_be_told hs number byte) none
    (still_told oldest now settled (all_holdings start accesses) hs short number byte positive late told)))
