-- The rule is right by the byte: what a reader may not be told by all that was given no order explains.
use Rattle.std.proofs.Common.{◌≡◌, ℕ, ◌<◌, ◌≤◌, ◌==◌, Bool, true, false, ◌&&◌, not, List, [], ◌∷◌, Option, Some, None, if◌then◌else◌, inl, inr, ⊎_elim, refl, sym, ◌∙◌, ap, subst, is_some, true≢false, arith}
use Rattle.std.specs.Prelude.{filter_map}
use Rattle.std.specs.List.{AllByRecursion}
use Rattle.std.proofs.lemmas.Bool.{and_from, and_parts, and_right, both_ways, eq-eqb, false_from_ne_true, ne_eqb, not_from_false}
use Rattle.byte_orders.specs.Accesses.{Access, AreDistinct, AreTimed, HasBegun, IsExplained, IsOneOf, IsOrderOf, ended_before, has_taken_effect, is_before, may_show, told_so, value_at, with_told}
use Rattle.byte_orders.specs.Holdings.{Holding, NoOrderExplains, all_holdings, beginning, comes_before, has_passed, hides, holding_of, is_hidden, is_own, may_be_told, may_find}
use Rattle.byte_orders.proofs.LastGivers.{EndsLater, holding_parts, last_at, last_behind, last_holds, last_other, last_value}
use Rattle.byte_orders.proofs.Members.{HasOne, any_from, any_to, from_filter_map, from_map, in_filter_map, in_map}

-- nothing came before time 0
pub never_before_start : (came : Option ℕ) → is_before came 0 ≡ false
never_before_start None = refl
never_before_start (Some time) = grind arith

-- what came before a time has come
pub came_before : (came : Option ℕ) (time : ℕ) → is_before came time ≡ true → is_some came ≡ true
came_before None time before = absurd (true≢false (sym before))
came_before (Some now) time before = refl

module _ (start : Option ℕ) (accesses order : List Access) (timed : AreTimed accesses) (is_order : IsOrderOf accesses order)
    (q : Access) (there : IsOneOf q accesses) (reads : IsOneOf q order) where
  abbrev whole : List Holding
  whole = all_holdings start accesses

  abbrev last : Holding
  last = last_at (beginning start) order q.begun

  ends_later : (a : Access) → IsOneOf a order → EndsLater a
  ends_later a at time = timed.ends_later a time (is_order.some a at)

  last_there : IsOneOf last whole
  last_there =
      last_holds (λ h. IsOneOf h whole) (beginning start) order q.begun (inl refl)
      (λ a g at is. inr (in_filter_map holding_of a g accesses (is_order.some a at) is))

  not_own : is_own q.begun last ≡ false
  not_own =
      and_right (not last.many) (last.begun == q.begun)
      (ne_eqb last.begun q.begun (last_other (beginning start) order q.begun (λ same. omega (arith, timed.after_start q there, same))))

  -- one that hides it would have taken effect between the two
  never_hidden : HasOne (λ o. hides q.begun last o ≡ true) whole → ⊥
  never_hidden found =
      let parts = and_parts (comes_before last found.one) (has_passed q.begun found.one) found.holds in
      let passed = and_parts found.one.sure (is_before found.one.over q.begun) parts.1 in
      ⊎_elim (λ same. both_ways (comes_before last (beginning start)) (never_before_start last.over) (ap (λ o. comes_before last o) (sym same) ∙ parts.0))
      (λ later. by_access passed.0 passed.1 parts.0 (from_filter_map holding_of found.one accesses later)) found.there
    where
      by_access : found.one.sure ≡ true → is_before found.one.over q.begun ≡ true → comes_before last found.one ≡ true
          → HasOne (λ a. holding_of a ≡ Some found.one) accesses → ⊥
      by_access sure over before giver =
          let parts = holding_parts giver.one found.one giver.holds in
          let ended : ended_before giver.one q ≡ true = ap (λ t. is_before t q.begun) (sym parts.over) ∙ over in
          let came : is_some giver.one.ended ≡ true = came_before giver.one.ended q.begun ended in
          let effect : has_taken_effect giver.one ≡ true = rw (sym parts.sure, sure, came) (grind arith) in
          both_ways (comes_before last found.one)
          (last_behind (beginning start) order q.begun giver.one q found.one (is_order.all giver.one giver.there effect) giver.holds reads refl ended
          is_order.keeps is_order.once ends_later)
          before

  pub last_found : may_find whole q.begun last ≡ true
  last_found =
      and_from (not (is_own q.begun last)) (not (is_hidden whole q.begun last)) (not_from_false (is_own q.begun last) not_own)
      (not_from_false (is_hidden whole q.begun last)
      (false_from_ne_true (is_hidden whole q.begun last) (λ hidden. never_hidden (any_to (hides q.begun last) whole hidden))))

  pub last_told : (byte : ℕ) → may_show (value_at start order q.begun) byte ≡ true → may_be_told whole q.begun byte ≡ true
  last_told byte shows =
      any_from (λ h. may_find whole q.begun h && may_show h.value byte) last whole last_there
      (and_from (may_find whole q.begun last) (may_show last.value byte) last_found
      (ap (λ v. may_show v byte) (sym (last_value (beginning start) order q.begun)) ∙ shows))

-- what one was told that some order explains it may be told
pub explained_told : (start : Option ℕ) (accesses : List Access) (q : Access) (byte : ℕ) → AreTimed accesses → IsOneOf q accesses → q.told ≡ Some byte
    → IsExplained start accesses
    → may_be_told (all_holdings start accesses) q.begun byte ≡ true
explained_told start accesses q byte timed there told explained =
    let effect : has_taken_effect q ≡ true = rw told refl in
    let reads = explained.is_order.all q there effect in
    last_told start accesses explained.order timed explained.is_order q there reads byte (explained.explains q byte reads told)

-- ---- one more told byte

module _ (number byte : ℕ) where
  same_begun : (a : Access) → (told_so number byte a).begun ≡ a.begun
  same_begun a = by_test (a.begun == number)
    where
      by_test : (here : Bool) → (if here then record a { told = Some byte } else a).begun ≡ a.begun
      by_test true = refl
      by_test false = refl

  same_end : (a : Access) → (told_so number byte a).ended ≡ a.ended
  same_end a = by_test (a.begun == number)
    where
      by_test : (here : Bool) → (if here then record a { told = Some byte } else a).ended ≡ a.ended
      by_test true = refl
      by_test false = refl

  same_holding : (a : Access) → holding_of (told_so number byte a) ≡ holding_of a
  same_holding a = by_test (a.begun == number)
    where
      by_test : (here : Bool) → holding_of (if here then record a { told = Some byte } else a) ≡ holding_of a
      by_test true = refl
      by_test false = refl

  same_holdings : (accesses : List Access) → filter_map holding_of (with_told number byte accesses) ≡ filter_map holding_of accesses
  same_holdings [] = refl
  same_holdings (a ∷ accesses) = rw (same_holding a, same_holdings accesses) refl

  others_apart : (a : Access) (accesses : List Access) → AllByRecursion (λ b. (b.begun == a.begun) ≡ false) accesses
      → AllByRecursion (λ b. (b.begun == (told_so number byte a).begun) ≡ false) (with_told number byte accesses)
  others_apart a [] all = tt
  others_apart a (b ∷ accesses) all = (rw (same_begun a, same_begun b) all.0, others_apart a accesses all.1)

  still_apart : (accesses : List Access) → AreDistinct accesses → AreDistinct (with_told number byte accesses)
  still_apart [] apart = tt
  still_apart (a ∷ accesses) apart = (others_apart a accesses apart.0, still_apart accesses apart.1)

  still_timed : (accesses : List Access) → AreTimed accesses → AreTimed (with_told number byte accesses)
  still_timed accesses timed = record {
    after_start = λ a at.
        let from = from_map (told_so number byte) a accesses at in
        subst (λ n. 0 < n) (sym (ap (λ (b : Access). b.begun) from.holds ∙ same_begun from.one)) (timed.after_start from.one from.there);
    ends_later = λ a time at ended.
        let from = from_map (told_so number byte) a accesses at in
        subst (λ n. n ≤ time) (sym (ap (λ (b : Access). b.begun) from.holds ∙ same_begun from.one))
        (timed.ends_later from.one time from.there (sym (same_end from.one) ∙ ap (λ (b : Access). b.ended) (sym from.holds) ∙ ended));
    apart = still_apart accesses timed.apart;
  }

  told_there : (q : Access) → q.begun ≡ number → (told_so number byte q).told ≡ Some byte
  told_there q same = rw (eq-eqb q.begun number same) refl

-- what it may not be told no order explains
pub blamed_rightly : (start : Option ℕ) (accesses : List Access) (number byte : ℕ) → AreTimed accesses → HasBegun number accesses
    → may_be_told (all_holdings start accesses) number byte ≡ false
    → NoOrderExplains start accesses number byte
blamed_rightly start accesses number byte timed begun none explained =
    let q = begun.0 in
    let told = explained_told start (with_told number byte accesses) (told_so number byte q) byte (still_timed number byte accesses timed)
    (in_map (told_so number byte) q accesses begun.1) (told_there number byte q begun.2) explained in
    let same : (told_so number byte q).begun ≡ number = same_begun number byte q ∙ begun.2 in
    let before : may_be_told (all_holdings start accesses) number byte ≡ true =
    ap (λ hs. may_be_told (beginning start ∷ hs) number byte) (sym (same_holdings number byte accesses))
    ∙ ap (λ n. may_be_told (all_holdings start (with_told number byte accesses)) n byte) (sym same) ∙ told in
    both_ways (may_be_told (all_holdings start accesses) number byte) none before
