-- An order of the requests of a run is one of the accesses of each byte.
use Rattle.std.proofs.Common.{◌≡◌, ℕ, ◌==◌, ◌<◌, ◌≤◌, ◌+◌, ◌-◌, true, false, List, [], ◌∷◌, map, length, Option, Some, None, inl, inr, ⊎_elim, refl, sym, ◌∙◌, ap, subst, suc, zero, arith}
use Rattle.std.specs.Prelude.{◌⊎◌, slice_index_or}
use Rattle.std.specs.List.{AllByRecursion}
use Rattle.std.proofs.lemmas.Bool.Decides.{nat_tests}
use Rattle.std.proofs.lemmas.Bool.{false_from_ne_true, ne_eqb}
use Rattle.byte_orders.specs.Accesses.{Access, AreDistinct, IsOneOf, IsOrderOf, KeepsRealTime, ended_before, has_taken_effect, is_before, told_so, with_told}
use Rattle.byte_orders.proofs.Members.{HasOne, all_of, from_map, in_map}
use Rattle.setups.specs.Setups.{SetupLists}
use Rattle.scoreboard.specs.declared.Errors.{Errors}
use Rattle.value_orders.specs.Bytes.{access_of, accesses_from, accesses_in, untold}
use Rattle.value_orders.specs.Histories.{History, Past, all_past, begun_by}
use Rattle.value_orders.specs.RunOrders.{no_past, AreOnce, HadEnded, IsRunOrder, KeepsTime, past_of}
use Rattle.value_orders.proofs.Agreement.{accesses_along}

module _ (setup : SetupLists) (errors : Errors) (x : ℕ) where
  -- the access at a place of those that begin with a number
  pub at_place : (first : ℕ) (pasts : List Past) (place number : ℕ) (other : Past) → place < length pasts → number ≡ first + place
      → IsOneOf (access_of setup errors x number (slice_index_or pasts place other)) (accesses_from setup errors x first pasts)
  at_place first [] place number other below is = absurd (omega (arith, below))
  at_place first (past ∷ pasts) zero number other below is = inl (ap (λ k. access_of setup errors x k past) (omega (arith, is)))
  at_place first (past ∷ pasts) (suc place) number other below is =
      inr (at_place (first + 1) pasts place number other (omega (arith, below)) (omega (arith, is)))

  -- each of them is that of a number
  pub record IsAt (first : ℕ) (pasts : List Past) (other : Past) (a : Access) : Type 0 where
    pub place : ℕ
    pub number : ℕ
    pub below : place < length pasts
    pub so_many : number ≡ first + place
    pub is : a ≡ access_of setup errors x number (slice_index_or pasts place other)

  pub from_place : (first : ℕ) (pasts : List Past) (other : Past) (a : Access) → IsOneOf a (accesses_from setup errors x first pasts) → IsAt first pasts other a
  from_place first [] other a at = absurd at
  from_place first (past ∷ pasts) other a at =
      ⊎_elim (λ same. record { place = 0; number = first; below = omega (arith); so_many = omega (arith); is = same })
      (λ later. further (from_place (first + 1) pasts other a later)) at
    where
      further : IsAt (first + 1) pasts other a → IsAt first (past ∷ pasts) other a
      further found =
          record {
            place = suc found.place;
            number = found.number;
            below = omega (arith, found.below);
            so_many = omega (arith, found.so_many);
            is = found.is;
          }

module _ (setup : SetupLists) (errors : Errors) (history : History) (x : ℕ) where
  -- that of a number
  abbrev numbered : ℕ → Access
  numbered number = access_of setup errors x number (past_of history number)

  pub is_there : (number : ℕ) → 0 < number → number ≤ begun_by history → IsOneOf (numbered number) (accesses_in setup errors history x)
  is_there number from_one some =
      at_place setup errors x 1 (all_past history) (number - 1) number no_past (omega (arith, from_one, some)) (omega (arith, from_one))

  -- each access is that of a number
  pub record IsOf (a : Access) : Type 0 where
    pub number : ℕ
    pub from_one : 0 < number
    pub some : number ≤ begun_by history
    pub is : a ≡ numbered number

  pub is_of : (a : Access) → IsOneOf a (accesses_in setup errors history x) → IsOf a
  is_of a at =
      let found = from_place setup errors x 1 (all_past history) no_past a at in
      record {
        number = found.number;
        from_one = omega (arith, found.so_many);
        some = omega (arith, found.so_many, found.below);
        is = found.is
            ∙ ap (λ k. access_of setup errors x found.number (slice_index_or (all_past history) k no_past)) (omega (arith, found.so_many));
      }

  had_ended : (number later : ℕ) → ended_before (numbered number) (numbered later) ≡ true → HadEnded history number later
  had_ended number later before = by_end (past_of history number).ended refl before
    where
      by_end : (ended : Option ℕ) → (past_of history number).ended ≡ ended → is_before ended later ≡ true → HadEnded history number later
      by_end None is came = absurd (cc (came))
      by_end (Some time) is came = (time, is, grind (arith, nat_tests, came))

-- ---- along an order, of accesses that were told nothing but this

module _ (setup : SetupLists) (errors : Errors) (history : History) (x number byte : ℕ) where
  -- an access as it is then
  abbrev pub as_told : Access → Access
  as_told a = told_so number byte (untold a)

  same_begun : (a : Access) → (as_told a).begun ≡ a.begun
  same_begun a = grind arith

  same_ended : (a : Access) → (as_told a).ended ≡ a.ended
  same_ended a = grind arith

  abbrev pub told_at : ℕ → Access
  told_at other = as_told (access_of setup errors x other (past_of history other))

  abbrev pub along : List ℕ → List Access
  along numbers = with_told number byte (map untold (accesses_along setup errors history x numbers))

  distinct_along : (numbers : List ℕ) → AreOnce numbers → AreDistinct (along numbers)
  distinct_along [] once = tt
  distinct_along (first ∷ numbers) once = (others numbers once.0, distinct_along numbers once.1)
    where
      others : (rest : List ℕ) → AllByRecursion (λ other. other ≡ first → ⊥) rest → AllByRecursion (λ b. (b.begun == (told_at first).begun) ≡ false) (along rest)
      others [] all = tt
      others (other ∷ rest) all = (
        rw (same_begun (access_of setup errors x first (past_of history first)), same_begun (access_of setup errors x other (past_of history other)))
            (ne_eqb other first all.0),
        others rest all.1,
      )

  keeps_along : (numbers : List ℕ) → KeepsTime history numbers → KeepsRealTime (along numbers)
  keeps_along [] keeps = tt
  keeps_along (later ∷ numbers) keeps = (others numbers keeps.0, keeps_along numbers keeps.1)
    where
      others : (rest : List ℕ) → AllByRecursion (λ other. HadEnded history other later → ⊥) rest
          → AllByRecursion (λ b. ended_before b (told_at later) ≡ false) (along rest)
      others [] all = tt
      others (other ∷ rest) all = (
        rw (same_begun (access_of setup errors x later (past_of history later)), same_ended (access_of setup errors x other (past_of history other)))
            (false_from_ne_true (is_before (past_of history other).ended later) (λ before. all.0 (had_ended setup errors history x other later before))),
        others rest all.1,
      )

  -- ---- what is one of them

  abbrev pub told_ones : List Access
  told_ones = with_told number byte (map untold (accesses_in setup errors history x))

  -- each is that of a number
  record IsTold (a : Access) : Type 0 where
    other : ℕ
    from_one : 0 < other
    some : other ≤ begun_by history
    is : a ≡ told_at other

  is_told : (a : Access) → IsOneOf a told_ones → IsTold a
  is_told a at =
      let outer = from_map (told_so number byte) a (map untold (accesses_in setup errors history x)) at in
      let inner = from_map untold outer.one (accesses_in setup errors history x) outer.there in
      let own = is_of setup errors history x inner.one inner.there in
      record {
        other = own.number;
        from_one = own.from_one;
        some = own.some;
        is = outer.holds ∙ ap (told_so number byte) inner.holds ∙ ap as_told own.is;
      }

  in_told : (other : ℕ) → 0 < other → other ≤ begun_by history → IsOneOf (told_at other) told_ones
  in_told other from_one some =
      in_map (told_so number byte) (untold (access_of setup errors x other (past_of history other))) (map untold (accesses_in setup errors history x))
      (in_map untold (access_of setup errors x other (past_of history other)) (accesses_in setup errors history x)
      (is_there setup errors history x other from_one some))

  in_along : (other : ℕ) (numbers : List ℕ) → IsOneOf other numbers → IsOneOf (told_at other) (along numbers)
  in_along other numbers at =
      in_map (told_so number byte) (untold (access_of setup errors x other (past_of history other))) (map untold (accesses_along setup errors history x numbers))
      (in_map untold (access_of setup errors x other (past_of history other)) (accesses_along setup errors history x numbers)
      (in_map (λ k. access_of setup errors x k (past_of history k)) other numbers at))

  pub from_along : (a : Access) (numbers : List ℕ) → IsOneOf a (along numbers) → HasOne (λ other. a ≡ told_at other) numbers
  from_along a [] at = absurd at
  from_along a (first ∷ numbers) at =
      ⊎_elim (λ same. record { one = first; there = inl refl; holds = same }) (λ later. further (from_along a numbers later)) at
    where
      further : HasOne (λ other. a ≡ told_at other) numbers → HasOne (λ other. a ≡ told_at other) (first ∷ numbers)
      further found = record { one = found.one; there = inr found.there; holds = found.holds }

  -- one that must have taken effect is the one that was told, or is sure and has ended
  must_have : (other : ℕ) → has_taken_effect (told_at other) ≡ true → (other ≡ number) ⊎ ((past_of history other).cut ≡ false)
  must_have other effect = grind (arith, nat_tests, effect)

  pub access_order : (numbers : List ℕ) → IsRunOrder history numbers → IsOneOf number numbers → IsOrderOf told_ones (along numbers)
  access_order numbers order there =
      record {
        some = λ a at.
            let found = from_along a numbers at in
            let bounds = all_of (λ other. (0 < other) × (other ≤ begun_by history)) found.one numbers order.some found.there in
            subst (λ b. IsOneOf b told_ones) (sym found.holds) (in_told found.one bounds.0 bounds.1);
        all = λ a at effect.
            let own = is_told a at in
            subst (λ b. IsOneOf b (along numbers)) (sym own.is)
            (in_along own.other numbers
            (⊎_elim (λ same. subst (λ k. IsOneOf k numbers) (sym same) there)
            (λ stays. order.all own.other own.from_one own.some stays)
            (must_have own.other (ap has_taken_effect (sym own.is) ∙ effect))));
        once = distinct_along numbers order.once;
        keeps = keeps_along numbers order.keeps;
      }
