-- What it says of a list of regions that it has a fault, or none.
use Rattle.std.proofs.Common.{◌≡◌, ℕ, ◌==◌, ◌||◌, nat_lt, subst, ◌+◌, ◌<◌, ◌⊎◌, ◌↔◌, Bool, true, false, Option, Some, None, List, [], ◌∷◌, ◌++◌, length, take, get_or, refl, ap, ◌∙◌, sym, inl, inr, arith, All, IfSome}
use Rattle.std.specs.Option.{option_or}
use Rattle.std.specs.List.{list_any}
use Rattle.std.proofs.lemmas.Bool.{eqb-true, eqb-false, ltb-true, ltb-false, le-ltb, ne_eqb, or_parts, or_from, or_cases, both_ways, false_from_ne_true}
use Rattle.std.proofs.lemmas.List.{append-nil, append_assoc, take_at, get_or_at, get_or_append_left, length_push, length-append}
use Rattle.std.proofs.lemmas.List.Elements.{All-nil, All-push}
use Rattle.std.proofs.lemmas.List.Folds.{list_any_none, list_any_at, Any-from_list_any}
use Rattle.std.proofs.lemmas.List.Quantifiers.{all_pairs_push}
use Rattle.std.proofs.lemmas.Option.{same_Some}
use Rattle.bus_words.specs.Tables.{first_broken}
use Rattle.burst_plan.specs.PageMap.{all_pages, share_a_page, region_rules, rules_of_regions, region_fault, IsInRange, AreApart, IsPageMap, HasFaultAfter, faulty_place, IsFirstFault}
use Rattle.burst_plan.specs.declared.Region.{Region}
use Rattle.burst_plan.specs.declared.MapFault.{MapFault}
use Rattle.burst_plan.specs.declared.MapFault.TheVariants.{RegionEmpty, RegionRange, RegionOverlap}
use Rattle.burst_plan.proofs.PageLaws.{AreApart-from_false, share_a_page-false, page-from_share_a_page}

-- of two tables, one after another, the first one's rules come first
first_broken-append : (xs ys : List (Bool × MapFault)) → first_broken (xs ++ ys) ≡ option_or (first_broken xs) (first_broken ys)
first_broken-append [] ys = refl
first_broken-append ((true, fault) ∷ xs) ys = refl
first_broken-append ((false, fault) ∷ xs) ys = first_broken-append xs ys

three_none : (a b c : Bool) (x y z : MapFault) → first_broken ((a, x) ∷ (b, y) ∷ (c, z) ∷ []) ≡ None → (a ≡ false) × (b ≡ false) × (c ≡ false)
three_none false false false x y z none = (refl, refl, refl)
three_none _ _ _ x y z none = cc

fault_of_three : (a b c : Bool) (x y z fault : MapFault) → first_broken ((a, x) ∷ (b, y) ∷ (c, z) ∷ []) ≡ Some fault
    → ((a ≡ true) × (x ≡ fault)) ⊎ (((a ≡ false) × (b ≡ true) × (y ≡ fault)) ⊎ ((a ≡ false) × (b ≡ false) × (c ≡ true) × (z ≡ fault)))
fault_of_three true b c x y z fault e = inl (refl, same_Some _ _ e)
fault_of_three false true c x y z fault e = inr (inl (refl, refl, same_Some _ _ e))
fault_of_three false false true x y z fault e = inr (inr (refl, refl, refl, same_Some _ _ e))
fault_of_three false false false x y z fault e = cc

-- what holds of each value that an option may have
pub each_some : {X : Type 0} (o : Option X) (P : X → Type 0) → ((x : X) → o ≡ Some x → P x) → IfSome o P
each_some None P each = tt
each_some (Some x) P each = each x refl

none_of_either : (a b : Option MapFault) → option_or a b ≡ None → (a ≡ None) × (b ≡ None)
none_of_either None b e = (refl, e)
none_of_either (Some x) b e = cc

some_of_either : (a b : Option MapFault) (x : MapFault) → option_or a b ≡ Some x → (a ≡ Some x) ⊎ ((a ≡ None) × (b ≡ Some x))
some_of_either None b x e = inr (refl, e)
some_of_either (Some y) b x e = inl e

-- a region that may stand after the earlier ones
record IsNext (earlier : List Region) (region : Region) : Type 0 where
  in_range : IsInRange region
  apart : All (λ other. AreApart other region) earlier

-- whether a region goes past the last page, on either side
abbrev past_the_last : Region → Bool
past_the_last region = nat_lt all_pages (region.tl_page + region.pages) || nat_lt all_pages (region.axi_page + region.pages)

in_range_from : (region : Region) → (region.pages == 0) ≡ false → past_the_last region ≡ false → IsInRange region
in_range_from region some within =
    let both = or_parts _ _ within in
    let tl = ltb-false _ _ both.0 in
    let axi = ltb-false _ _ both.1 in
    let not_none : (region.pages ≡ 0) → ⊥ = eqb-false _ _ some in
    record { some = omega arith; tl = tl; axi = axi }

IsNext-from_none : (earlier : List Region) (i : ℕ) (region : Region) → first_broken (region_rules earlier i region) ≡ None → IsNext earlier region
IsNext-from_none earlier i region none =
    let no = three_none (region.pages == 0) (past_the_last region) (list_any (share_a_page region) earlier) (RegionEmpty i) (RegionRange i) (RegionOverlap i) none in
    record {
      in_range = in_range_from region no.0 no.1;
      apart = λ k d below. AreApart-from_false region (get_or earlier k d)
          (false_from_ne_true _ (λ share. both_ways _ no.2 (list_any_at (share_a_page region) earlier k d below share)));
    }

none-from_IsNext : (earlier : List Region) (i : ℕ) (region : Region) → IsNext earlier region → first_broken (region_rules earlier i region) ≡ None
none-from_IsNext earlier i region next =
    let some : 0 < region.pages = next.in_range.some in
    let not_none : (region.pages ≡ 0) → ⊥ = λ e. omega (arith, e) in
    rw (
      ne_eqb _ _ not_none,
      or_from _ _ (le-ltb _ _ next.in_range.tl) (le-ltb _ _ next.in_range.axi),
      list_any_none (share_a_page region) earlier (λ k d below. share_a_page-false region (get_or earlier k d) (next.apart k d below)),
    )
    refl

no_regions : IsPageMap []
no_regions = record { in_range = All-nil IsInRange; apart = λ i j d before below. absurd (omega (arith, below)) }

IsPageMap-push : (earlier : List Region) (region : Region) → IsPageMap earlier → IsNext earlier region → IsPageMap (earlier ++ region ∷ [])
IsPageMap-push earlier region map next =
    record {
      in_range = All-push IsInRange earlier region map.in_range next.in_range;
      apart = all_pairs_push AreApart earlier region map.apart (λ k d below. next.apart k d below);
    }

within : (earlier : List Region) (region : Region) (later : List Region) → length earlier < length (earlier ++ region ∷ later)
within earlier region later = omega (arith, length-append earlier (region ∷ later))

IsNext-from_IsPageMap : (earlier : List Region) (region : Region) (later : List Region) → IsPageMap (earlier ++ region ∷ later) → IsNext earlier region
IsNext-from_IsPageMap earlier region later map =
    let here = λ (d : Region). get_or_at earlier region later d (length earlier) refl in
    record {
      in_range = subst IsInRange (here region) (map.in_range (length earlier) region (within earlier region later));
      apart = λ k d below. subst (λ (x : Region). AreApart x region) (get_or_append_left earlier (region ∷ later) d k below)
          (subst (λ (y : Region). AreApart (get_or (earlier ++ region ∷ later) k d) y) (here d)
          (map.apart k (length earlier) d below (within earlier region later)));
    }

IsPageMap-from_none : (earlier : List Region) (i : ℕ) (regions : List Region) → IsPageMap earlier → first_broken (rules_of_regions earlier i regions) ≡ None → IsPageMap (earlier ++ regions)
IsPageMap-from_none earlier i [] map none = subst IsPageMap (sym (append-nil earlier)) map
IsPageMap-from_none earlier i (region ∷ regions) map none =
    let no = none_of_either _ _ (sym (first_broken-append (region_rules earlier i region) (rules_of_regions (earlier ++ region ∷ []) (i + 1) regions)) ∙ none) in
    subst IsPageMap (append_assoc earlier (region ∷ []) regions)
    (IsPageMap-from_none (earlier ++ region ∷ []) (i + 1) regions (IsPageMap-push earlier region map (IsNext-from_none earlier i region no.0)) no.1)

none-from_IsPageMap : (earlier : List Region) (i : ℕ) (regions : List Region) → IsPageMap (earlier ++ regions) → first_broken (rules_of_regions earlier i regions) ≡ None
none-from_IsPageMap earlier i [] map = refl
none-from_IsPageMap earlier i (region ∷ regions) map =
    first_broken-append (region_rules earlier i region) (rules_of_regions (earlier ++ region ∷ []) (i + 1) regions)
    ∙ rw (none-from_IsNext earlier i region (IsNext-from_IsPageMap earlier region regions map))
    (none-from_IsPageMap (earlier ++ region ∷ []) (i + 1) regions (subst IsPageMap (sym (append_assoc earlier (region ∷ []) regions)) map))

-- a list of regions has no fault just where each region has pages and is in range, and none shares a page with an earlier one
pub region_fault-none : (regions : List Region) → (region_fault regions ≡ None) ↔ IsPageMap regions
region_fault-none regions = (IsPageMap-from_none [] 0 regions no_regions, none-from_IsPageMap [] 0 regions)

-- the fault that a region has
HasFaultAfter-from_some : (earlier : List Region) (i : ℕ) (region : Region) (fault : MapFault) → first_broken (region_rules earlier i region) ≡ Some fault
    → (faulty_place fault ≡ i) × HasFaultAfter earlier fault region
HasFaultAfter-from_some earlier i region fault e =
    let P : MapFault → Type 0 = λ f. (faulty_place f ≡ i) × HasFaultAfter earlier f region in
    elim (fault_of_three (region.pages == 0) (past_the_last region) (list_any (share_a_page region) earlier) (RegionEmpty i) (RegionRange i) (RegionOverlap i) fault e) [
      | inl empty ↦ subst P empty.1 (refl, eqb-true _ _ empty.0)
      | inr (inl range) ↦
          let not_none : (region.pages ≡ 0) → ⊥ = eqb-false _ _ range.0 in
          subst P range.2
          (refl, (omega arith, elim (or_cases _ _ range.1) [ inl tl ↦ inl (ltb-true _ _ tl) | inr axi ↦ inr (ltb-true _ _ axi) ]))
      | inr (inr overlap) ↦
          let found = Any-from_list_any (share_a_page region) earlier overlap.2 in
          subst P overlap.3
          (refl, (in_range_from region overlap.0 overlap.1, (found.0, found.1, found.2, found.3, page-from_share_a_page region found.1 found.4)))
    ]

IsFirstFault-here : (earlier : List Region) (region : Region) (later : List Region) (fault : MapFault) → IsPageMap earlier → length earlier ≡ faulty_place fault → HasFaultAfter earlier fault region
    → IsFirstFault (earlier ++ region ∷ later) fault
IsFirstFault-here earlier region later fault map here broken =
    let front : take (faulty_place fault) (earlier ++ region ∷ later) ≡ earlier = take_at earlier (region ∷ later) (faulty_place fault) here in
    record {
      listed = subst (λ n. n < length (earlier ++ region ∷ later)) here (within earlier region later);
      before = subst IsPageMap (sym front) map;
      broken = λ d. subst (λ (front : List Region). HasFaultAfter front fault (get_or (earlier ++ region ∷ later) (faulty_place fault) d)) (sym front)
          (subst (λ (x : Region). HasFaultAfter earlier fault x) (sym (get_or_at earlier region later d (faulty_place fault) here)) broken);
    }

IsFirstFault-from_some : (earlier : List Region) (i : ℕ) (regions : List Region) (fault : MapFault) → IsPageMap earlier → length earlier ≡ i → first_broken (rules_of_regions earlier i regions) ≡ Some fault
    → IsFirstFault (earlier ++ regions) fault
IsFirstFault-from_some earlier i [] fault map here e = cc
IsFirstFault-from_some earlier i (region ∷ regions) fault map here e =
    elim (some_of_either _ _ fault (sym (first_broken-append (region_rules earlier i region) (rules_of_regions (earlier ++ region ∷ []) (i + 1) regions)) ∙ e)) [
      | inl own ↦
          let has = HasFaultAfter-from_some earlier i region fault own in
          IsFirstFault-here earlier region regions fault map (here ∙ sym has.0) has.1
      | inr (none, later) ↦
          subst (λ all. IsFirstFault all fault) (append_assoc earlier (region ∷ []) regions)
          (IsFirstFault-from_some (earlier ++ region ∷ []) (i + 1) regions fault (IsPageMap-push earlier region map (IsNext-from_none earlier i region none)) (length_push earlier region ∙ ap (λ n. n + 1) here) later)
    ]

-- the fault of a list of regions is that of the first region at fault, and there the first that is tested
pub region_fault-some : (regions : List Region) → IfSome (region_fault regions) (IsFirstFault regions)
region_fault-some regions = each_some (region_fault regions) (IsFirstFault regions) (λ fault e. IsFirstFault-from_some [] 0 regions fault no_regions refl e)
