-- The places that the slots hold, through each change of the keys.
use Rattle.std.proofs.Common.{◌≡◌, ◌≢◌, ℕ, zero, suc, ◌+◌, ◌==◌, ◌<◌, ◌≤◌, List, [], ◌∷◌, ◌++◌, map, length, get_or, set, None, Option, Some, IsSome, refl, ap, ◌∙◌, add-one, arith, false, inl, inr, get_or-set_other, get_or-set_same}
use Rattle.std.specs.List.{AllByRecursion, position, position_or_len}
use Rattle.std.proofs.lemmas.Bool.{cases_eq, eq-eqb, ne_eqb}
use Rattle.std.proofs.lemmas.Bool.Decides.{nat_tests}
use Rattle.bus_words.specs.Places.{without_first}
use Rattle.bus_words.proofs.FirstPlaces.{IsFirst, position_is_first}
use Rattle.flight_table.specs.Inside.{ArePlaces, lowered_place}

-- the place of a key
pub place_at : (first : ℕ) (places keys : List ℕ) (key : ℕ) → ArePlaces first places keys → position_or_len (λ k. k == key) keys < length keys
    → get_or places key 0 ≡ first + position_or_len (λ k. k == key) keys
place_at first places [] key are within = absurd (omega (arith, within))
place_at first places (k ∷ keys) key are within = grind (arith, nat_tests, are.0, within, place_at (suc first) places keys key are.1)

pub place_is : (places keys : List ℕ) (key : ℕ) → ArePlaces 0 places keys → IsSome (position (λ k. k == key) keys) → position (λ k. k == key) keys ≡ Some (get_or places key 0)
place_is places keys key are some = by_place (position (λ k. k == key) keys) refl some
  where
    by_place : (o : Option ℕ) → position (λ k. k == key) keys ≡ o → IsSome o → o ≡ Some (get_or places key 0)
    by_place None is some = absurd (grind (arith, some))
    by_place (Some place) is some =
        let first = position_is_first (λ k. k == key) keys place is in
        ap (λ n. Some n) (omega (arith, first.first, place_at 0 places keys key are (rw first.first first.within)))

pub place_first : (places keys : List ℕ) (key : ℕ) → ArePlaces 0 places keys → IsSome (position (λ k. k == key) keys) → IsFirst (λ k. k == key) keys (get_or places key 0)
place_first places keys key are some = position_is_first (λ k. k == key) keys (get_or places key 0) (place_is places keys key are some)

-- ---- one more

pub places_added : (first key : ℕ) (places keys : List ℕ) → ArePlaces first places keys → AllByRecursion (λ k. k ≢ key) keys → key < length places
    → ArePlaces first (set places key (first + length keys)) (keys ++ key ∷ [])
places_added first key places [] are others within = (get_or-set_same places key (first + 0) 0 within ∙ omega arith, tt)
places_added first key places (k ∷ keys) are others within =
    let same : first + length (k ∷ keys) ≡ suc first + length keys = omega arith in
    rw same (get_or-set_other places key k (suc first + length keys) 0 others.0 ∙ are.0, places_added (suc first) key places keys are.1 others.1 within)

-- ---- one less

place_lowered : (place key : ℕ) (places : List ℕ) → get_or (map (lowered_place place) places) key 0 ≡ lowered_place place (get_or places key 0)
place_lowered place key [] = omega arith
place_lowered place zero (p ∷ places) = refl
place_lowered place (suc key) (p ∷ places) = place_lowered place key places

later_lowered : (place first : ℕ) (places keys : List ℕ) → place ≤ first → ArePlaces (suc first) places keys → ArePlaces first (map (lowered_place place) places) keys
later_lowered place first places [] later are = tt
later_lowered place first places (k ∷ keys) later are =
    (place_lowered place k places ∙ rw are.0 (grind (arith, nat_tests, later)), later_lowered place (suc first) places keys (omega (arith, later)) are.1)

pub places_removed : (first key : ℕ) (places keys : List ℕ) → ArePlaces first places keys → position_or_len (λ k. k == key) keys < length keys
    → ArePlaces first (map (lowered_place (get_or places key 0)) places) (without_first (λ k. k == key) keys)
places_removed first key places [] are within = tt
places_removed first key places (k ∷ keys) are within =
    elim (cases_eq k key) [
      | inl same ↦ rw (eq-eqb k key same) (later_lowered (get_or places key 0) first places keys (omega (arith, ap (λ n. get_or places n 0) same, are.0)) are.1)
      | inr other ↦ rw (ne_eqb k key other) (kept (rest (ne_eqb k key other)), places_removed (suc first) key places keys are.1 (rest (ne_eqb k key other)))
    ]
  where
    rest : (k == key) ≡ false → position_or_len (λ k. k == key) keys < length keys
    rest other = omega (arith, rw other at within)

    kept : position_or_len (λ k. k == key) keys < length keys → get_or (map (lowered_place (get_or places key 0)) places) k 0 ≡ first
    kept there = place_lowered (get_or places key 0) k places ∙ rw are.0 (grind (arith, nat_tests, place_at (suc first) places keys key are.1 there))

-- ---- so many places lowered

abbrev pub lowered_to : ℕ → ℕ → List ℕ → List ℕ
lowered_to zero place places = places
lowered_to (suc n) place [] = []
lowered_to (suc n) place (p ∷ places) = lowered_place place p ∷ lowered_to n place places

lowered_one : (n place : ℕ) (places : List ℕ) (d : ℕ) → n < length places
    → set (lowered_to n place places) n (lowered_place place (get_or (lowered_to n place places) n d)) ≡ lowered_to (suc n) place places
lowered_one n place [] d within = absurd (omega (arith, within))
lowered_one zero place (p ∷ places) d within = refl
lowered_one (suc n) place (p ∷ places) d within = ap (λ ps. lowered_place place p ∷ ps) (lowered_one n place places d (omega (arith, within)))

pub lowered_next : (n place : ℕ) (places now : List ℕ) (d : ℕ) → now ≡ lowered_to n place places → n < length places
    → set now n (lowered_place place (get_or now n d)) ≡ lowered_to (n + 1) place places
lowered_next n place places now d so_far within = rw (so_far, add-one n) (lowered_one n place places d within)

pub lowered_all : (n place : ℕ) (places : List ℕ) → length places ≤ n → lowered_to n place places ≡ map (lowered_place place) places
lowered_all zero place [] all = refl
lowered_all zero place (p ∷ places) all = absurd (omega (arith, all))
lowered_all (suc n) place [] all = refl
lowered_all (suc n) place (p ∷ places) all = ap (λ ps. lowered_place place p ∷ ps) (lowered_all n place places (omega (arith, all)))
