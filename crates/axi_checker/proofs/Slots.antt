-- The entries in the slots of a row, of which no two are the same: one is read, appended, changed or taken out.
use Rattle.std.proofs.Common.{◌≡◌, ◌≢◌, ℕ, zero, suc, ◌+◌, ◌-◌, ◌<◌, ◌≤◌, List, [], ◌∷◌, ◌++◌, length, take, drop, get_or, refl, sym, ap, ap₂, ◌∙◌, arith}
use Rattle.std.proofs.Math.ListN.{set}
use Rattle.std.proofs.lemmas.List.{get_or-map, get_or-set_same, get_or-set_other, get_or-take, get_or_default, length-append, length-take-le, length-set, take-set-le, take_more}
use Rattle.std.proofs.lemmas.List.Edits.{length-remove}
use Rattle.std.specs.List.{AllByRecursion, remove}
use Rattle.bus_words.specs.Places.{AreDistinct}
use Rattle.bus_words.proofs.MappedPlaces.{length_map, map-remove}
use Rattle.bus_words.proofs.DistinctPlaces.{distinct-append, distinct-remove, distinct-take, others-before, others-beside}
use Rattle.bus_words.proofs.PlaceChanges.{all-append, all-at, all-map, all-remove}
use Rattle.axi_checker.specs.Slots.{AreSlots, at_slots}
use Rattle.axi_checker.proofs.RowPlaces.{gap_closed, take_of_taken}

-- ---- the slots of a room

-- a room with one slot more
pub slots_more : (k : ℕ) (xs : List ℕ) → AreSlots k xs → AreSlots (k + 1) (xs ++ k ∷ [])
slots_more k xs slots =
    record {
      many = omega (arith, slots.many, length-append xs (k ∷ []));
      below = all-append (λ x. x < k + 1) xs k (all-map (λ x. x < k) (λ x. x < k + 1) xs (λ x below. omega (arith, below)) slots.below) (omega arith);
      distinct = distinct-append k xs slots.distinct (all-map (λ x. x < k) (λ x. x ≢ k) xs (λ x below same. absurd (omega (arith, same, below))) slots.below);
    }

-- one slot stored behind those before it
pub slot_stored : (k slot : ℕ) (bytes : List ℕ) → k < length bytes → take (k + 1) (set bytes k slot) ≡ take k bytes ++ slot ∷ []
slot_stored k slot bytes within =
    take_more (set bytes k slot) k 0 (omega (arith, within, length-set bytes k slot))
    ∙ ap₂ (λ xs x. xs ++ x ∷ []) (take-set-le k bytes k slot (omega arith)) (get_or-set_same bytes k slot 0 within)

-- a slot moved behind all others
pub slots_turned : (count k d : ℕ) (xs : List ℕ) → AreSlots count xs → k < count → AreSlots count (remove xs k ++ get_or xs k d ∷ [])
slots_turned count k d xs slots within =
    let inside : k < length xs = omega (arith, within, slots.many) in
    record {
      many = omega (arith, slots.many, inside, length-remove xs k inside, length-append (remove xs k) (get_or xs k d ∷ []));
      below = all-append (λ x. x < count) (remove xs k) (get_or xs k d) (all-remove (λ x. x < count) xs k slots.below) (all-at (λ x. x < count) xs k d slots.below inside);
      distinct = distinct-append (get_or xs k d) (remove xs k) (distinct-remove xs k slots.distinct) (others-beside xs k d slots.distinct inside);
    }

-- ---- a store in one slot
module _ {X : Type 0} (entries : List X) (filler entry : X) where
  same_elsewhere : (slot : ℕ) (xs : List ℕ) → AllByRecursion (λ m. m ≢ slot) xs → at_slots (set entries slot entry) filler xs ≡ at_slots entries filler xs
  same_elsewhere slot [] others = refl
  same_elsewhere slot (x ∷ xs) others =
      ap₂ (λ y ys. y ∷ ys) (get_or-set_other entries slot x entry filler others.0) (same_elsewhere slot xs others.1)

  appended : (slot : ℕ) (xs : List ℕ) → slot < length entries → AllByRecursion (λ m. m ≢ slot) xs
      → at_slots (set entries slot entry) filler (xs ++ slot ∷ []) ≡ at_slots entries filler xs ++ entry ∷ []
  appended slot [] there others = ap (λ y. y ∷ []) (get_or-set_same entries slot entry filler there)
  appended slot (x ∷ xs) there others =
      ap₂ (λ y ys. y ∷ ys) (get_or-set_other entries slot x entry filler others.0) (appended slot xs there others.1)

  changed : (xs : List ℕ) (k d : ℕ) → AreDistinct xs → k < length xs → get_or xs k d < length entries
      → at_slots (set entries (get_or xs k d) entry) filler xs ≡ set (at_slots entries filler xs) k entry
  changed [] k d distinct within there = absurd (omega (arith, within))
  changed (x ∷ xs) zero d distinct within there =
      ap₂ (λ y ys. y ∷ ys) (get_or-set_same entries x entry filler there) (same_elsewhere x xs distinct.0)
  changed (x ∷ xs) (suc k) d distinct within there =
      let inside : k < length xs = omega (arith, within) in
      let other = λ (same : x ≡ get_or xs k d). all-at (λ m. m ≢ x) xs k d distinct.0 inside (sym same) in
      ap₂ (λ y ys. y ∷ ys) (get_or-set_other entries (get_or xs k d) x entry filler other) (changed xs k d distinct.1 inside there)

-- ---- the first n of the slots in a row of bytes, and the entries in them
module _ {X : Type 0} (entries : List X) (filler : X) (bytes : List ℕ) (n : ℕ) (few : n ≤ 64) (long : length entries ≡ 64) (slots : AreSlots 64 (take 64 bytes)) where
  front : take n bytes ≡ take n (take 64 bytes)
  front = take_of_taken n 64 bytes few

  count : length (take n bytes) ≡ n
  count = ap length front ∙ length-take-le n (take 64 bytes) (omega (arith, few, slots.many))

  pub many_at : n ≡ length (at_slots entries filler (take n bytes))
  many_at = sym (length_map (λ slot. get_or entries slot filler) (take n bytes) ∙ count)

  pub slot_within : (k : ℕ) → k < 64 → get_or bytes k 0 < length entries
  slot_within k within =
      let below = all-at (λ slot. slot < 64) (take 64 bytes) k 0 slots.below (omega (arith, within, slots.many)) in
      omega (arith, long, below, get_or-take 64 bytes k 0 within)

  pub got : (k : ℕ) (read : X) → k < n → get_or entries (get_or bytes k 0) read ≡ get_or (at_slots entries filler (take n bytes)) k read
  got k read within =
      get_or_default entries (get_or bytes k 0) read filler (slot_within k (omega (arith, within, few)))
      ∙ ap (λ slot. get_or entries slot filler) (sym (get_or-take n bytes k 0 within))
      ∙ sym (get_or-map (λ slot. get_or entries slot filler) (take n bytes) k 0 read (omega (arith, within, count)))

  pub pushed : (entry : X) → n < 64 → at_slots (set entries (get_or bytes n 0) entry) filler (take (n + 1) bytes) ≡ at_slots entries filler (take n bytes) ++ entry ∷ []
  pushed entry within =
      let at = get_or-take 64 bytes n 0 within in
      let inside : n < length (take 64 bytes) = omega (arith, within, slots.many) in
      let others : AllByRecursion (λ m. m ≢ get_or bytes n 0) (take n bytes) = rw (sym at, front) (others-before (take 64 bytes) n 0 slots.distinct inside) in
      let next : take (n + 1) bytes ≡ take n bytes ++ get_or bytes n 0 ∷ [] = (take_of_taken (n + 1) 64 bytes (omega (arith, within)) ∙ take_more (take 64 bytes) n 0 inside ∙ ap₂ (λ xs x. xs ++ x ∷ []) (sym front) at) in
      ap (at_slots (set entries (get_or bytes n 0) entry) filler) next ∙ appended entries filler entry (get_or bytes n 0) (take n bytes) (slot_within n within) others

  pub stored : (k : ℕ) (entry : X) → k < n → at_slots (set entries (get_or bytes k 0) entry) filler (take n bytes) ≡ set (at_slots entries filler (take n bytes)) k entry
  stored k entry within =
      let at = get_or-take n bytes k 0 within in
      let distinct : AreDistinct (take n bytes) = rw front (distinct-take n (take 64 bytes) slots.distinct) in
      let there = slot_within k (omega (arith, within, few)) in
      ap (λ slot. at_slots (set entries slot entry) filler (take n bytes)) (sym at)
      ∙ changed entries filler entry (take n bytes) k 0 distinct (omega (arith, within, count)) (omega (arith, at, there))

  -- the slot at a place moved behind the others, over which the 64 behind it moved
  module _ (moved : List ℕ) (k : ℕ) (within : k < n) (room : length bytes ≡ 128) (same_room : length moved ≡ 128)
      (closed : take (k + 64) moved ≡ take k bytes ++ take 64 (drop (k + 1) bytes)) where
    pub slots_left : AreSlots 64 (take 64 (set moved 63 (get_or bytes k 0)))
    slots_left =
        let gone = gap_closed bytes moved 64 k (omega (arith, within, few)) (omega arith) (omega (arith, room, within, few)) closed in
        let at = get_or-take 64 bytes k 0 (omega (arith, within, few)) in
        let is = slot_stored 63 (get_or bytes k 0) moved (omega (arith, same_room)) ∙ ap₂ (λ xs x. xs ++ x ∷ []) gone (sym at) in
        rw is (slots_turned 64 k 0 (take 64 bytes) slots (omega (arith, within, few)))

    pub removed : at_slots entries filler (take (n - 1) (set moved 63 (get_or bytes k 0))) ≡ remove (at_slots entries filler (take n bytes)) k
    removed =
        let gone = gap_closed bytes moved n k within few (omega (arith, room, within, few)) closed in
        ap (at_slots entries filler) (take-set-le (n - 1) moved 63 (get_or bytes k 0) (omega (arith, few)) ∙ gone)
        ∙ map-remove (λ slot. get_or entries slot filler) (take n bytes) k
