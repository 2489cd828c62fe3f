-- Each entry of a list changed, one after another, as it is held and as it is seen.
use Rattle.std.proofs.Common.{◌≡◌, ℕ, ◌+◌, ◌<◌, ◌≤◌, List, ◌++◌, map, length, take, drop, get_or, set, sym, ◌∙◌, ap}
use Rattle.std.specs.List.{AllByRecursion}
use Rattle.std.proofs.lemmas.List.{append-nil, drop_all, get_or-map, length-map, map-set, take_all}
use Rattle.std.proofs.lemmas.List.Edits.{map_over_more}
use Rattle.bus_words.proofs.PlaceChanges.{all-at, all-set}

module _ {S X : Type 0} (f : S → X) (change : X → X) (old : List S) where
  -- the first so many changed
  abbrev pub changed_to : ℕ → List X
  changed_to i = map change (take i (map f old)) ++ drop i (map f old)

  pub all_changed : (i : ℕ) → length old ≤ i → changed_to i ≡ map change (map f old)
  all_changed i all =
      let past : length (map f old) ≤ i = rw (length-map old f) all in
      rw (take_all i (map f old) past, drop_all i (map f old) past) (append-nil (map change (map f old)))

  -- one more of those that are held is changed as it is seen
  pub changed_next : (now : List S) (i : ℕ) (d new : S) → length now ≡ length old → i < length now → f new ≡ change (f (get_or now i d)) → map f now ≡ changed_to i → map f (set now i new) ≡ changed_to (i + 1)
  changed_next now i d new long below changes before =
      let there : i < length (map f old) = rw (length-map old f, sym long) below in
      map-set f now i new ∙ ap (set (map f now) i) changes ∙ map_over_more change (map f old) (map f now) i (f (get_or now i d)) there before (sym (get_or-map f now i d (f (get_or now i d)) below))

-- what holds of each holds still where it holds of the next
pub still_all : {S : Type 0} (P : S → Type 0) (now : List S) (i : ℕ) (d new : S) → i < length now → (P (get_or now i d) → P new) → AllByRecursion P now → AllByRecursion P (set now i new)
still_all P now i d new below keeps all = all-set P now i new all (keeps (all-at P now i d all below))
