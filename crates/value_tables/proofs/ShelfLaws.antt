-- What stands on a shelf after each change: for the word of the change, and for each other.
use Rattle.std.proofs.Common.{◌≡◌, ◌≢◌, ℕ, ◌==◌, Bool, true, false, List, [], ◌∷◌, Option, None, Some, if◌then◌else◌, ◌||◌, is_none, is_some, option_map, unwrap_or, refl, ap, sym, ◌∙◌}
use Rattle.std.proofs.lemmas.Bool.{eq-eqb, eqb-true, ne_eqb}
use Rattle.std.specs.List.{find, list_any}
use Rattle.std.specs.Option.{option_flatten}
use Rattle.bus_words.proofs.FoundChanges.{find-changed-other}
use Rattle.bus_words.specs.Places.{change_first}
use Rattle.byte_values.specs.Words.{WordList}
use Rattle.value_tables.specs.Shelves.{Kept, ShelfState, all_changed_on, changed_on, has_room_on, is_of, list_on, released_on, standing_on, taken_by, with_held}

-- ---- a list changes

pub changed_here : (change : WordList → WordList) (word : ℕ) (shelf : ShelfState)
    → list_on word (changed_on change word shelf) ≡ option_map change (list_on word shelf)
changed_here change word [] = refl
changed_here change word (None ∷ places) = changed_here change word places
changed_here change word (Some kept ∷ places) = by_test (kept.word == word) refl (changed_here change word places)
  where
    by_test : (b : Bool) → (kept.word == word) ≡ b → list_on word (changed_on change word places) ≡ option_map change (list_on word places)
        → list_on word (if b then option_map (with_held change) (Some kept) ∷ places else Some kept ∷ changed_on change word places)
        ≡ option_map change (option_map (λ (k : Kept). k.held) (option_flatten (if b then Some (Some kept) else find (is_of word) places)))
    by_test true is rest = rw is refl
    by_test false is rest = rw is rest

-- a place of one word is of no other
apart : (word other : ℕ) → other ≢ word → (place : Option Kept) → is_of word place ≡ true → is_of other place ≡ false
apart word other differs None is = refl
apart word other differs (Some kept) is = ne_eqb kept.word other (λ same. differs (sym same ∙ eqb-true kept.word word is))

held_apart : (change : WordList → WordList) (word : ℕ) (place : Option Kept) → is_of word (option_map (with_held change) place) ≡ is_of word place
held_apart change word None = refl
held_apart change word (Some kept) = refl

pub changed_other : (change : WordList → WordList) (word other : ℕ) (shelf : ShelfState) → other ≢ word
    → list_on other (changed_on change word shelf) ≡ list_on other shelf
changed_other change word other shelf differs =
    ap (λ (o : Option (Option Kept)). option_map (λ (k : Kept). k.held) (option_flatten o))
    (find-changed-other (is_of other) (is_of word) (option_map (with_held change)) shelf
    (λ place is. (apart word other differs place is, held_apart change other place ∙ apart word other differs place is)))

pub all_changed : (change : WordList → WordList) (word : ℕ) (shelf : ShelfState)
    → list_on word (all_changed_on change shelf) ≡ option_map change (list_on word shelf)
all_changed change word [] = refl
all_changed change word (None ∷ places) = all_changed change word places
all_changed change word (Some kept ∷ places) = by_test (kept.word == word) (all_changed change word places)
  where
    by_test : (b : Bool) → list_on word (all_changed_on change places) ≡ option_map change (list_on word places)
        → option_map (λ (k : Kept). k.held) (option_flatten
        (if b then Some (option_map (with_held change) (Some kept)) else find (is_of word) (all_changed_on change places)))
        ≡ option_map change (option_map (λ (k : Kept). k.held) (option_flatten (if b then Some (Some kept) else find (is_of word) places)))
    by_test true rest = refl
    by_test false rest = rest

-- ---- a list begins

-- a word has a list where one stands
pub stands_on : (word : ℕ) (shelf : ShelfState) → list_any (is_of word) shelf ≡ is_some (list_on word shelf)
stands_on word [] = refl
stands_on word (None ∷ places) = stands_on word places
stands_on word (Some kept ∷ places) = by_test (kept.word == word) (stands_on word places)
  where
    by_test : (b : Bool) → list_any (is_of word) places ≡ is_some (list_on word places)
        → (b || list_any (is_of word) places) ≡
        is_some (option_map (λ (k : Kept). k.held) (option_flatten (if b then Some (Some kept) else find (is_of word) places)))
    by_test true rest = refl
    by_test false rest = rest

-- in a free place, where none stands
begun_free : (first : WordList) (word : ℕ) (shelf : ShelfState) → list_any (is_of word) shelf ≡ false → list_any is_none shelf ≡ true
    → list_on word (change_first is_none (taken_by word first) shelf) ≡ Some first
begun_free first word [] none free = absurd (cc (free))
begun_free first word (None ∷ places) none free = rw (eq-eqb word word refl) refl
begun_free first word (Some kept ∷ places) none free = by_test (kept.word == word) none (λ rest. begun_free first word places rest free)
  where
    by_test : (b : Bool) → (b || list_any (is_of word) places) ≡ false
        → (list_any (is_of word) places ≡ false → list_on word (change_first is_none (taken_by word first) places) ≡ Some first)
        → option_map (λ (k : Kept). k.held)
        (option_flatten (if b then Some (Some kept) else find (is_of word) (change_first is_none (taken_by word first) places)))
        ≡ Some first
    by_test true found rest = absurd (cc (found))
    by_test false found rest = rest found

-- its list, or the first one
pub standing_here : (first : WordList) (word : ℕ) (shelf : ShelfState) → has_room_on word shelf ≡ true
    → list_on word (standing_on first word shelf) ≡ Some (unwrap_or (list_on word shelf) first)
standing_here first word shelf room = by_test (list_any (is_of word) shelf) refl (list_on word shelf) refl room
  where
    by_test : (b : Bool) → list_any (is_of word) shelf ≡ b → (list : Option WordList) → list_on word shelf ≡ list → (b || list_any is_none shelf) ≡ true
        → list_on word (if b then shelf else change_first is_none (taken_by word first) shelf) ≡ Some (unwrap_or list first)
    by_test true stands (Some list) is room = is
    by_test true stands None is room = absurd (cc (stands_on word shelf, ap is_some is))
    by_test false stands (Some list) is room = absurd (cc (stands_on word shelf, ap is_some is))
    by_test false stands None is room = begun_free first word shelf stands room

pub standing_other : (first : WordList) (word other : ℕ) (shelf : ShelfState) → other ≢ word
    → list_on other (standing_on first word shelf) ≡ list_on other shelf
standing_other first word other shelf differs = by_test (list_any (is_of word) shelf)
  where
    free_apart : (place : Option Kept) → is_none place ≡ true → (is_of other place ≡ false) × ((word == other) ≡ false)
    free_apart None is = (refl, ne_eqb word other (λ same. differs (sym same)))
    free_apart (Some kept) is = absurd (cc (is))

    by_test : (b : Bool) → list_on other (if b then shelf else change_first is_none (taken_by word first) shelf) ≡ list_on other shelf
    by_test true = refl
    by_test false =
        ap (λ (o : Option (Option Kept)). option_map (λ (k : Kept). k.held) (option_flatten o))
        (find-changed-other (is_of other) is_none (taken_by word first) shelf free_apart)

-- where there is no room nothing begins
change_none : {X : Type 0} (p : X → Bool) (f : X → X) (xs : List X) → list_any p xs ≡ false → change_first p f xs ≡ xs
change_none p f [] none = refl
change_none p f (x ∷ xs) none = by_test (p x) none (change_none p f xs)
  where
    by_test : (b : Bool) → (b || list_any p xs) ≡ false → (list_any p xs ≡ false → change_first p f xs ≡ xs)
        → (if b then f x ∷ xs else x ∷ change_first p f xs) ≡ x ∷ xs
    by_test true found rest = absurd (cc (found))
    by_test false found rest = ap (λ ys. x ∷ ys) (rest found)

neither : (a b : Bool) → (a || b) ≡ false → (a ≡ false) × (b ≡ false)
neither true b is = absurd (cc (is))
neither false b is = (refl, is)

pub begun_full : (first : WordList) (change : WordList → WordList) (word : ℕ) (shelf : ShelfState) → has_room_on word shelf ≡ false
    → changed_on change word (standing_on first word shelf) ≡ shelf
begun_full first change word shelf full =
    let both = neither (list_any (is_of word) shelf) (list_any is_none shelf) full in
    let same : standing_on first word shelf ≡ shelf =
    ap (λ (b : Bool). if b then shelf else change_first is_none (taken_by word first) shelf) both.0 ∙ change_none is_none (taken_by word first) shelf both.1 in
    ap (changed_on change word) same ∙ change_none (is_of word) (option_map (with_held change)) shelf both.0

-- ---- a list is gone

pub released_here : (word : ℕ) (shelf : ShelfState) → list_on word (released_on word shelf) ≡ None
released_here word [] = refl
released_here word (None ∷ places) = released_here word places
released_here word (Some kept ∷ places) = by_test (kept.word == word) refl (released_here word places)
  where
    by_test : (b : Bool) → (kept.word == word) ≡ b → list_on word (released_on word places) ≡ None
        → list_on word ((if b then None else Some kept) ∷ released_on word places) ≡ None
    by_test true is rest = rest
    by_test false is rest = rw is rest

pub released_other : (word other : ℕ) (shelf : ShelfState) → other ≢ word → list_on other (released_on word shelf) ≡ list_on other shelf
released_other word other [] differs = refl
released_other word other (None ∷ places) differs = released_other word other places differs
released_other word other (Some kept ∷ places) differs = by_test (kept.word == word) refl (released_other word other places differs)
  where
    by_test : (b : Bool) → (kept.word == word) ≡ b → list_on other (released_on word places) ≡ list_on other places
        → list_on other ((if b then None else Some kept) ∷ released_on word places) ≡ list_on other (Some kept ∷ places)
    by_test true is rest = rw (apart word other differs (Some kept) is) rest
    by_test false is rest = again (kept.word == other) rest
      where
        again : (d : Bool) → list_on other (released_on word places) ≡ list_on other places
            → option_map (λ (k : Kept). k.held) (option_flatten (if d then Some (Some kept) else find (is_of other) (released_on word places)))
            ≡ option_map (λ (k : Kept). k.held) (option_flatten (if d then Some (Some kept) else find (is_of other) places))
        again true rest = refl
        again false rest = rest
