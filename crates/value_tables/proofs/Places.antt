-- The places of a shelf, by the words and the lists that lie beside each other in memory.
use Rattle.std.proofs.Common.{◌≡◌, ℕ, zero, suc, ◌+◌, ◌<◌, ◌≤◌, ◌==◌, Bool, true, false, cond, not, nat_lt, List, [], ◌∷◌, Option, None, Some, is_none, is_some, length, map, get_or, if◌then◌else◌, ◌||◌, refl, ap, ap₂, sym, ◌∙◌, arith}
use Rattle.std.proofs.Math.ListN.{length-set, set}
use Rattle.std.proofs.lemmas.Bool.{eq-eqb, lt-ltb}
use Rattle.std.proofs.lemmas.Bool.Decides.{nat_tests}
use Rattle.std.specs.List.{find, list_any, position, position_or_len}
use Rattle.std.specs.Option.{option_flatten}
use Rattle.std.specs.Prelude.{option_map}
use Rattle.bus_words.proofs.FirstPlaces.{IsFirst, change_first-first, change_first-none, find-first, find-none, first-passes, position_is_first}
use Rattle.bus_words.specs.Places.{change_first}
use Rattle.byte_values.specs.Words.{WordList}
use Rattle.value_tables.specs.InsideShelves.{is_word, place_of, places_of}
use Rattle.value_tables.specs.Shelves.{Kept, all_changed_on, changed_on, has_room_on, is_of, list_on, released_on, standing_on, taken_by, with_held, word_on}

-- ---- lists of any kind

-- some entry passes a test where the first that does is within the list, and so where one is found
any_within : {X : Type 0} (p : X → Bool) (xs : List X) → list_any p xs ≡ nat_lt (position_or_len p xs) (length xs)
any_within p [] = refl
any_within p (x ∷ xs) = by_test (p x) (any_within p xs)
  where
    by_test : (b : Bool) → list_any p xs ≡ nat_lt (position_or_len p xs) (length xs)
        → (b || list_any p xs) ≡ nat_lt (cond (not b) (1 + position_or_len p xs) 0) (suc (length xs))
    by_test true rest = sym (lt-ltb 0 (suc (length xs)) (omega arith))
    by_test false rest = grind (arith, nat_tests, rest)

some_if : (b : Bool) (n : ℕ) → is_some (cond b (Some n) None) ≡ b
some_if true n = refl
some_if false n = refl

any_found : {X : Type 0} (p : X → Bool) (xs : List X) → list_any p xs ≡ is_some (position p xs)
any_found p xs = any_within p xs ∙ sym (some_if (nat_lt (position_or_len p xs) (length xs)) (position_or_len p xs))

-- where no entry passes a test, the place is found at which one is put that does
first_put : {X : Type 0} (p : X → Bool) (xs : List X) (k : ℕ) (x : X) → list_any p xs ≡ false → k < length xs → p x ≡ true → position_or_len p (set xs k x) ≡ k
first_put p [] k x none within passes = absurd (omega (arith, within))
first_put p (y ∷ ys) zero x none within passes = rw passes refl
first_put p (y ∷ ys) (suc k) x none within passes = by_test (p y) none (λ rest. first_put p ys k x rest (omega (arith, within)) passes)
  where
    by_test : (b : Bool) → (b || list_any p ys) ≡ false → (list_any p ys ≡ false → position_or_len p (set ys k x) ≡ k)
        → cond (not b) (1 + position_or_len p (set ys k x)) 0 ≡ suc k
    by_test true found rest = absurd (cc (found))
    by_test false found rest = omega (arith, rest found)

found_put : {X : Type 0} (p : X → Bool) (xs : List X) (k : ℕ) (x : X) → list_any p xs ≡ false → k < length xs → p x ≡ true → position p (set xs k x) ≡ Some k
found_put p xs k x none within passes =
    let inside : k < length (set xs k x) = omega (arith, length-set xs k x, within) in
    rw (first_put p xs k x none within passes, lt-ltb k (length (set xs k x)) inside) refl

-- ---- how many places there are, and which is the first of a word

pub length_places : (words : List (Option ℕ)) (lists : List WordList) → length words ≡ length lists → length (places_of words lists) ≡ length words
length_places [] lists same = refl
length_places (held ∷ words) [] same = absurd (omega (arith, same))
length_places (held ∷ words) (list ∷ lists) same = ap suc (length_places words lists (omega (arith, same)))

first_places : (p : Option Kept → Bool) (q : Option ℕ → Bool) → ((held : Option ℕ) (list : WordList) → p (place_of held list) ≡ q held)
    → (words : List (Option ℕ)) (lists : List WordList)
    → length words ≡ length lists → position_or_len p (places_of words lists) ≡ position_or_len q words
first_places p q agree [] lists same = refl
first_places p q agree (held ∷ words) [] same = absurd (omega (arith, same))
first_places p q agree (held ∷ words) (list ∷ lists) same = rw (agree held list, first_places p q agree words lists (omega (arith, same))) refl

position_places : (p : Option Kept → Bool) (q : Option ℕ → Bool) → ((held : Option ℕ) (list : WordList) → p (place_of held list) ≡ q held)
    → (words : List (Option ℕ)) (lists : List WordList)
    → length words ≡ length lists → position p (places_of words lists) ≡ position q words
position_places p q agree words lists same = rw (first_places p q agree words lists same, length_places words lists same) refl

is_of_place : (word : ℕ) (held : Option ℕ) (list : WordList) → is_of word (place_of held list) ≡ is_word word held
is_of_place word None list = refl
is_of_place word (Some other) list = refl

is_free_place : (held : Option ℕ) (list : WordList) → is_none (place_of held list) ≡ is_none held
is_free_place None list = refl
is_free_place (Some other) list = refl

pub position_word : (word : ℕ) (words : List (Option ℕ)) (lists : List WordList) → length words ≡ length lists
    → position (is_of word) (places_of words lists) ≡ position (is_word word) words
position_word word words lists same = position_places (is_of word) (is_word word) (is_of_place word) words lists same

position_free : (words : List (Option ℕ)) (lists : List WordList) → length words ≡ length lists
    → position is_none (places_of words lists) ≡ position is_none words
position_free words lists same = position_places is_none is_none is_free_place words lists same

-- ---- what stands at a place

-- a list to speak of one that isn't there
pub no_list : WordList
no_list = record { settled = record { value = 0; known = 0; lanes = 0 }; held = [] }

get_places : (words : List (Option ℕ)) (lists : List WordList) (k : ℕ) (d : WordList) → length words ≡ length lists → k < length words
    → get_or (places_of words lists) k None ≡ place_of (get_or words k None) (get_or lists k d)
get_places [] lists k d same within = absurd (omega (arith, within))
get_places (held ∷ words) [] k d same within = absurd (omega (arith, same))
get_places (held ∷ words) (list ∷ lists) zero d same within = refl
get_places (held ∷ words) (list ∷ lists) (suc k) d same within = get_places words lists k d (omega (arith, same)) (omega (arith, within))

pub word_there : (words : List (Option ℕ)) (lists : List WordList) (k : ℕ) → length words ≡ length lists → k < length words
    → get_or words k None ≡ word_on (places_of words lists) k
word_there [] lists k same within = absurd (omega (arith, within))
word_there (held ∷ words) [] k same within = absurd (omega (arith, same))
word_there (None ∷ words) (list ∷ lists) zero same within = refl
word_there (Some word ∷ words) (list ∷ lists) zero same within = refl
word_there (held ∷ words) (list ∷ lists) (suc k) same within = word_there words lists k (omega (arith, same)) (omega (arith, within))

pub word_past : (words : List (Option ℕ)) (lists : List WordList) (k : ℕ) → length words ≤ k → None ≡ word_on (places_of words lists) k
word_past [] lists k past = refl
word_past (held ∷ words) [] k past = refl
word_past (held ∷ words) (list ∷ lists) zero past = absurd (omega (arith, past))
word_past (held ∷ words) (list ∷ lists) (suc k) past = word_past words lists k (omega (arith, past))

first_of_word : (word : ℕ) (words : List (Option ℕ)) (lists : List WordList) (k : ℕ) → length words ≡ length lists → position (is_word word) words ≡ Some k
    → IsFirst (is_of word) (places_of words lists) k
first_of_word word words lists k same found = position_is_first (is_of word) (places_of words lists) k (position_word word words lists same ∙ found)

held_there : (word : ℕ) (held : Option ℕ) (list : WordList) → is_word word held ≡ true → option_map (λ kept. kept.held) (place_of held list) ≡ Some list
held_there word None list is = absurd (cc (is))
held_there word (Some other) list is = refl

pub list_there : (word : ℕ) (words : List (Option ℕ)) (lists : List WordList) (k : ℕ) (d : WordList) → length words ≡ length lists
    → position (is_word word) words ≡ Some k
    → Some (get_or lists k d) ≡ list_on word (places_of words lists)
list_there word words lists k d same found =
    let first = position_is_first (is_word word) words k found in
    let passes = first-passes (is_word word) words k None first in
    let search : find (is_of word) (places_of words lists) ≡ Some (get_or (places_of words lists) k None) = find-first (is_of word)
    (places_of words lists) k None (first_of_word word words lists k same found) in
    sym (ap (λ (o : Option (Option Kept)). option_map (λ (kept : Kept). kept.held) (option_flatten o)) search
    ∙ ap (option_map (λ (kept : Kept). kept.held)) (get_places words lists k d same first.within)
    ∙ held_there word (get_or words k None) (get_or lists k d) passes)

pub list_missing : (word : ℕ) (words : List (Option ℕ)) (lists : List WordList) → length words ≡ length lists → position (is_word word) words ≡ None
    → None ≡ list_on word (places_of words lists)
list_missing word words lists same missing =
    sym (ap (λ (o : Option (Option Kept)). option_map (λ (kept : Kept). kept.held) (option_flatten o))
    (find-none (is_of word) (places_of words lists) (position_word word words lists same ∙ missing)))

pub room_there : (word : ℕ) (words : List (Option ℕ)) (lists : List WordList) → length words ≡ length lists
    → has_room_on word (places_of words lists) ≡ (is_some (position (is_word word) words) || is_some (position is_none words))
room_there word words lists same =
    ap₂ (λ (a b : Bool). a || b) (any_found (is_of word) (places_of words lists) ∙ ap is_some (position_word word words lists same))
    (any_found is_none (places_of words lists) ∙ ap is_some (position_free words lists same))

-- where the word has a place, or one is free, or neither
pub room_by : (word : ℕ) (words : List (Option ℕ)) (lists : List WordList) (at free : Option ℕ) → length words ≡ length lists
    → position (is_word word) words ≡ at → position is_none words ≡ free
    → (is_some at || is_some free) ≡ has_room_on word (places_of words lists)
room_by word words lists at free same is freed = ap₂ (λ (a b : Option ℕ). is_some a || is_some b) (sym is) (sym freed) ∙ sym (room_there word words lists same)

-- ---- what is put at a place

set_places : (words : List (Option ℕ)) (lists : List WordList) (k : ℕ) (held : Option ℕ) (list : WordList) → length words ≡ length lists
    → places_of (set words k held) (set lists k list) ≡ set (places_of words lists) k (place_of held list)
set_places [] [] k held list same = refl
set_places [] (other ∷ lists) k held list same = absurd (omega (arith, same))
set_places (word ∷ words) [] k held list same = absurd (omega (arith, same))
set_places (word ∷ words) (other ∷ lists) zero held list same = refl
set_places (word ∷ words) (other ∷ lists) (suc k) held list same =
    ap (λ (ps : List (Option Kept)). place_of word other ∷ ps) (set_places words lists k held list (omega (arith, same)))

set_lists : (words : List (Option ℕ)) (lists : List WordList) (k : ℕ) (list : WordList) → length words ≡ length lists
    → places_of words (set lists k list) ≡ set (places_of words lists) k (place_of (get_or words k None) list)
set_lists [] [] k list same = refl
set_lists [] (other ∷ lists) k list same = absurd (omega (arith, same))
set_lists (word ∷ words) [] k list same = absurd (omega (arith, same))
set_lists (word ∷ words) (other ∷ lists) zero list same = refl
set_lists (word ∷ words) (other ∷ lists) (suc k) list same =
    ap (λ (ps : List (Option Kept)). place_of word other ∷ ps) (set_lists words lists k list (omega (arith, same)))

changed_place : (change : WordList → WordList) (held : Option ℕ) (list : WordList)
    → place_of held (change list) ≡ option_map (with_held change) (place_of held list)
changed_place change None list = refl
changed_place change (Some word) list = refl

pub changed_there : (change : WordList → WordList) (word : ℕ) (words : List (Option ℕ)) (lists : List WordList) (k : ℕ) (d : WordList)
    → length words ≡ length lists → position (is_word word) words ≡ Some k
    → places_of words (set lists k (change (get_or lists k d))) ≡ changed_on change word (places_of words lists)
changed_there change word words lists k d same found =
    let first = position_is_first (is_word word) words k found in
    let new : place_of (get_or words k None) (change (get_or lists k d)) ≡ option_map (with_held change) (get_or (places_of words lists) k None) =
    changed_place change (get_or words k None) (get_or lists k d) ∙ ap (option_map (with_held change)) (sym (get_places words lists k d same first.within)) in
    set_lists words lists k (change (get_or lists k d)) same
    ∙ ap (set (places_of words lists) k) new
    ∙ sym (change_first-first (is_of word) (option_map (with_held change)) (places_of words lists) k None (first_of_word word words lists k same found))

pub changed_missing : (change : WordList → WordList) (word : ℕ) (words : List (Option ℕ)) (lists : List WordList) → length words ≡ length lists
    → position (is_word word) words ≡ None
    → places_of words lists ≡ changed_on change word (places_of words lists)
changed_missing change word words lists same missing =
    sym (change_first-none (is_of word) (option_map (with_held change)) (places_of words lists) (position_word word words lists same ∙ missing))

-- ---- a list begins

-- where none of the word stands, and a place is free
pub begun_there : (first : WordList) (word : ℕ) (words : List (Option ℕ)) (lists : List WordList) (k : ℕ) → length words ≡ length lists
    → position (is_word word) words ≡ None
    → position is_none words ≡ Some k → places_of (set words k (Some word)) (set lists k first) ≡ standing_on first word (places_of words lists)
begun_there first word words lists k same missing free =
    let none : list_any (is_of word) (places_of words lists) ≡ false = any_found (is_of word) (places_of words lists)
    ∙ ap is_some (position_word word words lists same ∙ missing) in
    let at = position_is_first is_none (places_of words lists) k (position_free words lists same ∙ free) in
    set_places words lists k (Some word) first same
    ∙ sym (change_first-first is_none (taken_by word first) (places_of words lists) k None at)
    ∙ ap (λ (b : Bool). if b then places_of words lists else change_first is_none (taken_by word first) (places_of words lists)) (sym none)

-- and that place is then the word's
pub place_there : (first : WordList) (word : ℕ) (words : List (Option ℕ)) (lists : List WordList) (k : ℕ) → length words ≡ length lists
    → position (is_word word) words ≡ None
    → position is_none words ≡ Some k → Some k ≡ position (is_of word) (places_of (set words k (Some word)) (set lists k first))
place_there first word words lists k same missing free =
    let none : list_any (is_word word) words ≡ false = any_found (is_word word) words ∙ ap is_some missing in
    let lengths : length (set words k (Some word)) ≡ length (set lists k first) = length-set words k (Some word) ∙ same ∙ sym (length-set lists k first) in
    sym (position_word word (set words k (Some word)) (set lists k first) lengths
    ∙ found_put (is_word word) words k (Some word) none (position_is_first is_none words k free).within (eq-eqb word word refl))

-- where one stands
pub stands_there : (first : WordList) (word : ℕ) (words : List (Option ℕ)) (lists : List WordList) (k : ℕ) → length words ≡ length lists
    → position (is_word word) words ≡ Some k
    → places_of words lists ≡ standing_on first word (places_of words lists)
stands_there first word words lists k same found =
    let some : list_any (is_of word) (places_of words lists) ≡ true = any_found (is_of word) (places_of words lists)
    ∙ ap is_some (position_word word words lists same ∙ found) in
    ap (λ (b : Bool). if b then places_of words lists else change_first is_none (taken_by word first) (places_of words lists)) (sym some)

-- where none does, and no place is free
pub full_there : (first : WordList) (word : ℕ) (words : List (Option ℕ)) (lists : List WordList) → length words ≡ length lists
    → position (is_word word) words ≡ None → position is_none words ≡ None
    → places_of words lists ≡ standing_on first word (places_of words lists)
full_there first word words lists same missing full =
    let none : list_any (is_of word) (places_of words lists) ≡ false = any_found (is_of word) (places_of words lists)
    ∙ ap is_some (position_word word words lists same ∙ missing) in
    sym (change_first-none is_none (taken_by word first) (places_of words lists) (position_free words lists same ∙ full))
    ∙ ap (λ (b : Bool). if b then places_of words lists else change_first is_none (taken_by word first) (places_of words lists)) (sym none)

-- ---- many places at once

freed_place : (word : ℕ) (held : Option ℕ) (list : WordList)
    → place_of (if is_word word held then None else held) list ≡ (if is_of word (place_of held list) then None else place_of held list)
freed_place word None list = refl
freed_place word (Some other) list = by_test (other == word)
  where
    by_test : (b : Bool) → place_of (if b then None else Some other) list ≡ (if b then None else place_of (Some other) list)
    by_test true = refl
    by_test false = refl

pub released_there : (word : ℕ) (words : List (Option ℕ)) (lists : List WordList)
    → places_of (map (λ held. if is_word word held then None else held) words) lists ≡ released_on word (places_of words lists)
released_there word [] lists = refl
released_there word (held ∷ words) [] = refl
released_there word (held ∷ words) (list ∷ lists) = ap₂ (λ (p : Option Kept) (ps : List (Option Kept)). p ∷ ps) (freed_place word held list)
    (released_there word words lists)

pub all_changed_there : (change : WordList → WordList) (words : List (Option ℕ)) (lists : List WordList)
    → places_of words (map change lists) ≡ all_changed_on change (places_of words lists)
all_changed_there change [] lists = refl
all_changed_there change (held ∷ words) [] = refl
all_changed_there change (held ∷ words) (list ∷ lists) = ap₂ (λ (p : Option Kept) (ps : List (Option Kept)). p ∷ ps) (changed_place change held list)
    (all_changed_there change words lists)
