-- Good pages by their numbers and their words: what is found by number is what the memory holds.
use Rattle.std.proofs.Common.{◌≡◌, ℕ, zero, suc, ◌/◌, ◌==◌, Bool, List, [], ◌∷◌, length, map, get_or, position, refl, sym, ◌∙◌, ap, arith}
use Rattle.std.proofs.Math.ListN.{set}
use Rattle.std.proofs.lemmas.List.{get_or_default}
use Rattle.std.specs.List.{position_or_len}
use Rattle.std.specs.Prelude.{Some, None, option_map, filter, replicate}
use Rattle.subordinate.specs.InsidePages.{pages_of, pages_state}
use Rattle.subordinate.specs.Pages.{GoodPage, Memory, holds_address, is_listed_good, opening_memory, page_with_word, word_at, word_place, with_word, zero_page, zero_words}
use Rattle.subordinate.specs.declared.PageKind.{PageKind}
use Rattle.subordinate.specs.declared.PageKind.TheVariants.{Good, SlaveError}
use Rattle.bus_words.proofs.FirstPlaces.{change_first-first, change_first-none, find-first, find-none, position_is_first}

-- whether a number is that of an address's page
abbrev pub is_page_of : ℕ → ℕ → Bool
is_page_of address number = number == address / 4096

-- the page that is read where a place is past the end
no_good_page : GoodPage
no_good_page = record { number = 0; words = [] }

-- ---- a page by its number

position_or_len-pages_of : (number : ℕ) (numbers : List ℕ) (pages : List (List ℕ)) → length pages ≡ length numbers
    → position_or_len (λ page. page.number == number) (pages_of numbers pages) ≡ position_or_len (λ n. n == number) numbers
position_or_len-pages_of number [] pages same = refl
position_or_len-pages_of number (n ∷ numbers) [] same = absurd (omega arith)
position_or_len-pages_of number (n ∷ numbers) (words ∷ pages) same = grind (arith, same, position_or_len-pages_of number numbers pages (omega arith))

length-pages_of : (numbers : List ℕ) (pages : List (List ℕ)) → length pages ≡ length numbers → length (pages_of numbers pages) ≡ length numbers
length-pages_of [] pages same = refl
length-pages_of (n ∷ numbers) [] same = absurd (omega arith)
length-pages_of (n ∷ numbers) (words ∷ pages) same = ap suc (length-pages_of numbers pages (omega arith))

position-pages_of : (numbers : List ℕ) (pages : List (List ℕ)) (address : ℕ) → length pages ≡ length numbers
    → position (holds_address address) (pages_of numbers pages) ≡ position (is_page_of address) numbers
position-pages_of numbers pages address same = rw (position_or_len-pages_of (address / 4096) numbers pages same, length-pages_of numbers pages same) refl

get_or-pages_of : (numbers : List ℕ) (pages : List (List ℕ)) (k : ℕ) → length pages ≡ length numbers
    → get_or (pages_of numbers pages) k no_good_page ≡ record { number = get_or numbers k 0; words = get_or pages k [] }
unfolding no_good_page
get_or-pages_of [] [] k same = refl
get_or-pages_of [] (words ∷ pages) k same = absurd (omega arith)
get_or-pages_of (n ∷ numbers) [] k same = absurd (omega arith)
get_or-pages_of (n ∷ numbers) (words ∷ pages) zero same = refl
get_or-pages_of (n ∷ numbers) (words ∷ pages) (suc k) same = get_or-pages_of numbers pages k (omega arith)

set-pages_of : (numbers : List ℕ) (pages : List (List ℕ)) (k : ℕ) (words : List ℕ) → length pages ≡ length numbers
    → set (pages_of numbers pages) k (record { number = get_or numbers k 0; words = words }) ≡ pages_of numbers (set pages k words)
set-pages_of [] [] k words same = refl
set-pages_of [] (x ∷ pages) k words same = absurd (omega arith)
set-pages_of (n ∷ numbers) [] k words same = absurd (omega arith)
set-pages_of (n ∷ numbers) (x ∷ pages) zero words same = refl
set-pages_of (n ∷ numbers) (x ∷ pages) (suc k) words same = ap (λ rest. record { number = n; words = x } ∷ rest) (set-pages_of numbers pages k words (omega arith))

-- a page that is found is within the list
page_read : (numbers : List ℕ) (pages : List (List ℕ)) (address k : ℕ) (words : List ℕ) → length pages ≡ length numbers → position (is_page_of address) numbers ≡ Some k → words ≡ get_or pages k words
    → get_or pages k [] ≡ words
page_read numbers pages address k words same found read =
    let first = position_is_first (is_page_of address) numbers k found in
    get_or_default pages k [] words (omega (arith, same, first.within)) ∙ sym read

-- ---- a word by its address

pub word_at-pages_of : (numbers : List ℕ) (pages : List (List ℕ)) (address k : ℕ) (words : List ℕ) → length pages ≡ length numbers → position (is_page_of address) numbers ≡ Some k → words ≡ get_or pages k words
    → word_at (pages_of numbers pages) address ≡ Some (get_or words (word_place address) 0)
word_at-pages_of numbers pages address k words same found read =
    let first = position_is_first (holds_address address) (pages_of numbers pages) k (position-pages_of numbers pages address same ∙ found) in
    ap (option_map (λ page. get_or page.words (word_place address) 0))
    (find-first (holds_address address) (pages_of numbers pages) k no_good_page first ∙ ap Some (get_or-pages_of numbers pages k same))
    ∙ ap (λ (ws : List ℕ). Some (get_or ws (word_place address) 0)) (page_read numbers pages address k words same found read)

pub word_at-none : (numbers : List ℕ) (pages : List (List ℕ)) (address : ℕ) → length pages ≡ length numbers → position (is_page_of address) numbers ≡ None → word_at (pages_of numbers pages) address ≡ None
word_at-none numbers pages address same missing =
    ap (option_map (λ page. get_or page.words (word_place address) 0)) (find-none (holds_address address) (pages_of numbers pages) (position-pages_of numbers pages address same ∙ missing))

pub with_word-pages_of : (numbers : List ℕ) (pages : List (List ℕ)) (address k : ℕ) (words : List ℕ) (word : ℕ) (change : ℕ → ℕ) → length pages ≡ length numbers → position (is_page_of address) numbers ≡ Some k
    → words ≡ get_or pages k words → change (get_or words (word_place address) 0) ≡ word → with_word (pages_of numbers pages) address change ≡ pages_of numbers (set pages k (set words (word_place address) word))
with_word-pages_of numbers pages address k words word change same found read gives =
    let first = position_is_first (holds_address address) (pages_of numbers pages) k (position-pages_of numbers pages address same ∙ found) in
    change_first-first (holds_address address) (page_with_word (word_place address) change) (pages_of numbers pages) k no_good_page first
    ∙ rw (get_or-pages_of numbers pages k same, page_read numbers pages address k words same found read, gives) (set-pages_of numbers pages k (set words (word_place address) word) same)

pub with_word-none : (numbers : List ℕ) (pages : List (List ℕ)) (address : ℕ) (change : ℕ → ℕ) → length pages ≡ length numbers → position (is_page_of address) numbers ≡ None
    → with_word (pages_of numbers pages) address change ≡ pages_of numbers pages
with_word-none numbers pages address change same missing =
    change_first-none (holds_address address) (page_with_word (word_place address) change) (pages_of numbers pages) (position-pages_of numbers pages address same ∙ missing)

-- ---- pages that were never written

pub pages_of-opening : (listed : List (ℕ × PageKind)) → pages_of (map (λ page. page.0) (filter is_listed_good listed)) (replicate (length (map (λ page. page.0) (filter is_listed_good listed))) zero_words) ≡ opening_memory listed
pages_of-opening [] = refl
pages_of-opening ((number, Good) ∷ listed) = ap (λ rest. zero_page (number, Good) ∷ rest) (pages_of-opening listed)
pages_of-opening ((number, SlaveError) ∷ listed) = pages_of-opening listed

-- what `new` makes is the opening state
pub pages_state-opening : (listed made : List (ℕ × PageKind)) (numbers : List ℕ) (pages : List (List ℕ)) (bad words : List ℕ) → made ≡ listed → numbers ≡ map (λ page. page.0) (filter is_listed_good listed)
    → pages ≡ replicate (length numbers) zero_words → words ≡ bad
    → pages_state made numbers pages words ≡ record { faults = record { pages = listed; bad_words = bad }; memory = opening_memory listed }
pages_state-opening listed made numbers pages bad words listed_is numbers_is pages_is words_is =
    rw (listed_is, words_is, pages_is, numbers_is)
    (ap (λ (memory : Memory). record { faults = record { pages = listed; bad_words = bad }; memory = memory }) (pages_of-opening listed))
