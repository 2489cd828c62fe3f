-- The bytes of a memory that has just been made: each of them is zero.
use Rattle.std.proofs.Common.{◌≡◌, ℕ, zero, suc, ◌%◌, List, [], ◌∷◌, map, replicate, Option, Some, None, refl, arith, filter, find, option_map, slice_index, unwrap_or}
use Rattle.std.specs.List.{AllByRecursion}
use Rattle.bus_words.specs.Lanes.{lane_byte}
use Rattle.bus_words.proofs.PlaceChanges.{all-find}
use Rattle.subordinate.specs.Pages.{GoodPage, byte_at_address, holds_address, is_listed_good, opening_memory, word_place, zero_page, zero_words}
use Rattle.subordinate.specs.declared.PageKind.{PageKind}

zero_at : (n place : ℕ) → slice_index (replicate n 0) place ≡ 0
zero_at zero place = refl
zero_at (suc n) zero = refl
zero_at (suc n) (suc place) = zero_at n place

zero_word : (place : ℕ) → slice_index zero_words place ≡ 0
unfolding zero_words
zero_word place = zero_at 512 place

zero_lane : (lane : ℕ) → lane_byte 0 lane ≡ 0
zero_lane zero = refl
zero_lane (suc lane) = omega arith

zero_pages : (pages : List (ℕ × PageKind)) → AllByRecursion (λ page. page.words ≡ zero_words) (map zero_page pages)
zero_pages [] = tt
zero_pages (page ∷ pages) = (refl, zero_pages pages)

-- a byte of the opening memory is zero, where there is one
pub zero_byte : (pages : List (ℕ × PageKind)) (address : ℕ) → unwrap_or (byte_at_address (opening_memory pages) address) 0 ≡ 0
zero_byte pages address = by_page (find (holds_address address) (opening_memory pages)) refl
  where
    by_page : (o : Option GoodPage) → find (holds_address address) (opening_memory pages) ≡ o
        → unwrap_or (option_map (λ word. lane_byte word (address % 8)) (option_map (λ page. slice_index page.words (word_place address)) o)) 0 ≡ 0
    by_page None is = refl
    by_page (Some page) is =
        let words = all-find (λ (p : GoodPage). p.words ≡ zero_words) (holds_address address) (opening_memory pages) page (zero_pages (filter is_listed_good pages)) is in
        rw (words, zero_word (word_place address)) (zero_lane (address % 8))
