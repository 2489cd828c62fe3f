-- The pages of ranges, by the range that a page is in.
use Rattle.std.proofs.Common.{◌≡◌, ℕ, zero, suc, ◌+◌, ◌/◌, Bool, true, false, ◌&&◌, List, [], ◌∷◌, map, Option, Some, None, if◌then◌else◌, nat_le, nat_lt, not, ◌%◌, refl, ap, arith, ◌∙◌, sym}
use Rattle.std.specs.Prelude.{find}
use Rattle.std.specs.List.{range_with_len}
use Rattle.std.specs.Option.{option_or}
use Rattle.std.proofs.lemmas.Bool.Decides.{nat_tests}
use Rattle.std.proofs.lemmas.List.Folds.{find-append}
use Rattle.subordinate.specs.Faults.{is_good, is_no_word, lists_page, standing_at, standing_of_listed}
use Rattle.subordinate.specs.declared.PageKind.{PageKind}
use Rattle.sparse_memory.specs.Ranges.{faults_of, has_page, kind_of, pages_in, pages_of, range_of, standing_in}
use Rattle.sparse_memory.specs.declared.PageRange.{PageRange}

-- the entry of a page among pages of one kind that follow each other
find-numbered : (number first count : ℕ) (kind : PageKind)
    → find (lists_page number) (map (λ page. (page, kind)) (range_with_len first count)) ≡ (if nat_le first number && nat_lt number (first + count) then Some (number, kind) else None)
find-numbered number first zero kind = grind (arith, nat_tests)
find-numbered number first (suc count) kind = grind (arith, nat_tests, find-numbered number (first + 1) count kind)

-- the entry of a page of a range
find-pages_of : (number : ℕ) (range : PageRange) → find (lists_page number) (pages_of range) ≡ (if has_page number range then Some (number, kind_of range.kind) else None)
find-pages_of number range = find-numbered number range.first range.count (kind_of range.kind)

-- what a page is is said by the range that it is in
pub standing-range_of : (number : ℕ) (ranges : List PageRange) → standing_of_listed (find (lists_page number) (pages_in ranges)) ≡ standing_in (range_of ranges number)
unfolding pages_in
standing-range_of number [] = refl
standing-range_of number (range ∷ ranges) =
    rw (find-append (lists_page number) (pages_of range) (pages_in ranges), find-pages_of number range)
    (elim (has_page number range) as (λ b. standing_of_listed (option_or (if b then Some (number, kind_of range.kind) else None) (find (lists_page number) (pages_in ranges)))
    ≡ standing_in (if b then Some range else range_of ranges number)) [ true ↦ refl | false ↦ standing-range_of number ranges ])

pub standing-ranges : (ranges : List PageRange) (bad_words : List ℕ) (address : ℕ) → standing_at (faults_of ranges bad_words) address ≡ standing_in (range_of ranges (address / 4096))
standing-ranges ranges bad_words address = standing-range_of (address / 4096) ranges

pub standing-found : (ranges : List PageRange) (bad_words : List ℕ) (address : ℕ) (range : Option PageRange) → range ≡ range_of ranges (address / 4096) → standing_in range ≡ standing_at (faults_of ranges bad_words) address
standing-found ranges bad_words address range is = ap standing_in is ∙ sym (standing-ranges ranges bad_words address)

-- a word at a multiple of 8 can't be bad where its page isn't good
pub no_word : (ranges : List PageRange) (word : ℕ) (good : Bool) → good ≡ is_good (standing_in (range_of ranges (word / 4096))) → word % 8 ≡ 0 → not good ≡ is_no_word (pages_in ranges) word
no_word ranges word good is aligned = rw (standing-range_of (word / 4096) ranges, aligned, is) refl
