-- The bytes of a memory are just those of its good pages: at the opening of pages that aren't refused, and after every beat.
use Rattle.std.proofs.Common.{◌≡◌, ℕ, ◌+◌, ◌/◌, ◌==◌, Bool, true, false, List, [], ◌∷◌, ◌++◌, map, refl, ◌∙◌, arith}
use Rattle.std.proofs.lemmas.Bool.Decides.{nat_tests}
use Rattle.std.specs.List.{AllByRecursion, list_any}
use Rattle.std.specs.Prelude.{Option, Some, None, filter, find, is_some, slice_get}
use Rattle.bus_words.specs.Tables.{first_broken}
use Rattle.axi_beats.specs.Bursts.{Burst, WriteBurst, ReadBurst}
use Rattle.axi_beats.specs.declared.WBeat.{WBeat}
use Rattle.subordinate.specs.Effects.{HasGoodPages, IsWholePage}
use Rattle.subordinate.specs.Faults.{device_fault, is_good, lists_page, rules_of_pages, rules_of_words, standing_of_listed}
use Rattle.subordinate.specs.FreeMemory.{FreeMemory, memory_after, memory_with}
use Rattle.subordinate.specs.Pages.{Memory, byte_at_address, holds_address, is_listed_good, opening_memory, word_at, zero_page, zero_words}
use Rattle.subordinate.specs.declared.DeviceFault.{DeviceFault}
use Rattle.subordinate.specs.declared.PageKind.{PageKind}
use Rattle.subordinate.proofs.EffectLaws.{is_some-bytes_written, whole-bytes_written}
use Rattle.subordinate.proofs.OpenBursts.{is_some-option_map}
use Rattle.axi_beats.specs.declared.AwBeat.{AwBeat}

-- ---- tables without a broken rule

pub none_before : (xs ys : List (Bool × DeviceFault)) → first_broken (xs ++ ys) ≡ None → first_broken xs ≡ None
none_before [] ys none = refl
none_before (row ∷ xs) ys none = grind (arith, none_before xs ys)

-- ---- the opening memory

-- whether a good page of a number is kept
abbrev keeps : ℕ → Memory → Bool
keeps number memory = is_some (find (λ page. page.number == number) memory)

pub listed_more : (number : ℕ) (earlier : List (ℕ × PageKind)) (page : ℕ × PageKind) → list_any (lists_page number) earlier ≡ true → list_any (lists_page number) (earlier ++ page ∷ []) ≡ true
listed_more number [] page listed = absurd (cc)
listed_more number (first ∷ earlier) page listed = grind (arith, listed_more number earlier page)

pub listed_last : (number : ℕ) (earlier : List (ℕ × PageKind)) (page : ℕ × PageKind) → lists_page number page ≡ true → list_any (lists_page number) (earlier ++ page ∷ []) ≡ true
listed_last number [] page here = rw here refl
listed_last number (first ∷ earlier) page here = grind (arith, listed_last number earlier page here)

-- what the rules on a page ask: it doesn't stand earlier, and the later ones break none
pub page_parts : (earlier : List (ℕ × PageKind)) (i : ℕ) (page : ℕ × PageKind) (pages : List (ℕ × PageKind)) → first_broken (rules_of_pages earlier i (page ∷ pages)) ≡ None
    → (list_any (lists_page page.0) earlier ≡ false) × (first_broken (rules_of_pages (earlier ++ page ∷ []) (i + 1) pages) ≡ None)
page_parts earlier i page pages none = grind (arith, none)

-- a page that stands earlier isn't among the later ones
not_later : (number : ℕ) (earlier : List (ℕ × PageKind)) (i : ℕ) (pages : List (ℕ × PageKind)) → first_broken (rules_of_pages earlier i pages) ≡ None → list_any (lists_page number) earlier ≡ true
    → keeps number (opening_memory pages) ≡ false
not_later number earlier i [] none listed = refl
not_later number earlier i (page ∷ pages) none listed =
    let twice = page_parts earlier i page pages none in
    grind (arith, nat_tests, twice.0, not_later number (earlier ++ page ∷ []) (i + 1) pages twice.1 (listed_more number earlier page listed))

-- the opening memory keeps just the good pages
keeps-opening_memory : (number : ℕ) (earlier : List (ℕ × PageKind)) (i : ℕ) (pages : List (ℕ × PageKind)) → first_broken (rules_of_pages earlier i pages) ≡ None
    → keeps number (opening_memory pages) ≡ is_good (standing_of_listed (find (lists_page number) pages))
keeps-opening_memory number earlier i [] none = refl
keeps-opening_memory number earlier i (page ∷ pages) none =
    let twice = page_parts earlier i page pages none in
    grind (
      arith,
      keeps-opening_memory number (earlier ++ page ∷ []) (i + 1) pages twice.1,
      λ (here : lists_page number page ≡ true). not_later number (earlier ++ page ∷ []) (i + 1) pages twice.1 (listed_last number earlier page here),
    )

whole-opening_memory : (pages : List (ℕ × PageKind)) → AllByRecursion IsWholePage (map zero_page pages)
unfolding zero_words
whole-opening_memory [] = tt
whole-opening_memory (page ∷ pages) = (refl, whole-opening_memory pages)

-- pages and bad words that aren't refused open a memory whose bytes are those of the good pages
pub good_pages-opening : (pages : List (ℕ × PageKind)) (bad_words : List ℕ) → device_fault pages bad_words ≡ None
    → HasGoodPages (record { pages = pages; bad_words = bad_words }) (opening_memory pages)
good_pages-opening pages bad_words none =
    record {
      exactly = λ address.
          is_some-option_map _ (word_at (opening_memory pages) address)
          ∙ is_some-option_map _ (find (holds_address address) (opening_memory pages))
          ∙ keeps-opening_memory (address / 4096) [] 0 pages (none_before (rules_of_pages [] 0 pages) (rules_of_words pages 0 bad_words) none);
      whole = whole-opening_memory (filter is_listed_good pages);
    }

-- ---- performing

kept_bytes : (state : FreeMemory) (burst : Burst) (beat x : ℕ) → is_some (byte_at_address (memory_after state burst beat) x) ≡ is_some (byte_at_address state.memory x)
kept_bytes state burst beat x = grind (arith, λ (aw : AwBeat) (n : ℕ) (w : WBeat). is_some-bytes_written state.bus_bytes state.memory aw n w x)

kept_whole : (state : FreeMemory) (burst : Burst) (beat : ℕ) → AllByRecursion IsWholePage state.memory → AllByRecursion IsWholePage (memory_after state burst beat)
kept_whole state (ReadBurst ar) beat whole = whole
kept_whole state (WriteBurst aw data_beats) beat whole = by_data (slice_get data_beats beat)
  where
    by_data : (w : Option WBeat) → AllByRecursion IsWholePage (memory_with state aw (beat + 1) w)
    by_data None = whole
    by_data (Some w) = whole-bytes_written state.bus_bytes state.memory aw (beat + 1) w whole

-- every beat that is performed keeps it so
pub good_pages-after : (state : FreeMemory) (burst : Burst) (beat : ℕ) → HasGoodPages state.faults state.memory → HasGoodPages state.faults (memory_after state burst beat)
good_pages-after state burst beat pages = record { exactly = λ address. kept_bytes state burst beat address ∙ pages.exactly address; whole = kept_whole state burst beat pages.whole }
