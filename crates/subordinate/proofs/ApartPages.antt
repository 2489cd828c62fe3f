-- Good pages have numbers of which no two are the same, so that a page that stands at a place stands nowhere else.
use Rattle.std.proofs.Common.{◌≡◌, ◌≢◌, ℕ, ◌+◌, ◌%◌, true, List, [], ◌∷◌, ◌++◌, length, map, get_or, position, refl, sym, arith, ap, ◌∙◌}
use Rattle.std.proofs.lemmas.Bool.{eq-eqb}
use Rattle.std.specs.List.{AllByRecursion, list_any}
use Rattle.std.proofs.lemmas.List.{get_or_default}
use Rattle.std.specs.Prelude.{Option, Some, None, filter, is_some, option_map}
use Rattle.axi_beats.specs.declared.Resp.TheVariants.{Okay}
use Rattle.bus_words.specs.Lanes.{lane_byte}
use Rattle.bus_words.specs.Places.{AreDistinct}
use Rattle.bus_words.specs.Tables.{first_broken}
use Rattle.subordinate.specs.Effects.{HasGoodPages}
use Rattle.subordinate.specs.Faults.{Standing, device_fault, is_good, lists_page, rules_of_pages, rules_of_words, standing_at, write_response}
use Rattle.subordinate.specs.InsidePages.{pages_of}
use Rattle.subordinate.specs.Pages.{byte_at_address, is_listed_good}
use Rattle.subordinate.specs.declared.PageKind.{PageKind}
use Rattle.subordinate.specs.declared.PageKind.TheVariants.{Good, SlaveError}
use Rattle.bus_words.proofs.FirstPlaces.{position_is_first}
use Rattle.subordinate.proofs.PagesOf.{is_page_of, word_at-pages_of}
use Rattle.subordinate.proofs.GoodPages.{listed_last, listed_more, none_before, page_parts}

-- ---- pages that aren't refused

abbrev good_of : List (ℕ × PageKind) → List ℕ
good_of pages = map (λ page. page.0) (filter is_listed_good pages)

-- a page that stands earlier isn't among the later ones
others_later : (number : ℕ) (earlier : List (ℕ × PageKind)) (i : ℕ) (pages : List (ℕ × PageKind)) → first_broken (rules_of_pages earlier i pages) ≡ None → list_any (lists_page number) earlier ≡ true
    → AllByRecursion (λ m. m ≢ number) (good_of pages)
others_later number earlier i [] none listed = tt
others_later number earlier i ((page, kind) ∷ pages) none listed =
    let twice = page_parts earlier i (page, kind) pages none in
    let later = others_later number (earlier ++ (page, kind) ∷ []) (i + 1) pages twice.1 (listed_more number earlier (page, kind) listed) in
    elim kind as (λ k. AllByRecursion (λ m. m ≢ number) (good_of ((page, k) ∷ pages))) [ Good ↦ (λ same. absurd (cc (twice.0, listed, same)), later) | SlaveError ↦ later ]

apart_from : (earlier : List (ℕ × PageKind)) (i : ℕ) (pages : List (ℕ × PageKind)) → first_broken (rules_of_pages earlier i pages) ≡ None → AreDistinct (good_of pages)
apart_from earlier i [] none = tt
apart_from earlier i ((page, kind) ∷ pages) none =
    let twice = page_parts earlier i (page, kind) pages none in
    let later = apart_from (earlier ++ (page, kind) ∷ []) (i + 1) pages twice.1 in
    let others = others_later page (earlier ++ (page, kind) ∷ []) (i + 1) pages twice.1 (listed_last page earlier (page, kind) (eq-eqb page page refl)) in
    elim kind as (λ k. AreDistinct (good_of ((page, k) ∷ pages))) [ Good ↦ (others, later) | SlaveError ↦ later ]

pub are_apart : (pages : List (ℕ × PageKind)) (bad_words : List ℕ) → device_fault pages bad_words ≡ None → AreDistinct (good_of pages)
are_apart pages bad_words none = apart_from [] 0 pages (none_before (rules_of_pages [] 0 pages) (rules_of_words pages 0 bad_words) none)

-- ---- a page that has a place

-- a page that has a place among the good ones is good
pub okay_at : (listed : List (ℕ × PageKind)) (numbers : List ℕ) (pages : List (List ℕ)) (bad : List ℕ) (address : ℕ) → length pages ≡ length numbers → HasGoodPages (record { pages = listed; bad_words = bad }) (pages_of numbers pages)
    → is_some (position (is_page_of address) numbers) ≡ true → Okay ≡ write_response (standing_at (record { pages = listed; bad_words = bad }) address)
okay_at listed numbers pages bad address same keeps placed = by_place (position (is_page_of address) numbers) refl placed
  where
    by_standing : (standing : Standing) → is_good standing ≡ true → Okay ≡ write_response standing
    by_standing standing good = grind arith

    by_place : (o : Option ℕ) → position (is_page_of address) numbers ≡ o → is_some o ≡ true → Okay ≡ write_response (standing_at (record { pages = listed; bad_words = bad }) address)
    by_place None found some = absurd (cc)
    by_place (Some k) found some =
        let first = position_is_first (is_page_of address) numbers k found in
        let read = get_or_default pages k [] (get_or pages k []) (omega (arith, same, first.within)) in
        let word = word_at-pages_of numbers pages address k (get_or pages k []) same found read in
        let kept : is_some (byte_at_address (pages_of numbers pages) address) ≡ true = ap (λ (o : Option ℕ). is_some (option_map (λ word. lane_byte word (address % 8)) o)) word in
        by_standing (standing_at (record { pages = listed; bad_words = bad }) address) (sym (keeps.exactly address) ∙ kept)
