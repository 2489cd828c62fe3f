-- The first page of some ranges that breaks a rule of a device's pages: each range's pages stand behind those of the ranges before it, and no page of a
-- range is another of its own.
use Rattle.std.proofs.Common.{◌≡◌, ◌≢◌, ℕ, zero, suc, ◌+◌, ◌-◌, ◌<◌, ◌≤◌, min, Bool, true, false, ◌&&◌, List, [], ◌∷◌, ◌++◌, length, map, Option, Some, None, if◌then◌else◌, nat_le, nat_lt, refl, sym, ap, ap₂, arith, ◌∙◌}
use Rattle.std.specs.Prelude.{find}
use Rattle.std.specs.List.{AllByRecursion, list_any, range_with_len}
use Rattle.std.specs.Option.{option_map}
use Rattle.std.proofs.Math.Path.{fun_ext}
use Rattle.std.proofs.lemmas.Bool.{or_from, or_parts}
use Rattle.std.proofs.lemmas.Bool.Decides.{nat_tests}
use Rattle.std.proofs.lemmas.List.{append-nil, append_assoc, length-map, map-append}
use Rattle.std.proofs.lemmas.List.Folds.{list_any-append}
use Rattle.std.proofs.lemmas.List.FromFn.{length-map-range_with_len}
use Rattle.bus_words.specs.Places.{AreDistinct}
use Rattle.bus_words.specs.Tables.{first_broken}
use Rattle.bus_words.proofs.DistinctPlaces.{distinct-append}
use Rattle.bus_words.proofs.FewDistinct.{few_below}
use Rattle.bus_words.proofs.PlaceChanges.{all-append}
use Rattle.bus_words.proofs.TableLaws.{unbroken}
use Rattle.subordinate.specs.Faults.{lists_page, rules_of_pages}
use Rattle.subordinate.specs.declared.DeviceFault.{DeviceFault}
use Rattle.subordinate.specs.declared.DeviceFault.TheVariants.{PageRange as BeyondRange, PageTwice}
use Rattle.subordinate.specs.declared.PageKind.{PageKind}
use Rattle.sparse_memory.specs.Ranges.{has_page, kind_of, pages_in, pages_of}
use Rattle.sparse_memory.specs.declared.PageRange.{PageRange}

-- ---- which pages ranges list

any-numbered : (number first count : ℕ) (kind : PageKind) → list_any (lists_page number) (map (λ page. (page, kind)) (range_with_len first count)) ≡ (nat_le first number && nat_lt number (first + count))
any-numbered number first zero kind = grind (arith, nat_tests)
any-numbered number first (suc count) kind = grind (arith, nat_tests, any-numbered number (first + 1) count kind)

any-pages_in : (number : ℕ) (ranges : List PageRange) → list_any (lists_page number) (pages_in ranges) ≡ list_any (has_page number) ranges
unfolding pages_in
any-pages_in number [] = refl
any-pages_in number (range ∷ ranges) =
    list_any-append (lists_page number) (pages_of range) (pages_in ranges)
    ∙ rw (any-numbered number range.first range.count (kind_of range.kind), any-pages_in number ranges) refl

-- ---- one range

-- what is wrong with the first page of a range that breaks a rule, by how many of its pages have addresses of 32 bits, how many pages stand before it,
-- and which of its own is the first that is among those
abbrev pub fault_by : ℕ → ℕ → ℕ → Option ℕ → Option DeviceFault
fault_by within count counted None = if nat_lt within count then Some (BeyondRange (counted + within)) else None
fault_by within count counted (Some twice) =
    if nat_lt twice within then Some (PageTwice (counted + twice)) else if nat_lt within count then Some (BeyondRange (counted + within)) else None

-- none of them has one
none_within : (count counted : ℕ) (found : Option ℕ) → fault_by 0 (suc count) counted found ≡ Some (BeyondRange (counted + 0))
none_within count counted None = grind (arith, nat_tests)
none_within count counted (Some twice) = grind (arith, nat_tests)

-- without its first page
one_page_on : (within count counted : ℕ) (found : Option ℕ) → fault_by (suc within) (suc count) counted (option_map suc found) ≡ fault_by within count (counted + 1) found
one_page_on within count counted None = grind (arith, nat_tests)
one_page_on within count counted (Some twice) = grind (arith, nat_tests)

find-next : (p : ℕ → Bool) (from n : ℕ) → find p (range_with_len (from + 1) n) ≡ option_map suc (find (λ k. p (suc k)) (range_with_len from n))
find-next p from zero = refl
find-next p from (suc n) = by_test (p (from + 1)) refl (find-next p (from + 1) n)
  where
    by_test : (b : Bool) → p (from + 1) ≡ b → find p (range_with_len (from + 1 + 1) n) ≡ option_map suc (find (λ k. p (suc k)) (range_with_len (from + 1) n))
        → find p (range_with_len (from + 1) (suc n)) ≡ option_map suc (find (λ k. p (suc k)) (range_with_len from (suc n)))
    by_test true is rest = let same : p (suc from) ≡ true = ap p (omega arith) ∙ is in rw (is, same) (ap (λ i. Some i) (omega arith))
    by_test false is rest = let same : p (suc from) ≡ false = ap p (omega arith) ∙ is in rw (is, same) rest

-- its pages stand behind others, and behind those of its own that come before them
first-fault : (earlier own : List (ℕ × PageKind)) (counted first count : ℕ) (kind : PageKind) → ((number : ℕ) → first ≤ number → list_any (lists_page number) own ≡ false)
    → first_broken (rules_of_pages (earlier ++ own) counted (map (λ page. (page, kind)) (range_with_len first count)))
    ≡ fault_by (min count (1048576 - first)) count counted (find (λ k. list_any (lists_page (first + k)) earlier) (range_with_len 0 count))
first-fault earlier own counted first zero kind fresh = grind (arith, nat_tests)
first-fault earlier own counted first (suc count) kind fresh =
    by_tests (nat_lt 1048575 first) (list_any (lists_page first) earlier) refl refl (first-fault earlier (own ++ (first, kind) ∷ []) (counted + 1) (first + 1) count kind later)
  where
    listed : ℕ → Bool
    listed k = list_any (lists_page (first + k)) earlier

    here : list_any (lists_page first) (earlier ++ own) ≡ list_any (lists_page first) earlier
    here = list_any-append (lists_page first) earlier own ∙ rw (fresh first (omega arith)) (grind arith)

    first_listed : listed 0 ≡ list_any (lists_page first) earlier
    first_listed = ap (λ number. list_any (lists_page number) earlier) (omega arith)

    later : (number : ℕ) → first + 1 ≤ number → list_any (lists_page number) (own ++ (first, kind) ∷ []) ≡ false
    later number above = list_any-append (lists_page number) own ((first, kind) ∷ []) ∙ or_from _ _ (fresh number (omega (arith, above))) (grind (arith, nat_tests, above))

    -- what is said of the pages behind the first
    Rest : Type 0
    Rest =
        first_broken (rules_of_pages (earlier ++ (own ++ (first, kind) ∷ [])) (counted + 1) (map (λ page. (page, kind)) (range_with_len (first + 1) count)))
        ≡ fault_by (min count (1048576 - (first + 1))) count (counted + 1) (find (λ k. list_any (lists_page (first + 1 + k)) earlier) (range_with_len 0 count))

    moved : Rest → first_broken (rules_of_pages ((earlier ++ own) ++ (first, kind) ∷ []) (counted + 1) (map (λ page. (page, kind)) (range_with_len (first + 1) count)))
        ≡ fault_by (min count (1048576 - (first + 1))) count (counted + 1) (find (λ k. listed (suc k)) (range_with_len 0 count))
    moved rest =
        ap (λ pages. first_broken (rules_of_pages pages (counted + 1) (map (λ page. (page, kind)) (range_with_len (first + 1) count)))) (append_assoc earlier own ((first, kind) ∷ []))
        ∙ rest
        ∙ ap (λ (p : ℕ → Bool). fault_by (min count (1048576 - (first + 1))) count (counted + 1) (find p (range_with_len 0 count)))
        (fun_ext (λ k. ap (λ number. list_any (lists_page number) earlier) (omega arith)))

    by_tests : (beyond twice : Bool) → nat_lt 1048575 first ≡ beyond → list_any (lists_page first) earlier ≡ twice → Rest
        → first_broken (rules_of_pages (earlier ++ own) counted (map (λ page. (page, kind)) (range_with_len first (suc count))))
        ≡ fault_by (min (suc count) (1048576 - first)) (suc count) counted (find listed (range_with_len 0 (suc count)))
    by_tests true twice beyond known rest =
        let none : min (suc count) (1048576 - first) ≡ 0 = grind (arith, nat_tests, beyond) in
        let same : counted ≡ counted + 0 = omega arith in
        rw beyond (ap (λ i. Some (BeyondRange i)) same ∙ sym (rw none (none_within count counted (find listed (range_with_len 0 (suc count))))))
    by_tests false true near known rest =
        let some : nat_lt 0 (min (suc count) (1048576 - first)) ≡ true = grind (arith, nat_tests, near) in
        let same : counted ≡ counted + 0 = omega arith in
        rw (near, here, known, first_listed ∙ known, some) (ap (λ i. Some (PageTwice i)) same)
    by_tests false false near known rest =
        let more : min (suc count) (1048576 - first) ≡ suc (min count (1048576 - (first + 1))) = grind (arith, nat_tests, near) in
        rw (near, here, known, first_listed ∙ known)
        (moved rest ∙ sym (one_page_on (min count (1048576 - (first + 1))) count counted (find (λ k. listed (suc k)) (range_with_len 0 count)))
        ∙ ap₂ (λ n found. fault_by n (suc count) counted found) (sym more) (sym (find-next listed 0 count)))

pub fault-of_range : (earlier : List PageRange) (counted : ℕ) (range : PageRange)
    → first_broken (rules_of_pages (pages_in earlier) counted (pages_of range))
    ≡ fault_by (min range.count (1048576 - range.first)) range.count counted (find (λ k. list_any (has_page (range.first + k)) earlier) (range_with_len 0 range.count))
fault-of_range earlier counted range =
    ap (λ pages. first_broken (rules_of_pages pages counted (pages_of range))) (sym (append-nil (pages_in earlier)))
    ∙ first-fault (pages_in earlier) [] counted range.first range.count (kind_of range.kind) (λ number above. refl)
    ∙ ap (λ (p : ℕ → Bool). fault_by (min range.count (1048576 - range.first)) range.count counted (find p (range_with_len 0 range.count))) (fun_ext (λ k. any-pages_in (range.first + k) earlier))

-- ---- pages behind others

pub rules-append : (earlier : List (ℕ × PageKind)) (i : ℕ) (pages others : List (ℕ × PageKind))
    → rules_of_pages earlier i (pages ++ others) ≡ rules_of_pages earlier i pages ++ rules_of_pages (earlier ++ pages) (i + length pages) others
rules-append earlier i [] others = ap₂ (λ before n. rules_of_pages before n others) (sym (append-nil earlier)) (omega arith)
rules-append earlier i (page ∷ pages) others =
    ap (λ rules. (nat_lt 1048575 page.0, BeyondRange i) ∷ (list_any (lists_page page.0) earlier, PageTwice i) ∷ rules)
    (rules-append (earlier ++ page ∷ []) (i + 1) pages others
    ∙ ap₂ (λ before n. rules_of_pages (earlier ++ page ∷ []) (i + 1) pages ++ rules_of_pages before n others) (append_assoc earlier (page ∷ []) pages) (omega arith))

-- pages of which none breaks a rule: their numbers are distinct, and addresses of 32 bits have them
pub record AreListed (pages : List (ℕ × PageKind)) : Type 0 where
  pub distinct : AreDistinct (map (λ page. page.0) pages)
  pub low : AllByRecursion (λ number. number < 1048576) (map (λ page. page.0) pages)

pub none_listed : AreListed []
none_listed = record { distinct = tt; low = tt }

others-than : (number : ℕ) (pages : List (ℕ × PageKind)) → list_any (lists_page number) pages ≡ false → AllByRecursion (λ m. m ≢ number) (map (λ page. page.0) pages)
others-than number [] none = tt
others-than number (page ∷ pages) none =
    let parts = or_parts (lists_page number page) (list_any (lists_page number) pages) none in (λ same. absurd (grind (arith, nat_tests, parts.0, same)), others-than number pages parts.1)

pub listed-more : (earlier : List (ℕ × PageKind)) (i : ℕ) (pages : List (ℕ × PageKind)) → AreListed earlier → first_broken (rules_of_pages earlier i pages) ≡ None → AreListed (earlier ++ pages)
listed-more earlier i [] listed none = rw (append-nil earlier) listed
listed-more earlier i (page ∷ pages) listed none =
    let rest = rules_of_pages (earlier ++ page ∷ []) (i + 1) pages in
    let beyond = unbroken {Rule = DeviceFault} (nat_lt 1048575 page.0) (BeyondRange i) ((list_any (lists_page page.0) earlier, PageTwice i) ∷ rest) none in
    let twice = unbroken {Rule = DeviceFault} (list_any (lists_page page.0) earlier) (PageTwice i) rest beyond.1 in
    let low : page.0 < 1048576 = grind (arith, nat_tests, beyond.0) in
    let numbers = map-append (λ (page : ℕ × PageKind). page.0) earlier (page ∷ []) in
    let one_more : AreListed (earlier ++ page ∷ []) = record {
      distinct = rw numbers (distinct-append page.0 (map (λ page. page.0) earlier) listed.distinct (others-than page.0 earlier twice.0));
      low = rw numbers (all-append (λ number. number < 1048576) (map (λ page. page.0) earlier) page.0 listed.low low);
    } in
    rw (sym (append_assoc earlier (page ∷ []) pages)) (listed-more (earlier ++ page ∷ []) (i + 1) pages one_more twice.1)

-- there are no more of them than pages of such addresses
pub few-listed : (limit : ℕ) (pages : List (ℕ × PageKind)) → limit ≡ 1048576 → AreListed pages → length pages ≤ limit
few-listed limit pages is listed =
    rw (sym (length-map pages (λ page. page.0)))
    (few_below limit (map (λ page. page.0) pages) listed.distinct (rw is listed.low))

pub length-pages_of : (range : PageRange) → length (pages_of range) ≡ range.count
length-pages_of range = length-map-range_with_len (λ number. (number, kind_of range.kind)) range.first range.count
