-- The pages of the first ranges of a list, which break no rule, counted.
use Rattle.std.proofs.Common.{◌≡◌, ℕ, Bool, ◌+◌, ◌<◌, ◌≤◌, List, [], ◌∷◌, ◌++◌, length, take, drop, get_or, Some, None, refl, sym, ap, ap₂, arith, ◌∙◌}
use Rattle.std.proofs.lemmas.List.{append-nil, append_assoc, drop_all, drop_more, length-append, take_more}
use Rattle.bus_words.specs.Tables.{first_broken}
use Rattle.subordinate.specs.Faults.{rules_of_pages}
use Rattle.subordinate.specs.declared.DeviceFault.{DeviceFault}
use Rattle.subordinate.specs.declared.PageKind.{PageKind}
use Rattle.subordinate.proofs.FaultLaws.{first_broken-append-none, first_broken-append-some}
use Rattle.sparse_memory.specs.Ranges.{pages_in, pages_of}
use Rattle.sparse_memory.specs.declared.PageRange.{PageRange}
use Rattle.sparse_memory.proofs.ListedPages.{AreListed, few-listed, length-pages_of, listed-more, none_listed, rules-append}

pages_in-more : (ranges : List PageRange) (range : PageRange) → pages_in (ranges ++ range ∷ []) ≡ pages_in ranges ++ pages_of range
unfolding pages_in
pages_in-more [] range = append-nil (pages_of range)
pages_in-more (first ∷ ranges) range = ap (λ pages. pages_of first ++ pages) (pages_in-more ranges range) ∙ sym (append_assoc (pages_of first) (pages_in ranges) (pages_of range))

module _ (ranges : List PageRange) where
  abbrev before : ℕ → List (ℕ × PageKind)
  before place = pages_in (take place ranges)

  -- so many pages stand before the range at a place, and none of them breaks a rule
  pub record AreCounted (place counted : ℕ) : Type 0 where
    pub many : counted ≡ length (before place)
    pub listed : AreListed (before place)
    pub rest : first_broken (rules_of_pages (before place) counted (pages_in (drop place ranges))) ≡ first_broken (rules_of_pages [] 0 (pages_in ranges))

  pub counted-none : AreCounted 0 0
  unfolding pages_in
  counted-none = record { many = refl; listed = none_listed; rest = refl }

  pub counted-few : (place counted : ℕ) → AreCounted place counted → counted ≤ 1048576
  counted-few place counted are = omega (arith, are.many, few-listed 1048576 (before place) refl are.listed)

  module _ (place counted : ℕ) (default : PageRange) (below : place < length ranges) (are : AreCounted place counted) where
    -- the one at that place
    abbrev range : PageRange
    range = get_or ranges place default

    ahead : pages_in (drop place ranges) ≡ pages_of range ++ pages_in (drop (place + 1) ranges)
    unfolding pages_in
    ahead = ap pages_in (drop_more ranges place default below)

    behind : before (place + 1) ≡ before place ++ pages_of range
    behind = ap pages_in (take_more ranges place default below) ∙ pages_in-more (take place ranges) range

    split : rules_of_pages (before place) counted (pages_in (drop place ranges))
        ≡ rules_of_pages (before place) counted (pages_of range) ++ rules_of_pages (before (place + 1)) (counted + range.count) (pages_in (drop (place + 1) ranges))
    split =
        ap (rules_of_pages (before place) counted) ahead
        ∙ rules-append (before place) counted (pages_of range) (pages_in (drop (place + 1) ranges))
        ∙ ap₂ (λ pages n. rules_of_pages (before place) counted (pages_of range) ++ rules_of_pages pages (counted + n) (pages_in (drop (place + 1) ranges))) (sym behind) (length-pages_of range)

    abbrev own : List (Bool × DeviceFault)
    own = rules_of_pages (before place) counted (pages_of range)

    abbrev others : List (Bool × DeviceFault)
    others = rules_of_pages (before (place + 1)) (counted + range.count) (pages_in (drop (place + 1) ranges))

    pub counted-fault : (fault : DeviceFault) → first_broken (rules_of_pages (before place) counted (pages_of range)) ≡ Some fault → first_broken (rules_of_pages [] 0 (pages_in ranges)) ≡ Some fault
    counted-fault fault found = sym are.rest ∙ ap first_broken split ∙ first_broken-append-some own others fault found

    pub counted-more : first_broken (rules_of_pages (before place) counted (pages_of range)) ≡ None → AreCounted (place + 1) (counted + range.count)
    counted-more none =
        record {
          many = ap₂ (λ n m. n + m) are.many (sym (length-pages_of range)) ∙ sym (length-append (before place) (pages_of range)) ∙ ap length (sym behind);
          listed = rw behind (listed-more (before place) counted (pages_of range) are.listed none);
          rest = sym (first_broken-append-none own others none) ∙ ap first_broken (sym split) ∙ are.rest;
        }

  pub counted-all : (place counted : ℕ) → length ranges ≤ place → AreCounted place counted → first_broken (rules_of_pages [] 0 (pages_in ranges)) ≡ None
  unfolding pages_in
  counted-all place counted all are = sym are.rest ∙ ap (λ (rest : List PageRange). first_broken (rules_of_pages (before place) counted (pages_in rest))) (drop_all place ranges all)
