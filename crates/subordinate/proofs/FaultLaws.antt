-- Tables of rules one after another, the standing of a page by the list of pages, and that no response is EXOKAY.
use Rattle.std.proofs.Common.{◌≡◌, ℕ, Bool, false, List, [], ◌∷◌, ◌++◌, get_or, refl, ap, ◌∙◌, arith}
use Rattle.std.specs.Prelude.{Some, None, position, find}
use Rattle.bus_words.specs.Tables.{first_broken}
use Rattle.axi_beats.specs.Responses.{is_exokay}
use Rattle.subordinate.specs.Faults.{IsAbsent, Standing, lists_page, standing_of_kind, standing_of_listed, write_response}
use Rattle.bus_words.proofs.FirstPlaces.{position_is_first, find-first, find-none}
use Rattle.subordinate.specs.declared.PageKind.{PageKind}
use Rattle.subordinate.specs.declared.DeviceFault.{DeviceFault}

pub first_broken-append-some : (xs ys : List (Bool × DeviceFault)) (fault : DeviceFault) → first_broken xs ≡ Some fault → first_broken (xs ++ ys) ≡ Some fault
first_broken-append-some [] ys fault found = absurd (cc)
first_broken-append-some (row ∷ xs) ys fault found = grind (arith, first_broken-append-some xs ys fault)

pub first_broken-append-none : (xs ys : List (Bool × DeviceFault)) → first_broken xs ≡ None → first_broken (xs ++ ys) ≡ first_broken ys
first_broken-append-none [] ys none = refl
first_broken-append-none (row ∷ xs) ys none = grind (arith, first_broken-append-none xs ys)

-- a listed page's standing is that of its first entry
pub standing-found : (pages : List (ℕ × PageKind)) (number place : ℕ) (d : ℕ × PageKind) (kind : PageKind) → position (lists_page number) pages ≡ Some place → (get_or pages place d).1 ≡ kind
    → standing_of_listed (find (lists_page number) pages) ≡ standing_of_kind kind
standing-found pages number place d kind found is =
    ap standing_of_listed (find-first (lists_page number) pages place d (position_is_first (lists_page number) pages place found)) ∙ ap standing_of_kind is

pub standing-missing : (pages : List (ℕ × PageKind)) (number : ℕ) → position (lists_page number) pages ≡ None → standing_of_listed (find (lists_page number) pages) ≡ IsAbsent
standing-missing pages number missing = ap standing_of_listed (find-none (lists_page number) pages missing)

-- the device never answers EXOKAY
pub write_plain : (standing : Standing) → is_exokay (write_response standing) ≡ false
write_plain standing = grind arith
