-- The pages of a memory listed as ranges. What a range lists is what the pages of a device are: so `Faults` stays what is said of a memory.
use Rattle.std.specs.Prelude.{ℕ, ◌+◌, Bool, true, false, ◌&&◌, List, map, flat_map, Option, Some, None, find, min, nat_le, nat_lt}
use Rattle.std.specs.List.{range_with_len}
use Rattle.subordinate.specs.Faults.{Faults, IsAbsent, Standing, standing_of_kind}
use Rattle.subordinate.specs.declared.PageKind.{PageKind}
use Rattle.subordinate.specs.declared.PageKind.TheVariants.{Good, SlaveError as ErrorPage}
use Rattle.sparse_memory.specs.declared.PageRange.{PageRange}
use Rattle.sparse_memory.specs.declared.RangeKind.{RangeKind}
use Rattle.sparse_memory.specs.declared.RangeKind.TheVariants.{Zeros, Unknown, SlaveError}

-- what the pages of a range are to the port: a page whose bytes nobody knows is good too
abbrev pub kind_of : RangeKind → PageKind
kind_of Zeros = Good
kind_of Unknown = Good
kind_of SlaveError = ErrorPage

-- the pages of a range, one by one, from its first on
abbrev pub pages_of : PageRange → List (ℕ × PageKind)
pages_of range = map (λ number. (number, kind_of range.kind)) (range_with_len range.first range.count)

-- the pages of all ranges
unfoldable pub pages_in : List PageRange → List (ℕ × PageKind)
pages_in ranges = flat_map pages_of ranges

-- the pages and the bad words of a memory
abbrev pub faults_of : List PageRange → List ℕ → Faults
faults_of ranges bad_words = record { pages = pages_in ranges; bad_words = bad_words }

-- ---- the range that a page is in

-- whether a page is in a range
abbrev pub has_page : ℕ → PageRange → Bool
has_page number range = nat_le range.first number && nat_lt number (range.first + range.count)

-- the range that a page is in, if one is
abbrev pub range_of : List PageRange → ℕ → Option PageRange
range_of ranges number = find (has_page number) ranges

-- what a page is by the range that it is in; a page in none is absent
abbrev pub standing_in : Option PageRange → Standing
standing_in None = IsAbsent
standing_in (Some range) = standing_of_kind (kind_of range.kind)

-- whether nobody knows at first which bytes the pages of a range have
abbrev pub is_unknown_kind : RangeKind → Bool
is_unknown_kind Zeros = false
is_unknown_kind Unknown = true
is_unknown_kind SlaveError = false

-- the same of the range that a page is in, if one is
abbrev pub is_unknown_in : Option PageRange → Bool
is_unknown_in None = false
is_unknown_in (Some range) = is_unknown_kind range.kind

-- whether nobody knows at first which bytes a page has
abbrev pub is_unknown : List PageRange → ℕ → Bool
is_unknown ranges number = is_unknown_in (range_of ranges number)

-- ---- which page of a range is the first of several

-- the lower of two numbers, where there are two
abbrev pub lower : Option ℕ → Option ℕ → Option ℕ
lower None other = other
lower (Some number) None = Some number
lower (Some number) (Some second) = Some (min number second)
