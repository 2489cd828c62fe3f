-- Worked values of the definitions.
use Rattle.std.proofs.Common.{◌≡◌, ℕ, true, false, List, [], ◌∷◌, map, Option, Some, None, refl}
use Rattle.std.specs.List.{range_with_len}
use Rattle.subordinate.specs.Faults.{IsAbsent, IsGood, IsSlaveError, device_fault, read_response, standing_at}
use Rattle.subordinate.specs.declared.DeviceFault.{DeviceFault}
use Rattle.subordinate.specs.declared.DeviceFault.TheVariants.{BadWord, PageRange as BeyondRange, PageTwice}
use Rattle.subordinate.specs.declared.PageKind.TheVariants.{Good, SlaveError as ErrorPage}
use Rattle.axi_beats.specs.declared.Resp.TheVariants.{Okay, SlvErr, DecErr}
use Rattle.sparse_memory.specs.Ranges.{faults_of, is_unknown, pages_in}
use Rattle.sparse_memory.specs.SparseMemory.{PageState, SparseState, bytes_in, doubts_in, flags_in, flags_merged, has_room, put_flags, put_word, word_in}
use Rattle.sparse_memory.specs.declared.PageRange.{PageRange}
use Rattle.sparse_memory.specs.declared.RangeKind.{RangeKind}
use Rattle.sparse_memory.specs.declared.RangeKind.TheVariants.{Zeros, Unknown, SlaveError}

abbrev range : ℕ → ℕ → RangeKind → PageRange
range first count kind = record { first = first; count = count; kind = kind }

-- two pages of zeros, one of which nobody knows what it has, and behind a gap one that answers with an error
abbrev four : List PageRange
four = range 0x10 2 Zeros ∷ range 0x12 1 Unknown ∷ range 0x14 1 SlaveError ∷ []

listed : pages_in four ≡ (0x10, Good) ∷ (0x11, Good) ∷ (0x12, Good) ∷ (0x14, ErrorPage) ∷ []
unfolding pages_in
listed = refl

standings : map (standing_at (faults_of four [])) (0xffff ∷ 0x10000 ∷ 0x12fff ∷ 0x13000 ∷ 0x14fff ∷ 0x15000 ∷ []) ≡ IsAbsent ∷ IsGood ∷ IsGood ∷ IsAbsent ∷ IsSlaveError ∷ IsAbsent ∷ []
unfolding pages_in
standings = refl

unknown_pages : map (is_unknown four) (0x11 ∷ 0x12 ∷ 0x13 ∷ []) ≡ false ∷ true ∷ false ∷ []
unknown_pages = refl

responses : map (read_response (faults_of four (0x11ff8 ∷ []))) (0x11ff7 ∷ 0x11fff ∷ 0x12000 ∷ 0x13000 ∷ 0x14000 ∷ []) ≡ Okay ∷ SlvErr ∷ Okay ∷ DecErr ∷ SlvErr ∷ []
unfolding pages_in
responses = refl

-- ---- why ranges and bad words are refused

abbrev fault_of : List PageRange → List ℕ → Option DeviceFault
fault_of ranges bad_words = device_fault (pages_in ranges) bad_words

none_refused : fault_of four (0x11ff8 ∷ 0x12000 ∷ []) ≡ None
unfolding pages_in
none_refused = refl

-- not aligned, in no page, and in a page that answers with an error
no_words : map (λ word. fault_of four (0x12000 ∷ word ∷ [])) (0x10004 ∷ 0x13000 ∷ 0x14000 ∷ []) ≡ Some (BadWord 1) ∷ Some (BadWord 1) ∷ Some (BadWord 1) ∷ []
unfolding pages_in
no_words = refl

-- ranges that meet, and one with no page
meeting : fault_of (range 4 4 Zeros ∷ range 0 4 Zeros ∷ range 2 0 Zeros ∷ range 8 1 Zeros ∷ []) [] ≡ None
unfolding pages_in
meeting = refl

-- pages are counted over all ranges: here two stand before the range, one of its own fits, and the next has an address of more than 32 bits
beyond : fault_of (range 0 2 Zeros ∷ range 0xfffff 2 Zeros ∷ []) [] ≡ Some (BeyondRange 3)
unfolding pages_in
beyond = refl

-- the second page of a range is in one before it
twice : fault_of (range 4 4 Zeros ∷ range 3 9 Unknown ∷ []) (0x13000 ∷ []) ≡ Some (PageTwice 5)
unfolding pages_in
twice = refl

-- ---- bytes and doubts, of which the first two words of page 0x10 have room

abbrev page : PageState
page = record { words = 0x8877665544332211 ∷ 0xff ∷ []; doubts = 0x81 ∷ 0x02 ∷ [] }

abbrev held : SparseState
held = record { ranges = four; bad_words = []; touched = (0x10, page) ∷ [] }

rooms : map (has_room held) (0x10 ∷ 0x11 ∷ 0x12 ∷ []) ≡ true ∷ false ∷ false ∷ []
rooms = refl

bytes : map (bytes_in held) (range_with_len 0x10000 9) ≡ 0x11 ∷ 0x22 ∷ 0x33 ∷ 0x44 ∷ 0x55 ∷ 0x66 ∷ 0x77 ∷ 0x88 ∷ 0xff ∷ []
unfolding bytes_in
bytes = refl

doubts : map (doubts_in held) (0x10000 ∷ 0x10001 ∷ 0x10007 ∷ 0x10008 ∷ 0x10009 ∷ 0x11000 ∷ 0x12000 ∷ 0x13000 ∷ []) ≡ true ∷ false ∷ true ∷ false ∷ true ∷ false ∷ true ∷ false ∷ []
unfolding doubts_in
doubts = refl

word : word_in (bytes_in held) 0x10003 ≡ 0x8877665544332211
unfolding word_in bytes_in
word = refl

flags : flags_in (doubts_in held) 0x10003 ≡ 0x81
unfolding flags_in doubts_in
flags = refl

put_bytes : map (put_word 0x10005 0xaabbccddeeff0011 0x82 (bytes_in held)) (range_with_len 0x10000 9) ≡ 0x11 ∷ 0x00 ∷ 0x33 ∷ 0x44 ∷ 0x55 ∷ 0x66 ∷ 0x77 ∷ 0xaa ∷ 0xff ∷ []
unfolding bytes_in
put_bytes = refl

put_doubts : map (put_flags 0x10005 0x02 0x82 (doubts_in held)) (0x10000 ∷ 0x10001 ∷ 0x10007 ∷ 0x10009 ∷ []) ≡ true ∷ true ∷ false ∷ true ∷ []
unfolding doubts_in
put_doubts = refl

merged : flags_merged 0x81 0x02 0x82 ≡ 0x03
unfolding flags_merged
merged = refl
