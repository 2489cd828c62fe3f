-- The pages of the memory and the words that went bad; they don't change in a run (this project's profile).
use Rattle.std.specs.Prelude.{ℕ, ◌+◌, ◌/◌, ◌%◌, ◌==◌, Bool, true, false, ◌||◌, not, List, [], ◌∷◌, ◌++◌, Option, Some, None, find, nat_lt}
use Rattle.std.specs.List.{list_any}
use Rattle.bus_words.specs.Lanes.{word_address}
use Rattle.bus_words.specs.Tables.{first_broken}
use Rattle.axi_beats.specs.declared.Resp.{Resp}
use Rattle.axi_beats.specs.declared.Resp.TheVariants.{Okay, SlvErr, DecErr}
use Rattle.subordinate.specs.declared.PageKind.{PageKind}
use Rattle.subordinate.specs.declared.PageKind.TheVariants.{Good, SlaveError}
use Rattle.subordinate.specs.declared.DeviceFault.{DeviceFault}
use Rattle.subordinate.specs.declared.DeviceFault.TheVariants.{PageRange, PageTwice, BadWord}

-- the listed pages with their kinds, and the addresses of the bad eight-byte words
pub record Faults : Type 0 where
  pub pages : List (ℕ × PageKind)
  pub bad_words : List ℕ

-- what a page is; a page that isn't listed is absent
pub data Standing : Type 0 where
  IsGood : Standing
  IsSlaveError : Standing
  IsAbsent : Standing

-- what a page is that is listed as of a kind
abbrev pub standing_of_kind : PageKind → Standing
standing_of_kind Good = IsGood
standing_of_kind SlaveError = IsSlaveError

-- what a page is by its entry in the list, if it has one
abbrev pub standing_of_listed : Option (ℕ × PageKind) → Standing
standing_of_listed None = IsAbsent
standing_of_listed (Some listed) = standing_of_kind listed.1

-- whether a listed page is that of an address
abbrev pub lists_page : ℕ → ℕ × PageKind → Bool
lists_page number listed = listed.0 == number

-- what the page of an address is
abbrev pub standing_at : Faults → ℕ → Standing
standing_at faults address = standing_of_listed (find (lists_page (address / 4096)) faults.pages)

-- whether a page is good
abbrev pub is_good : Standing → Bool
is_good IsGood = true
is_good IsSlaveError = false
is_good IsAbsent = false

-- whether the eight-byte word of an address is bad
abbrev pub is_bad : Faults → ℕ → Bool
is_bad faults address = list_any (λ word. word == word_address address) faults.bad_words

-- the response to a write at an address (AXI4, A3.4.4, write response; this project's profile: the page alone decides, bad words play no
-- part, and a write that is answered with an error changes nothing)
abbrev pub write_response : Standing → Resp
write_response IsGood = Okay
write_response IsSlaveError = SlvErr
write_response IsAbsent = DecErr

-- the response to a read beat on a page of this standing, whose word is bad or isn't (AXI4, A3.4.4, read response; this project's
-- profile: which of them gives which)
abbrev pub read_response_on : Standing → Bool → Resp
read_response_on IsGood true = SlvErr
read_response_on IsGood false = Okay
read_response_on IsSlaveError bad = SlvErr
read_response_on IsAbsent bad = DecErr

-- the response to a read beat at an address
abbrev pub read_response : Faults → ℕ → Resp
read_response faults address = read_response_on (standing_at faults address) (is_bad faults address)

-- the rules on a list of pages, page i standing after the earlier ones: numbers below 2^20, no page twice
abbrev pub rules_of_pages : List (ℕ × PageKind) → ℕ → List (ℕ × PageKind) → List (Bool × DeviceFault)
rules_of_pages earlier i [] = []
rules_of_pages earlier i (page ∷ pages) =
    (nat_lt 1048575 page.0, PageRange i) ∷ (list_any (lists_page page.0) earlier, PageTwice i) ∷ rules_of_pages (earlier ++ page ∷ []) (i + 1) pages

-- whether a word can't be bad: its address is no multiple of 8, or in no good page
abbrev pub is_no_word : List (ℕ × PageKind) → ℕ → Bool
is_no_word pages word = not (word % 8 == 0) || not (is_good (standing_at (record { pages = pages; bad_words = [] }) word))

-- the rules on a list of bad words; a word listed twice breaks none
abbrev pub rules_of_words : List (ℕ × PageKind) → ℕ → List ℕ → List (Bool × DeviceFault)
rules_of_words pages i [] = []
rules_of_words pages i (word ∷ words) = (is_no_word pages word, BadWord i) ∷ rules_of_words pages (i + 1) words

-- why a list of pages and bad words is refused, if it is: the first rule broken, pages before words
abbrev pub device_fault : List (ℕ × PageKind) → List ℕ → Option DeviceFault
device_fault pages words = first_broken (rules_of_pages [] 0 pages ++ rules_of_words pages 0 words)
