-- The bytes of good pages, read and set: a byte that is set is read back, and every other byte stays.
use Rattle.std.proofs.Common.{◌≡◌, ℕ, ◌/◌, ◌%◌, ◌<◌, ◌==◌, Bool, true, false, List, [], ◌∷◌, length, get_or, inl, inr, refl, sym, ◌∙◌, ap, arith}
use Rattle.std.proofs.Math.ListN.{set, length-set}
use Rattle.std.proofs.Math.Seq.{get_or-set_same, get_or-set_other, set_out}
use Rattle.std.proofs.lemmas.Bool.{cases_lt, ne_eqb, eq-eqb}
use Rattle.std.proofs.lemmas.Bool.Decides.{eqb_tells, nat_tests}
use Rattle.std.specs.List.{AllByRecursion}
use Rattle.std.specs.Prelude.{Option, Some, None, IfSome, find, is_some, option_map}
use Rattle.bus_words.specs.Lanes.{lane_byte}
use Rattle.bus_words.specs.Places.{change_first}
use Rattle.subordinate.specs.Effects.{IsWholePage}
use Rattle.subordinate.specs.Pages.{GoodPage, Memory, byte_at_address, holds_address, page_with_word, with_byte, word_place, word_with_byte}
use Rattle.subordinate.proofs.PageLaws.{lane_byte-word_with_byte}

-- ---- the first entry that passes, after a change

find-change_first-same : {X : Type 0} (p : X → Bool) (f : X → X) (xs : List X) → ((x : X) → p (f x) ≡ p x) → find p (change_first p f xs) ≡ option_map f (find p xs)
find-change_first-same p f [] same = refl
find-change_first-same p f (x ∷ xs) same = grind (arith, same x, find-change_first-same p f xs same)

find-change_first-other : {X : Type 0} (p q : X → Bool) (f : X → X) (xs : List X) → ((x : X) → q (f x) ≡ q x) → ((x : X) → p x ≡ true → q x ≡ false) → find q (change_first p f xs) ≡ find q xs
find-change_first-other p q f [] same apart = refl
find-change_first-other p q f (x ∷ xs) same apart = grind (arith, same x, apart x, find-change_first-other p q f xs same apart)

found_whole : (p : GoodPage → Bool) (memory : Memory) → AllByRecursion IsWholePage memory → IfSome (find p memory) IsWholePage
found_whole p [] whole = tt
found_whole p (page ∷ memory) whole = grind (arith, whole.0, found_whole p memory whole.1)

-- ---- one page

-- the byte at an address, in its page
abbrev byte_in : ℕ → GoodPage → ℕ
byte_in address page = lane_byte (get_or page.words (word_place address) 0) (address % 8)

-- a page with the byte at an address set
abbrev set_in : ℕ → ℕ → GoodPage → GoodPage
set_in address byte = page_with_word (word_place address) (word_with_byte (address % 8) byte)

byte_in-set_in : (address byte : ℕ) (page : GoodPage) → byte < 256 → IsWholePage page → byte_in address (set_in address byte page) ≡ byte
byte_in-set_in address byte page small whole =
    let within : word_place address < length page.words = omega (arith, whole) in
    ap (λ word. lane_byte word (address % 8)) (get_or-set_same page.words (word_place address) (word_with_byte (address % 8) byte (get_or page.words (word_place address) 0)) 0 within)
    ∙ lane_byte-word_with_byte (get_or page.words (word_place address) 0) (address % 8) byte (address % 8) small (omega arith)
    ∙ rw (eq-eqb (address % 8) (address % 8) refl) refl

other_lane : (words : List ℕ) (k lane other byte : ℕ) → (other == lane) ≡ false → other < 8 → byte < 256
    → lane_byte (get_or (set words k (word_with_byte lane byte (get_or words k 0))) k 0) other ≡ lane_byte (get_or words k 0) other
other_lane words k lane other byte apart below small =
    elim (cases_lt k (length words)) [
      | inl inside ↦
          ap (λ word. lane_byte word other) (get_or-set_same words k (word_with_byte lane byte (get_or words k 0)) 0 inside)
          ∙ lane_byte-word_with_byte (get_or words k 0) lane byte other small below
          ∙ rw apart refl
      | inr outside ↦ ap (λ ws. lane_byte (get_or ws k 0) other) (set_out words k (word_with_byte lane byte (get_or words k 0)) outside)
    ]

byte_in-set_in-other : (address x byte : ℕ) (page : GoodPage) → byte < 256 → x / 4096 ≡ address / 4096 → (x ≡ address → ⊥) → byte_in x (set_in address byte page) ≡ byte_in x page
byte_in-set_in-other address x byte page small same_page apart =
    elim (eqb_tells (word_place x) (word_place address)) [
      | inl same ↦ at_place same.1
      | inr other ↦
          ap (λ word. lane_byte word (x % 8))
          (get_or-set_other page.words (word_place address) (word_place x) (word_with_byte (address % 8) byte (get_or page.words (word_place address) 0)) 0 other.1)
    ]
  where
    at_place : word_place x ≡ word_place address → byte_in x (set_in address byte page) ≡ byte_in x page
    at_place same =
        rw same
        (other_lane page.words (word_place address) (address % 8) (x % 8) byte (ne_eqb (x % 8) (address % 8) (λ lanes. apart (omega arith))) (omega arith) small)

-- ---- the memory

option_map-option_map : {X Y Z : Type 0} (g : Y → Z) (h : X → Y) (found : Option X) → option_map g (option_map h found) ≡ option_map (λ x. g (h x)) found
option_map-option_map g h found = grind arith

byte_at_address-page : (memory : Memory) (x : ℕ) → byte_at_address memory x ≡ option_map (byte_in x) (find (holds_address x) memory)
byte_at_address-page memory x = option_map-option_map (λ word. lane_byte word (x % 8)) (λ page. get_or page.words (word_place x) 0) (find (holds_address x) memory)

same_page-find : (memory : Memory) (x address : ℕ) → x / 4096 ≡ address / 4096 → find (holds_address x) memory ≡ find (holds_address address) memory
same_page-find memory x address same = ap (λ (number : ℕ). find (λ (page : GoodPage). page.number == number) memory) same

-- an address in the page of the byte that is set reads the changed page
same_page-read : (memory : Memory) (address x byte : ℕ) → x / 4096 ≡ address / 4096
    → byte_at_address (with_byte memory address byte) x ≡ option_map (byte_in x) (option_map (set_in address byte) (find (holds_address address) memory))
same_page-read memory address x byte same =
    byte_at_address-page (with_byte memory address byte) x
    ∙ ap (option_map (byte_in x)) (same_page-find (with_byte memory address byte) x address same ∙ find-change_first-same (holds_address address) (set_in address byte) memory (λ page. refl))

-- an address in another page reads what it read before
other_page-read : (memory : Memory) (address x byte : ℕ) → (x / 4096 ≡ address / 4096 → ⊥) → byte_at_address (with_byte memory address byte) x ≡ byte_at_address memory x
other_page-read memory address x byte other =
    byte_at_address-page (with_byte memory address byte) x
    ∙ ap (option_map (byte_in x)) (find-change_first-other (holds_address address) (holds_address x) (set_in address byte) memory (λ page. refl) apart)
    ∙ sym (byte_at_address-page memory x)
  where
    apart : (page : GoodPage) → holds_address address page ≡ true → holds_address x page ≡ false
    apart page holds = grind (arith, nat_tests)

-- a byte that is set is read back
pub byte_at_address-with_byte : (memory : Memory) (address byte : ℕ) → byte < 256 → AllByRecursion IsWholePage memory → is_some (byte_at_address memory address) ≡ true
    → byte_at_address (with_byte memory address byte) address ≡ Some byte
byte_at_address-with_byte memory address byte small whole there =
    same_page-read memory address address byte refl
    ∙ in_page (find (holds_address address) memory) (found_whole (holds_address address) memory whole) (ap is_some (sym (byte_at_address-page memory address)) ∙ there)
  where
    in_page : (found : Option GoodPage) → IfSome found IsWholePage → is_some (option_map (byte_in address) found) ≡ true → option_map (byte_in address) (option_map (set_in address byte) found) ≡ Some byte
    in_page None whole there = absurd (cc)
    in_page (Some page) whole there = ap Some (byte_in-set_in address byte page small whole)

-- every other byte stays
pub byte_at_address-with_byte-other : (memory : Memory) (address x byte : ℕ) → byte < 256 → (x ≡ address → ⊥) → byte_at_address (with_byte memory address byte) x ≡ byte_at_address memory x
byte_at_address-with_byte-other memory address x byte small apart =
    elim (eqb_tells (x / 4096) (address / 4096)) [ inl same ↦ near same.1 | inr other ↦ other_page-read memory address x byte other.1 ]
  where
    in_page : x / 4096 ≡ address / 4096 → (found : Option GoodPage) → option_map (byte_in x) (option_map (set_in address byte) found) ≡ option_map (byte_in x) found
    in_page same None = refl
    in_page same (Some page) = ap Some (byte_in-set_in-other address x byte page small same apart)

    near : x / 4096 ≡ address / 4096 → byte_at_address (with_byte memory address byte) x ≡ byte_at_address memory x
    near same = grind (arith, same, same_page-read memory address x byte same, in_page same (find (holds_address address) memory))

-- no byte comes or goes
pub is_some-with_byte : (memory : Memory) (address x byte : ℕ) → is_some (byte_at_address (with_byte memory address byte) x) ≡ is_some (byte_at_address memory x)
is_some-with_byte memory address x byte =
    grind (
      arith,
      nat_tests,
      same_page-read memory address x byte,
      other_page-read memory address x byte,
      same_page-find memory x address,
      byte_at_address-page memory x,
    )

-- pages stay whole
pub whole-with_byte : (memory : Memory) (address byte : ℕ) → AllByRecursion IsWholePage memory → AllByRecursion IsWholePage (with_byte memory address byte)
whole-with_byte [] address byte whole = whole
whole-with_byte (page ∷ memory) address byte whole =
    grind (arith, whole, page.words, length-set page.words (word_place address), whole-with_byte memory address byte whole.1)
