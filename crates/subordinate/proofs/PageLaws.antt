-- Words and their bytes: a byte that is set in a word, a word that is changed in a memory, and addresses of one word.
use Rattle.std.proofs.Common.{◌≡◌, ℕ, zero, suc, ◌+◌, ◌*◌, ◌/◌, ◌<◌, ◌==◌, List, get_or, refl, ◌∙◌, ap, arith, [], ◌∷◌, Bool}
use Rattle.std.proofs.Math.Seq.{set-get_or}
use Rattle.std.specs.Prelude.{if◌then◌else◌, option_map}
use Rattle.bus_words.specs.Lanes.{lane_byte}
use Rattle.bus_words.specs.Places.{change_first}
use Rattle.bus_words.proofs.LaneLaws.{GivesBytes, lane_byte-word_of_lanes}
use Rattle.subordinate.specs.Pages.{GoodPage, Memory, byte_at_address, holds_address, page_with_word, with_word, word_at, word_place, word_with_byte}
use Rattle.std.proofs.Math.ListN.{set}

-- ---- a byte of a word

-- a lane holds a byte
pub lane_byte-lt : (word lane : ℕ) → lane_byte word lane < 256
lane_byte-lt word zero = omega arith
lane_byte-lt word (suc lane) = omega arith

with_byte_gives : (word lane byte : ℕ) → byte < 256 → GivesBytes (λ other. if other == lane then byte else lane_byte word other)
with_byte_gives word lane byte small = grind (arith, small)

pub lane_byte-word_with_byte : (word lane byte other : ℕ) → byte < 256 → other < 8 → lane_byte (word_with_byte lane byte word) other ≡ (if other == lane then byte else lane_byte word other)
lane_byte-word_with_byte word lane byte other small below = lane_byte-word_of_lanes _ other (with_byte_gives word lane byte small) below

-- ---- changes of a first passing entry, one after another

-- two changes are one, where the first leaves the test as it was
change_first-change_first : {X : Type 0} (p : X → Bool) (f g : X → X) (xs : List X) → ((x : X) → p (f x) ≡ p x) → change_first p g (change_first p f xs) ≡ change_first p (λ x. g (f x)) xs
change_first-change_first p f g [] same = refl
change_first-change_first p f g (x ∷ xs) same = grind (arith, same x, change_first-change_first p f g xs same)

-- a change that changes nothing
change_first-same : {X : Type 0} (p : X → Bool) (f : X → X) (xs : List X) → ((x : X) → f x ≡ x) → change_first p f xs ≡ xs
change_first-same p f [] same = refl
change_first-same p f (x ∷ xs) same = grind (arith, same x, change_first-same p f xs same)

-- changes that agree
change_first-agree : {X : Type 0} (p : X → Bool) (f g : X → X) (xs : List X) → ((x : X) → f x ≡ g x) → change_first p f xs ≡ change_first p g xs
change_first-agree p f g [] same = refl
change_first-agree p f g (x ∷ xs) same = rw (same x, change_first-agree p f g xs same) refl

-- a store computed from what stands there, and then another
set-set_from : (xs : List ℕ) (k : ℕ) (f g : ℕ → ℕ) → set (set xs k (f (get_or xs k 0))) k (g (get_or (set xs k (f (get_or xs k 0))) k 0)) ≡ set xs k (g (f (get_or xs k 0)))
set-set_from [] k f g = refl
set-set_from (x ∷ xs) zero f g = refl
set-set_from (x ∷ xs) (suc k) f g = ap (λ (ys : List ℕ). x ∷ ys) (set-set_from xs k f g)

-- ---- a word of a memory

page_with_word-twice : (place : ℕ) (f g : ℕ → ℕ) (page : GoodPage) → page_with_word place g (page_with_word place f page) ≡ page_with_word place (λ word. g (f word)) page
page_with_word-twice place f g page = ap (λ (words : List ℕ). record page { words = words }) (set-set_from page.words place f g)

page_with_word-same : (place : ℕ) (f : ℕ → ℕ) (page : GoodPage) → ((word : ℕ) → f word ≡ word) → page_with_word place f page ≡ page
page_with_word-same place f page same =
    ap (λ (words : List ℕ). record page { words = words }) (rw (same (get_or page.words place 0)) (set-get_or page.words place 0))

-- two changes of one word are one
pub with_word-with_word : (memory : Memory) (address : ℕ) (f g : ℕ → ℕ) → with_word (with_word memory address f) address g ≡ with_word memory address (λ word. g (f word))
with_word-with_word memory address f g =
    change_first-change_first (holds_address address) (page_with_word (word_place address) f) (page_with_word (word_place address) g) memory (λ page. refl)
    ∙ change_first-agree (holds_address address) _ _ memory (page_with_word-twice (word_place address) f g)

-- a change that changes no word changes nothing
pub with_word-same : (memory : Memory) (address : ℕ) (f : ℕ → ℕ) → ((word : ℕ) → f word ≡ word) → with_word memory address f ≡ memory
with_word-same memory address f same =
    change_first-same (holds_address address) (page_with_word (word_place address) f) memory (λ page. page_with_word-same (word_place address) f page same)

-- ---- addresses of one word

-- the byte of a lane of a word
pub byte_at_address-lane : (memory : Memory) (address lane : ℕ) → lane < 8 → byte_at_address memory (address / 8 * 8 + lane) ≡ option_map (λ word. lane_byte word lane) (word_at memory address)
byte_at_address-lane memory address lane below = grind (arith, below)
