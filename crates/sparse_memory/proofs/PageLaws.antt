-- The bytes of a page, of which one word is changed, and of a page that is new.
use Rattle.std.proofs.Common.{◌≡◌, ℕ, ◌/◌, ◌%◌, ◌<◌, ◌==◌, Bool, true, false, ◌&&◌, List, length, get_or, set, replicate, Some, if◌then◌else◌, refl, sym, ◌∙◌, ap, arith}
use Rattle.std.specs.Prelude.{slice_index, slice_set}
use Rattle.std.proofs.lemmas.Bool.{eqb-true}
use Rattle.std.proofs.lemmas.Bool.Decides.{nat_tests}
use Rattle.std.proofs.lemmas.Grind.{common_steps}
use Rattle.std.proofs.lemmas.List.{get_or-replicate}
use Rattle.bus_words.specs.Lanes.{has_lane, lane_byte}
use Rattle.bus_words.proofs.BelowEight.{below_eight}
use Rattle.data_unit.specs.Words.{merged}
use Rattle.data_unit.proofs.WordLaws.{lane_byte-merged}
use Rattle.sparse_memory.specs.SparseMemory.{PageState, byte_of, doubt_of, flags_merged}
use Rattle.sparse_memory.proofs.FlagLaws.{has_lane-merged}

-- an entry of a list of which one was set
set-entry : (xs : List ℕ) (k j y : ℕ) → k < length xs → get_or (set xs k y) j 0 ≡ (if j == k then y else get_or xs j 0)
set-entry xs k j y within = grind (arith, common_steps, nat_tests)

-- a page with the strobed bytes of one word put
abbrev pub with_word : PageState → ℕ → ℕ → ℕ → PageState
with_word page k word strobes = record page { words = slice_set page.words k (merged (slice_index page.words k) word strobes) }

-- a page with the doubts of the strobed bytes of one word put
abbrev pub with_doubts : PageState → ℕ → ℕ → ℕ → PageState
with_doubts page k doubts strobes = record page { doubts = slice_set page.doubts k (flags_merged (slice_index page.doubts k) doubts strobes) }

-- what is read of an entry, of which one was set to a value that has it changed where it is strobed
put-entry : {X : Type 0} (read : ℕ → X) (xs : List ℕ) (k j new : ℕ) (strobed : Bool) (value : X) → k < length xs → read new ≡ (if strobed then value else read (get_or xs k 0))
    → read (get_or (set xs k new) j 0) ≡ (if (j == k) && strobed then value else read (get_or xs j 0))
put-entry read xs k j new strobed value within changed = ap read (set-entry xs k j new within) ∙ by_place (j == k) refl
  where
    by_place : (b : Bool) → (j == k) ≡ b → read (if b then new else get_or xs j 0) ≡ (if b && strobed then value else read (get_or xs j 0))
    by_place true here = changed ∙ ap (λ i. if strobed then value else read (get_or xs i 0)) (sym (eqb-true j k here))
    by_place false away = refl

pub byte-with_word : (page : PageState) (k word strobes place : ℕ) → length page.words ≡ 512 → k < 512
    → byte_of (Some (with_word page k word strobes)) place ≡ (if (place / 8 == k) && has_lane strobes (place % 8) then lane_byte word (place % 8) else byte_of (Some page) place)
byte-with_word page k word strobes place whole within =
    put-entry (λ w. lane_byte w (place % 8)) page.words k (place / 8) (merged (get_or page.words k 0) word strobes) (has_lane strobes (place % 8)) (lane_byte word (place % 8)) (omega arith)
    (lane_byte-merged (get_or page.words k 0) word strobes (place % 8) (omega arith))

pub doubt-with_doubts : (unknown : Bool) (page : PageState) (k doubts strobes place : ℕ) → length page.doubts ≡ 512 → k < 512
    → doubt_of unknown (Some (with_doubts page k doubts strobes)) place ≡ (if (place / 8 == k) && has_lane strobes (place % 8) then has_lane doubts (place % 8) else doubt_of unknown (Some page) place)
doubt-with_doubts unknown page k doubts strobes place whole within =
    put-entry (λ m. has_lane m (place % 8)) page.doubts k (place / 8) (flags_merged (get_or page.doubts k 0) doubts strobes) (has_lane strobes (place % 8)) (has_lane doubts (place % 8)) (omega arith)
    (has_lane-merged (get_or page.doubts k 0) doubts strobes (place % 8) (omega arith))

-- ---- a new page

lane_byte-zero : (lane : ℕ) → lane < 8 → lane_byte 0 lane ≡ 0
lane_byte-zero lane below = below_eight (λ k. lane_byte 0 k ≡ 0) refl refl refl refl refl refl refl refl lane below

pub has_lane-none : (lane : ℕ) → lane < 8 → has_lane 0 lane ≡ false
has_lane-none lane below = below_eight (λ k. has_lane 0 k ≡ false) refl refl refl refl refl refl refl refl lane below

has_lane-every : (lane : ℕ) → lane < 8 → has_lane 255 lane ≡ true
has_lane-every lane below = below_eight (λ k. has_lane 255 k ≡ true) refl refl refl refl refl refl refl refl lane below

pub byte-new : (words : List ℕ) (place : ℕ) → words ≡ replicate 512 0 → place < 4096 → lane_byte (slice_index words (place / 8)) (place % 8) ≡ 0
byte-new words place is within =
    ap (λ w. lane_byte w (place % 8)) (ap (λ (ws : List ℕ). get_or ws (place / 8) 0) is ∙ get_or-replicate 512 (place / 8) 0 0 (omega arith)) ∙ lane_byte-zero (place % 8) (omega arith)

pub doubt-new : (in_doubt : Bool) (mask : ℕ) (doubts : List ℕ) (place : ℕ) → mask ≡ (if in_doubt then 255 else 0) → doubts ≡ replicate 512 mask → place < 4096
    → has_lane (slice_index doubts (place / 8)) (place % 8) ≡ in_doubt
doubt-new in_doubt mask doubts place which is within =
    ap (λ m. has_lane m (place % 8)) (ap (λ (ms : List ℕ). get_or ms (place / 8) 0) is ∙ get_or-replicate 512 (place / 8) mask 0 (omega arith) ∙ which)
    ∙ elim in_doubt as (λ b. has_lane (if b then 255 else 0) (place % 8) ≡ b) [ true ↦ has_lane-every (place % 8) (omega arith) | false ↦ has_lane-none (place % 8) (omega arith) ]
