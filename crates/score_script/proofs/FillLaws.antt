-- What a filling may be wrong by, and that a score that begins takes one where its set-up has good pages.
use Rattle.std.proofs.Common.{◌≡◌, ◌+◌, ◌-◌, ◌<◌, ◌++◌, ◌∷◌, [], suc, length, arith, ℕ, List, true, false, Option, None, Some, Ok, is_some, refl, rules}
use Rattle.line_text.specs.Fields.{first_wrong, unless_wrong}
use Rattle.line_text.specs.Words.{hex_at, word_at}
use Rattle.std.proofs.lemmas.List.FromFn.{length-map-range_with_len}
use Rattle.script_text.proofs.PageLists.{map_range-suc}
use Rattle.score_script.specs.FillLines.{fill_byte_field, fill_byte_fields, fill_bytes_in}
use Rattle.std.specs.Result.{result_err}
use Rattle.script_text.specs.Stages.{Kind, unless_refused, wrong_opened}
use Rattle.setups.specs.declared.SetupFault.{SetupFault}

-- the wrong word that is told is the one that there is
pub word_told : {W : Type 0} (given : List ℕ × W) (word : Option ℕ) → result_err (unless_wrong given word) ≡ word
word_told given None = refl
word_told given (Some word) = refl

-- a set-up that is refused has no first command that is wrong
pub refused_none : {Z S W C : Type 0} (kind : Kind Z S W C) (world : W) (fault : Option SetupFault) (number : ℕ) (command : C) → is_some fault ≡ true → None ≡ wrong_opened kind (unless_refused world fault) number (Ok command)
refused_none kind world None number command refused = search rules
refused_none kind world (Some fault) number command refused = refl

pub not_refused : (fault : Option SetupFault) → is_some fault ≡ false → fault ≡ None
not_refused None right = refl
not_refused (Some fault) right = search rules

-- ---- the bytes of a line

-- with a right one the next is looked at
pub fields_right : (words : List (List ℕ)) (count k : ℕ) → k < count → fill_byte_field (word_at words (3 + k)) ≡ true
    → first_wrong (fill_byte_fields (count - k)) words (3 + k) ≡ first_wrong (fill_byte_fields (count - (k + 1))) words (3 + (k + 1))
fields_right words count k below right =
    let left : count - k ≡ suc (count - (k + 1)) = omega (arith, below) in
    let next : 3 + k + 1 ≡ 3 + (k + 1) = omega arith in
    rw (left, right, next) refl

-- one byte more
pub bytes_more : (words : List (List ℕ)) (k : ℕ) → fill_bytes_in words (k + 1) ≡ fill_bytes_in words k ++ hex_at words (3 + k) ∷ []
bytes_more words k =
    let next : k + 1 ≡ suc k = omega arith in
    rw next (map_range-suc (λ n. hex_at words n) 3 (3 + k) k refl)

pub bytes_count : (words : List (List ℕ)) (k : ℕ) → length (fill_bytes_in words k) ≡ k
bytes_count words k = length-map-range_with_len (λ n. hex_at words n) 3 k
