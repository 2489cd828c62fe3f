-- How many the first bytes of some words are.
use Rattle.std.proofs.Common.{◌≡◌, ◌+◌, ◌∷◌, [], ℕ, zero, suc, List, length, arith, refl}
use Rattle.std.proofs.lemmas.List.{length-append}
use Rattle.call_words.specs.CallWords.{byte_of, first_bytes}

pub first_count : (words : List ℕ) (place : ℕ) → length (first_bytes words place) ≡ place
first_count words zero = refl
first_count words (suc place) = omega (arith, length-append (first_bytes words place) (byte_of words place ∷ []), first_count words place)

pub first_more : (words : List ℕ) (place : ℕ) → first_bytes words (place + 1) ≡ first_bytes words (suc place)
first_more words place = let next : place + 1 ≡ suc place = omega arith in rw next refl
