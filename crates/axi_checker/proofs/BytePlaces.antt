-- The first byte that passes a test, as a search over bytes tells it.
use Rattle.std.proofs.Common.{◌≡◌, ℕ, Bool, true, false, List, length, get_or, Option, Some, None, refl, arith}
use Rattle.std.proofs.lemmas.Bool.{le-ltb, lt-ltb}
use Rattle.std.proofs.lemmas.List.Sums.{position_or_len_is}
use Rattle.std.specs.List.{position, position_or_len}
use Rattle.memchr.specs.Find.{IsFirstByte}

fails : (b : Bool) → (b ≡ true → ⊥) → b ≡ false
fails true never = absurd (never refl)
fails false never = refl

pub first_byte : (test : ℕ → Bool) (bytes : List ℕ) (place : Option ℕ) → IsFirstByte test bytes place → place ≡ position test bytes
first_byte test bytes None nowhere =
    let past : position_or_len test bytes ≡ length bytes = position_or_len_is test bytes (length bytes) 0 (omega arith)
    (λ k below. fails (test (get_or bytes k 0)) (nowhere k (omega arith) below)) (λ within. absurd (omega (arith, within))) in
    rw (past, le-ltb (length bytes) (length bytes) (omega arith)) refl
first_byte test bytes (Some place) found =
    let at : position_or_len test bytes ≡ place = position_or_len_is test bytes place 0 (omega (arith, found.0.high))
    (λ k below. fails (test (get_or bytes k 0)) (found.0.before k (omega arith) below)) (λ within. found.1) in
    rw (at, lt-ltb place (length bytes) found.0.high) refl
