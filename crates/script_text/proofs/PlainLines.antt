-- What holds of a line whose bytes may stand.
use Rattle.std.proofs.Common.{◌≡◌, ◌≢◌, ◌≤◌, ◌<◌, ◌==◌, ℕ, zero, suc, ◌-◌, List, [], ◌∷◌, length, Bool, true, false, ◌&&◌, get_or, nat_le, refl, sym, ap, ◌∙◌, arith, true≢false}
use Rattle.std.proofs.lemmas.Bool.Decides.{nat_tests}
use Rattle.std.specs.List.{list_all}
use Rattle.std.specs.Str.Lines.{strip_carriage_return}
use Rattle.script_text.specs.Reads.{IsOneLine}
use Rattle.line_text.specs.Words.{is_plain_byte, is_plain_line}

both : (a b : Bool) → (a && b) ≡ true → (a ≡ true) × (b ≡ true)
both true b all = (refl, all)
both false b all = absurd (true≢false (sym all))

-- no byte is one that may not stand
plain_other : (xs : List ℕ) (k c : ℕ) → 0 < c → is_plain_byte c ≡ false → list_all is_plain_byte xs ≡ true → get_or xs k 0 ≢ c
plain_other [] k c some odd all is = absurd (omega (arith, some, is))
plain_other (x ∷ xs) zero c some odd all is = true≢false (sym (both (is_plain_byte x) (list_all is_plain_byte xs) all).0 ∙ ap is_plain_byte is ∙ odd)
plain_other (x ∷ xs) (suc k) c some odd all is = plain_other xs k c some odd (both (is_plain_byte x) (list_all is_plain_byte xs) all).1 is

pub plain-short : (line : List ℕ) → is_plain_line line ≡ true → length line ≤ 128
plain-short line plain = let short = (both (nat_le (length line) 128) (list_all is_plain_byte line) plain).0 in grind (arith, nat_tests, short)

pub plain-one_line : (line : List ℕ) → is_plain_line line ≡ true → IsOneLine line
plain-one_line line plain i within = plain_other line i 10 (omega arith) refl (both (nat_le (length line) 128) (list_all is_plain_byte line) plain).1

pub strip-plain : (line : List ℕ) → is_plain_line line ≡ true → strip_carriage_return line ≡ line
strip-plain line plain =
    let other : get_or line (length line - 1) 0 ≢ 13 = plain_other line (length line - 1) 13 (omega arith) refl (both (nat_le (length line) 128) (list_all is_plain_byte line) plain).1 in
    let test : (get_or line (length line - 1) 0 == 13) ≡ false = grind (arith, nat_tests, other) in
    rw test refl
