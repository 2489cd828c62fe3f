-- When the bytes of some words fill memory.
use Rattle.std.proofs.Common.{◌≡◌, ◌<◌, ◌≤◌, ◌/◌, ℕ, List, Some, length, false, ◌==◌, nat_lt, ap₂, arith, refl, subst, sym, ◌∙◌}
use Rattle.std.proofs.lemmas.Bool.Decides.{nat_tests}
use Rattle.call_words.specs.CallWords.{byte_in, bytes_of, low_in}
use Rattle.score_calls.specs.CallCommands.{fill_command, filling}
use Rattle.score_script.specs.declared.score.Command.TheVariants.{Fill}

pub filling_is : (address : ℕ) (bytes : List ℕ) → 0 < length bytes → length bytes ≤ 32 → filling address bytes ≡ Some (Fill address bytes)
filling_is address bytes some few =
    let is_some : (length bytes == 0) ≡ false = grind (arith, nat_tests, some) in
    let is_few : nat_lt 32 (length bytes) ≡ false = grind (arith, nat_tests, few) in
    rw (is_some, is_few) refl

pub fill_told : (head : ℕ) (words bytes held : List ℕ) (address : ℕ) → held ≡ bytes → 0 < length bytes → length bytes ≤ 32 → bytes ≡ bytes_of words (byte_in (head / 256)) → address ≡ low_in (head / 4294967296)
    → Some (Fill address held) ≡ fill_command head words
fill_told head words bytes held address held_is some few bytes_is address_is =
    let filled = filling_is (low_in (head / 4294967296)) (bytes_of words (byte_in (head / 256))) (subst (λ (b : List ℕ). 0 < length b) bytes_is some) (subst (λ (b : List ℕ). length b ≤ 32) bytes_is few) in
    ap₂ (λ (a : ℕ) (b : List ℕ). Some (Fill a b)) address_is (held_is ∙ bytes_is) ∙ sym filled
