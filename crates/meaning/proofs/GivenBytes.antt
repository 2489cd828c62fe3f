-- The bytes of a list that is put at an address: before and past it none is given.
use Rattle.std.proofs.Common.{◌≡◌, ℕ, ◌+◌, ◌-◌, ◌<◌, ◌≤◌, nat_le, true, false, List, length, Option, None, refl, arith}
use Rattle.std.proofs.lemmas.Bool.Decides.{nat_tests}
use Rattle.std.proofs.lemmas.Option.{slice_get_past}
use Rattle.bus_words.specs.Lanes.{given_at}

pub given_before : (bytes : List (Option ℕ)) (start x : ℕ) → x < start → given_at bytes start x ≡ None
given_before bytes start x below = let out : nat_le start x ≡ false = grind (arith, nat_tests) in rw out refl

pub given_past : (bytes : List (Option ℕ)) (start x : ℕ) → start + length bytes ≤ x → given_at bytes start x ≡ None
given_past bytes start x above =
    let after : nat_le start x ≡ true = grind (arith, nat_tests) in
    rw (after, slice_get_past bytes (x - start) (omega (arith, above))) refl
