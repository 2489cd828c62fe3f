-- Lists by their places, and ranges by what none of them passes.
use Rattle.std.proofs.Common.{◌≡◌, ℕ, ◌<◌, ◌+◌, Bool, false, ◌||◌, List, [], ◌∷◌, map, length, Option, Some, None, suc, zero, refl, sym, ◌∙◌, ap, subst, arith}
use Rattle.std.specs.Prelude.{is_none, slice_get, unwrap_or}
use Rattle.std.specs.List.{list_any, range_with_len}
use Rattle.std.proofs.lemmas.Bool.{or_parts}
use Rattle.meaning.specs.Meaning.{Bytes, bytes_at}

-- two lists that have the same at each place
pub same_lists : {X : Type 0} (xs ys : List X) → length xs ≡ length ys → ((i : ℕ) → i < length xs → slice_get xs i ≡ slice_get ys i) → xs ≡ ys
same_lists [] [] long same = refl
same_lists [] (y ∷ ys) long same = absurd (omega (arith, long))
same_lists (x ∷ xs) [] long same = absurd (omega (arith, long))
same_lists (x ∷ xs) (y ∷ ys) long same =
    let first : Some x ≡ Some y = same 0 (omega (arith)) in
    let rest : xs ≡ ys = same_lists xs ys (omega (arith, long)) (λ i below. same (suc i) (omega (arith, below))) in
    cc (first, rest)

-- what no byte of a range passes
pub none_of_range : (test : ℕ → Bool) (a n i : ℕ) → list_any test (range_with_len a n) ≡ false → i < n → test (a + i) ≡ false
none_of_range test a zero i none below = absurd (omega (arith, below))
none_of_range test a (suc n) zero none below = subst (λ k. test k ≡ false) (omega (arith)) (or_parts (test a) (list_any test (range_with_len (a + 1) n)) none).0
none_of_range test a (suc n) (suc i) none below =
    subst (λ k. test k ≡ false) (omega (arith))
    (none_of_range test (a + 1) n i (or_parts (test a) (list_any test (range_with_len (a + 1) n)) none).1 (omega (arith, below)))

-- the bytes of a range are those that were told, where each was
pub read_as_told : (m : Bytes) (told : ℕ → Option ℕ) (hidden : ℕ → Bool) (a n : ℕ) → list_any (λ x. is_none (told x) || hidden x) (range_with_len a n) ≡ false
    → ((x byte : ℕ) → told x ≡ Some byte → m x ≡ byte)
    → bytes_at m a n ≡ map (λ x. unwrap_or (told x) 0) (range_with_len a n)
read_as_told m told hidden a zero none finds = refl
read_as_told m told hidden a (suc n) none finds =
    let parts = or_parts (is_none (told a) || hidden a) (list_any (λ x. is_none (told x) || hidden x) (range_with_len (a + 1) n)) none in
    cc (here (told a) refl (or_parts (is_none (told a)) (hidden a) parts.0).0, read_as_told m told hidden (a + 1) n parts.1 finds)
  where
    here : (byte : Option ℕ) → told a ≡ byte → is_none (told a) ≡ false → m a ≡ unwrap_or (told a) 0
    here None is some = absurd (cc (ap (λ (o : Option ℕ). is_none o) (sym is) ∙ some))
    here (Some byte) is some = finds a byte is ∙ sym (ap (λ (o : Option ℕ). unwrap_or o 0) is)
