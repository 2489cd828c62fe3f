use Rattle.std.proofs.Common.{◌≡◌, ◌≤◌, ℕ, zero, suc, Option, None, true, List, is_none, length, map, replicate, refl}
use Rattle.std.proofs.lemmas.List.{length-replicate}
use Rattle.flight_table.proofs.ids.Ids.new.Goals as goal

all_free : {X : Type 0} (n : ℕ) (empty : Option X) → is_none empty ≡ true → replicate n true ≡ map is_none (replicate n empty)
all_free zero empty is = refl
all_free (suc n) empty is = rw (is, all_free n empty is) refl

few : {X : Type 0} (n : ℕ) (x : X) (xs : List X) → xs ≡ replicate n x → n ≤ 16 → length xs ≤ 16
few n x xs is small = rw (is, length-replicate n x) small

pub invariant_of-result : goal.invariant_of-result
invariant_of-result c = (
  rw (c.fill.ensures.free, c.fill.ensures.holders) (all_free c.args.count None refl),
  few c.args.count _ c.fill.new.holders.items c.fill.ensures.holders c.requires,
)
