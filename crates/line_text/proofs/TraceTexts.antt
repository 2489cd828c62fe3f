-- The lines of one beat more, and texts that aren't empty.
use Rattle.std.proofs.Common.{◌≡◌, ◌≢◌, ℕ, ◌≤◌, List, [], ◌∷◌, ◌++◌, flat_map, Option, Some, length, length-append, refl, ap, rules, arith}
use Rattle.axi_beats.specs.Boxes.{aw_of, w_beats_of}
use Rattle.axi_beats.specs.Bursts.{Burst}
use Rattle.axi_beats.specs.Lines.{aw_text, w_text}
use Rattle.axi_beats.specs.declared.AwBeat.{AwBeat}
use Rattle.line_text.specs.Traces.{held_text}
use Rattle.tl_checker.specs.Names.{name_of}
use Rattle.tl_checker.specs.declared.TlRule.{TlRule}

-- the text of a write
pub held_text-write : (burst : Option Burst) (aw : AwBeat) → aw_of burst ≡ Some aw → held_text burst ≡ aw_text aw ++ flat_map w_text (w_beats_of burst)
held_text-write burst aw found = grind (arith, found)

-- a text with a part that isn't empty
pub some_before : (xs ys : List ℕ) → xs ≢ [] → xs ++ ys ≢ []
some_before [] ys some none = some refl
some_before (x ∷ xs) ys some none = search rules

pub some_after : (xs ys : List ℕ) → ys ≢ [] → xs ++ ys ≢ []
some_after [] ys some none = some none
some_after (x ∷ xs) ys some none = search rules

-- a text that isn't empty makes another longer
pub grows : (xs ys : List ℕ) → ys ≢ [] → xs ≢ xs ++ ys
grows xs [] some same = some refl
grows xs (y ∷ ys) some same = omega (arith, ap length same, length-append xs (y ∷ ys))

-- a rule's name is short
pub short_name : (r : TlRule) → length (name_of r) ≤ 13
short_name r = grind arith
