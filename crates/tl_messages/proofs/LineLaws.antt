-- A line that is written in two parts is the line.
use Rattle.std.proofs.Common.{◌≡◌, ℕ, List, [], ◌∷◌, ◌++◌, Option, Result, Ok, Err, OnOk, decimal, codes}
use Rattle.std.proofs.KnownBytes.{Appends-trans}
use Rattle.std.proofs.lemmas.List.{append_assoc}
use Rattle.std.specs.Io.KnownBytes.{Appends}
use Rattle.bus_words.specs.Text.{hex, flag}
use Rattle.tl_messages.specs.Lines.{a_text, d_text, d_words}
use Rattle.tl_messages.specs.declared.ABeat.{ABeat}
use Rattle.tl_messages.specs.declared.DBeat.{DBeat}

-- what is written after a first part that was written, is written with it
pub Appends-then : {E : Type 0} (a b c : Option (List ℕ)) (front rest : List ℕ) (result : Result (Unit {0}) E) → Appends a b front → OnOk result (Appends b c rest) → OnOk result (Appends a c (front ++ rest))
Appends-then a b c front rest (Ok done) first second = Appends-trans a b c front rest first second
Appends-then a b c front rest (Err fault) first second = tt

-- the words that both lines begin with
abbrev pub front_text : List ℕ → ℕ → ℕ → ℕ → ℕ → ℕ → List ℕ
front_text letter client opcode param size source =
    letter ++ (32 ∷ (decimal client ++ (32 ∷ (decimal opcode ++ (32 ∷ (decimal param ++ (32 ∷ (decimal size ++ (32 ∷ (decimal source ++ 32 ∷ []))))))))))

abbrev pub a_rest : ABeat → List ℕ
a_rest beat = hex 8 beat.address ++ (32 ∷ (hex 2 beat.mask ++ (32 ∷ (hex 16 beat.payload ++ (32 ∷ (flag beat.corrupt ++ 10 ∷ []))))))

abbrev pub d_rest : DBeat → List ℕ
d_rest beat = flag beat.denied ++ (32 ∷ (hex 16 beat.payload ++ (32 ∷ flag beat.corrupt)))

pub a_text-in_parts : (client : ℕ) (beat : ABeat) → front_text (codes "A") client beat.opcode beat.param beat.size beat.source ++ a_rest beat ≡ a_text client beat
a_text-in_parts client beat = simp append_assoc

pub d_words-in_parts : (client : ℕ) (beat : DBeat) → front_text (codes "D") client beat.opcode beat.param beat.size beat.source ++ d_rest beat ≡ d_words client beat
d_words-in_parts client beat = simp append_assoc

pub d_text-ended : (client : ℕ) (beat : DBeat) → d_words client beat ++ 10 ∷ [] ≡ d_text client beat
d_text-ended client beat = simp append_assoc
