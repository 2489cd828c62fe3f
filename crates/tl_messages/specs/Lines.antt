-- The lines of TileLink beats in a trace: decimal numbers, and addresses, masks and payloads in hexadecimal of fixed length.
use Rattle.std.specs.Prelude.{ℕ, List, [], ◌∷◌, ◌++◌, decimal, codes}
use Rattle.bus_words.specs.Text.{hex, flag, line}
use Rattle.tl_messages.specs.declared.ABeat.{ABeat}
use Rattle.tl_messages.specs.declared.DBeat.{DBeat}

-- A CLIENT OPCODE PARAM SIZE SOURCE ADDRESS MASK PAYLOAD CORRUPT
abbrev pub a_text : ℕ → ABeat → List ℕ
a_text client beat =
    line
    (codes "A" ∷ decimal client ∷ decimal beat.opcode ∷ decimal beat.param ∷ decimal beat.size ∷ decimal beat.source
    ∷ hex 8 beat.address ∷ hex 2 beat.mask ∷ hex 16 beat.payload ∷ flag beat.corrupt ∷ [])

-- words with one space between each two, which stand in a line
abbrev pub spaced : List (List ℕ) → List ℕ
spaced [] = []
spaced (word ∷ []) = word
spaced (word ∷ next ∷ words) = word ++ (32 ∷ spaced (next ∷ words))

-- the words of D CLIENT OPCODE PARAM SIZE SOURCE DENIED PAYLOAD CORRUPT
abbrev pub d_fields : ℕ → DBeat → List (List ℕ)
d_fields client beat =
    codes "D" ∷ decimal client ∷ decimal beat.opcode ∷ decimal beat.param ∷ decimal beat.size ∷ decimal beat.source
    ∷ flag beat.denied ∷ hex 16 beat.payload ∷ flag beat.corrupt ∷ []

-- that line
abbrev pub d_text : ℕ → DBeat → List ℕ
d_text client beat = line (d_fields client beat)

-- the same within a line
abbrev pub d_words : ℕ → DBeat → List ℕ
d_words client beat = spaced (d_fields client beat)
