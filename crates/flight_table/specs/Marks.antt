-- Marks at places, as the bits of a number.
use Rattle.std.specs.Prelude.{ℕ, zero, suc, ◌+◌, ◌*◌, ◌/◌, ◌%◌, ◌^◌, ◌==◌, Bool, ◌&&◌, List, [], ◌∷◌, if◌then◌else◌}

-- the number of which bit k is the mark at place k
abbrev pub number_of : List Bool → ℕ
number_of [] = 0
number_of (mark ∷ marks) = (if mark then 1 else 0) + 2 * number_of marks

-- so many lowest bits of a number
abbrev pub marks_of : ℕ → ℕ → List Bool
marks_of zero bits = []
marks_of (suc count) bits = (bits % 2 == 1) ∷ marks_of count (bits / 2)

-- the marks that two lists share
abbrev pub both : List Bool → List Bool → List Bool
both [] others = []
both (mark ∷ marks) [] = []
both (mark ∷ marks) (other ∷ others) = (mark && other) ∷ both marks others

-- a number without the bit at a place; the higher ones move down
abbrev pub without_bit : ℕ → ℕ → ℕ
without_bit place bits = bits % 2 ^ place + bits / 2 ^ place / 2 * 2 ^ place
