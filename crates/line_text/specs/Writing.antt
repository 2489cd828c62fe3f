-- What a writer that fails has taken of a text.
use Rattle.std.specs.Prelude.{◌≡◌, ◌≢◌, ℕ, List, [], ◌++◌, Option}
use Rattle.std.specs.Io.KnownBytes.{Appends}

-- a front of the text was written, and not all of it
abbrev pub StopsShort : List ℕ → Option (List ℕ) → Option (List ℕ) → Type 0
StopsShort text old new = (front : List ℕ) × (rest : List ℕ) × (rest ≢ []) × (text ≡ front ++ rest) × Appends old new front

-- a front of the text was written, and its rest is what is left
abbrev pub WritesSome : List ℕ → List ℕ → Option (List ℕ) → Option (List ℕ) → Type 0
WritesSome text rest old new = (front : List ℕ) × (text ≡ front ++ rest) × Appends old new front
