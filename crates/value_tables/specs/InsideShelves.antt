-- A shelf as it lies in memory: the words of its places, and beside them the lists.
use Rattle.std.specs.Prelude.{ℕ, ◌==◌, Bool, false, List, [], ◌∷◌, Option, None, Some, option_map}
use Rattle.byte_values.specs.Words.{WordList}
use Rattle.value_tables.specs.Shelves.{Kept, ShelfState}

-- a place, of a word or of none; a list that is of none says nothing
abbrev pub place_of : Option ℕ → WordList → Option Kept
place_of held list = option_map (λ word. record { word = word; held = list }) held

abbrev pub places_of : List (Option ℕ) → List WordList → ShelfState
places_of [] lists = []
places_of (held ∷ words) [] = []
places_of (held ∷ words) (list ∷ lists) = place_of held list ∷ places_of words lists

-- whether a place is that of a word
abbrev pub is_word : ℕ → Option ℕ → Bool
is_word word None = false
is_word word (Some held) = held == word
