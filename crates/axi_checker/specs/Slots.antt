-- The slots of a room, and the entries that stand in some of them.
use Rattle.std.specs.Prelude.{◌≡◌, ◌<◌, ℕ, List, length, map, slice_index_or}
use Rattle.std.specs.List.{AllByRecursion}
use Rattle.bus_words.specs.Places.{AreDistinct}

-- the slots of a room of so many, each once, in some order
pub record AreSlots (count : ℕ) (slots : List ℕ) : Type 0 where
  pub many : length slots ≡ count
  pub below : AllByRecursion (λ slot. slot < count) slots
  pub distinct : AreDistinct slots

-- the entries in these slots
abbrev pub at_slots : {X : Type 0} → List X → X → List ℕ → List X
at_slots entries filler slots = map (λ slot. slice_index_or entries slot filler) slots
