-- The pages of a device: what they hold, how their fields make it, and the transfers that are performed on them.
use Rattle.std.specs.Prelude.{ℕ, ◌+◌, ◌*◌, ◌/◌, ◌%◌, ◌≤◌, List, [], ◌∷◌, IsTrue}
use Rattle.axi_beats.specs.Transfers.{IsBusWidth, fits_bus, in_one_page}
use Rattle.subordinate.specs.Faults.{Faults}
use Rattle.subordinate.specs.Pages.{Memory}
use Rattle.subordinate.specs.declared.PageKind.{PageKind}

-- the faults of a memory, and its good pages
pub record PagesState : Type 0 where
  pub faults : Faults
  pub memory : Memory

-- good pages, by their numbers and their words in the same order
abbrev pub pages_of : List ℕ → List (List ℕ) → Memory
pages_of [] pages = []
pages_of (number ∷ numbers) [] = []
pages_of (number ∷ numbers) (words ∷ pages) = record { number = number; words = words } ∷ pages_of numbers pages

abbrev pub pages_state : List (ℕ × PageKind) → List ℕ → List (List ℕ) → List ℕ → PagesState
pages_state listed numbers pages bad_words = record { faults = record { pages = listed; bad_words = bad_words }; memory = pages_of numbers pages }

-- transfer n of a burst of len + 1 transfers of 2^size bytes that begins at `start`: it fits the bus, and the burst stays in one page
pub record IsTransferOf (bus_bytes start len size n : ℕ) : Type 0 where
  pub width : IsBusWidth bus_bytes
  pub fits : IsTrue (fits_bus bus_bytes size)
  pub first : 1 ≤ n
  pub last : n ≤ len + 1
  pub one_page : IsTrue (in_one_page start len size)

-- where the bus's word of an address begins in its word of eight bytes
abbrev pub first_lane : ℕ → ℕ → ℕ
first_lane bus_bytes address = address % 8 / bus_bytes * bus_bytes
