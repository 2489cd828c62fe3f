-- A client's requests by their numbers: a request's number is how many had begun as it began, itself counted.
use Rattle.std.specs.Prelude.{ℕ, ◌%◌, ◌^◌, ◌<◌, ◌≤◌, ◌≡◌, ◌==◌, ⊤, Bool, false, List, [], ◌∷◌, ◌++◌, Option, Some, None, IfSome, replicate, slice_index_or, slice_set}
use Rattle.std.specs.List.{AllByRecursion}
use Rattle.bus_words.specs.Places.{without_first}
use Rattle.data_unit.specs.Atomics.{modulus}
use Rattle.value_memory.specs.ValueMemory.{IsByteRange}
use Rattle.value_board.specs.declared.client_values.AtomicStep.{AtomicStep}
use Rattle.value_board.specs.declared.client_values.Asked.{Asked}
use Rattle.value_board.specs.declared.client_values.Begun.{Begun}

-- of each source the last request that was whole; the one whose reply has begun; the one whose message has begun, and of each of its beats the lanes that it
-- gave and nobody knows, and whether an error response came to a burst that shares a byte with it; and all that are in flight, or have begun, in the order in
-- which they began
pub record ClientNumbers : Type 0 where
  pub by_source : List Asked
  pub answering : Option Asked
  pub coming : Option Begun
  pub hidden : List ℕ
  pub struck : Bool
  pub live : List Begun

-- one of which nobody asked
abbrev pub never_asked : Asked
never_asked = record { begun = record { number = 0; gives = None }; step = None }

-- nothing has begun
abbrev pub no_numbers : ClientNumbers
no_numbers = record { by_source = replicate 256 never_asked; answering = None; coming = None; hidden = []; struck = false; live = [] }

-- the last request of a source that was whole
abbrev pub asked_by : ClientNumbers → ℕ → Asked
asked_by numbers source = slice_index_or numbers.by_source source never_asked

-- the number of the oldest that is in flight, or has begun
abbrev pub first_number : List Begun → Option ℕ
first_number [] = None
first_number (begun ∷ rest) = Some begun.number

-- a request begins
abbrev pub with_begun : Begun → ClientNumbers → ClientNumbers
with_begun begun numbers = record numbers { coming = Some begun; struck = false; live = numbers.live ++ begun ∷ [] }

-- the message that had begun is whole, and is a request of a source
abbrev pub accepted : ℕ → Asked → ClientNumbers → ClientNumbers
accepted source asked numbers = record numbers { by_source = slice_set numbers.by_source source asked; coming = None; hidden = []; struck = false }

-- the reply to the last request of a source begins
abbrev pub with_answer : ℕ → ClientNumbers → ClientNumbers
with_answer source numbers = record numbers { answering = Some (asked_by numbers source) }

-- a request is in flight no more
abbrev pub without_number : ℕ → List Begun → List Begun
without_number number live = without_first (λ begun. begun.number == number) live

-- a reset: nothing is in flight, and nothing has begun
abbrev pub reset_numbers : ClientNumbers → ClientNumbers
reset_numbers numbers = record numbers { answering = None; coming = None; hidden = []; struck = false; live = [] }

-- ---- what is true of them

-- what a request may give is a range of bytes
abbrev pub HasRange : Begun → Type 0
HasRange begun = IfSome begun.gives IsByteRange

-- an atomic acts on up to eight bytes at a multiple of their number, and its operand has as many
pub record IsStep (step : AtomicStep) : Type 0 where
  pub small : step.size ≤ 3
  pub aligned : step.address % 2 ^ step.size ≡ 0
  pub fits : step.operand < modulus (2 ^ step.size)

pub record IsAsked (asked : Asked) : Type 0 where
  pub range : HasRange asked.begun
  pub step : IfSome asked.step IsStep

-- numbers rise, from one that none is below to one that none is above
abbrev pub AreLive : ℕ → ℕ → List Begun → Type 0
AreLive low high [] = ⊤
AreLive low high (begun ∷ rest) = (low ≤ begun.number) × (begun.number ≤ high) × AreLive begun.number high rest

-- all of a client's
pub record AreNumbers (numbers : ClientNumbers) : Type 0 where
  pub by_source : AllByRecursion IsAsked numbers.by_source
  pub answering : IfSome numbers.answering IsAsked
  pub coming : IfSome numbers.coming HasRange
  pub live : AllByRecursion HasRange numbers.live
