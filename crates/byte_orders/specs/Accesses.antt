-- What requests do to one byte of a memory, and which orders of that explain what was told of it. No bus and no board plays a part, and no rule by which
-- a byte is judged. Time is how many requests have begun, whatever they do: each begins at a number of its own, from 1, itself counted, and ends when so
-- many have begun. So one that ended at a time had ended before each that began at a later one.
use Rattle.std.specs.Prelude.{ℕ, ◌≡◌, ◌<◌, ◌≤◌, ◌==◌, ◌⊎◌, ⊤, Bool, true, false, ◌&&◌, ◌||◌, List, [], ◌∷◌, map, Option, Some, None, if◌then◌else◌, is_some, nat_lt, unwrap_or}
use Rattle.std.specs.List.{AllByRecursion}

-- what a request does to the byte: when it began; when it ended, if it has; what byte it was told, if it reads, and that was looked at and not found wrong;
-- what it gives, if it gives something, which may be a byte that nobody knows; and whether it takes effect: else it may never, since it isn't whole, has
-- failed, or was cut off by a reset
pub record Access : Type 0 where
  pub begun : ℕ
  pub ended : Option ℕ
  pub told : Option ℕ
  pub gives : Option (Option ℕ)
  pub sure : Bool

-- accesses in the order in which they take effect
abbrev pub Order : Type 0
Order = List Access

-- it is one of a list
abbrev pub IsOneOf : {X : Type 0} → X → List X → Type 0
IsOneOf x [] = ⊥
IsOneOf x (y ∷ ys) = (x ≡ y) ⊎ IsOneOf x ys

-- whether it came, and before a time
abbrev pub is_before : Option ℕ → ℕ → Bool
is_before None time = false
is_before (Some came) time = nat_lt came time

-- whether an access had ended before another began
abbrev pub ended_before : Access → Access → Bool
ended_before a b = is_before a.ended b.begun

-- whether an access must have taken effect: it was told a byte, or it takes effect, and has ended
abbrev pub has_taken_effect : Access → Bool
has_taken_effect a = is_some a.told || (a.sure && is_some a.ended)

-- behind none stands one that had ended before it began
abbrev pub KeepsRealTime : Order → Type 0
KeepsRealTime [] = ⊤
KeepsRealTime (a ∷ later) = AllByRecursion (λ b. ended_before b a ≡ false) later × KeepsRealTime later

-- none stands there twice: each has a beginning of its own
abbrev pub AreDistinct : List Access → Type 0
AreDistinct [] = ⊤
AreDistinct (a ∷ later) = AllByRecursion (λ b. (b.begun == a.begun) ≡ false) later × AreDistinct later

-- an order in which accesses may have taken effect: of some of them, among these all that must have, each once, and none before one that had ended before
-- it began
pub record IsOrderOf (accesses order : List Access) : Type 0 where
  pub some : (a : Access) → IsOneOf a order → IsOneOf a accesses
  pub all : (a : Access) → IsOneOf a accesses → has_taken_effect a ≡ true → IsOneOf a order
  pub once : AreDistinct order
  pub keeps : KeepsRealTime order

-- the byte where so much was given to it
abbrev pub with_given : Option ℕ → Option (Option ℕ) → Option ℕ
with_given value gives = unwrap_or gives value

-- the byte that an access finds, which began at a number: what the last one ahead of it gives that gives something, else what it was at the start; none where
-- nobody knows it
abbrev pub value_at : Option ℕ → Order → ℕ → Option ℕ
value_at start [] number = start
value_at start (a ∷ later) number = if a.begun == number then start else value_at (with_given start a.gives) later number

-- whether a byte may be told as a value: it has that, or nobody knows it
abbrev pub may_show : Option ℕ → ℕ → Bool
may_show None told = true
may_show (Some value) told = value == told

-- what each was told it may have found there
abbrev pub Explains : Option ℕ → Order → Type 0
Explains start order = (a : Access) (told : ℕ) → IsOneOf a order → a.told ≡ Some told → may_show (value_at start order a.begun) told ≡ true

-- some order of accesses explains all that was told
pub record IsExplained (start : Option ℕ) (accesses : List Access) : Type 0 where
  pub order : Order
  pub is_order : IsOrderOf accesses order
  pub explains : Explains start order

-- ---- what is true of accesses, and one more told byte

-- an access begins before it ends, and at no other's number
pub record AreTimed (accesses : List Access) : Type 0 where
  pub after_start : (a : Access) → IsOneOf a accesses → 0 < a.begun
  pub ends_later : (a : Access) (time : ℕ) → IsOneOf a accesses → a.ended ≡ Some time → a.begun ≤ time
  pub apart : AreDistinct accesses

-- the one that began at a number was told a byte
abbrev pub told_so : ℕ → ℕ → Access → Access
told_so number byte a = if a.begun == number then record a { told = Some byte } else a

abbrev pub with_told : ℕ → ℕ → List Access → List Access
with_told number byte accesses = map (told_so number byte) accesses

-- some access began at a number
abbrev pub HasBegun : ℕ → List Access → Type 0
HasBegun number accesses = (a : Access) × IsOneOf a accesses × (a.begun ≡ number)
