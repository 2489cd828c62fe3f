-- A list that was kept short, beside the whole one, of which nothing was forgotten: what the whole one lets a reader be told, the short one does. Both change
-- with the same events, and `pruned`, `with_closed`, a crowd in place of all, and a beginning in place of one alone, change only the short one.
use Rattle.std.specs.Prelude.{ℕ, ◌≡◌, ◌<◌, ◌≤◌, ◌⊎◌, true, false, List, Option, Some, None}
use Rattle.byte_orders.specs.Accesses.{Access, AreTimed, HasBegun, IsOneOf}
use Rattle.byte_orders.specs.Holdings.{Holding, NoOrderExplains, all_holdings, beginning, is_hidden}

-- one of a whole list, where so many requests have begun: it is of one writer, and each begins before it ends
pub record IsTimed (now : ℕ) (w : Holding) : Type 0 where
  pub alone : w.many ≡ false
  pub begun : w.begun ≤ now
  pub ends_later : (time : ℕ) → w.over ≡ Some time → w.begun ≤ time
  pub past : (time : ℕ) → w.over ≡ Some time → time ≤ now

-- a beginning that stands for one that was over by a time, when nothing else was left
pub record IsSettledOf (settled : ℕ) (h w : Holding) : Type 0 where
  pub is : h ≡ beginning h.value
  pub value : (h.value ≡ None) ⊎ (h.value ≡ w.value)
  pub time : ℕ
  pub over : w.over ≡ Some time
  pub past : time ≤ settled

-- a crowd that stands for one
pub record IsCrowdOf (h w : Holding) : Type 0 where
  pub many : h.many ≡ true
  pub value : h.value ≡ None
  pub begun : w.begun ≤ h.begun
  pub ended : (time : ℕ) → h.over ≡ Some time → (end : ℕ) × (w.over ≡ Some end) × (end ≤ time)

-- what is held of one: itself, or what stands for it
abbrev pub StandsFor : ℕ → Holding → Holding → Type 0
StandsFor settled h w = (h ≡ w) ⊎ (IsSettledOf settled h w ⊎ IsCrowdOf h w)

-- what a short list may have: what the whole one has, of those that began since it was settled, a beginning, or a crowd, which never hides one
pub record IsCrowd (now : ℕ) (h : Holding) : Type 0 where
  pub many : h.many ≡ true
  pub unsure : h.sure ≡ false
  pub begun : h.begun ≤ now

pub record IsKept (settled : ℕ) (whole : List Holding) (h : Holding) : Type 0 where
  pub there : IsOneOf h whole
  pub since : settled < h.begun

abbrev pub IsFrom : ℕ → ℕ → List Holding → Holding → Type 0
IsFrom now settled whole h = (h ≡ beginning h.value) ⊎ (IsKept settled whole h ⊎ IsCrowd now h)

-- that which a short list has for one of the whole
pub record HasFor (settled : ℕ) (hs : List Holding) (w : Holding) : Type 0 where
  pub one : Holding
  pub there : IsOneOf one hs
  pub stands : StandsFor settled one w

-- a short list beside the whole one, by the number of the oldest request that may still read, how many have begun, and when the short one was settled last
pub record IsShortOf (oldest now settled : ℕ) (whole hs : List Holding) : Type 0 where
  pub settled_past : settled ≤ now
  pub timed : (w : Holding) → IsOneOf w whole → IsTimed now w
  pub kept : (w : Holding) → IsOneOf w whole → is_hidden whole oldest w ≡ false → HasFor settled hs w
  pub from : (h : Holding) → IsOneOf h hs → IsFrom now settled whole h

-- no writer that hasn't ended began before a number
abbrev pub NoneOlder : ℕ → List Holding → Type 0
NoneOlder oldest whole = (w : Holding) → IsOneOf w whole → w.over ≡ None → oldest ≤ w.begun

-- a byte is blamed rightly by a list, whose request began at a number: whatever the accesses are that the list was kept of, no order of them explains it with
-- all that was told before
abbrev pub IsRightlyBlamed : List Holding → ℕ → ℕ → Type 0
IsRightlyBlamed hs number byte =
    (oldest now settled : ℕ) (start : Option ℕ) (accesses : List Access) → AreTimed accesses → HasBegun number accesses → oldest ≤ number
    → IsShortOf oldest now settled (all_holdings start accesses) hs
    → NoOrderExplains start accesses number byte
