-- The rule: which values one byte may have, by a short list of what was given to it. Of each writer that still counts there is a holding. A reader may be told
-- what a holding says that isn't hidden from it: no other writer came wholly between. Nothing else of the requests plays a part.
use Rattle.std.specs.Prelude.{ℕ, ◌==◌, Bool, true, false, ◌&&◌, not, List, [], ◌∷◌, ◌++◌, map, filter, filter_map, Option, Some, None, if◌then◌else◌, is_none, is_some, nat_lt, option_map}
use Rattle.std.specs.List.{list_any}
use Rattle.byte_orders.specs.Accesses.{Access, IsExplained, is_before, may_show, with_told}

-- what a writer gives to the byte, none where nobody knows what; when it began; when it ended, if it has; and whether it takes effect. Or what `many` writers
-- give, whichever: nobody knows what, all of them began no later, and once it is over all have ended
pub record Holding : Type 0 where
  pub value : Option ℕ
  pub begun : ℕ
  pub over : Option ℕ
  pub sure : Bool
  pub many : Bool

-- ---- what is held of a byte

-- what it was at the start, or is where nothing else can be told: as of a writer that had ended before all others began
abbrev pub beginning : Option ℕ → Holding
beginning value = record { value = value; begun = 0; over = Some 0; sure = true; many = false }

-- that of an access, if it gives something
abbrev pub holding_of : Access → Option Holding
holding_of a = option_map (λ value. record { value = value; begun = a.begun; over = a.ended; sure = a.sure; many = false }) a.gives

-- all that was given to a byte: nothing is forgotten
abbrev pub all_holdings : Option ℕ → List Access → List Holding
all_holdings start accesses = beginning start ∷ filter_map holding_of accesses

-- ---- the rule

-- whether one is over before another begins, so that it takes effect before it in every order
abbrev pub comes_before : Holding → Holding → Bool
comes_before h o = is_before h.over o.begun

-- whether one has taken effect for certain before a reader began
abbrev pub has_passed : ℕ → Holding → Bool
has_passed reader o = o.sure && is_before o.over reader

-- whether one comes wholly between another and a reader
abbrev pub hides : ℕ → Holding → Holding → Bool
hides reader h o = comes_before h o && has_passed reader o

-- whether a reader that began at a number, or later, can't be told a holding: another one stands between in every order
abbrev pub is_hidden : List Holding → ℕ → Holding → Bool
is_hidden hs reader h = list_any (hides reader h) hs

-- whether it is that of a request alone, by the number at which that began
abbrev pub is_own : ℕ → Holding → Bool
is_own number h = not h.many && h.begun == number

-- whether the request that began at a number may find a holding: it isn't its own, nor hidden from it
abbrev pub may_find : List Holding → ℕ → Holding → Bool
may_find hs number h = not (is_own number h) && not (is_hidden hs number h)

-- whether it may be told a byte
abbrev pub may_be_told : List Holding → ℕ → ℕ → Bool
may_be_told hs number byte = list_any (λ h. may_find hs number h && may_show h.value byte) hs

-- whether that says something: all that it may find is known
abbrev pub is_compared : List Holding → ℕ → Bool
is_compared hs number = not (list_any (λ h. may_find hs number h && is_none h.value) hs)

-- ---- what becomes of the list. Only a holding that isn't over changes

-- whether it is that of a request, which hasn't ended
abbrev pub is_open_of : ℕ → Holding → Bool
is_open_of number h = is_own number h && is_none h.over

-- a writer that has begun: nobody knows yet what it gives, nor whether it takes effect
abbrev pub just_begun : ℕ → Holding
just_begun number = record { value = None; begun = number; over = None; sure = false; many = false }

-- a writer begins
abbrev pub with_begun : ℕ → List Holding → List Holding
with_begun number hs = hs ++ just_begun number ∷ []

-- one of a request that hasn't ended changes
abbrev pub changed : ℕ → (Holding → Holding) → Holding → Holding
changed number change h = if is_open_of number h then change h else h

abbrev pub with_change : ℕ → (Holding → Holding) → List Holding → List Holding
with_change number change hs = map (changed number change) hs

-- what it gives comes, or is what its reply shows; none where nobody knows it
abbrev pub with_value : ℕ → Option ℕ → List Holding → List Holding
with_value number value hs = with_change number (λ h. record h { value = value }) hs

-- it takes effect
abbrev pub with_sure : ℕ → List Holding → List Holding
with_sure number hs = with_change number (λ h. record h { sure = true }) hs

-- it has failed: it may leave anything, or nothing
abbrev pub with_failed : ℕ → List Holding → List Holding
with_failed number hs = with_change number (λ h. record h { value = None; sure = false }) hs

-- it ends, when so many requests have begun
abbrev pub with_ended : ℕ → ℕ → List Holding → List Holding
with_ended number now hs = with_change number (λ h. record h { over = Some now }) hs

-- it gives the byte nothing: its mask leaves it out, or it isn't carried out
abbrev pub without : ℕ → List Holding → List Holding
without number hs = filter (λ h. not (is_open_of number h)) hs

-- a reset cuts off all that haven't ended: each may have taken effect, and takes none later
abbrev pub cut_off : ℕ → Holding → Holding
cut_off now h = if is_none h.over then record h { over = Some now; sure = false } else h

abbrev pub with_reset : ℕ → List Holding → List Holding
with_reset now hs = map (cut_off now) hs

-- ---- what keeps the list short

-- without what is hidden from each request in flight, by the number of the oldest
abbrev pub pruned : ℕ → List Holding → List Holding
pruned oldest hs = filter (λ h. not (is_hidden hs oldest h)) hs

-- one that stands for all writers that have begun: nobody knows what they give, nor whether they take effect
abbrev pub crowd : ℕ → Holding
crowd now = record { value = None; begun = now; over = None; sure = false; many = true }

-- such a one is over once none of them is in flight, by the number of the oldest request in flight
abbrev pub closed : ℕ → ℕ → Holding → Holding
closed oldest now h = if h.many && is_none h.over && nat_lt h.begun oldest then record h { over = Some now } else h

abbrev pub with_closed : ℕ → ℕ → List Holding → List Holding
with_closed oldest now hs = map (closed oldest now) hs

-- both, when a request has ended
abbrev pub pruned_at : ℕ → ℕ → List Holding → List Holding
pruned_at oldest now hs = pruned oldest (with_closed oldest now hs)

-- what the byte is settled as, none where nobody knows it, if only that is left, and nothing can come of its writer any more
abbrev pub settled_as : List Holding → Option (Option ℕ)
settled_as [] = None
settled_as (h ∷ []) = if is_some h.over then Some h.value else None
settled_as (h ∷ other ∷ rest) = None

-- the list that begins anew with it, if it has settled
abbrev pub anew : Option (Option ℕ) → List Holding → List Holding
anew None hs = hs
anew (Some value) hs = beginning value ∷ []

abbrev pub with_settled : List Holding → List Holding
with_settled hs = anew (settled_as hs) hs

-- ---- what is said of a verdict

-- that a byte isn't one that a reader may be told is right: no order of the accesses, in which each is told what it was told, has it be told this too
abbrev pub NoOrderExplains : Option ℕ → List Access → ℕ → ℕ → Type 0
NoOrderExplains start accesses number byte = IsExplained start (with_told number byte accesses) → ⊥
