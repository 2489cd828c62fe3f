-- The orders in which the requests of a run may have taken effect, over its resets: each of them once, but for those that a reset cut off, which may never
-- have; and none stands behind one that began after it had ended.
use Rattle.std.specs.Prelude.{ℕ, ◌≡◌, ◌-◌, ◌<◌, ◌≤◌, ⊤, true, false, List, [], ◌∷◌, length, Some, slice_get, slice_index_or, ◌==◌, if◌then◌else◌, Bool, Option}
use Rattle.std.specs.List.{AllByRecursion}
use Rattle.byte_orders.specs.Accesses.{IsOneOf}
use Rattle.meaning.specs.Meaning.{Bytes}
use Rattle.setups.specs.Setups.{SetupLists}
use Rattle.tl_messages.specs.Requests.{WholeRequest, no_message, request_of}
use Rattle.tl_messages.specs.declared.AtomicOp.{AtomicOp}
use Rattle.tl_messages.specs.declared.Operation.TheVariants.{Atomic}
use Rattle.scoreboard.specs.Orders.{meaning_on}
use Rattle.scoreboard.specs.RealTime.{MayBecome, entry_of}
use Rattle.scoreboard.specs.declared.Errors.TheVariants.{Strict}
use Rattle.value_orders.specs.Bytes.{is_hidden_byte}
use Rattle.value_orders.specs.Histories.{History, Past, all_past, begun_by, first_seen}

-- one of which nobody asks
abbrev pub no_past : Past
no_past = first_seen 0 (entry_of Strict 0 (request_of no_message) true)

-- a request by its number, from 1
abbrev pub past_of : History → ℕ → Past
past_of history number = slice_index_or (all_past history) (number - 1) no_past

-- ---- what becomes of a request

-- a byte as it was given, if it was, and as it may be where nobody knows it: any, if it was given
abbrev pub MayBeByte : Bool → Option (Option ℕ) → Option (Option ℕ) → Type 0
MayBeByte true (Some (Some given)) byte = (any : ℕ) × (byte ≡ Some (Some any)) × (any < 256)
MayBeByte hidden given byte = byte ≡ given

-- it may become what its entry may, with any byte where nobody knows the one that it gave
pub record MayBe (past : Past) (q : WholeRequest) : Type 0 where
  pub known : WholeRequest
  pub becomes : MayBecome past.entry known
  pub fields : q ≡ record known { bytes = q.bytes }
  pub count : length q.bytes ≡ length known.bytes
  pub bytes : (i : ℕ) → MayBeByte (is_hidden_byte past.hidden known.address i) (slice_get known.bytes i) (slice_get q.bytes i)

-- what each becomes, by its number
abbrev pub MayBeAll : History → (ℕ → WholeRequest) → Type 0
MayBeAll history requests = (number : ℕ) → 0 < number → number ≤ begun_by history → MayBe (past_of history number) (requests number)

-- ---- orders of numbers

-- a number stands in a list once at most
abbrev pub AreOnce : List ℕ → Type 0
AreOnce [] = ⊤
AreOnce (number ∷ numbers) = AllByRecursion (λ other. other ≡ number → ⊥) numbers × AreOnce numbers

-- one had ended before another began
abbrev pub HadEnded : History → ℕ → ℕ → Type 0
HadEnded history number later = (time : ℕ) × ((past_of history number).ended ≡ Some time) × (time < later)

-- behind none stands one that had ended before it began
abbrev pub KeepsTime : History → List ℕ → Type 0
KeepsTime history [] = ⊤
KeepsTime history (later ∷ numbers) = AllByRecursion (λ number. HadEnded history number later → ⊥) numbers × KeepsTime history numbers

pub record IsRunOrder (history : History) (numbers : List ℕ) : Type 0 where
  pub some : AllByRecursion (λ number. (0 < number) × (number ≤ begun_by history)) numbers
  pub once : AreOnce numbers
  pub all : (number : ℕ) → 0 < number → number ≤ begun_by history → (past_of history number).cut ≡ false → IsOneOf number numbers
  pub keeps : KeepsTime history numbers

-- ---- what an order tells

-- the bytes after the requests that some numbers stand for, one after another
abbrev pub bytes_along : SetupLists → (ℕ → WholeRequest) → Bytes → List ℕ → Bytes
bytes_along setup requests m [] = m
bytes_along setup requests m (number ∷ numbers) = bytes_along setup requests (meaning_on setup (requests number) m).after numbers

-- those that a request finds: after all that stand ahead of it
abbrev pub bytes_before : SetupLists → (ℕ → WholeRequest) → Bytes → List ℕ → ℕ → Bytes
bytes_before setup requests m [] number = m
bytes_before setup requests m (first ∷ numbers) number =
    if first == number then m else bytes_before setup requests (meaning_on setup (requests first) m).after numbers number

-- an atomic that was told bytes finds these
abbrev pub FindsAsTold : Past → Bytes → Type 0
FindsAsTold past m = (op : AtomicOp) (x byte : ℕ) → past.entry.request.operation ≡ Atomic op → past.told x ≡ Some byte → m x ≡ byte

-- and so does each in an order
abbrev pub AtomicsFind : SetupLists → History → (ℕ → WholeRequest) → Bytes → List ℕ → Type 0
AtomicsFind setup history requests m [] = ⊤
AtomicsFind setup history requests m (number ∷ numbers) =
    FindsAsTold (past_of history number) m × AtomicsFind setup history requests (meaning_on setup (requests number) m).after numbers
