-- Who finds which fault of a threaded run.
use Rattle.std.specs.Prelude.{ℕ, ◌+◌, ◌≡◌, ◌⊎◌, Bool, true, false, not, min, List, [], ◌∷◌, Option, Some, None, Result, Ok, Err}
use Rattle.thread_reports.specs.declared.second_world.Mismatch.{Mismatch}
use Rattle.bridge_threads.specs.declared.threads.Fault.{Fault}
use Rattle.bridge_threads.specs.declared.threads.Fault.TheVariants.{BadConfig, NoMemory, Spawn, GateShut, IdleLimit, HistoryFull, BeatRefused, ReceiptMismatch}
use Rattle.bridge_threads.specs.declared.turns.WorkerFault.{WorkerFault}
use Rattle.bridge_threads.specs.declared.turns.WorkerFault.TheVariants as met

-- whether a fault is one that is told of workers, or of what they handed back
abbrev pub is_of_worker : Fault → Bool
is_of_worker BadConfig = false
is_of_worker NoMemory = false
is_of_worker Spawn = false
is_of_worker GateShut = true
is_of_worker IdleLimit = true
is_of_worker HistoryFull = true
is_of_worker (BeatRefused client index rule) = true
is_of_worker (ReceiptMismatch client index) = true

-- whether it is that the replay differs
abbrev pub is_mismatch : Fault → Bool
is_mismatch (ReceiptMismatch client index) = true
is_mismatch _ = false

-- ---- which of the workers' faults is told

-- whether a worker's fault may be told as itself: a shut gate and too many idle turns are the worker's own word, a full history where the steps
-- fill it, a refused beat; that there was no room for a reply never is
abbrev pub may_hold : Bool → WorkerFault → Bool
may_hold full met.HistoryFull = full
may_hold full (met.NoRoom index) = false
may_hold full _ = true

-- whether it may be told as a mismatch
abbrev pub may_fail : Bool → WorkerFault → Bool
may_fail full met.GateShut = false
may_fail full met.IdleLimit = false
may_fail full met.HistoryFull = not full
may_fail full (met.BeatRefused index rule) = true
may_fail full (met.NoRoom index) = true

-- the worker of this number as a client that a fault can name
abbrev pub named_client : ℕ → ℕ
named_client worker = min worker 255

-- the fault of a run that a worker's is, where it is told as itself
abbrev pub of_worker : ℕ → WorkerFault → Fault
of_worker worker met.GateShut = GateShut
of_worker worker met.IdleLimit = IdleLimit
of_worker worker met.HistoryFull = HistoryFull
of_worker worker (met.BeatRefused index rule) = BeatRefused (named_client worker) index rule
of_worker worker (met.NoRoom index) = ReceiptMismatch (named_client worker) index

-- the client and the place of one that is told as a mismatch: the worker's own, and 0 and 0 of a full history
abbrev pub place_of_fault : ℕ → WorkerFault → Mismatch
place_of_fault worker (met.BeatRefused index rule) = record { client = named_client worker; index = index }
place_of_fault worker (met.NoRoom index) = record { client = named_client worker; index = index }
place_of_fault worker _ = record { client = 0; index = 0 }

-- a mismatch as a fault
abbrev pub of_mismatch : Mismatch → Fault
of_mismatch mismatch = ReceiptMismatch mismatch.client mismatch.index

-- a worker's fault is told as itself or as a mismatch, as it may be
abbrev pub IsConfirmed : Bool → ℕ → WorkerFault → Result Fault Mismatch → Type 0
IsConfirmed full worker fault answer =
    ((may_hold full fault ≡ true) × (answer ≡ Ok (of_worker worker fault)))
    ⊎ ((may_fail full fault ≡ true) × (answer ≡ Err (place_of_fault worker fault)))

-- the first of two, the first of which may be missing
abbrev pub first_of : Option Fault → Fault → Option Fault
first_of None later = Some later
first_of (Some first) later = Some first

-- what is told of the faults of workers, from the worker of this number on: the first that is told as itself; where none is, `late`, or the first
-- of all as a mismatch; none where no worker met one
abbrev pub IsTold : Bool → ℕ → List (Option WorkerFault) → Option Fault → Option Fault → Type 0
IsTold full worker [] late told = told ≡ late
IsTold full worker (None ∷ faults) late told = IsTold full (worker + 1) faults late told
IsTold full worker (Some fault ∷ faults) late told =
    ((may_hold full fault ≡ true) × (told ≡ Some (of_worker worker fault)))
    ⊎ ((may_fail full fault ≡ true) × IsTold full (worker + 1) faults (first_of late (of_mismatch (place_of_fault worker fault))) told)
