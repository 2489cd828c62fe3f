-- One byte, along all that happens: what a memory of values holds of it, and what each request did to it. Some run, which may come, leads to both.
use Rattle.std.specs.Prelude.{ℕ, ◌≡◌, ◌⊎◌, Bool, List, [], ◌∷◌, Option}
use Rattle.byte_orders.specs.Accesses.{Access}
use Rattle.byte_orders.specs.Runs.{AllMayCome, Event, NoneBefore, Run, first_run, run_after, run_next}
use Rattle.scoreboard.specs.Boards.{Beginning}
use Rattle.scoreboard.specs.declared.Errors.{Errors}
use Rattle.value_memory.specs.ByteEvents.{ByteState, IsHeldBy, KeepsShort}
use Rattle.value_memory.specs.ValueMemory.{ValueState, byte_in}
use Rattle.value_orders.specs.Bytes.{accesses_in, byte_at_start}
use Rattle.value_orders.specs.Histories.{Happening, begun_by, history_in}

-- ---- what was done to a byte

-- so many requests have begun, and these are their accesses
pub record Work : Type 0 where
  pub now : ℕ
  pub accesses : List Access

-- that of a run, and a run that has come so far
abbrev pub work_of : Run → Work
work_of run = record { now = run.now; accesses = run.accesses }

abbrev pub run_of : Work → Run
run_of work = record { now = work.now; oldest = 0; accesses = work.accesses; held = [] }

-- with one more event, and with many
abbrev pub work_next : Work → Event → Work
work_next work event = work_of (run_next (run_of work) event)

abbrev pub work_after : Work → List Event → Work
work_after work [] = work
work_after work (event ∷ events) = work_after (work_next work event) events

-- what all that happened did to a byte
abbrev pub work_in : Errors → Beginning → List Happening → ℕ → Work
work_in errors beginning happenings x =
    record { now = begun_by (history_in errors beginning happenings); accesses = accesses_in beginning.lists errors (history_in errors beginning happenings) x }

-- ---- what is held of it

-- a byte, which was one thing at the start, has a run, all of whose events may come, in which this was done to it, and by which a state is held
pub record HasRun (start : Option ℕ) (work : Work) (state : ByteState) : Type 0 where
  pub events : List Event
  pub may_come : AllMayCome (first_run start) events
  pub done : work_of (run_after (first_run start) events) ≡ work
  pub held : IsHeldBy state (run_after (first_run start) events)

-- so it goes along with all that happened
abbrev pub IsPastAt : Errors → Beginning → List Happening → ℕ → ByteState → Type 0
IsPastAt errors beginning happenings x state = HasRun (byte_at_start beginning x) (work_in errors beginning happenings x) state

-- and so does each byte of a memory
abbrev pub AllArePast : Errors → Beginning → List Happening → ValueState → Type 0
AllArePast errors beginning happenings memory = (x : ℕ) → IsPastAt errors beginning happenings x (byte_in memory x)

-- while the events of one happening more come, by those to each byte that have
abbrev pub AllAreOnWay : Errors → Beginning → List Happening → (ℕ → List Event) → ValueState → Type 0
AllAreOnWay errors beginning happenings events memory =
    (x : ℕ) → HasRun (byte_at_start beginning x) (work_after (work_in errors beginning happenings x) (events x)) (byte_in memory x)

-- then no request in flight is older than a number
abbrev pub NoneIsOlder : Errors → Beginning → List Happening → (ℕ → List Event) → ℕ → Type 0
NoneIsOlder errors beginning happenings events oldest =
    (x : ℕ) → NoneBefore oldest (work_after (work_in errors beginning happenings x) (events x)).accesses

-- ---- calls, one after another

-- events, and anywhere among them such that keep a list short: all that comes, and those events
abbrev pub IsSpread : Bool → List Event → List Event → Type 0
IsSpread crowded [] events = events ≡ []
IsSpread crowded (event ∷ all) events =
    (KeepsShort crowded event × IsSpread crowded all events) ⊎ ((rest : List Event) × (events ≡ event ∷ rest) × IsSpread crowded all rest)

-- a run goes on to a state by some events, and among them by such that keep its list short
pub record GoesOnAlong (crowded : Bool) (run : Run) (new : ByteState) (events : List Event) : Type 0 where
  pub all : List Event
  pub spread : IsSpread crowded all events
  pub may_come : AllMayCome run all
  pub held : IsHeldBy new (run_after run all)

-- each run goes so from a state to another, in which no access that hasn't ended is older than a number
abbrev pub GoesAlong : ℕ → Bool → ByteState → ByteState → List Event → Type 0
GoesAlong oldest crowded old new events = (run : Run) → IsHeldBy old run → NoneBefore oldest run.accesses → GoesOnAlong crowded run new events

-- and each byte of a memory, by its own events
abbrev pub AllGoAlong : ℕ → Bool → ValueState → ValueState → (ℕ → List Event) → Type 0
AllGoAlong oldest crowded old new events = (x : ℕ) → GoesAlong oldest crowded (byte_in old x) (byte_in new x) (events x)
