-- One byte over a whole run, as it is seen event by event: the accesses to it so far, and the short list that is kept of them. What is true of each run is
-- `IsRun`; and that its list blames rightly is a law of it alone.
use Rattle.std.specs.Prelude.{ℕ, ◌≡◌, ◌<◌, ◌≤◌, ◌+◌, ◌==◌, ⊤, true, false, ◌&&◌, List, [], ◌∷◌, ◌++◌, map, Option, Some, None, if◌then◌else◌, is_none, option_map}
use Rattle.byte_orders.specs.Accesses.{Access, IsOneOf}
use Rattle.byte_orders.specs.Holdings.{Holding, NoOrderExplains, beginning, crowd, pruned_at, with_begun, with_ended, with_failed, with_reset, with_settled, with_sure, with_value, without}

-- what is seen: requests begin, each at a number, which read the byte alone, or may give it, or do neither; one is told a byte that isn't found wrong; what it
-- gives comes, or is what its reply shows; it gives nothing; it takes effect; it has failed; it ends; a reset; that none in flight is older than one; that a
-- list which has settled begins anew; and that there is no room for the list, so that what is held becomes one that stands for all that have begun
pub data Event : Type 0 where
  Reads : ℕ → Event
  Writes : ℕ → Event
  Others : ℕ → Event
  Tells : ℕ → ℕ → Event
  Gives : ℕ → Option ℕ → Event
  LeavesOut : ℕ → Event
  TakesEffect : ℕ → Event
  Fails : ℕ → Event
  Ends : ℕ → Event
  Resets : Event
  NoneOlderThan : ℕ → Event
  Settles : Event
  Crowds : Event

-- so many have begun; none in flight is older than one; what was done to the byte; and what is held of it
pub record Run : Type 0 where
  pub now : ℕ
  pub oldest : ℕ
  pub accesses : List Access
  pub held : List Holding

abbrev pub first_run : Option ℕ → Run
first_run start = record { now = 0; oldest = 0; accesses = []; held = beginning start ∷ [] }

-- one that just reads, and one that may give the byte
abbrev pub reading : ℕ → Access
reading number = record { begun = number; ended = None; told = None; gives = None; sure = false }

abbrev pub writing : ℕ → Access
writing number = record { begun = number; ended = None; told = None; gives = Some None; sure = false }

-- an access that began at a number changes, if it hasn't ended
abbrev pub changed_of : ℕ → (Access → Access) → Access → Access
changed_of number change a = if a.begun == number && is_none a.ended then change a else a

abbrev pub with_changed : ℕ → (Access → Access) → List Access → List Access
with_changed number change accesses = map (changed_of number change) accesses

-- it is told a byte; what it gives is this, if it gives something; it gives nothing; it takes effect; it has failed; it ends
abbrev pub telling : ℕ → Access → Access
telling byte a = record a { told = Some byte }

abbrev pub giving : Option ℕ → Access → Access
giving value a = record a { gives = option_map (λ old. value) a.gives }

abbrev pub giving_nothing : Access → Access
giving_nothing a = record a { gives = None }

abbrev pub taking_effect : Access → Access
taking_effect a = record a { sure = true }

abbrev pub failing : Access → Access
failing a = record a { gives = option_map (λ old. None) a.gives; sure = false }

abbrev pub ending : ℕ → Access → Access
ending now a = record a { ended = Some now }

-- a reset cuts an access off
abbrev pub cut_short : ℕ → Access → Access
cut_short now a = if is_none a.ended then record a { ended = Some now; sure = false } else a

-- the run with one more event
abbrev pub run_next : Run → Event → Run
run_next run (Reads number) = record run { now = number; accesses = run.accesses ++ reading number ∷ [] }
run_next run (Writes number) = record run { now = number; accesses = run.accesses ++ writing number ∷ []; held = with_begun number run.held }
run_next run (Others number) = record run { now = number }
run_next run (Tells number byte) = record run { accesses = with_changed number (telling byte) run.accesses }
run_next run (Gives number value) = record run { accesses = with_changed number (giving value) run.accesses; held = with_value number value run.held }
run_next run (LeavesOut number) = record run { accesses = with_changed number giving_nothing run.accesses; held = without number run.held }
run_next run (TakesEffect number) = record run { accesses = with_changed number taking_effect run.accesses; held = with_sure number run.held }
run_next run (Fails number) =
    record run { accesses = with_changed number failing run.accesses; held = with_failed number run.held }
run_next run (Ends number) =
    record run { accesses = with_changed number (ending run.now) run.accesses; held = with_ended number run.now run.held }
run_next run Resets = record run { accesses = map (cut_short run.now) run.accesses; held = with_reset run.now run.held }
run_next run (NoneOlderThan number) = record run { oldest = number; held = pruned_at number run.now run.held }
run_next run Settles = record run { held = with_settled run.held }
run_next run Crowds = record run { held = crowd run.now ∷ [] }

-- none that hasn't ended began before a number
abbrev pub NoneBefore : ℕ → List Access → Type 0
NoneBefore number accesses = (a : Access) → IsOneOf a accesses → a.ended ≡ None → number ≤ a.begun

-- an event may come: requests begin one after another; and where none in flight is older than one, that is so, and later ones aren't either
abbrev pub MayCome : Run → Event → Type 0
MayCome run (Reads number) = run.now < number
MayCome run (Writes number) = run.now < number
MayCome run (Others number) = run.now < number
MayCome run (Tells number byte) = ⊤
MayCome run (Gives number value) = ⊤
MayCome run (LeavesOut number) = ⊤
MayCome run (TakesEffect number) = ⊤
MayCome run (Fails number) = ⊤
MayCome run (Ends number) = ⊤
MayCome run Resets = ⊤
MayCome run Settles = ⊤
MayCome run Crowds = ⊤
MayCome run (NoneOlderThan number) = (run.oldest ≤ number) × (number ≤ run.now + 1) × NoneBefore number run.accesses

abbrev pub run_after : Run → List Event → Run
run_after run [] = run
run_after run (event ∷ events) = run_after (run_next run event) events

abbrev pub AllMayCome : Run → List Event → Type 0
AllMayCome run [] = ⊤
AllMayCome run (event ∷ events) = MayCome run event × AllMayCome (run_next run event) events

-- an access of it is in flight
pub record IsInFlight (number : ℕ) (accesses : List Access) : Type 0 where
  pub one : Access
  pub there : IsOneOf one accesses
  pub begun : one.begun ≡ number
  pub live : one.ended ≡ None

-- a byte is blamed rightly by a list, where one in flight began at a number: in each run by which this list is held no order of the accesses explains the byte
-- with all that was told before
abbrev pub IsBlamedInRuns : List Holding → ℕ → ℕ → Type 0
IsBlamedInRuns held number byte =
    (start : Option ℕ) (events : List Event) → AllMayCome (first_run start) events → held ≡ (run_after (first_run start) events).held
    → IsInFlight number (run_after (first_run start) events).accesses
    → NoOrderExplains start (run_after (first_run start) events).accesses number byte
