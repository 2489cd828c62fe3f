-- What a call does to one byte of a memory, as events of a run of that byte: the event that the call is, and beside it what a memory does to keep lists short,
-- which changes no access.
use Rattle.std.specs.Prelude.{ℕ, ◌≡◌, ◌≤◌, ⊤, Bool, true, List, ◌++◌}
use Rattle.std.specs.List.{AllByRecursion}
use Rattle.byte_orders.specs.Holdings.{Holding}
use Rattle.byte_orders.specs.Runs.{AllMayCome, Crowds, Event, NoneBefore, NoneOlderThan, Run, Settles, run_after}

-- what is held of a byte, when so many requests have begun, and none in flight has a smaller number than the oldest
pub record ByteState : Type 0 where
  pub now : ℕ
  pub oldest : ℕ
  pub held : List Holding

-- a run leads to that
pub record IsHeldBy (state : ByteState) (run : Run) : Type 0 where
  pub held : run.held ≡ state.held
  pub now : run.now ≡ state.now
  pub oldest : run.oldest ≤ state.oldest

-- an event that keeps a list short. That there is no room for the list is one only where it may be crowded
abbrev pub KeepsShort : Bool → Event → Type 0
KeepsShort crowded (NoneOlderThan number) = ⊤
KeepsShort crowded Settles = ⊤
KeepsShort crowded Crowds = crowded ≡ true
KeepsShort crowded event = ⊥

abbrev pub AllKeepShort : Bool → List Event → Type 0
AllKeepShort crowded events = AllByRecursion (KeepsShort crowded) events

-- a run goes on to a state by some events, and beside them by such that keep its list short
pub record GoesOn (crowded : Bool) (run : Run) (new : ByteState) (events : List Event) : Type 0 where
  pub before : List Event
  pub after : List Event
  pub short_before : AllKeepShort crowded before
  pub short_after : AllKeepShort crowded after
  pub may_come : AllMayCome run (before ++ (events ++ after))
  pub held : IsHeldBy new (run_after run (before ++ (events ++ after)))

-- each run goes so from a state to another, in which no access that hasn't ended is older than a number
abbrev pub Goes : ℕ → Bool → ByteState → ByteState → List Event → Type 0
Goes oldest crowded old new events = (run : Run) → IsHeldBy old run → NoneBefore oldest run.accesses → GoesOn crowded run new events
