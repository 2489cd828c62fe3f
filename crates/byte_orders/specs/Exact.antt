-- A short list that never became a crowd answers just as the whole one, of which nothing was forgotten: it refuses what that refuses, and lets pass no more.
use Rattle.std.specs.Prelude.{ℕ, ◌≡◌, ◌≤◌, ◌⊎◌, ⊤, true, false, List, [], ◌∷◌, Option, Some, None}
use Rattle.byte_orders.specs.Accesses.{IsOneOf}
use Rattle.byte_orders.specs.Holdings.{Holding, all_holdings, beginning, comes_before, may_be_told}
use Rattle.byte_orders.specs.Keeping.{IsKept}
use Rattle.byte_orders.specs.Runs.{AllMayCome, Crowds, Event, IsInFlight, first_run, run_after}

-- a beginning that stands for one that was left alone: of those that had begun by then none comes behind that one, if it takes effect
pub record IsAnew (settled : ℕ) (whole : List Holding) (h : Holding) : Type 0 where
  pub is : h ≡ beginning h.value
  pub one : Holding
  pub there : IsOneOf one whole
  pub value : one.value ≡ h.value
  pub time : ℕ
  pub over : one.over ≡ Some time
  pub past : time ≤ settled
  pub last : (o : Holding) → IsOneOf o whole → o.begun ≤ settled → o.sure ≡ true → comes_before one o ≡ false

-- a short list without a crowd, beside the whole one: each of it is one of that, or stands for one; and when it was settled all that had begun were over
pub record IsExact (settled : ℕ) (whole hs : List Holding) : Type 0 where
  pub each : (h : Holding) → IsOneOf h hs → IsAnew settled whole h ⊎ IsKept settled whole h
  pub over : (o : Holding) → IsOneOf o whole → o.begun ≤ settled → o.over ≡ None → ⊥

-- the list of a run never became a crowd: there always was room for it
abbrev pub HasRoom : Event → Type 0
HasRoom Crowds = ⊥
HasRoom event = ⊤

abbrev pub NeverCrowds : List Event → Type 0
NeverCrowds [] = ⊤
NeverCrowds (event ∷ events) = HasRoom event × NeverCrowds events

-- in each run in which its list never became a crowd, and by which it is held, it tells one in flight just what all that was given does
abbrev pub AnswersAsWhole : List Holding → ℕ → ℕ → Type 0
AnswersAsWhole held number byte =
    (start : Option ℕ) (events : List Event) → AllMayCome (first_run start) events → NeverCrowds events
    → held ≡ (run_after (first_run start) events).held → IsInFlight number (run_after (first_run start) events).accesses
    → may_be_told held number byte ≡ may_be_told (all_holdings start (run_after (first_run start) events).accesses) number byte
