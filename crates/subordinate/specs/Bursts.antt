-- What is kept beside the open bursts, so that none of it is looked for among them.
use Rattle.std.specs.Prelude.{◌≡◌, ℕ, ◌%◌, ◌/◌, ◌<◌, ◌≤◌, ◌==◌, Bool, false, not, List, [], length, map, filter, find, flat_map, Option, None, Some, is_some, if◌then◌else◌, slice_get, slice_index_or, sum_by, take}
use Rattle.std.specs.List.{AllByRecursion, list_any}
use Rattle.std.specs.Int.{bit_at}
use Rattle.axi_beats.specs.Bursts.{Burst, ReadBurst, WriteBurst}
use Rattle.subordinate.specs.FreeMemory.{Pending, answers_left, beat_at, is_waiting, waiting_in}
use Rattle.subordinate.specs.Inside.{captured_at, count_waiting}
use Rattle.subordinate.specs.Laws.{RisesWithin, queue_of}
use Rattle.subordinate.specs.declared.BeatState.TheVariants.{Waiting}
use Rattle.subordinate.specs.declared.answers.Answers.{Answers}

-- whether an open burst is in a queue: the writes of an ID i are queue 2 i, its reads queue 2 i + 1
abbrev pub is_in : ℕ → Pending → Bool
is_in queue pending = queue_of pending == queue

-- the serials of a queue's bursts, in the order sent
abbrev pub serials_in : List Pending → ℕ → List ℕ
serials_in bursts queue = map (λ pending. pending.serial) (filter (is_in queue) bursts)

-- whether an open burst may be answered, were it the oldest of its queue
abbrev pub can_answer : Burst → Pending → Bool
can_answer (WriteBurst aw data_beats) pending = not (list_any is_waiting pending.beats)
can_answer (ReadBurst ar) pending = is_some (captured_at (beat_at pending pending.answered))

abbrev pub is_ready : Pending → Bool
is_ready pending = can_answer pending.burst pending

-- whether a beat that was performed may be what its burst waited for: the last of a write, or the next of a read
abbrev pub decides : ℕ → Burst → Pending → Bool
decides beat (WriteBurst aw data_beats) pending = not (list_any is_waiting pending.beats)
decides beat (ReadBurst ar) pending = pending.answered == beat

abbrev pub is_decided_by : ℕ → Pending → Bool
is_decided_by beat pending = decides beat pending.burst pending

-- whether a queue's oldest burst may be answered
abbrev pub is_found_ready : Option Pending → Bool
is_found_ready None = false
is_found_ready (Some pending) = is_ready pending

abbrev pub is_queue_ready : List Pending → ℕ → Bool
is_queue_ready bursts queue = is_found_ready (find (is_in queue) bursts)

-- whether a set of IDs has this one: bit `id` of a number
abbrev pub has_id : ℕ → ℕ → Bool
has_id ids id = bit_at ids id == 1

-- whether a queue's answer is marked: a B at even numbers, an R at odd ones
abbrev pub is_marked : Answers → ℕ → Bool
is_marked answers queue = if queue % 2 == 0 then has_id answers.b (queue / 2) else has_id answers.r (queue / 2)

-- serials rise
abbrev pub Rise : List Pending → Type 0
Rise bursts = (top : ℕ) × RisesWithin 0 top bursts

-- the serials of each queue, and the marks of the queues that may answer
pub record AreIndexed (bursts : List Pending) (queues : List (List ℕ)) (answers : Answers) : Type 0 where
  pub many : length queues ≡ 32
  pub row : (queue : ℕ) → slice_index_or queues queue [] ≡ serials_in bursts queue
  pub marks : (queue : ℕ) → queue < 32 → is_marked answers queue ≡ is_queue_ready bursts queue

-- how many beats of an open burst wait, and how many answers it has still to give
abbrev pub waiting_of : Pending → ℕ
waiting_of pending = count_waiting pending.beats

abbrev pub owed_by : Pending → ℕ
owed_by pending = answers_left pending.answered pending.burst

-- the sum over the open bursts of a count, which is at most 256 for each
pub record IsSum (count : Pending → ℕ) (bursts : List Pending) (total : ℕ) : Type 0 where
  pub sum : total ≡ sum_by count bursts
  pub each : AllByRecursion (λ pending. count pending ≤ 256) bursts

-- how many beats wait, how many answers are to come, and a place before which no burst has a beat that waits
pub record AreCounted (bursts : List Pending) (waiting owed first : ℕ) : Type 0 where
  pub waits : IsSum waiting_of bursts waiting
  pub owes : IsSum owed_by bursts owed
  pub within : first ≤ length bursts
  pub before : AllByRecursion (λ pending. count_waiting pending.beats ≡ 0) (take first bursts)

-- the first beat that waits, by rising serial and beat, is this one of the burst at a place
pub record IsFirstWaiting (bursts : List Pending) (place beat : ℕ) : Type 0 where
  pub pending : Pending
  pub there : slice_get bursts place ≡ Some pending
  pub waits : beat_at pending beat ≡ Some Waiting
  pub first : slice_get (flat_map waiting_in bursts) 0 ≡ Some (pending.serial, beat)

-- whether a serial is the first of a queue
abbrev pub is_first : Option ℕ → ℕ → Bool
is_first None serial = false
is_first (Some first) serial = first == serial
