-- What a worker does in one hold of the lock: a client's turn, and a memory thread's. It knows the world by what it offers to be done next; how
-- the bridge and the memory do it is hidden.
use Rattle.std.specs.Prelude.{ℕ, ◌+◌, ◌%◌, ◌==◌, ◌≡◌, ◌<◌, ◌≤◌, ◌⊎◌, ◌-◌, Bool, ◌&&◌, ◌||◌, List, [], ◌∷◌, ◌++◌, length, Option, Some, None, is_some, slice_get, slice_index_or, if◌then◌else◌, nat_lt}
use Rattle.tl_messages.specs.declared.ABeat.{ABeat}
use Rattle.bridge_core.specs.HeldRequests.{oldest_done}
use Rattle.world.specs.World.{WorldState, enabled, next}
use Rattle.tl_messages.specs.declared.DBeat.{DBeat}
use Rattle.tl_checker.specs.declared.TlRule.TheVariants.{SourceBusy}
use Rattle.world.specs.declared.Answer.{Answer}
use Rattle.world.specs.declared.Answer.TheVariants.{More, Accepted, Refused, Reply}
use Rattle.world.specs.declared.Step.{Step}
use Rattle.world.specs.declared.Step.TheVariants.{Offer, Take}
use Rattle.bridge_threads.specs.SharedStates.{SharedState, turned}
use Rattle.bridge_threads.specs.declared.turns.Move.{Move}
use Rattle.bridge_threads.specs.declared.turns.Move.TheVariants.{Ends, Takes, Offers, CountsOut, Waits}
use Rattle.bridge_threads.specs.declared.turns.Turn.{Turn}
use Rattle.bridge_threads.specs.declared.turns.Turn.TheVariants.{Moved, Idle, Ended, Failed}
use Rattle.bridge_threads.specs.declared.turns.WorkerFault.TheVariants.{BeatRefused, HistoryFull, IdleLimit}
use Rattle.thread_reports.specs.declared.receipts.Receipts.{Receipts}

-- ---- a client

-- what a client does in a turn, the first of these that fits: it ends where all are to stop; it takes a reply where it has one; it offers its next
-- beat where it has one; it counts itself out where it received all its replies; else it waits
abbrev pub by_beat : Option ABeat → Bool → Move
by_beat (Some beat) received = Offers beat
by_beat None received = if received then CountsOut else Waits

abbrev pub client_move : SharedState → ℕ → Option ABeat → Bool → Move
client_move shared client beat received =
    if shared.stop then Ends else (if is_some (oldest_done shared.world.bridge.requests.live client) then Takes else by_beat beat received)

-- what a step makes of the shared value: nothing where the history is full, which is a fault
abbrev pub MakesStep : SharedState → SharedState → Step → Turn → Type 0
MakesStep old new step turn =
    ((old.room ≤ length old.steps) × (new ≡ old) × (turn ≡ Failed HistoryFull)) ⊎ ((length old.steps < old.room) × (new ≡ turned old step))

-- what a client's turn makes of the shared value
abbrev pub OnMove : ℕ → SharedState → SharedState → Turn → Move → Type 0
OnMove client old new turn Ends = (new ≡ old) × (turn ≡ Ended)
OnMove client old new turn Takes = MakesStep old new (Take client) turn
OnMove client old new turn (Offers beat) = MakesStep old new (Offer client beat) turn
OnMove client old new turn CountsOut = (new ≡ record old { working = old.working - 1 }) × (turn ≡ Ended)
OnMove client old new turn Waits = (new ≡ old) × (turn ≡ Idle)

-- what a client makes of the answer to an Offer of the beat at a place: a refusal by another rule than a busy source is a fault
abbrev pub offer_turn : ℕ → Answer → Turn
offer_turn place More = Moved
offer_turn place (Accepted number) = Moved
offer_turn place (Refused SourceBusy) = Idle
offer_turn place (Refused rule) = Failed (BeatRefused place rule)
offer_turn place _ = Idle

-- how many requests were accepted, with this answer
abbrev pub accepted_after : ℕ → Answer → ℕ
accepted_after count (Accepted number) = count + 1
accepted_after count _ = count

-- what a client's receipts are after the answer to a Take: with the reply at their end, or as they were, where there is no room for it
abbrev pub ReceivesBy : List DBeat → Receipts → Receipts → Turn → Answer → Type 0
ReceivesBy reply old new Moved (Reply number) =
    (new.heads.items ≡ old.heads.items ++ (number, length reply) ∷ []) × (new.beats.items ≡ old.beats.items ++ reply)
ReceivesBy reply old new turn _ = (new.heads.items ≡ old.heads.items) × (new.beats.items ≡ old.beats.items)

-- ---- a memory thread

-- the word at a place of a ring; 0 where there are none
abbrev pub word_at : List ℕ → ℕ → ℕ
word_at words place = slice_index_or words place 0

-- the place after one, in a ring of so many
abbrev pub place_after : ℕ → ℕ → ℕ
place_after count place = if nat_lt (place + 1) count then place + 1 else 0

-- a step is the choice of a word in a world: that of its number, modulo their count, among those that are enabled
abbrev pub IsChosen : WorldState → ℕ → Step → Type 0
IsChosen state word step = slice_get (enabled state) (word % length (enabled state)) ≡ Some step

-- steps are choices of the words of a ring from a place on, one after another, and the place after them
abbrev pub AreChosen : List ℕ → ℕ → WorldState → List Step → ℕ → Type 0
AreChosen words place state [] end = place ≡ end
AreChosen words place state (step ∷ steps) end =
    IsChosen state (word_at words place) step × AreChosen words (place_after (length words) place) (next state step).state steps end

-- the shared value after steps, each stored where it changed the world
abbrev pub after_turns : SharedState → List Step → SharedState
after_turns shared [] = shared
after_turns shared (step ∷ steps) = after_turns (turned shared step) steps

-- what a hold of a memory thread made: at most 16 choices by its words, one after another
pub record IsHold (words : List ℕ) (old_place new_place : ℕ) (old new : SharedState) (made : List Step) : Type 0 where
  pub chosen : AreChosen words old_place old.world made new_place
  pub turns : new ≡ after_turns old made
  pub few : length made ≤ 16

-- why it made no more: 16 were made, none was left, or the history was full
abbrev pub StoppedBy : Turn → SharedState → List Step → Type 0
StoppedBy Moved new made = (length made ≡ 16) ⊎ (enabled new.world ≡ [])
StoppedBy Idle new made = (made ≡ []) × (enabled new.world ≡ [])
StoppedBy (Failed fault) new made = (fault ≡ HistoryFull) × (new.room ≤ length new.steps)
StoppedBy Ended new made = ⊥

-- whether a memory thread is done: all are to stop, or no client is at work and nothing is enabled
abbrev pub is_over : SharedState → Bool
is_over shared = shared.stop || shared.working == 0 && length (enabled shared.world) == 0

-- ---- turns in a row

-- how many idle turns more a worker may have, after this turn, where so many in a row end it
abbrev pub idle_left : ℕ → ℕ → Turn → ℕ
idle_left limit left Moved = limit
idle_left limit left Idle = left - 1
idle_left limit left (Failed fault) = left
idle_left limit left Ended = left

-- a turn, or that it was the last idle turn in a row
abbrev pub within_limit : ℕ → Turn → Turn
within_limit left Moved = Moved
within_limit left Idle = if left == 0 then Failed IdleLimit else Idle
within_limit left (Failed fault) = Failed fault
within_limit left Ended = Ended
