-- What a run shows from outside: the requests that were accepted, the replies handed out, the beats sent. It knows events and answers, and the
-- states only by what they hand out.
use Rattle.std.specs.Prelude.{ℕ, ◌+◌, ◌==◌, ◌≡◌, List, [], ◌∷◌, ◌++◌, map, zip, length, Option, Some, None, if◌then◌else◌, slice_range, flat_map}
use Rattle.std.specs.List.{cons_option}
use Rattle.tl_messages.specs.Requests.{WholeRequest}
use Rattle.tl_messages.specs.declared.ABeat.{ABeat}
use Rattle.tl_messages.specs.declared.DBeat.{DBeat}
use Rattle.axi_beats.specs.Bursts.{Burst, WriteBurst, ReadBurst}
use Rattle.axi_checker.specs.declared.AxiBeat.{AxiBeat}
use Rattle.axi_checker.specs.declared.AxiBeat.TheVariants.{B as OnB, R as OnR}
use Rattle.axi_checker.specs.Rules.{beats_sent}
use Rattle.meaning.specs.InTurn.{AcceptedMessage, requests_of}
use Rattle.setups.specs.Setups.{SetupLists}
use Rattle.world.specs.World.{WorldState, Outcome, opening_world, outcomes, after}
use Rattle.world.specs.declared.Answer.{Answer}
use Rattle.world.specs.declared.Answer.TheVariants.{More, Accepted, Sent, B, R, Reply}
use Rattle.world_run.specs.declared.Handed.{Handed}
use Rattle.world_run.specs.declared.SentBeat.{SentBeat}
use Rattle.world_run.specs.declared.SentBeat.TheVariants.{Aw, W, Ar}
use Rattle.world.specs.declared.Step.{Step}
use Rattle.world.specs.declared.Step.TheVariants.{Offer, Take}

-- ---- what was accepted

-- the beats of each client that were answered More since its last request
abbrev pub Heard : Type 0
Heard = ℕ → List ABeat

-- before the first event no beat was
abbrev pub heard_nothing : Heard
heard_nothing client = []

-- with other beats in the place of a client's
abbrev pub with_heard : ℕ → List ABeat → Heard → Heard
with_heard client beats heard other = if other == client then beats else heard other

-- the messages that events complete, by number, after what was heard before them
abbrev pub messages_from : Heard → List (Step × Answer) → List AcceptedMessage
messages_from heard [] = []
messages_from heard ((Offer client beat, More) ∷ rest) = messages_from (with_heard client (heard client ++ beat ∷ []) heard) rest
messages_from heard ((Offer client beat, Accepted number) ∷ rest) =
    record { client = client; beats = heard client ++ beat ∷ [] } ∷ messages_from (with_heard client [] heard) rest
messages_from heard (_ ∷ rest) = messages_from heard rest

-- the accepted messages by number
abbrev pub messages_in : List Step → List Answer → List AcceptedMessage
messages_in steps answers = messages_from heard_nothing (zip steps answers)

-- the accepted requests by number
abbrev pub accepted_in : List Step → List Answer → List WholeRequest
accepted_in steps answers = requests_of (messages_in steps answers)

-- the numbers that answers gave to accepted requests
abbrev pub accepted_numbers : List Answer → List ℕ
accepted_numbers [] = []
accepted_numbers (Accepted number ∷ answers) = number ∷ accepted_numbers answers
accepted_numbers (_ ∷ answers) = accepted_numbers answers

-- ---- what was handed out

-- a reply as it was handed out
pub record HandedReply : Type 0 where
  pub client : ℕ
  pub number : ℕ
  pub beats : List DBeat

-- the client that took a reply, and the reply's number
abbrev pub whose : HandedReply → ℕ × ℕ
whose handed = (handed.client, handed.number)

-- who took which reply, as steps and answers tell
abbrev pub replies_told : List (Step × Answer) → List (ℕ × ℕ)
replies_told [] = []
replies_told ((Take client, Reply number) ∷ rest) = (client, number) ∷ replies_told rest
replies_told (_ ∷ rest) = replies_told rest

-- the reply that one event handed out, if it did
abbrev pub handed_at : Step → Answer → List DBeat → Option HandedReply
handed_at (Take client) (Reply number) beats = Some (record { client = client; number = number; beats = beats })
handed_at _ _ beats = None

abbrev pub handed_by : List (Step × Outcome) → List HandedReply
handed_by [] = []
handed_by ((step, outcome) ∷ rest) = cons_option (handed_at step outcome.answer outcome.reply) (handed_by rest)

abbrev pub handed_in : WorldState → List Step → List HandedReply
handed_in state steps = handed_by (zip steps (outcomes state steps))

-- the same, as a run's record keeps them: pieces of one list of D beats
abbrev pub piece_of : List DBeat → Handed → HandedReply
piece_of d_beats handed =
    record { client = handed.client; number = handed.number; beats = slice_range d_beats handed.first (handed.first + handed.beats) }

-- the replies that were handed out, in order, each with its client, its number and its beats
abbrev pub handed_of : List Handed → List DBeat → List HandedReply
handed_of replies d_beats = map (piece_of d_beats) replies

-- the pieces stand one after another, from a place on, and use all beats to the end
abbrev pub AreCutFrom : ℕ → List Handed → ℕ → Type 0
AreCutFrom place [] end = place ≡ end
AreCutFrom place (handed ∷ replies) end = (handed.first ≡ place) × AreCutFrom (place + handed.beats) replies end

-- ---- what was sent

-- the bursts sent by a list of events
abbrev pub bursts_in : List Outcome → List Burst
bursts_in [] = []
bursts_in (outcome ∷ rest) = cons_option outcome.burst (bursts_in rest)

-- the beats of a burst as they are sent
abbrev pub recorded_beats : Burst → List SentBeat
recorded_beats (WriteBurst aw data_beats) = Aw aw ∷ map W data_beats
recorded_beats (ReadBurst ar) = Ar ar ∷ []

abbrev pub sent_in : WorldState → List Step → List SentBeat
sent_in state steps = flat_map recorded_beats (bursts_in (outcomes state steps))

-- how many answers tell that a burst was sent
abbrev pub pumps_told : List Answer → ℕ
pumps_told [] = 0
pumps_told (Sent serial ∷ answers) = 1 + pumps_told answers
pumps_told (_ ∷ answers) = pumps_told answers

-- all AXI beats in the order of events: those of the bursts where they were sent, and the answers
abbrev pub axi_history : List Answer → List Burst → List AxiBeat
axi_history [] bursts = []
axi_history (Sent serial ∷ answers) (burst ∷ bursts) = beats_sent burst ++ axi_history answers bursts
axi_history (B b ∷ answers) bursts = OnB b ∷ axi_history answers bursts
axi_history (R r ∷ answers) bursts = OnR r ∷ axi_history answers bursts
axi_history (_ ∷ answers) bursts = axi_history answers bursts

-- ---- a run's record

abbrev pub answers_of : WorldState → List Step → List Answer
answers_of state steps = map (λ outcome. outcome.answer) (outcomes state steps)

-- what a run's record is: the answers, replies, beats and world of its events
pub record IsRunOf (setup : SetupLists) (steps : List Step) (answers : List Answer) (replies : List Handed) (d_beats : List DBeat) (sent : List SentBeat) (world : WorldState) : Type 0 where
  pub answers_kept : answers ≡ answers_of (opening_world setup) steps
  pub cut : AreCutFrom 0 replies (length d_beats)
  pub replies_kept : handed_of replies d_beats ≡ handed_in (opening_world setup) steps
  pub sent_kept : sent ≡ sent_in (opening_world setup) steps
  pub world_kept : world ≡ after (opening_world setup) steps
