-- What was observed, sorted by port. No rule plays a part.
use Rattle.std.specs.Prelude.{ℕ, ◌==◌, Bool, true, false, ◌&&◌, List, [], ◌∷◌, ◌++◌, length, if◌then◌else◌}
use Rattle.tl_messages.specs.Operations.{beats_of, opcode_has_data}
use Rattle.tl_messages.specs.Requests.{WholeRequest}
use Rattle.tl_messages.specs.declared.ABeat.{ABeat}
use Rattle.tl_messages.specs.declared.DBeat.{DBeat}
use Rattle.axi_checker.specs.declared.AxiBeat.{AxiBeat}
use Rattle.meaning.specs.InTurn.{AcceptedMessage, requests_of}
use Rattle.scoreboard.specs.declared.ObservedBeat.{ObservedBeat}
use Rattle.scoreboard.specs.declared.ObservedBeat.TheVariants.{A, D, Axi as OnAxi, Drained}

-- the messages that came whole, of all clients in the order of their last beats; for each client the beats of the message that it has begun;
-- for each client and source the beats on channel D; and the beats of the AXI4 port since it last went unwatched until nothing was outstanding
pub record Observed : Type 0 where
  pub messages : List AcceptedMessage
  pub begun : ℕ → List ABeat
  pub told : ℕ → ℕ → List DBeat
  pub axi : List AxiBeat

-- before the first beat
abbrev pub nothing_observed : Observed
nothing_observed = record { messages = []; begun = λ client. []; told = λ client source. []; axi = [] }

-- the requests that came whole, by number
abbrev pub requests_in : Observed → List WholeRequest
requests_in observed = requests_of observed.messages

-- ---- one beat more

-- whether beats are as many as the message has that the first one begins
abbrev pub is_complete : List ABeat → Bool
is_complete [] = false
is_complete (first ∷ rest) = length (first ∷ rest) == beats_of first.size (opcode_has_data first.opcode)

-- with other beats in the place of those that a client has begun
abbrev pub with_begun : ℕ → List ABeat → Observed → Observed
with_begun client beats observed = record observed { begun = λ other. if other == client then beats else observed.begun other }

-- the beats of a client with one more: a whole message, or one that has begun
abbrev pub with_message : ℕ → List ABeat → Bool → Observed → Observed
with_message client beats true observed =
    record (with_begun client [] observed) { messages = observed.messages ++ record { client = client; beats = beats } ∷ [] }
with_message client beats false observed = with_begun client beats observed

-- a beat on a client's channel A
abbrev pub with_request_beat : ℕ → ABeat → Observed → Observed
with_request_beat client beat observed =
    with_message client (observed.begun client ++ beat ∷ []) (is_complete (observed.begun client ++ beat ∷ [])) observed

-- a beat on a client's channel D
abbrev pub with_reply_beat : ℕ → DBeat → Observed → Observed
with_reply_beat client beat observed =
    record observed {
      told = λ other source. if other == client && source == beat.source then observed.told other source ++ beat ∷ [] else observed.told other source;
    }

-- a beat of the AXI4 port
abbrev pub with_axi_beat : AxiBeat → Observed → Observed
with_axi_beat beat observed = record observed { axi = observed.axi ++ beat ∷ [] }

-- whichever it is; after a time unwatched the AXI4 port begins anew
abbrev pub with_seen : Observed → ObservedBeat → Observed
with_seen observed (A client beat) = with_request_beat client beat observed
with_seen observed (D client beat) = with_reply_beat client beat observed
with_seen observed (OnAxi beat) = with_axi_beat beat observed
with_seen observed Drained = record observed { axi = [] }

-- whether it is a beat on a channel A
abbrev pub is_request : ObservedBeat → Bool
is_request (A client beat) = true
is_request (D client beat) = false
is_request (OnAxi beat) = false
is_request Drained = false

-- ---- a list of beats

-- each of them more
abbrev pub with_all : Observed → List ObservedBeat → Observed
with_all observed [] = observed
with_all observed (seen ∷ rest) = with_all (with_seen observed seen) rest

-- what they are, sorted
abbrev pub observed_in : List ObservedBeat → Observed
observed_in seen = with_all nothing_observed seen
