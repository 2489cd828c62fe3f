-- The requests that messages spell, and what they give where they are carried out whole, one at a time, in order of acceptance.
use Rattle.std.specs.Prelude.{ℕ, ◌<◌, List, [], ◌∷◌, Option, option_map}
use Rattle.std.specs.List.{cons_option}
use Rattle.tl_messages.specs.Requests.{WholeRequest, held_of, request_of}
use Rattle.tl_messages.specs.declared.ABeat.{ABeat}
use Rattle.tl_checker.specs.RequestRules.{Spells}
use Rattle.responses.specs.Shown.{Reply}
use Rattle.config.specs.Configs.{port_of}
use Rattle.setups.specs.Setups.{SetupLists, faults_of}
use Rattle.meaning.specs.Meaning.{Bytes, bytes_after_all, replies_in_order, zeros}

-- ---- what was accepted

-- the beats of an accepted request, with its client
pub record AcceptedMessage : Type 0 where
  pub client : ℕ
  pub beats : List ABeat

-- the request that an accepted message spells
abbrev pub request_in : AcceptedMessage → Option WholeRequest
request_in message = option_map request_of (held_of message.client message.beats)

-- the requests that messages spell
abbrev pub requests_of : List AcceptedMessage → List WholeRequest
requests_of [] = []
requests_of (message ∷ messages) = cons_option (request_in message) (requests_of messages)

-- an accepted message came from a client of the set-up, and spells its request on that client's port
pub record IsSpelled (setup : SetupLists) (accepted : AcceptedMessage × WholeRequest) : Type 0 where
  pub client : accepted.0.client < setup.config.clients
  pub spells : Spells (port_of setup.config accepted.0.client) accepted.0.beats accepted.1

-- ---- what it gives

-- the replies to the accepted requests, carried out one at a time from zero
abbrev pub replies_of : SetupLists → List WholeRequest → List Reply
replies_of setup requests = replies_in_order (faults_of setup) setup.regions requests zeros

-- the bytes that the accepted requests leave, carried out one at a time from zero
abbrev pub bytes_of_all : SetupLists → List WholeRequest → Bytes
bytes_of_all setup requests = bytes_after_all (faults_of setup) setup.regions requests zeros
