-- What a threaded run reports: a history of the world in which each client offered its script and received all its replies. It knows what was
-- offered and handed out; how the world came to do so is told by world_run.
use Rattle.std.specs.Prelude.{ℕ, ◌==◌, ◌<◌, ◌≡◌, Bool, true, false, ◌&&◌, ◌||◌, not, List, [], ◌∷◌, filter, length, map, zip, Option, Some, None, flat_map, if◌then◌else◌, nat_eq, slice_get, IsTrue}
use Rattle.std.specs.List.{list_all, list_any, cons_option}
use Rattle.std.specs.declared.alloc.Global.{Global}
use Rattle.std.specs.declared.vec.Vec.{Vec}
use Rattle.tl_messages.specs.declared.ABeat.{ABeat}
use Rattle.tl_messages.specs.declared.DBeat.{DBeat}
use Rattle.world_run.specs.Runs.{HandedReply, accepted_in, answers_of, handed_in}
use Rattle.setups.specs.Setups.{SetupLists, setup_fault}
use Rattle.world.specs.World.{WorldState, IsQuiet, opening_world}
use Rattle.world.specs.declared.Answer.{Answer}
use Rattle.world.specs.declared.Answer.TheVariants.{More, Accepted}
use Rattle.world.specs.declared.Step.{Step}
use Rattle.world.specs.declared.Step.TheVariants.{Offer}
use Rattle.thread_reports.specs.Histories.{IsHistory}
use Rattle.thread_reports.specs.declared.receipts.Receipts.{Receipts}

-- the lists of scripts
abbrev pub items_of : {A : Type 0} → List (Vec A Global) → List (List A)
items_of lists = map (λ list. list.items) lists

-- ---- what a client offered

-- the beat that a step offers for a client, if it does
abbrev pub offered_by : ℕ → Step → Option ABeat
offered_by client (Offer who beat) = if who == client then Some beat else None
offered_by client _ = None

-- the beats that a client offered, in order
abbrev pub offers_of : ℕ → List Step → List ABeat
offers_of client [] = []
offers_of client (step ∷ steps) = cons_option (offered_by client step) (offers_of client steps)

-- whether an answer tells that a beat was taken
abbrev pub takes_beat : Answer → Bool
takes_beat More = true
takes_beat (Accepted number) = true
takes_beat _ = false

-- whether a step is no Offer of a client, or one that was answered More or Accepted
abbrev pub is_taken : ℕ → Step × Answer → Bool
is_taken client (Offer who beat, answer) = not (who == client) || takes_beat answer
is_taken client _ = true

-- whether an answer tells that a request was accepted
abbrev pub is_accepted : Answer → Bool
is_accepted (Accepted number) = true
is_accepted _ = false

-- whether a step is the Offer of a client that completed a request
abbrev pub accepts : ℕ → Step × Answer → Bool
accepts client (Offer who beat, answer) = who == client && is_accepted answer
accepts client _ = false

-- how many requests of a client were accepted
abbrev pub accepted_of : ℕ → WorldState → List Step → ℕ
accepted_of client start steps = length (filter (accepts client) (zip steps (answers_of start steps)))

-- ---- what a client received

-- the replies handed to a client, in order
abbrev pub handed_to : ℕ → WorldState → List Step → List HandedReply
handed_to client start steps = filter (λ handed. handed.client == client) (handed_in start steps)

-- a reply's number, and how many beats it has
abbrev pub head_of : HandedReply → ℕ × ℕ
head_of handed = (handed.number, length handed.beats)

-- the beats of replies, one after another
abbrev pub beats_of_all : List HandedReply → List DBeat
beats_of_all replies = flat_map (λ reply. reply.beats) replies

-- a client's receipts are these replies: number and count of beats of each, in order, and all their beats, cut one after another from one list,
-- of which none is left over
pub record AreReceiptsOf (receipts : Receipts) (replies : List HandedReply) : Type 0 where
  pub heads : receipts.heads.items ≡ map head_of replies
  pub beats : receipts.beats.items ≡ beats_of_all replies

-- ---- a report

-- one client's part: it offered its script, each beat was taken, its receipts are the replies handed to it, and there are as many as requests
-- of it were accepted
pub record IsClientReport (start : WorldState) (steps : List Step) (client : ℕ) (script : List ABeat) (receipts : Receipts) : Type 0 where
  pub script_kept : offers_of client steps ≡ script
  pub all_taken : IsTrue (list_all (is_taken client) (zip steps (answers_of start steps)))
  pub receipts_kept : AreReceiptsOf receipts (handed_to client start steps)
  pub all_received : length (handed_to client start steps) ≡ accepted_of client start steps

-- each client's part, by its number
abbrev pub AreClientReports : WorldState → List Step → List (List ABeat) → List Receipts → Type 0
AreClientReports start steps scripts receipts =
    (client : ℕ) (script : List ABeat) (received : Receipts) → slice_get scripts client ≡ Some script → slice_get receipts client ≡ Some received
    → IsClientReport start steps client script received

-- a report: the set-up isn't refused; the world is its opening world after the steps, each of which changed it; each client has a script and
-- receipts, and its part; each accepted number was handed out; and nothing is in flight
pub record IsReport (setup : SetupLists) (scripts : List (List ABeat)) (steps : List Step) (receipts : List Receipts) (world : WorldState) : Type 0 where
  pub sound : setup_fault setup ≡ None
  pub history : IsHistory (opening_world setup) steps world
  pub as_many_scripts : length scripts ≡ setup.config.clients
  pub as_many_receipts : length receipts ≡ setup.config.clients
  pub clients : AreClientReports (opening_world setup) steps scripts receipts
  pub all_handed :
      (number : ℕ) → number < length (accepted_in steps (answers_of (opening_world setup) steps))
      → IsTrue (list_any (nat_eq number) (map (λ handed. handed.number) (handed_in (opening_world setup) steps)))
  pub quiet : IsQuiet world
