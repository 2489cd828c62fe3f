-- What a replay of the stored steps finds: how far each client's offers are its script, and its replies its receipts. It knows lists alone.
use Rattle.std.specs.Prelude.{ℕ, ◌∷◌, ◌≡◌, ◌≤◌, ◌^◌, ◌-◌, Bool, true, false, List, ◌++◌, drop, length, map, min, take, zip, Some, slice_get, IsTrue}
use Rattle.std.specs.List.{list_all}
use Rattle.tl_messages.specs.declared.ABeat.{ABeat}
use Rattle.tl_messages.specs.declared.DBeat.{DBeat}
use Rattle.world_run.specs.Runs.{HandedReply, accepted_numbers, answers_of, handed_in}
use Rattle.world.specs.World.{WorldState, after}
use Rattle.world.specs.declared.Step.{Step}
use Rattle.thread_reports.specs.Histories.{all_change}
use Rattle.thread_reports.specs.Reports.{accepted_of, beats_of_all, handed_to, head_of, is_taken, offers_of}
use Rattle.thread_reports.specs.declared.receipts.Receipts.{Receipts}
use Rattle.thread_reports.specs.declared.replay.Found.{Found}
use Rattle.thread_reports.specs.declared.replay.Replay.{Replay}

-- the receipt at a place is this reply, where the beats of those before it end at `start`
pub record HasReceipt (receipts : Receipts) (place start number : ℕ) (reply : List DBeat) : Type 0 where
  pub head : slice_get receipts.heads.items place ≡ Some (number, length reply)
  pub beats : take (length reply) (drop start receipts.beats.items) ≡ reply

-- a client offered its script, and each beat was taken
abbrev pub KeepsScript : WorldState → List Step → ℕ → List ABeat → Type 0
KeepsScript start steps client script = (offers_of client steps ≡ script) × IsTrue (list_all (is_taken client) (zip steps (answers_of start steps)))

-- what was found of a client's offers: they are the first beats of its script, and each was taken; or, whatever steps follow, they aren't its script
abbrev pub FoundOffers : WorldState → List Step → ℕ → List ABeat → ℕ → Bool → Type 0
FoundOffers start steps client script offered false =
    (offers_of client steps ≡ take offered script) × (offered ≤ length script) × IsTrue (list_all (is_taken client) (zip steps (answers_of start steps)))
FoundOffers start steps client script offered true = (more : List Step) → KeepsScript start (steps ++ more) client script → ⊥

-- a client's first `right` receipts are these replies, all of them, and their beats are the first `beats` of its beats
abbrev pub AreFirstReceipts : Receipts → List HandedReply → ℕ → ℕ → Type 0
AreFirstReceipts receipts replies right beats =
    (right ≡ length replies) × (take right receipts.heads.items ≡ map head_of replies) × (right ≤ length receipts.heads.items)
    × (take beats receipts.beats.items ≡ beats_of_all replies) × (beats ≤ length receipts.beats.items)

-- a client's first `right` receipts are the first of these replies, and the next reply isn't the receipt there
pub record DiffersAt (receipts : Receipts) (replies : List HandedReply) (right beats : ℕ) : Type 0 where
  pub before : List HandedReply
  pub reply : HandedReply
  pub rest : List HandedReply
  pub replies_are : replies ≡ before ++ reply ∷ rest
  pub same : AreFirstReceipts receipts before right beats
  pub differs : HasReceipt receipts right beats reply.number reply.beats → ⊥

-- what was found of a client's replies: its first receipts are these; or the receipt after some of them isn't the next reply
abbrev pub FoundReplies : WorldState → List Step → ℕ → Receipts → ℕ → ℕ → Bool → Type 0
FoundReplies start steps client receipts right beats false = AreFirstReceipts receipts (handed_to client start steps) right beats
FoundReplies start steps client receipts right beats true = DiffersAt receipts (handed_to client start steps) right beats

-- a count that stays at the largest number
abbrev pub IsCount : ℕ → ℕ → Type 0
IsCount count of = count ≡ min of (2 ^ 64 - 1)

-- what was found of a client
pub record IsFound (start : WorldState) (steps : List Step) (client : ℕ) (script : List ABeat) (receipts : Receipts) (found : Found) : Type 0 where
  pub offers : FoundOffers start steps client script found.offered found.strayed
  pub accepted : IsCount found.accepted (accepted_of client start steps)
  pub replies : FoundReplies start steps client receipts found.right found.beats found.differs

-- what was found of each client that has a script and receipts
abbrev pub AreFound : WorldState → List Step → List (List ABeat) → List Receipts → List Found → Type 0
AreFound start steps scripts receipts found =
    (client : ℕ) (script : List ABeat) (received : Receipts) (of : Found) → slice_get scripts client ≡ Some script → slice_get receipts client ≡ Some received
    → slice_get found client ≡ Some of → IsFound start steps client script received of

-- a replay of these steps: the world after them, whether each changed it, how many requests were accepted and replies handed out, and what was
-- found of each client
pub record IsReplay (start : WorldState) (steps : List Step) (scripts : List (List ABeat)) (receipts : List Receipts) (replay : Replay) : Type 0 where
  pub world : replay.world ≡ after start steps
  pub changes : replay.changes ≡ all_change start steps
  pub accepted : IsCount replay.accepted (length (accepted_numbers (answers_of start steps)))
  pub handed : IsCount replay.handed (length (handed_in start steps))
  pub clients : AreFound start steps scripts receipts replay.found
