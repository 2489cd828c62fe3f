-- The main theorem, as one statement about a run: its replies are those of the accepted requests carried out whole, one at a time,
-- in order of acceptance, each at most once; once nothing is in flight the memory is theirs too; every burst sent obeys the AXI4 rules.
-- Its right side knows no beats, IDs, bursts, buffers or tables.
use Rattle.std.specs.Prelude.{ℕ, ◌≡◌, List, map, zip, length, Option, Some, None, if◌then◌else◌, nat_eq, slice_get, flat_map, IsTrue}
use Rattle.std.specs.List.{IsDistinct, AllByRecursion, list_all, range_with_len}
use Rattle.tl_messages.specs.Requests.{WholeRequest}
use Rattle.axi_beats.specs.Bursts.{Burst, is_legal}
use Rattle.axi_checker.specs.OpenBursts.{nothing_open}
use Rattle.axi_checker.specs.Order.{IsInOrder}
use Rattle.axi_checker.specs.Rules.{first_axi_fault, open_after_all}
use Rattle.responses.specs.Shown.{Reply, shown}
use Rattle.config.specs.Configs.{axi_port_of}
use Rattle.subordinate.specs.Faults.{standing_at, is_good}
use Rattle.meaning.specs.InTurn.{IsSpelled, bytes_of_all, replies_of}
use Rattle.meaning.specs.Meaning.{Bytes}
use Rattle.world_run.specs.Runs.{HandedReply, messages_in, accepted_in, accepted_numbers, whose, replies_told, recorded_beats, pumps_told, axi_history}
use Rattle.setups.specs.Setups.{SetupLists, faults_of}
use Rattle.world.specs.declared.Answer.{Answer}
use Rattle.world_run.specs.declared.SentBeat.{SentBeat}
use Rattle.world.specs.declared.Step.{Step}

-- a reply handed out is that of the accepted request of its number, and goes to that request's client
pub record IsReplyTo (requests : List WholeRequest) (replies : List Reply) (handed : HandedReply) : Type 0 where
  pub request : WholeRequest
  pub reply : Reply
  pub accepted : slice_get requests handed.number ≡ Some request
  pub carried_out : slice_get replies handed.number ≡ Some reply
  pub client : handed.client ≡ request.client
  pub beats : handed.beats ≡ shown request reply

-- the byte that a memory with these bytes shows at an address
abbrev pub byte_shown : SetupLists → Bytes → ℕ → Option ℕ
byte_shown setup bytes address = if is_good (standing_at (faults_of setup) address) then Some (bytes address) else None

-- the beats sent are those of whole legal bursts, one for each answer Sent; no beat, sent or answered, broke a rule at its place, and all of them
-- keep AXI4's order
pub record IsLegalTraffic (setup : SetupLists) (answers : List Answer) (sent : List SentBeat) : Type 0 where
  pub bursts : List Burst
  pub whole : sent ≡ flat_map recorded_beats bursts
  pub paired : length bursts ≡ pumps_told answers
  pub legal : IsTrue (list_all (is_legal setup.config.axi_bytes) bursts)
  pub in_place : first_axi_fault (axi_port_of setup.config) nothing_open (axi_history answers bursts) ≡ None
  pub in_order : IsInOrder (axi_history answers bursts) (open_after_all nothing_open (axi_history answers bursts))

-- the statement, of a set-up, a list of events, and what a run of them gave: its answers, the replies handed out, the beats sent, how many requests
-- are in flight at the end, and the byte that the memory then shows at each address
pub record IsOneAtATime (setup : SetupLists) (steps : List Step) (answers : List Answer) (handed : List HandedReply) (sent : List SentBeat) (in_flight : ℕ) (byte : ℕ → Option ℕ) : Type 0 where
  -- each event has its answer, the accepted requests have the numbers from 0, each is spelled, and replies went as answers tell
  pub answered : length answers ≡ length steps
  pub numbered : accepted_numbers answers ≡ range_with_len 0 (length (accepted_in steps answers))
  pub spelled : AllByRecursion (IsSpelled setup) (zip (messages_in steps answers) (accepted_in steps answers))
  pub as_many : length (accepted_in steps answers) ≡ length (messages_in steps answers)
  pub told : map whose handed ≡ replies_told (zip steps answers)
  -- the sentence: each reply is that of its request carried out in its turn, none is handed out twice, and the quiet memory is as all leave it
  pub replies : AllByRecursion (IsReplyTo (accepted_in steps answers) (replies_of setup (accepted_in steps answers))) handed
  pub once : IsDistinct nat_eq (map (λ reply. reply.number) handed)
  pub memory : in_flight ≡ 0 → (address : ℕ) → byte address ≡ byte_shown setup (bytes_of_all setup (accepted_in steps answers)) address
  pub traffic : IsLegalTraffic setup answers sent
