-- The text of a threaded run's report (this project's profile).
use Rattle.std.specs.Prelude.{ℕ, ◌≡◌, ◌++◌, List, take, Some, flat_map, slice_get}
use Rattle.std.specs.List.{range_with_len}
use Rattle.line_text.specs.Traces.{client_text, mem_text, ok_text, reply_line_text, reply_text}
use Rattle.world_run.specs.Headline.{IsOneAtATime}
use Rattle.world_run.specs.Runs.{HandedReply, answers_of, handed_in, sent_in}
use Rattle.setups.specs.Setups.{SetupLists}
use Rattle.world.specs.World.{WorldState, byte_of, in_flight, opening_world}
use Rattle.world.specs.declared.Step.{Step}
use Rattle.thread_reports.specs.Reports.{AreReceiptsOf, IsReport, handed_to}
use Rattle.thread_reports.specs.declared.receipts.Receipts.{Receipts}
use Rattle.threads_script.specs.Asked.{AskedLists}

-- a reply that a client received: its number, and its beats
abbrev pub receipt_text : ℕ → HandedReply → List ℕ
receipt_text client reply = reply_line_text reply.number ++ reply_text client reply.beats

-- each client's receipts are the replies handed to it
abbrev pub AreReceived : WorldState → List Step → List Receipts → Type 0
AreReceived start steps receipts =
    (client : ℕ) (received : Receipts) → slice_get receipts client ≡ Some received → AreReceiptsOf received (handed_to client start steps)

-- the replies handed to a client, in order
abbrev pub received_text : WorldState → List Step → ℕ → List ℕ
received_text start steps client = client_text client ++ flat_map (receipt_text client) (handed_to client start steps)

-- `= ok`, what each of so many clients received, and the bytes at these addresses
abbrev pub report_text : WorldState → List Step → WorldState → ℕ → List ℕ → List ℕ
report_text start steps world clients addresses =
    ok_text ++ (flat_map (received_text start steps) (range_with_len 0 clients) ++ flat_map (λ address. mem_text (byte_of world address)) addresses)

-- a text is that of a report of what is asked: there are steps of which the report's facts and the main theorem hold, with the set-up and the
-- scripts of the input, and it is the text of the replies that these hand out and of the memory after them
pub record IsReportText (asked : AskedLists) (text : List ℕ) : Type 0 where
  pub setup : SetupLists
  pub set_up : asked.setup ≡ Some setup
  pub steps : List Step
  pub receipts : List Receipts
  pub world : WorldState
  pub report : IsReport setup (take setup.config.clients asked.scripts) steps receipts world
  pub one_at_a_time :
      IsOneAtATime setup steps (answers_of (opening_world setup) steps) (handed_in (opening_world setup) steps) (sent_in (opening_world setup) steps) (in_flight world) (byte_of world)
  pub written : text ≡ report_text (opening_world setup) steps world setup.config.clients asked.addresses
