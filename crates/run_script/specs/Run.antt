-- `tlbridge run`: what each line of its script does (this project's profile).
use Rattle.std.specs.Prelude.{ℕ, ◌≡◌, Bool, true, false, List, [], ◌∷◌, ◌++◌, Option, None, Result, Ok, Err, OnOk}
use Rattle.std.specs.Io.KnownBytes.{Appends, Keeps}
use Rattle.tl_messages.specs.Lines.{a_text}
use Rattle.setups.specs.Setups.{SetupLists, setup_fault}
use Rattle.world.specs.World.{WorldState, Outcome, opening_world, next, byte_of, drained, work_left}
use Rattle.world.specs.declared.Step.{Step}
use Rattle.world.specs.declared.Step.TheVariants as step
use Rattle.line_text.specs.Fields.{read_as, byte_field, short_field, address_field}
use Rattle.script_text.specs.Forms.{form_of, told_as}
use Rattle.line_text.specs.OfferLines.{offer_line}
use Rattle.line_text.specs.Traces.{held_text, reply_text, drained_text, mem_text, work_text}
use Rattle.run_script.specs.Answers.{answer_text}
use Rattle.script_text.specs.Scripts.{Reading}
use Rattle.script_text.specs.SetupRules.{bridge_rules}
use Rattle.script_text.specs.Stages.{Kind, Stage, command_by_form, reading_of, unless_refused}
use Rattle.line_text.specs.Words.{is_dec_to, dec_at, hex_at, word_at}
use Rattle.script_text.specs.declared.keywords.Form.{Form}
use Rattle.script_text.specs.declared.keywords.Form.TheVariants as form

-- ---- commands

-- one event of the world; all that can happen without the clients; the byte at an address is shown; or the work that is left
pub data Command : Type 0 where
  Event : Step → Command
  Drain : Command
  Mem : ℕ → Command
  Work : Command

-- ---- reading a line

-- do SERIAL BEAT
abbrev pub perform_line : List (List ℕ) → Result Step ℕ
perform_line words = read_as (is_dec_to 18446744073709551615 ∷ short_field ∷ []) words (step.Perform (dec_at words 2) (dec_at words 3))

-- one field, a number to 255: b ID, r ID, take CLIENT
abbrev pub byte_line : List (List ℕ) → Result ℕ ℕ
byte_line words = read_as (byte_field ∷ []) words (dec_at words 2)

-- mem ADDRESS
abbrev pub mem_command : List (List ℕ) → Result ℕ ℕ
mem_command words = read_as (address_field ∷ []) words (hex_at words 2)

-- what a command's line of each form says, or its first wrong word; there are no other commands
abbrev pub command_of : Form → List (List ℕ) → Result Command ℕ
command_of form.Offer words = told_as (λ offer. Event (step.Offer offer.0 offer.1)) (offer_line words)
command_of form.Pump words = read_as [] words (Event step.Pump)
command_of form.Perform words = told_as Event (perform_line words)
command_of form.AnswerB words = told_as (λ id. Event (step.AnswerB id)) (byte_line words)
command_of form.AnswerR words = told_as (λ id. Event (step.AnswerR id)) (byte_line words)
command_of form.Take words = told_as (λ client. Event (step.Take client)) (byte_line words)
command_of form.Drain words = read_as [] words Drain
command_of form.Mem words = told_as Mem (mem_command words)
command_of form.Work words = read_as [] words Work
command_of _ words = Err 1

-- by the form that its first word names
abbrev pub line_says : List (List ℕ) → Result Command ℕ
line_says words = command_by_form command_of words (form_of (word_at words 1))

-- ---- carrying a line out

-- what stands before an answer's line: the beat that was offered
abbrev pub before_answer : Step → List ℕ
before_answer (step.Offer client beat) = a_text client beat
before_answer _ = []

-- what stands after it: the burst that was sent, or the beats of the reply that was taken
abbrev pub after_answer : Step → Outcome → List ℕ
after_answer step.Pump outcome = held_text outcome.burst
after_answer (step.Take client) outcome = reply_text client outcome.reply
after_answer _ outcome = []

-- the text of an event
abbrev pub event_text : Step → Outcome → List ℕ
event_text s outcome = before_answer s ++ (answer_text outcome.answer ++ after_answer s outcome)

-- what a command writes, and the world after it
abbrev pub commanded : WorldState → Command → List ℕ × WorldState
commanded world (Event s) = (event_text s (next world s), (next world s).state)
commanded world Drain = (drained_text (drained world).0, (drained world).1)
commanded world (Mem address) = (mem_text (byte_of world address), world)
commanded world Work = (work_text (work_left world), world)

-- a line's command was carried out and its text written, but where the writer failed; or the line's first wrong word is told
abbrev pub TellsLine : {E : Type 0} → Result Command ℕ → WorldState → WorldState → Option (List ℕ) → Option (List ℕ) → Result (Result (Unit {0}) E) ℕ → Type 0
TellsLine told old new before after (Ok written) =
    (command : Command) × (told ≡ Ok command) × OnOk written (Appends before after (commanded old command).0) × OnOk written (new ≡ (commanded old command).1)
TellsLine told old new before after (Err word) = (told ≡ Err word) × Keeps before after

-- ---- `tlbridge run`

-- it has every set-up line and none of its own, and writes nothing at the input's end
abbrev pub run_kind : Kind SetupLists (Unit {0}) WorldState Command
run_kind =
    record {
      most_lines = 65536;
      takes = λ form. true;
      set_up = bridge_rules;
      own_opening = tt;
      own_line = λ own words. None;
      passes = λ words. false;
      command_of = line_says;
      opened = λ own setup. unless_refused (opening_world setup) (setup_fault setup);
      commanded = λ world number command. Ok (commanded world command);
      ending = λ world. ([], false);
      wants = λ world command. false;
      wants_at_end = λ world. false;
    }

abbrev pub run_reading : Reading (Stage SetupLists (Unit {0}) WorldState) Bool
run_reading = reading_of run_kind
