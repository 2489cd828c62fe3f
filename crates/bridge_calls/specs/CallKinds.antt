-- What the words of a call say: which call it is, how many words it wants, and the step that it makes (this project's profile).
use Rattle.std.specs.Prelude.{ℕ, ◌/◌, ◌%◌, List, [], ◌∷◌, Option, Some, None, get_or}
use Rattle.tl_messages.specs.declared.ABeat.{ABeat}
use Rattle.world.specs.declared.Step.{Step}
use Rattle.world.specs.declared.Step.TheVariants as step
use Rattle.call_words.specs.CallWords.{byte_in, flag_in, line_words, low_in}
use Rattle.call_words.specs.declared.session.HandleCall.{HandleCall}
use Rattle.call_words.specs.declared.session.HandleCall.TheVariants as which
use Rattle.bridge_calls.specs.declared.kinds.CallKind.{CallKind}
use Rattle.bridge_calls.specs.declared.kinds.CallKind.TheVariants as kind

-- what is called, by the number that it has
abbrev pub kinds : List CallKind
kinds =
    kind.Offer ∷ kind.Pump ∷ kind.Perform ∷ kind.AnswerB ∷ kind.AnswerR ∷ kind.Take ∷ kind.Drain ∷ kind.Line ∷ kind.Begin
    ∷ kind.Close ∷ kind.FaultLength ∷ kind.TextByte ∷ kind.AnswerNumber ∷ kind.AnswerPayload ∷ kind.Choices ∷ kind.Choice
    ∷ kind.ChoiceSerial ∷ kind.Byte ∷ kind.Work ∷ kind.InFlight ∷ kind.Burst ∷ kind.BurstAddress ∷ kind.BurstData
    ∷ kind.BurstStrobes ∷ kind.ReplyBeats ∷ kind.ReplyFields ∷ kind.ReplyPayload ∷ []

-- by the lowest byte of the head
abbrev pub kind_of : ℕ → CallKind
kind_of head = get_or kinds (head % 256) kind.None

-- those that every handle has
abbrev pub call_by : CallKind → HandleCall
call_by kind.Line = which.Line
call_by kind.Begin = which.Begin
call_by kind.Close = which.Close
call_by kind.FaultLength = which.FaultLength
call_by kind.TextByte = which.TextByte
call_by _ = which.Own

abbrev pub call_of : ℕ → HandleCall
call_of head = call_by (kind_of head)

-- how many words come behind a head, by what is called
abbrev pub wanted_by : CallKind → ℕ → ℕ
wanted_by kind.Offer head = 2
wanted_by kind.Perform head = 1
wanted_by kind.Line head = line_words (byte_in (head / 256))
wanted_by _ head = 0

abbrev pub words_wanted : ℕ → ℕ
words_wanted head = wanted_by (kind_of head) head

-- the two lowest bytes of a word
abbrev pub short_in : ℕ → ℕ
short_in word = word % 65536

-- the beat that an offer says
abbrev pub offer_beat : ℕ → ℕ → ℕ → ABeat
offer_beat head address payload =
    record {
      opcode = byte_in (head / 65536);
      param = byte_in (head / 16777216);
      size = byte_in (head / 4294967296);
      source = byte_in (head / 1099511627776);
      address = low_in address;
      mask = byte_in (head / 281474976710656);
      corrupt = flag_in (head / 72057594037927936);
      payload = payload;
    }

-- the step that a call makes, if it makes one
abbrev pub step_by : CallKind → ℕ → List ℕ → Option Step
step_by kind.Offer head words = Some (step.Offer (byte_in (head / 256)) (offer_beat head (get_or words 0 0) (get_or words 1 0)))
step_by kind.Pump head words = Some step.Pump
step_by kind.Perform head words = Some (step.Perform (get_or words 0 0) (short_in (head / 256)))
step_by kind.AnswerB head words = Some (step.AnswerB (byte_in (head / 256)))
step_by kind.AnswerR head words = Some (step.AnswerR (byte_in (head / 256)))
step_by kind.Take head words = Some (step.Take (byte_in (head / 256)))
step_by _ head words = None

abbrev pub step_in : ℕ → List ℕ → Option Step
step_in head words = step_by (kind_of head) head words
