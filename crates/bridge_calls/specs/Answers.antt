-- Answers of the model as numbers (this project's profile).
use Rattle.std.specs.Prelude.{ℕ, ◌+◌, ◌*◌, Bool, true, false, Option, Some, None}
use Rattle.axi_beats.specs.Bursts.{Burst, WriteBurst, ReadBurst}
use Rattle.axi_beats.specs.declared.Resp.{Resp}
use Rattle.axi_beats.specs.declared.Resp.TheVariants as resp
use Rattle.axi_beats.specs.declared.WBeat.{WBeat}
use Rattle.tl_checker.specs.Names.{number_of}
use Rattle.tl_messages.specs.declared.DBeat.{DBeat}
use Rattle.world.specs.declared.Answer.{Answer}
use Rattle.world.specs.declared.Answer.TheVariants.{More, Accepted, NotReady, Exhausted, Refused, NoClient, Sent, Idle, Done, NoSuch, Already, B, R, Nothing, Reply}
use Rattle.world.specs.declared.Step.{Step}
use Rattle.world.specs.declared.Step.TheVariants as step

-- ---- the answer to a step

-- which it is
abbrev pub code_of : Answer → ℕ
code_of More = 0
code_of (Accepted number) = 1
code_of NotReady = 2
code_of Exhausted = 3
code_of (Refused rule) = 4
code_of NoClient = 5
code_of (Sent serial) = 6
code_of Idle = 7
code_of Done = 8
code_of NoSuch = 9
code_of Already = 10
code_of (B b) = 11
code_of (R r) = 12
code_of Nothing = 13
code_of (Reply number) = 14

abbrev pub flag_number : Bool → ℕ
flag_number true = 1
flag_number false = 0

-- a response, by its number on the wires
abbrev pub resp_number : Resp → ℕ
resp_number resp.Okay = 0
resp_number resp.ExOkay = 1
resp_number resp.SlvErr = 2
resp_number resp.DecErr = 3

-- the number that belongs to it: that of a request, a serial, a rule's number, or ID, response and `last` of a beat
abbrev pub answer_number : Answer → ℕ
answer_number (Accepted number) = number
answer_number (Sent serial) = serial
answer_number (Reply number) = number
answer_number (Refused rule) = number_of rule
answer_number (B b) = b.id + 256 * resp_number b.resp
answer_number (R r) = r.id + 256 * resp_number r.resp + 65536 * flag_number r.last
answer_number _ = 0

-- the payload that belongs to it
abbrev pub answer_payload : Answer → ℕ
answer_payload (R r) = r.payload
answer_payload _ = 0

-- ---- a step that bridge and memory can make

-- 1 Pump, 2 Perform, 3 AnswerB or 4 AnswerR, and its beat or ID
abbrev pub step_head : Option Step → ℕ
step_head (Some step.Pump) = 1
step_head (Some (step.Perform serial beat)) = 2 + 256 * beat
step_head (Some (step.AnswerB id)) = 3 + 256 * id
step_head (Some (step.AnswerR id)) = 4 + 256 * id
step_head _ = 0

-- the serial of a Perform
abbrev pub step_serial : Option Step → ℕ
step_serial (Some (step.Perform serial beat)) = serial
step_serial _ = 0

-- ---- a burst

-- the fields of an address beat, by its channel: 1 for writes, 2 for reads
abbrev pub address_fields : ℕ → ℕ → ℕ → ℕ → ℕ → ℕ
address_fields channel id len size burst = channel + 256 * id + 65536 * len + 16777216 * size + 4294967296 * burst

abbrev pub burst_head : Option Burst → ℕ
burst_head None = 0
burst_head (Some (WriteBurst aw data_beats)) = address_fields 1 aw.id aw.len aw.size aw.burst
burst_head (Some (ReadBurst ar)) = address_fields 2 ar.id ar.len ar.size ar.burst

abbrev pub burst_address : Option Burst → ℕ
burst_address None = 0
burst_address (Some (WriteBurst aw data_beats)) = aw.address
burst_address (Some (ReadBurst ar)) = ar.address

-- one of its W beats, if it is there
abbrev pub w_payload : Option WBeat → ℕ
w_payload None = 0
w_payload (Some beat) = beat.payload

abbrev pub w_strobes : Option WBeat → ℕ
w_strobes None = 0
w_strobes (Some beat) = beat.strobes + 256 * flag_number beat.last

-- ---- a reply

abbrev pub d_fields : DBeat → ℕ
d_fields beat =
    beat.opcode + 256 * beat.param + 65536 * beat.size + 16777216 * beat.source + 4294967296 * flag_number beat.denied
    + 1099511627776 * flag_number beat.corrupt

-- one of its beats, if it is there
abbrev pub reply_fields : Option DBeat → ℕ
reply_fields None = 0
reply_fields (Some beat) = d_fields beat

abbrev pub reply_payload : Option DBeat → ℕ
reply_payload None = 0
reply_payload (Some beat) = beat.payload
