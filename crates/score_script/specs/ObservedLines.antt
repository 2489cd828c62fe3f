-- The lines of observed beats, and of the answers between them (this project's profile).
use Rattle.std.specs.Prelude.{ℕ, ◌≡◌, ◌-◌, ◌^◌, ⊤, MatchResult, drop, map, Bool, true, false, ◌&&◌, ◌||◌, List, [], ◌∷◌, Option, Some, None, Result, Ok, Err, find, option_map, if◌then◌else◌, codes}
use Rattle.std.specs.Str.{bytes_eq}
use Rattle.axi_beats.specs.declared.ArBeat.{ArBeat}
use Rattle.axi_beats.specs.declared.AwBeat.{AwBeat}
use Rattle.axi_beats.specs.declared.BBeat.{BBeat}
use Rattle.axi_beats.specs.declared.RBeat.{RBeat}
use Rattle.axi_beats.specs.declared.Resp.{Resp}
use Rattle.axi_beats.specs.declared.Resp.TheVariants.{Okay, ExOkay, SlvErr, DecErr}
use Rattle.axi_beats.specs.declared.WBeat.{WBeat}
use Rattle.axi_checker.specs.declared.AxiBeat.TheVariants.{Ar as OnAr, Aw as OnAw, B as OnB, R as OnR, W as OnW}
use Rattle.line_text.specs.Fields.{Field, address_field, byte_field, flag_field, is_set, read_as}
use Rattle.script_text.specs.Forms.{told_as}
use Rattle.line_text.specs.OfferLines.{beat_in}
use Rattle.line_text.specs.Words.{dec_at, hex_at, is_dec_to, is_hex_to, word_at}
use Rattle.score_script.specs.FillLines.{fill_line}
use Rattle.score_script.specs.UnknownDigits.{or_unknown, payload_at, payload_field, unknown_lanes}
use Rattle.score_script.specs.WaitLines.{is_wait, waited_line}
use Rattle.score_script.specs.declared.lines.BeatField.{BeatField}
use Rattle.score_script.specs.declared.lines.BeatField.TheVariants as field
use Rattle.score_script.specs.declared.lines.Channel.{Channel}
use Rattle.score_script.specs.declared.lines.Channel.TheVariants as channel
use Rattle.score_script.specs.declared.lines.SeenBeat.{SeenBeat}
use Rattle.score_script.specs.declared.score.Command.{Command}
use Rattle.score_script.specs.declared.score.Command.TheVariants as command
use Rattle.scoreboard.specs.declared.ObservedBeat.{ObservedBeat}
use Rattle.scoreboard.specs.declared.ObservedBeat.TheVariants as seen
use Rattle.tl_messages.specs.declared.ABeat.{ABeat}
use Rattle.tl_messages.specs.declared.DBeat.{DBeat}

-- the first word of each channel's lines
abbrev pub channels : List (List ℕ × Channel)
channels =
    (codes "A", channel.A) ∷ (codes "D", channel.D) ∷ (codes "AW", channel.Aw) ∷ (codes "W", channel.W) ∷ (codes "B", channel.B)
    ∷ (codes "AR", channel.Ar) ∷ (codes "R", channel.R) ∷ []

-- the channel whose lines begin with a word
abbrev pub channel_of : List ℕ → Option Channel
channel_of word = option_map (λ row. row.1) (find (λ row. bytes_eq word row.0) channels)

-- ---- fields

-- a mask: a hexadecimal number to ff
abbrev pub mask_field : Field
mask_field = is_hex_to 255

-- a response's name
abbrev pub resp_field : Field
resp_field word =
    bytes_eq word (codes "OKAY") || (bytes_eq word (codes "EXOKAY") || (bytes_eq word (codes "SLVERR") || bytes_eq word (codes "DECERR")))

-- the response of a name
abbrev pub resp_in : List ℕ → Resp
resp_in word =
    if bytes_eq word (codes "OKAY")
    then Okay
    else (if bytes_eq word (codes "EXOKAY") then ExOkay else (if bytes_eq word (codes "SLVERR") then SlvErr else DecErr))

-- ---- beats

-- of which all is known
abbrev pub known : ObservedBeat → SeenBeat
known beat = record { beat = beat; unknown = 0 }

-- ---- A CLIENT OPCODE PARAM SIZE SOURCE ADDRESS MASK PAYLOAD CORRUPT

-- the fields of an A line are those of an `a` line
abbrev pub a_fields : List Field
a_fields =
    byte_field ∷ byte_field ∷ byte_field ∷ byte_field ∷ byte_field ∷ address_field ∷ mask_field ∷ payload_field ∷ flag_field ∷ []

-- its beat
abbrev pub a_in : List (List ℕ) → ABeat
a_in words = record (beat_in words) { payload = payload_at words 9 }

-- the client and its beat, or the first wrong word
abbrev pub a_line : List (List ℕ) → Result SeenBeat ℕ
a_line words = read_as a_fields words (record { beat = seen.A (dec_at words 2) (a_in words); unknown = unknown_lanes (word_at words 9) })

-- ---- D CLIENT OPCODE PARAM SIZE SOURCE DENIED PAYLOAD CORRUPT

-- the fields of a D line
abbrev pub d_fields : List Field
d_fields = byte_field ∷ byte_field ∷ byte_field ∷ byte_field ∷ byte_field ∷ flag_field ∷ payload_field ∷ flag_field ∷ []

-- the beat of a D line
abbrev pub d_in : List (List ℕ) → DBeat
d_in words =
    record {
      opcode = dec_at words 3;
      param = dec_at words 4;
      size = dec_at words 5;
      source = dec_at words 6;
      denied = is_set (word_at words 7);
      payload = payload_at words 8;
      corrupt = is_set (word_at words 9);
    }

-- the client and its beat, or the first wrong word
abbrev pub d_line : List (List ℕ) → Result SeenBeat ℕ
d_line words = read_as d_fields words (record { beat = seen.D (dec_at words 2) (d_in words); unknown = unknown_lanes (word_at words 8) })

-- ---- AW ID ADDRESS LEN SIZE BURST, and AR

-- the fields of an AW or AR line
abbrev pub burst_fields : List Field
burst_fields = byte_field ∷ address_field ∷ byte_field ∷ byte_field ∷ byte_field ∷ []

-- the beat of an AW line
abbrev pub aw_in : List (List ℕ) → AwBeat
aw_in words =
    record { id = dec_at words 2; address = hex_at words 3; len = dec_at words 4; size = dec_at words 5; burst = dec_at words 6 }

-- the beat of an AR line
abbrev pub ar_in : List (List ℕ) → ArBeat
ar_in words =
    record { id = dec_at words 2; address = hex_at words 3; len = dec_at words 4; size = dec_at words 5; burst = dec_at words 6 }

-- a write address, or the first wrong word
abbrev pub aw_line : List (List ℕ) → Result SeenBeat ℕ
aw_line words = read_as burst_fields words (known (seen.Axi (OnAw (aw_in words))))

-- a read address, or the first wrong word
abbrev pub ar_line : List (List ℕ) → Result SeenBeat ℕ
ar_line words = read_as burst_fields words (known (seen.Axi (OnAr (ar_in words))))

-- ---- W PAYLOAD STROBES LAST

-- the beat of a W line
abbrev pub w_in : List (List ℕ) → WBeat
w_in words = record { payload = payload_at words 2; strobes = hex_at words 3; last = is_set (word_at words 4) }

-- its fields
abbrev pub w_fields : List Field
w_fields = payload_field ∷ mask_field ∷ flag_field ∷ []

-- write data, or the first wrong word
abbrev pub w_line : List (List ℕ) → Result SeenBeat ℕ
w_line words = read_as w_fields words (record { beat = seen.Axi (OnW (w_in words)); unknown = unknown_lanes (word_at words 2) })

-- ---- B ID RESP

-- the beat of a B line
abbrev pub b_in : List (List ℕ) → BBeat
b_in words = record { id = dec_at words 2; resp = resp_in (word_at words 3) }

-- its fields
abbrev pub b_fields : List Field
b_fields = byte_field ∷ resp_field ∷ []

-- a write response, or the first wrong word
abbrev pub b_line : List (List ℕ) → Result SeenBeat ℕ
b_line words = read_as b_fields words (known (seen.Axi (OnB (b_in words))))

-- ---- R ID PAYLOAD RESP LAST

-- the beat of an R line
abbrev pub r_in : List (List ℕ) → RBeat
r_in words =
    record { id = dec_at words 2; payload = payload_at words 3; resp = resp_in (word_at words 4); last = is_set (word_at words 5) }

-- its fields
abbrev pub r_fields : List Field
r_fields = byte_field ∷ payload_field ∷ resp_field ∷ flag_field ∷ []

-- read data, or the first wrong word
abbrev pub r_line : List (List ℕ) → Result SeenBeat ℕ
r_line words = read_as r_fields words (record { beat = seen.Axi (OnR (r_in words)); unknown = unknown_lanes (word_at words 3) })

-- ---- all

-- the beat that a channel's line says, or its first wrong word
abbrev pub seen_line : Channel → List (List ℕ) → Result SeenBeat ℕ
seen_line channel.A words = a_line words
seen_line channel.D words = d_line words
seen_line channel.Aw words = aw_line words
seen_line channel.W words = w_line words
seen_line channel.B words = b_line words
seen_line channel.Ar words = ar_line words
seen_line channel.R words = r_line words

-- ---- beats of which nobody knows a field but the payload

-- fields that nobody need know
abbrev pub loose : List Field → List Field
loose fields = map or_unknown fields

-- a line stands, or has a first wrong word
abbrev pub Stands : Option ℕ → Result ⊤ ℕ → Type 0
Stands word result = MatchResult result (λ done. word ≡ None) (λ wrong. word ≡ Some wrong)

-- which words are a field
abbrev pub field_test : BeatField → Field
field_test field.Byte = byte_field
field_test field.Address = address_field
field_test field.Mask = mask_field
field_test field.Payload = payload_field
field_test field.Flag = flag_field
field_test field.Response = resp_field

-- whether a channel is a client's, and none of the AXI4 port
abbrev pub is_of_client : Channel → Bool
is_of_client channel.A = true
is_of_client channel.D = true
is_of_client _ = false

-- the fields of a channel's lines behind its name, but for the client
abbrev pub fields_behind : Channel → List Field
fields_behind channel.A = drop 1 a_fields
fields_behind channel.D = drop 1 d_fields
fields_behind channel.Aw = burst_fields
fields_behind channel.W = w_fields
fields_behind channel.B = b_fields
fields_behind channel.Ar = burst_fields
fields_behind channel.R = r_fields

-- the client of such a beat, which has to be known, and 0 on the AXI4 port; or its first wrong word
abbrev pub unknown_line : Channel → List (List ℕ) → Result ℕ ℕ
unknown_line channel words =
    if is_of_client channel
    then read_as (byte_field ∷ loose (fields_behind channel)) words (dec_at words 2)
    else read_as (loose (fields_behind channel)) words 0

-- what a channel's line says: a beat, or else one of which nobody knows a field
abbrev pub command_told : Channel → List (List ℕ) → Result SeenBeat ℕ → Result Command ℕ
command_told channel words (Ok seen) = Ok (command.Observed seen)
command_told channel words (Err word) = told_as (λ client. command.Unknown channel client) (unknown_line channel words)

-- what a channel's line says
abbrev pub channel_command : Channel → List (List ℕ) → Result Command ℕ
channel_command channel words = command_told channel words (seen_line channel words)

-- mem ADDRESS
abbrev pub address_line : List (List ℕ) → Result ℕ ℕ
address_line words = read_as (address_field ∷ []) words (hex_at words 2)

-- time TIME
abbrev pub time_line : List (List ℕ) → Result ℕ ℕ
time_line words = read_as (is_dec_to (2 ^ 64 - 1) ∷ []) words (dec_at words 2)

-- ---- answers

-- whether an answer, by the word after `=`, says that the beat straight before it wasn't taken
abbrev pub is_withdrawal : List ℕ → Bool
is_withdrawal word =
    bytes_eq word (codes "noclient")
    || (bytes_eq word (codes "refused") || (bytes_eq word (codes "notready") || bytes_eq word (codes "exhausted")))

-- ---- commands

-- an answer, by the word after `=`: it withdraws the beat before it, says that AXI beats went unobserved, that the bridge was reset, or that the observation
-- is over, or is another
abbrev pub answer_command : List ℕ → Command
answer_command word =
    if is_withdrawal word
    then command.Withdrawal
    else
    (if bytes_eq word (codes "drained")
    then command.Observed (known seen.Drained)
    else (if bytes_eq word (codes "reset") then command.Reset else (if bytes_eq word (codes "end") then command.End else command.Answer)))

-- whether a line is an answer
abbrev pub is_answer : List (List ℕ) → Bool
is_answer words = bytes_eq (word_at words 1) (codes "=")

-- whether a command does nothing but settle the beat before it
abbrev pub is_settling : Command → Bool
is_settling command.Answer = true
is_settling _ = false

-- whether a line does
abbrev pub only_settles : List (List ℕ) → Bool
only_settles words = is_answer words && is_settling (answer_command (word_at words 2))

-- what a question, a filling or a time says, or the first wrong word
abbrev pub other_command : List (List ℕ) → Result Command ℕ
other_command words =
    if bytes_eq (word_at words 1) (codes "mem")
    then told_as (λ address. command.Byte address) (address_line words)
    else
    (if bytes_eq (word_at words 1) (codes "fill")
    then fill_line words
    else (if bytes_eq (word_at words 1) (codes "time") then told_as (λ time. command.Time time) (time_line words) else Err 1))

-- what a line of a channel, or else a wait, a question, a filling or a time, says, or the first wrong word
abbrev pub asked_command : List (List ℕ) → Option Channel → Result Command ℕ
asked_command words (Some channel) = channel_command channel words
asked_command words None = if is_wait words then waited_line words else other_command words

-- what a line says that isn't one of the set-up, or the first wrong word; there are no other commands
abbrev pub command_of : List (List ℕ) → Result Command ℕ
command_of words =
    if is_answer words then Ok (answer_command (word_at words 2)) else asked_command words (channel_of (word_at words 1))
