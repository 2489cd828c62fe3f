-- The lines of what has no answer when an observation is over (this project's profile).
use Rattle.std.specs.Prelude.{ℕ, ◌+◌, List, [], ◌∷◌, ◌++◌, Option, Some, None, codes, decimal, if◌then◌else◌, length, nat_lt, slice_get}
use Rattle.std.specs.List.{flat_map, range_with_len}
use Rattle.score_script.specs.FindingTexts.{line_end}
use Rattle.axi_checker.specs.OpenBursts.{open_count}
use Rattle.score_script.specs.declared.findings.Line.{Line}
use Rattle.score_script.specs.declared.unanswered.Owed.{Owed}
use Rattle.score_script.specs.declared.unanswered.Owed.TheVariants.{Message, Replies}
use Rattle.score_script.specs.declared.unanswered.Side.{Side}
use Rattle.score_script.specs.declared.unanswered.Side.TheVariants.{Read, Write}
use Rattle.scoreboard.specs.AxiPorts.{PortBoard}
use Rattle.scoreboard.specs.Boards.{Board, replies_open}
use Rattle.scoreboard.specs.Unanswered.{messages_begun, reads_open, source_begun, sources_due, writes_open, writes_without_address}
use Rattle.tl_messages.specs.Lines.{spaced}

-- a reply that is due to a source of a client, by the number of the line at which the observation is over
abbrev pub reply_words : ℕ → ℕ → ℕ → List ℕ
reply_words number client source =
    spaced
    (codes "=" ∷ codes "wrong" ∷ decimal number ∷ codes "reply" ∷ codes "9" ∷ codes "UNANSWERED" ∷ codes "client" ∷ decimal client ∷ codes "source" ∷ decimal source ∷ [])

-- its line
abbrev pub reply_text : Line → ℕ → ℕ → List ℕ
reply_text line client source = reply_words line.number client source ++ line_end line.time

-- the name of a side of the AXI4 port
abbrev pub side_name : Side → List ℕ
side_name Write = codes "write"
side_name Read = codes "read"

-- an open burst of a side and an ID
abbrev pub burst_words : ℕ → Side → ℕ → List ℕ
burst_words number side id =
    spaced (codes "=" ∷ codes "wrong" ∷ decimal number ∷ codes "axi" ∷ codes "14" ∷ codes "UNANSWERED" ∷ side_name side ∷ decimal id ∷ [])

-- its line
abbrev pub burst_text : Line → Side → ℕ → List ℕ
burst_text line side id = burst_words line.number side id ++ line_end line.time

-- data of a write whose address didn't come
abbrev pub data_words : ℕ → List ℕ
data_words number = spaced (codes "=" ∷ codes "wrong" ∷ decimal number ∷ codes "axi" ∷ codes "14" ∷ codes "UNANSWERED" ∷ codes "data" ∷ [])

-- their line
abbrev pub data_text : Line → List ℕ
data_text line = data_words line.number ++ line_end line.time

-- a message that a client has begun and that isn't whole, by its source
abbrev pub message_words : ℕ → ℕ → ℕ → List ℕ
message_words number client source =
    spaced
    (codes "=" ∷ codes "wrong" ∷ decimal number ∷ codes "request" ∷ codes "18" ∷ codes "UNFINISHED" ∷ codes "client" ∷ decimal client ∷ codes "source" ∷ decimal source ∷ [])

-- its line
abbrev pub message_text : Line → ℕ → Option ℕ → List ℕ
message_text line client None = []
message_text line client (Some source) = message_words line.number client source ++ line_end line.time

-- the IDs of the open bursts of a side, the oldest first
abbrev pub ids_open : Side → PortBoard → List ℕ
ids_open Write port = writes_open port
ids_open Read port = reads_open port

-- the replies that are due to a client
abbrev pub replies_text : Line → Board → ℕ → List ℕ
replies_text line board client = flat_map (reply_text line client) (sources_due (slice_get board.clients client))

-- what is owed to a client, or by it: those, or the rest of the message that it has begun
abbrev pub owed_text : Owed → Line → Board → ℕ → List ℕ
owed_text Replies line board client = replies_text line board client
owed_text Message line board client = message_text line client (source_begun (slice_get board.clients client))

-- the same of all clients
abbrev pub all_owed_text : Owed → Line → Board → List ℕ
all_owed_text owed line board = flat_map (owed_text owed line board) (range_with_len 0 (length board.clients))

-- the open bursts of a side
abbrev pub bursts_text : Line → Board → Side → List ℕ
bursts_text line board side = flat_map (burst_text line side) (ids_open side board.axi)

-- the data of writes whose address didn't come, one line for each write
abbrev pub all_data_text : Line → Board → List ℕ
all_data_text line board = flat_map (λ write. data_text line) (range_with_len 0 (writes_without_address board.axi))

-- those on the AXI4 port: each open burst, and each write of which there are data alone
abbrev pub port_text : Line → Board → List ℕ
port_text line board = bursts_text line board Write ++ (bursts_text line board Read ++ all_data_text line board)

-- each reply that is due, what has no answer on the AXI4 port, and each message that isn't whole, by the line at which the observation is over
abbrev pub unanswered_text : Line → Board → List ℕ
unanswered_text line board = all_owed_text Replies line board ++ (port_text line board ++ all_owed_text Message line board)

-- ---- as a number

-- the first of these lines, as a number: 0 where there is none
abbrev pub unanswered_code : Board → ℕ
unanswered_code board =
    if nat_lt 0 (replies_open board.clients)
    then 209
    else (if nat_lt 0 (open_count board.axi.open_bursts + writes_without_address board.axi)
    then 314
    else (if nat_lt 0 (messages_begun board.clients) then 118 else 0))
