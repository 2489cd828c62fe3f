-- What has no answer when an observation is over: the replies that are due, the bursts that are open, the messages that have begun, and the data of
-- writes whose address didn't come.
use Rattle.std.specs.Prelude.{ℕ, ◌+◌, Bool, true, false, List, [], ◌∷◌, Option, Some, None, if◌then◌else◌, is_some, map, option_map, sum_by}
use Rattle.axi_beats.specs.declared.WBeat.{WBeat}
use Rattle.scoreboard.specs.AxiPorts.{PortBoard}
use Rattle.scoreboard.specs.Boards.{ClientBoard}
use Rattle.scoreboard.specs.Flights.{in_flight}
use Rattle.scoreboard.specs.Telling.{one_if}

-- the sources of a client's accepted requests whose reply isn't whole: of those of which no beat came, in order of acceptance, and of the one that has
-- begun
abbrev pub sources_due : Option ClientBoard → List ℕ
sources_due None = []
sources_due (Some client) = map (λ flight. flight.source) (in_flight client.flights)

-- the IDs of the writes that are open, the oldest first
abbrev pub writes_open : PortBoard → List ℕ
writes_open port = map (λ write. write.aw.id) port.open_bursts.writes

-- those of the reads
abbrev pub reads_open : PortBoard → List ℕ
reads_open port = map (λ read. read.ar.id) port.open_bursts.reads

-- the source of the message that a client has begun and that isn't whole, if there is one
abbrev pub source_begun : Option ClientBoard → Option ℕ
source_begun None = None
source_begun (Some client) = option_map (λ message. message.source) client.front

-- how many clients have begun a message that isn't whole
abbrev pub messages_begun : List ClientBoard → ℕ
messages_begun clients = sum_by (λ client. one_if (is_some client.front)) clients

-- of how many writes W beats are, in their order, where data of one came before them or not: a write's data end with the beat that says that it is the
-- last, and what comes behind it is of another write
abbrev pub writes_among : Bool → List WBeat → ℕ
writes_among begun [] = one_if begun
writes_among begun (w ∷ rest) = if w.last then 1 + writes_among false rest else writes_among true rest

-- how many writes have data on a port and no address: those of the beats that are early
abbrev pub writes_without_address : PortBoard → ℕ
writes_without_address port = writes_among false port.early
