-- What a scoreboard holds, what it says of a beat, and what it holds after it, by its policy: whether the accepted requests take effect in order of
-- acceptance, or those in flight together in any order. By the second a source is free from its reply's first beat on, a payload is compared where it
-- tells a determined byte, so that the board keeps which bytes are determined, a request that writes races from its first beat on, and W beats may
-- come before their AW. Where errors are told in any way a request that fails may be denied or corrupt as TileLink allows, and what it may have written
-- is in doubt.
use Rattle.std.specs.Prelude.{◌<◌, ◌/◌, ℕ, ◌≡◌, ◌+◌, ◌-◌, ◌*◌, ◌==◌, Bool, true, false, ◌&&◌, ◌||◌, not, List, [], ◌∷◌, ◌++◌, map, length, sum_by, Option, Some, None, is_none, is_some, Result, Ok, Err, if◌then◌else◌, option_map, slice_get, slice_set, unwrap_or}
use Rattle.std.specs.Bool.{beq}
use Rattle.std.specs.List.{flat_map, list_any, range_with_len}
use Rattle.bus_words.specs.Lanes.{lane_byte, word_address}
use Rattle.bus_words.specs.Tables.{first_broken}
use Rattle.tl_messages.specs.Operations.{beats_of}
use Rattle.tl_messages.specs.Requests.{HeldMessage, WholeRequest, request_of}
use Rattle.tl_messages.specs.declared.ABeat.{ABeat}
use Rattle.tl_messages.specs.declared.DBeat.{DBeat}
use Rattle.tl_checker.specs.Ports.{joined, judged}
use Rattle.tl_checker.specs.RequestRules.{TlPortLimits}
use Rattle.tl_checker.specs.declared.Progress.{Progress}
use Rattle.tl_checker.specs.declared.Progress.TheVariants.{More, Whole}
use Rattle.tl_checker.specs.declared.TlRule.{TlRule}
use Rattle.axi_checker.specs.OpenBursts.{nothing_open}
use Rattle.axi_checker.specs.declared.AxiBeat.{AxiBeat}
use Rattle.responses.specs.Shown.{beat_without_data, shown}
use Rattle.config.specs.Configs.{axi_port_of, port_of}
use Rattle.config.specs.declared.Config.{Config}
use Rattle.score_setup.specs.ScoreSetups.{RangeLists, one_by_one}
use Rattle.setups.specs.Setups.{SetupLists, faults_of}
use Rattle.sparse_memory.specs.Ranges.{is_unknown}
use Rattle.meaning.specs.Meaning.{Bytes, acknowledged, zeros}
use Rattle.std.specs.Option.{option_or}
use Rattle.scoreboard.specs.AxiPorts.{PortBoard, drained, none_early, port_after, port_wrong}
use Rattle.scoreboard.specs.FailedBursts.{Span, after_hit, failed_span, hit, hit_flight}
use Rattle.scoreboard.specs.Flights.{Flights, Footprint, InFlight, cut_short, each_flight, flights_after, in_flight, is_busy, next_reply, no_flights, no_footprint, replies_left, with_flight}
use Rattle.scoreboard.specs.InTurn.{DueBeat, after_turn, as_known, dues_of, unless_fixed}
use Rattle.scoreboard.specs.Races.{after_given, after_joining, alone, beside, flight_beside, joining, unless_failed}
use Rattle.serial_memory.specs.SerialMemory.{Memory, carried_out, meaning_in, place_in}
use Rattle.scoreboard.specs.declared.Errors.{Errors}
use Rattle.scoreboard.specs.declared.Errors.TheVariants.{Any, Strict}
use Rattle.scoreboard.specs.declared.Policy.{Policy}
use Rattle.scoreboard.specs.declared.Policy.TheVariants.{AcceptanceOrder, RealTime}
use Rattle.scoreboard.specs.declared.ReplyRule.{ReplyRule}
use Rattle.scoreboard.specs.declared.ReplyRule.TheVariants as rule
use Rattle.scoreboard.specs.declared.ReplyRule.TheVariants.{Payload}
use Rattle.scoreboard.specs.declared.ObservedBeat.{ObservedBeat}
use Rattle.scoreboard.specs.declared.ObservedBeat.TheVariants.{A, D, Axi as OnAxi, Drained}
use Rattle.scoreboard.specs.declared.Wrong.{Wrong}
use Rattle.scoreboard.specs.declared.Wrong.TheVariants.{NoClient, Request, Reply}

-- a client: its port's limits, the message that has begun on channel A, its requests in flight, the footprint of the message that has begun, which is kept
-- where requests take effect in real time, the beat of its reply that may come already, before it is whole, where errors are told in any way, and whether
-- the first beat of the reply that began last was denied
pub record ClientBoard : Type 0 where
  pub limits : TlPortLimits
  pub front : Option HeldMessage
  pub flights : Flights
  pub coming : Footprint
  pub early : Option DBeat
  pub told : Bool

-- each client by its number; the memory as the accepted requests leave it in order of acceptance; which of its bytes they may not leave the same in every
-- order, or aren't known; what is outstanding on the AXI4 port, and early; and how errors may be told, which stays
pub record Board : Type 0 where
  pub clients : List ClientBoard
  pub memory : Memory
  pub indeterminate : ℕ → Bool
  pub axi : PortBoard
  pub errors : Errors

-- ---- channel A

-- what a client's port answers to a beat
abbrev pub answer_to : Policy → ClientBoard → ABeat → Result Progress TlRule
answer_to policy client beat = judged client.limits client.front beat (is_busy policy client.flights beat.source)

abbrev pub wrong_request : Result Progress TlRule → Option Wrong
wrong_request (Ok progress) = None
wrong_request (Err rule) = Some (Request rule)

-- ---- channel D

-- how a beat differs from the one that is due
abbrev pub reply_rules : DBeat → DBeat → List (Bool × ReplyRule)
reply_rules due beat =
    (not (beat.source == due.source), rule.Interleaved)
    ∷ (not (beat.opcode == due.opcode && beat.param == due.param), rule.Opcode)
    ∷ (not (beat.size == due.size), rule.Size)
    ∷ (not (beq beat.denied due.denied), rule.Denied)
    ∷ (not (beq beat.corrupt due.corrupt), rule.Corrupt)
    ∷ (not (beat.payload == due.payload), rule.Payload)
    ∷ []

abbrev pub wrong_by : DBeat → Option ReplyRule → Option Wrong
wrong_by due None = None
wrong_by due (Some broken) = Some (Reply broken (Some due))

-- what is wrong with a beat, by the beats that are left of the reply whose next it may be
abbrev pub wrong_beat : List DBeat → DBeat → Option Wrong
wrong_beat [] beat = Some (Reply rule.Unasked None)
wrong_beat (due ∷ rest) beat = wrong_by due (first_broken (reply_rules due beat))

-- the same in order of acceptance, where what isn't known of a beat that is due isn't compared
abbrev pub wrong_in_turn : List DueBeat → DBeat → Option Wrong
wrong_in_turn [] beat = Some (Reply rule.Unasked None)
wrong_in_turn (due ∷ rest) beat = wrong_beat (due.beat ∷ []) (as_known due beat)

-- whether two payloads differ in a lane of beat k of a reply, and the byte there is determined
abbrev pub differs_in : Footprint → ℕ → ℕ → ℕ → ℕ → Bool
differs_in footprint k due payload lane =
    footprint.determined (word_address footprint.address + 8 * k + lane) && not (lane_byte due lane == lane_byte payload lane)

-- whether a beat, as beat k of a reply, tells of a determined byte something else than the one that is due; corrupt beats tell of none, nor do those
-- without data
abbrev pub tells_otherwise : Footprint → ℕ → DBeat → DBeat → Bool
tells_otherwise footprint k due beat =
    footprint.reads && due.opcode == 1 && not due.corrupt && list_any (differs_in footprint k due.payload beat.payload) (range_with_len 0 8)

abbrev pub is_payload : ReplyRule → Bool
is_payload Payload = true
is_payload rule = false

-- another payload is wrong only if it tells otherwise of a determined byte
abbrev pub unless_indeterminate : Bool → Option ReplyRule → Option ReplyRule
unless_indeterminate otherwise None = None
unless_indeterminate otherwise (Some rule) = if is_payload rule && not otherwise then None else Some rule

-- a beat that is due as a request that has failed may show it to the one that came: denied or not, but as the reply's first beat told, if that came; with data
-- corrupt or not, but corrupt where it is denied; and with any payload (TileLink 1.8, channel D)
abbrev pub failed_beat : Option Bool → DBeat → DBeat → DBeat
failed_beat told due beat =
    record due {
      denied = unwrap_or told beat.denied;
      corrupt = due.opcode == 1 && (unwrap_or told beat.denied || beat.corrupt);
      payload = beat.payload;
    }

-- by whether the request has failed
abbrev pub due_beat : Bool → Option Bool → DBeat → DBeat → DBeat
due_beat true told due beat = failed_beat told due beat
due_beat false told due beat = due

-- what is wrong with a beat of the reply to a request with this footprint: what it tells of indeterminate bytes isn't
abbrev pub wrong_told : Footprint → Option Bool → List DBeat → DBeat → Option Wrong
wrong_told footprint told [] beat = Some (Reply rule.Unasked None)
wrong_told footprint told (due ∷ rest) beat =
    wrong_by (due_beat footprint.failed told due beat)
    (unless_indeterminate (tells_otherwise footprint (beats_of footprint.size true - length (due ∷ rest)) due beat)
    (first_broken (reply_rules (due_beat footprint.failed told due beat) beat)))

-- what is wrong with a beat, by whether the reply that has begun was denied, and by the request whose reply has its next beat there
abbrev pub wrong_reply : Policy → Option Bool → Option InFlight → DBeat → Option Wrong
wrong_reply policy told None beat = Some (Reply rule.Unasked None)
wrong_reply AcceptanceOrder told (Some flight) beat = wrong_in_turn (dues_of flight.footprint flight.beats) beat
wrong_reply RealTime told (Some flight) beat = wrong_told flight.footprint told flight.beats beat

-- whether the reply that has begun to a client was denied in its first beat, if one has begun
abbrev pub told_to : ClientBoard → Option Bool
told_to client = option_map (λ flight. client.told) client.flights.begun

-- ---- one beat

abbrev pub a_wrong : Policy → Option ClientBoard → ABeat → Option Wrong
a_wrong policy None beat = Some NoClient
a_wrong policy (Some client) beat = wrong_request (answer_to policy client beat)

-- the message that has begun, where its reply may have its beat in one of a source before it is whole
abbrev pub early_flight : ClientBoard → Option DBeat → ℕ → Option InFlight
early_flight client None source = None
early_flight client (Some due) source = if due.source == source then Some (record { source = source; beats = due ∷ []; footprint = client.coming }) else None

-- the request whose reply has its next beat in one of a source: in real time that may be the message that has begun, where none in flight has
abbrev pub next_to : Policy → ClientBoard → ℕ → Option InFlight
next_to AcceptanceOrder client source = next_reply client.flights source
next_to RealTime client source = option_or (next_reply client.flights source) (early_flight client client.early source)

abbrev pub d_wrong : Policy → Option ClientBoard → DBeat → Option Wrong
d_wrong policy None beat = Some NoClient
d_wrong policy (Some client) beat = wrong_reply policy (told_to client) (next_to policy client beat.source) beat

-- what is wrong with a beat, if anything is
abbrev pub wrong_at : Policy → Board → ObservedBeat → Option Wrong
wrong_at policy board (A client beat) = a_wrong policy (slice_get board.clients client) beat
wrong_at policy board (D client beat) = d_wrong policy (slice_get board.clients client) beat
wrong_at policy board (OnAxi beat) = port_wrong policy board.axi beat
wrong_at policy board Drained = None

-- ---- a request begins; and it is accepted: it is carried out, its reply is due, and it is in flight

-- a board of which one client changes
abbrev pub with_client : ℕ → ClientBoard → Board → Board
with_client number changed board = record board { clients = slice_set board.clients number changed }

-- the footprints of a client's requests in flight, and of the message that has begun
abbrev pub client_footprints : ClientBoard → List Footprint
client_footprints client = map (λ flight. flight.footprint) (in_flight client.flights) ++ client.coming ∷ []

-- those of all clients
abbrev pub footprints_of : List ClientBoard → List Footprint
footprints_of clients = flat_map client_footprints clients

-- a client when a request of this footprint has joined the others
abbrev pub client_beside : Footprint → ClientBoard → ClientBoard
client_beside footprint client = record client { flights = each_flight (flight_beside footprint) client.flights; coming = beside client.coming footprint }

-- a request that is accepted
abbrev pub flight_for : Memory → Footprint → WholeRequest → InFlight
flight_for memory footprint q = record { source = q.source; beats = shown q (meaning_in memory q).reply; footprint = footprint }

-- its client
abbrev pub with_accepted : InFlight → ClientBoard → ClientBoard
with_accepted flight client = record client { front = None; flights = with_flight flight client.flights; coming = no_footprint; early = None }

-- the board where a client's request is carried out, and in flight with a footprint
abbrev pub with_taken : Board → ℕ → ClientBoard → WholeRequest → Footprint → Board
with_taken board number client q footprint =
    record board {
      clients = slice_set board.clients number (with_accepted (flight_for board.memory footprint q) client);
      memory = carried_out board.memory q;
    }

-- the board where a client's request takes effect in its turn
abbrev pub in_turn_on : Board → ℕ → ClientBoard → WholeRequest → Footprint → Board
in_turn_on board number client q footprint =
    record (with_taken board number client q (unless_fixed footprint)) { indeterminate = after_turn board.indeterminate footprint q.bytes }

-- whether a reply tells an error in some beat
abbrev pub tells_error : List DBeat → Bool
tells_error beats = list_any (λ beat. beat.denied || beat.corrupt) beats

-- whether a request has failed, where that may be told in any way: it would act on no good page, corrupt or not, or its reply would tell an error, since a
-- beat of it was corrupt or its access fails. The reply to an Intent doesn't tell that its page isn't good; but it may be carried out as a read, which fails
-- there
abbrev pub fails : Errors → Memory → WholeRequest → Bool
fails Strict memory q = false
fails Any memory q = is_none (place_in memory (record q { corrupt = false })) || tells_error (shown q (meaning_in memory q).reply)

-- a request as it may act: where errors are told in any way, one that is corrupt may be carried out all the same
abbrev pub acting : Errors → WholeRequest → WholeRequest
acting Strict q = q
acting Any q = record q { corrupt = false }

-- the address of a good page at which it may act, if it has one
abbrev pub place_on : Board → WholeRequest → Option ℕ
place_on board q = place_in board.memory (acting board.errors q)

-- the footprint of a request that begins beside those in flight, and those that have begun
abbrev pub joining_on : Board → WholeRequest → Footprint
joining_on board q =
    unless_failed (fails board.errors board.memory q) (joining board.indeterminate (footprints_of board.clients) (place_on board q) q)

-- whether a beat of a request was corrupt, where that may be told in any way
abbrev pub is_spoiled : Errors → WholeRequest → Bool
is_spoiled Strict q = false
is_spoiled Any q = q.corrupt

-- the board where all these are beside a request of this footprint, which gives these bytes
abbrev pub beside_on : Board → Footprint → List (Option ℕ) → Board
beside_on board footprint bytes =
    record board {
      clients = map (client_beside footprint) board.clients;
      indeterminate = after_joining board.indeterminate (footprints_of board.clients) footprint bytes;
    }

-- the board where a request has joined them, and is carried out
abbrev pub joined_on : Board → ℕ → ClientBoard → WholeRequest → Footprint → Board
joined_on board number client q footprint = with_taken (beside_on board footprint q.bytes) number (client_beside footprint client) q footprint

-- the board where a request has begun with its first beat, and more are to come: it races from then on, and has given nothing yet
abbrev pub begun_on : Board → ℕ → ClientBoard → Footprint → Board
begun_on board number client footprint =
    with_client number (record (client_beside footprint client) { coming = footprint }) (beside_on board footprint [])

-- the beat of its reply that may come before it is whole, where errors are told in any way: a request of several beats is a Put, whose reply is one
abbrev pub early_due : Errors → WholeRequest → Option DBeat
early_due Strict q = None
early_due Any q = Some (beat_without_data q acknowledged)

-- the footprint of a request that had begun, when it is whole: what was determined of it all the while
abbrev pub kept_from : Footprint → Footprint → Footprint
kept_from coming footprint =
    record footprint { failed = coming.failed || footprint.failed; determined = λ x. footprint.determined x && coming.determined x }

-- the same on a board
abbrev pub coming_on : Board → WholeRequest → Footprint → Footprint
coming_on board q coming = kept_from coming (unless_failed (fails board.errors board.memory q) (alone board.indeterminate (place_on board q) q))

-- whether the reply to a message that has begun came before it is whole
abbrev pub has_replied : Errors → ClientBoard → Bool
has_replied Strict client = false
has_replied Any client = is_none client.early

-- a client whose message is whole: its request is in flight, or has ended, where its reply came before
abbrev pub with_whole : Bool → InFlight → ClientBoard → ClientBoard
with_whole true flight client = record client { front = None; coming = no_footprint; early = None }
with_whole false flight client = with_accepted flight client

-- the board where a request that had begun is whole: it is carried out, and what it gives is determined only where no other raced with it
abbrev pub given_on : Board → ℕ → ClientBoard → WholeRequest → Footprint → Board
given_on board number client q footprint =
    record board {
      clients = slice_set board.clients number (with_whole (has_replied board.errors client) (flight_for board.memory footprint q) client);
      memory = carried_out board.memory q;
      indeterminate = after_given board.indeterminate footprint q.bytes;
    }

-- in real time, by whether it had begun: a request of one beat joins the others and is carried out at once, and one of more beats has joined them before
abbrev pub whole_on : Board → ℕ → ClientBoard → WholeRequest → Bool → Board
whole_on board number client q false = joined_on board number client q (joining_on board q)
whole_on board number client q true = given_on board number client q (coming_on board q client.coming)

-- the board where a client's message is accepted, by whether it had begun before. Where requests take effect in order of acceptance that plays no part
abbrev pub accepted_on : Policy → Board → ℕ → ClientBoard → HeldMessage → Bool → Board
accepted_on AcceptanceOrder board number client message begun =
    in_turn_on board number client (request_of message) (alone board.indeterminate (place_in board.memory (request_of message)) (request_of message))
accepted_on RealTime board number client message begun = whole_on board number client (request_of message) begun

-- in real time, by whether it had begun: with its first beat a request joins the others, and its reply may come early; a later one changes nothing, but
-- that the request may have failed with it
abbrev pub more_on : Board → ℕ → ClientBoard → WholeRequest → Bool → Board
more_on board number client q false = begun_on board number (record client { early = early_due board.errors q }) (joining_on board q)
more_on board number client q true = with_client number (record client { coming = unless_failed (is_spoiled board.errors q) client.coming }) board

-- the board where beats of a client's message are still to come, by whether it had begun before
abbrev pub continued_on : Policy → Board → ℕ → ClientBoard → HeldMessage → Bool → Board
continued_on AcceptanceOrder board number client message begun = board
continued_on RealTime board number client message begun = more_on board number client (request_of message) begun

-- ---- the board after a beat; one that is wrong changes nothing, but a reply's beat counts as come whatever it shows, and with the first beat of another
-- a reply that ended early is over

-- after a client's port has answered, by the message with this beat
abbrev pub answered_on : Policy → Board → ℕ → ClientBoard → HeldMessage → Result Progress TlRule → Board
answered_on policy board number client message (Err broken) = board
answered_on policy board number client message (Ok More) =
    continued_on policy (with_client number (record client { front = Some message }) board) number (record client { front = Some message }) message
    (is_some client.front)
answered_on policy board number client message (Ok Whole) = accepted_on policy board number client message (is_some client.front)

-- after a beat on channel A; of no client, nothing changes
abbrev pub after_a : Policy → Board → ℕ → Option ClientBoard → ABeat → Board
after_a policy old number None beat = old
after_a policy old number (Some client) beat = answered_on policy old number client (joined client.limits client.front beat) (answer_to policy client beat)

-- what may come early to a client after a beat of a source on channel D: nothing, if this was it
abbrev pub early_left : Option DBeat → ℕ → Option DBeat
early_left None source = None
early_left (Some due) source = if due.source == source then None else Some due

-- the same by the requests in flight: where one of them has its next beat there, this wasn't it
abbrev pub early_after : ClientBoard → ℕ → Option DBeat
early_after client source = if is_some (next_reply client.flights source) then client.early else early_left client.early source

-- a client with a beat on channel D, which has come of the reply whose next it may be
abbrev pub client_after : DBeat → ClientBoard → ClientBoard
client_after beat client =
    record client {
      flights = flights_after client.flights beat.source;
      early = early_after client beat.source;
      told = unwrap_or (told_to client) beat.denied;
    }

-- a client as a beat of a source on channel D finds it: without a reply that ended early, which is over with the first beat of another
abbrev pub client_cut : ℕ → ClientBoard → ClientBoard
client_cut source client = record client { flights = cut_short client.flights source }

-- after a beat on channel D: it is judged by the reply that has begun, and where that is over it has come of the one that is due to its source
abbrev pub after_d : Board → ℕ → Option ClientBoard → DBeat → Board
after_d old number None beat = old
after_d old number (Some client) beat = with_client number (client_after beat (client_cut beat.source client)) old

-- ---- an error response

-- a client's requests, in flight and begun, when a burst was answered with an error
abbrev pub hit_client : Span → ClientBoard → ClientBoard
hit_client span client = record client { flights = each_flight (hit_flight span) client.flights; coming = hit span client.coming }

-- the board where each request may have failed that shares a byte with a burst, if one was answered with an error
abbrev pub hit_on : Option Span → Board → Board
hit_on None board = board
hit_on (Some span) board =
    record board {
      clients = map (hit_client span) board.clients;
      indeterminate = after_hit board.indeterminate span (footprints_of board.clients);
    }

-- after a beat on the AXI4 port
abbrev pub after_axi : Policy → Board → AxiBeat → Board
after_axi AcceptanceOrder old beat = record old { axi = port_after AcceptanceOrder old.axi beat }
after_axi RealTime old beat = hit_on (failed_span old.errors old.axi beat) (record old { axi = port_after RealTime old.axi beat })

-- the board after a beat
abbrev pub after_seen : Policy → Board → ObservedBeat → Board
after_seen policy old (A client beat) = after_a policy old client (slice_get old.clients client) beat
after_seen policy old (D client beat) = after_d old client (slice_get old.clients client) beat
after_seen policy old (OnAxi beat) = after_axi policy old beat
after_seen policy old Drained = record old { axi = drained old.axi }

-- ---- what isn't finished

-- how many accepted requests have a reply that isn't whole
abbrev pub replies_open : List ClientBoard → ℕ
replies_open clients = sum_by (λ client. replies_left client.flights) clients

-- ---- at the start

abbrev pub opening_client : Config → ℕ → ClientBoard
opening_client config client = record { limits = port_of config client; front = None; flights = no_flights; coming = no_footprint; early = None; told = false }

-- what a board begins with: a set-up; the bytes of its memory at first, as far as they are known; and which of them nobody knows
pub record Beginning : Type 0 where
  pub lists : SetupLists
  pub bytes : Bytes
  pub unknown : ℕ → Bool

-- bytes with which its memory may have begun: where these are known, they are as said
pub record MayBegin (beginning : Beginning) (start : Bytes) : Type 0 where
  pub said : (x : ℕ) → beginning.bytes x < 256
  pub small : (x : ℕ) → start x < 256
  pub known : (x : ℕ) → beginning.unknown x ≡ false → start x ≡ beginning.bytes x

-- that of a set-up: zeros, but for the pages whose bytes nobody knows
abbrev pub beginning_of : RangeLists → Beginning
beginning_of setup = record { lists = one_by_one setup; bytes = zeros; unknown = λ address. is_unknown setup.ranges (address / 4096) }

-- with zeros, which are known
abbrev pub from_zeros : SetupLists → Beginning
from_zeros setup = record { lists = setup; bytes = zeros; unknown = λ x. false }

-- nothing was observed, all bytes are zero, and none is indeterminate; errors are told as this project's bridge tells them
abbrev pub opening_board : SetupLists → Board
opening_board setup =
    record {
      clients = map (opening_client setup.config) (range_with_len 0 setup.config.clients);
      memory = record { regions = setup.regions; faults = faults_of setup; bytes = zeros };
      indeterminate = λ x. false;
      axi = none_early (axi_port_of setup.config) nothing_open;
      errors = Strict;
    }

-- the same where errors are told in a way
abbrev pub opening_with : Errors → SetupLists → Board
opening_with errors setup = record (opening_board setup) { errors = errors }

-- nothing was observed, and what nobody knows is indeterminate; errors are told in a way
abbrev pub opening_from : Errors → Beginning → Board
opening_from errors beginning =
    record (opening_board beginning.lists) {
      memory = record { regions = beginning.lists.regions; faults = faults_of beginning.lists; bytes = beginning.bytes };
      indeterminate = beginning.unknown;
      errors = errors;
    }

-- ---- lists of beats

-- the board after beats, whatever it finds of each
abbrev pub after_all : Policy → Board → List ObservedBeat → Board
after_all policy board [] = board
after_all policy board (seen ∷ rest) = after_all policy (after_seen policy board seen) rest

-- the board after beats of which none was wrong
abbrev pub IsReached : Policy → Board → List ObservedBeat → Board → Type 0
IsReached policy start [] board = board ≡ start
IsReached policy start (seen ∷ rest) board = (wrong_at policy start seen ≡ None) × IsReached policy (after_seen policy start seen) rest board
