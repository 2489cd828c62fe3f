-- What a board of real time says of beats, beside one of acceptance order, which compares each byte: no more than this one, and nothing of beats that
-- are right.
use Rattle.std.specs.Prelude.{◌≡◌, ◌⊎◌, ⊤, Bool, true, false, ◌||◌, List, [], ◌∷◌, ◌++◌, map, Option, Some, None}
use Rattle.tl_checker.specs.declared.TlRule.TheVariants.{SourceBusy}
use Rattle.setups.specs.Setups.{SetupLists}
use Rattle.scoreboard.specs.AxiPorts.{tells_no_write}
use Rattle.scoreboard.specs.Boards.{Board, ClientBoard, after_all, after_seen, from_zeros, opening_board, opening_with, wrong_at}
use Rattle.scoreboard.specs.Flights.{InFlight, each_flight, no_footprint}
use Rattle.scoreboard.specs.Right.{IsRight}
use Rattle.scoreboard.specs.declared.Errors.{Errors}
use Rattle.scoreboard.specs.declared.Errors.TheVariants.{Strict}
use Rattle.scoreboard.specs.declared.Policy.TheVariants.{AcceptanceOrder, RealTime}
use Rattle.scoreboard.specs.declared.ReplyRule.TheVariants.{Payload}
use Rattle.scoreboard.specs.declared.ObservedBeat.{ObservedBeat}
use Rattle.scoreboard.specs.declared.Wrong.{Wrong}
use Rattle.scoreboard.specs.declared.Wrong.TheVariants.{Reply, Request}

-- ---- a board but for what it knows of requests that race, their footprints, and which bytes are indeterminate, and of how errors may be told

abbrev pub flight_alone : InFlight → InFlight
flight_alone flight = record flight { footprint = no_footprint }

abbrev pub client_alone : ClientBoard → ClientBoard
client_alone client = record client { flights = each_flight flight_alone client.flights; coming = no_footprint; early = None }

abbrev pub board_alone : Board → Board
board_alone board = record board { clients = map client_alone board.clients; indeterminate = λ x. false; errors = Strict }

-- ---- one beat

-- whether a verdict is that the source is busy
abbrev pub tells_busy : Option Wrong → Bool
tells_busy (Some (Request SourceBusy)) = true
tells_busy verdict = false

-- whether a verdict is that the payload is another
abbrev pub tells_payload : Option Wrong → Bool
tells_payload (Some (Reply Payload due)) = true
tells_payload verdict = false

-- whether a verdict is one after which a board of real time may hold something else, as it may take the beat: that the source is busy, or that a W beat
-- has no write to belong to
abbrev pub tells_apart : Option Wrong → Bool
tells_apart verdict = tells_busy verdict || tells_no_write verdict

-- a board of real time tells no more of a beat than one of acceptance order: it is the same, or nothing where the other's verdict is that the source is
-- busy, that a W beat has no write to belong to, or that the payload is another
abbrev pub TellsNoMore : Option Wrong → Option Wrong → Type 0
TellsNoMore compared verdict = (verdict ≡ compared) ⊎ (((tells_apart compared ≡ true) ⊎ (tells_payload compared ≡ true)) × (verdict ≡ None))

-- ---- lists of beats

-- both boards go together along these beats: that of acceptance order finds none of a busy source, and no W beat without a write, whatever else it finds
abbrev pub AreTogether : Board → List ObservedBeat → Type 0
AreTogether board [] = ⊤
AreTogether board (seen ∷ rest) = (tells_apart (wrong_at AcceptanceOrder board seen) ≡ false) × AreTogether (after_seen AcceptanceOrder board seen) rest

-- a board of real time holds what one of acceptance order does, but for what either knows of footprints, and its verdict of a beat tells no more
pub record IsWiderThan (compared board : Board) (seen : ObservedBeat) (verdict : Option Wrong) : Type 0 where
  pub holds : board_alone board ≡ board_alone compared
  pub tells : TellsNoMore (wrong_at AcceptanceOrder compared seen) verdict

-- of any beats, right or wrong: a board of real time is so beside one of acceptance order that got the same ones, until this one finds one of a busy source
-- or a W beat without a write, and of that one too
abbrev pub IsWiderAlong : Board → ObservedBeat → Option Wrong → Type 0
IsWiderAlong board seen verdict =
    (setup : SetupLists) (before : List ObservedBeat) → board ≡ after_all RealTime (opening_board setup) before → AreTogether (opening_board setup) before
    → IsWiderThan (after_all AcceptanceOrder (opening_board setup) before) board seen verdict

-- of beats that are right: nothing is found wrong with the last of them, where all of them are right: where each reply is that of its request
-- carried out whole in its turn, in order of acceptance, and every rule is kept; however errors may be told
abbrev pub LetsRightPass : Board → ObservedBeat → Option Wrong → Type 0
LetsRightPass board seen verdict =
    (errors : Errors) (setup : SetupLists) (before : List ObservedBeat) → board ≡ after_all RealTime (opening_with errors setup) before
    → IsRight (from_zeros setup) (before ++ seen ∷ []) → verdict ≡ None
