-- What was seen of a run, request by request: beats, of which nobody may know some lanes, each with what was said of it, and resets. Requests are numbered as
-- they begin, from 1, and on over resets: a request's number is how many had begun then, itself counted. So it has ended before those begin that have a larger
-- number than had begun when it ended.
use Rattle.std.specs.Prelude.{ℕ, ◌+◌, ◌%◌, ◌==◌, Bool, true, false, ◌&&◌, not, List, [], ◌∷◌, ◌++◌, map, length, Option, Some, None, Result, Ok, Err, if◌then◌else◌, is_none, slice_get}
use Rattle.bus_words.specs.Lanes.{has_lane, lane_byte}
use Rattle.setups.specs.Setups.{SetupLists}
use Rattle.tl_checker.specs.declared.Progress.{Progress}
use Rattle.tl_checker.specs.declared.TlRule.{TlRule}
use Rattle.tl_messages.specs.Requests.{HeldMessage}
use Rattle.tl_messages.specs.declared.ABeat.{ABeat}
use Rattle.tl_messages.specs.declared.DBeat.{DBeat}
use Rattle.scoreboard.specs.Boards.{Beginning, Board, ClientBoard, answer_to, opening_from}
use Rattle.scoreboard.specs.Orders.{Entry, Order, has_ended, has_failed, is_due_in}
use Rattle.scoreboard.specs.RealTime.{begun_next, is_open}
use Rattle.scoreboard.specs.Resets.{reset_on}
use Rattle.scoreboard.specs.Unknown.{UnknownBoard, after_seen_unknown, all_over, nothing_unknown, unknown_given, with_lanes}
use Rattle.scoreboard.specs.declared.Errors.{Errors}
use Rattle.scoreboard.specs.declared.ObservedBeat.{ObservedBeat}
use Rattle.scoreboard.specs.declared.ObservedBeat.TheVariants.{A, D, Axi as OnAxi, Drained}
use Rattle.scoreboard.specs.declared.Policy.TheVariants as policy
use Rattle.scoreboard.specs.declared.Wrong.{Wrong}
use Rattle.value_orders.specs.Places.{acts_at, acts_on, is_in_word}

-- a beat that was seen, the lanes of its payload that nobody knows, and what was said of it; or a reset
pub data Happening : Type 0 where
  Seen : ObservedBeat → ℕ → Option Wrong → Happening
  Reset : Happening

-- the board after it: the rule on payloads plays no part there
abbrev pub board_next : UnknownBoard → Happening → UnknownBoard
board_next old (Seen seen lanes said) = after_seen_unknown policy.RealTime old seen lanes
board_next old Reset = record { board = reset_on old.board; lanes = all_over old.lanes }

-- ---- requests

-- what was seen of a request: its entry; when it ended, if it has, and whether a reset cut it off then; of each of its beats the lanes that it gave and nobody
-- knows; and of each byte, by its address in the memory, what it was told, if that was looked at and not found wrong
pub record Past : Type 0 where
  pub entry : Entry
  pub ended : Option ℕ
  pub cut : Bool
  pub hidden : List ℕ
  pub told : ℕ → Option ℕ

-- one that has just begun with a beat, which gave lanes that nobody knows
abbrev pub first_seen : ℕ → Entry → Past
first_seen given entry = record { entry = entry; ended = None; cut = false; hidden = given ∷ []; told = λ x. None }

-- all requests: those that had begun before the last reset, and those since, by their first beats
pub record History : Type 0 where
  pub over : List Past
  pub since : List Past

abbrev pub no_history : History
no_history = record { over = []; since = [] }

abbrev pub all_past : History → List Past
all_past history = history.over ++ history.since

-- how many have begun
abbrev pub begun_by : History → ℕ
begun_by history = length (all_past history)

abbrev pub entries_of : List Past → Order
entries_of pasts = map (λ past. past.entry) pasts

-- ---- with a beat on channel A: the lanes of it that nobody knows

abbrev pub hear : ℕ → Past → Past
hear given past = record past { hidden = with_lanes past.hidden given }

-- those of a client's message that had begun
abbrev pub heard_of : ℕ → ℕ → Past → Past
heard_of client given past = if is_open client past.entry then hear given past else past

abbrev pub with_answer : ℕ → ℕ → Option HeldMessage → Result Progress TlRule → List Past → List Past
with_answer client given front (Err broken) pasts = pasts
with_answer client given None (Ok progress) pasts = pasts
with_answer client given (Some held) (Ok progress) pasts = map (heard_of client given) pasts

abbrev pub with_heard : ℕ → Option ClientBoard → ABeat → ℕ → List Past → List Past
with_heard number None beat lanes pasts = pasts
with_heard number (Some client) beat lanes pasts =
    with_answer number (unknown_given beat lanes) client.front (answer_to policy.RealTime client beat) pasts

-- ---- with a beat on channel D: what it tells

-- whether a beat of the reply to a request tells a byte, and that is looked at: it is in the word that is next, and in a lane that is known
abbrev pub tells : SetupLists → Errors → Entry → DBeat → ℕ → ℕ → Bool
tells setup errors entry beat lanes x =
    beat.opcode == 1 && not beat.corrupt && not (has_failed errors setup entry) && acts_on setup errors entry.request x
    && is_in_word (acts_at setup errors entry.request) entry.came x && not (has_lane lanes (x % 8))

-- with what it tells
abbrev pub with_told : SetupLists → Errors → DBeat → ℕ → Past → Past
with_told setup errors beat lanes past =
    record past { told = λ x. if tells setup errors past.entry beat lanes x then Some (lane_byte beat.payload (x % 8)) else past.told x }

-- the same of the one to which the beat is due, where it wasn't found wrong
abbrev pub with_shown : SetupLists → Errors → ℕ → DBeat → ℕ → Option Wrong → List Past → List Past
with_shown setup errors client beat lanes (Some wrong) pasts = pasts
with_shown setup errors client beat lanes None pasts =
    map (λ past. if is_due_in (entries_of pasts) client beat.source past.entry then with_told setup errors beat lanes past else past) pasts

-- ---- with any beat

-- by what it tells, or gives that nobody knows
abbrev pub with_looked : SetupLists → Board → ObservedBeat → ℕ → Option Wrong → List Past → List Past
with_looked setup board (A client beat) lanes said pasts = with_heard client (slice_get board.clients client) beat lanes pasts
with_looked setup board (D client beat) lanes said pasts = with_shown setup board.errors client beat lanes said pasts
with_looked setup board (OnAxi beat) lanes said pasts = pasts
with_looked setup board Drained lanes said pasts = pasts

-- the lanes that a beat gives and nobody knows
abbrev pub hidden_in : ObservedBeat → ℕ → ℕ
hidden_in (A client beat) lanes = unknown_given beat lanes
hidden_in seen lanes = 0

-- one whose entry is this now, when so many have begun: it may have ended with that
abbrev pub with_entry : ℕ → Entry → Past → Past
with_entry count entry past = record past { entry = entry; ended = if is_none past.ended && has_ended entry then Some count else past.ended }

-- those whose entries are these now; one more may have begun
abbrev pub with_entries : ℕ → ℕ → Order → List Past → List Past
with_entries count given [] pasts = pasts
with_entries count given (entry ∷ order) [] = first_seen given entry ∷ with_entries count given order []
with_entries count given (entry ∷ order) (past ∷ pasts) = with_entry count entry past ∷ with_entries count given order pasts

-- all since the last reset, on a board on which a beat comes
abbrev pub since_next : SetupLists → Board → ℕ → ObservedBeat → ℕ → Option Wrong → List Past → List Past
since_next setup board before seen lanes said pasts =
    with_entries (before + length (begun_next board seen (entries_of pasts))) (hidden_in seen lanes) (begun_next board seen (entries_of pasts))
    (with_looked setup board seen lanes said pasts)

-- ---- with a reset

-- one that hasn't ended then, when so many have begun, is cut off: it took effect before, or never does
abbrev pub cut_off : ℕ → Past → Past
cut_off count past = if is_none past.ended then record past { ended = Some count; cut = true } else past

-- ---- a run

abbrev pub history_next : SetupLists → Board → Happening → History → History
history_next setup board (Seen seen lanes said) history =
    record history { since = since_next setup board (length history.over) seen lanes said history.since }
history_next setup board Reset history = record { over = history.over ++ map (cut_off (begun_by history)) history.since; since = [] }

abbrev pub board_from : UnknownBoard → List Happening → UnknownBoard
board_from board [] = board
board_from board (happening ∷ rest) = board_from (board_next board happening) rest

abbrev pub history_from : SetupLists → UnknownBoard → History → List Happening → History
history_from setup board history [] = history
history_from setup board history (happening ∷ rest) = history_from setup (board_next board happening) (history_next setup board.board happening history) rest

-- at the start
abbrev pub opening : Errors → Beginning → UnknownBoard
opening errors beginning = record { board = opening_from errors beginning; lanes = nothing_unknown beginning.lists.config.clients }

-- what happened since
abbrev pub board_in : Errors → Beginning → List Happening → UnknownBoard
board_in errors beginning happenings = board_from (opening errors beginning) happenings

abbrev pub history_in : Errors → Beginning → List Happening → History
history_in errors beginning happenings = history_from beginning.lists (opening errors beginning) no_history happenings
