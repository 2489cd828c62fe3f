-- Which events of a byte's run one happening is: what becomes of each request, as far as that byte is concerned. A request that gives the byte nothing reads it,
-- or just as well doesn't.
use Rattle.std.specs.Prelude.{ℕ, ◌≡◌, ◌+◌, ◌%◌, ◌==◌, Bool, true, false, ◌&&◌, not, List, [], ◌∷◌, ◌++◌, length, Option, Some, None, Result, Ok, Err, if◌then◌else◌, slice_get}
use Rattle.std.specs.List.{list_any}
use Rattle.bus_words.specs.Lanes.{lane_byte}
use Rattle.byte_orders.specs.Runs.{Event, Run, Reads, Writes, Tells, Gives, LeavesOut, TakesEffect, Fails, Ends, Resets}
use Rattle.serial_memory.specs.SerialMemory.{Memory}
use Rattle.setups.specs.Setups.{SetupLists}
use Rattle.tl_checker.specs.Ports.{joined}
use Rattle.tl_checker.specs.declared.Progress.{Progress}
use Rattle.tl_checker.specs.declared.Progress.TheVariants.{More, Whole}
use Rattle.tl_checker.specs.declared.TlRule.{TlRule}
use Rattle.tl_messages.specs.Requests.{HeldMessage, WholeRequest, request_of}
use Rattle.tl_messages.specs.declared.ABeat.{ABeat}
use Rattle.tl_messages.specs.declared.DBeat.{DBeat}
use Rattle.tl_messages.specs.declared.Operation.{Operation}
use Rattle.tl_messages.specs.declared.Operation.TheVariants.{Atomic}
use Rattle.scoreboard.specs.Boards.{Beginning, Board, ClientBoard, answer_to}
use Rattle.scoreboard.specs.FailedBursts.{Span, failed_span, shares}
use Rattle.scoreboard.specs.Orders.{Entry, begun_to, cut_short, ended_early, has_ended, has_failed, is_due_in, is_over, with_beat}
use Rattle.scoreboard.specs.RealTime.{acting_footprint, completed, entry_of, is_open}
use Rattle.scoreboard.specs.Unknown.{UnknownBoard, unknown_given}
use Rattle.scoreboard.specs.declared.Errors.{Errors}
use Rattle.scoreboard.specs.declared.ObservedBeat.{ObservedBeat}
use Rattle.scoreboard.specs.declared.ObservedBeat.TheVariants.{A, D, Axi as OnAxi, Drained}
use Rattle.scoreboard.specs.declared.Policy.TheVariants as policy
use Rattle.scoreboard.specs.declared.Wrong.{Wrong}
use Rattle.value_orders.specs.Bytes.{accesses_in, gives_at, is_sure, may_write_at}
use Rattle.value_orders.specs.Histories.{Happening, History, Past, Reset, Seen, begun_by, board_next, entries_of, first_seen, hear, history_next, no_history, opening, tells, with_told}

-- ---- what becomes of one request, by its number

-- it begins, by whether it may write the byte
abbrev pub begins_as : ℕ → Bool → List Event
begins_as number true = Writes number ∷ []
begins_as number false = Reads number ∷ []

-- what it gives is known
abbrev pub known_as : ℕ → Option (Option ℕ) → List Event
known_as number None = LeavesOut number ∷ []
known_as number (Some value) = Gives number value ∷ []

-- it takes effect, if it does
abbrev pub effects_as : ℕ → Bool → List Event
effects_as number true = TakesEffect number ∷ []
effects_as number false = []

-- it is whole
abbrev pub whole_as : SetupLists → Errors → ℕ → ℕ → Past → List Event
whole_as setup errors x number past = known_as number (gives_at setup errors past x) ++ effects_as number (is_sure setup errors past x)

-- it has failed, if it has
abbrev pub fails_as : ℕ → Bool → List Event
fails_as number true = Fails number ∷ []
fails_as number false = []

-- it ends, if it does
abbrev pub ends_as : ℕ → Bool → List Event
ends_as number true = Ends number ∷ []
ends_as number false = []

-- whether it has ended now, and hadn't before
abbrev pub ends_with : Entry → Entry → Bool
ends_with before now = not (has_ended before) && has_ended now

-- it is told a byte, if it is
abbrev pub told_as : ℕ → Bool → ℕ → List Event
told_as number true byte = Tells number byte ∷ []
told_as number false byte = []

-- ---- what becomes of many, one after another

-- of requests, the first of which has a number
abbrev pub each_from : (ℕ → Past → List Event) → ℕ → List Past → List Event
each_from events first [] = []
each_from events first (past ∷ pasts) = events first past ++ each_from events (first + 1) pasts

-- ---- with a beat on channel A

-- a message that had begun is whole: its reply may have come before
abbrev pub completed_as : SetupLists → Errors → ℕ → ℕ → ℕ → WholeRequest → ℕ → Past → List Event
completed_as setup errors x client given q number past =
    if is_open client past.entry
    then whole_as setup errors x number (record (hear given past) { entry = completed errors client q past.entry })
    ++ ends_as number (ends_with past.entry (completed errors client q past.entry))
    else []

-- a request has begun with a beat, by whether it is whole with that
abbrev pub begun_as : SetupLists → Errors → ℕ → ℕ → Past → Bool → List Event
begun_as setup errors x number past false = begins_as number (may_write_at setup errors past x)
begun_as setup errors x number past true = begins_as number (may_write_at setup errors past x) ++ whole_as setup errors x number past

-- with a beat that a port takes, by what had begun there; the next request to begin would have a number, and those since the last reset begin at another
abbrev pub progress_events : SetupLists → Errors → ℕ → ℕ → ℕ → Option HeldMessage → WholeRequest → Progress → ℕ → ℕ → List Past → List Event
progress_events setup errors x client given None q More next first pasts = begun_as setup errors x next (first_seen given (entry_of errors client q false)) false
progress_events setup errors x client given None q Whole next first pasts = begun_as setup errors x next (first_seen given (entry_of errors client q true)) true
progress_events setup errors x client given (Some held) q More next first pasts = []
progress_events setup errors x client given (Some held) q Whole next first pasts = each_from (completed_as setup errors x client given q) first pasts

abbrev pub answer_events : SetupLists → Errors → ℕ → ℕ → ℕ → Option HeldMessage → HeldMessage → Result Progress TlRule → ℕ → ℕ → List Past → List Event
answer_events setup errors x client given front message (Err broken) next first pasts = []
answer_events setup errors x client given front message (Ok progress) next first pasts =
    progress_events setup errors x client given front (request_of message) progress next first pasts

abbrev pub request_events : SetupLists → Errors → ℕ → ℕ → Option ClientBoard → ABeat → ℕ → ℕ → ℕ → List Past → List Event
request_events setup errors x number None beat lanes next first pasts = []
request_events setup errors x number (Some client) beat lanes next first pasts =
    answer_events setup errors x number (unknown_given beat lanes) client.front (joined client.limits client.front beat)
    (answer_to policy.RealTime client beat) next first pasts

-- ---- with a beat on channel D

abbrev pub is_atomic : Operation → Bool
is_atomic (Atomic op) = true
is_atomic operation = false

-- whether a beat of the reply to a request shows bytes that this found
abbrev pub shows : SetupLists → Errors → DBeat → Entry → Bool
shows setup errors beat entry = beat.opcode == 1 && not beat.corrupt && not (has_failed errors setup entry)

-- what an atomic makes is known by what its reply shows
abbrev pub made_as : SetupLists → Errors → ℕ → DBeat → ℕ → ℕ → Past → List Event
made_as setup errors x beat lanes number past =
    if is_atomic past.entry.request.operation && shows setup errors beat past.entry
    then known_as number (gives_at setup errors (with_told setup errors beat lanes past) x)
    else []

-- a beat that wasn't found wrong tells of the request to which it is due, by a test of that
abbrev pub shown_as : SetupLists → Errors → ℕ → (Entry → Bool) → DBeat → ℕ → ℕ → Past → List Event
shown_as setup errors x due beat lanes number past =
    if due past.entry
    then told_as number (tells setup errors past.entry beat lanes x) (lane_byte beat.payload (x % 8)) ++ made_as setup errors x beat lanes number past
    else []

abbrev pub shown_events : SetupLists → Errors → ℕ → ℕ → DBeat → ℕ → Option Wrong → ℕ → List Past → List Event
shown_events setup errors x client beat lanes (Some wrong) first pasts = []
shown_events setup errors x client beat lanes None first pasts =
    each_from (shown_as setup errors x (is_due_in (entries_of pasts) client beat.source) beat lanes) first pasts

-- a reply that is over with the first beat of another ends
abbrev pub cut_as : Bool → ℕ → ℕ → Past → List Event
cut_as over client number past = ends_as number (ends_with past.entry (ended_early over client past.entry))

-- and so does one of which the last beat has come, by whether one has begun then
abbrev pub counted_as : Bool → Bool → ℕ → ℕ → ℕ → Past → List Event
counted_as over begun client source number past =
    ends_as number (ends_with (ended_early over client past.entry) (with_beat begun client source (ended_early over client past.entry)))

abbrev pub reply_events : SetupLists → Errors → ℕ → ℕ → DBeat → ℕ → Option Wrong → ℕ → List Past → List Event
reply_events setup errors x client beat lanes said first pasts =
    shown_events setup errors x client beat lanes said first pasts
    ++ (each_from (cut_as (is_over (entries_of pasts) client beat.source) client) first pasts
    ++ each_from (counted_as (is_over (entries_of pasts) client beat.source)
    (list_any (begun_to client) (cut_short (entries_of pasts) client beat.source)) client beat.source) first pasts)

-- ---- with an error response on the AXI4 port, if a burst was answered so

-- whether it strikes a request
abbrev pub is_struck : Memory → Span → Entry → Bool
is_struck memory span entry = not (has_ended entry) && shares span (acting_footprint memory entry.request)

abbrev pub failed_events : Memory → Option Span → ℕ → List Past → List Event
failed_events memory None first pasts = []
failed_events memory (Some span) first pasts = each_from (λ number past. fails_as number (is_struck memory span past.entry)) first pasts

-- ---- with anything that happens, on a board

abbrev pub seen_events : SetupLists → Board → ObservedBeat → ℕ → Option Wrong → ℕ → ℕ → List Past → ℕ → List Event
seen_events setup board (A client beat) lanes said next first pasts x =
    request_events setup board.errors x client (slice_get board.clients client) beat lanes next first pasts
seen_events setup board (D client beat) lanes said next first pasts x = reply_events setup board.errors x client beat lanes said first pasts
seen_events setup board (OnAxi beat) lanes said next first pasts x = failed_events board.memory (failed_span board.errors board.axi beat) first pasts
seen_events setup board Drained lanes said next first pasts x = []

-- to a byte of the memory
abbrev pub events_of : SetupLists → Board → Happening → History → ℕ → List Event
events_of setup board (Seen seen lanes said) history x =
    seen_events setup board seen lanes said (begun_by history + 1) (length history.over + 1) history.since x
events_of setup board Reset history x = Resets ∷ []

-- to that byte, with all that happens, one after another
abbrev pub events_from : SetupLists → UnknownBoard → History → List Happening → ℕ → List Event
events_from setup board history [] x = []
events_from setup board history (happening ∷ rest) x =
    events_of setup board.board happening history x
    ++ events_from setup (board_next board happening) (history_next setup board.board happening history) rest x

-- since the start
abbrev pub events_in : Errors → Beginning → List Happening → ℕ → List Event
events_in errors beginning happenings x = events_from beginning.lists (opening errors beginning) no_history happenings x

-- a run of a byte goes along with what happened: as many have begun, and its accesses are what each did to that byte
pub record IsRunAt (setup : SetupLists) (errors : Errors) (history : History) (x : ℕ) (run : Run) : Type 0 where
  pub now : run.now ≡ begun_by history
  pub accesses : run.accesses ≡ accesses_in setup errors history x
