-- What is promised of a byte that a beat tells and that is blamed: the beat is wrong in every order of the requests of the whole run, over resets, that keeps
-- real time and in which each atomic finds what it was told. And of beats that are right in order of acceptance none is blamed so.
use Rattle.std.specs.Prelude.{ℕ, ◌≡◌, ◌<◌, ◌≤◌, ◌%◌, Bool, true, false, List, [], ◌∷◌, ◌++◌, map, length, Option, Some, None, if◌then◌else◌, nat_le}
use Rattle.bus_words.specs.Lanes.{has_lane, lane_byte}
use Rattle.byte_orders.specs.Holdings.{Holding}
use Rattle.byte_orders.specs.Runs.{AllMayCome, Event, IsBlamedInRuns, first_run, run_after}
use Rattle.meaning.specs.Meaning.{Bytes}
use Rattle.tl_messages.specs.Requests.{WholeRequest}
use Rattle.tl_messages.specs.declared.DBeat.{DBeat}
use Rattle.setups.specs.Setups.{SetupLists}
use Rattle.scoreboard.specs.Boards.{Beginning, MayBegin, from_zeros}
use Rattle.scoreboard.specs.Orders.{Entry, IsWrongAs, IsWrongIn, Order, is_due_in, reply_beats}
use Rattle.scoreboard.specs.RealTime.{asked_on}
use Rattle.scoreboard.specs.Right.{IsRight}
use Rattle.scoreboard.specs.Unknown.{unknown_wrong}
use Rattle.scoreboard.specs.declared.Errors.{Errors}
use Rattle.scoreboard.specs.declared.ObservedBeat.{ObservedBeat}
use Rattle.scoreboard.specs.declared.ObservedBeat.TheVariants.{D}
use Rattle.scoreboard.specs.declared.Policy.TheVariants.{RealTime}
use Rattle.scoreboard.specs.declared.ReplyRule.TheVariants.{Payload, Unknown}
use Rattle.scoreboard.specs.declared.Wrong.{Wrong}
use Rattle.scoreboard.specs.declared.Wrong.TheVariants.{Reply}
use Rattle.value_orders.specs.Bytes.{NoneTells, accesses_in, byte_at_start}
use Rattle.value_orders.specs.Histories.{Happening, Seen, History, begun_by, board_in, entries_of, history_in, tells}
use Rattle.value_orders.specs.RunOrders.{AtomicsFind, IsRunOrder, MayBeAll, past_of}

-- ---- the requests of a run as an order has them

-- one that had begun before the last reset is over: nothing of its reply is due any more
abbrev pub over_now : Entry → Entry
over_now entry = record entry { came = reply_beats entry.request }

abbrev pub over_if : History → ℕ → Entry → Entry
over_if history number entry = if nat_le number (length history.over) then over_now entry else entry

-- a request by its number, as it may have been
abbrev pub standing : History → (ℕ → WholeRequest) → ℕ → Entry
standing history requests number = over_if history number (record (past_of history number).entry { request = requests number })

-- those that some numbers stand for
abbrev pub standing_in : History → (ℕ → WholeRequest) → List ℕ → Order
standing_in history requests numbers = map (standing history requests) numbers

-- ---- a beat

-- it is due to a request, by the number of this
pub record IsDueTo (history : History) (client : ℕ) (beat : DBeat) (number : ℕ) : Type 0 where
  pub since : length history.over < number
  pub begun : number ≤ begun_by history
  pub due : is_due_in (entries_of history.since) client beat.source (past_of history number).entry ≡ true

-- what a beat may be of which nobody knows some lanes of the payload
pub record IsAsKnown (lanes : ℕ) (beat shown : DBeat) : Type 0 where
  pub rest : shown ≡ record beat { payload = shown.payload }
  pub known : (lane : ℕ) → lane < 8 → has_lane lanes lane ≡ false → lane_byte shown.payload lane ≡ lane_byte beat.payload lane

-- ---- what is blamed

-- a list, which is held of a byte of the memory, blames that a request is told a value of it, by the number of this: there is a run by which the list is held,
-- and its accesses are those that the history has of the byte
pub record IsBlamedByte (errors : Errors) (beginning : Beginning) (happenings : List Happening) (x number byte : ℕ) : Type 0 where
  pub held : List Holding
  pub events : List Event
  pub may_come : AllMayCome (first_run (byte_at_start beginning x)) events
  pub is_held : held ≡ (run_after (first_run (byte_at_start beginning x)) events).held
  pub accesses : (run_after (first_run (byte_at_start beginning x)) events).accesses ≡ accesses_in beginning.lists errors (history_in errors beginning happenings) x
  pub blamed : IsBlamedInRuns held number byte

-- a beat on a client's channel D tells such a byte, in a lane that is known, to the request that it is due to
pub record TellsBlamed (errors : Errors) (beginning : Beginning) (happenings : List Happening) (client : ℕ) (beat : DBeat) (lanes : ℕ) : Type 0 where
  pub number : ℕ
  pub is_due : IsDueTo (history_in errors beginning happenings) client beat number
  pub x : ℕ
  pub tells_it : tells beginning.lists errors (past_of (history_in errors beginning happenings) number).entry beat lanes x ≡ true
  pub blames_it : IsBlamedByte errors beginning happenings x number (lane_byte beat.payload (x % 8))

-- ---- the promise

-- the requests may have been these, the memory may have begun with these bytes, and the numbers are an order in which the requests may have taken effect,
-- where each atomic finds what it was told
pub record MayHaveBeen (errors : Errors) (beginning : Beginning) (happenings : List Happening) (requests : ℕ → WholeRequest) (numbers : List ℕ) (start : Bytes) : Type 0 where
  pub order : IsRunOrder (history_in errors beginning happenings) numbers
  pub requests_may : MayBeAll (history_in errors beginning happenings) requests
  pub begins : MayBegin beginning start
  pub find : AtomicsFind beginning.lists (history_in errors beginning happenings) requests start numbers

-- whether a verdict of a board leaves open what the payload tells: nothing is wrong with a beat, or its payload alone, or nobody knows a lane of this that is
-- looked at
abbrev pub leaves_payload : Option Wrong → Bool
leaves_payload None = true
leaves_payload (Some (Reply Payload due)) = true
leaves_payload (Some (Reply Unknown due)) = true
leaves_payload verdict = false

-- a beat that tells a byte that is blamed is wrong, whatever may have been, and whatever the lanes of it are that nobody knows; and where the board of requests
-- leaves that open, by the rule on payloads
abbrev pub BlamesRightly : Errors → Beginning → List Happening → ℕ → DBeat → ℕ → Type 0
BlamesRightly errors beginning happenings client beat lanes =
    (requests : ℕ → WholeRequest) (numbers : List ℕ) (start : Bytes) (shown : DBeat) (due : Option DBeat)
    → MayHaveBeen errors beginning happenings requests numbers start → IsAsKnown lanes beat shown
    → IsWrongIn beginning.lists start (standing_in (history_in errors beginning happenings) requests numbers)
    (asked_on (board_in errors beginning happenings).board client shown)
    × (leaves_payload (unknown_wrong RealTime (board_in errors beginning happenings).board (D client beat) lanes) ≡ true
    → IsWrongAs beginning.lists start (standing_in (history_in errors beginning happenings) requests numbers)
    (asked_on (board_in errors beginning happenings).board client shown) (Reply Payload due))

-- ---- what is right in order of acceptance

-- beats of which all is known, and of which none was found wrong
abbrev pub all_seen : List ObservedBeat → List Happening
all_seen beats = map (λ seen. Seen seen 0 None) beats

-- of beats that are right in order of acceptance, however errors may be told, no byte that the next right beat on a client's channel D tells is one that no order
-- of the accesses of this byte tells the request that it is due to
abbrev pub LetsTell : Errors → SetupLists → List ObservedBeat → ℕ → DBeat → Type 0
LetsTell errors setup before client beat =
    (number x : ℕ) → IsRight (from_zeros setup) (before ++ D client beat ∷ [])
    → IsDueTo (history_in errors (from_zeros setup) (all_seen before)) client beat number
    → tells setup errors (past_of (history_in errors (from_zeros setup) (all_seen before)) number).entry beat 0 x ≡ true
    → NoneTells (from_zeros setup) errors (history_in errors (from_zeros setup) (all_seen before)) x number (lane_byte beat.payload (x % 8)) → ⊥

-- so none of them tells a byte that is blamed
abbrev pub NeverBlames : Errors → SetupLists → List ObservedBeat → ℕ → DBeat → Type 0
NeverBlames errors setup before client beat =
    IsRight (from_zeros setup) (before ++ D client beat ∷ []) → TellsBlamed errors (from_zeros setup) (all_seen before) client beat 0 → ⊥
