-- What is due and what is left where requests take effect in an order, whichever it is; RealTime says which orders there are.
use Rattle.std.specs.Prelude.{ℕ, ◌≡◌, ◌+◌, ◌==◌, Bool, true, false, ◌&&◌, ◌||◌, not, List, [], ◌∷◌, map, drop, Option, Some, None, is_none, if◌then◌else◌, nat_le, nat_lt}
use Rattle.std.specs.List.{list_any}
use Rattle.tl_messages.specs.Operations.{beats_of, reply_has_data}
use Rattle.tl_messages.specs.Requests.{WholeRequest}
use Rattle.tl_messages.specs.declared.DBeat.{DBeat}
use Rattle.burst_plan.specs.PageMap.{address_of}
use Rattle.responses.specs.Shown.{shown}
use Rattle.meaning.specs.Meaning.{Bytes, Effect, bytes_after_all, meaning, zeros}
use Rattle.setups.specs.Setups.{SetupLists, faults_of}
use Rattle.scoreboard.specs.Boards.{Beginning, Board, after_all, due_beat, opening_from, tells_error, wrong_beat}
use Rattle.serial_memory.specs.SerialMemory.{on_good_page}
use Rattle.scoreboard.specs.declared.Errors.{Errors}
use Rattle.scoreboard.specs.declared.Errors.TheVariants.{Any, Strict}
use Rattle.scoreboard.specs.declared.Policy.TheVariants.{RealTime}
use Rattle.scoreboard.specs.declared.ObservedBeat.{ObservedBeat}
use Rattle.scoreboard.specs.declared.Wrong.{Wrong}
use Rattle.scoreboard.specs.declared.Wrong.TheVariants.{NoClient, Request, Reply, Axi, Place, UnknownAxi, UnknownRequest}

-- ---- requests that have begun

-- a request of a client, of which at least one beat came, with its number in the order of first beats; whether it is whole; whether it was spoiled, where
-- that may be told in any way: a beat of it was corrupt, or an error response came to a burst that shares a byte with it; whether its reply may come
-- though it isn't whole, and whether it came so; and how many beats of its reply came since it is whole, all if it came before, or ended early
pub record Entry : Type 0 where
  pub number : ℕ
  pub client : ℕ
  pub request : WholeRequest
  pub whole : Bool
  pub spoiled : Bool
  pub early : Bool
  pub replied : Bool
  pub came : ℕ

-- all that have begun, in an order in which they may take effect
abbrev pub Order : Type 0
Order = List Entry

-- how many beats the reply to a request has
abbrev pub reply_beats : WholeRequest → ℕ
reply_beats q = beats_of q.size (reply_has_data q.operation)

-- whether it is whole, and the whole reply came, or ended early
abbrev pub has_ended : Entry → Bool
has_ended entry = nat_le (reply_beats entry.request) entry.came

-- whether some of its beats came, and not all
abbrev pub has_begun : Entry → Bool
has_begun entry = nat_lt 0 entry.came && not (has_ended entry)

-- ---- the replies, as their beats come

-- whether a client's reply has begun
abbrev pub begun_to : ℕ → Entry → Bool
begun_to client entry = entry.client == client && has_begun entry

-- whether a client's next beat of a source is due to a request: to that whose reply has begun, if one has, else to one of that source of whose reply no beat
-- came, which is whole or may be replied to before
abbrev pub is_due : Bool → ℕ → ℕ → Entry → Bool
is_due begun client source entry =
    entry.client == client && (if begun then has_begun entry else (entry.request.source == source && entry.came == 0 && (entry.whole || entry.early)))

-- the same, where an order says whether one has begun
abbrev pub is_due_in : Order → ℕ → ℕ → Entry → Bool
is_due_in order client source = is_due (list_any (begun_to client) order) client source

-- one more beat came of its reply, which is the only one where the request isn't whole
abbrev pub counted : Bool → Entry → Entry
counted true entry = record entry { came = entry.came + 1 }
counted false entry = record entry { early = false; replied = true }

-- with a beat on channel D: one more beat came of the reply that it is due to, if it is of the source of that
abbrev pub with_beat : Bool → ℕ → ℕ → Entry → Entry
with_beat begun client source entry =
    if is_due begun client source entry && entry.request.source == source then counted entry.whole entry else entry

-- an order in which a beat of a client and source on channel D is counted, where no reply is over with it
abbrev pub with_counted : Order → ℕ → ℕ → Order
with_counted order client source = map (with_beat (list_any (begun_to client) order) client source) order

-- ---- a reply that ended early

-- whether a client's reply has begun, and is of another source
abbrev pub begun_to_other : ℕ → ℕ → Entry → Bool
begun_to_other client source entry = begun_to client entry && not (entry.request.source == source)

-- whether a request is whole, and its client waits for the first beat of its reply, which is of a source
abbrev pub awaits : ℕ → ℕ → Entry → Bool
awaits client source entry = entry.client == client && entry.request.source == source && entry.came == 0 && entry.whole

-- whether a client's reply that has begun is over where a beat of a source comes: it is of another, and a reply is due to this one of which no beat came
abbrev pub is_over : Order → ℕ → ℕ → Bool
is_over order client source = list_any (begun_to_other client source) order && list_any (awaits client source) order

-- where it is over all of it counts as come
abbrev pub ended_early : Bool → ℕ → Entry → Entry
ended_early over client entry = if over && begun_to client entry then record entry { came = reply_beats entry.request } else entry

-- an order as a beat of a client and source on channel D finds it: a reply that is over has ended
abbrev pub cut_short : Order → ℕ → ℕ → Order
cut_short order client source = map (ended_early (is_over order client source) client) order

-- an order with a beat of a client and source on channel D: a reply that is over has ended, and the beat is counted; the requests stand as they stood
abbrev pub after_beat : Order → ℕ → ℕ → Order
after_beat order client source = with_counted (cut_short order client source) client source

-- ---- what an order tells

-- what a request means on some bytes
abbrev pub meaning_on : SetupLists → WholeRequest → Bytes → Effect
meaning_on setup q m = meaning (faults_of setup) setup.regions q m

-- whether the access of a request fails: it would act on no good page, or its reply would tell an error, were no beat of it corrupt. It would tell it on any
-- bytes, if it does on zeros
abbrev pub access_fails : SetupLists → WholeRequest → Bool
access_fails setup q =
    is_none (on_good_page (faults_of setup) (address_of setup.regions (record q { corrupt = false })))
    || tells_error (shown (record q { corrupt = false }) (meaning_on setup (record q { corrupt = false }) zeros).reply)

-- whether a request has failed, where that may be told in any way
abbrev pub has_failed : Errors → SetupLists → Entry → Bool
has_failed Strict setup entry = false
has_failed Any setup entry = entry.spoiled || access_fails setup entry.request

-- what an order is asked for, on a client's channel D: how errors may be told, whether the reply that has begun there was denied in its first beat, if one
-- has begun, and the beat that came
pub record Asked : Type 0 where
  pub errors : Errors
  pub told : Option Bool
  pub client : ℕ
  pub beat : DBeat

-- a request as far as it is known: what beats that are still to come make of it its reply doesn't tell
abbrev pub known_request : Bool → WholeRequest → WholeRequest
known_request true q = q
known_request false q = record q { corrupt = false }

-- the beats that are left of the reply to a request that is carried out on some bytes, as it may show them to the beat that came
abbrev pub shown_to : SetupLists → Asked → Entry → Bytes → List DBeat
shown_to setup asked entry m =
    map (λ due. due_beat (has_failed asked.errors setup entry) asked.told due asked.beat)
    (drop entry.came (shown entry.request (meaning_on setup (known_request entry.whole entry.request) m).reply))

-- those of the reply to the first request that passes a test, where each is carried out on the bytes that those before it leave
abbrev pub left_of : SetupLists → Asked → (Entry → Bool) → Bytes → Order → List DBeat
left_of setup asked test m [] = []
left_of setup asked test m (entry ∷ order) =
    if test entry then shown_to setup asked entry m else left_of setup asked test (meaning_on setup entry.request m).after order

-- the beats that are due on a client's channel D, for the source of the beat that came, where the requests take effect in an order, on these bytes
abbrev pub due_beats : SetupLists → Bytes → Order → Asked → List DBeat
due_beats setup start order asked = left_of setup asked (is_due_in order asked.client asked.beat.source) start order

-- a beat on channel D is wrong in an order: nothing is due there, or a beat that isn't this one
abbrev pub IsWrongIn : SetupLists → Bytes → Order → Asked → Type 0
IsWrongIn setup start order asked = wrong_beat (due_beats setup start order asked) asked.beat ≡ None → ⊥

-- a beat on channel D is wrong in an order as it is blamed: by the same rule, whatever beat is due there; and nothing is due where there is no such
-- client
abbrev pub IsWrongAs : SetupLists → Bytes → Order → Asked → Wrong → Type 0
IsWrongAs setup start order asked NoClient = due_beats setup start order asked ≡ []
IsWrongAs setup start order asked (Request broken) = ⊥
IsWrongAs setup start order asked (Reply broken due) =
    (other : Option DBeat) × (wrong_beat (due_beats setup start order asked) asked.beat ≡ Some (Reply broken other))
IsWrongAs setup start order asked (Axi broken) = ⊥
IsWrongAs setup start order asked Place = ⊥
IsWrongAs setup start order asked UnknownRequest = ⊥
IsWrongAs setup start order asked UnknownAxi = ⊥

-- the byte at an address, where all requests of an order took effect
abbrev pub byte_left : SetupLists → Bytes → Order → ℕ → ℕ
byte_left setup start order x = bytes_after_all (faults_of setup) setup.regions (map (λ entry. entry.request) order) start x

-- ---- whatever was seen

-- the board after all beats since the start
abbrev pub board_after : Errors → Beginning → List ObservedBeat → Board
board_after errors beginning before = after_all RealTime (opening_from errors beginning) before
