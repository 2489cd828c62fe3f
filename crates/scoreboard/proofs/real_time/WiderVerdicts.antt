-- What a board of real time says of a beat, beside one of acceptance order that holds the same: no more, and less only of a busy source, of a W
-- beat without a write and of another payload.
use Rattle.std.proofs.Common.{◌≡◌, ℕ, Bool, true, false, ◌&&◌, ◌||◌, if◌then◌else◌, List, [], ◌∷◌, ◌++◌, take, Option, Some, None, Result, Err, ◌⊎◌, inl, inr, refl, sym, ap, subst, arith}
use Rattle.std.specs.Prelude.{slice_get}
use Rattle.std.specs.List.{AllByRecursion, find, list_any}
use Rattle.std.specs.Option.{option_map, option_or, option_to_list}
use Rattle.bus_words.proofs.PlaceChanges.{all-find}
use Rattle.std.proofs.lemmas.Option.{slice_get-map}
use Rattle.bus_words.specs.Tables.{first_broken}
use Rattle.tl_messages.specs.Requests.{HeldMessage}
use Rattle.tl_messages.specs.declared.ABeat.{ABeat}
use Rattle.tl_messages.specs.declared.DBeat.{DBeat}
use Rattle.tl_checker.specs.Ports.{judged}
use Rattle.tl_checker.specs.RequestRules.{TlPortLimits, first_beat_rules}
use Rattle.tl_checker.specs.declared.Progress.{Progress}
use Rattle.tl_checker.specs.declared.TlRule.{TlRule}
use Rattle.tl_checker.specs.declared.TlRule.TheVariants.{SourceBusy}
use Rattle.axi_checker.specs.declared.AxiBeat.{AxiBeat}
use Rattle.axi_checker.specs.declared.AxiBeat.TheVariants.{Ar as OnAr, Aw as OnAw, B as OnB, R as OnR, W as OnW}
use Rattle.axi_checker.specs.Rules.{axi_fault}
use Rattle.scoreboard.specs.AxiPorts.{PortBoard, tells_no_write, wrong_in_order, wrong_with_early}
use Rattle.scoreboard.specs.Boards.{Board, ClientBoard, a_wrong, answer_to, d_wrong, is_payload, next_to, reply_rules, told_to, unless_indeterminate, wrong_at, wrong_beat, wrong_by, wrong_reply, wrong_request}
use Rattle.scoreboard.specs.Flights.{Footprint, InFlight, begun_is_of, is_of_source, next_reply}
use Rattle.scoreboard.specs.Wider.{TellsNoMore, board_alone, client_alone, flight_alone, tells_apart, tells_busy, tells_payload}
use Rattle.scoreboard.specs.declared.Policy.TheVariants.{AcceptanceOrder, RealTime}
use Rattle.scoreboard.proofs.acceptance_order.Fixed.{in_turn_alone}
use Rattle.scoreboard.specs.declared.ReplyRule.{ReplyRule}
use Rattle.scoreboard.specs.declared.ObservedBeat.{ObservedBeat}
use Rattle.scoreboard.specs.declared.ObservedBeat.TheVariants.{A, D, Axi as OnAxi, Drained}
use Rattle.scoreboard.specs.declared.Wrong.{Wrong}
use Rattle.scoreboard.specs.declared.Wrong.TheVariants.{Reply}
use Rattle.scoreboard.proofs.held.EarlyBeats.{aw_wrong}
use Rattle.scoreboard.proofs.real_time.EachFlight.{IsOfEach}
use Rattle.scoreboard.proofs.real_time.FlightsAlone.{busy_alone, next_alone}
use Rattle.scoreboard.proofs.real_time.Verdicts.{sure_told, wrong_sure}

-- where nothing is wrong in order of acceptance, nothing is in real time
pub none_told : (compared verdict : Option Wrong) → TellsNoMore compared verdict → compared ≡ None → verdict ≡ None
none_told compared verdict is none = grind (arith, is, none)

-- ---- channel A

-- what a port answers where a source is busy, and where it isn't: the same, or the first is a refusal for that alone
abbrev AnswersFree : Result Progress TlRule → Result Progress TlRule → Type 0
AnswersFree busy free = (free ≡ busy) ⊎ ((busy ≡ Err SourceBusy) × (wrong_request free ≡ None))

-- whether the last rule of a table is broken decides only where no other is
last_rule : (rows : List (Bool × TlRule)) (last : TlRule)
    → (first_broken (rows ++ (true, last) ∷ []) ≡ first_broken (rows ++ (false, last) ∷ []))
    ⊎ ((first_broken (rows ++ (true, last) ∷ []) ≡ Some last) × (first_broken (rows ++ (false, last) ∷ []) ≡ None))
last_rule [] last = inr (refl, refl)
last_rule ((true, first) ∷ rows) last = inl refl
last_rule ((false, first) ∷ rows) last = last_rule rows last

-- whether a source is busy is asked last, and of a first beat alone
answers_free : (limits : TlPortLimits) (front : Option HeldMessage) (beat : ABeat)
    → AnswersFree (judged limits front beat true) (judged limits front beat false)
answers_free limits (Some held) beat = inl refl
answers_free limits None beat = grind (arith, last_rule (take 8 (first_beat_rules limits beat false)))

-- a source that is busy in real time is in order of acceptance
answers_to : (client : ClientBoard) (beat : ABeat) → AnswersFree (answer_to AcceptanceOrder (client_alone client) beat) (answer_to RealTime client beat)
answers_to client beat =
    rw (busy_alone AcceptanceOrder client.flights beat.source)
    (by_busy (list_any (is_of_source beat.source) client.flights.due) (begun_is_of beat.source client.flights.begun))
  where
    by_busy : (due begun : Bool) → AnswersFree (judged client.limits client.front beat (due || begun)) (judged client.limits client.front beat due)
    by_busy true begun = inl refl
    by_busy false true = answers_free client.limits client.front beat
    by_busy false false = inl refl

pub a_told : (found : Option ClientBoard) (beat : ABeat) → TellsNoMore (a_wrong AcceptanceOrder (option_map client_alone found) beat) (a_wrong RealTime found beat)
a_told None beat = inl refl
a_told (Some client) beat =
    elim (answers_to client beat) [
      | inl same ↦ inl (ap wrong_request same)
      | inr (refused, taken) ↦ inr (inl (ap (λ (answer : Result Progress TlRule). tells_apart (wrong_request answer)) refused), taken)
    ]

-- a beat that isn't refused for a busy source is answered the same
pub same_answer : (client : ClientBoard) (beat : ABeat) → tells_busy (wrong_request (answer_to AcceptanceOrder (client_alone client) beat)) ≡ false
    → answer_to RealTime client beat ≡ answer_to AcceptanceOrder (client_alone client) beat
same_answer client beat free = elim (answers_to client beat) [ inl same ↦ same | inr (refused, taken) ↦ absurd (cc (free, refused)) ]

-- ---- channel D

is_told : (rule : ReplyRule) (due : DBeat) → is_payload rule ≡ true → tells_payload (Some (Reply rule (Some due))) ≡ true
is_told rule due is = grind (arith, is)

rule_told : (otherwise : Bool) (due : DBeat) (broken : Option ReplyRule)
    → TellsNoMore (wrong_by due broken) (wrong_by due (unless_indeterminate otherwise broken))
rule_told otherwise due None = inl refl
rule_told otherwise due (Some rule) = grind arith

pub told_less : (footprint : Footprint) (dues : List DBeat) (beat : DBeat) → TellsNoMore (wrong_beat dues beat) (wrong_sure footprint dues beat)
told_less footprint [] beat = inl refl
told_less footprint (due ∷ rest) beat = rule_told _ due (first_broken (reply_rules due beat))

-- a request in flight hasn't failed
abbrev pub IsUnfailed : InFlight → Type 0
IsUnfailed flight = flight.footprint.failed ≡ false

reply_told : (before told : Option Bool) (next : Option InFlight) (beat : DBeat) → AllByRecursion IsUnfailed (option_to_list next)
    → TellsNoMore (wrong_reply AcceptanceOrder before (option_map flight_alone next) beat) (wrong_reply RealTime told next beat)
reply_told before told None beat unfailed = inl refl
reply_told before told (Some flight) beat unfailed =
    rw (in_turn_alone flight.beats beat)
    (subst (TellsNoMore (wrong_beat flight.beats beat)) (sym (sure_told flight.footprint told flight.beats beat unfailed.0)) (told_less flight.footprint flight.beats beat))

-- the one whose reply has its next beat there is one of those in flight
next_of_each : (client : ClientBoard) (source : ℕ) → IsOfEach IsUnfailed client → AllByRecursion IsUnfailed (option_to_list (next_reply client.flights source))
next_of_each client source all = by_begun client.flights.begun all.1
  where
    found : (o : Option InFlight) → find (is_of_source source) client.flights.due ≡ o → AllByRecursion IsUnfailed (option_to_list o)
    found None is = tt
    found (Some flight) is = (all-find IsUnfailed (is_of_source source) client.flights.due flight all.0 is, tt)

    by_begun : (begun : Option InFlight) → AllByRecursion IsUnfailed (option_to_list begun)
        → AllByRecursion IsUnfailed (option_to_list (option_or begun (find (is_of_source source) client.flights.due)))
    by_begun (Some flight) some = some
    by_begun None none = found (find (is_of_source source) client.flights.due) refl

-- where nothing may come early the next beat is of a reply to one in flight
next_in_flight : (client : ClientBoard) (source : ℕ) → client.early ≡ None → next_to RealTime client source ≡ next_reply client.flights source
next_in_flight client source none = grind (arith, none)

-- no request of a client has failed, and nothing may come early to it
pub record IsSure (client : ClientBoard) : Type 0 where
  pub unfailed : IsOfEach IsUnfailed client
  pub none_early : client.early ≡ None

d_told : (found : Option ClientBoard) (beat : DBeat) → ((client : ClientBoard) → found ≡ Some client → IsSure client)
    → TellsNoMore (d_wrong AcceptanceOrder (option_map client_alone found) beat) (d_wrong RealTime found beat)
d_told None beat unfailed = inl refl
d_told (Some client) beat unfailed =
    let sure = unfailed client refl in
    rw (next_alone client.flights beat.source, next_in_flight client beat.source sure.none_early)
    (reply_told (told_to (client_alone client)) (told_to client) (next_reply client.flights beat.source) beat (next_of_each client beat.source sure.unfailed))

-- ---- the AXI4 port

-- a W beat without a write is early, if there is room
w_told : (verdict : Option Wrong) → TellsNoMore verdict (if tells_no_write verdict && true then None else verdict)
w_told verdict = grind arith

pub axi_told : (port : PortBoard) (beat : AxiBeat) → port.early ≡ [] → TellsNoMore (wrong_in_order port beat) (wrong_with_early port beat)
axi_told port (OnAw beat) none =
    grind (arith, none, aw_wrong port.limits port.open_bursts beat (axi_fault port.limits port.open_bursts (OnAw beat)))
axi_told port (OnW beat) none = rw none (w_told (wrong_in_order port (OnW beat)))
axi_told port (OnB beat) none = inl refl
axi_told port (OnAr beat) none = inl refl
axi_told port (OnR beat) none = inl refl

-- ---- any beat

pub tells_no_more : (board : Board) (seen : ObservedBeat) → ((number : ℕ) (client : ClientBoard) → slice_get board.clients number ≡ Some client → IsSure client)
    → board.axi.early ≡ []
    → TellsNoMore (wrong_at AcceptanceOrder (board_alone board) seen) (wrong_at RealTime board seen)
tells_no_more board (A client beat) unfailed none = rw (slice_get-map client_alone board.clients client) (a_told (slice_get board.clients client) beat)
tells_no_more board (D client beat) unfailed none =
    rw (slice_get-map client_alone board.clients client) (d_told (slice_get board.clients client) beat (λ found there. unfailed client found there))
tells_no_more board (OnAxi beat) unfailed none = axi_told board.axi beat none
tells_no_more board Drained unfailed none = inl refl
