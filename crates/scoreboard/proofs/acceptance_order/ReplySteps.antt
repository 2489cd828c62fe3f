-- A beat on channel D, or on the AXI4 port, that isn't wrong: what is held then is what was observed then, and it is right.
use Rattle.std.proofs.Common.{◌≡◌, ℕ, List, [], ◌∷◌, ◌++◌, Some, None, ◌⊎◌, inl, inr, refl, sym, ◌∙◌, ap, subst, arith}
use Rattle.std.specs.Prelude.{◌≢◌, slice_get, unwrap_or}
use Rattle.tl_messages.specs.declared.ABeat.{ABeat}
use Rattle.tl_messages.specs.declared.DBeat.{DBeat}
use Rattle.axi_checker.specs.OpenBursts.{nothing_open}
use Rattle.axi_checker.specs.declared.AxiBeat.{AxiBeat}
use Rattle.axi_checker.specs.Rules.{axi_fault, first_axi_fault, open_after_all}
use Rattle.config.specs.Configs.{axi_port_of}
use Rattle.scoreboard.specs.AxiPorts.{PortBoard, after_in_order, drained, wrong_axi, wrong_in_order}
use Rattle.scoreboard.specs.Boards.{Beginning, Board, ClientBoard, client_after, client_cut, early_after, told_to, with_client, wrong_reply}
use Rattle.scoreboard.specs.Flights.{Flights, InFlight, flights_after, next_reply}
use Rattle.scoreboard.specs.Observed.{Observed, requests_in, with_axi_beat, with_reply_beat}
use Rattle.scoreboard.specs.declared.Policy.TheVariants.{AcceptanceOrder}
use Rattle.scoreboard.specs.Right.{IsFree, IsPartly, IsRightNow, IsTold, left_of, replies_to}
use Rattle.scoreboard.proofs.acceptance_order.BoardOf.{IsBoardOf, IsClientOf}
use Rattle.scoreboard.proofs.acceptance_order.Lasts.{IsOfLast, was_in_flight}
use Rattle.scoreboard.proofs.acceptance_order.Owed.{Comes, IsOwed, as_untold, dues_after, eqb_same, flying, flying_of, left_before, left_comes, owed_after, owed_beside, right_comes, same_or_not, uncut}
use Rattle.scoreboard.proofs.acceptance_order.RequestSteps.{board_with, client_kept}
use Rattle.scoreboard.proofs.acceptance_order.SeenLists.{axi_fault-append, open_after_all-append}
use Rattle.scoreboard.proofs.acceptance_order.Told.{left-beat}

-- ---- channel D

-- what a client was told with a beat more: of its source that too
pub told_own : (observed : Observed) (number : ℕ) (beat : DBeat) → (with_reply_beat number beat observed).told number beat.source ≡ observed.told number beat.source ++ beat ∷ []
told_own observed number beat = rw (eqb_same number, eqb_same beat.source) refl

-- of any other what it was told before
pub told_other : (observed : Observed) (number : ℕ) (beat : DBeat) (client source : ℕ) → (client ≢ number) ⊎ (source ≢ beat.source) → (with_reply_beat number beat observed).told client source ≡ observed.told client source
told_other observed number beat client source differs = grind (arith, differs)

record ComesTo (beginning : Beginning) (observed : Observed) (number : ℕ) (client : ClientBoard) (beat : DBeat) : Type 0 where
  of : IsClientOf beginning observed number client
  comes : Comes client.flights beat

owed_told : (beginning : Beginning) (observed : Observed) (number : ℕ) (client : ClientBoard) (beat : DBeat) → ComesTo beginning observed number client beat → (source : ℕ)
    → IsOwed (replies_to beginning observed number source) ((with_reply_beat number beat observed).told number source) (flights_after client.flights beat.source) source
owed_told beginning observed number client beat to source = elim (same_or_not source beat.source) [
  | inl same ↦ rw (same, told_own observed number beat) (owed_after client.flights beat to.of.dues to.comes (to.of.owed beat.source))
  | inr differs ↦ rw (told_other observed number beat number source (inr differs)) (owed_beside client.flights beat source to.comes differs (to.of.owed source))
]

-- what is in flight then was before
lasts_told : (beginning : Beginning) (observed : Observed) (number : ℕ) (client : ClientBoard) (beat : DBeat) → ComesTo beginning observed number client beat → (source : ℕ) (flight : InFlight)
    → flying_of (flights_after client.flights beat.source) source ≡ Some flight → IsOfLast beginning.lists number source (requests_in observed) flight.footprint
lasts_told beginning observed number client beat to source flight is =
    let comes = to.comes in
    let there = rw (sym comes.own) at comes.found in
    let was = was_in_flight (flying client.flights) comes.flight comes.rest source flight to.of.dues there (rw (comes.flying_is, sym comes.own) at is) in
    subst (IsOfLast beginning.lists number source (requests_in observed)) was.same (to.of.lasts source was.flight was.found)

client_told : (beginning : Beginning) (observed : Observed) (number : ℕ) (client : ClientBoard) (beat : DBeat) → ComesTo beginning observed number client beat
    → IsClientOf beginning (with_reply_beat number beat observed) number (record client { flights = flights_after client.flights beat.source; early = early_after client beat.source; told = unwrap_or (told_to client) beat.denied })
client_told beginning observed number client beat to =
    record { limits = to.of.limits; front = to.of.front; dues = dues_after client.flights beat to.of.dues to.comes; owed = owed_told beginning observed number client beat to; lasts = lasts_told beginning observed number client beat to }

right_told : (beginning : Beginning) (observed : Observed) (number : ℕ) (client : ClientBoard) (beat : DBeat) → ComesTo beginning observed number client beat → IsRightNow beginning observed
    → IsRightNow beginning (with_reply_beat number beat observed)
right_told beginning observed number client beat to right =
    record {
      spelled = right.spelled;
      as_many = right.as_many;
      begun = right.begun;
      told = λ other source. elim (same_or_not other number) [
        | inl same ↦ rw same (owed_told beginning observed number client beat to source).is_told
        | inr differs ↦ rw (told_other observed number beat other source (inl differs)) (right.told other source)
      ];
      free = λ other. free_at other (observed.begun other) (right.free other) (same_or_not other number);
      axi = right.axi;
    }
  where
    -- nothing was left of the source of a message that has begun, so the beat isn't of it
    differs_from : (first : ABeat) → left_of (replies_to beginning observed number first.source) (observed.told number first.source) ≡ [] → first.source ≢ beat.source
    differs_from first none same =
        let left = left_before client.flights beat to.comes (to.of.owed beat.source) in
        let empty = subst (λ n. left_of (replies_to beginning observed number n) (observed.told number n) ≡ []) same none in
        cc (left, empty)

    free_at : (other : ℕ) (begun : List ABeat) → IsFree beginning observed other begun → (other ≡ number) ⊎ (other ≢ number) → IsFree beginning (with_reply_beat number beat observed) other begun
    free_at other begun free is = grind (arith, free, is)

pub step_reply : (beginning : Beginning) (observed : Observed) (board : Board) (number : ℕ) (client : ClientBoard) (beat : DBeat) → IsBoardOf beginning observed board → slice_get board.clients number ≡ Some client
    → wrong_reply AcceptanceOrder (told_to client) (next_reply client.flights beat.source) beat ≡ None
    → IsBoardOf beginning (with_reply_beat number beat observed) (with_client number (client_after beat (client_cut beat.source client)) board)
step_reply beginning observed board number client beat of there none =
    subst (λ (flights : Flights). IsBoardOf beginning (with_reply_beat number beat observed) (with_client number (client_after beat (record client { flights = flights })) board))
    (sym (uncut client.flights beat to.comes))
    (board_with number client _ board.memory board.indeterminate of there (client_told beginning observed number client beat to)
    (λ other found differs was. client_kept was refl (λ source. refl) (λ source. told_other observed number beat other source (inl differs)) (λ source. refl)) of.memory of.unknown refl
    (right_told beginning observed number client beat to of.right))
  where
    to : ComesTo beginning observed number client beat
    to = record { of = of.clients number client there; comes = right_comes client.flights beat (of.clients number client there).dues (as_untold (told_to client) (next_reply client.flights beat.source) beat ∙ none) }

-- while a reply of a source of the client has begun, the beat is of that source
pub next_contiguous : (beginning : Beginning) (observed : Observed) (number : ℕ) (client : ClientBoard) (beat : DBeat) → IsClientOf beginning observed number client
    → wrong_reply AcceptanceOrder (told_to client) (next_reply client.flights beat.source) beat ≡ None → (source : ℕ)
    → IsPartly (replies_to beginning observed number source) (observed.told number source) → source ≡ beat.source
next_contiguous beginning observed number client beat of none source partly = (right_comes client.flights beat of.dues (as_untold (told_to client) (next_reply client.flights beat.source) beat ∙ none)).alone source ((of.owed source).has_begun partly)

-- a beat that may come isn't wrong
pub reply_right : (beginning : Beginning) (observed : Observed) (number : ℕ) (client : ClientBoard) (beat : DBeat) → IsClientOf beginning observed number client
    → IsRightNow beginning (with_reply_beat number beat observed)
    → ((source : ℕ) → IsPartly (replies_to beginning observed number source) (observed.told number source) → source ≡ beat.source)
    → wrong_reply AcceptanceOrder (told_to client) (next_reply client.flights beat.source) beat ≡ None
reply_right beginning observed number client beat of right contiguous =
    let replies = replies_to beginning observed number beat.source in
    let next = left-beat replies (observed.told number beat.source) beat (subst (IsTold replies) (told_own observed number beat) (right.told number beat.source)) in
    sym (as_untold (told_to client) (next_reply client.flights beat.source) beat)
    ∙ left_comes client.flights next.due beat (left_of replies (observed.told number beat.source ++ beat ∷ [])) (sym (of.owed beat.source).left_is ∙ next.left) next.same (λ source is. contiguous source ((of.owed source).partly is))

-- ---- the AXI4 port

-- the fault that the board finds is that of the list
fault_here : (beginning : Beginning) (observed : Observed) (board : Board) (beat : AxiBeat) → IsBoardOf beginning observed board
    → first_axi_fault (axi_port_of beginning.lists.config) nothing_open (observed.axi ++ beat ∷ []) ≡ axi_fault board.axi.limits board.axi.open_bursts beat
fault_here beginning observed board beat of = axi_fault-append (axi_port_of beginning.lists.config) nothing_open observed.axi beat of.right.axi ∙ rw (of.limits, of.open_bursts) refl

-- the board with other beats of the port, of which none is wrong
with_port : {beginning : Beginning} {observed : Observed} {board : Board} (beats : List AxiBeat) (port : PortBoard) → IsBoardOf beginning observed board → port.limits ≡ board.axi.limits
    → port.open_bursts ≡ open_after_all nothing_open beats → first_axi_fault (axi_port_of beginning.lists.config) nothing_open beats ≡ None
    → IsBoardOf beginning (record observed { axi = beats }) (record board { axi = port })
with_port beats port of limits open_bursts none =
    record {
      count = of.count;
      clients = λ number client there. client_kept (of.clients number client there) refl (λ source. refl) (λ source. refl) (λ source. refl);
      memory = of.memory;
      unknown = of.unknown;
      limits = limits ∙ of.limits;
      open_bursts = open_bursts;
      right = record { spelled = of.right.spelled; as_many = of.right.as_many; begun = of.right.begun; told = of.right.told; free = of.right.free; axi = none };
    }

pub step_axi : (beginning : Beginning) (observed : Observed) (board : Board) (beat : AxiBeat) → IsBoardOf beginning observed board → wrong_in_order board.axi beat ≡ None
    → IsBoardOf beginning (with_axi_beat beat observed) (record board { axi = after_in_order board.axi beat })
step_axi beginning observed board beat of right =
    let none : axi_fault board.axi.limits board.axi.open_bursts beat ≡ None = grind (arith, right) in
    with_port (observed.axi ++ beat ∷ []) (after_in_order board.axi beat) of refl (rw (none, open_after_all-append nothing_open observed.axi beat, of.open_bursts) refl)
    (fault_here beginning observed board beat of ∙ none)

-- a beat that may come in the list isn't wrong
pub axi_right : (beginning : Beginning) (observed : Observed) (board : Board) (beat : AxiBeat) → IsBoardOf beginning observed board → IsRightNow beginning (with_axi_beat beat observed) → wrong_in_order board.axi beat ≡ None
axi_right beginning observed board beat of right = ap wrong_axi (sym (fault_here beginning observed board beat of) ∙ right.axi)

-- after a time unwatched nothing is open
pub step_drained : (beginning : Beginning) (observed : Observed) (board : Board) → IsBoardOf beginning observed board → IsBoardOf beginning (record observed { axi = [] }) (record board { axi = drained board.axi })
step_drained beginning observed board of = with_port [] (drained board.axi) of refl refl refl
