-- A reply that ended early is over with the first beat of another: the board, its shadow and an order go on together, with that and with any beat on
-- channel D.
use Rattle.std.proofs.Common.{◌≡◌, ℕ, ◌==◌, Bool, true, false, ◌&&◌, not, List, [], ◌∷◌, map, set, Option, Some, None, if◌then◌else◌, refl, sym, ◌∙◌, ap, ap₂, subst, arith}
use Rattle.std.specs.Prelude.{is_some, slice_get}
use Rattle.std.specs.List.{AllByRecursion, list_any}
use Rattle.std.proofs.lemmas.Bool.{and_parts, false_from_ne_true}
use Rattle.std.proofs.lemmas.Bool.Decides.{nat_tests}
use Rattle.std.proofs.lemmas.List.{set-set}
use Rattle.std.proofs.lemmas.Option.{slice_get_within}
use Rattle.bus_words.proofs.StoredPlaces.{get_set, set_back}
use Rattle.tl_messages.specs.declared.DBeat.{DBeat}
use Rattle.meaning.specs.Meaning.{Bytes}
use Rattle.scoreboard.specs.Boards.{Board, ClientBoard, after_d, client_after, client_cut, with_client}
use Rattle.scoreboard.specs.Flights.{InFlight, begun_is_other, is_of_source, is_over}
use Rattle.scoreboard.specs.Orders as orders
use Rattle.scoreboard.specs.Orders.{Entry, Order, after_beat, awaits, begun_to, begun_to_other, counted, cut_short, ended_early, has_ended, reply_beats, with_beat}
use Rattle.scoreboard.proofs.MappedLists.{any_map}
use Rattle.scoreboard.proofs.acceptance_order.DueLists.{any_found}
use Rattle.scoreboard.proofs.real_time.Ahead.{Shadow}
use Rattle.scoreboard.proofs.real_time.Entries.{Stands, place_of}
use Rattle.scoreboard.proofs.real_time.Failures.{failed_any}
use Rattle.scoreboard.proofs.real_time.Follows.{Follows, IsFailing, IsFated, IsFollowed, IsMarked, begun_here, settle, settled, some_passes}
use Rattle.scoreboard.proofs.real_time.FollowsEarly.{after_uncut, follows_counted}
use Rattle.scoreboard.proofs.real_time.FollowsEnded.{removed_follows}
use Rattle.scoreboard.proofs.real_time.Places.{begun_at, due_at, flight_at, flight_in, flights_in}
use Rattle.scoreboard.proofs.real_time.Removed.{ended}
use Rattle.scoreboard.proofs.real_time.ReplyMoves.{any_each, some_each, waits_for}
use Rattle.scoreboard.proofs.real_time.ReplySteps.{due_place, none_due}
use Rattle.scoreboard.proofs.real_time.StepOrders.{HasFate}

-- ---- orders in which no reply is over

-- one that passes a test passes another
any_also : (P : Entry → Type 0) (test other : Entry → Bool) (order : Order) → ((entry : Entry) → P entry → test entry ≡ true → other entry ≡ true)
    → AllByRecursion P order → list_any test order ≡ true → list_any other order ≡ true
any_also P test other [] one all some = some
any_also P test other (entry ∷ order) one all some = grind (arith, some, one entry all.0, any_also P test other order one all.1)

none_cut : (number : ℕ) (order : Order) → map (ended_early false number) order ≡ order
none_cut number [] = refl
none_cut number (entry ∷ order) = ap (λ (rest : Order). entry ∷ rest) (none_cut number order)

uncut : (order : Order) (number source : ℕ) → orders.is_over order number source ≡ false → cut_short order number source ≡ order
uncut order number source none = ap (λ (over : Bool). map (ended_early over number) order) none ∙ none_cut number order

none_other : (number source : ℕ) (order : Order) → list_any (begun_to number) order ≡ false → list_any (begun_to_other number source) order ≡ false
none_other number source [] none = refl
none_other number source (entry ∷ order) none = grind (arith, none, none_other number source order)

-- where none has begun
uncut_none : (order : Order) (number source : ℕ) → list_any (begun_to number) order ≡ false → cut_short order number source ≡ order
uncut_none order number source none =
    uncut order number source (ap (λ (b : Bool). b && list_any (awaits number source) order) (none_other number source order none))

-- ---- one that has ended, before a beat is counted

fate_before : (fate : ℕ → Bool) (begun : Bool) (number source : ℕ) (entry : Entry) → HasFate fate (with_beat begun number source entry) → HasFate fate entry
fate_before fate begun number source entry is = grind (arith, is)

fates_before : (fate : ℕ → Bool) (begun : Bool) (number source : ℕ) (order : Order) → AllByRecursion (HasFate fate) (map (with_beat begun number source) order)
    → AllByRecursion (HasFate fate) order
fates_before fate begun number source [] after = tt
fates_before fate begun number source (entry ∷ order) after =
    (fate_before fate begun number source entry after.0, fates_before fate begun number source order after.1)

-- ---- on a board

module _ {start : Bytes} (board : Board) (shadow : Shadow) (order : Order) (follows : Follows start board shadow order) (number source : ℕ) (client : ClientBoard)
    (there : slice_get board.clients number ≡ Some client) where
  abbrev Held : Entry → Bytes → Type 0
  Held = Stands board.memory.faults board.memory.regions (flight_at shadow.clients)

  begun_is : flight_at board.clients (begun_at number) ≡ client.flights.begun
  begun_is = ap (λ (o : Option ClientBoard). flight_in (flights_in o) None) there

  due_is : list_any (is_of_source source) client.flights.due ≡ is_some (flight_at board.clients (due_at number source))
  due_is =
      any_found (is_of_source source) client.flights.due
      ∙ sym (ap (λ (o : Option ClientBoard). is_some (flight_in (flights_in o) (Some source))) there)

  -- one whose reply has begun is of the source that the board tells
  own_source : (flight : InFlight) → flight_at board.clients (begun_at number) ≡ Some flight → (entry : Entry) (m : Bytes) → Held entry m → begun_to number entry ≡ true
      → flight.source ≡ entry.request.source
  own_source flight here entry m held has =
      let at = due_place true number source entry has in
      let was = held.live at.live in
      let beside = follows.ahead.placed (begun_at number) flight here in
      let one : Some was.flight ≡ Some beside.other = sym was.there ∙ ap (flight_at shadow.clients) at.there ∙ beside.there in
      let same : was.flight ≡ beside.other = cc (one) in
      beside.behind.source ∙ sym (ap (λ (f : InFlight). f.source) same) ∙ was.source

  other_same : begun_is_other source client.flights.begun ≡ list_any (begun_to_other number source) order
  other_same = by_begun client.flights.begun refl
    where
      has_begun : (o : Option InFlight) → client.flights.begun ≡ o → list_any (begun_to number) order ≡ is_some o
      has_begun o is = begun_here board shadow order follows number ∙ ap (λ (f : Option InFlight). is_some f) (begun_is ∙ is)

      by_source : (flight : InFlight) → client.flights.begun ≡ Some flight → (b : Bool) → (flight.source == source) ≡ b
          → not b ≡ list_any (begun_to_other number source) (settle order)
      by_source flight is true own =
          sym (false_from_ne_true (list_any (begun_to_other number source) (settle order)) (λ some.
          let found = some_each board.memory.faults board.memory.regions Held (begun_to_other number source) (settle order) start follows.explains.entries some in
          let parts = and_parts (begun_to number found.0) (not (found.0.request.source == source)) found.3 in
          let same = own_source flight (begun_is ∙ is) found.0 found.1 found.2 parts.0 in
          let its : (found.0.request.source == source) ≡ true = ap (λ (s : ℕ). s == source) (sym same) ∙ own in
          absurd (cc (sym (ap (λ (b : Bool). not b) its) ∙ parts.1))))
      by_source flight is false other =
          sym (any_each board.memory.faults board.memory.regions Held (begun_to number) (begun_to_other number source) (settle order) start
          (λ entry m held has.
          let its : (entry.request.source == source) ≡ false =
          ap (λ (s : ℕ). s == source) (sym (own_source flight (begun_is ∙ is) entry m held has)) ∙ other in
          rw (has, its) refl) follows.explains.entries (any_map (begun_to number) settled order ∙ has_begun (Some flight) is))

      by_begun : (o : Option InFlight) → client.flights.begun ≡ o → begun_is_other source o ≡ list_any (begun_to_other number source) order
      by_begun None is = sym (none_other number source order (has_begun None is))
      by_begun (Some flight) is = by_source flight is (flight.source == source) refl ∙ any_map (begun_to_other number source) settled order

  waits_same : list_any (is_of_source source) client.flights.due ≡ list_any (awaits number source) order
  waits_same = due_is ∙ by_some (is_some (flight_at board.clients (due_at number source))) refl
    where
      place : (entry : Entry) → waits_for number source entry ≡ true → (has_ended entry ≡ false) × (place_of entry ≡ due_at number source)
      place entry waits = grind (arith, waits)

      by_some : (b : Bool) → is_some (flight_at board.clients (due_at number source)) ≡ b → b ≡ list_any (awaits number source) order
      by_some true some =
          sym (any_also (IsMarked board.clients) (waits_for number source) (awaits number source) order
          (λ entry marked waits.
          let at = place entry waits in
          let whole : entry.whole ≡ true = marked at.0 ∙ ap (λ p. is_some (flight_at board.clients p)) at.1 ∙ some in
          grind (arith, nat_tests, waits, whole)) follows.marked (sym (any_map (waits_for number source) settled order) ∙ follows.explains.waiting number source on_shadow))
        where
          by_flight : (o : Option InFlight) → flight_at board.clients (due_at number source) ≡ o → is_some o ≡ true → is_some (flight_at shadow.clients (due_at number source)) ≡ true
          by_flight None is none = absurd (cc (none))
          by_flight (Some flight) is none =
              ap (λ (o : Option InFlight). is_some o) (follows.ahead.placed (due_at number source) flight is).there

          on_shadow : is_some (flight_at shadow.clients (due_at number source)) ≡ true
          on_shadow = by_flight (flight_at board.clients (due_at number source)) refl some
      by_some false none =
          sym (false_from_ne_true (list_any (awaits number source) order) (λ some.
          let found = some_passes (IsMarked board.clients) (awaits number source) order follows.marked some in
          let passes = found.2 in
          let waits : waits_for number source found.0 ≡ true = grind (arith, nat_tests, passes) in
          let whole : found.0.whole ≡ true = grind (arith, nat_tests, passes) in
          let at = place found.0 waits in
          absurd (cc (sym none ∙ ap (λ p. is_some (flight_at board.clients p)) (sym at.1) ∙ sym (found.1 at.0) ∙ whole))))

  -- a reply is over on the board where it is over in the order
  over_same : is_over client.flights source ≡ orders.is_over order number source
  over_same = ap₂ (λ (other waits : Bool). other && waits) other_same waits_same

  -- ---- it is over

  -- what is known of an entry
  record IsKnown (entry : Entry) : Type 0 where
    marked : IsMarked board.clients entry
    failing : IsFailing board entry
    fated : IsFated shadow entry
    ends : HasFate shadow.fate (ended number None entry)

  all_known : (some_order : Order) → AllByRecursion (IsMarked board.clients) some_order → AllByRecursion (IsFailing board) some_order → AllByRecursion (IsFated shadow) some_order
      → AllByRecursion (HasFate shadow.fate) (map (ended number None) some_order) → AllByRecursion IsKnown some_order
  all_known [] marked failing fated ending = tt
  all_known (entry ∷ rest) marked failing fated ending = (
    record { marked = marked.0; failing = failing.0; fated = fated.0; ends = ending.0 },
    all_known rest marked.1 failing.1 fated.1 ending.1,
  )

  -- where it is fated it has failed
  spent : AllByRecursion (HasFate shadow.fate) (map (ended number None) order) → (flight : InFlight) → flight_at board.clients (begun_at number) ≡ Some flight
      → shadow.fates (begun_at number) ≡ true → flight.footprint.failed ≡ true
  spent ending flight here fated = by_entry found.0 found.1 found.2
    where
      found : (entry : Entry) × IsKnown entry × (begun_to number entry ≡ true)
      found =
          some_passes IsKnown (begun_to number) order (all_known order follows.marked follows.failing follows.fated ending)
          (begun_here board shadow order follows number ∙ ap (λ (o : Option InFlight). is_some o) here)

      by_entry : (entry : Entry) → IsKnown entry → begun_to number entry ≡ true → flight.footprint.failed ≡ true
      by_entry entry known has =
          let at = due_place true number source entry has in
          let there_is = ap (flight_at board.clients) at.there ∙ here in
          let whole : entry.whole ≡ true = known.marked at.live ∙ ap (λ (o : Option InFlight). is_some o) there_is in
          let fate : shadow.fate entry.number ≡ true = sym (known.fated whole at.live) ∙ ap shadow.fates at.there ∙ fated in
          let over : ended number None entry ≡ record entry { came = reply_beats entry.request } = rw has refl in
          let spoiled : entry.spoiled ≡ true = subst (HasFate shadow.fate) over known.ends (grind (arith, nat_tests)) fate in
          (known.failing whole at.live flight there_is).0
          ∙ failed_any board.errors board.memory.faults board.memory.regions entry (follows.any_fated entry.number fate) spoiled

  cut_follows : AllByRecursion (HasFate shadow.fate) (cut_short order number source)
      → IsFollowed start shadow.fate (with_client number (client_cut source client) board) (cut_short order number source)
  cut_follows ending = by_over (is_over client.flights source) refl
    where
      cut_on : Option InFlight → Board
      cut_on begun = with_client number (record client { flights = record client.flights { begun = begun } }) board

      by_over : (b : Bool) → is_over client.flights source ≡ b
          → IsFollowed start shadow.fate (with_client number (client_cut source client) board) (cut_short order number source)
      by_over false none =
          let still : cut_short order number source ≡ order = uncut order number source (sym over_same ∙ none) in
          let back : board ≡ cut_on client.flights.begun = ap {B = Board} (λ clients. record board { clients = clients }) (sym (set_back board.clients number client there)) in
          let same : board ≡ with_client number (client_cut source client) board =
          back ∙ ap (λ (over : Bool). cut_on (if over then None else client.flights.begun)) (sym none) in
          subst (λ b. IsFollowed start shadow.fate b (cut_short order number source)) same
          (subst (IsFollowed start shadow.fate board) (sym still) (shadow, follows, refl))
      by_over true over =
          let is : cut_short order number source ≡ map (ended number None) order =
          ap (λ (b : Bool). map (ended_early b number) order) (sym over_same ∙ over) in
          let same : cut_on None ≡ with_client number (client_cut source client) board =
          ap (λ (b : Bool). cut_on (if b then None else client.flights.begun)) (sym over) in
          subst (λ b. IsFollowed start shadow.fate b (cut_short order number source)) same
          (subst (IsFollowed start shadow.fate (cut_on None)) (sym is)
          (removed_follows board shadow order follows number None client there
          (λ c some place. let source_is = ap (λ p. p.source) place in absurd (cc (source_is)))
          (spent (subst (AllByRecursion (HasFate shadow.fate)) is ending))))

-- ---- any beat on channel D

pub follows_reply : {start : Bytes} (fate : ℕ → Bool) (board : Board) (order : Order) (number : ℕ) (beat : DBeat) → IsFollowed start fate board order
    → AllByRecursion (HasFate fate) (after_beat order number beat.source)
    → IsFollowed start fate (after_d board number (slice_get board.clients number) beat) (after_beat order number beat.source)
follows_reply {start} fate board order number beat followed ending = by_client (slice_get board.clients number) refl
  where
    cut : Order
    cut = cut_short order number beat.source

    ends : AllByRecursion (HasFate fate) cut
    ends = fates_before fate (list_any (begun_to number) cut) number beat.source cut ending

    by_client : (o : Option ClientBoard) → slice_get board.clients number ≡ o → IsFollowed start fate (after_d board number o beat) (after_beat order number beat.source)
    by_client None none =
        let nothing = none_due board.clients true number beat.source none in
        let no_begun = begun_here board followed.0 order followed.1 number ∙ ap (λ (o : Option InFlight). is_some o) nothing in
        let still = uncut_none order number beat.source no_begun in
        subst (λ (o : Option ClientBoard). IsFollowed start fate (after_uncut board number o beat) (after_beat order number beat.source)) none
        (follows_counted fate board cut number beat (subst (IsFollowed start fate board) (sym still) followed) ending)
    by_client (Some client) there =
        subst (λ (clients : List ClientBoard). IsFollowed start fate (record board { clients = clients }) (after_beat order number beat.source))
        (set-set board.clients number changed (client_after beat changed))
        (subst (λ (o : Option ClientBoard). IsFollowed start fate (after_uncut cut_board number o beat) (after_beat order number beat.source)) cut_there
        (follows_counted fate cut_board cut number beat cut_followed ending))
      where
        changed : ClientBoard
        changed = client_cut beat.source client

        cut_board : Board
        cut_board = with_client number changed board

        cut_there : slice_get (set board.clients number changed) number ≡ Some changed
        cut_there = get_set board.clients number changed (slice_get_within board.clients number client there)

        cut_followed : IsFollowed start fate cut_board cut
        cut_followed =
            subst (λ (f : ℕ → Bool). IsFollowed start f cut_board cut) followed.2
            (cut_follows board followed.0 order followed.1 number beat.source client there
            (subst (λ (f : ℕ → Bool). AllByRecursion (HasFate f) cut) (sym followed.2) ends))
