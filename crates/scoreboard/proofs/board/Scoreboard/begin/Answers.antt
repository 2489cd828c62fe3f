-- It begins by its parts.
use Rattle.std.proofs.Common.{◌≡◌, ◌<◌, ℕ, Bool, List, Option, Some, ap, ap₂, arith, length, map, refl, rules, set, subst, sym, ◌∙◌}
use Rattle.std.specs.Prelude.{slice_get}
use Rattle.std.specs.Vec.{with_items}
use Rattle.std.proofs.lemmas.List.{places, with_items_is}
use Rattle.bus_words.proofs.PlaceChanges.{all-got}
use Rattle.tl_messages.specs.Requests.{HeldMessage, begun, request_of}
use Rattle.tl_messages.specs.declared.DBeat.{DBeat}
use Rattle.scoreboard.specs.Boards.{Board, ClientBoard, begun_on, client_beside, client_footprints, early_due, fails, footprints_of, joining_on, place_on}
use Rattle.scoreboard.specs.Flights.{Footprint}
use Rattle.scoreboard.specs.InsideBoards.{BoardState, ClientState, ClientsHaveRoom, FootprintState, HasRoomForBeat, HasRoomToWrite, HaveRoomToWrite, IsAskedBy, board_of, client_of, footprint_of, most_words}
use Rattle.serial_memory.specs.SerialMemory.{IsMemoryRange, doubts_of, memory_of, rooms_of}
use Rattle.scoreboard.specs.Races.{alone, beside_all, beside_dependent, unless_failed}
use Rattle.scoreboard.specs.contracts.board.Scoreboard.{the_view}
use Rattle.scoreboard.proofs.held.BoardSteps.{AreKept, begun_behind, beside_kept, client_is, client_kept, early_same, is_there, joining_same, room_acting, there_at}
use Rattle.scoreboard.proofs.held.ClientFootprints.{room_coming, room_joining, room_unless_failed}
use Rattle.scoreboard.proofs.held.FootprintBytes.{few_bytes}
use Rattle.serial_memory.proofs.RequestWords.{placed_range}
use Rattle.scoreboard.proofs.board.Scoreboard.begin.Goals.{After-index_mut}
use Rattle.scoreboard.proofs.board.Scoreboard.begin.Goals as goal

own : (c : goal.After-start_footprint-arg-1) → IsMemoryRange c.begin.new.self.address c.begin.new.self.size
own c = subst (λ (held : HeldMessage). IsMemoryRange held.address held.size) (sym c.begin.ensures) c.requires.first.range

pub start_footprint-requires-clause-range : goal.start_footprint-requires-clause-range
start_footprint-requires-clause-range c = placed_range c.begin.new.self.address c.begin.new.self.size c.place_of-place.result (own c) c.place_of-place.ensures.same_byte

pub start_footprint-requires-clause-room : goal.start_footprint-requires-clause-room
start_footprint-requires-clause-room c =
    let policy = ap (λ (b : BoardState). b.policy) c.self.view_is ∙ c.requires.policy in
    let room = c.self.invariant.2 in
    omega (arith, few_bytes c.begin.new.self.size (own c).small, room)

held : (c : After-index_mut) → (with_items c.self.inside.clients c.give_way.new.clients).items ≡ c.give_way.new.clients
held c = with_items_is c.self.inside.clients c.give_way.new.clients (search (rules, places))

-- the clients that give way are all of them
given : (c : After-index_mut) → map client_of c.give_way.new.clients ≡ map (client_beside (footprint_of c.fail_if.new.self.footprint)) (map client_of c.self.inside.clients.items)
given c =
    c.give_way.ensures.clients
    ∙ ap₂ (λ (f : FootprintState) (cs : List ClientState). map (client_beside (footprint_of f)) (map client_of cs)) c.footprint-footprint.ensures c.deref_mut.ensures.value

kept : (c : After-index_mut) → AreKept most_words (rooms_of c.self.inside.serial) c.give_way.new.clients
kept c =
    let room = most_words in
    beside_kept room (rooms_of c.self.inside.serial) c.self.inside.clients.items c.give_way.new.clients (footprint_of c.fail_if.new.self.footprint) (given c)
    (λ have. c.give_way.ensures.room room (subst (ClientsHaveRoom room) (sym c.deref_mut.ensures.value) have)) (c.self.invariant.0, c.self.invariant.1, c.self.invariant.3)

-- the one that begins it
there : (c : After-index_mut) → slice_get c.give_way.new.clients c.from.result ≡ Some c.index_mut.result.now
there c =
    let within : c.from.result < length c.give_way.new.clients =
    omega (arith, c.requires.client, c.from.ensures, ap (λ (b : BoardState). length b.clients) c.self.view_is, c.give_way.auto.clients, ap length c.deref_mut.ensures.value) in
    ap (λ (cs : List ClientState). slice_get cs c.from.result) (sym (held c))
    ∙ there_at (with_items c.self.inside.clients c.give_way.new.clients).items c.from.result c.index_mut.result.now (rw (held c) within) c.index_mut.ensures.value

pub begin-requires-2 : goal.begin-requires-2
begin-requires-2 c =
    let at = (goal.at.begin-requires-2 c).After-index_mut in
    let room = most_words in
    let own_room = all-got (λ (client : ClientState). client.flights.room ≡ room) c.give_way.new.clients c.from.result c.index_mut.result.now (kept at).1 (there at) in
    record { room = c.fail_if.ensures.room ∙ c.limit.ensures.room ∙ c.start_footprint.ensures.room ∙ c.self.invariant.2 ∙ sym own_room }

-- its footprint, on the board as it is held
joined : (c : goal.After-self-1) → footprint_of c.fail_if.new.self.footprint ≡ joining_on (board_of (the_view c.self.inside)) (request_of c.begin.new.self)
joined c =
    c.fail_if.ensures.footprint
    ∙ ap₂ unless_failed c.fails_by_now.ensures
    (c.limit.ensures.footprint
    ∙ ap₂ (λ (f : Footprint) (cs : List ClientState). beside_all f (footprints_of (map client_of cs)))
    (c.start_footprint.ensures.footprint ∙ ap (λ place. alone (doubts_of c.self.inside.serial) place (request_of c.begin.new.self)) c.place_of-place.ensures.place)
    c.deref.ensures.value)

-- it has room to write
own_room : (c : goal.After-self-1) → HasRoomToWrite (rooms_of c.self.inside.serial) (footprint_of c.fail_if.new.self.footprint)
own_room c =
    let rooms = rooms_of c.self.inside.serial in
    let request = c.begin.new.self in
    let asked : IsAskedBy request c.args.beat.now = subst (λ (held : HeldMessage). IsAskedBy held c.args.beat.now) (sym c.begin.ensures) (record { operation = refl; address = refl; corrupt = λ corrupt. corrupt }) in
    let room = subst (λ (b : BoardState). HasRoomForBeat b.errors b.memory c.args.beat.now) (sym c.self.view_is) c.requires.room request asked in
    subst (HasRoomToWrite rooms) (sym (joined c))
    (room_unless_failed rooms (fails c.self.inside.errors (memory_of c.self.inside.serial) (request_of request)) _
    (room_joining rooms (doubts_of c.self.inside.serial) (footprints_of (map client_of c.self.inside.clients.items)) (place_on (board_of (the_view c.self.inside)) (request_of request)) (request_of request)
    (room_acting c.self.inside.errors c.self.inside.serial (request_of request) room)))

pub invariant_of-self : goal.invariant_of-self
invariant_of-self c =
    let room = most_words in
    let rooms = rooms_of c.self.inside.serial in
    let one = c.index_mut.result.now in
    let at = (goal.at.invariant_of-self c).After-index_mut in
    let all = client_kept room rooms c.give_way.new.clients c.from.result one c.begin-2.new.self (there at) (ap (λ (client : ClientState). client.flights.room) c.begin-2.ensures.client)
    (λ good. subst (λ (client : ClientState). HaveRoomToWrite rooms (client_footprints (client_of client))) (sym c.begin-2.ensures.client)
    (room_coming rooms (footprint_of c.fail_if.new.self.footprint) (client_of one) good (own_room c))) (kept at) in
    let same_room = all-got (λ (client : ClientState). client.flights.room ≡ room) c.give_way.new.clients c.from.result one (kept at).1 (there at) in (
      rw (held at) all.0,
      rw (held at) all.1,
      c.begin-2.ensures.room ∙ same_room,
      rw (held at) (subst (λ (r : ℕ → Bool). HaveRoomToWrite r (footprints_of (map client_of (set c.give_way.new.clients c.from.result c.begin-2.new.self)))) (sym c.mark_beside.ensures.rest.rooms) all.2),
    )

pub returns-clause-state : goal.returns-clause-state
returns-clause-state c found is =
    let old = the_view c.self.inside in
    let number = c.from.result in
    let at = (goal.at.returns-clause-state c).After-index_mut in
    let footprint = footprint_of c.fail_if.new.self.footprint in
    let beat = c.args.beat.now in
    let is_here : slice_get (board_of old).clients number ≡ Some found = rw c.from.ensures (ap (λ (b : BoardState). slice_get (board_of b).clients c.args.client) c.self.view_is ∙ is) in
    let same : client_of c.index_mut.result.now ≡ client_beside footprint found =
    client_is c.give_way.new.clients number c.index_mut.result.now (client_beside footprint found) (there at)
    (is_there (map client_of c.give_way.new.clients) (map client_of c.self.inside.clients.items) footprint number (given at) found is_here) in
    let marked : doubts_of c.mark_beside.new.marks ≡ beside_dependent (doubts_of old.memory) footprint (footprints_of (map client_of old.clients)) =
    c.mark_beside.ensures.bytes
    ∙ ap₂ (λ (f : FootprintState) (cs : List ClientState). beside_dependent (doubts_of old.memory) (footprint_of f) (footprints_of (map client_of cs))) c.footprint-footprint.ensures c.deref-2.ensures.value in
    ap {B = Board}
    (λ (cs : List ClientState). board_of (record old { clients = set cs number c.begin-2.new.self; memory = c.mark_beside.new.marks; request = c.begin.new.self; joining = c.begin-2.new.flight })) (held at)
    ∙ begun_behind old c.give_way.new.clients c.mark_beside.new.marks c.begin.new.self c.begin-2.new.flight number (record found { early = c.early_due.result }) c.begin-2.new.self footprint (given at) c.mark_beside.ensures.rest.memory marked
    (ap client_of c.begin-2.ensures.client ∙ ap {B = ClientBoard} (λ (client : ClientBoard). record client { coming = footprint; early = c.early_due.result }) same)
    ∙ ap (λ (early : Option DBeat). begun_on (board_of old) number (record found { early = early }) footprint) c.early_due.ensures
    ∙ ap (begun_on (board_of old) number (record found { early = early_due old.errors (request_of c.begin.new.self) })) (joined c)
    ∙ ap (λ (held : HeldMessage). begun_on (board_of old) number (record found { early = early_due old.errors (request_of held) }) (joining_on (board_of old) (request_of held))) c.begin.ensures
    ∙ ap₂ (λ (b : BoardState) (n : ℕ). begun_on (board_of b) n (record found { early = early_due b.errors (request_of (begun c.args.client beat)) }) (joining_on (board_of b) (request_of (begun c.args.client beat)))) c.self.view_is c.from.ensures
    ∙ ap₂ (λ (early : Option DBeat) (own : Footprint). begun_on (board_of c.args.self.now) c.args.client (record found { early = early }) own) (early_same c.args.self.now.errors c.args.client found.limits.client beat)
    (joining_same (board_of c.args.self.now) c.args.client found.limits.client beat)
