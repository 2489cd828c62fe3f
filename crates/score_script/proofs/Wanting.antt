-- A beat that asks for room where some pages have it asks for it also where none has.
use Rattle.std.proofs.Common.{◌≡◌, ℕ, Bool, true, false, Option, Some, None, refl}
use Rattle.std.specs.Prelude.{slice_get}
use Rattle.std.proofs.lemmas.Bool.{and_from, and_parts}
use Rattle.tl_messages.specs.declared.ABeat.{ABeat}
use Rattle.serial_memory.specs.SerialMemory.{lacks_room}
use Rattle.scoreboard.specs.Boards.{Board, ClientBoard, answer_to}
use Rattle.scoreboard.specs.Room.{asks_for_room, asks_room, gives_by_now, place_of_beat}
use Rattle.scoreboard.specs.declared.ObservedBeat.{ObservedBeat}
use Rattle.scoreboard.specs.declared.ObservedBeat.TheVariants.{A, D, Axi, Drained}
use Rattle.scoreboard.specs.declared.Policy.{Policy}

lacks_all : (rooms : ℕ → Bool) (place : Option ℕ) → lacks_room rooms place ≡ true → lacks_room (λ page. false) place ≡ true
lacks_all rooms None lacks = lacks
lacks_all rooms (Some address) lacks = refl

asks_all : (policy : Policy) (board : Board) (rooms : ℕ → Bool) (client : Option ClientBoard) (beat : ABeat) → asks_room policy board rooms client beat ≡ true
    → asks_room policy board (λ page. false) client beat ≡ true
asks_all policy board rooms None beat asks = asks
asks_all policy board rooms (Some client) beat asks =
    let place = place_of_beat board.errors board.memory beat in
    let gives = gives_by_now policy (answer_to policy client beat) in
    let parts = and_parts gives (lacks_room rooms place) asks in
    and_from gives (lacks_room (λ page. false) place) parts.0 (lacks_all rooms place parts.1)

pub asks_whatever : (policy : Policy) (board : Board) (rooms : ℕ → Bool) (seen : ObservedBeat) → asks_for_room policy board rooms seen ≡ true
    → asks_for_room policy board (λ page. false) seen ≡ true
asks_whatever policy board rooms (A client beat) asks = asks_all policy board rooms (slice_get board.clients client) beat asks
asks_whatever policy board rooms (D client beat) asks = asks
asks_whatever policy board rooms (Axi beat) asks = asks
asks_whatever policy board rooms Drained asks = asks
