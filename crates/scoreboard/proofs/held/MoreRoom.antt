-- A page that has room keeps it where others get some.
use Rattle.std.proofs.Common.{◌≡◌, ℕ, ◌∷◌, [], List, Bool, true}
use Rattle.scoreboard.specs.Flights.{Footprint}
use Rattle.scoreboard.specs.InsideBoards.{HaveRoomToWrite}

pub more_room : (rooms wider : ℕ → Bool) → ((page : ℕ) → rooms page ≡ true → wider page ≡ true) → (footprints : List Footprint) → HaveRoomToWrite rooms footprints → HaveRoomToWrite wider footprints
more_room rooms wider grows [] room = tt
more_room rooms wider grows (footprint ∷ footprints) room = (λ writes. grows _ (room.0 writes), more_room rooms wider grows footprints room.1)
