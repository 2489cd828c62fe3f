-- The move is that of the client's next beat, and of whether it has all its replies.
use Rattle.std.proofs.Common.{refl}
use Rattle.bridge_threads.proofs.clients.client_turn.Goals as goal

pub returns-in-Waits-clause-shared : goal.returns-in-Waits-clause-shared
returns-in-Waits-clause-shared c = rw (← c.beat_at-beat.ensures, ← c.len.ensures, ← c.client_move.ensures, c.in-Waits.is) (refl, refl)

pub returns-in-CountsOut-clause-shared : goal.returns-in-CountsOut-clause-shared
returns-in-CountsOut-clause-shared c =
    rw (← c.beat_at-beat.ensures, ← c.len.ensures, ← c.client_move.ensures, c.in-CountsOut.is) (c.count_out.ensures, refl)

pub returns-in-Offers-clause-shared : goal.returns-in-Offers-clause-shared
returns-in-Offers-clause-shared c =
    rw (← c.beat_at-beat.ensures, ← c.len.ensures, ← c.client_move.ensures, c.in-Offers.is) c.offers.ensures.shared
