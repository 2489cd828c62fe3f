-- A verdict as the board gives it is right.
use Rattle.std.proofs.Common.{sym, ◌∙◌, ap, ap₂, subst}
use Rattle.scoreboard.specs.Boards.{Board, opening_from, wrong_at}
use Rattle.scoreboard.specs.Orders.{IsWrongAs}
use Rattle.scoreboard.specs.RealTime.{JudgesRightly, arranged, asked_on, is_awaited}
use Rattle.scoreboard.specs.declared.Policy.TheVariants.{RealTime}
use Rattle.scoreboard.specs.declared.ObservedBeat.{ObservedBeat}
use Rattle.scoreboard.proofs.real_time.Arranged.{arises, first_beats, nothing_more}
use Rattle.scoreboard.proofs.real_time.Blames.{blames_by_rule, knows_bytes, reached_after, wrong_as_in}

pub judges_rightly : (board : Board) (seen : ObservedBeat) → JudgesRightly board seen (wrong_at RealTime board seen)
judges_rightly board seen =
    record {
      some = λ errors setup before. (first_beats errors setup before, nothing_more errors setup before);
      reached = λ errors setup before is. reached_after (opening_from errors setup) before board is;
      blamed = λ errors setup before requests numbers client beat wrong start is beat_is blamed order becomes begins.
          let as_told = subst (λ (b : Board). IsWrongAs setup.lists start (arranged errors setup before requests numbers) (asked_on b client beat) wrong) (sym is)
          (blames_by_rule errors setup start before (arranged errors setup before requests numbers) client beat wrong begins (arises errors setup before requests numbers order becomes)
          (sym (ap₂ (wrong_at RealTime) is beat_is) ∙ blamed)) in
          (wrong_as_in setup.lists start (arranged errors setup before requests numbers) (asked_on board client beat) wrong as_told, as_told);
      bytes = λ errors setup before requests numbers x start is order becomes begins certain awaited.
          knows_bytes errors setup start before (arranged errors setup before requests numbers) x begins (arises errors setup before requests numbers order becomes)
          (sym (ap (λ (b : Board). b.indeterminate x) is) ∙ certain) (sym (ap (λ (b : Board). is_awaited b x) is) ∙ awaited)
          ∙ ap (λ (b : Board). b.memory.bytes x) (sym is);
    }
