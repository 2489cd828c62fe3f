-- One beat less is left.
use Rattle.std.proofs.Common.{◌∙◌, List, ap, drop, sym}
use Rattle.tl_messages.specs.declared.DBeat.{DBeat}
use Rattle.scoreboard.specs.InsideBoards.{FlightState}
use Rattle.std.proofs.lemmas.List.{drop-drop}
use Rattle.scoreboard.proofs.in_flight.InFlight.count.Goals as goal

pub returns : goal.returns
returns c =
    ap {B = FlightState} (λ (left : List DBeat). record { source = c.self.inside.source; beats = left; footprint = c.self.inside.footprint }) (sym (drop-drop 1 c.self.inside.came c.self.inside.reply))
    ∙ ap (λ (f : FlightState). record f { beats = drop 1 f.beats }) c.self.view_is
