-- Its ID is a part of it.
use Rattle.std.proofs.Common.{◌≡◌, None, Some, ap, map, rules, slice_get, sym, ◌∙◌}
use Rattle.axi_checker.specs.Monitors.{MonitorState}
use Rattle.axi_checker.specs.OpenBursts.{OpenRead}
use Rattle.axi_beats.specs.declared.ArBeat.{ArBeat}
use Rattle.scoreboard.proofs.PlacesInLists.{part_at}
use Rattle.scoreboard.proofs.axi_port.AxiPort.open_read.Goals as goal

pub returns-in_err-ar : goal.returns-in_err-ar
returns-in_err-ar c =
    let none : c.from_residual.result ≡ None = search rules in
    let found : c.open_read.result ≡ None = search rules in
    rw none
    (part_at (λ (read : OpenRead). read.ar) (λ (ar : ArBeat). ar.id) c.self.inside.monitor.open_bursts.reads c.args.place None (sym found ∙ c.open_read.ensures)
    ∙ ap (λ (m : MonitorState). slice_get (map (λ (read : OpenRead). read.ar.id) m.open_bursts.reads) c.args.place) c.self.view_is)

pub returns : goal.returns
returns c =
    let found : c.open_read.result ≡ Some c.in_ok-ar.ar = search rules in
    part_at (λ (read : OpenRead). read.ar) (λ (ar : ArBeat). ar.id) c.self.inside.monitor.open_bursts.reads c.args.place (Some c.in_ok-ar.ar) (sym found ∙ c.open_read.ensures)
    ∙ ap (λ (m : MonitorState). slice_get (map (λ (read : OpenRead). read.ar.id) m.open_bursts.reads) c.args.place) c.self.view_is
