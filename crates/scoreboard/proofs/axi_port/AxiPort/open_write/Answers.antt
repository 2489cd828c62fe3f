-- Its ID is a part of it.
use Rattle.std.proofs.Common.{◌≡◌, None, Some, ap, map, rules, slice_get, sym, ◌∙◌}
use Rattle.axi_checker.specs.Monitors.{MonitorState}
use Rattle.axi_checker.specs.OpenBursts.{OpenWrite}
use Rattle.axi_beats.specs.declared.AwBeat.{AwBeat}
use Rattle.scoreboard.proofs.PlacesInLists.{part_at}
use Rattle.scoreboard.proofs.axi_port.AxiPort.open_write.Goals as goal

pub returns-in_err-aw : goal.returns-in_err-aw
returns-in_err-aw c =
    let none : c.from_residual.result ≡ None = search rules in
    let found : c.open_write.result ≡ None = search rules in
    rw none
    (part_at (λ (write : OpenWrite). write.aw) (λ (aw : AwBeat). aw.id) c.self.inside.monitor.open_bursts.writes c.args.place None (sym found ∙ c.open_write.ensures)
    ∙ ap (λ (m : MonitorState). slice_get (map (λ (write : OpenWrite). write.aw.id) m.open_bursts.writes) c.args.place) c.self.view_is)

pub returns : goal.returns
returns c =
    let found : c.open_write.result ≡ Some c.in_ok-aw.aw = search rules in
    part_at (λ (write : OpenWrite). write.aw) (λ (aw : AwBeat). aw.id) c.self.inside.monitor.open_bursts.writes c.args.place (Some c.in_ok-aw.aw) (sym found ∙ c.open_write.ensures)
    ∙ ap (λ (m : MonitorState). slice_get (map (λ (write : OpenWrite). write.aw.id) m.open_bursts.writes) c.args.place) c.self.view_is
