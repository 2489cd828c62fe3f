-- One W beat more is appended.
use Rattle.std.proofs.Common.{◌∙◌}
use Rattle.axi_beats.specs.declared.WBeat.{WBeat}
use Rattle.axi_checker.specs.declared.AxiBeat.TheVariants.{W as OnW}
use Rattle.scoreboard.specs.declared.ObservedBeat.TheVariants.{Axi}
use Rattle.observed_run.proofs.SeenSteps.{shown_more}
use Rattle.observed_run.proofs.runs.see_data.Goals as goal

pub loop-k-preserved : goal.loop-k-preserved
loop-k-preserved c = c.in_ok-put.ensures.beats ∙ shown_more (λ (beat : WBeat). Axi (OnW beat)) _ _ _ _ _ c.loop-k.invariant c.w.ensures
