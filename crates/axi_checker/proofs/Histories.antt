-- Histories of beats one after another, and whole bursts in them.
use Rattle.std.proofs.Common.{◌≡◌, List, [], ◌∷◌, ◌++◌, refl, ap, sym, ◌∙◌}
use Rattle.std.specs.Prelude.{None}
use Rattle.axi_beats.specs.Bursts.{Burst}
use Rattle.axi_checker.specs.OpenBursts.{OpenBursts, open_after, write_to_fill}
use Rattle.axi_checker.specs.declared.AxiBeat.{AxiBeat}
use Rattle.axi_checker.specs.Rules.{AxiPortLimits, beats_sent, burst_fault, first_axi_fault, open_after_all, open_with_burst}
use Rattle.axi_checker.proofs.Judging.{first_axi_fault-none}
use Rattle.axi_checker.proofs.LegalBursts.{head_unbroken, open_after_all-burst, unbroken_burst}

-- beats that break no rule, and then others
pub first_axi_fault-append : (port : AxiPortLimits) (open_bursts : OpenBursts) (beats later : List AxiBeat) → first_axi_fault port open_bursts beats ≡ None
    → first_axi_fault port open_bursts (beats ++ later) ≡ first_axi_fault port (open_after_all open_bursts beats) later
first_axi_fault-append port open_bursts [] later none = refl
first_axi_fault-append port open_bursts (beat ∷ beats) later none =
    let fine = head_unbroken port open_bursts beat beats none in
    first_axi_fault-none port open_bursts beat (beats ++ later) fine
    ∙ first_axi_fault-append port (open_after open_bursts beat) beats later (sym (first_axi_fault-none port open_bursts beat beats fine) ∙ none)

-- a burst that breaks no rule, and then other beats
pub first_axi_fault-burst : (port : AxiPortLimits) (open_bursts : OpenBursts) (burst : Burst) (later : List AxiBeat) → write_to_fill open_bursts ≡ None → burst_fault port open_bursts burst ≡ None
    → first_axi_fault port open_bursts (beats_sent burst ++ later) ≡ first_axi_fault port (open_with_burst open_bursts burst) later
first_axi_fault-burst port open_bursts burst later ready none =
    first_axi_fault-append port open_bursts (beats_sent burst) later (unbroken_burst port open_bursts burst none).0
    ∙ ap (λ after. first_axi_fault port after later) (open_after_all-burst port open_bursts burst ready none)
