-- None waits where none is counted.
use Rattle.std.proofs.Common.{◌==◌, ap, ◌∙◌}
use Rattle.std.proofs.Common.{List, ℕ, not}
use Rattle.std.specs.List.{list_any}
use Rattle.subordinate.specs.FreeMemory.{is_waiting}
use Rattle.subordinate.specs.declared.BeatState.{BeatState}
use Rattle.subordinate.proofs.BeatStates.{none_waiting}
use Rattle.subordinate.proofs.beats.Beats.all_performed.Goals as goal

pub returns : goal.returns
returns c = ap (λ (n : ℕ). n == 0) c.self.invariant.2 ∙ none_waiting c.self.inside.states.items ∙ ap (λ (beats : List BeatState). not (list_any is_waiting beats)) c.self.view_is
