-- The pages are those of what the memory contains.
use Rattle.std.proofs.Common.{ap, ◌∙◌}
use Rattle.subordinate.specs.Faults.{Faults, is_good, standing_at}
use Rattle.value_memory.proofs.MemoryGoes.{pages-faults}
use Rattle.value_board.proofs.values.is_good_at.Goals as goal

pub returns-clause-value : goal.returns-clause-value
returns-clause-value c = c.is_good.ensures ∙ ap (λ (f : Faults). is_good (standing_at f c.args.address)) (pages-faults c.args.memory.now)
