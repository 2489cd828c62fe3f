-- The page is what it is in the memory of settled bytes.
use Rattle.std.proofs.Common.{ap, sym, ◌∙◌}
use Rattle.subordinate.specs.Faults.{Faults, is_good, standing_at}
use Rattle.value_memory.specs.ValueMemory.{ValueState, pages_of}
use Rattle.value_memory.proofs.MemoryGoes.{pages-faults, state_of}
use Rattle.value_memory.proofs.memory.ValueMemory.is_good.Goals as goal

pub returns : goal.returns
returns c =
    let m : ValueState = state_of c.self.inside.table c.self.inside.settled c.self.inside.begun c.self.inside.oldest c.self.inside.crowds in
    c.is_good.ensures.value ∙ ap (λ (f : Faults). is_good (standing_at f c.args.address)) (sym (pages-faults m) ∙ ap pages_of c.self.view_is)
