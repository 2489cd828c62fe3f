-- The response is that of the memory of settled bytes.
use Rattle.std.proofs.Common.{ap, not, sym, ◌∙◌}
use Rattle.axi_beats.specs.Responses.{is_okay}
use Rattle.axi_beats.specs.declared.Resp.{Resp}
use Rattle.subordinate.specs.Faults.{Faults, read_response}
use Rattle.value_memory.specs.ValueMemory.{ValueState, pages_of}
use Rattle.value_memory.proofs.MemoryGoes.{pages-faults, state_of}
use Rattle.value_memory.proofs.memory.ValueMemory.refuses_reads.Goals as goal

pub returns : goal.returns
returns c =
    let m : ValueState = state_of c.self.inside.table c.self.inside.settled c.self.inside.begun c.self.inside.oldest c.self.inside.crowds in
    c.is_error.ensures
    ∙ ap (λ (resp : Resp). not (is_okay resp))
    (c.read_response.ensures.value ∙ ap (λ (f : Faults). read_response f c.args.address) (sym (pages-faults m) ∙ ap pages_of c.self.view_is))
