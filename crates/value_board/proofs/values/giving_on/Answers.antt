-- The pages are those of what the memory contains.
use Rattle.std.proofs.Common.{Bool, ap, not, sym, ◌∙◌}
use Rattle.std.specs.Prelude.{Option}
use Rattle.axi_beats.specs.Responses.{is_okay}
use Rattle.subordinate.specs.Faults.{Faults, read_response}
use Rattle.value_memory.specs.States.{contents_of}
use Rattle.value_memory.specs.declared.ByteRange.{ByteRange}
use Rattle.value_memory.proofs.MemoryGoes.{pages-faults}
use Rattle.value_board.specs.Given.{giving_of}
use Rattle.value_board.specs.Values.{giving_on}
use Rattle.value_board.proofs.values.giving_on.Goals as goal

pub returns : goal.returns
returns c =
    let m = c.args.memory.now in
    c.giving_of.ensures
    ∙ ap (λ (b : Bool). giving_of c.args.errors b c.args.failed c.args.request.now)
    (c.refuses_reads.ensures ∙ ap (λ (f : Faults). not (is_okay (read_response f c.in-Some.range.address))) (pages-faults m))
    ∙ ap (λ (gives : Option ByteRange). giving_on (contents_of m) c.args.errors gives c.args.failed c.args.request.now) (sym c.in-Some.is)
