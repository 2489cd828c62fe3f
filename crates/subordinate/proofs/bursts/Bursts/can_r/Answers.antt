use Rattle.std.proofs.Common.{List, ◌*◌, ◌+◌, arith, sym, ap, ◌∙◌}
use Rattle.subordinate.specs.Bursts.{is_queue_ready}
use Rattle.subordinate.specs.FreeMemory.{Pending}
use Rattle.subordinate.proofs.BurstIndex.{marked_r}
use Rattle.subordinate.proofs.bursts.Bursts.can_r.Goals as goal

pub returns : goal.returns
returns c =
    c.has_id.ensures ∙ sym (marked_r c.self.inside.answers c.args.id) ∙ c.self.invariant.0.marks (2 * c.args.id + 1) (omega (arith, c.requires))
    ∙ ap (λ (bursts : List Pending). is_queue_ready bursts (2 * c.args.id + 1)) c.self.view_is
