-- The ID that is looked for is one of those from here on.
use Rattle.std.proofs.Common.{◌≡◌}
use Rattle.std.specs.Prelude.{is_some, slice_get}
use Rattle.subordinate.specs.FreeMemory.{r_of, ids_with_r}
use Rattle.world.proofs.EnabledSteps.{passing_from}
use Rattle.world.proofs.choices.id_with_r.Given as goal

abbrev pub invariant-loop-id : goal.invariant-loop-id
invariant-loop-id l = slice_get (passing_from (λ id. is_some (r_of l.device.memory id)) l.id 16) l.left ≡ slice_get (ids_with_r l.device.memory) l.k
