-- A refused beat was told.
use Rattle.std.proofs.Common.{◌∙◌, Some, ap}
use Rattle.bridge_threads.proofs.threads.told_at_full.Goals as goal

pub returns-in-Some-clause-beat : goal.returns-in-Some-clause-beat
returns-in-Some-clause-beat c setup clients client index rule same few is = c.told.ensures.beat setup clients client index rule same few (c.in-Some.is ∙ ap (λ fault. Some fault) is)
