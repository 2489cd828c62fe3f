-- A refused beat was confirmed, by a port that has kept its limits.
use Rattle.std.proofs.Common.{◌∙◌, arith}
use Rattle.std.proofs.lemmas.Bool.{false≢true}
use Rattle.std.proofs.lemmas.Grind.{common_steps}
use Rattle.std.specs.Prelude.{Ok}
use Rattle.std.proofs.lemmas.Option.{same_Some}
use Rattle.std.proofs.Common.{ap}
use Rattle.bridge_threads.proofs.threads.told.Goals as goal

pub returns-in-Ok-clause-beat : goal.returns-in-Ok-clause-beat
returns-in-Ok-clause-beat c setup clients client index rule same few is =
    c.confirmed.ensures.beat setup clients client index rule (c.loop-worker.invariant.1 ∙ same) few (c.in-Ok.is ∙ ap (λ fault. Ok fault) (same_Some _ _ is))

pub loop-worker-preserved-in_default : goal.loop-worker-preserved-in_default
loop-worker-preserved-in_default c = grind (arith, common_steps)

pub returns-in-Ok-clause-first : goal.returns-in-Ok-clause-first
returns-in-Ok-clause-first c = grind (arith, common_steps)

pub loop-worker-preserved : goal.loop-worker-preserved
loop-worker-preserved c = grind (arith, common_steps)

pub returns-in-Ok-clause-own : goal.returns-in-Ok-clause-own
returns-in-Ok-clause-own c = c.in-Ok.ensures.own

pub returns-in-Ok-clause-full : goal.returns-in-Ok-clause-full
returns-in-Ok-clause-full c is = c.confirmed.ensures.full (c.in-Ok.is ∙ ap (λ fault. Ok fault) (same_Some _ _ is))

pub returns-clause-full : goal.returns-clause-full
returns-clause-full c is = absurd (false≢true (rw is at c.loop-worker.invariant.0))

pub returns-clause-beat : goal.returns-clause-beat
returns-clause-beat c setup clients client index rule same few is = absurd (false≢true (rw is at c.loop-worker.invariant.0))
