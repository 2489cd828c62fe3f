use Rattle.std.proofs.Common.{refl}
use Rattle.std.proofs.lemmas.Bool.{ltb-true}
use Rattle.layer_tests.proofs.OpenBursts.{before_ready, none_ready}
use Rattle.layer_tests.proofs.tests.flights.is_before_ready.Goals as goal

pub returns-in_default : goal.returns-in_default
returns-in_default c = λ is. none_ready c.args.flight.now c.args.key (c.in_default.ensures.none refl)

pub returns : goal.returns
returns c =
    λ less. before_ready c.args.flight.now c.args.key c.in-Some.first c.number.result c.number-2.result c.in-Some.ensures.smallest c.number.ensures c.number-2.ensures (ltb-true c.number.result c.number-2.result less)
